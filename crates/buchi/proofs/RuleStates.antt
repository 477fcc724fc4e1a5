-- The states of a rule's automaton: what its tests say of them, and that the state with a number is the one that has the number. Assumes nothing.
use Prim.Native.Nat.{ℕ, zero, suc, ◌+◌, ◌*◌, ◌/◌, ◌%◌, ◌≤◌, ◌<◌}
use mathlib.Core.Path.{◌≡◌, refl, sym, ap, ap₂, ◌∙◌}
use mathlib.Core.Bool.{◌&&◌}
use mathlib.Core.Logic.{◌⊎◌, inl, inr, ⊎_elim}
use native.Mathlib.Nat.{mod-lt, mul-le-mul_right, div-add-mod'}
use native.Mathlib.Omega.{arith}
use lib.Arith.{digits_lt, digits_div, digits_mod}
use lib.Dec.{T, ltb, eqb}
use mir.Facts.{eqb_yes, yes_eqb, ltb_yes, yes_ltb}
use Rattle.finite.proofs.Tests.{T_and, T_and_left, T_and_right, T_or_left, T_or_right, T_or_cases}
use Rattle.theory.specs.Rules.{Morphism, Pairs, Value, none, element, join}
use Rattle.theory.specs.Pairs.{Idempotent}
use Rattle.theory.proofs.Values.{Inside, inside_none, inside_element}
use Rattle.buchi.specs.RuleAutomaton.{is_value, is_state, is_pair, is_none, value_number, numbered_value, letter_then, then_cycle, leads, state_number, state_rest, state_cycle, numbers_state, transition, rule_automaton}

-- ---- values

pub value_test : {m : Morphism} {s : Value} → Inside m s → T (is_value m s)
unfolding is_value
value_test inside_none = tt
value_test (inside_element h) = yes_ltb h

pub test_value : {m : Morphism} (s : Value) → T (is_value m s) → Inside m s
unfolding is_value
test_value none t = inside_none
test_value (element s) t = inside_element (ltb_yes t)

pub value_numbered : (s : Value) → numbered_value (value_number s) ≡ s
unfolding value_number numbered_value
value_numbered none = refl
value_numbered (element s) = refl

pub numbered_number : (i : ℕ) → value_number (numbered_value i) ≡ i
unfolding value_number numbered_value
numbered_number zero = refl
numbered_number (suc s) = refl

-- values with one number are one
pub numbers_same : (s t : Value) → T (eqb (value_number s) (value_number t)) → s ≡ t
numbers_same s t h = sym (value_numbered s) ∙ ap numbered_value (eqb_yes h) ∙ value_numbered t

pub same_numbers : {s t : Value} → s ≡ t → T (eqb (value_number s) (value_number t))
same_numbers e = yes_eqb (ap value_number e)

pub none_test : (s : Value) → T (is_none s) → s ≡ none
unfolding is_none
none_test none t = refl
none_test (element s) t = absurd t

-- a pair is one of elements
pub record PairOf (P : Pairs) (s : Value) (e : ℕ) : Type 0 where
  pub the : ℕ
  pub is : s ≡ element the
  pub marked : T (P the e)

pub pair_test : {P : Pairs} (s : Value) (e : ℕ) → T (is_pair P s e) → PairOf P s e
unfolding is_pair
pair_test none e t = absurd t
pair_test (element s) e t = record { the = s; is = refl; marked = t }

-- ---- states

pub record State (m : Morphism) (s : Value) (e : ℕ) : Type 0 where
  pub value : Inside m s
  pub idempotent : Idempotent m e

pub state_test : {m : Morphism} {s : Value} {e : ℕ} → State m s e → T (is_state m s e)
unfolding is_state
state_test {m} {s} {e} h =
    let i = h.idempotent in
    T_and (is_value m s) _ (value_test h.value) (T_and (ltb e m.size) _ (yes_ltb i.inside) (yes_eqb i.square))

pub test_state : {m : Morphism} (s : Value) (e : ℕ) → T (is_state m s e) → State m s e
unfolding is_state
test_state {m} s e t =
    let r = T_and_right (is_value m s) _ t in
    record {
      value = test_value s (T_and_left (is_value m s) _ t);
      idempotent = record { inside = ltb_yes (T_and_left (ltb e m.size) _ r); square = eqb_yes (T_and_right (ltb e m.size) _ r) };
    }

-- ---- numbers of states

module _ (m : Morphism) where
  module _ (s : Value) {e : ℕ} (h : e < m.size) where
    pub number_rest : state_rest m (state_number m s e) ≡ s
    unfolding state_rest state_number
    number_rest = ap numbered_value (digits_div (value_number s) h) ∙ value_numbered s

    pub number_cycle : state_cycle m (state_number m s e) ≡ e
    unfolding state_cycle state_number
    number_cycle = digits_mod (value_number s) h

    pub number_state : numbers_state m (state_number m s e) ≡ is_state m s e
    unfolding numbers_state
    number_state = ap₂ (is_state m) number_rest number_cycle

  value_number_inside : {s : Value} → Inside m s → value_number s < suc m.size
  unfolding value_number
  value_number_inside inside_none = omega arith
  value_number_inside (inside_element h) = omega arith

  pub number_inside : {s : Value} {e : ℕ} → State m s e → (P : Pairs) → state_number m s e < (rule_automaton m P).states
  unfolding state_number rule_automaton
  number_inside h P = digits_lt (value_number_inside h.value) h.idempotent.inside

  -- a number is that of its value and its e
  pub state_number_lem : (q : ℕ) → state_number m (state_rest m q) (state_cycle m q) ≡ q
  unfolding state_number state_rest state_cycle
  state_number_lem q = ap (λ (i : ℕ). i * m.size + q % m.size) (numbered_number (q / m.size)) ∙ div-add-mod' q m.size

  -- of a number below the bound both are in range
  module _ (P : Pairs) {q : ℕ} (h : q < (rule_automaton m P).states) where
    below : q < suc m.size * m.size
    unfolding rule_automaton
    below = h

    pub cycle_inside : state_cycle m q < m.size
    unfolding state_cycle
    cycle_inside = mod-lt q (let some : m.size ≡ 0 → ⊥ = λ e. omega (arith, below, ap (λ (n : ℕ). suc m.size * n) e) in omega arith)

    pub rest_inside : Inside m (state_rest m q)
    unfolding state_rest numbered_value
    rest_inside = go (q / m.size) (let not : suc m.size ≤ q / m.size → ⊥ = λ l. omega (arith, below, mul-le-mul_right m.size l, div-add-mod' q m.size) in omega arith)
      where
        go : (i : ℕ) → i < suc m.size → Inside m (numbered_value i)
        go zero l = inside_none
        go (suc s) l = inside_element {s = s} (omega arith)

  -- what the automaton says of the state (s, e)
  module _ (P : Pairs) (s : Value) {e : ℕ} (h : e < m.size) where
    pub initial_at_lem : (rule_automaton m P).initial (state_number m s e) ≡ (is_state m s e && is_pair P s e)
    unfolding rule_automaton
    initial_at_lem = ap₂ ◌&&◌ (number_state s h) (ap₂ (is_pair P) (number_rest s h) (number_cycle s h))

    pub final_at_lem : (rule_automaton m P).final (state_number m s e) ≡ (is_state m s e && is_none s)
    unfolding rule_automaton
    final_at_lem = ap₂ ◌&&◌ (number_state s h) (ap is_none (number_rest s h))

  pub transition_at_lem : (s t : Value) (a : ℕ) {e : ℕ} → e < m.size
      → transition m (state_number m s e) a (state_number m t e) ≡ ((is_state m s e && is_state m t e) && (eqb e e && leads m s e a t))
  unfolding transition
  transition_at_lem s t a h =
      rw (number_state s h, number_state t h, number_rest s h, number_rest t h, number_cycle s h, number_cycle t h)

-- ---- transitions

-- h(a)t = s or h(a)t = se
abbrev pub Reads : Morphism → Value → ℕ → ℕ → Value → Type 0
Reads m s e a t = (join m (element (m.image a)) t ≡ s) ⊎ (join m (element (m.image a)) t ≡ join m s (element e))

pub leads_test : (m : Morphism) (s : Value) (e a : ℕ) (t : Value) → Reads m s e a t → T (leads m s e a t)
unfolding leads letter_then then_cycle
leads_test m s e a t h =
    ⊎_elim (λ k. T_or_left (eqb (value_number (letter_then m a t)) (value_number s)) _ (same_numbers k))
    (λ k. T_or_right (eqb (value_number (letter_then m a t)) (value_number s)) _ (same_numbers k)) h

pub test_leads : (m : Morphism) (s : Value) (e a : ℕ) (t : Value) → T (leads m s e a t) → Reads m s e a t
unfolding leads letter_then then_cycle
test_leads m s e a t h =
    ⊎_elim (λ k. inl (numbers_same (letter_then m a t) s k)) (λ k. inr (numbers_same (letter_then m a t) (then_cycle m s e) k))
    (T_or_cases (eqb (value_number (letter_then m a t)) (value_number s)) _ h)

-- a transition between two numbers: both are states with one e, and it reads as it should
pub record Moves (m : Morphism) (q a r : ℕ) : Type 0 where
  pub from : State m (state_rest m q) (state_cycle m q)
  pub to : State m (state_rest m r) (state_cycle m r)
  pub same_cycle : state_cycle m r ≡ state_cycle m q
  pub reads : Reads m (state_rest m q) (state_cycle m q) a (state_rest m r)

pub test_moves : {m : Morphism} (q a r : ℕ) → T (transition m q a r) → Moves m q a r
unfolding transition numbers_state
test_moves {m} q a r t =
    let both = T_and_left (numbers_state m q && numbers_state m r) _ t in
    let rest = T_and_right (numbers_state m q && numbers_state m r) _ t in
    record {
      from = test_state (state_rest m q) (state_cycle m q) (T_and_left (numbers_state m q) _ both);
      to = test_state (state_rest m r) (state_cycle m r) (T_and_right (numbers_state m q) _ both);
      same_cycle = eqb_yes (T_and_left (eqb (state_cycle m r) (state_cycle m q)) _ rest);
      reads = test_leads m (state_rest m q) (state_cycle m q) a (state_rest m r) (T_and_right (eqb (state_cycle m r) (state_cycle m q)) _ rest);
    }
