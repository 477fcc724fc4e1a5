-- The automaton of a rule accepts exactly the rule's lassos, whichever linked pairs are marked: weak rules and empty starts are included. Source
-- document 001, section 3.2. Assumes nothing.
use Prim.Native.Nat.{ℕ, zero, suc, ◌+◌, ◌-◌, ◌*◌, ◌/◌, ◌%◌, ◌≤◌, ◌<◌}
use mathlib.Core.Path.{◌≡◌, refl, sym, ap, subst, ◌∙◌}
use mathlib.Core.Bool.{◌&&◌}
use mathlib.Core.Logic.{◌⊎◌, inl, inr, ⊎_elim}
use mathlib.Core.List.{List, ◌∷◌}
use native.Mathlib.Nat.{mod-lt, div-add-mod', mul-le-mul_right}
use native.Mathlib.Omega.{arith}
use lib.ListN.{length}
use lib.Dec.{T, eqb}
use mir.Facts.{yes_eqb}
use Rattle.finite.proofs.Tests.{T_and, T_and_left, T_and_right}
use Rattle.finite.proofs.Numbers.{below_cases, le_or_lt}
use Rattle.finite.proofs.Pigeonhole.{Collision, pigeonhole}
use Rattle.theory.specs.Words.{Over, over_nil, over_cons, Lasso, endless}
use Rattle.theory.specs.Rules.{Morphism, Lawful, Pairs, Value, none, element, join, value}
use Rattle.theory.specs.Pairs.{Idempotent, Linked, LinkedOnly}
use Rattle.theory.specs.Acceptance.{Accepts}
use Rattle.theory.proofs.Words.{seg, seg_over, seg_length}
use Rattle.theory.proofs.Periods.{periodic_later, periodic_times, endless_periodic, endless_below}
use Rattle.theory.proofs.Values.{Inside, inside_none, inside_element, element_inside, element_apart, join_elements, join_assoc, value_inside, value_element, value_some, inside_of}
use Rattle.theory.proofs.Cuts.{CutAccepts, cut_accepts}
use Rattle.buchi.specs.Automata.{WordPath, path_end, path_step, FinalPath, final_here, Run, AcceptedBy}
use Rattle.buchi.specs.Rule.{AcceptsRuns}
use Rattle.buchi.specs.RuleAutomaton.{is_state, is_pair, is_none, state_number, state_rest, state_cycle, numbers_state, rule_automaton}
use Rattle.buchi.proofs.RuleStates.{none_test, PairOf, pair_test, State, state_test, test_state, number_inside, initial_at_lem, final_at_lem, transition_at_lem, Reads, leads_test, Moves, test_moves}
use Rattle.buchi.proofs.LaidRuns.{laid_accepting}
use Rattle.buchi.proofs.LassoRuns.{accepted_same}

-- ---- a writing gives a run

module _ {m : Morphism} (law : Lawful m) (P : Pairs) {e : ℕ} (i : Idempotent m e) where
  is_state_lem : {s : Value} → Inside m s → State m s e
  is_state_lem h = record { value = h; idempotent = i }

  initial_intro : {s : ℕ} → s < m.size → T (P s e) → T ((rule_automaton m P).initial (state_number m (element s) e))
  unfolding is_pair
  initial_intro {s} h t =
      subst T (sym (initial_at_lem m P (element s) i.inside)) (T_and (is_state m (element s) e) (P s e) (state_test (is_state_lem (inside_element h))) t)

  final_intro : T ((rule_automaton m P).final (state_number m none e))
  unfolding is_none
  final_intro = subst T (sym (final_at_lem m P none i.inside)) (T_and (is_state m none e) _ (state_test (is_state_lem inside_none)) tt)

  step_intro : (s t : Value) (a : ℕ) → Inside m s → Inside m t → Reads m s e a t → T ((rule_automaton m P).step (state_number m s e) a (state_number m t e))
  unfolding rule_automaton
  step_intro s t a hs ht r =
      subst T (sym (transition_at_lem m s t a i.inside))
      (T_and (is_state m s e && is_state m t e) _ (T_and (is_state m s e) _ (state_test (is_state_lem hs)) (state_test (is_state_lem ht)))
      (T_and (eqb e e) _ (yes_eqb {a = e} refl) (leads_test m s e a t r)))

  number_of : {s : Value} → Inside m s → state_number m s e < (rule_automaton m P).states
  number_of h = number_inside m (is_state_lem h) P

  -- a word is read from its value down to none: the element of its first letter times the value of the others is its value
  word_path : {w : List ℕ} → Over m.letters w → WordPath (rule_automaton m P) w (state_number m (value m w) e) (state_number m none e)
  unfolding value
  word_path over_nil = path_end (number_of inside_none)
  word_path (over_cons {a} {w} h o) =
      let whole : Inside m (value m (a ∷ w)) = value_inside law (over_cons h o) in
      path_step (number_of whole) (step_intro (value m (a ∷ w)) (value m w) a whole (value_inside law o) (inl refl)) (word_path o)

  -- a word with the value e is read from none, which is final, to none
  turn_path : {w : List ℕ} → Over m.letters w → value m w ≡ element e → FinalPath (rule_automaton m P) w (state_number m none e) (state_number m none e)
  unfolding value join
  turn_path over_nil v = absurd (element_apart (sym v))
  turn_path (over_cons {a} {w} h o) v =
      final_here final_intro (path_step (number_of inside_none) (step_intro none (value m w) a inside_none (value_inside law o) (inr v)) (word_path o))

module _ {m : Morphism} (law : Lawful m) {P : Pairs} (linked : LinkedOnly m P) where
  -- the writing's start is read from its marked pair, and each turn of its cycle between final states
  rule_run : {u v : List ℕ} → Accepts m P u v → AcceptedBy (rule_automaton m P) u v
  rule_run k =
      let hs = inside_of law k.start_over k.start_value in
      let he = inside_of law k.cycle_over k.cycle_value in
      let i = (linked.linked k.element_of_start k.cycle_element hs he k.has_mark).idempotent in
      accepted_same k.same (record {
        accepting = laid_accepting (value_some m k.cycle k.cycle_element k.cycle_value) (initial_intro law P i hs k.has_mark)
            (subst (λ (s : Value). WordPath (rule_automaton m P) k.start (state_number m s k.cycle_element) (state_number m none k.cycle_element))
            k.start_value (word_path law P i k.start_over))
            (turn_path law P i k.cycle_over k.cycle_value);
      })

-- ---- a run gives a writing

-- a sequence of states by the letters of an endless word
module _ {m : Morphism} (law : Lawful m) {α : ℕ → ℕ} (below : (j : ℕ) → α j < m.letters) {state : ℕ → ℕ} (moves : (i : ℕ) → Moves m (state i) (α i) (state (suc i))) where
  abbrev rest : ℕ → Value
  rest i = state_rest m (state i)

  abbrev e : ℕ
  e = state_cycle m (state 0)

  -- e never changes
  cycle_same : (i : ℕ) → state_cycle m (state i) ≡ e
  cycle_same zero = refl
  cycle_same (suc i) = (moves i).same_cycle ∙ cycle_same i

  reads : (i : ℕ) → Reads m (rest i) e (α i) (rest (suc i))
  reads i = subst (λ (c : ℕ). Reads m (rest i) c (α i) (rest (suc i))) (cycle_same i) (moves i).reads

  cycle_inside : Inside m (element e)
  cycle_inside = inside_element (moves 0).from.idempotent.inside

  -- s·e·e = s·e
  cycle_twice : (i : ℕ) → join m (join m (rest i) (element e)) (element e) ≡ join m (rest i) (element e)
  cycle_twice i =
      join_assoc law (moves i).from.value cycle_inside cycle_inside ∙ ap (join m (rest i)) (join_elements m e e ∙ ap element (moves 0).from.idempotent.square)

  -- the letters up to a final state have the value of what is left to read, or that times e
  before_final : (d i j : ℕ) → i + d ≡ j → rest j ≡ none → (value m (seg α i d) ≡ rest i) ⊎ (value m (seg α i d) ≡ join m (rest i) (element e))
  unfolding seg value
  before_final zero i j h f = inl (sym (ap rest (let g : i ≡ j = omega arith in g) ∙ f))
  before_final (suc d) i j h f =
      ⊎_elim (λ g. ⊎_elim (λ k. inl (ap first g ∙ k)) (λ k. inr (ap first g ∙ k)) (reads i))
      (λ g. inr (ap first g ∙ sym (join_assoc law image (moves i).to.value cycle_inside)
      ∙ ⊎_elim (λ k. ap then k) (λ k. ap then k ∙ cycle_twice i) (reads i)))
      (before_final d (suc i) j (omega arith) f)
    where
      first : Value → Value
      first = join m (element (m.image (α i)))

      then : Value → Value
      then s = join m s (element e)

      image : Inside m (element (m.image (α i)))
      image = inside_element (law.images (α i) (below i))

  -- from one final state to a later one they have the value e, since no word that is not empty has the value none
  between_finals : (i d : ℕ) → rest i ≡ none → rest (i + suc d) ≡ none → value m (seg α i (suc d)) ≡ element e
  unfolding join
  between_finals i d f g =
      let some : 0 < length (seg α i (suc d)) = rw (seg_length α i (suc d)) (omega arith) in
      ⊎_elim (λ h. absurd (element_apart (sym (value_element law (seg_over α i (suc d) below) some).is ∙ h ∙ f)))
      (λ h. h ∙ ap (λ (s : Value). join m s (element e)) f) (before_final (suc d) i (i + suc d) refl g)

-- two numbers with one remainder lie whole turns apart
record TurnsApart (a b q : ℕ) : Type 0 where
  more : ℕ
  meets : a + suc more * q ≡ b

turns_apart : (a b q : ℕ) → a < b → a % q ≡ b % q → TurnsApart a b q
turns_apart a b q l h = record { more = b / q - suc (a / q); meets = omega (arith, up, div-add-mod' a q, div-add-mod' b q) }
  where
    apart : b / q ≤ a / q → ⊥
    apart g = omega (arith, mul-le-mul_right q g, div-add-mod' a q, div-add-mod' b q)

    sum : suc (b / q - suc (a / q)) + a / q ≡ b / q
    sum = ⊎_elim (λ g. absurd (apart g)) (λ g. omega arith) (le_or_lt (b / q) (a / q))

    up : (suc (b / q - suc (a / q)) + a / q) * q ≡ b / q * q
    up = ap (λ (n : ℕ). n * q) sum

module _ {m : Morphism} (law : Lawful m) {P : Pairs} (linked : LinkedOnly m P) {u v : List ℕ} (lasso : Lasso m.letters u v) (k : AcceptedBy (rule_automaton m P) u v) where
  abbrev run : Run (rule_automaton m P) (endless u v)
  run = k.accepting.run

  abbrev rest_at : ℕ → Value
  rest_at i = state_rest m (run.state i)

  abbrev cycle_at : ℕ
  cycle_at = state_cycle m (run.state 0)

  run_moves : (i : ℕ) → Moves m (run.state i) (endless u v i) (run.state (suc i))
  unfolding rule_automaton
  run_moves i = test_moves (run.state i) (endless u v i) (run.state (suc i)) (run.steps i)

  below : (j : ℕ) → endless u v j < m.letters
  below = endless_below lasso.start_over lasso.cycle_over lasso.cycle_some

  final_rest : (q : ℕ) → T ((rule_automaton m P).final q) → state_rest m q ≡ none
  unfolding rule_automaton
  final_rest q t = none_test (state_rest m q) (T_and_right (numbers_state m q) _ t)

  -- final positions past u, each behind the one before
  position : ℕ → ℕ
  position zero = (k.accepting.again (length u)).at
  position (suc t) = (k.accepting.again (suc (position t))).at

  position_final : (t : ℕ) → rest_at (position t) ≡ none
  unfolding position
  position_final zero = final_rest (run.state (k.accepting.again (length u)).at) (k.accepting.again (length u)).ends_final
  position_final (suc t) = final_rest (run.state (k.accepting.again (suc (position t))).at) (k.accepting.again (suc (position t))).ends_final

  position_grows : (t : ℕ) → position t < position (suc t)
  unfolding position
  position_grows t = (k.accepting.again (suc (position t))).later

  position_past : (t : ℕ) → length u ≤ position t
  unfolding position
  position_past zero = (k.accepting.again (length u)).later
  position_past (suc t) = omega (arith, position_past t, position_grows t)

  position_later : (s t : ℕ) → s < t → position s < position t
  position_later s zero l = absurd (omega arith)
  position_later s (suc t) l =
      ⊎_elim (λ (h : s ≡ t). subst (λ (n : ℕ). position n < position (suc t)) (sym h) (position_grows t))
      (λ h. omega (arith, position_later s t h, position_grows t)) (below_cases l)

  -- the run begins in a marked pair
  begins : State m (rest_at 0) (cycle_at)
  unfolding rule_automaton numbers_state
  begins = test_state (rest_at 0) (cycle_at) (T_and_left (numbers_state m (run.state 0)) _ run.starts)

  pair : PairOf P (rest_at 0) (cycle_at)
  unfolding rule_automaton
  pair = pair_test (rest_at 0) (cycle_at) (T_and_right (numbers_state m (run.state 0)) _ run.starts)

  pair_linked : Linked m pair.the (cycle_at)
  pair_linked =
      linked.linked pair.the (cycle_at) (element_inside {m = m} (subst (Inside m) pair.is begins.value)) begins.idempotent.inside pair.marked

  -- the letters before a final state have the value of the pair's element, which e leaves as it is
  start_is : (j : ℕ) → rest_at j ≡ none → value m (seg (endless u v) 0 j) ≡ element pair.the
  start_is j f =
      ⊎_elim (λ h. h ∙ pair.is)
      (λ h. h ∙ ap (λ (s : Value). join m s (element (cycle_at))) pair.is ∙ join_elements m _ _ ∙ ap element pair_linked.stays)
      (before_final law below run_moves j 0 j (omega arith) f)

  -- two final positions whole turns of v apart cut the word as acceptance asks
  cut : (i t : ℕ) → length u ≤ i → rest_at i ≡ none → rest_at (i + suc t * length v) ≡ none → CutAccepts m P (endless u v)
  cut i t h f g =
      let z : 0 < suc t = omega arith in
      let long : length v ≤ suc t * length v = omega arith in
      let n : ℕ = suc t * length v - 1 in
      let e : suc n ≡ suc t * length v = omega (arith, long, lasso.cycle_some) in
      record {
        at = i;
        period = suc t * length v;
        periodic = periodic_times (periodic_later (endless_periodic u v lasso.cycle_some) i h) (suc t) z;
        element_of_start = pair.the;
        cycle_element = cycle_at;
        start_value = start_is i f;
        cycle_value = ap (λ (d : ℕ). value m (seg (endless u v) i d)) (sym e) ∙ between_finals law below run_moves i n f (ap (λ (d : ℕ). rest_at (i + d)) e ∙ g);
        has_mark = pair.marked;
      }

  -- of |v| + 1 final positions two lie whole turns apart
  run_rule : Accepts m P u v
  run_rule = cut_accepts u v lasso.cycle_some below (found (pigeonhole (length v) (λ t. position t % length v) (λ t h. mod-lt (position t) lasso.cycle_some)))
    where
      found : Collision (length v) (λ t. position t % length v) → CutAccepts m P (endless u v)
      found c =
          let d = turns_apart (position c.i) (position c.j) (length v) (position_later c.i c.j c.order) c.same in
          cut (position c.i) d.more (position_past c.i) (position_final c.i) (ap rest_at d.meets ∙ position_final c.j)

pub rule_automaton_accepts : {m : Morphism} {P : Pairs} → Lawful m → LinkedOnly m P → AcceptsRuns (rule_automaton m P) m P
rule_automaton_accepts law linked = record { accepts = λ u v l. (rule_run law linked, run_rule law linked l) }
