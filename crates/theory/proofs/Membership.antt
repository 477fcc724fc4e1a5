-- Lasso membership as a test that computes: the finitely many cuts of one turn of the cycle, and at each the powers of the
-- turn's value. For marks on linked pairs it passes exactly if the lasso is accepted. Assumes nothing.
use Prim.Native.Nat.{ℕ, zero, suc, ◌+◌, ◌*◌, ◌-◌, ◌/◌, ◌%◌, ◌<◌}
use mathlib.Core.Path.{◌≡◌, sym, ap, ◌∙◌, subst}
use mathlib.Core.Bool.{Bool, false}
use mathlib.Core.Logic.{⊎_elim}
use mathlib.Core.List.{List, ◌++◌}
use native.Mathlib.Omega.{arith}
use native.Mathlib.Nat.{div-add-mod', mod-lt, zero-add}
use lib.ListN.{length, take, drop}
use lib.Dec.{T}
use Rattle.finite.proofs.Tests.{T_dec}
use Rattle.finite.specs.Search.{any_below}
use Rattle.finite.proofs.Search.{any_intro, any_elim}
use Rattle.theory.specs.Words.{Over, endless}
use Rattle.theory.specs.Rules.{Morphism, Lawful, Pairs, Value, none, element, value}
use Rattle.theory.specs.Acceptance.{Accepts}
use Rattle.theory.specs.Pairs.{LinkedOnly}
use Rattle.theory.proofs.Words.{seg, seg_length, seg_append, seg_over}
use Rattle.theory.proofs.Periods.{Periodic, periodic_later, seg_periodic_shift, seg_repeat, endless_periodic, endless_below, cut_start, cut_cycle}
use Rattle.theory.proofs.Values.{element_same, value_element, inside_of, Element}
use Rattle.theory.proofs.Powers.{times, times_add, times_power, times_inside, idempotent_of, idempotent_square, idempotent_inside, settling, settling_below}
use Rattle.theory.proofs.Conjugacy.{semigroup}
use Rattle.theory.proofs.Cuts.{TurnAccepts, accepts_cut, cut_accepts, cut_turn, turn_cut, value_then_repeat}

-- the pair (p·e·r^j, e) is in P
unfoldable pub turn_look : Morphism → Pairs → ℕ → ℕ → ℕ → ℕ → Bool
turn_look m P p r e j = P (times m.product (m.product p e) r j) e

-- one of these pairs is, e the idempotent power of r
unfoldable pub turn_test : Morphism → Pairs → ℕ → ℕ → Bool
turn_test m P p r =
    let e = idempotent_of m.size m.product r in
    any_below m.size (turn_look m P p r e)

-- the same for the values before a cut and of a turn after it
unfoldable pub cut_test : Morphism → Pairs → Value → Value → Bool
cut_test m P none y = false
cut_test m P (element p) none = false
cut_test m P (element p) (element r) = turn_test m P p r

-- the cut after u and the first j + 1 letters of v passes
unfoldable pub cut_look : Morphism → Pairs → List ℕ → List ℕ → ℕ → Bool
cut_look m P u v j = cut_test m P (value m (u ++ take (suc j) v)) (value m (drop (suc j) v ++ take (suc j) v))

-- some cut of one turn passes
unfoldable pub accepts_test : Morphism → Pairs → List ℕ → List ℕ → Bool
accepts_test m P u v = any_below (length v) (cut_look m P u v)

module _ {m : Morphism} (law : Lawful m) where
  module _ {p r : ℕ} (hp : p < m.size) (hr : r < m.size) where
    abbrev e : ℕ
    e = idempotent_of m.size m.product r

    abbrev π : ℕ
    π = suc (settling m.size m.product r)

    he : e < m.size
    he = idempotent_inside (semigroup law) hr

    -- p·e, as p followed by π factors r
    p_e : m.product p e ≡ times m.product p r π
    unfolding idempotent_of
    p_e = times_power (semigroup law) hp hr (settling m.size m.product r)

    -- p·r^t·e = p·e·r^t
    past : (t : ℕ) → m.product (times m.product p r t) e ≡ times m.product (m.product p e) r t
    unfolding idempotent_of
    past t =
        times_power (semigroup law) (times_inside (semigroup law) hp hr t) hr (settling m.size m.product r)
        ∙ times_add (semigroup law) p r t π
        ∙ ap (times m.product p r) (let g : t + π ≡ π + t = omega arith in g)
        ∙ sym (times_add (semigroup law) p r π t)
        ∙ ap (λ (x : ℕ). times m.product x r t) (sym p_e)

    -- p·e·r^π = p·e
    round : times m.product (m.product p e) r π ≡ m.product p e
    unfolding idempotent_of
    round =
        sym (times_power (semigroup law) (law.closed p e hp he) hr (settling m.size m.product r))
        ∙ law.associative p e e hp he he ∙ ap (m.product p) (idempotent_square (semigroup law) hr)

    rounds : (c d : ℕ) → times m.product (m.product p e) r (c * π + d) ≡ times m.product (m.product p e) r d
    rounds zero d = ap (times m.product (m.product p e) r) (let g : 0 * π + d ≡ d = omega arith in g)
    rounds (suc c) d =
        ap (times m.product (m.product p e) r) (let g : suc c * π + d ≡ π + (c * π + d) = omega arith in g)
        ∙ sym (times_add (semigroup law) (m.product p e) r π (c * π + d))
        ∙ ap (λ (x : ℕ). times m.product x r (c * π + d)) round ∙ rounds c d

    -- p·e·r^t comes again modulo the exponent of e
    pub past_mod : (t : ℕ) → times m.product (m.product p e) r t ≡ times m.product (m.product p e) r (t % π)
    past_mod t = ap (times m.product (m.product p e) r) (sym (div-add-mod' t π)) ∙ rounds (t / π) (t % π)

    -- a linked pair of P after any number of turns is found among the first n
    pub turn_test_intro : {P : Pairs} → LinkedOnly m P → (t : ℕ) → T (P (times m.product p r t) e) → T (turn_test m P p r)
    unfolding turn_test turn_look
    turn_test_intro {P} linked t h =
        any_intro m.size (turn_look m P p r e) (t % π)
        (omega (arith, mod-lt t (let z : 0 < π = omega arith in z), settling_below (semigroup law) hr))
        (subst (λ (x : ℕ). T (P x e)) (sym (linked.linked (times m.product p r t) e (times_inside (semigroup law) hp hr t) he h).stays ∙ past t ∙ past_mod t) h)

    -- and what is found there stands after some number of turns
    pub turn_test_elim : (P : Pairs) → T (turn_test m P p r) → (t : ℕ) × T (P (times m.product p r t) e)
    unfolding turn_test turn_look
    turn_test_elim P h =
        let f = any_elim m.size (turn_look m P p r e) h in (
          π + f.at,
          subst (λ (x : ℕ). T (P x e))
              (ap (λ (x : ℕ). times m.product x r f.at) p_e ∙ times_add (semigroup law) p r π f.at)
              f.holds,
        )

  module _ {α : ℕ → ℕ} (below : (j : ℕ) → α j < m.letters) {i q : ℕ} (turns : Periodic α i q) {p r : ℕ}
      (start : value m (seg α 0 i) ≡ element p) (turn : value m (seg α i q) ≡ element r) where
    over : (j n : ℕ) → Over m.letters (seg α j n)
    over j n = seg_over α j n below

    -- after t more turns the value before the cut has t more factors
    pub start_later : (t : ℕ) → value m (seg α 0 (i + t * q)) ≡ element (times m.product p r t)
    start_later t =
        ap (value m) (seg_append α 0 i (t * q) ∙ ap (λ (j : ℕ). seg α 0 i ++ seg α j (t * q)) (zero-add i)
        ∙ ap (λ (w : List ℕ). seg α 0 i ++ w) (seg_repeat turns t))
        ∙ value_then_repeat law (over 0 i) (over i q) start turn (inside_of law (over 0 i) start) (inside_of law (over i q) turn) t

    -- and the turn's value is the same
    pub turn_later : (t : ℕ) → value m (seg α (i + t * q) q) ≡ element r
    turn_later t = ap (value m) (seg_periodic_shift turns t q) ∙ turn

-- a position past the start is one of a turn's cuts, some turns later
pub record TurnedPosition (from q at : ℕ) : Type 0 where
  pub cut : ℕ
  pub turns : ℕ
  pub short : cut < q
  pub meets : from + suc cut + turns * q ≡ at

pub turned_position : (from q at : ℕ) → 0 < q → from < at → TurnedPosition from q at
turned_position from q at h l =
    let d : (at - suc from) / q * q + (at - suc from) % q ≡ at - suc from = div-add-mod' (at - suc from) q in
    record { cut = (at - suc from) % q; turns = (at - suc from) / q; short = mod-lt (at - suc from) h; meets = omega arith }

-- where both values are elements, the test of a cut is the test of the turn
pub cut_test_is : (m : Morphism) (P : Pairs) {x y : Value} {p r : ℕ} → x ≡ element p → y ≡ element r → cut_test m P x y ≡ turn_test m P p r
unfolding cut_test
cut_test_is m P ex ey = rw (ex, ey)

module _ {m : Morphism} (law : Lawful m) {P : Pairs} (linked : LinkedOnly m P) {u v : List ℕ} (ou : Over m.letters u) (ov : Over m.letters v)
    (some : 0 < length v) where
  α_below : (j : ℕ) → endless u v j < m.letters
  α_below = endless_below ou ov some

  α_turns : Periodic (endless u v) (length u) (length v)
  α_turns = endless_periodic u v some

  module _ (j : ℕ) (short : j < length v) where
    abbrev before : List ℕ
    before = u ++ take (suc j) v

    abbrev turn : List ℕ
    turn = drop (suc j) v ++ take (suc j) v

    before_is : seg (endless u v) 0 (length u + suc j) ≡ before
    before_is = cut_start u v (suc j) some short

    turn_is : seg (endless u v) (length u + suc j) (length v) ≡ turn
    turn_is = cut_cycle u v (suc j) some short

    element_of_start : Element m (value m (seg (endless u v) 0 (length u + suc j)))
    element_of_start =
        value_element law (seg_over (endless u v) 0 (length u + suc j) α_below)
        (rw (seg_length (endless u v) 0 (length u + suc j)) (omega arith))

    turn_element : Element m (value m (seg (endless u v) (length u + suc j) (length v)))
    turn_element =
        value_element law (seg_over (endless u v) (length u + suc j) (length v) α_below)
        (rw (seg_length (endless u v) (length u + suc j) (length v)) some)

    test_is : cut_test m P (value m before) (value m turn) ≡ turn_test m P element_of_start.the turn_element.the
    test_is =
        cut_test_is m P (ap (value m) (sym before_is) ∙ element_of_start.is) (ap (value m) (sym turn_is) ∙ turn_element.is)

    turns_here : Periodic (endless u v) (length u + suc j) (length v)
    turns_here = periodic_later α_turns (length u + suc j) (omega arith)

    -- a marked cut some turns later is found by the test
    cut_found : (t : TurnAccepts m P (endless u v) (length u) (length v)) (c : ℕ) → length u + suc j + c * length v ≡ t.at
        → T (cut_test m P (value m before) (value m turn))
    cut_found t c e =
        rw test_is
        (turn_test_intro law element_of_start.inside turn_element.inside linked c
        (rw (
          element_same
              (sym (start_later law α_below turns_here element_of_start.is turn_element.is c)
              ∙ ap (λ (i : ℕ). value m (seg (endless u v) 0 i)) e ∙ t.start_value),
          element_same
              (sym (turn_later law α_below turns_here element_of_start.is turn_element.is c)
              ∙ ap (λ (i : ℕ). value m (seg (endless u v) i (length v))) e ∙ t.turn_value_lem),
        ) t.has_mark))

    -- what the test finds is a marked cut some turns later
    found_cut : T (cut_test m P (value m before) (value m turn)) → TurnAccepts m P (endless u v) (length u) (length v)
    found_cut h =
        let (c, g) = turn_test_elim law element_of_start.inside turn_element.inside P (rw test_is at h) in
        record {
          at = length u + suc j + c * length v;
          later = omega arith;
          element_of_start = times m.product element_of_start.the turn_element.the c;
          turn_element = turn_element.the;
          start_value = start_later law α_below turns_here element_of_start.is turn_element.is c;
          turn_value_lem = turn_later law α_below turns_here element_of_start.is turn_element.is c;
          has_mark = g;
        }

  -- an accepted lasso passes the test
  pub accepts_test_intro : Accepts m P u v → T (accepts_test m P u v)
  unfolding accepts_test cut_look
  accepts_test_intro a =
      let t = cut_turn law linked α_below α_turns (accepts_cut a) in
      let k = turned_position (length u) (length v) t.at some t.later in
      any_intro (length v) (cut_look m P u v) k.cut k.short
      (cut_found k.cut k.short t k.turns k.meets)

  -- a lasso that passes is accepted
  pub accepts_test_elim : T (accepts_test m P u v) → Accepts m P u v
  unfolding accepts_test cut_look
  accepts_test_elim h =
      let f = any_elim (length v) (cut_look m P u v) h in
      cut_accepts u v some α_below (turn_cut law linked α_below α_turns (found_cut f.at f.below f.holds))

  -- acceptance is decided
  pub accepts_dec : Dec (Accepts m P u v)
  accepts_dec =
      ⊎_elim (λ t. yes (accepts_test_elim t)) (λ f. no (λ a. f (accepts_test_intro a))) (T_dec (accepts_test m P u v))
