-- Acceptance by cuts of the endless word. A lasso is accepted exactly if, at some position past its start, the value of
-- what stands before and the idempotent power of the value of one turn are a marked pair. Assumes nothing.
use Prim.Native.Nat.{ℕ, zero, suc, pred, ◌+◌, ◌*◌, ◌<◌}
use mathlib.Core.Path.{◌≡◌, sym, ap, ◌∙◌, subst}
use mathlib.Core.List.{List, ◌++◌}
use native.Mathlib.Omega.{arith}
use native.Mathlib.Nat.{le-mul_of_pos_right, zero-add}
use lib.ListN.{length}
use lib.Dec.{T}
use Rattle.theory.specs.Words.{Over, over_nil, endless}
use Rattle.theory.specs.Rules.{Morphism, Lawful, Pairs, Value, element, join, value}
use Rattle.theory.specs.Acceptance.{Accepts}
use Rattle.theory.specs.Pairs.{LinkedOnly, Linked}
use Rattle.theory.proofs.Words.{over_append, seg, seg_length, seg_append, seg_same_all, seg_over, repeat, repeat_over}
use Rattle.theory.proofs.Periods.{Periodic, periodic_later, periodic_times, periodic_same, seg_periodic_shift, seg_repeat, common_period, endless_periodic, endless_start, endless_cycle, periodic_lasso}
use Rattle.theory.proofs.Values.{element_same, join_none, join_elements, value_append, value_element, value_some, Element, inside_of}
use Rattle.theory.proofs.Powers.{times, times_power, times_stays, idempotent_of, idempotent_is, settling}
use Rattle.theory.proofs.Conjugacy.{semigroup}

-- the endless word has a period after a cut, and the values before the cut and of the period are a pair of P
pub record CutAccepts (m : Morphism) (P : Pairs) (α : ℕ → ℕ) : Type 0 where
  pub at : ℕ
  pub period : ℕ
  pub periodic : Periodic α at period
  pub element_of_start : ℕ
  pub cycle_element : ℕ
  pub start_value : value m (seg α 0 at) ≡ element element_of_start
  pub cycle_value : value m (seg α at period) ≡ element cycle_element
  pub has_mark : T (P element_of_start cycle_element)

-- a writing of the endless word is a cut of it
pub accepts_cut : {m : Morphism} {P : Pairs} {u v : List ℕ} → Accepts m P u v → CutAccepts m P (endless u v)
accepts_cut {m} {P} {u} {v} a = record {
  at = length a.start;
  period = length a.cycle;
  periodic = periodic_same (endless_periodic a.start a.cycle some) back;
  element_of_start = a.element_of_start;
  cycle_element = a.cycle_element;
  start_value =
      ap (value m) (seg_same_all (endless u v) (endless a.start a.cycle) 0 (length a.start) back ∙ endless_start a.start a.cycle)
      ∙ a.start_value;
  cycle_value =
      ap (value m) (seg_same_all (endless u v) (endless a.start a.cycle) (length a.start) (length a.cycle) back ∙ endless_cycle a.start a.cycle some)
      ∙ a.cycle_value;
  has_mark = a.has_mark;
}
  where
    some : 0 < length a.cycle
    some = value_some m a.cycle a.cycle_element a.cycle_value

    back : (j : ℕ) → endless u v j ≡ endless a.start a.cycle j
    back j = sym (a.same j)

-- and a cut is a writing
pub cut_accepts : {m : Morphism} {P : Pairs} (u v : List ℕ) → 0 < length v → ((j : ℕ) → endless u v j < m.letters) → CutAccepts m P (endless u v) → Accepts m P u v
cut_accepts {m} u v some below c = record {
  cycle_some = some;
  start = seg (endless u v) 0 c.at;
  cycle = seg (endless u v) c.at c.period;
  start_over = seg_over (endless u v) 0 c.at below;
  cycle_over = seg_over (endless u v) c.at c.period below;
  same = periodic_lasso c.periodic;
  element_of_start = c.element_of_start;
  cycle_element = c.cycle_element;
  start_value = c.start_value;
  cycle_value = c.cycle_value;
  has_mark = c.has_mark;
}

-- past the position `from` stands a cut where the value before it and the idempotent power of a turn of q letters are in P
pub record TurnAccepts (m : Morphism) (P : Pairs) (α : ℕ → ℕ) (from q : ℕ) : Type 0 where
  pub at : ℕ
  pub later : from < at
  pub element_of_start : ℕ
  pub turn_element : ℕ
  pub start_value : value m (seg α 0 at) ≡ element element_of_start
  pub turn_value_lem : value m (seg α at q) ≡ element turn_element
  pub has_mark : T (P element_of_start (idempotent_of m.size m.product turn_element))

module _ {m : Morphism} (law : Lawful m) where
  -- the value of x followed by c copies of w
  pub value_then_repeat : {x w : List ℕ} {s r : ℕ} → Over m.letters x → Over m.letters w → value m x ≡ element s → value m w ≡ element r
      → s < m.size → r < m.size → (c : ℕ) → value m (x ++ repeat c w) ≡ element (times m.product s r c)
  unfolding repeat times value
  value_then_repeat {x} {w} {s} {r} ox ow ex ew hs hr zero = value_append law ox over_nil ∙ join_none m (value m x) ∙ ex
  value_then_repeat {x} {w} {s} {r} ox ow ex ew hs hr (suc c) =
      value_append law ox (over_append ow (repeat_over c ow))
      ∙ ap (λ (y : Value). join m y (value m (w ++ repeat c w))) ex
      ∙ ap (join m (element s)) (value_then_repeat ow ow ew ew hr hr c)
      ∙ join_elements m s (times m.product r r c)
      ∙ ap element (times_power (semigroup law) hs hr c)

  -- the value of c copies of w, c above 0
  pub value_repeat : {w : List ℕ} {r : ℕ} → Over m.letters w → value m w ≡ element r → r < m.size → (c : ℕ)
      → value m (repeat (suc c) w) ≡ element (times m.product r r c)
  unfolding repeat
  value_repeat ow ew hr c = value_then_repeat ow ow ew ew hr hr c

  module _ {P : Pairs} (linked : LinkedOnly m P) {α : ℕ → ℕ} (below : (j : ℕ) → α j < m.letters) {from q : ℕ} (turns : Periodic α from q) where
    module _ (c : CutAccepts m P α) where
      abbrev at : ℕ
      at = c.at + suc from * c.period

      past : from < at
      past = omega (arith, le-mul_of_pos_right (suc from) c.periodic.some)

      over : (i n : ℕ) → Over m.letters (seg α i n)
      over i n = seg_over α i n below

      pair : Linked m c.element_of_start c.cycle_element
      pair =
          linked.linked c.element_of_start c.cycle_element (inside_of law (over 0 c.at) c.start_value)
          (inside_of law (over c.at c.period) c.cycle_value) c.has_mark

      -- moved on by whole periods, the cut still has the value s before it
      start : value m (seg α 0 at) ≡ element c.element_of_start
      start =
          ap (value m) (seg_append α 0 c.at (suc from * c.period)
          ∙ ap (λ (j : ℕ). seg α 0 c.at ++ seg α j (suc from * c.period)) (zero-add c.at)
          ∙ ap (λ (w : List ℕ). seg α 0 c.at ++ w) (seg_repeat c.periodic (suc from)))
          ∙ value_then_repeat (over 0 c.at) (over c.at c.period) c.start_value c.cycle_value pair.inside pair.idempotent.inside (suc from)
          ∙ ap element (times_stays (semigroup law) pair.stays (suc from))

      -- and the value e of the period after it
      period_value : value m (seg α at c.period) ≡ element c.cycle_element
      period_value = ap (value m) (seg_periodic_shift c.periodic (suc from) c.period) ∙ c.cycle_value

      -- e is a power of the value of one turn there
      turn_power : {r : ℕ} → r < m.size → value m (seg α at q) ≡ element r → (p' q' : ℕ) → c.period ≡ suc p' → q ≡ suc q'
          → times m.product r r p' ≡ c.cycle_element
      turn_power {r} hr er p' q' ep eq =
          element_same
          (sym (value_repeat (over at q) er hr p')
          ∙ ap (λ (n : ℕ). value m (repeat n (seg α at q))) (sym ep)
          ∙ ap (value m) (sym (common_period (periodic_later c.periodic at (omega arith)) (periodic_later turns at (omega (arith, past)))))
          ∙ ap (λ (n : ℕ). value m (repeat n (seg α at c.period))) eq
          ∙ value_repeat (over at c.period) period_value pair.idempotent.inside q'
          ∙ ap element (times_stays (semigroup law) pair.idempotent.square q'))

      turn_marked : {r : ℕ} → r < m.size → value m (seg α at q) ≡ element r
          → T (P c.element_of_start (idempotent_of m.size m.product r))
      turn_marked {r} hr er =
          let e = turn_power hr er (pred c.period) (pred q) (let z = c.periodic.some in omega arith) (let z = turns.some in omega arith) in
          subst (λ (x : ℕ). T (P c.element_of_start x))
          (sym e ∙ idempotent_is (semigroup law) hr (pred c.period) (rw e pair.idempotent.square))
          c.has_mark

      turn_at : Element m (value m (seg α at q)) → TurnAccepts m P α from q
      turn_at r = record {
        at = at;
        later = past;
        element_of_start = c.element_of_start;
        turn_element = r.the;
        start_value = start;
        turn_value_lem = r.is;
        has_mark = turn_marked r.inside r.is;
      }

    -- a marked cut, moved past `from` by whole periods of its own
    pub cut_turn : CutAccepts m P α → TurnAccepts m P α from q
    cut_turn c =
        turn_at c (value_element law (over c (at c) q) (subst (λ (n : ℕ). 0 < n) (sym (seg_length α (at c) q)) turns.some))

    -- the turns that make the idempotent power are a period
    pub turn_cut : TurnAccepts m P α from q → CutAccepts m P α
    unfolding idempotent_of
    turn_cut t = record {
      at = t.at;
      period = suc (settling m.size m.product t.turn_element) * q;
      periodic = periodic_times here (suc (settling m.size m.product t.turn_element)) (omega arith);
      element_of_start = t.element_of_start;
      cycle_element = idempotent_of m.size m.product t.turn_element;
      start_value = t.start_value;
      cycle_value =
          ap (value m) (seg_repeat here (suc (settling m.size m.product t.turn_element)))
          ∙ value_repeat (seg_over α t.at q below) t.turn_value_lem (inside_of law (seg_over α t.at q below) t.turn_value_lem) (settling m.size m.product t.turn_element);
      has_mark = t.has_mark;
    }
      where
        here : Periodic α t.at q
        here = periodic_later turns t.at (omega arith)
