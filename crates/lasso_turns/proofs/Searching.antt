-- The highest mark at the cuts of a turn: the invariant of both loops over them, and what it gives where a loop ends. Assumes nothing.
use Prim.Native.Nat.{ℕ, ◌+◌, ◌≤◌, ◌<◌}
use mathlib.Core.Path.{◌≡◌, refl, sym, ◌∙◌, subst}
use mathlib.Core.Bool.{Bool}
use mathlib.Core.Logic.{inl, inr, ⊎_elim}
use mathlib.Core.List.{List}
use native.Mathlib.Omega.{arith}
use lib.ListN.{get_or}
use lib.Dec.{T}
use Rattle.finite.specs.Search.{any_below}
use Rattle.finite.proofs.Numbers.{le_or_lt}
use Rattle.finite.proofs.Search.{any_intro, any_elim}
use Rattle.theory.specs.Rules.{Morphism, Marking, Lawful, level}
use Rattle.theory.proofs.Gradings.{level_down}
use Rattle.theory.proofs.Powers.{times_inside, idempotent_of, idempotent_inside}
use Rattle.theory.proofs.Conjugacy.{semigroup}
use Rattle.theory.proofs.Membership.{turn_look, turn_test}
use Rattle.scratch.specs.Map.{beginnings_base, ends_base, marks_from}
use Rattle.formats.proofs.Tables.{Table}
use Rattle.formats.specs.Table.{product_at, morphism_at}
use Rattle.rule_table.proofs.Facts.{product_below}
use Rattle.lasso_powers.specs.Raising.{Raised}
use Rattle.lasso_powers.proofs.Raises.{raised_next}
use Rattle.lasso_turns.specs.Cuts.{CutValues, turn_value, cut_at, some_cut, CutHere, UnmarkedBefore, MarksUpTo}
use Rattle.lasso_turns.proofs.Raises.{raised_none, none_raised}
use Rattle.lasso_turns.proofs.Cutting.{turn_value_inner, turn_value_last}

-- the look at the cut after j + 1 letters, for a grade
unfoldable pub cut_for : List ℕ → ℕ → ℕ → List ℕ → ℕ → ℕ → ℕ → ℕ → Bool
cut_for bytes n k scratch s len g j = cut_at (morphism_at bytes n k) (level g (marks_from scratch 0)) s scratch len j

-- high is the highest mark at the cuts before the one after j + 1 letters
pub record CutLooked (bytes : List ℕ) (n k : ℕ) (scratch : List ℕ) (s len high j : ℕ) : Type 0 where
  pub table : Table bytes n k
  pub law : Lawful (morphism_at bytes n k)
  pub values : CutValues scratch n len
  pub inside : s < n
  pub raised : Raised (λ g. any_below j (cut_for bytes n k scratch s len g)) 0 high
  pub within : j ≤ len

-- the value of the end behind a cut is an element
pub end_behind : {scratch : List ℕ} {n len : ℕ} → CutValues scratch n len → (j : ℕ) → j + 1 < len → get_or scratch (ends_base + j + 1) 0 < n
end_behind {scratch} {n} v j h =
    subst (λ (i : ℕ). get_or scratch i 0 < n) (let z : ends_base + (j + 1) ≡ ends_base + j + 1 = omega arith in z) (v.end_inside (j + 1) h)

-- the turn's value at a cut is an element
turn_inside : {bytes : List ℕ} {n k : ℕ} {scratch : List ℕ} {len : ℕ} → Table bytes n k → CutValues scratch n len → (i : ℕ) → i < len → turn_value (morphism_at bytes n k) scratch len i < n
turn_inside {bytes} {n} {k} {scratch} {len} t v i h =
    ⊎_elim (λ (last : len ≤ i + 1). subst (λ (x : ℕ). x < n) (sym (turn_value_last (morphism_at bytes n k) scratch len i last)) (v.beginning_inside i h))
    (λ inner.
    subst (λ (x : ℕ). x < n) (sym (turn_value_inner (morphism_at bytes n k) scratch len i inner))
    (product_below t (end_behind v i inner) (v.beginning_inside i h) refl)) (le_or_lt len (i + 1))

-- no cut is before the first
pub unmarked_start : (m : Morphism) (marks : Marking) (s : ℕ) (bytes : List ℕ) (len : ℕ) → UnmarkedBefore m marks s bytes len 0
unmarked_start m marks s bytes len = record { within = omega arith; unmarked = λ g i some h. absurd (omega arith) }

module _ {bytes : List ℕ} {n k : ℕ} {scratch : List ℕ} {s len : ℕ} where
  -- p is the value before the cut after j + 1 letters
  module _ {j p r : ℕ} (t : Table bytes n k) (v : CutValues scratch n len) (hs : s < n) (h : j < len) (ep : p ≡ product_at bytes n s (get_or scratch (beginnings_base + j) 0)) where
    cut_here : r ≡ turn_value (morphism_at bytes n k) scratch len j → CutHere (morphism_at bytes n k) s scratch len j p r
    cut_here er = record {
      before_inside = product_below t hs (v.beginning_inside j h) ep;
      turn_inside = rw er (turn_inside t v j h);
      is_before = ep;
      is_turn = er;
    }

    -- the values at a cut that letters follow
    pub cut_inner : j + 1 < len → r ≡ product_at bytes n (get_or scratch (ends_base + j + 1) 0) (get_or scratch (beginnings_base + j) 0)
        → CutHere (morphism_at bytes n k) s scratch len j p r
    cut_inner inner e = cut_here (e ∙ sym (turn_value_inner (morphism_at bytes n k) scratch len j inner))

    -- the values at the last cut
    pub cut_last : len ≤ j + 1 → r ≡ get_or scratch (beginnings_base + j) 0 → CutHere (morphism_at bytes n k) s scratch len j p r
    cut_last last e = cut_here (e ∙ sym (turn_value_last (morphism_at bytes n k) scratch len j last))

  -- no cut before the first shows a mark
  pub cut_start : {first : ℕ} → Table bytes n k → Lawful (morphism_at bytes n k) → CutValues scratch n len → s < n
      → UnmarkedBefore (morphism_at bytes n k) (marks_from scratch 0) s scratch len first → CutLooked bytes n k scratch s len 0 first
  unfolding cut_for
  cut_start {first} t law values h none = record {
    table = t;
    law = law;
    values = values;
    inside = h;
    raised = raised_none (cut_for bytes n k scratch s len) first none.unmarked;
    within = none.within;
  }

  -- none of those that were looked at shows a mark
  pub cut_unmarked : {j : ℕ} → CutLooked bytes n k scratch s len 0 j → UnmarkedBefore (morphism_at bytes n k) (marks_from scratch 0) s scratch len j
  unfolding cut_for
  cut_unmarked l = record { within = l.within; unmarked = none_raised (cut_for bytes n k scratch s len) l.raised }

  -- all cuts were looked at, and none shows a mark
  pub all_unmarked : {j : ℕ} → CutLooked bytes n k scratch s len 0 j → len ≤ j → UnmarkedBefore (morphism_at bytes n k) (marks_from scratch 0) s scratch len len
  all_unmarked {j} l h = subst (UnmarkedBefore (morphism_at bytes n k) (marks_from scratch 0) s scratch len) (let z : j ≡ len = omega (arith, l.within) in z) (cut_unmarked l)

  -- the cut after j + 1 letters was looked at, with its values
  pub cut_next : {high high' j p r : ℕ} → CutLooked bytes n k scratch s len high j → j < len → CutHere (morphism_at bytes n k) s scratch len j p r
      → Raised (λ g. turn_test (morphism_at bytes n k) (level g (marks_from scratch 0)) p r) high high' → CutLooked bytes n k scratch s len high' (j + 1)
  unfolding cut_for cut_at
  cut_next l h here raised = record {
    table = l.table;
    law = l.law;
    values = l.values;
    inside = l.inside;
    raised = raised_next (cut_for bytes n k scratch s len) l.raised raised (λ g. cc (here.is_before, here.is_turn));
    within = omega (arith, h);
  }

  -- all cuts were looked at
  pub cut_ends : {high j : ℕ} → CutLooked bytes n k scratch s len high j → len ≤ j
      → Raised (λ g. some_cut (morphism_at bytes n k) (level g (marks_from scratch 0)) s scratch len) 0 high
  unfolding some_cut cut_for
  cut_ends {high} {j} l h = subst (λ (i : ℕ). Raised (λ g. any_below i (cut_for bytes n k scratch s len g)) 0 high) (let z : j ≡ len = omega (arith, l.within) in z) l.raised

  module _ {top high j : ℕ} (l : CutLooked bytes n k scratch s len high j) (up_to_lem : MarksUpTo n (marks_from scratch 0) top) where
    -- a cut that passes at a grade shows a mark of that grade or more
    passing_small : (g i : ℕ) → i < len → T (cut_for bytes n k scratch s len g i) → g ≤ top
    unfolding cut_for cut_at turn_test turn_look
    passing_small g i h t =
        let m = morphism_at bytes n k in
        let hp = product_below l.table l.inside (l.values.beginning_inside i h) refl in
        let hr = turn_inside l.table l.values i h in
        let f = any_elim n (turn_look m (level g (marks_from scratch 0)) (m.product s (get_or scratch (beginnings_base + i) 0)) (turn_value m scratch len i) (idempotent_of n m.product (turn_value m scratch len i))) t in
        let he = idempotent_inside (semigroup l.law) hr in
        omega (arith, level_down (marks_from scratch 0) g _ _ f.holds, up_to_lem.small _ _ (times_inside (semigroup l.law) (l.law.closed _ _ hp he) hr f.at) he)

    -- the highest mark of all was found
    pub cut_top : top ≤ high → Raised (λ g. some_cut (morphism_at bytes n k) (level g (marks_from scratch 0)) s scratch len) 0 high
    unfolding some_cut cut_for
    cut_top enough = record {
      least = λ g some. (
        λ x. ⊎_elim (λ (i : g ≤ 0). inl i) (λ t. let f = any_elim j (cut_for bytes n k scratch s len g) t in inr (any_intro len (cut_for bytes n k scratch s len g) f.at (omega (arith, l.within, f.below)) f.holds)) ((l.raised.least g some).0 x),
        λ y. ⊎_elim (λ (i : g ≤ 0). let z : g ≤ high = omega arith in z) (λ t. let f = any_elim len (cut_for bytes n k scratch s len g) t in omega (arith, enough, passing_small g f.at f.below f.holds)) y,
      );
    }
