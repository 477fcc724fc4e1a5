-- Marks laid out in a table of bytes, one for each pair, while the marks of a section are gone through. Assumes nothing.
use Prim.Native.Nat.{ℕ, ◌+◌, ◌*◌, ◌≤◌, ◌<◌}
use mathlib.Core.Path.{◌≡◌, refl, sym, ap, ◌∙◌, subst}
use mathlib.Core.List.{List}
use native.Mathlib.Omega.{arith}
use native.Mathlib.Decide.{ℕ_discrete}
use lib.ListN.{length, get_or, set, length-set}
use lib.Seq.{get_or-set_same, get_or-set_other}
use Rattle.formats.specs.RuleFile.{mark_start, mark_cycle, mark_grade, grade_among}
use Rattle.formats.proofs.Grades.{is_mark_elim, is_mark_intro, grade_none, grade_this, grade_other, grade_mark, grade_some}
use Rattle.scratch.specs.Map.{mark_table_size}
use Rattle.rule_marks.specs.Faults.{MarksRoom, MarksLaid}

-- a pair's place tells the pair
pub pair_apart : (s e s' e' : ℕ) → e < 64 → e' < 64 → s * 64 + e ≡ s' * 64 + e' → (s ≡ s') × (e ≡ e')
pair_apart s e s' e' he he' p = (omega arith, omega arith)

pub pair_below : {n s e : ℕ} → n ≤ 64 → s < n → e < n → s * 64 + e < mark_table_size
pair_below h a b = omega arith

-- the i-th mark stood before
pub record Stood (bytes : List ℕ) (at i : ℕ) : Type 0 where
  pub earlier : ℕ
  pub before : earlier < i
  pub same_start : mark_start bytes at earlier ≡ mark_start bytes at i
  pub same_cycle : mark_cycle bytes at earlier ≡ mark_cycle bytes at i

module _ (bytes : List ℕ) (at : ℕ) where
  -- no mark stands among none
  pub laid_start : {count n : ℕ} {table : List ℕ} → n ≤ 64 → MarksRoom bytes at count n table → MarksLaid (grade_among bytes at 0) n table table
  laid_start small r = record {
    same_length = refl;
    mark = λ s e hs he. r.blank (s * 64 + e) (pair_below small hs he) ∙ sym (grade_none bytes at s e);
    other = λ i f. refl;
  }

  module _ {n : ℕ} (i : ℕ) {entry now : List ℕ} (small : n ≤ 64) (l : MarksLaid (grade_among bytes at i) n entry now)
      (hs : mark_start bytes at i < n) (he : mark_cycle bytes at i < n) where
    abbrev sᵢ : ℕ
    sᵢ = mark_start bytes at i

    abbrev eᵢ : ℕ
    eᵢ = mark_cycle bytes at i

    abbrev spot : ℕ
    spot = sᵢ * 64 + eᵢ

    -- the byte of a pair that stood before is not 0
    pub mark_seen : (get_or now spot 0 ≡ 0 → ⊥) → Stood bytes at i
    mark_seen f =
        let same = l.mark sᵢ eᵢ hs he in
        let k = grade_mark bytes at sᵢ eᵢ i (let z : grade_among bytes at i sᵢ eᵢ ≡ 0 → ⊥ = λ q. f (same ∙ q) in omega arith) in
        let e = is_mark_elim bytes at sᵢ eᵢ k.index k.is_of_marks in
        record { earlier = k.index; before = k.below; same_start = e.0; same_cycle = e.1 }

    -- and that of a new pair is 0, for no grade is
    pub mark_new : ((j : ℕ) → j < i → 1 ≤ mark_grade bytes at j) → get_or now spot 0 ≡ 0
        → (j : ℕ) → j < i → mark_start bytes at j ≡ mark_start bytes at i → mark_cycle bytes at j ≡ mark_cycle bytes at i → ⊥
    mark_new some z j h p q =
        omega (arith, l.mark sᵢ eᵢ hs he, grade_some bytes at sᵢ eᵢ i j some h (is_mark_intro bytes at sᵢ eᵢ j p q))

    laid_at : (s e : ℕ) → s < n → e < n → Dec (spot ≡ s * 64 + e) → spot < length now
        → get_or (set now spot (mark_grade bytes at i)) (s * 64 + e) 0 ≡ grade_among bytes at (i + 1) s e
    laid_at s e a b (yes p) h =
        let (ps, pe) = pair_apart sᵢ eᵢ s e (omega arith) (omega arith) p in
        subst (λ (x : ℕ). get_or (set now spot (mark_grade bytes at i)) x 0 ≡ mark_grade bytes at i) p (get_or-set_same now spot (mark_grade bytes at i) 0 h)
        ∙ sym (grade_this bytes at s e i (is_mark_intro bytes at s e i ps pe))
    laid_at s e a b (no f) h =
        get_or-set_other now spot (s * 64 + e) (mark_grade bytes at i) 0 (λ g. f (sym g)) ∙ l.mark s e a b
        ∙ sym (grade_other bytes at s e i (λ t. let g = is_mark_elim bytes at s e i t in f (ap (λ (x : ℕ). x * 64 + eᵢ) g.0 ∙ ap (λ (x : ℕ). s * 64 + x) g.1)))

    -- the i-th mark is laid out
    pub laid_next : spot < length now → MarksLaid (grade_among bytes at (i + 1)) n entry (set now spot (mark_grade bytes at i))
    laid_next h = record {
      same_length = length-set now spot (mark_grade bytes at i) ∙ l.same_length;
      mark = λ s e a b. laid_at s e a b (ℕ_discrete spot (s * 64 + e)) h;
      other = λ j f. get_or-set_other now spot j (mark_grade bytes at i) 0 (λ g. f sᵢ eᵢ hs he g) ∙ l.other j f;
    }
