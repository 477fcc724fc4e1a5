-- What the passes over the second table leave: one pair of factors after the other, and the closure once all were tried.
-- Assumes nothing.
use Prim.Native.Nat.{ℕ, ◌+◌, ◌*◌, ◌≤◌, ◌<◌}
use mathlib.Core.Path.{◌≡◌, sym, ◌∙◌, subst}
use mathlib.Core.List.{List}
use native.Mathlib.Omega.{arith}
use native.Mathlib.Nat.{le_trans}
use lib.ListN.{length}
use lib.Dec.{T}
use Rattle.finite.proofs.Numbers.{row_more}
use Rattle.theory.specs.Rules.{Morphism, Lawful, Marking, level}
use Rattle.theory.proofs.BestConjugates.{Attained, of_conjugate, of_none, BestSoFar, best_none, best_all, so_far_same}
use Rattle.theory.proofs.Closure.{closure_test, closure_intro, closure_elim}
use Rattle.theory.proofs.Gradings.{level_up, level_down, level_linked}
use Rattle.theory.proofs.ClosureGrades.{closure_grade, closure_grade_is}
use Rattle.scratch.specs.Map.{marks_from}
use Rattle.scratch.proofs.Markings.{front_mark}
use Rattle.mark_closure.specs.Closure.{ClosureRoom, ClosureLaid}
use Rattle.mark_closure.specs.Closing.{place, highest_mark, first_table, second_table, Kept, ClosedSoFar, ClosureAdvanced}
use Rattle.mark_closure.proofs.Tables.{kept_both, kept_before, kept_after, kept_first}

-- before any factors the second table is empty
pub closed_none : {m : Morphism} {bytes : List ℕ} → m.size ≤ 64 → ClosureRoom m bytes → ClosedSoFar m 0 bytes
closed_none small r = record {
  room = r.room;
  marks = record { cells = λ s e hs he. best_none (of_none (r.blank (place s e) (omega arith) (omega arith))) };
}

-- more factors were tried, and the second table has what they say by the first table as it was
pub advanced_by : {m : Morphism} {count : ℕ} {entry exit : List ℕ} → m.size ≤ 64 → Lawful m → 8192 ≤ length entry → Kept m.size entry exit
    → BestSoFar m highest_mark (first_table entry) count (second_table exit) → ClosureAdvanced m count entry exit
advanced_by small law room k b = record {
  so_far = record {
    room = omega (arith, k.same_length);
    marks = so_far_same law (λ s e hs he. sym (kept_first small k s e hs he)) b;
  };
  kept = k;
}

-- passes in a row
pub advanced_both : {m : Morphism} {a b : ℕ} {entry now next : List ℕ} → ClosureAdvanced m a entry now → ClosureAdvanced m b now next → ClosureAdvanced m b entry next
advanced_both p q = record { so_far = q.so_far; kept = kept_both p.kept q.kept }

pub advanced_row : {m : Morphism} (x : ℕ) {entry now next : List ℕ} → ClosureAdvanced m (x * m.size) entry now → ClosureAdvanced m (x * m.size + m.size) now next
    → ClosureAdvanced m ((x + 1) * m.size) entry next
advanced_row {m} x {entry} {now} {next} a b = subst (λ (count : ℕ). ClosureAdvanced m count entry next) (sym (row_more x m.size)) (advanced_both a b)

-- all factors were tried: the second table has the closure
module _ {m : Morphism} {entry exit : List ℕ} (small : m.size ≤ 64) (law : Lawful m) (r : ClosureRoom m entry) (a : ClosureAdvanced m (m.size * m.size) entry exit) where
  abbrev marks : Marking
  marks = marks_from entry 0

  best : BestSoFar m highest_mark (marks_from entry 0) (m.size * m.size) (second_table exit)
  best = so_far_same law (λ s e hs he. kept_first small a.kept s e hs he ∙ front_mark entry s e) a.so_far.marks

  module _ {s e byte : ℕ} where
    attained_small : Attained m highest_mark marks s e byte → byte ≤ 3
    attained_small (of_conjugate {t} {f} c q) = omega (arith, r.graded.small t f c.right_linked.inside c.right_linked.idempotent.inside)
    attained_small (of_none z) = omega arith

    -- a grade that the byte has is one of a conjugate
    attained_closed : (g : ℕ) → 1 ≤ g → Attained m highest_mark marks s e byte → g ≤ byte → T (closure_test m (level g marks) s e)
    attained_closed g some (of_conjugate {t} {f} c q) h =
        closure_intro (record { to_start = t; to_cycle = f; conjugate = c; has_mark = level_up marks g t f (subst (λ (x : ℕ). g ≤ x) q h) })
    attained_closed g some (of_none z) h = absurd (omega arith)

  closure_at : (s e : ℕ) → s < m.size → e < m.size → closure_grade m marks s e ≡ second_table exit s e
  closure_at s e hs he =
      let b = best.cells s e hs he in
      closure_grade_is law r.graded s e (attained_small b.attained) (λ g some h. (
        λ t.
            (let c = closure_elim law (level_linked law r.graded some) s e t in
            le_trans (level_down marks g c.to_start c.to_cycle c.has_mark) (best_all b c.conjugate)),
        attained_closed g some b.attained,
      ))

  pub advanced_all : ClosureLaid m entry exit
  unfolding marks_from
  advanced_all = record {
    same_length = a.kept.same_length;
    closure = record { same = closure_at };
    before = kept_before small a.kept;
    after = kept_after small a.kept;
    between = a.kept.kept;
  }
