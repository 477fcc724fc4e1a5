-- The search for a byte of the second table that is higher than that of the first, and what it tells of the closure. Assumes nothing.
use Prim.Native.Nat.{ℕ, ◌+◌, ◌*◌, ◌/◌, ◌%◌, ◌≤◌, ◌<◌}
use mathlib.Core.Path.{◌≡◌, sym, ◌∙◌}
use mathlib.Core.Bool.{Bool, true, false}
use mathlib.Core.List.{List}
use native.Mathlib.Omega.{arith}
use native.Mathlib.Decide.{dec_lt}
use borrow.Author.Count.{below_more}
use lib.ListN.{get_or}
use Rattle.theory.specs.Rules.{Morphism}
use Rattle.theory.proofs.ClosureGrades.{closure_grade}
use Rattle.scratch.specs.Map.{marks_from}
use Rattle.scratch.proofs.Markings.{front_mark}
use Rattle.mark_closure.specs.Closure.{ClosureRoom, ClosureLaid, ClosedMarks, UnclosedMarks, ClosureAnswer}
use Rattle.mark_closure.specs.Closing.{SecondInFirst, SecondOnly, WithinAnswer}

module _ {bytes : List ℕ} where
  -- nothing was looked at
  pub within-start : SecondInFirst bytes 0
  within-start = record { both = λ i h. absurd (omega arith) }

  -- the byte of the second table is no higher
  pub within-next : {i : ℕ} → SecondInFirst bytes i → get_or bytes (4096 + i) 0 ≤ get_or bytes i 0 → SecondInFirst bytes (i + 1)
  within-next {i} w h = record { both = below_more (λ j. get_or bytes (4096 + j) 0 ≤ get_or bytes j 0) i w.both h }

  -- it is
  pub within-not : {i count : ℕ} → i < count → get_or bytes i 0 < get_or bytes (4096 + i) 0 → SecondOnly bytes count
  within-not {i} h g = record { at = i; below = h; higher = g }

  -- all bytes were passed
  pub within_all : {i count : ℕ} → SecondInFirst bytes i → count ≤ i → SecondInFirst bytes count
  within_all w h = record { both = λ j l. w.both j (omega arith) }

module _ {m : Morphism} {entry exit : List ℕ} (small : m.size ≤ 64) (r : ClosureRoom m entry) (l : ClosureLaid m entry exit) where
  -- the mark of a pair and its grade in the closure, as the two tables have them
  mark-at : (s e : ℕ) → s < m.size → e < m.size → marks_from entry 0 s e ≡ get_or exit (s * 64 + e) 0
  mark-at s e hs he = sym (l.before (s * 64 + e) (omega arith) ∙ front_mark entry s e)

  grade-at : (s e : ℕ) → s < m.size → e < m.size → closure_grade m (marks_from entry 0) s e ≡ get_or exit (4096 + (s * 64 + e)) 0
  unfolding marks_from
  grade-at s e hs he = l.closure.same s e hs he

  -- no byte of the second table is higher: the marks are closed
  closed_all : SecondInFirst exit (m.size * 64) → ClosedMarks m (marks_from entry 0)
  closed_all w = record { closed = λ s e hs he. omega (arith, mark-at s e hs he, grade-at s e hs he, w.both (s * 64 + e) (omega arith)) }

  -- a byte of the second table that is higher is that of a pair of elements
  cycle_inside : (w : SecondOnly exit (m.size * 64)) → Dec (w.at % 64 < m.size) → w.at % 64 < m.size
  cycle_inside w (yes h) = h
  cycle_inside w (no g) =
      absurd (
      let z = l.between (4096 + w.at) (λ s e hs he q. g (let p : w.at % 64 ≡ e = omega arith in omega arith)) in
      let b = w.higher in
      let i = w.below in
      omega (arith, r.blank (4096 + w.at) (omega arith) (omega arith))
      )

  -- a place where the second table is higher: the closure has a higher grade there
  closed-not : SecondOnly exit (m.size * 64) → UnclosedMarks m (marks_from entry 0)
  closed-not w =
      let i = w.below in
      let hs : w.at / 64 < m.size = omega arith in
      let he = cycle_inside w (dec_lt (w.at % 64) m.size) in
      let split : w.at / 64 * 64 + w.at % 64 ≡ w.at = omega arith in
      record {
        s = w.at / 64;
        e = w.at % 64;
        s_inside = hs;
        e_inside = he;
        higher = rw (mark-at (w.at / 64) (w.at % 64) hs he, grade-at (w.at / 64) (w.at % 64) hs he, split) w.higher;
      }

  pub closure-answer : (answer : Bool) → WithinAnswer exit (m.size * 64) answer → ClosureAnswer m entry exit answer
  closure-answer true w = record { laid = l; answered = closed_all w }
  closure-answer false w = record { laid = l; answered = closed-not w }
