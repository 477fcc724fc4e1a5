-- What `included` leaves in u and v: the lasso stands at their fronts, and the bytes behind it are kept. Assumes nothing.
use Prim.Native.Nat.{ℕ}
use mathlib.Core.Path.{◌≡◌, sym, ap, ◌∙◌, subst₂}
use mathlib.Core.List.{List}
use lib.ListN.{length, take, drop}
use lib.Seq.{take-append_seam, drop-append_seam}
use Rattle.theory.specs.Inclusion.{HigherGraded}
use Rattle.formats.specs.Front.{AtFront}
use Rattle.formats.specs.RuleFile.{morphism_of, marking_of}
use Rattle.promises.specs.Inclusion.{second_marking, Apart}
use Rattle.promises.specs.InclusionTheorem.{LassoInBuffers, InclusionTheorem}

-- the bytes at the front of a buffer, and those behind them
module _ {bytes entry exit : List ℕ} {r : ℕ} (w : AtFront bytes entry exit r) where
  front_taken : take r exit ≡ bytes
  front_taken =
      ap (λ (n : ℕ). take n exit) w.counts ∙ ap (λ (l : List ℕ). take (length bytes) l) w.holds ∙ take-append_seam bytes (drop (length bytes) entry)

  taken_length : length (take r exit) ≡ r
  taken_length = ap length front_taken ∙ sym w.counts

  rest_dropped : drop r exit ≡ drop r entry
  rest_dropped =
      ap (λ (n : ℕ). drop n exit) w.counts ∙ ap (λ (l : List ℕ). drop (length bytes) l) w.holds ∙ drop-append_seam bytes (drop (length bytes) entry)
      ∙ ap (λ (n : ℕ). drop n entry) (sym w.counts)

shown : {bytes second u u' v v' : List ℕ} {a b : ℕ} → Apart (morphism_of bytes) (marking_of bytes) (second_marking second) u u' v v' a b
    → LassoInBuffers bytes second u u' v v' a b
shown {bytes} {second} answer = record {
  lasso = subst₂ (HigherGraded (morphism_of bytes) (marking_of bytes) (second_marking second)) (sym (front_taken answer.start_written)) (sym (front_taken answer.cycle_written))
      answer.witness;
  letters_of_u = taken_length answer.start_written;
  letters_of_v = taken_length answer.cycle_written;
  rest_of_u = rest_dropped answer.start_written;
  rest_of_v = rest_dropped answer.cycle_written;
}

pub inclusion_theorem : InclusionTheorem
inclusion_theorem = record { in_buffers = λ bytes second u u' v v' entry exit a b p. shown p.answered }
