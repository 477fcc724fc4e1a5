-- What is asked for and what is written on the way from the blocks of a rule to the file of its reduction. Assumes nothing.
use Rattle.std.specs.Prelude.{ℕ, ◌≤◌, ◌<◌, ◌≡◌, List, length}
use Rattle.theory.specs.Rules.{Morphism}
use Rattle.minimality.proofs.Quotient.{quotient, quotient_acc}
use Rattle.minimality.proofs.Saturation.{saturated}
use Rattle.reduce_first_round.specs.Map.{outcome_at}
use Rattle.reduce_numbering.specs.Numbering.{NumberedAs}
use Rattle.reduce_table.specs.Layout.{BlocksNeeds}
use Rattle.formats.specs.WrittenFile.{file_of}
use Rattle.formats.specs.Front.{AtFront}
use Rattle.formats.specs.RuleChecks.{rule_size}

-- c blocks whose leaders are elements, and room
pub record QuotientNeeds (n k c : ℕ) (scratch out : List ℕ) : Type 0 where
  pub some : 1 ≤ c
  pub letters_some : 1 ≤ k
  pub blocks : BlocksNeeds n c scratch
  pub out_room : rule_size ≤ length out

-- the rule of the blocks was written, by whichever outcome they are numbered and the outcomes stand in scratch
pub record QuotientWritten (m : Morphism) (c : ℕ) (entry exit before after : List ℕ) (end : ℕ) : Type 0 where
  pub same_length : length exit ≡ length entry
  pub written : (acc : ℕ → ℕ → ℕ) (b : NumberedAs m acc c entry)
      → ((s z : ℕ) → s < m.size → z < m.size → outcome_at entry s z ≡ acc s z)
      → AtFront (file_of (quotient b.numbering) (saturated (quotient b.numbering) (quotient_acc b.numbering))) before after end
