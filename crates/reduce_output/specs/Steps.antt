-- What is asked for and what is written on the way from a strong rule to the file of its reduction and the map to it. Assumes nothing.
use Rattle.std.specs.Prelude.{ℕ, ◌≤◌, ◌<◌, ◌≡◌, List, length, get_or}
use Rattle.theory.specs.Rules.{Morphism, Lawful, AllReached}
use Rattle.formats.specs.FirstWords.{ByFirstWords}
use Rattle.minimality.proofs.Quotient.{Numbering, quotient, quotient_acc}
use Rattle.minimality.proofs.Saturation.{saturated}
use Rattle.reduce_first_round.specs.Map.{outcome_of}
use Rattle.formats.specs.WrittenFile.{file_of}
use Rattle.formats.specs.Front.{AtFront}
use Rattle.formats.specs.RuleChecks.{rule_size, scratch_size}
use Rattle.promises.specs.Reduce.{map_size}

-- a lawful table whose elements are all reached, and room
pub record ReduceNeeds (m : Morphism) (scratch out map : List ℕ) : Type 0 where
  pub lawful : Lawful m
  pub reached : AllReached m
  pub letters_some : 1 ≤ m.letters
  pub room : scratch_size ≤ length scratch
  pub out_room : rule_size ≤ length out
  pub map_room : map_size ≤ length map

-- the blocks were numbered and their rule was written, by the outcomes that the second table of marks gives; the number of each element's
-- block stands at the front of map
pub record ReducedWritten (m : Morphism) (entry exit before after map_before map_after : List ℕ) (end : ℕ) : Type 0 where
  pub same_length : length exit ≡ length entry
  pub count : ℕ
  pub some : 1 ≤ count
  pub few : count ≤ m.size
  pub numbering : Numbering m (outcome_of m entry) count
  pub in_order : ByFirstWords (quotient numbering)
  pub written : AtFront (file_of (quotient numbering) (saturated (quotient numbering) (quotient_acc numbering))) before after end
  pub map : List ℕ
  pub numbers : (s : ℕ) → s < m.size → get_or map s 0 ≡ numbering.number s
  pub map_written : AtFront map map_before map_after m.size
