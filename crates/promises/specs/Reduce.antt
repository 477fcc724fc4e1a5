-- What `reduce` promises. Document 01, "Reduction of a strong rule" and demand 3; document 02, Jobs 12 and 13. Assumes nothing.
use Rattle.std.specs.Prelude.{ℕ, ◌≡◌, cond, List, [], ◌∷◌, ◌++◌, length, get_or, ltb}
use Rattle.answer.specs.Checks.{Check, FirstFailure}
use Rattle.theory.specs.Rules.{Rule, Lawful}
use Rattle.theory.specs.Maps.{MapsOnto}
use Rattle.theory.specs.Smallest.{Reduction}
use Rattle.formats.specs.FirstWords.{ByFirstWords}
use Rattle.formats.specs.RuleFile.{elements_of, morphism_of, marking_of}
use Rattle.formats.specs.RuleChecks.{rule_size, buffer_check}
use Rattle.formats.specs.Calls.{checked_checks, scratch_left}
use Rattle.formats.specs.Front.{AtFront}
use Rattle.formats.specs.ReadBack.{WrittenRule}
use Rattle.promises.specs.Weak.{weak_check}
use Rattle.promises.specs.declared.Written.{Written}
use Rattle.promises.specs.declared.Written.TheVariants.{Rule as Is-rule, Refused}
use Rattle.promises.specs.Answers.{written_verdict}

-- "Our reducer now hands out its map too, in a lent 64 bytes" (Job 13)
abbrev pub map_size : ℕ
map_size = 64

-- "First 13", of every buffer, then the rule's own checks, then 12
abbrev pub reduce_checks : List ℕ → List ℕ → List ℕ → List ℕ → List Check
reduce_checks bytes out map scratch = buffer_check rule_size out ∷ buffer_check map_size map ∷ (checked_checks 1 bytes scratch ++ weak_check 1 bytes ∷ [])

-- the rule that a file means, where its table is lawful
abbrev pub rule_of : (bytes : List ℕ) → Lawful (morphism_of bytes) → Rule
rule_of bytes law = record { morphism = morphism_of bytes; lawful = law; marks = marking_of bytes }

-- a reduction of the file's rule was written, whole: its elements are numbered by first words, and its file passes our own check
-- and means the reduced rule; at the front of map "a byte for each element naming where it went" (Job 13), and the rest of it is kept
pub record ReducedTo (bytes before after map_before map_after : List ℕ) (end : ℕ) : Type 0 where
  pub lawful : Lawful (morphism_of bytes)
  pub reduced : Rule
  pub reduction : Reduction (rule_of bytes lawful) reduced
  pub numbered : ByFirstWords reduced.morphism
  pub written : WrittenRule reduced.morphism reduced.marks before after end
  pub map : List ℕ
  pub maps : MapsOnto (morphism_of bytes) reduced.morphism (λ s. get_or map s 0)
  pub map_written : AtFront map map_before map_after (elements_of bytes)

-- a refusal keeps every byte of out and of map
pub record ReductionKept (before after map_before map_after : List ℕ) : Type 0 where
  pub out_kept : after ≡ before
  pub map_kept : map_after ≡ map_before

abbrev pub ReducedAnswer : List ℕ → List ℕ → List ℕ → List ℕ → List ℕ → Written → Type 0
ReducedAnswer bytes before after map_before map_after (Is-rule end) = ReducedTo bytes before after map_before map_after end
ReducedAnswer bytes before after map_before map_after (Refused refusal input place) = ReductionKept before after map_before map_after

-- scratch as it came where a buffer is short, and else zeros
abbrev pub reduce_left : List ℕ → List ℕ → List ℕ → List ℕ
reduce_left out map scratch = cond (ltb (length out) rule_size) scratch (scratch_left map_size map scratch)

pub record ReducePromise (bytes before after map_before map_after entry exit : List ℕ) (answer : Written) : Type 0 where
  pub refusal : FirstFailure (reduce_checks bytes before map_before entry) (written_verdict answer)
  pub answered : ReducedAnswer bytes before after map_before map_after answer
  pub scratch : exit ≡ reduce_left before map_before entry
