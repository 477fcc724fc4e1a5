-- What `complement` promises. Document 01, "Complement of a strong rule"; document 02, Job 12. Assumes nothing.
use Rattle.std.specs.Prelude.{ℕ, ◌-◌, ◌≤◌, ◌↔◌, List, [], ◌∷◌, ◌++◌, ◌≡◌}
use Rattle.theory.specs.Words.{Lasso}
use Rattle.theory.specs.Rules.{Morphism, Marking, level}
use Rattle.theory.specs.Pairs.{LinkedOnly}
use Rattle.theory.specs.Grades.{AtLeast, StrongMarking}
use Rattle.theory.specs.Smallest.{Complement}
use Rattle.answer.specs.Checks.{Check, FirstFailure}
use Rattle.formats.specs.RuleFile.{morphism_of, marking_of}
use Rattle.formats.specs.RuleChecks.{rule_size, buffer_check}
use Rattle.formats.specs.Calls.{checked_checks, scratch_left}
use Rattle.formats.specs.ReadBack.{WrittenRule}
use Rattle.promises.specs.Weak.{weak_check}
use Rattle.promises.specs.declared.Written.{Written}
use Rattle.promises.specs.Answers.{written_verdict, WrittenAnswer}

-- marks of the complement: they are strong, on linked pairs only, and, for each least grade g from 1 to 3, "in the complement, those of
-- 4 − g or more are the rest"
pub record ComplementMarks (m : Morphism) (marks marks' : Marking) : Type 0 where
  pub complement : Complement m marks marks'
  pub strong : StrongMarking m marks'
  pub linked : LinkedOnly m (level 1 marks')
  pub rest : (g : ℕ) → 1 ≤ g → g ≤ 3 → (u v : List ℕ) → Lasso m.letters u v → AtLeast m marks' (4 - g) u v ↔ (AtLeast m marks g u v → ⊥)

-- "First 13", of both buffers; then the rule's own checks; then 12
abbrev pub complement_checks : List ℕ → List ℕ → List ℕ → List Check
complement_checks bytes out scratch = buffer_check rule_size out ∷ (checked_checks 1 bytes scratch ++ (weak_check 1 bytes ∷ []))

-- "same elements and numbering"; "Complement turns g into 3 − g", and the file of that rule was written, its marks by s, then by e
pub record ComplementWritten (bytes entry exit : List ℕ) (r : ℕ) : Type 0 where
  pub marks : Marking
  pub is_complement : ComplementMarks (morphism_of bytes) (marking_of bytes) marks
  pub written : WrittenRule (morphism_of bytes) marks entry exit r

-- scratch as every call leaves it
pub record ComplementPromise (bytes out-entry out-exit entry exit : List ℕ) (answer : Written) : Type 0 where
  pub refusal : FirstFailure (complement_checks bytes out-entry entry) (written_verdict answer)
  pub answered : WrittenAnswer (ComplementWritten bytes out-entry out-exit) out-entry out-exit answer
  pub scratch : exit ≡ scratch_left rule_size out-entry entry
