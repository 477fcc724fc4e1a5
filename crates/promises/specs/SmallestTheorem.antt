-- The theorem on what `reduce` writes, said of its bytes alone. Document 01, demand 3, whole: it "is strong, marked as document 01 says, accepts exactly
-- the same lassos of every length, is no larger than ANY strong rule of any finite size that does, and a rival as small has its table and images,
-- renumbered". Lassos are accepted with grades (document 02, Job 12). Assumes nothing.
use Rattle.std.specs.Prelude.{ℕ, ◌≤◌, ◌≡◌, List}
use Rattle.theory.specs.Rules.{Rule, Lawful}
use Rattle.theory.specs.Grades.{StrongMarking, RuleStrong}
use Rattle.theory.specs.Smallest.{SameGrades, Renumbered, MarksGrades}
use Rattle.formats.specs.RuleFile.{elements_of, morphism_of, marking_of}
use Rattle.promises.specs.Reduce.{rule_of}
use Rattle.promises.specs.Printed.{Prints}

-- the file is the smallest rule with the grades of the rule in the bytes
pub record SmallestPrinted (bytes file : List ℕ) : Type 0 where
  pub lawful : Lawful (morphism_of bytes)
  pub file_lawful : Lawful (morphism_of file)
  pub strong : StrongMarking (morphism_of file) (marking_of file)
  pub marked : MarksGrades (morphism_of file) (marking_of file)
  pub same : SameGrades (rule_of bytes lawful) (rule_of file file_lawful)
  pub no_larger : (rival : Rule) → RuleStrong rival → SameGrades (rule_of bytes lawful) rival → elements_of file ≤ rival.morphism.size
  pub copy : (rival : Rule) → RuleStrong rival → SameGrades (rule_of bytes lawful) rival → rival.morphism.size ≡ elements_of file
      → Renumbered rival.morphism (morphism_of file)

pub record SmallestTheorem : Type 0 where
  pub smallest : (bytes file : List ℕ) → Prints bytes file → SmallestPrinted bytes file
