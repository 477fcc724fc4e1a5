-- What `summarize` promises. Document 01, "A program reads a rule file ..". Assumes nothing.
use Rattle.std.specs.Prelude.{ℕ, ◌≡◌, Bool, true, false, List, ◌∷◌, length, replicate}
use Rattle.answer.specs.Checks.{Check, Verdict, passed, refused, FirstFailure}
use Rattle.theory.specs.Rules.{Rule, Lawful}
use Rattle.theory.specs.Grades.{StrongMarking}
use Rattle.theory.specs.Smallest.{Reduction}
use Rattle.formats.specs.RuleFile.{morphism_of, marking_of}
use Rattle.formats.specs.RuleChecks.{rule_size, buffer_check}
use Rattle.promises.specs.Inspect.{RuleCounts}
use Rattle.formats.specs.Calls.{checked_checks, scratch_left}
use Rattle.theory.specs.Pairs.{ClassCounts}
use Rattle.promises.specs.Reduce.{rule_of}
use Rattle.promises.specs.declared.Summary.{Summary}
use Rattle.promises.specs.declared.Summary.TheVariants.{Counts, Refused}

-- "First 13", of both buffers, and then the rule's own checks; work has the size of a rule out
abbrev pub summary_checks : List ℕ → List ℕ → List ℕ → List Check
summary_checks bytes work scratch = buffer_check rule_size work ∷ checked_checks 1 bytes scratch

-- document 01's number, input and place of an answer
abbrev pub summary_verdict : Summary → Verdict
summary_verdict (Counts elements letters marks linked classes strong reduced) = passed
summary_verdict (Refused refusal input place) = refused refusal input place

-- the rule is strong, and a reduction of it has so many elements
pub record StrongReduced (bytes : List ℕ) (reduced : ℕ) : Type 0 where
  pub strong : StrongMarking (morphism_of bytes) (marking_of bytes)
  pub lawful : Lawful (morphism_of bytes)
  pub rule : Rule
  pub reduction : Reduction (rule_of bytes lawful) rule
  pub size : reduced ≡ rule.morphism.size

-- "Strong is 0 or 1; reduced is the reduced element count, 0 where weak."
abbrev pub ReducesTo : List ℕ → Bool → ℕ → Type 0
ReducesTo bytes true reduced = StrongReduced bytes reduced
ReducesTo bytes false reduced = (StrongMarking (morphism_of bytes) (marking_of bytes) → ⊥) × (reduced ≡ 0)

-- each number is the rule's own; the joins are the linked pairs less the classes
pub record SummaryCounts (bytes : List ℕ) (elements letters marks linked classes : ℕ) (strong : Bool) (reduced : ℕ) : Type 0 where
  pub counts : RuleCounts bytes elements letters marks
  pub joins : ℕ
  pub class_counts : ClassCounts (morphism_of bytes) linked classes joins
  pub reduces : ReducesTo bytes strong reduced

-- the numbers that a summary has
abbrev pub SummaryAnswer : List ℕ → Summary → Type 0
SummaryAnswer bytes (Counts elements letters marks linked classes strong reduced) = SummaryCounts bytes elements letters marks linked classes strong reduced
SummaryAnswer bytes (Refused refusal input place) = Unit {0}

-- work is zeros over its whole length after a summary, and as it came after a refusal
abbrev pub work_after : List ℕ → Summary → List ℕ
work_after work (Counts elements letters marks linked classes strong reduced) = replicate (length work) 0
work_after work (Refused refusal input place) = work

-- scratch as every call leaves it
pub record SummaryPromise (bytes before after entry exit : List ℕ) (answer : Summary) : Type 0 where
  pub refusal : FirstFailure (summary_checks bytes before entry) (summary_verdict answer)
  pub answered : SummaryAnswer bytes answer
  pub work : after ≡ work_after before answer
  pub scratch : exit ≡ scratch_left rule_size before entry
