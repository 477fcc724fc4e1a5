-- What the call for the rule of an automaton promises. Assumes nothing.
use Rattle.std.specs.Prelude.{ℕ, ◌≤◌, ◌≡◌, List, [], ◌∷◌, length, replicate}
use Rattle.answer.specs.Checks.{FirstFailure}
use Rattle.formats.specs.RuleChecks.{rule_size, scratch_size}
use Rattle.formats.specs.AutomatonFile.{states_of, automaton_letters_of, has_transition}
use Rattle.formats.proofs.GoodAutomaton.{GoodSections}
use Rattle.automaton_file.specs.Answers.{TransitionsLaid}
use Rattle.promises.specs.Answers.{written_verdict, WrittenAnswer}
use Rattle.promises.specs.Automaton.{matrices_check, AutomatonRuleOf}
use Rattle.promises.specs.declared.Written.{Written}

-- an automaton of n states and k letters was read, its transitions stand in scratch, and both buffers are long enough
pub record ReadHere (bytes : List ℕ) (n k : ℕ) (out scratch : List ℕ) : Type 0 where
  pub sections : GoodSections bytes
  pub states_are : n ≡ states_of bytes
  pub letters_are : k ≡ automaton_letters_of bytes
  pub laid : TransitionsLaid (has_transition bytes) (states_of bytes) (automaton_letters_of bytes) (length scratch) scratch
  pub room : scratch_size ≤ length scratch
  pub out_room : rule_size ≤ length out

-- what is promised of an automaton that was read: only 14 is left to look at
pub record MadePromise (bytes out-entry out-exit entry exit : List ℕ) (answer : Written) : Type 0 where
  pub refusal : FirstFailure (matrices_check bytes ∷ []) (written_verdict answer)
  pub answered : WrittenAnswer (AutomatonRuleOf bytes out-entry out-exit) out-entry out-exit answer
  pub scratch : exit ≡ replicate (length entry) 0

-- "yields the same file .. refusals included": two answers are one, and the buffer for the file and scratch are left alike
pub record SameOutcome (answer answer' : Written) (out-exit out-exit' exit exit' : List ℕ) : Type 0 where
  pub same_answer : answer ≡ answer'
  pub same_file : out-exit ≡ out-exit'
  pub same_scratch : exit ≡ exit'
