-- The theorem on ready products. Document 02, Job 11: "a two-state automaton yields the same file through it as by the general way, refusals included".
-- Both ways keep the promise of `automaton_translation::make_rule`, which is lent the table of `automaton_ready_table` or no byte; so it is said of whatever
-- two answers that promise allows, for an automaton of any number of states. Assumes nothing.
use Rattle.std.specs.Prelude.{ℕ, ◌≤◌, List, length}
use Rattle.formats.specs.RuleChecks.{rule_size}
use Rattle.automaton_file.specs.Answers.{ReadPromise}
use Rattle.std.specs.Prelude.{Ok}
use Rattle.promises.specs.declared.Written.{Written}
use Rattle.automaton_translation.specs.Promise.{MadePromise, SameOutcome}

pub record ReadyTheorem : Type 0 where
  pub two_ways : (bytes out entry mid : List ℕ) (states letters transitions : ℕ) → rule_size ≤ length out → ReadPromise 1 bytes entry mid (Ok (record { states = states; letters = letters; transitions = transitions }))
      → (out-exit out-exit' exit exit' : List ℕ) (answer answer' : Written) → MadePromise bytes out out-exit mid exit answer
      → MadePromise bytes out out-exit' mid exit' answer' → SameOutcome answer answer' out-exit out-exit' exit exit'
