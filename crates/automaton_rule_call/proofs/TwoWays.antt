-- "that a two-state automaton yields the same file through it as by the general way, refusals included" (document 02, Job 11): the rule
-- of an automaton that was read, made by the table and made without it, and two calls from the start. Both ways have one promise, and of
-- a promise there is one answer, one file and one scratch. Assumes nothing.
use Prim.Native.Nat.{ℕ, ◌≤◌}
use mathlib.Core.List.{List}
use lib.ListN.{length}
use Rattle.formats.specs.RuleChecks.{rule_size}
use Rattle.automaton_file.specs.Answers.{ReadPromise}
use Rattle.std.specs.Prelude.{Ok}
use Rattle.promises.specs.Automaton.{RulePromise}
use Rattle.promises.specs.declared.Written.{Written}
use Rattle.promises.proofs.OneTranslation.{one_answer, one_scratch}
use Rattle.automaton_translation.specs.Promise.{MadePromise, SameOutcome}
use Rattle.automaton_rule_call.specs.ReadyTheorem.{ReadyTheorem}
use Rattle.automaton_rule_call.proofs.Calling.{rule_promised}

pub two_calls : {bytes out out-exit out-exit' entry exit exit' : List ℕ} (answer answer' : Written) → RulePromise bytes out out-exit entry exit answer
    → RulePromise bytes out out-exit' entry exit' answer' → SameOutcome answer answer' out-exit out-exit' exit exit'
two_calls answer answer' p q = let one = one_answer answer answer' p q in record { same_answer = one.0; same_file = one.1; same_scratch = one_scratch p q }

pub two_ways : (bytes out entry : List ℕ) → rule_size ≤ length out → {n k t : ℕ} {mid : List ℕ} → ReadPromise 1 bytes entry mid (Ok (record { states = n; letters = k; transitions = t }))
    → {out-exit out-exit' exit exit' : List ℕ} (answer answer' : Written) → MadePromise bytes out out-exit mid exit answer
    → MadePromise bytes out out-exit' mid exit' answer' → SameOutcome answer answer' out-exit out-exit' exit exit'
two_ways bytes out entry long p answer answer' ready general =
    two_calls answer answer' (rule_promised bytes out entry long p ready) (rule_promised bytes out entry long p general)

pub ready_theorem : ReadyTheorem
ready_theorem = record {
  two_ways = λ bytes out entry mid n k t long p out-exit out-exit' exit exit' answer answer' ready general. two_ways bytes out entry long p answer answer' ready general;
}
