-- What a call that reads an automaton first knows of it afterwards. Assumes nothing.
use Prim.Native.Nat.{ℕ, ◌≤◌, ◌<◌}
use mathlib.Core.Path.{◌≡◌, refl, ap, ◌∙◌}
use mathlib.Core.List.{List}
use native.Mathlib.Omega.{arith}
use lib.ListN.{length, replicate}
use Rattle.answer.specs.Checks.{passed, FirstFailure}
use Rattle.answer.proofs.Order.{passes_head, passes_tail}
use Rattle.formats.specs.RuleChecks.{scratch_size}
use Rattle.formats.specs.Calls.{after_call}
use Rattle.rule_check.proofs.Promise.{zeros_after}
use Rattle.formats.specs.AutomatonChecks.{read_checks}
use Rattle.formats.proofs.GoodAutomaton.{GoodAutomaton}
use Rattle.automaton_file.proofs.CheckedAutomaton.{good_automaton}

module _ (input : ℕ) (bytes entry : List ℕ) (all : FirstFailure (read_checks input bytes entry) passed) where
  -- scratch had its size
  pub scratch_long : scratch_size ≤ length entry
  scratch_long =
      let f : length entry < scratch_size → ⊥ = λ h. (passes_head all).nowhere 0 (record { short = h; is_place = refl }) in
      omega arith

  -- the automaton is good
  pub called_good : GoodAutomaton bytes
  called_good = good_automaton input bytes (passes_tail all)

  -- zeros over the whole length are what a call leaves
  pub zeros_left : (mid exit : List ℕ) → length mid ≡ length entry → exit ≡ replicate (length mid) 0 → exit ≡ after_call entry
  zeros_left mid exit e z = z ∙ ap (λ (x : ℕ). replicate x 0) e ∙ zeros_after entry scratch_long
