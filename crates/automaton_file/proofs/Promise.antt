-- What each way through the reading promises. Assumes nothing.
use Rattle.std.specs.Prelude.{Ok, Err}
use Rattle.answer.specs.declared.Fault.{Fault}
use Rattle.answer.specs.declared.Refused.{Refused}
use Prim.Native.Nat.{ℕ, ◌≤◌, ◌<◌}
use mathlib.Core.Path.{◌≡◌, sym, ap, ◌∙◌, subst}
use mathlib.Core.List.{List}
use native.Mathlib.Omega.{arith}
use borrow.Author.Tests.{lt-ltb}
use lib.ListN.{length, replicate}
use Rattle.answer.specs.declared.Refusal.TheVariants.{BufferTooShort}
use Rattle.answer.specs.Checks.{passed, refused, FirstFailure}
use Rattle.answer.proofs.Order.{refused_before, passed_before}
use Rattle.formats.proofs.Buffers.{buffer_short, buffer_long}
use Rattle.formats.specs.RuleChecks.{scratch_size}
use Rattle.sections.specs.Answers.{PartZeroed}
use Rattle.formats.specs.Calls.{after_call}
use Rattle.rule_check.proofs.Promise.{zeros_after}
use Rattle.formats.specs.AutomatonFile.{states_of, automaton_letters_of, has_transition}
use Rattle.formats.specs.AutomatonChecks.{automaton_layout_checks, automaton_content_checks, automaton_checks}
use Rattle.automaton_sections.specs.declared.Counts.{Counts}
use Rattle.automaton_sections.specs.Sections.{LayoutPassed}
use Rattle.scratch.specs.Map.{transition_table_size}
use Rattle.automaton_file.specs.Answers.{BlankRoom, TransitionsLaid, ReadPromise}

-- a short scratch is left as it came
pub short_scratch : (input : ℕ) (bytes scratch : List ℕ) → length scratch < scratch_size → ReadPromise input bytes scratch scratch (Err (record { refusal = BufferTooShort; input = 1; place = 0 }))
unfolding after_call
short_scratch input bytes scratch h = record {
  refusal = buffer_short h;
  scratch = sym (simp (lt-ltb (length scratch) scratch_size h));
}

module _ (input : ℕ) (bytes entry : List ℕ) (h : scratch_size ≤ length entry) where
  -- a section refuses
  pub layout_promise : {exit : List ℕ} {f : Fault} {r : Refused} → exit ≡ replicate (length entry) 0
      → ((input : ℕ) → FirstFailure (automaton_layout_checks input bytes) (refused f.refusal input f.place))
      → r ≡ record { refusal = f.refusal; input = input; place = f.place } → ReadPromise input bytes entry exit (Err r)
  unfolding automaton_checks
  layout_promise {exit} z f e =
      subst (λ (r : Refused). ReadPromise input bytes entry exit (Err r)) (sym e)
      (record { refusal = buffer_long h (refused_before _ _ (f input)); scratch = z ∙ zeros_after entry h })

  module _ {counts : Counts} (p : LayoutPassed bytes counts) where
    -- what follows the sections refuses
    pub content_promise : {exit : List ℕ} {f : Fault} {r : Refused} → exit ≡ replicate (length entry) 0
        → ((input : ℕ) → FirstFailure (automaton_content_checks input bytes) (refused f.refusal input f.place))
        → r ≡ record { refusal = f.refusal; input = input; place = f.place } → ReadPromise input bytes entry exit (Err r)
    unfolding automaton_checks
    content_promise {exit} z f e =
        subst (λ (r : Refused). ReadPromise input bytes entry exit (Err r)) (sym e)
        (record { refusal = buffer_long h (passed_before _ _ (p.refusal input) (f input)); scratch = z ∙ zeros_after entry h })

    -- every check passes
    pub automaton_promise : {size : ℕ} {exit : List ℕ} → size ≡ length entry → ((input : ℕ) → FirstFailure (automaton_content_checks input bytes) passed)
        → TransitionsLaid (has_transition bytes) (states_of bytes) (automaton_letters_of bytes) size exit
        → ReadPromise input bytes entry exit (Ok counts)
    unfolding automaton_checks
    automaton_promise {exit = exit} z f l = record {
      refusal = buffer_long h (passed_before _ _ (p.refusal input) (f input));
      scratch = record {
        counts_are = p.counts_are;
        laid = subst (λ (n : ℕ). TransitionsLaid (has_transition bytes) (states_of bytes) (automaton_letters_of bytes) n exit) z l;
      };
    }

-- a scratch that kept its length, made zeros
pub zeros_again : (entry : List ℕ) {size : ℕ} {exit : List ℕ} → size ≡ length entry → exit ≡ replicate size 0 → exit ≡ replicate (length entry) 0
zeros_again entry k e = e ∙ ap (λ (n : ℕ). replicate n 0) k

-- a table that was made blank
pub blank_room : {entry now : List ℕ} → scratch_size ≤ length entry → PartZeroed 0 transition_table_size entry now → BlankRoom now
blank_room h z = record { room = omega (arith, z.outside.same_length); blank = λ i l. z.zeros i (omega arith) l }
