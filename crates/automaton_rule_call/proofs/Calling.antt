-- What each way through the call for the rule of an automaton promises. Assumes nothing.
use Prim.Native.Nat.{ℕ, ◌≤◌, ◌<◌}
use mathlib.Core.Path.{◌≡◌, refl, sym, subst}
use mathlib.Core.List.{List}
use native.Mathlib.Omega.{arith}
use lib.ListN.{length}
use Rattle.answer.specs.declared.Refusal.{Refusal}
use Rattle.answer.specs.declared.Refusal.TheVariants.{BufferTooShort}
use Rattle.answer.proofs.Order.{refused_before, passed_before}
use Rattle.formats.specs.RuleChecks.{rule_size}
use Rattle.formats.proofs.Buffers.{buffer_short, buffer_long}
use Rattle.rule_check.proofs.Left.{short_left, long_left}
use Rattle.formats.specs.AutomatonFile.{states_of, automaton_letters_of, has_transition}
use Rattle.automaton_file.specs.Answers.{TransitionsLaid, ReadPromise}
use Rattle.std.specs.Prelude.{Ok, Err}
use Rattle.automaton_file.proofs.Calls.{scratch_long, called_good, zeros_left}
use Rattle.automaton_translation.specs.Promise.{ReadHere, MadePromise}
use Rattle.promises.specs.Automaton.{RulePromise}
use Rattle.promises.specs.declared.Written.{Written}
use Rattle.promises.specs.declared.Written.TheVariants.{Refused}

module _ (bytes out entry : List ℕ) where
  -- a short buffer is refused, and both are left as they came
  pub out_short : length out < rule_size → RulePromise bytes out out entry entry (Refused BufferTooShort 1 0)
  out_short h = record {
    refusal = buffer_short h;
    answered = refl;
    scratch = short_left rule_size out entry h;
  }

  module _ (long : rule_size ≤ length out) where
    -- the automaton is refused
    pub read_refused : {exit : List ℕ} {r : Refusal} {i place : ℕ} → ReadPromise 1 bytes entry exit (Err (record { refusal = r; input = i; place = place }))
        → RulePromise bytes out out entry exit (Refused r i place)
    read_refused p = record { refusal = buffer_long long (refused_before _ _ p.refusal); answered = refl; scratch = long_left rule_size out entry long p.scratch }

    -- the automaton was read
    module _ {n k t : ℕ} {mid : List ℕ} (p : ReadPromise 1 bytes entry mid (Ok (record { states = n; letters = k; transitions = t }))) where
      mid_length : length mid ≡ length entry
      mid_length = p.scratch.laid.same_length

      pub read_here : ReadHere bytes n k out mid
      read_here = record {
        sections = (called_good 1 bytes entry p.refusal).sections;
        states_are = p.scratch.counts_are.states_are;
        letters_are = p.scratch.counts_are.letters_are;
        laid = subst (λ (size : ℕ). TransitionsLaid (has_transition bytes) (states_of bytes) (automaton_letters_of bytes) size mid) (sym mid_length) p.scratch.laid;
        room = omega (arith, mid_length, scratch_long 1 bytes entry p.refusal);
        out_room = long;
      }

      pub rule_promised : {out-exit exit : List ℕ} {answer : Written} → MadePromise bytes out out-exit mid exit answer
          → RulePromise bytes out out-exit entry exit answer
      rule_promised {exit = exit} m = record {
        refusal = buffer_long long (passed_before _ _ p.refusal m.refusal);
        answered = m.answered;
        scratch = long_left rule_size out entry long (zeros_left 1 bytes entry p.refusal mid exit mid_length m.scratch);
      }
