-- The order of the checks of `included`, and the input that each is told of: 13 of u, of v and of scratch, the rule's own with input 1, the second
-- section's with input 2. Assumes nothing.
use Prim.Native.Nat.{ℕ, ◌≤◌, ◌<◌}
use mathlib.Core.List.{List}
use lib.ListN.{length}
use Rattle.answer.specs.declared.Refusal.{Refusal}
use Rattle.answer.specs.declared.Refusal.TheVariants.{BufferTooShort}
use Rattle.answer.specs.Checks.{Verdict, passed, refused, FirstFailure}
use Rattle.answer.proofs.Order.{passed_before, refused_before}
use Rattle.formats.specs.RuleChecks.{rule_checks, second_marks_checks, scratch_size}
use Rattle.formats.specs.Calls.{checked_checks}
use Rattle.formats.proofs.Buffers.{buffer_short, buffer_long}
use Rattle.promises.specs.Inclusion.{start_size, cycle_size, inclusion_checks}

module _ (bytes second u v scratch : List ℕ) where
  -- a short buffer, whatever the files are
  pub short_start_first : length u < start_size → FirstFailure (inclusion_checks bytes second u v scratch) (refused BufferTooShort 1 0)
  short_start_first short = buffer_short short

  module _ (start-long : start_size ≤ length u) where
    pub short_cycle_next : length v < cycle_size → FirstFailure (inclusion_checks bytes second u v scratch) (refused BufferTooShort 1 0)
    short_cycle_next short = buffer_long start-long (buffer_short short)

    module _ (cycle-long : cycle_size ≤ length v) where
      pub short_scratch_next : length scratch < scratch_size → FirstFailure (inclusion_checks bytes second u v scratch) (refused BufferTooShort 1 0)
      short_scratch_next short = buffer_long start-long (buffer_long cycle-long (refused_before (checked_checks 1 bytes scratch) _ (buffer_short short)))

      module _ (room : scratch_size ≤ length scratch) where
        -- a refusal of the rule, whatever the second section is
        pub rule_next : (r : Refusal) (place : ℕ) → FirstFailure (rule_checks 1 bytes) (refused r 1 place)
            → FirstFailure (inclusion_checks bytes second u v scratch) (refused r 1 place)
        rule_next r place p =
            buffer_long start-long (buffer_long cycle-long (refused_before (checked_checks 1 bytes scratch) (second_marks_checks 2 bytes second) (buffer_long room p)))

        -- then the second section decides, as input 2
        pub second_last : {w : Verdict} → FirstFailure (rule_checks 1 bytes) passed → FirstFailure (second_marks_checks 2 bytes second) w
            → FirstFailure (inclusion_checks bytes second u v scratch) w
        second_last passes p =
            buffer_long start-long (buffer_long cycle-long (passed_before (checked_checks 1 bytes scratch) (second_marks_checks 2 bytes second) (buffer_long room passes) p))
