-- The theorem on the numbers of refusals. Document 02, Job 10: "take number 9 out of the table and out of the code, and don't use the number again"; and each
-- number names one refusal. Assumes nothing.
use Rattle.std.specs.Prelude.{◌≡◌}
use Rattle.answer.specs.declared.Refusal.{Refusal}
use Rattle.answer.specs.Refusals.{number_of}

pub record NumbersTheorem : Type 0 where
  pub no_nine : (r : Refusal) → ¬ (number_of r ≡ 9)
  pub one_refusal : (r r' : Refusal) → number_of r ≡ number_of r' → r ≡ r'
