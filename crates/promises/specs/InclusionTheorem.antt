-- The theorem on the bytes that `included` leaves: where it finds a lasso, the letters at the fronts of u and v are one that the first marking grades
-- higher, and every byte behind them is kept. Assumes nothing.
use Rattle.std.specs.Prelude.{ℕ, ◌≡◌, List, length, take, drop}
use Rattle.theory.specs.Inclusion.{HigherGraded}
use Rattle.formats.specs.RuleFile.{morphism_of, marking_of}
use Rattle.promises.specs.declared.Inclusion.TheVariants.{NotIncluded}
use Rattle.promises.specs.Inclusion.{second_marking, InclusionPromise}

-- a letters of u and b of v, by what is in the buffers alone
pub record LassoInBuffers (bytes second u u-exit v v-exit : List ℕ) (a b : ℕ) : Type 0 where
  pub lasso : HigherGraded (morphism_of bytes) (marking_of bytes) (second_marking second) (take a u-exit) (take b v-exit)
  pub letters_of_u : length (take a u-exit) ≡ a
  pub letters_of_v : length (take b v-exit) ≡ b
  pub rest_of_u : drop a u-exit ≡ drop a u
  pub rest_of_v : drop b v-exit ≡ drop b v

pub record InclusionTheorem : Type 0 where
  pub in_buffers : (bytes second u u-exit v v-exit entry exit : List ℕ) (a b : ℕ) → InclusionPromise bytes second u u-exit v v-exit entry exit (NotIncluded a b)
      → LassoInBuffers bytes second u u-exit v v-exit a b
