-- The order of the checks: a list of checks, of which the first that fails decides. Document 01, "Order of the checks".
-- Assumes nothing.
use Rattle.std.specs.Prelude.{ℕ, ◌≡◌, ◌⊎◌, List, [], ◌∷◌, Result, Ok, Err}
use Rattle.answer.specs.declared.Refusal.{Refusal}
use Rattle.answer.specs.declared.Refused.{Refused}
use Rattle.answer.specs.Refusals.{number_of}

-- what the checks of a call come to: "a refusal carries its number, the input it lies in .. and its place"
pub data Verdict : Type 0 where
  passed : Verdict
  numbered : ℕ → ℕ → ℕ → Verdict

-- the verdict of a refusal: its number in the table, the input, the place
abbrev pub refused : Refusal → ℕ → ℕ → Verdict
refused refusal input place = numbered (number_of refusal) input place

-- the verdict of an answer that is a result or a refusal
abbrev pub verdict_of : {T : Type 0} → Result T Refused → Verdict
verdict_of (Ok v) = passed
verdict_of (Err r) = refused r.refusal r.input r.place

-- a line of the table: the refusal, the input looked at, and when it fails at a place
pub record Check : Type 1 where
  pub refusal : Refusal
  pub input : ℕ
  pub Fails : ℕ → Type 0

-- the check does not fail anywhere
pub record Passes (c : Check) : Type 0 where
  pub nowhere : (place : ℕ) → c.Fails place → ⊥

-- the check fails, and the verdict says where
pub record Refuses (c : Check) (v : Verdict) : Type 0 where
  pub place : ℕ
  pub fails : c.Fails place
  pub verdict : v ≡ refused c.refusal c.input place

-- the first check of the list that fails gives the verdict; where none fails it is `passed`
unfoldable pub first_of : List Check → Verdict → Type 0
first_of [] v = v ≡ passed
first_of (c ∷ checks) v = Refuses c v ⊎ (Passes c × first_of checks v)

pub record FirstFailure (checks : List Check) (v : Verdict) : Type 0 where
  pub decided : first_of checks v
