-- What `?` hands on: the error that it was given. Assumes nothing.
use Rattle.std.proofs.Common.{◌≡◌, sym, subst, Result, Ok, Err}
use Rattle.std.specs.Result.{IsErrAnd}

-- what holds of an answer that is an error holds of the answer that hands it on
pub passed_on : {T E : Type 0} (P : Result T E → Type 0) (r : Result T E) {e : E} → IsErrAnd r (λ x. x ≡ e) → P (Err e) → P r
passed_on P (Ok v) n p = absurd n
passed_on P (Err x) e p = subst (λ y. P (Err y)) (sym e) p
