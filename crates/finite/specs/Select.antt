-- The list of what a function gives at the numbers below a bound that pass a test, in rising order. Assumes nothing.
use Rattle.std.specs.Prelude.{Bool, cond, List, [], ◌∷◌, ℕ, zero, suc}

-- f at those of the k numbers from i on that pass p
unfoldable pub select_from : {A : Type 0} → ℕ → ℕ → (ℕ → Bool) → (ℕ → A) → List A
select_from zero i p f = []
select_from (suc k) i p f =
    let rest = select_from k (suc i) p f in
    cond (p i) (f i ∷ rest) rest

-- f at the numbers below n that pass p
unfoldable pub select : {A : Type 0} → ℕ → (ℕ → Bool) → (ℕ → A) → List A
select n p f = select_from n 0 p f
