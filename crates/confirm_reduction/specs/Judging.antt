-- What is answered of two strong rules and a map, and on the way there. Assumes nothing.
use Rattle.std.specs.Prelude.{ℕ, ◌+◌, ◌≡◌, Bool, List, length, get_or}
use Rattle.finite.specs.Tells.{Tells}
use Rattle.scratch.specs.Map.{blocks_base}
use Rattle.finite.specs.Each.{EachBelow}
use Rattle.promises.specs.Confirm.{ReducesBy}

-- each of the first n elements is the least of its block
abbrev pub EachAlone : ℕ → List ℕ → Type 0
EachAlone n scratch = EachBelow (λ s. get_or scratch (blocks_base + s) 0 ≡ s) n

-- whether the bytes reduce the first rule to the second; scratch keeps its length
pub record MapJudged (first second map entry exit : List ℕ) (answer : Bool) : Type 0 where
  pub tells : Tells (ReducesBy first second map) answer
  pub same_length : length exit ≡ length entry
