-- What the answers of this crate's functions say. Assumes nothing.
use Rattle.std.specs.Prelude.{ℕ, ◌≤◌, ◌<◌, List, length, get_or, Result, Ok, Err}
use Rattle.answer.specs.declared.Refused.{Refused}
use Rattle.answer.specs.Checks.{passed, refused, FirstFailure}
use Rattle.formats.specs.WordChecks.{shortest_start, shortest_cycle, longest_word, lasso_checks}

-- a word that the calls take: its length in the range, from `shortest` letters on, its letters below k
pub record GoodWord (shortest k : ℕ) (w : List ℕ) : Type 0 where
  pub some : shortest ≤ length w
  pub short : length w ≤ longest_word
  pub letters : (i : ℕ) → i < length w → get_or w i 0 < k

-- both words are good
pub record GoodLasso (k : ℕ) (u v : List ℕ) : Type 0 where
  pub start : GoodWord shortest_start k u
  pub cycle : GoodWord shortest_cycle k v
  pub refusal : FirstFailure (lasso_checks k u v) passed

abbrev pub LassoAnswer : ℕ → List ℕ → List ℕ → Result (Unit {0}) Refused → Type 0
LassoAnswer k u v (Ok done) = GoodLasso k u v
LassoAnswer k u v (Err r) = FirstFailure (lasso_checks k u v) (refused r.refusal r.input r.place)
