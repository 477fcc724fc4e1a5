-- `confirm_grades::grades_kept` meets its contract: `all` over the elements tells whether each column is kept. Assumes nothing.
use mathlib.Core.Path.{refl}
use Rattle.std.proofs.Common.{rules}
use Rattle.confirm_map.proofs.Passing.{all_told}
use Rattle.confirm_grades.proofs.Keeping.{grades_told}
use Rattle.confirm_grades.proofs.grades_kept.Goals as goal

pub returns : goal.returns
returns c = grades_told (all_told _ _ _ refl c.all.ensures.ran (λ x b q k. search rules))
