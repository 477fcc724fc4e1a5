-- Each case is one of the definition's. Assumes nothing.
use borrow.Author.Rules.{rules}
use Rattle.promises.specs.Combine.{combined_grade}
use Rattle.pair_marks.proofs.combine_grades.Goals as goal

pub returns-in-Both : goal.returns-in-Both
unfolding combined_grade
returns-in-Both c = rw c.in-Both.is (search rules)

pub returns-in-Either : goal.returns-in-Either
unfolding combined_grade
returns-in-Either c = rw c.in-Either.is (search rules)

pub returns-in-Without : goal.returns-in-Without
unfolding combined_grade
returns-in-Without c = rw c.in-Without.is (search rules)
