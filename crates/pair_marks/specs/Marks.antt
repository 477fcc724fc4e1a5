-- The marks of the rule of the pairs, as they are laid out. Assumes nothing.
use Rattle.std.specs.Prelude.{ℕ, ◌≡◌, List}
use Rattle.theory.specs.Pairs.{Linked}
use Rattle.promises.specs.declared.Operation.{Operation}
use Rattle.promises.specs.Combine.{combined_grade}
use Rattle.scratch.specs.Map.{second_base, search_end, marks_from}
use Rattle.pair_list.specs.Pairs.{left_at, right_at}
use Rattle.rule_laid.specs.Laid.{laid_table}

-- the grade combined from those that the tables at 61440 and 4096 give the halves
unfoldable pub pair_grade : Operation → List ℕ → ℕ → ℕ → ℕ
pair_grade operation scratch i j =
    combined_grade operation (marks_from scratch search_end (left_at scratch i) (left_at scratch j)) (marks_from scratch second_base (right_at scratch i) (right_at scratch j))

-- the mark of two places: that grade where the laid products link them, else 0
pub record PairMark (operation : Operation) (count : ℕ) (scratch : List ℕ) (i j byte : ℕ) : Type 0 where
  pub of_linked : Linked (laid_table scratch count) i j → byte ≡ pair_grade operation scratch i j
  pub of_others : (Linked (laid_table scratch count) i j → ⊥) → byte ≡ 0
