-- The rule is laid out in two steps, the marks behind the products: what the first says holds at the end. Assumes nothing.
use Prim.Native.Nat.{ℕ, ◌+◌, ◌*◌, ◌<◌}
use mathlib.Core.Path.{sym, subst}
use mathlib.Core.List.{List}
use native.Mathlib.Omega.{arith}
use Rattle.automaton_matrix_search.specs.Lists.{KeptBelow}
use Rattle.scratch.specs.Rows.{RowsFilled}
use Rattle.scratch.proofs.Unchanged.{unchanged_both, unchanged_wider}
use Rattle.scratch.proofs.Rows.{square_small, pair_small}
use Rattle.automaton_table.specs.Laying.{StepList, ProductNumber, MarkNeeds, MarkByte, laid_rule, RuleLaid}
use Rattle.automaton_table.proofs.Staying.{product_number_stays}
use Rattle.automaton_table.proofs.Marks.{mark_stays}
use Rattle.automaton_table.proofs.Rows.{marks_place}
use Rattle.scratch.specs.Map.{laid_products_base, laid_marks_base}

module _ {kinds : List ℕ} {n count : ℕ} {entry mid : List ℕ} (l : StepList kinds n entry count)
    (a : (kinds : List ℕ) (n : ℕ) → StepList kinds n entry count → RowsFilled (ProductNumber n count entry) laid_products_base count count count entry mid) where
  pub marks_next : MarkNeeds kinds n entry count → MarkNeeds kinds n mid count
  marks_next p = marks_place p (a kinds n l).kept

  module _ {exit : List ℕ} (c : RowsFilled (MarkByte kinds n count mid) laid_marks_base 64 count count mid exit) where
    marks_only : KeptBelow laid_marks_base mid exit
    marks_only = unchanged_wider (omega arith) (omega (arith, l.list.few)) c.kept

    all : KeptBelow laid_products_base entry exit
    all =
        unchanged_both (unchanged_wider (omega arith) (omega (arith, square_small l.list.few)) (a kinds n l).kept)
        (unchanged_wider (omega arith) (omega arith) marks_only)

    product_laid : (i j : ℕ) → i < count → j < count → ProductNumber n count exit i j ((laid_rule exit count 0).product i j)
    product_laid i j hi hj =
        subst (ProductNumber n count exit i j) (sym (c.kept.before (laid_products_base + (i * count + j)) (omega (arith, pair_small count i j l.list.few hi hj))))
        (product_number_stays all l.list.few_states l.list.few hi hj ((a kinds n l).filled i j hi hj))

    pub rule_laid : RuleLaid kinds n count entry exit
    rule_laid = record {
      kept = all;
      products = product_laid;
      marks = λ s e hs he. mark_stays marks_only l.list.few_states l.list.few hs he (c.filled s e hs he);
    }
