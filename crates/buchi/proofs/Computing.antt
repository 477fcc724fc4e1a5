-- One name that opens every test of this crate, so that a test of a given automaton or table can be computed: a proof names it
-- on its `unfolding` line. Assumes nothing.
use mathlib.Core.Bool.{Bool, true}
use Rattle.finite.specs.Search.{any_below}
use Rattle.finite.proofs.Search.{all_below, least_below, least_from}
use Rattle.theory.proofs.Words.{repeat}
use Rattle.theory.proofs.Closure.{linked_test}
use Rattle.theory.proofs.TableTests.{all_pairs}
use Rattle.buchi.specs.Matrices.{entries_through, greatest, product}
use Rattle.buchi.proofs.WordMatrices.{letter_matrix, matrix_of}
use Rattle.buchi.proofs.MatrixTests.{same_test, returns_at, returns_from, recurs_test, settles, run_test}
use Rattle.buchi.proofs.AutomatonRule.{run_pairs, run_marks}
use Rattle.buchi.proofs.MatrixLists.{number_of, listed_morphism}
use Rattle.buchi.proofs.TableTest.{letters_test, product_is, apart_test, matrices_test}

-- opens all of these
unfoldable pub testing : Bool
unfolding any_below all_below least_below least_from repeat linked_test all_pairs entries_through greatest product letter_matrix matrix_of same_test returns_at returns_from recurs_test settles run_test run_pairs run_marks number_of listed_morphism letters_test product_is apart_test matrices_test
testing = true
