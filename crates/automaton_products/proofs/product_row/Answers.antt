-- The outer loop holds the row of the product by the first r states, the inner one that of its first q entries by one state more.
-- Assumes nothing.
use borrow.Author.Rules.{rules}
use Rattle.automaton_products.proofs.Entries.{no_state, state_left_out, state_more, state_all, states_all}
use Rattle.automaton_products.proofs.product_row.Goals as goal
use Rattle.automaton_products.proofs.product_row.Goals.{then-x-ne0+else-loop-q-test, else-x-ne0}

pub loop-r-init : goal.loop-r-init
loop-r-init c = no_state

pub loop-q-preserved : goal.loop-q-preserved
loop-q-preserved c =
    state_more c.loop-q.invariant (search rules) (search rules) c.through-z.ensures (search rules)

pub loop-r-preserved : goal.loop-r-preserved
loop-r-preserved c =
    elim c.if-x-ne0.branch [
      | then-x-ne0+else-loop-q-test w ↦ rw w.out-is (state_all w.loop-q.invariant c.loop-r-test.true w.loop-q-test.false)
      | else-x-ne0 w ↦ rw w.out-is (state_left_out c.loop-r.invariant c.loop-r-test.true w.if-x-ne0.false)
    ]

pub returns : goal.returns
returns c = states_all c.loop-r.invariant c.loop-r-test.false
