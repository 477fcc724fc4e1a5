-- `rule_check::table_fault` meets its contract: where words find every element and the tests with letters hold, nothing is refused; else the
-- triples decide, and where they associate, what words found. Assumes nothing.
use Rattle.std.proofs.Common.{arith, ℕ}
use lib.ListN.{length-replicate}
use Rattle.rule_check.proofs.Faults.{blank_queue, all_found, fault_unreached, all_reached, letters_pass}
use Rattle.rule_check.proofs.table_fault.Goals as goal

pub reach-count-requires-clause-empty : goal.reach-count-requires-clause-empty
reach-count-requires-clause-empty c = blank_queue

pub triples_fault-requires-clause-fault_answer : goal.triples_fault-requires-clause-fault_answer
triples_fault-requires-clause-fault_answer c all =
    fault_unreached c.args.rule.now c.args.n c.args.k c.requires all c.reach-count.ensures c.in-Some.ensures

pub associates-requires : goal.associates-requires
associates-requires c = record {
  table = c.requires;
  all_found = all_found (omega (arith, length-replicate {A = ℕ} 256 0)) c.reach-count.ensures c.in-None.ensures;
}

pub returns-then-associates : goal.returns-then-associates
returns-then-associates c =
    letters_pass c.args.rule.now c.args.n c.args.k c.requires c.reach-count.ensures c.in-None.ensures c.associates.result c.associates.ensures c.if-associates.true

pub triples_fault-requires-2-clause-fault_answer :
    goal.triples_fault-requires-2-clause-fault_answer
triples_fault-requires-2-clause-fault_answer c all =
    all_reached c.args.rule.now c.args.n c.args.k c.requires all c.reach-count.ensures c.in-None.ensures
