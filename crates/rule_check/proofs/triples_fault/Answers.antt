-- `rule_check::triples_fault` meets its contract: the first triple that does not associate, and after an associative table
-- what words tell. Assumes nothing.
use Rattle.rule_check.proofs.Faults.{not_associative, fault_associative}
use Rattle.rule_check.proofs.triples_fault.Goals as goal

pub returns-in-Some : goal.returns-in-Some
returns-in-Some c = not_associative c.in-Some.ensures

pub returns-in-None : goal.returns-in-None
returns-in-None c = fault_associative _ c.args.told c.in-None.ensures (c.requires.fault_answer c.in-None.ensures)
