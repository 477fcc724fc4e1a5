-- `rule_check::rest_after` meets its contract: the part from a place to the end is what is left from there. Assumes nothing.
use Rattle.formats.proofs.SectionList.{rest_of}
use Rattle.rule_check.proofs.rest_after.Goals as goal

pub returns : goal.returns
returns c = rest_of c.args.bytes.now c.args.end
