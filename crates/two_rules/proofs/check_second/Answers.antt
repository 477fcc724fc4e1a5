-- `two_rules::check_second` meets its contract: the file is checked in the part that is lent for it. Assumes nothing.
use Rattle.two_rules.proofs.Checking.{second_verdict}
use Rattle.two_rules.proofs.check_second.Goals as goal

pub returns : goal.returns
returns c =
    second_verdict _ c.requires _ _ c.check_rule.result c.check_rule.ensures
