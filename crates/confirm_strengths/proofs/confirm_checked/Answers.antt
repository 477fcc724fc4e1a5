-- `confirm_strengths::confirm_checked` meets its contract: the strengths are decided, then the questions about the map. Assumes nothing.
use Rattle.two_rules.proofs.Calling.{first_is_table, second_is_table, first_needs, second_needs}
use Rattle.confirm_strengths.proofs.Deciding.{first_weak, second_weak, strong_place, said_yes, said_no}
use Rattle.confirm_strengths.proofs.confirm_checked.Goals as goal

pub decide_both-requires : goal.decide_both-requires
decide_both-requires c =
    let p = c.requires.checked in record {
      table = first_is_table _ _ _ p;
      table_2 = second_is_table _ _ _ p;
      decide_needs = first_needs _ _ _ p;
      decide_needs_2 = second_needs _ _ _ p;
    }

pub returns-in-FirstWeak : goal.returns-in-FirstWeak
returns-in-FirstWeak c =
    first_weak c.requires _ c.decide_both.ensures c.in-FirstWeak.is

pub returns-in-SecondWeak : goal.returns-in-SecondWeak
returns-in-SecondWeak c =
    second_weak c.requires _ c.decide_both.ensures c.in-SecondWeak.is

pub reduces-requires : goal.reduces-requires
reduces-requires c =
    strong_place c.requires _ c.decide_both.ensures c.in-Strong.is

pub returns-then-reduces : goal.returns-then-reduces
returns-then-reduces c =
    said_yes c.requires _ c.decide_both.ensures c.in-Strong.is c.reduces.ensures c.if-reduces.true

pub returns : goal.returns
returns c =
    said_no c.requires _ c.decide_both.ensures c.in-Strong.is c.reduces.ensures c.if-reduces.false
