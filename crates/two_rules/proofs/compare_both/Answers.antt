-- `two_rules::compare_both` meets its contract: the letter counts are compared, then the strengths are decided. Assumes nothing.
use Rattle.two_rules.proofs.Calling.{first_is_table, second_is_table, first_needs, second_needs}
use Rattle.two_rules.proofs.Comparing.{letters_differ, first_refused, second_refused, both_strong}
use Rattle.two_rules.proofs.compare_both.Goals as goal

pub returns-then-first_letters-second_letters : goal.returns-then-first_letters-second_letters
returns-then-first_letters-second_letters c = letters_differ c.requires c.if-first_letters-second_letters.true

pub decide_both-requires : goal.decide_both-requires
decide_both-requires c =
    let p = c.requires.checked in record {
      table = first_is_table _ _ _ p;
      table_2 = second_is_table _ _ _ p;
      decide_needs = first_needs _ _ _ p;
      decide_needs_2 = second_needs _ _ _ p;
    }

pub returns-in-FirstWeak : goal.returns-in-FirstWeak
returns-in-FirstWeak c =
    first_refused c.requires c.if-first_letters-second_letters.false _ c.decide_both.ensures c.in-FirstWeak.is

pub returns-in-SecondWeak : goal.returns-in-SecondWeak
returns-in-SecondWeak c =
    second_refused c.requires c.if-first_letters-second_letters.false _ c.decide_both.ensures c.in-SecondWeak.is

pub returns-in-Strong : goal.returns-in-Strong
returns-in-Strong c =
    both_strong c.requires c.if-first_letters-second_letters.false _ c.decide_both.ensures c.in-Strong.is
