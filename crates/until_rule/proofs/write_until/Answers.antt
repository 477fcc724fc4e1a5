-- The list, the grades, and the rule of the classes one after the other. Assumes nothing.
use Rattle.until_rule.proofs.Writing.{until_full, marks_place, write_place, until_written}
use Rattle.until_rule.proofs.write_until.Goals as goal

pub list_until-requires : goal.list_until-requires
list_until-requires c = c.requires.ready

pub returns-in_err-count : goal.returns-in_err-count
returns-in_err-count c = rw c.from_residual.ensures (until_full c.requires c.list_until.ensures c.in_err-count.was)

pub lay_until-requires : goal.lay_until-requires
lay_until-requires c =
    marks_place c.requires c.list_until.ensures c.in_ok-count.was

pub write_words-requires : goal.write_words-requires
write_words-requires c =
    write_place c.requires c.list_until.ensures c.in_ok-count.was c.lay_until.ensures

pub shape_of-classes : goal.shape_of-classes
shape_of-classes c =
    c.list_until.ensures.classes_length

pub shape_of-scratch : goal.shape_of-scratch
shape_of-scratch c =
    (until_written c.requires c.list_until.ensures c.in_ok-count.was c.lay_until.ensures c.write_words.ensures).same_length

pub returns : goal.returns
returns c =
    until_written c.requires c.list_until.ensures c.in_ok-count.was c.lay_until.ensures c.write_words.ensures
