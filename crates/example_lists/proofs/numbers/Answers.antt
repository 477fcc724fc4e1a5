-- `example_lists::numbers` meets its contract: each turn stores what one word more stands for, and a list has no other words.
-- Assumes nothing.
use mathlib.Core.Path.{refl, ◌∙◌}
use borrow.Author.Rules.{rules}
use borrow.Author.Tests.{tests}
use lib.Dec.{eqb}
use lib.ListN.{length-append}
use Rattle.std.proofs.lemmas.Iterator.Splits.{YieldsList-from_slice_split}
use Rattle.std.proofs.lemmas.Iterator.Consumers.{YieldsList-at}
use Rattle.example_parts.specs.Parts.{part_of}
use Rattle.example_parts.specs.Digits.{colon}
use Rattle.example_lists.proofs.Storing.{stored_inside, stored_length, stored_counts}
use Rattle.example_lists.proofs.Turns.{turn, end}
use Rattle.example_lists.proofs.Listing.{words_none, words_more, words_all}
use Rattle.example_lists.proofs.numbers.Goals as goal

pub loop-word-init : goal.loop-word-init
loop-word-init c = words_none _ _

pub put-at-requires : goal.put-at-requires
put-at-requires c = stored_inside c.loop-word.invariant.stored

pub loop-word-preserved : goal.loop-word-preserved
loop-word-preserved c =
    let at = turn c.loop-word.yielded c.loop-word.word-iterator c.loop-word.yielded_by c.next.result c.next.new.self c.in-Some.word c.in-Some.is c.next.ensures.steps
    (YieldsList-at c.into_iter-word-iterator.ensures.into_iter_gives
    (YieldsList-from_slice_split _ (λ b. eqb b 32) (part_of colon c.args.k c.args.line.now) (c.split-word-items.ensures.rest ∙ c.part-list.ensures) c.split-word-items.ensures.done
    c.split-word-items.ensures.closure (λ x b q k. search (rules, tests)))) in
    rw length-append (words_more c.loop-word.invariant at c.put-at.ensures)

pub shape_of-out : goal.shape_of-out
shape_of-out c = stored_length c.loop-word.invariant.stored

pub returns : goal.returns
returns c =
    let all = end c.loop-word.yielded c.loop-word.word-iterator c.loop-word.yielded_by c.next.result c.next.new.self c.in-None.is c.next.ensures.steps
    (YieldsList-at c.into_iter-word-iterator.ensures.into_iter_gives
    (YieldsList-from_slice_split _ (λ b. eqb b 32) (part_of colon c.args.k c.args.line.now) (c.split-word-items.ensures.rest ∙ c.part-list.ensures) c.split-word-items.ensures.done
    c.split-word-items.ensures.closure (λ x b q k. search (rules, tests)))) in
    let words = c.loop-word.invariant in record {
      prefix_len = (stored_inside words.stored, stored_counts words.stored);
      list_stored = words_all words all.1 refl;
    }
