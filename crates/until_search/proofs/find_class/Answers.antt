-- The loop holds that none of the classes so far is the one. Assumes nothing.
use native.Mathlib.Omega.{arith}
use Rattle.until_search.proofs.Finding.{unfound_start, found_here, unfound_more, unfound_all}
use Rattle.until_search.proofs.find_class.Goals as goal

pub loop-j-init : goal.loop-j-init
loop-j-init c = unfound_start

pub same_class-requires : goal.same_class-requires
same_class-requires c = record {
  search_needs = c.requires.search_needs;
  j_bound = omega (arith, c.loop-j-test.true, c.requires.count_bound);
}

pub returns-then-same_class : goal.returns-then-same_class
returns-then-same_class c = found_here c.loop-j.invariant c.loop-j-test.true c.same_class.ensures c.if-same_class.true

pub loop-j-preserved : goal.loop-j-preserved
loop-j-preserved c = unfound_more c.loop-j.invariant c.loop-j-test.true c.same_class.ensures c.if-same_class.false

pub returns : goal.returns
returns c = unfound_all c.loop-j.invariant c.loop-j-test.false
