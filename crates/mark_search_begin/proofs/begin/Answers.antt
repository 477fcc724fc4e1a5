use Rattle.mark_search_begin.proofs.Beginning.{begun_start, begun_place, begun_next, begun_all}
use Rattle.mark_search_begin.proofs.begin.Goals as goal

pub loop-e-init : goal.loop-e-init
loop-e-init c = begun_start _ c.requires.base c.requires

pub begin_with-count-requires : goal.begin_with-count-requires
begin_with-count-requires c = record {
  begin_needs = begun_place _ c.requires.base c.loop-e.invariant;
  e_lt_n = c.loop-e-test.true;
}

pub loop-e-preserved : goal.loop-e-preserved
loop-e-preserved c = begun_next _ c.requires.base c.loop-e.invariant c.loop-e-test.true c.begin_with-count.ensures

pub shape_of-scratch : goal.shape_of-scratch
shape_of-scratch c = c.loop-e.invariant.grown.kept.same_length

pub returns : goal.returns
returns c = begun_all _ c.requires.base c.loop-e.invariant c.loop-e-test.false
