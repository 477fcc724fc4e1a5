use Rattle.std.proofs.Common.{◌≡◌, ◌+◌, ◌*◌, get_or, arith}
use Rattle.mark_search_list.specs.Queue.{parent_at}
use Rattle.scratch.specs.Map.{parents_low_base, parents_high_base}
use Rattle.mark_cycles.proofs.parent.Goals as goal

pub returns : goal.returns
unfolding parent_at
returns c =
    let bytes = c.args.scratch.now in
    let e : c.from_le_bytes.result ≡ get_or bytes (parents_low_base + c.args.i) 0 + get_or bytes (parents_high_base + c.args.i) 0 * 256 = c.from_le_bytes.ensures in
    omega arith
