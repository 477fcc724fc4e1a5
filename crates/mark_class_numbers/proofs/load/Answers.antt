-- `mark_class_numbers::load` meets its contract: the two bytes are read where they stand, and each is below 256. Assumes nothing.
use Rattle.std.proofs.Common.{◌≡◌, ◌+◌, ◌*◌, get_or, arith}
use Rattle.formats.specs.Sections.{two_bytes}
use Rattle.mark_class_numbers.proofs.load.Goals as goal

pub returns : goal.returns
unfolding two_bytes
returns c =
    let bytes = c.args.out.now in
    let e : c.from_le_bytes.result ≡ get_or bytes c.args.at 0 + get_or bytes (c.args.at + 1) 0 * 256 = c.from_le_bytes.ensures in
    record { is_number = omega arith; small = omega (arith, c.type_inv.out c.args.at, c.type_inv.out (c.args.at + 1)) }
