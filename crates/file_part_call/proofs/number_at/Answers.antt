-- `file_part_call::number_at` meets its contract: a list has the default past its end. Assumes nothing.
use mathlib.Core.Path.{refl, sym}
use native.Mathlib.Omega.{arith}
use mir.Facts.{Fits-8_64}
use lib.ListN.{get_or-eq_default}
use Rattle.file_part_call.proofs.number_at.Goals as goal

pub overflow_cast-result : goal.overflow_cast-result
overflow_cast-result c = Fits-8_64 (c.type_inv.bytes _)

pub returns-then-i-bytes : goal.returns-then-i-bytes
returns-then-i-bytes c = record {
  is = refl;
  small = omega (arith, c.type_inv.bytes c.args.i);
}

pub returns : goal.returns
returns c = record {
  is = sym (get_or-eq_default c.args.bytes.now 0 c.if-i-bytes.false);
  small = omega arith;
}
