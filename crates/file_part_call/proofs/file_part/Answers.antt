-- `file_part_call::file_part` meets its contract: as many bytes as there are, or more, are all of them. Assumes nothing.
use mathlib.Core.Path.{refl, sym, ap}
use native.Mathlib.Omega.{arith}
use Prim.Native.Nat.{ℕ}
use lib.ListN.{take}
use lib.Seq.{length-take-le, take_all}
use Rattle.formats.specs.RuleFile.{rule_end}
use Rattle.file_part_call.proofs.file_part.Goals as goal

pub slice_bounds-result-end : goal.slice_bounds-result-end
slice_bounds-result-end c = sym (length-take-le _ _ (omega (arith, c.if-end-bytes.true)))

pub returns-then-end-bytes : goal.returns-then-end-bytes
returns-then-end-bytes c =
    let bytes = c.args.bytes.now in record {
      result_value = ap (λ (x : ℕ). take x bytes) c.end_of-end.ensures;
      place = refl;
    }

pub returns : goal.returns
returns c =
    let bytes = c.args.bytes.now in record {
      result_value = sym (take_all (rule_end bytes) bytes (omega (arith, c.if-end-bytes.false, c.end_of-end.ensures)));
      place = refl;
    }
