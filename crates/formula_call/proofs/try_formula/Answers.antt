-- `formula_call::try_formula` meets its contract: the pass over the bytes, and then the run. Assumes nothing.
use Rattle.std.proofs.lemmas.Result.{err_from_is_err_and}
use Rattle.formula_run.proofs.Rooms.{lengths_none}
use Rattle.formula_call.proofs.Answers.{scan-passed, tried-ran, tried-refused}
use Rattle.formula_call.proofs.try_formula.Goals as goal

pub run_operations-requires : goal.run_operations-requires
run_operations-requires c = record {
  first_failure = scan-passed c.scan.ensures c.in_ok-scan.was;
  lent_room = c.requires;
}

pub returns : goal.returns
returns c = record {
  tried = tried-ran c.scan.ensures c.in_ok-scan.was c.run_operations.ensures.ran;
  lengths = c.run_operations.ensures.lengths;
}

pub returns-in_err-scan : goal.returns-in_err-scan
returns-in_err-scan c =
    let p = err_from_is_err_and c.from_residual.result c.from_residual.ensures.1 in record {
      tried = rw (p.1, p.2) (tried-refused c.scan.ensures c.in_err-scan.was);
      lengths = lengths_none;
    }
