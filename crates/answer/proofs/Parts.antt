-- A fault and a refusal by their parts. Assumes nothing.
use Rattle.std.specs.Prelude.{ℕ}
use Rattle.answer.specs.declared.Refusal.{Refusal}
use Rattle.answer.specs.declared.Fault.{Fault}
use Rattle.answer.specs.declared.Refused.{Refused}

abbrev pub fault_by : Refusal → ℕ → Fault
fault_by r place = record { refusal = r; place = place }

abbrev pub refused_by : Refusal → ℕ → ℕ → Refused
refused_by r input place = record { refusal = r; input = input; place = place }
