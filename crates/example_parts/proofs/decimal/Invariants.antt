-- `example_parts::decimal` meets its contract: each turn adds one byte's digit, and the loop ends at the text's end. Assumes nothing.
use Rattle.example_parts.proofs.Digits.{ReadSoFar}
use Rattle.example_parts.proofs.decimal.Given as goal

abbrev pub invariant-loop-byte : goal.invariant-loop-byte
invariant-loop-byte l = ReadSoFar l.text l.byte-index l.n
