-- The table of document 01's small rules, whole. Assumes nothing.
use Rattle.examples.specs.Examples.{Examples}
use Rattle.examples.proofs.Passing.{checks_to}
use Rattle.examples.proofs.Rules.{W_all_marks, W_passes, Z_passes, Z₀_passes, W_counts, Z_counts, W_accepts, W_refuses, Z_refuses, Z_accepts, Z_pair, Z_same_pair, Z_conjugate, W_strong, Z_weak, Z₀_strong, Z₀_not_closed}
use Rattle.examples.proofs.Refusals.{not_associative_refused, unreached_refused}
use Rattle.examples.proofs.Reductions.{W_reduces, Z₀_reduces}
use Rattle.examples.proofs.Writing.{W_all_bytes}
use Rattle.examples.proofs.Automata.{automaton_reduces}

pub examples : Examples
examples = record {
  m1 = (checks_to W_passes, W_counts, W_strong, W_reduces);
  m2 = W_accepts;
  m3 = W_refuses;
  m4 = (W_all_marks, W_all_bytes);
  m5 = (checks_to Z_passes, Z_counts);
  m6 = (Z_weak, (Z_refuses, Z_pair, Z_conjugate), (Z_accepts, Z_same_pair));
  m7 = (checks_to Z₀_passes, Z₀_strong, Z₀_not_closed, Z₀_reduces);
  m8 = checks_to not_associative_refused;
  m9 = checks_to unreached_refused;
  m10 = automaton_reduces;
}
