-- `automaton_file::repeated_fault` meets its contract: the transitions passed so far differ and are laid out in the table. Assumes nothing.
use Prim.Native.Nat.{◌≤◌}
use lib.ListN.{length}
use Rattle.formats.specs.AutomatonFile.{states_of, automaton_letters_of}
use Rattle.automaton_file.specs.Answers.{TransitionsLaid}
use Rattle.automaton_file.proofs.RepeatedOrder.{AllFresh}
use Rattle.automaton_file.proofs.Laid.{among_first}
use Rattle.automaton_file.proofs.repeated_fault.Given as goal

abbrev pub invariant-loop-i : goal.invariant-loop-i
invariant-loop-i l = AllFresh l.bytes l.i × TransitionsLaid (among_first l.bytes l.i) (states_of l.bytes) (automaton_letters_of l.bytes) (length l.initial.table) l.table × (l.i ≤ l.count)
