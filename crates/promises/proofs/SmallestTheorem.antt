-- What `reduce` prints is the smallest rule with the same grades, read from its bytes. Assumes nothing.
use Prim.Native.Nat.{ℕ}
use mathlib.Core.List.{List}
use Rattle.theory.specs.Rules.{Rule}
use Rattle.theory.specs.Smallest.{SameGrades}
use Rattle.theory.proofs.SameGrades.{same_back, same_on}
use Rattle.formats.proofs.ReadRules.{reads_marks}
use Rattle.promises.specs.Reduce.{rule_of}
use Rattle.promises.specs.Printed.{Prints}
use Rattle.promises.specs.SmallestTheorem.{SmallestPrinted, SmallestTheorem}
use Rattle.promises.proofs.Confirmed.{own_reduces}
use Rattle.promises.proofs.Printing.{reduced_to, written_reads}

module _ {bytes file : List ℕ} (p : Prints bytes file) where
  printed_smallest : SmallestPrinted bytes file
  printed_smallest =
      let a = reduced_to p in
      let own = own_reduces a p.printed a.map_written in
      let smallest = own.reduced.smallest in
      let over : (rival : Rule) → SameGrades (rule_of bytes own.first_lawful) rival → SameGrades (rule_of file own.second_lawful) rival =
      λ rival s. same_on (same_back own.reduced.same) s in
      record {
        lawful = own.first_lawful;
        file_lawful = own.second_lawful;
        strong = smallest.strong;
        marked = reads_marks a.reduced.lawful (written_reads p) a.reduction.marks;
        same = own.reduced.same;
        no_larger = λ rival strong s. smallest.at_least rival strong (over rival s);
        copy = λ rival strong s size. smallest.copy rival strong (over rival s) size;
      }

pub smallest_theorem : SmallestTheorem
smallest_theorem = record { smallest = λ bytes file p. printed_smallest p }
