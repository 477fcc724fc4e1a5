-- Two reductions of rules that give each lasso the same grade and that are numbered by first words are one: they have one table, one image for each
-- letter and the same marks, and so one file. Assumes nothing.
use Prim.Native.Nat.{ℕ}
use mathlib.Core.Path.{◌≡◌, refl}
use mathlib.Core.List.{List}
use Rattle.theory.specs.Rules.{Rule, Lawful}
use Rattle.theory.specs.Smallest.{SameGrades, Reduction}
use Rattle.theory.proofs.SameGrades.{same_back, reductions_grades, reductions_size}
use Rattle.formats.specs.WrittenFile.{file_of}
use Rattle.formats.specs.FirstWords.{ByFirstWords}
use Rattle.formats.specs.RuleFile.{morphism_of}
use Rattle.formats.proofs.OneFile.{one_file}
use Rattle.promises.specs.Reduce.{rule_of}

-- the rule of a file is the same for either proof that its table is lawful
pub same_rule : (bytes : List ℕ) {l l' : Lawful (morphism_of bytes)} → SameGrades (rule_of bytes l) (rule_of bytes l')
same_rule bytes = record { same_letters = refl; both_or_neither = λ g some u v l. (λ k. k, λ k. k) }

-- numbered by first words they are written as one file
pub reductions_file : {r r' x y : Rule} → SameGrades r r' → Reduction r x → Reduction r' y → ByFirstWords x.morphism → ByFirstWords y.morphism
    → file_of y.morphism y.marks ≡ file_of x.morphism x.marks
reductions_file {x = x} {y = y} s p q nx ny =
    let both = reductions_grades s p q in
    let size = reductions_size s p q in
    one_file x y (q.smallest.copy x p.smallest.strong (same_back both) size) size nx ny p.marks q.marks both
