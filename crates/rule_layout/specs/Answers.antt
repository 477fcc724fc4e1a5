-- What the answers of this crate's functions say. Assumes nothing.
use Rattle.std.specs.Prelude.{ℕ, ◌≡◌, List, Result, Ok, Err}
use Rattle.answer.specs.declared.Fault.{Fault}
use Rattle.answer.specs.Checks.{passed, refused, FirstFailure}
use Rattle.formats.specs.RuleFile.{elements_of, letters_of, marks_of}
use Rattle.formats.specs.RuleChecks.{layout_checks}
use Rattle.rule_layout.specs.declared.Shape.{Shape}

-- the counts of a rule file
pub record IsShape (bytes : List ℕ) (shape : Shape) : Type 0 where
  pub elements : shape.elements ≡ elements_of bytes
  pub letters : shape.letters ≡ letters_of bytes
  pub marks : shape.marks ≡ marks_of bytes

pub record LayoutPassed (bytes : List ℕ) (shape : Shape) : Type 0 where
  pub shape_is : IsShape bytes shape
  pub refusal : (input : ℕ) → FirstFailure (layout_checks input bytes) passed

abbrev pub LayoutAnswer : List ℕ → Result Shape Fault → Type 0
LayoutAnswer bytes (Ok shape) = LayoutPassed bytes shape
LayoutAnswer bytes (Err f) = (input : ℕ) → FirstFailure (layout_checks input bytes) (refused f.refusal input f.place)
