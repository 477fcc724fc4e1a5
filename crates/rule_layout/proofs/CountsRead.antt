-- The counts of a rule file, each read at the place that the counts before it give. Assumes nothing.
use Prim.Native.Nat.{ℕ, ◌+◌, ◌*◌}
use mathlib.Core.Path.{◌≡◌, ap, ◌∙◌}
use mathlib.Core.List.{List}
use lib.ListN.{get_or}
use Rattle.formats.specs.Sections.{two_bytes}
use Rattle.formats.specs.RuleFile.{elements_of, letters_at, letters_of, marks_at, marks_of, mark_width, rule_end}
use Rattle.rule_layout.specs.declared.Shape.{Shape}
use Rattle.rule_layout.specs.Answers.{IsShape}

pub shape_read : (bytes : List ℕ) {n k c : ℕ} → n ≡ elements_of bytes → k ≡ get_or bytes (1 + n * n) 0 → c ≡ two_bytes bytes (1 + n * n + (1 + k))
    → IsShape bytes (record { elements = n; letters = k; marks = c })
unfolding letters_at letters_of marks_at marks_of
shape_read bytes {n} en ek ec =
    let letters = ek ∙ ap (λ (x : ℕ). get_or bytes (1 + x * x) 0) en in
    record {
      elements = en;
      letters = letters;
      marks = ec ∙ ap (λ (x : ℕ). two_bytes bytes (1 + n * n + (1 + x))) letters ∙ ap (λ (x : ℕ). two_bytes bytes (1 + x * x + (1 + letters_of bytes))) en;
    }

-- where the marks' section stands by the counts that were read, and where it ends
module _ {bytes : List ℕ} {shape : Shape} (s : IsShape bytes shape) where
  pub shape_marks_at : 1 + shape.elements * shape.elements + (1 + shape.letters) ≡ marks_at bytes
  unfolding marks_at letters_at
  shape_marks_at =
      ap (λ (x : ℕ). 1 + x * x + (1 + shape.letters)) s.elements ∙ ap (λ (x : ℕ). 1 + elements_of bytes * elements_of bytes + (1 + x)) s.letters

  pub shape_end : 1 + shape.elements * shape.elements + (1 + shape.letters) + (2 + mark_width * shape.marks) ≡ rule_end bytes
  unfolding rule_end
  shape_end = ap (λ (x : ℕ). x + (2 + mark_width * shape.marks)) shape_marks_at ∙ ap (λ (x : ℕ). marks_at bytes + (2 + mark_width * x)) s.marks
