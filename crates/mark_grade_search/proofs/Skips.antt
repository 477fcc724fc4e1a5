-- A grade that no pair of the first marking has need not be searched: a cycle that escapes there escapes at a higher grade.
-- Assumes nothing.
use Rattle.std.proofs.Common.{ℕ, ◌<◌, ◌≤◌, List, arith}
use Rattle.theory.specs.Rules.{Morphism, Lawful, Marking, level}
use Rattle.theory.proofs.Values.{inside_of}
use Rattle.theory.proofs.Escapes.{Escapes}
use Rattle.theory.proofs.Gradings.{level_up, level_down, level_falls}

module _ {m : Morphism} (law : Lawful m) (F S : Marking) where
  -- no mark of s lies between the two grades
  pub skipped_grade : (g h s : ℕ) {v : List ℕ} → g ≤ h → ((e : ℕ) → e < m.size → g ≤ F s e → h ≤ F s e) → Escapes m (level g F) (level g S) s v
      → Escapes m (level h F) (level h S) s v
  skipped_grade g h s l above x = record {
    over = x.over;
    cycle_element = x.cycle_element;
    cycle_value = x.cycle_value;
    has_mark = level_up F h s x.cycle_element (above x.cycle_element (inside_of law x.over x.cycle_value) (level_down F g s x.cycle_element x.has_mark));
    no_split = λ k. x.no_split (record {
      front = k.front;
      back = k.back;
      parts = k.parts;
      front_element = k.front_element;
      front_value = k.front_value;
      has_mark = level_falls S g h _ _ l k.has_mark;
    });
  }

  -- no mark of s is that high
  pub none_above : (g s : ℕ) {v : List ℕ} → ((e : ℕ) → e < m.size → F s e < g) → Escapes m (level g F) (level g S) s v → ⊥
  none_above g s low x =
      omega (arith, level_down F g s x.cycle_element x.has_mark, low x.cycle_element (inside_of law x.over x.cycle_value))
