-- What stands in parts of scratch is written as the file of every rule that it agrees with; and tables that link the same pairs. Assumes nothing.
use Prim.Native.Nat.{ℕ, ◌+◌, ◌*◌, ◌-◌, ◌<◌}
use mathlib.Core.Path.{◌≡◌, sym, subst, ◌∙◌}
use mathlib.Core.List.{List}
use native.Mathlib.Omega.{arith}
use native.Mathlib.Nat.{mul-le-mul}
use lib.ListN.{length, get_or, take, drop, length-drop}
use lib.Seq.{get_or-drop}
use Rattle.theory.specs.Rules.{Morphism, Marking}
use Rattle.theory.specs.Pairs.{Linked}
use Rattle.formats.proofs.SectionList.{rest_of}
use Rattle.scratch.specs.Map.{laid_products_base, laid_marks_base}
use Rattle.rule_bytes.specs.Writing.{table_marks}
use Rattle.rule_writer.specs.Writing.{table_morphism, RuleNeeds, table_file}
use Rattle.formats.proofs.Agree.{Agree}
use Rattle.formats.proofs.Same.{SameMarks, file_same}
use Rattle.formats.specs.Front.{AtFront}
use Rattle.formats.proofs.Front.{front_same}
use Rattle.rule_laid.specs.Laid.{LaidNeeds, LaidAs, LaidWritten}

-- a byte of a part of scratch
part_byte : (scratch : List ℕ) (at i : ℕ) → get_or (take (length scratch - at) (drop at scratch)) i 0 ≡ get_or scratch (at + i) 0
part_byte scratch at i = rw (rest_of scratch at) (get_or-drop at scratch i 0)

part_length : (scratch : List ℕ) (at : ℕ) → length (take (length scratch - at) (drop at scratch)) ≡ length scratch - at
part_length scratch at = rw (rest_of scratch at) (length-drop at scratch)

-- a part of scratch, as the code takes it
abbrev pub part : List ℕ → ℕ → List ℕ
part scratch at = take (length scratch - at) (drop at scratch)

module _ {images count k : ℕ} {scratch out : List ℕ} (p : LaidNeeds images count k scratch out) where
  -- the parts are long enough for the tables
  pub laid_place : RuleNeeds (part scratch laid_products_base) (part scratch images) (part scratch laid_marks_base) count k out
  laid_place = record {
    some = p.some;
    small = p.small;
    letters_some = p.letters_some;
    letters_small = p.letters_small;
    table_long = omega (arith, part_length scratch laid_products_base, p.room, mul-le-mul p.small p.small);
    images_long = omega (arith, part_length scratch images, p.images_inside, p.room, p.letters_small);
    marks_long = omega (arith, part_length scratch laid_marks_base, p.room);
    room = p.out_room;
  }

-- what was written is the file of every rule that the tables agree with
pub laid_written : {images count k : ℕ} {scratch before after : List ℕ} {end : ℕ}
    → AtFront (table_file (part scratch laid_products_base) (part scratch images) (part scratch laid_marks_base) count k) before after end → LaidWritten images count k scratch before after end
unfolding table_marks
laid_written {images} {count} {k} {scratch} {before} {after} {end} w = record {
  written = λ m marks l. front_same (file_same (agree m marks l) (graded m marks l)) w;
}
  where
    agree : (m : Morphism) (marks : Marking) → LaidAs m marks images count k scratch → Agree m (table_morphism (part scratch laid_products_base) (part scratch images) count k)
    agree m marks l = record {
      same_size = sym l.size_is;
      same_letters = sym l.letters_are;
      same_product = λ a b ha hb.
          part_byte scratch laid_products_base (a * count + b) ∙ l.products a b (subst (λ (x : ℕ). a < x) l.size_is ha) (subst (λ (x : ℕ). b < x) l.size_is hb);
      same_image = λ a ha. part_byte scratch images a ∙ l.elements a (subst (λ (x : ℕ). a < x) l.letters_are ha);
    }

    graded : (m : Morphism) (marks : Marking) → LaidAs m marks images count k scratch → SameMarks m.size marks (table_marks (part scratch laid_marks_base))
    graded m marks l = record {
      same = λ s e hs he.
          part_byte scratch laid_marks_base (s * 64 + e)
          ∙ l.grades s e (subst (λ (x : ℕ). s < x) l.size_is hs) (subst (λ (x : ℕ). e < x) l.size_is he);
    }

-- a table with the same products links the same pairs
pub linked_alike : {m m' : Morphism} → m'.size ≡ m.size → ((i j : ℕ) → i < m.size → j < m.size → m'.product i j ≡ m.product i j) → {s e : ℕ}
    → Linked m s e → Linked m' s e
linked_alike sizes same {s} {e} l = record {
  inside = omega (arith, l.inside);
  idempotent = record { inside = omega (arith, l.idempotent.inside); square = same e e l.idempotent.inside l.idempotent.inside ∙ l.idempotent.square };
  stays = same s e l.inside l.idempotent.inside ∙ l.stays;
}
