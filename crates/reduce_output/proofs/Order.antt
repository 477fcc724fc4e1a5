-- The rule of the blocks is numbered by first words, since the blocks are numbered in the order of theirs. Assumes nothing.
use Prim.Native.Nat.{ℕ, ◌<◌}
use mathlib.Core.Path.{◌≡◌, refl, sym, ap, ◌∙◌}
use mathlib.Core.List.{List}
use Rattle.finite.specs.Shortlex.{NotAfter}
use Rattle.theory.specs.Words.{Over}
use Rattle.theory.specs.Rules.{Morphism, Lawful, Value, element, value}
use Rattle.theory.proofs.Values.{Inside, inside_none, inside_element, element_same, element_apart, value_inside}
use Rattle.theory.proofs.Carried.{renamed}
use Rattle.minimality.proofs.Quotient.{quotient, quotient_value}
use Rattle.formats.specs.FirstWords.{ByFirstWords}
use Rattle.reduce_numbering.specs.Numbering.{NumberedAs, WordsInOrder}

module _ {m : Morphism} {acc : ℕ → ℕ → ℕ} {c : ℕ} {scratch : List ℕ} (law : Lawful m) (b : NumberedAs m acc c scratch) (o : WordsInOrder m c scratch) where
  -- a word whose value is in a block stands no earlier than the block's first word
  not_earlier : (j : ℕ) → j < c → (v : List ℕ) → Over m.letters v → (x : Value) → value m v ≡ x → Inside m x → renamed b.numbering.number x ≡ element j
      → NotAfter (o.word j) v
  unfolding renamed
  not_earlier j h v r x e inside_none d = absurd (element_apart (sym d))
  not_earlier j h v r x e (inside_element {s} l) d = (o.first j h).least v s r l e (sym (b.numbers s) ∙ element_same d)

  pub quotient_by_first_words : ByFirstWords (quotient b.numbering)
  unfolding quotient renamed
  quotient_by_first_words = record {
    word = o.word;
    first = λ j h.
        let f = o.first j h in
        record {
          over = f.over;
          its_value = quotient_value law b.numbering f.over ∙ ap (renamed b.numbering.number) f.its_value ∙ ap element (b.numbers _ ∙ f.its_number);
          least = λ v r e. not_earlier j h v r (value m v) refl (value_inside law r) (sym (quotient_value law b.numbering r) ∙ e);
        };
    increasing = o.increasing;
  }
