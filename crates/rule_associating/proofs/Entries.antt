-- The tests with letters, from the bytes of the worklist to the theory: the elements are made letter by letter along the entries, and
-- each letter's element is an entry that was found from entry 0. Assumes nothing.
use Prim.Native.Nat.{ℕ, zero, suc, ◌+◌, ◌-◌, ◌≤◌, ◌<◌}
use mathlib.Core.Path.{◌≡◌, sym, ap, ◌∙◌, subst}
use mathlib.Core.Logic.{⊎_elim}
use mathlib.Core.Bool.{Bool, true, false, not}
use mathlib.Core.List.{List}
use native.Mathlib.Omega.{arith}
use native.Mathlib.Numerals.{sub-one}
use lib.ListN.{get_or}
use Rattle.finite.proofs.Numbers.{strong_induction, le_or_lt}
use Rattle.theory.specs.Rules.{element, join}
use Rattle.theory.proofs.Values.{element_same}
use Rattle.theory.proofs.Associating.{ByLetters, one, more, LettersAssociate, letters_associate}
use Rattle.formats.proofs.Tables.{Table}
use Rattle.formats.specs.Table.{product_at, image_at, morphism_at}
use Rattle.rule_reach.specs.Reach.{entry_at, parent_at, letter_at, place_at, word_step}
use Rattle.rule_letter_columns.specs.Columns.{AllFound, LetterEntries}
use Rattle.rule_letter_columns.proofs.Entries.{letter_small}
use Rattle.rule_along_words.specs.Tests.{WordsAlong, WordsAnswer}
use Rattle.rule_along_words.proofs.Entries.{LetterEntry, parent_small, letter_entry_lem}
use Rattle.rule_along_words.proofs.Passed.{true_apart}
use Rattle.rule_associating.specs.Tests.{LettersBetween, LettersAnswer, AssociatesAnswer}

-- an entry other than the first holds its element one byte before its number
entry_element : (queue : List ℕ) (p : ℕ) → 0 < p → entry_at queue p ≡ element (get_or queue (p - 1) 0)
unfolding entry_at
entry_element queue zero h = absurd (omega arith)
entry_element queue (suc p) h = rw sub-one

module _ {bytes : List ℕ} {n k : ℕ} {queue : List ℕ} {count : ℕ} (f : AllFound bytes n k queue count) where
  step_entry_lem : (i : ℕ) → i < count → element (get_or queue i 0) ≡ word_step (morphism_at bytes n k) (get_or queue (128 + i) 0) (entry_at queue (get_or queue (64 + i) 0))
  unfolding entry_at parent_at letter_at
  step_entry_lem i h = f.order.step (suc i) (omega arith) (omega arith)

  -- from entry 0: the letter's element
  first_entry : (i : ℕ) → i < count → get_or queue (64 + i) 0 ≡ 0 → get_or queue i 0 ≡ image_at bytes n (get_or queue (128 + i) 0)
  unfolding word_step join entry_at
  first_entry i h e =
      element_same (step_entry_lem i h ∙ ap (λ (p : ℕ). word_step (morphism_at bytes n k) (get_or queue (128 + i) 0) (entry_at queue p)) e)

  -- from another: the product
  later_entry : (i : ℕ) → i < count → 0 < get_or queue (64 + i) 0
      → get_or queue i 0 ≡ product_at bytes n (get_or queue (get_or queue (64 + i) 0 - 1) 0) (image_at bytes n (get_or queue (128 + i) 0))
  unfolding word_step join
  later_entry i h l =
      element_same (step_entry_lem i h ∙ ap (word_step (morphism_at bytes n k) (get_or queue (128 + i) 0)) (entry_element queue (get_or queue (64 + i) 0) l))

  module _ {letters : ℕ} (e : LetterEntries queue count letters) where
    -- so letters make every element
    module _ (w : WordsAlong bytes n k queue letters count) where
      entry_made : (i : ℕ) → i < count → ByLetters (morphism_at bytes n k) (get_or queue i 0)
      entry_made = strong_induction (λ i. i < count → ByLetters (morphism_at bytes n k) (get_or queue i 0)) go
        where
          go : (i : ℕ) → ((j : ℕ) → j < i → j < count → ByLetters (morphism_at bytes n k) (get_or queue j 0)) → i < count
              → ByLetters (morphism_at bytes n k) (get_or queue i 0)
          go i before h =
              ⊎_elim
              (λ l.
              let above : 0 < get_or queue (64 + i) 0 = e.later i l h in
              subst (ByLetters (morphism_at bytes n k)) (sym (later_entry i h above))
              (more (get_or queue (128 + i) 0) (f.inside (get_or queue (64 + i) 0 - 1) (omega (arith, parent_small f i h)))
              (before (get_or queue (64 + i) 0 - 1) (omega (arith, parent_small f i h)) (omega (arith, parent_small f i h))) (letter_small f i h)
              (λ x hx. (w.word i l h).along x hx ∙ ap (product_at bytes n x) (later_entry i h above))))
              (λ l. subst (ByLetters (morphism_at bytes n k)) (sym (first_entry i h (e.first i l))) (one (get_or queue (128 + i) 0) (letter_small f i h)))
              (le_or_lt letters i)

      all_made : (s : ℕ) → s < n → ByLetters (morphism_at bytes n k) s
      all_made s h =
          let l : 0 < place_at queue s = f.have s h in
          let p : place_at queue s ≤ count = (f.places.of_element s h l).0 in
          let q : entry_at queue (place_at queue s) ≡ element s = (f.places.of_element s h l).1 in
          subst (ByLetters (morphism_at bytes n k)) (element_same (sym (entry_element queue (place_at queue s) l) ∙ q)) (entry_made (place_at queue s - 1) (omega arith))

    letters_between : LettersBetween bytes n k queue letters letters → LettersAssociate (morphism_at bytes n k)
    letters_between b = record { between = λ a c x ha hc hx. go (letter_entry_lem f e a ha) (letter_entry_lem f e c hc) x hx }
      where
        go : {a c : ℕ} → LetterEntry bytes n queue letters a → LetterEntry bytes n queue letters c → (x : ℕ) → x < n
            → product_at bytes n (product_at bytes n (image_at bytes n a) x) (image_at bytes n c) ≡ product_at bytes n (image_at bytes n a) (product_at bytes n x (image_at bytes n c))
        go p q x hx = rw⁻¹ (p.same, q.same) ((b.letter p.at q.at p.below q.below).between x hx)

    -- where both tests hold every triple associates
    pub both_associate : Table bytes n k → (w : Bool) → WordsAnswer bytes n k queue letters count w → not w ≡ false
        → (r : Bool) → LettersAnswer bytes n k queue letters r → AssociatesAnswer (morphism_at bytes n k) r
    both_associate t true w q true b = record { associate = letters_associate t.products t.images (letters_between b) (all_made w) }
    both_associate t true w q false b = tt
    both_associate t false w q r b = absurd (true_apart q)
