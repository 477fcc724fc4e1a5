-- A table whose elements, in the order of their numbers, are what a search in breadth from the empty word finds is numbered by
-- first words. Assumes nothing.
use Prim.Native.Nat.{ℕ, zero, suc, ◌<◌}
use mathlib.Core.Path.{refl, sym, ◌∙◌}
use mathlib.Core.Logic.{◌≢◌}
use native.Mathlib.Omega.{arith}
use native.Mathlib.Decide.{ℕ_discrete}
use Rattle.finite.proofs.Worklist.{Entry}
use Rattle.finite.proofs.FirstWords.{FirstOrder, first_word, FirstWord, first_word_lem, words_increase}
use Rattle.finite.proofs.Explore.{discrete_equality}
use Rattle.finite.proofs.Discovery.{Discovery, first_order}
use Rattle.theory.specs.Rules.{Morphism, Lawful, Value, none, element, join, Value-discrete}
use Rattle.theory.proofs.Values.{element_same, element_apart}
use Rattle.rule_reach.specs.Reach.{word_step}
use Rattle.rule_reach.proofs.Words.{word_value}
use Rattle.formats.specs.FirstWords.{ByFirstWords}

-- entry 0 of the search is the empty word, entry s + 1 element s
unfoldable pub entry : ℕ → Value
entry zero = none
entry (suc s) = element s

module _ {m : Morphism} (law : Lawful m) where
  -- no entry stands twice
  apart : (i j : ℕ) → i < j → j < suc m.size → entry i ≢ entry j
  unfolding entry
  apart zero (suc j) h l e = element_apart (sym e)
  apart (suc i) (suc j) h l e = omega (arith, element_same e)
  apart i zero h l e = omega arith

  -- a letter leads from each entry to an entry
  closed : (i x : ℕ) → i < suc m.size → x < m.letters → Entry entry (suc m.size) (word_step m x (entry i))
  unfolding entry word_step join
  closed zero x h l = record { at = suc (m.image x); below = let b = law.images x l in omega arith; same = refl }
  closed (suc i) x h l =
      let b = law.closed i (m.image x) (omega arith) (law.images x l) in
      record { at = suc (m.product i (m.image x)); below = omega arith; same = refl }

  module _ {parent letter : ℕ → ℕ} (order : FirstOrder none (word_step m) m.letters entry (suc m.size) parent letter) where
    ordered : ByFirstWords m
    unfolding entry
    ordered = record {
      word = λ s. first_word parent letter (suc s);
      first = λ s h.
          let f : FirstWord none (word_step m) m.letters (element s) (first_word parent letter (suc s)) = first_word_lem order (suc s) (omega arith) in
          record { over = f.over; its_value = sym (word_value law f.over) ∙ f.leads; least = λ v o e. f.least v o (word_value law o ∙ e) };
      increasing = λ s t l h. words_increase order (suc s) (suc t) (omega arith) (omega arith);
    }

  -- each element found from an entry before it, after all that is found sooner
  pub found_by_first_words : ((j : ℕ) → 0 < j → j < suc m.size → Discovery (word_step m) m.letters entry j) → ByFirstWords m
  unfolding entry
  found_by_first_words found = ordered (first_order (discrete_equality (Value-discrete ℕ_discrete)) apart refl (omega arith) closed found)
