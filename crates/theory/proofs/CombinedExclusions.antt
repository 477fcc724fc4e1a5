-- What the definitions of the table of the pairs of values leave out, beside one such table: for each a case that it excludes, and for one
-- that asks several things a case for each. Assumes nothing.
use Prim.Native.Nat.{ℕ, zero, suc, ◌*◌, ◌-◌, ◌<◌}
use mathlib.Core.Path.{◌≡◌, refl, sym, ap₂, ◌∙◌}
use mathlib.Core.Bool.{Bool, ◌&&◌}
use mathlib.Core.List.{List, [], ◌∷◌}
use native.Mathlib.Omega.{arith}
use lib.ListN.{get_or}
use lib.Dec.{T, eqb}
use mir.Facts.{eqb_yes}
use Rattle.finite.proofs.Tests.{T_and_left, T_and_right}
use Rattle.finite.proofs.Search.{all_below, all_elim}
use Rattle.theory.specs.Rules.{Morphism, Lawful, element, value}
use Rattle.theory.specs.Maps.{Carries}
use Rattle.theory.specs.Combined.{PairWord, PairsOf, MorePairs}
use Rattle.theory.proofs.Combined.{PairThere, word_there, pairs_size, pairs_more, more_pairs}
use Rattle.theory.proofs.ShortWords.{reached_intro}
use Rattle.theory.proofs.TableTests.{all_pairs, all_pairs_elim, lawful_elim}
use Rattle.theory.proofs.Computing.{computing, over_test, over_elim}
use Rattle.theory.proofs.SmallRules.{table, meet_rows, parity_rows, W, Z, W₀}
use Rattle.theory.proofs.EveryLasso.{one}
use Rattle.theory.proofs.Exclusions.{no_word}

-- W's table with its letters exchanged, and with one letter, of image 1; Z's with its letters exchanged
abbrev turned : Morphism
turned = table meet_rows (1 ∷ 0 ∷ [])

abbrev ones : Morphism
ones = table meet_rows (1 ∷ [])

abbrev parity : Morphism
parity = table parity_rows (0 ∷ 1 ∷ [])

abbrev itself : ℕ → ℕ
itself s = s

-- a map that is not carried by: a product of another table, a letter's element of another
pub other_products : ¬ Carries W parity itself
other_products f =
    let e : ◌≡◌ {A = ℕ} 1 0 = f.products 1 1 (omega arith) (omega arith) in
    omega arith

pub other_images : ¬ Carries W turned itself
other_images f =
    let e : ◌≡◌ {A = ℕ} 0 1 = f.images 0 (omega arith) in
    omega arith

-- ---- the pairs of W and Z: (0, 1), (1, 0) and (0, 0)

abbrev pub WZ : Morphism
WZ = table ((2 ∷ 0 ∷ 0 ∷ []) ∷ (0 ∷ 1 ∷ 2 ∷ []) ∷ (0 ∷ 2 ∷ 2 ∷ []) ∷ []) (0 ∷ 1 ∷ [])

abbrev pub WZ_left : ℕ → ℕ
WZ_left a = get_or (0 ∷ 1 ∷ 0 ∷ []) a 0

abbrev pub WZ_right : ℕ → ℕ
WZ_right a = get_or (1 ∷ 0 ∷ 0 ∷ []) a 0

pub WZ_lawful : Lawful WZ
unfolding computing
WZ_lawful = lawful_elim WZ tt

unfoldable carries_test : Morphism → Morphism → (ℕ → ℕ) → Bool
carries_test a b to =
    all_pairs a.size (λ s t. eqb (to (a.product s t)) (b.product (to s) (to t))) && all_below a.letters (λ x. eqb (to (a.image x)) (b.image x))

carries_elim : (a b : Morphism) (to : ℕ → ℕ) → T (carries_test a b to) → Carries a b to
unfolding carries_test
carries_elim a b to t = record {
  products = λ x y hx hy.
      eqb_yes (all_pairs_elim a.size (λ s t. eqb (to (a.product s t)) (b.product (to s) (to t)))
      (T_and_left (all_pairs a.size (λ s t. eqb (to (a.product s t)) (b.product (to s) (to t)))) _ t) x y hx hy);
  images = λ x h.
      eqb_yes (all_elim a.letters (λ x. eqb (to (a.image x)) (b.image x))
      (T_and_right (all_pairs a.size (λ s t. eqb (to (a.product s t)) (b.product (to s) (to t)))) _ t) x h);
}

-- a word of the letters 0 and 1 with its two values
pair_word : {s t : ℕ} (w : List ℕ) → T (over_test 2 w) → value W w ≡ element s → value Z w ≡ element t → PairWord W Z s t
pair_word w o e₁ e₂ = record { word = w; over = over_elim 2 w o; first_value = e₁; second_value = e₂ }

-- a pair tells its number
WZ_number : (a : ℕ) → a < 3 → a ≡ 2 - 2 * WZ_right a - WZ_left a
unfolding computing
WZ_number a h = eqb_yes (all_elim 3 (λ a. eqb a (2 - 2 * WZ_right a - WZ_left a)) tt a h)

pub WZ_pairs : PairsOf W Z WZ WZ_left WZ_right
unfolding computing carries_test
WZ_pairs = record {
  first_letters = refl;
  second_letters = refl;
  first = carries_elim WZ W WZ_left tt;
  second = carries_elim WZ Z WZ_right tt;
  apart = λ a b ha hb e₁ e₂. WZ_number a ha ∙ ap₂ (λ (s t : ℕ). 2 - 2 * t - s) e₁ e₂ ∙ sym (WZ_number b hb);
  some_word = words;
}
  where
    words : (a : ℕ) → a < 3 → PairWord W Z (WZ_left a) (WZ_right a)
    words zero h = pair_word (0 ∷ []) tt refl refl
    words (suc zero) h = pair_word (1 ∷ []) tt refl refl
    words (suc (suc zero)) h = pair_word (0 ∷ 0 ∷ []) tt refl refl
    words (suc (suc (suc a))) h = absurd (omega arith)

-- no word has the pair (1, 1): with the value 1 in W it has ones only, whose value in Z is 0
pub no_such_pair : ¬ PairWord W Z 1 1
unfolding computing
no_such_pair w =
    let k : PairThere WZ WZ_left WZ_right 1 1 = word_there WZ_pairs WZ_lawful w in
    let h : WZ_left k.at * WZ_right k.at ≡ 0 = eqb_yes (all_elim 3 (λ a. eqb (WZ_left a * WZ_right a) 0) tt k.at k.inside) in
    let e : ◌≡◌ {A = ℕ} 1 0 = sym (ap₂ ◌*◌ k.left_is k.right_is) ∙ h in
    omega arith

-- a word is over the letters of the tables: one with ones only has the pair (1, 1)
pub foreign_pair : ¬ PairWord ones ones 0 0
unfolding computing
foreign_pair w = reached_intro (lawful_elim ones tt) (record { word = w.word; over = w.over; its_value = w.first_value })

-- two of the pairs are not all
pub pair_left_out : {m : Morphism} {left right : ℕ → ℕ} → Lawful m → m.size ≡ 2 → ¬ PairsOf W Z m left right
pair_left_out law e p = omega (arith, pairs_size p WZ_pairs law WZ_lawful)

-- ---- no tables of pairs: other letters than one of the two; products or letters of another table; a pair twice; a pair of no word

pub more_letters_than_first : ¬ PairsOf (one 1) (one 2) (one 2) itself itself
more_letters_than_first p = let e : ◌≡◌ {A = ℕ} 2 1 = p.first_letters in omega arith

pub more_letters_than_second : ¬ PairsOf (one 2) (one 1) (one 2) itself itself
more_letters_than_second p = let e : ◌≡◌ {A = ℕ} 2 1 = p.second_letters in omega arith

pub pairs_other_first : ¬ PairsOf parity W W itself itself
pairs_other_first p = other_products p.first

pub pairs_other_second : ¬ PairsOf W turned W itself itself
pairs_other_second p = other_images p.second

pub pair_twice : ¬ PairsOf (one 2) (one 2) W (λ a. 0) (λ a. 0)
pair_twice p =
    let e : ◌≡◌ {A = ℕ} 0 1 = p.apart 0 1 (omega arith) (omega arith) refl refl in
    omega arith

pub pair_of_no_word : ¬ PairsOf W₀ W₀ W₀ itself itself
pair_of_no_word p =
    let w = p.some_word 1 (omega arith) in
    no_word (record { word = w.word; over = w.over; its_value = w.first_value })

-- ---- W and Z have more than two pairs, and not more than three

pub more_than_two : MorePairs W Z 2
more_than_two = pairs_more WZ_pairs (omega arith)

pub not_more_than_three : ¬ MorePairs W Z 3
not_more_than_three k = omega (arith, more_pairs WZ_pairs WZ_lawful k)
