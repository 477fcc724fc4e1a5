-- The product of one matrix of the list with a letter's matrix, which is read by its number: a word's matrix, and what the letter makes
-- of the entry. Assumes nothing.
use Rattle.std.proofs.Common.{Some, None}
use Prim.Native.Nat.{ℕ, ◌+◌, ◌≤◌, ◌<◌}
use mathlib.Core.Path.{◌≡◌, subst}
use mathlib.Core.List.{List}
use native.Mathlib.Numerals.{add-one}
use native.Mathlib.Omega.{arith}
use lib.ListN.{get_or}
use Rattle.finite.proofs.FirstWords.{sooner_parent}
use Rattle.buchi.specs.Matrices.{SameEntries}
use Rattle.buchi.proofs.Products.{product_same, same_sym, same_trans}
use Rattle.buchi.proofs.WordMatrices.{letter_matrix}
use Rattle.automaton_products.specs.Arrays.{entry_in, MatrixShape, IsProduct}
use Rattle.automaton_matrices.specs.Bytes.{letter_entry, IsLetter, MatrixNeeds, Loaded}
use Rattle.automaton_matrices.proofs.Letters.{stands_letter}
use Rattle.automaton_matrices.proofs.Storing.{loaded_same, loaded_shape}
use Rattle.automaton_matrix_search.specs.Lists.{matrix_at, step_place, next_at, Kept, step_entry, StepNumber}
use Rattle.automaton_matrix_search.specs.Steps.{Full, StepTaken, IsWord, LetterList, SearchAt, Multiplied, ProductsAdded}
use Rattle.automaton_matrix_search.proofs.Finding.{list_place}
use Rattle.scratch.proofs.Unchanged.{unchanged_both}
use Rattle.automaton_matrix_search.proofs.Growing.{grown_refl, grown_trans}
use Rattle.automaton_matrix_list.proofs.Following.{following_start, following_next, following_full}
use Rattle.automaton_matrix_list.proofs.Words.{word_same, word_letter}

module _ {n k count from : ℕ} {entry : List ℕ} (l : LetterList n k entry count) (inside : from < count) where
  pub from_place : MatrixNeeds entry 8192 from
  from_place = let few = l.list.few in list_place l.list (omega arith)

  pub left_shape : {left : List (List ℕ)} → Loaded entry 8192 from left → MatrixShape n left
  left_shape a = loaded_shape (l.list.entries from inside) a

  pub multiplied_start : Multiplied n k entry count (from + 1) entry count 0
  multiplied_start = record { grown = grown_refl l.list; letters = l; following = λ kinds s. following_start s.taken }

  module _ {now : List ℕ} {total x : ℕ} (r : Multiplied n k entry count (from + 1) now total x) (h : x < k) where
    -- the letter's matrix, by its number
    right_below : get_or now (12288 + x) 0 < total
    right_below =
        let e : step_place 0 x ≡ 12288 + x = omega arith in
        subst (λ i. get_or now i 0 < total) e (r.letters.letters x h)

    pub right_place : MatrixNeeds now 8192 (get_or now (12288 + x) 0)
    right_place = list_place r.letters.list (omega (arith, right_below, r.letters.list.few))

    pub right_shape : {right : List (List ℕ)} → Loaded now 8192 (get_or now (12288 + x) 0) right → MatrixShape n right
    right_shape a = loaded_shape (r.letters.list.entries (get_or now (12288 + x) 0) right_below) a

    -- its product with the matrix at hand
    module _ {left right m : List (List ℕ)} (a : Loaded entry 8192 from left) (b : Loaded now 8192 (get_or now (12288 + x) 0) right) (p : IsProduct n left right m) where
      left_same : SameEntries n (matrix_at now from) (entry_in left)
      left_same = same_trans (same_sym (r.grown.same from inside)) (loaded_same l.list.few_states a)

      module _ (kinds : List ℕ) (s : SearchAt n k entry count (from + 1) kinds) where
        letter_number : StepNumber kinds n now total 0 x (get_or now (12288 + x) 0)
        letter_number =
            let e : step_place 0 x ≡ 12288 + x = omega arith in
            subst (λ i. StepNumber kinds n now total 0 x (get_or now i 0)) e ((r.following kinds s).taken.steps 0 x (sooner_parent (omega arith)) h)

        right_letter : IsLetter kinds n now x right
        unfolding step_entry
        right_letter =
            let same : SameEntries n (letter_entry kinds now x) (entry_in right) = same_trans letter_number.same (loaded_same l.list.few_states b) in
            record {
              shape = right_shape b;
              same = same;
              is_letter = λ t e d g. same_trans (subst (λ c. SameEntries c (letter_matrix t x) (letter_entry kinds now x)) d (stands_letter e x g)) same;
            }

        product_word : IsWord kinds n k now (entry_in m)
        product_word =
            let more = r.grown.more in
            word_same p.same (word_letter h right_letter (word_same left_same ((r.following kinds s).taken.words.words from (omega arith))))

        product_made : SameEntries n (entry_in m) (step_entry kinds n now (from + 1) x)
        unfolding step_entry
        product_made = rw (add-one from) (same_trans (same_sym p.same) (product_same (same_sym left_same) (same_sym right_letter.same)))

      -- the letters' numbers stand before the byte of this step
      letters_kept : {next : List ℕ} {total' : ℕ} → StepTaken n now total m (from + 1) x next total' → LetterList n k next total'
      letters_kept {next} t =
          let few = l.few_letters in
          let more = t.added.grown.more in
          record {
            few_letters = few;
            list = t.added.grown.list;
            letters = λ y g.
                let e : next_at next 0 y ≡ next_at now 0 y = t.others (step_place 0 y) (omega arith) (omega arith) (omega arith) (omega arith) in
                omega (arith, e, r.letters.letters y g);
          }

      pub multiplied_next : {next : List ℕ} {total' : ℕ} → StepTaken n now total m (from + 1) x next total' → Multiplied n k entry count (from + 1) next total' (x + 1)
      multiplied_next t = record {
        grown = grown_trans r.grown t.added.grown;
        letters = letters_kept t;
        following = λ kinds s. following_next s.place (omega arith) (r.following kinds s) h (product_word kinds s) (product_made kinds s) t;
      }

      -- or the list is full
      pub multiplied_full : {next : List ℕ} → Full n now total m → Kept now next → ProductsAdded n k entry count (from + 1) next None
      multiplied_full d e = record {
        kept = unchanged_both r.grown.kept e;
        says = record {
          rich = λ kinds s. (following_full s.place (omega arith) (r.following kinds s) h (product_word kinds s) (product_made kinds s) d e).says;
        };
      }

  -- every letter was followed
  pub multiplied_all : {now : List ℕ} {total x : ℕ} → Multiplied n k entry count (from + 1) now total x → x ≤ k → k ≤ x → ProductsAdded n k entry count (from + 1) now (Some total)
  multiplied_all {now} {total} {x} r h g = let e : x ≡ k = omega arith in record { kept = r.grown.kept; says = rw e at r }
