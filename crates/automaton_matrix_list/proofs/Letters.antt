-- The letters' matrices begin the list: each letter is followed from the empty word. Assumes nothing.
use Prim.Native.Nat.{ℕ, ◌<◌}
use mathlib.Core.List.{List}
use native.Mathlib.Omega.{arith}
use Rattle.finite.proofs.FirstWords.{Sooner, sooner_parent, sooner_letter}
use Rattle.buchi.specs.Matrices.{SameEntries}
use Rattle.buchi.proofs.Products.{same_sym}
use Rattle.automaton_products.specs.Arrays.{entry_in}
use Rattle.automaton_matrices.specs.Bytes.{LetterNeeds, IsLetter}
use Rattle.automaton_matrix_search.specs.Lists.{ListNeeds, MatrixList, step_entry}
use Rattle.automaton_matrix_search.specs.Steps.{Following}
use Rattle.scratch.proofs.Unchanged.{unchanged_none}
use Rattle.automaton_matrix_list.proofs.Following.{following_start}

-- the bytes of the next letter are there
pub letter_place_lem : {kinds : List ℕ} {n k total x : ℕ} {entry now : List ℕ} → ListNeeds kinds n k entry → MatrixList n now total → x < k → LetterNeeds kinds n now x
letter_place_lem place list h =
    let few = place.few_letters in
    let room = list.room in
    record { few_states = place.few_states; letter_small = omega arith; kinds_long = place.kinds_long; steps_long = omega arith }

-- nothing comes sooner than the first letter from the empty word
none_sooner : {q y : ℕ} → Sooner q y 0 0 → ⊥
none_sooner (sooner_parent h) = omega arith
none_sooner (sooner_letter e h) = omega arith

module _ {kinds : List ℕ} {n k : ℕ} {entry : List ℕ} (place : ListNeeds kinds n k entry) where
  empty_list : MatrixList n entry 0
  empty_list = record {
    few_states = place.few_states;
    room = place.room;
    few = omega arith;
    entries = λ i h. absurd (omega arith);
    apart = λ i j h. absurd (omega arith);
  }

  pub letters_start : Following kinds n k entry 0 0 entry 0 0
  letters_start = following_start (record {
    kept = unchanged_none _ _ _;
    words = record { list = empty_list; words = λ i h. absurd (omega arith) };
    steps = λ q y s l. absurd (none_sooner s);
    found = λ j h. absurd (omega arith);
  })

-- the letter's own matrix is what it makes of the empty word
pub letter_made : {kinds : List ℕ} {n x : ℕ} {now : List ℕ} {m : List (List ℕ)} → IsLetter kinds n now x m → SameEntries n (entry_in m) (step_entry kinds n now 0 x)
unfolding step_entry
letter_made l = same_sym l.same
