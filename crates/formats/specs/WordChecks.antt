-- The checks 10 and 11 of the words of a call. Document 01, "Order of the checks"; document 02, Job 4. Assumes nothing.
use Rattle.std.specs.Prelude.{ℕ, ◌≤◌, ◌<◌, ◌≡◌, ◌⊎◌, List, [], ◌∷◌, length, get_or}
use Rattle.answer.specs.declared.Refusal.TheVariants.{UnknownLetter, WordLength}
use Rattle.answer.specs.Checks.{Check}

-- "Document 01's length for u becomes 0 to 4,224" (Job 4)
abbrev pub shortest_start : ℕ
shortest_start = 0

-- "calls take 1 to 4,224 letters", now of v only
abbrev pub shortest_cycle : ℕ
shortest_cycle = 1

abbrev pub longest_word : ℕ
longest_word = 4224

-- 11 "v outside 1 to 4,224, u above 4,224" (Job 4), for a word of at least `shortest` letters; place 0
pub record LengthOutAt (shortest : ℕ) (w : List ℕ) (place : ℕ) : Type 0 where
  pub outside : (length w < shortest) ⊎ (longest_word < length w)
  pub is_place : place ≡ 0

-- 10 "a word .. has a letter of k or more"; place "its position", the first
pub record UnknownLetterAt (k : ℕ) (w : List ℕ) (place : ℕ) : Type 0 where
  pub inside : place < length w
  pub foreign : k ≤ get_or w place 0
  pub first : (i : ℕ) → i < place → get_or w i 0 < k

-- "11 for u, then v, .. 10 in u then v"; "for 10 and 11 in a word, 1 for u and 2 for v"
abbrev pub lasso_checks : ℕ → List ℕ → List ℕ → List Check
lasso_checks k u v =
    record { refusal = WordLength; input = 1; Fails = LengthOutAt shortest_start u }
    ∷ record { refusal = WordLength; input = 2; Fails = LengthOutAt shortest_cycle v }
    ∷ record { refusal = UnknownLetter; input = 1; Fails = UnknownLetterAt k u }
    ∷ record { refusal = UnknownLetter; input = 2; Fails = UnknownLetterAt k v }
    ∷ []
