-- Rules of any finite size: a product table with an element for each letter (a morphism), and marked pairs with their grades
-- (a marking). Document 01, "What a rule means" and the paragraph on demand 3; document 02, Job 12. No limit of the file format
-- stands here. The definitions of this crate take a table as it is; what they say is the documents' where the table is lawful.
-- Assumes nothing.
use Rattle.std.specs.Prelude.{ℕ, ◌<◌, ◌≡◌, Bool, List, [], ◌∷◌, leb}
use Rattle.theory.specs.Words.{Over}

-- a product table with "an element for each of the same k letters": elements are the numbers below `size`, letters those
-- below `letters`; what the two functions give at other numbers means nothing
pub record Morphism : Type 0 where
  pub size : ℕ
  pub letters : ℕ
  pub product : ℕ → ℕ → ℕ
  pub image : ℕ → ℕ

-- "a finite associative product table, an element for each of the same k letters": asked of elements and letters only
pub record Lawful (m : Morphism) : Type 0 where
  pub closed : (a b : ℕ) → a < m.size → b < m.size → m.product a b < m.size
  pub associative : (a b c : ℕ) → a < m.size → b < m.size → c < m.size
      → m.product (m.product a b) c ≡ m.product a (m.product b c)
  pub images : (a : ℕ) → a < m.letters → m.image a < m.size

-- "any marked pairs": the grade of each pair of elements, 0 where it is not marked ("an unlisted pair has grade 0", Job 12); at
-- other numbers it means nothing
abbrev pub Marking : Type 0
Marking = ℕ → ℕ → ℕ

-- a set of pairs, as a test
abbrev pub Pairs : Type 0
Pairs = ℕ → ℕ → Bool

-- the pairs that a marking gives the grade g or more: "the pairs marked with that or more" (Job 12), for a least grade g. Those of
-- level 1 are the marked ones.
unfoldable pub level : ℕ → Marking → Pairs
level g marks s e = leb g (marks s e)

-- "every rule of any finite size: a finite associative product table, an element for each of the same k letters, and any
-- marked pairs"; rivals are values of this type, and "a rival's marks have grades too" (Job 12)
pub record Rule : Type 0 where
  pub morphism : Morphism
  pub lawful : Lawful morphism
  pub marks : Marking

-- the value of a word: an element for a word that is not empty, and none for the empty word
pub data Value : Type 0 where
  none : Value
  element : ℕ → Value
  deriving Discrete as Value-discrete

-- the product of two values; an empty word adds nothing
unfoldable pub join : Morphism → Value → Value → Value
join m none y = y
join m (element s) none = element s
join m (element s) (element t) = element (m.product s t)

-- "The value of a non-empty word is the product of its letters' elements."
unfoldable pub value : Morphism → List ℕ → Value
unfolding join
value m [] = none
value m (a ∷ w) = join m (element (m.image a)) (value m w)

-- a word that has the value x; for none that is the empty word
pub record ValueWord (m : Morphism) (x : Value) : Type 0 where
  pub word : List ℕ
  pub over : Over m.letters word
  pub its_value : value m word ≡ x

-- a word that has the element for its value (refusal 6 is for an element that "is no word's value")
abbrev pub WordOf : Morphism → ℕ → Type 0
WordOf m s = ValueWord m (element s)

-- every element is some word's value
pub record AllReached (m : Morphism) : Type 0 where
  pub word_of : (s : ℕ) → s < m.size → WordOf m s
