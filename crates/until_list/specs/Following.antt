-- What is asked for and what following letters comes to, whatever table and grades stand in scratch. Assumes nothing.
use Rattle.std.specs.Prelude.{ℕ, ◌+◌, ◌≤◌, ◌<◌, ◌≡◌, List, length, Option, Some, None}
use Rattle.theory.specs.Rules.{Morphism}
use Rattle.temporal.specs.Clamps.{MoreUntilClasses}
use Rattle.until_list.specs.Listing.{pairs_table, Listing, Stepped}

-- some table and grades stand in scratch, and the search has come to letter x of entry p; what the entry makes of the grades is worked out
pub record LetterReady (np k : ℕ) (scratch classes : List ℕ) (count p x : ℕ) : Type 0 where
  pub product : ℕ → ℕ → ℕ
  pub image : ℕ → ℕ
  pub first : ℕ → ℕ → ℕ
  pub second : ℕ → ℕ → ℕ
  pub listing : Listing (pairs_table np k product image) first second scratch classes count p x
  pub stepped : Stepped (pairs_table np k product image) first second scratch p
  pub inside : p ≤ count
  pub letter : x < k

-- to the first
pub record EntryReady (np k : ℕ) (scratch classes : List ℕ) (count p : ℕ) : Type 0 where
  pub product : ℕ → ℕ → ℕ
  pub image : ℕ → ℕ
  pub first : ℕ → ℕ → ℕ
  pub second : ℕ → ℕ → ℕ
  pub listing : Listing (pairs_table np k product image) first second scratch classes count p 0
  pub stepped : Stepped (pairs_table np k product image) first second scratch p
  pub inside : p ≤ count

-- without that
pub record EntryListed (np k : ℕ) (scratch classes : List ℕ) (count p : ℕ) : Type 0 where
  pub product : ℕ → ℕ → ℕ
  pub image : ℕ → ℕ
  pub first : ℕ → ℕ → ℕ
  pub second : ℕ → ℕ → ℕ
  pub listing : Listing (pairs_table np k product image) first second scratch classes count p 0
  pub inside : p ≤ count

-- nothing was found yet
pub record ListReady (np k : ℕ) (scratch classes : List ℕ) : Type 0 where
  pub product : ℕ → ℕ → ℕ
  pub image : ℕ → ℕ
  pub first : ℕ → ℕ → ℕ
  pub second : ℕ → ℕ → ℕ
  pub listing : Listing (pairs_table np k product image) first second scratch classes 0 0 0

-- the search has come to letter x of entry p, from a list of count classes on
pub record Grown (m : Morphism) (first second : ℕ → ℕ → ℕ) (exit classes' : List ℕ) (count p x total : ℕ) : Type 0 where
  pub listing : Listing m first second exit classes' total p x
  pub stepped : Stepped m first second exit p
  pub more : count ≤ total

abbrev pub GrownAnswer : Morphism → (ℕ → ℕ → ℕ) → (ℕ → ℕ → ℕ) → List ℕ → List ℕ → ℕ → ℕ → ℕ → Option ℕ → Type 0
GrownAnswer m first second exit classes' count p x (Some total) = Grown m first second exit classes' count p x total
GrownAnswer m first second exit classes' count p x None = MoreUntilClasses m first second 64

-- letter x was followed from entry p
pub record Followed (np k : ℕ) (entry exit classes classes' : List ℕ) (count p x : ℕ) (answer : Option ℕ) : Type 0 where
  pub same_length : length exit ≡ length entry
  pub classes_length : length classes' ≡ length classes
  pub says : (product : ℕ → ℕ → ℕ) (image : ℕ → ℕ) (first second : ℕ → ℕ → ℕ) → Listing (pairs_table np k product image) first second entry classes count p x
      → Stepped (pairs_table np k product image) first second entry p → p ≤ count → x < k
      → GrownAnswer (pairs_table np k product image) first second exit classes' count p (x + 1) answer

-- every letter was
pub record EntryFollowed (np k : ℕ) (entry exit classes classes' : List ℕ) (count p : ℕ) (answer : Option ℕ) : Type 0 where
  pub same_length : length exit ≡ length entry
  pub classes_length : length classes' ≡ length classes
  pub says : (product : ℕ → ℕ → ℕ) (image : ℕ → ℕ) (first second : ℕ → ℕ → ℕ) → Listing (pairs_table np k product image) first second entry classes count p 0
      → Stepped (pairs_table np k product image) first second entry p → p ≤ count
      → GrownAnswer (pairs_table np k product image) first second exit classes' count p k answer

-- what the entry makes of the grades having been worked out
pub record EntryGrown (np k : ℕ) (entry exit classes classes' : List ℕ) (count p : ℕ) (answer : Option ℕ) : Type 0 where
  pub same_length : length exit ≡ length entry
  pub classes_length : length classes' ≡ length classes
  pub says : (product : ℕ → ℕ → ℕ) (image : ℕ → ℕ) (first second : ℕ → ℕ → ℕ) → Listing (pairs_table np k product image) first second entry classes count p 0 → p ≤ count
      → GrownAnswer (pairs_table np k product image) first second exit classes' count p k answer

-- and from every entry
abbrev pub ListAnswer : Morphism → (ℕ → ℕ → ℕ) → (ℕ → ℕ → ℕ) → List ℕ → List ℕ → Option ℕ → Type 0
ListAnswer m first second exit classes' (Some count) = Listing m first second exit classes' count count m.letters
ListAnswer m first second exit classes' None = MoreUntilClasses m first second 64

pub record UntilListed (np k : ℕ) (entry exit classes classes' : List ℕ) (answer : Option ℕ) : Type 0 where
  pub same_length : length exit ≡ length entry
  pub classes_length : length classes' ≡ length classes
  pub says : (product : ℕ → ℕ → ℕ) (image : ℕ → ℕ) (first second : ℕ → ℕ → ℕ) → Listing (pairs_table np k product image) first second entry classes 0 0 0
      → ListAnswer (pairs_table np k product image) first second exit classes' answer
