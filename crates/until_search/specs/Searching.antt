-- What is asked for and what is told where a class is looked up among others. Assumes nothing.
use Rattle.std.specs.Prelude.{ℕ, ◌≤◌, ◌<◌, ◌≡◌, List, length, Option, Some, None}
use Rattle.finite.specs.Each.{EachBelow}
use Rattle.formats.specs.RuleChecks.{scratch_size}
use Rattle.temporal_promises.specs.Until.{until_classes_size}
use Rattle.until_step.specs.Bytes.{new_at, pair_at, class_at}

-- class j has the clamp of the new one at (t, z)
abbrev pub SameClassEntries : List ℕ → List ℕ → ℕ → ℕ → ℕ → Type 0
SameClassEntries scratch classes j t z = class_at classes j t z ≡ new_at scratch t z

-- at each (t, z)
abbrev pub RowSame : ℕ → List ℕ → List ℕ → ℕ → ℕ → Type 0
RowSame np scratch classes j t = EachBelow (SameClassEntries scratch classes j t) np

-- at every context, and its pair is the one asked for
pub record ClassSame (np : ℕ) (scratch classes : List ℕ) (j pair : ℕ) : Type 0 where
  pub same_pair : pair_at scratch j ≡ pair
  pub same_rows : EachBelow (RowSame np scratch classes j) np

-- none of count classes is
pub record NoClass (np : ℕ) (scratch classes : List ℕ) (count pair : ℕ) : Type 0 where
  pub none : (j : ℕ) → j < count → ClassSame np scratch classes j pair → ⊥

-- class r is
pub record ClassThere (np : ℕ) (scratch classes : List ℕ) (count pair r : ℕ) : Type 0 where
  pub below : r < count
  pub same : ClassSame np scratch classes r pair

-- or none is
abbrev pub FoundClass : ℕ → List ℕ → List ℕ → ℕ → ℕ → Option ℕ → Type 0
FoundClass np scratch classes count pair (Some r) = ClassThere np scratch classes count pair r
FoundClass np scratch classes count pair None = NoClass np scratch classes count pair

-- at most 64 pairs, and room
pub record SearchNeeds (np : ℕ) (scratch classes : List ℕ) : Type 0 where
  pub few_pairs : np ≤ 64
  pub room : scratch_size ≤ length scratch
  pub classes_room : until_classes_size ≤ length classes

-- and a place for one class more
pub record StoreNeeds (np count : ℕ) (scratch classes : List ℕ) : Type 0 where
  pub needs : SearchNeeds np scratch classes
  pub place : count < 64
