-- A class is looked up among others. Assumes nothing.
use Prim.Native.Nat.{ℕ, ◌+◌, ◌*◌, ◌≤◌, ◌<◌}
use native.Mathlib.Omega.{arith}
use native.Mathlib.Decide.{ℕ_discrete}
use mathlib.Core.Path.{◌≡◌, sym, subst, ap, ◌∙◌}
use mathlib.Core.Bool.{Bool, true, false}
use mathlib.Core.Logic.{◌≢◌}
use mathlib.Core.List.{List}
use lib.Dec.{eqb}
use lib.ListN.{length, get_or}
use Rattle.std.specs.List.{between}
use Rattle.std.specs.Cmp.Lexicographic.{pointwise}
use Rattle.std.proofs.lemmas.Bool.Decides.{Decides-eqb}
use Rattle.std.proofs.lemmas.Grind.{same_number_lists}
use Rattle.std.proofs.lemmas.List.Edits.{length-between, get_or-between}
use Rattle.std.proofs.lemmas.Slice.Eq.{slice_eq-Decides}
use Rattle.finite.specs.Tells.{Tells}
use Rattle.finite.specs.Each.{EachBelow}
use Rattle.finite.proofs.Tells.{told_no}
use Rattle.scratch.specs.Map.{until_class_base}
use Rattle.until_step.specs.Bytes.{new_at, pair_at, class_at}
use Rattle.until_search.specs.Searching.{RowSame, ClassSame, NoClass, ClassThere}

-- ---- the ways to a class

-- two parts of bytes are told to be the same by a comparison of them
pub parts_told : (classes scratch : List ℕ) (np j t : ℕ) (answer : Bool) → j * 4096 + t * 64 + np ≤ length classes → until_class_base + t * 64 + np ≤ length scratch
    → answer ≡ pointwise eqb (between (j * 4096 + t * 64) (j * 4096 + t * 64 + np) classes) (between (until_class_base + t * 64) (until_class_base + t * 64 + np) scratch)
    → Tells (RowSame np scratch classes j t) answer
parts_told classes scratch np j t answer g h e =
    let told = slice_eq-Decides Decides-eqb _ _ answer e in
    record {
      holds = λ a. record { each = λ z l. of_parts z l (told.0 a) };
      fails = λ a r. absurd (let both : answer ≡ true = told.1 (parts_same r) in cc);
    }
  where
    held : List ℕ
    held = between (j * 4096 + t * 64) (j * 4096 + t * 64 + np) classes

    new : List ℕ
    new = between (until_class_base + t * 64) (until_class_base + t * 64 + np) scratch

    held_at : (z : ℕ) → z < np → get_or held z 0 ≡ class_at classes j t z
    held_at z l = let p : j * 4096 + (t * 64 + z) ≡ j * 4096 + t * 64 + z = omega arith in rw p (get_or-between classes (j * 4096 + t * 64) (j * 4096 + t * 64 + np) z 0 (omega arith))

    new_is : (z : ℕ) → z < np → get_or new z 0 ≡ new_at scratch t z
    new_is z l = let p : until_class_base + (t * 64 + z) ≡ until_class_base + t * 64 + z = omega arith in rw p (get_or-between scratch (until_class_base + t * 64) (until_class_base + t * 64 + np) z 0 (omega arith))

    of_parts : (z : ℕ) → z < np → held ≡ new → class_at classes j t z ≡ new_at scratch t z
    of_parts z l p = sym (held_at z l) ∙ ap (λ (xs : List ℕ). get_or xs z 0) p ∙ new_is z l

    held_long : length held ≡ np
    held_long = length-between classes (j * 4096 + t * 64) (j * 4096 + t * 64 + np) g ∙ omega arith

    new_long : length new ≡ np
    new_long = length-between scratch (until_class_base + t * 64) (until_class_base + t * 64 + np) h ∙ omega arith

    parts_same : RowSame np scratch classes j t → held ≡ new
    parts_same r = same_number_lists _ _ (held_long ∙ sym new_long) (λ z l. let m : z < np = omega (arith, held_long) in held_at z m ∙ r.each z m ∙ sym (new_is z m))

module _ {np j pair : ℕ} {scratch classes : List ℕ} where
  pub other_pair : (pair_at scratch j ≡ pair → ⊥) → Tells (ClassSame np scratch classes j pair) false
  other_pair f = told_no (λ c. f c.same_pair)

  pub with_pair : {answer : Bool} → pair_at scratch j ≡ pair → Tells (EachBelow (RowSame np scratch classes j) np) answer → Tells (ClassSame np scratch classes j pair) answer
  with_pair e t = record { holds = λ a. record { same_pair = e; same_rows = t.holds a }; fails = λ a c. t.fails a c.same_rows }

-- ---- the search

-- none of the first j classes is the one
pub record Unfound (np : ℕ) (scratch classes : List ℕ) (count pair j : ℕ) : Type 0 where
  pub within : j ≤ count
  pub none : (i : ℕ) → i < j → ClassSame np scratch classes i pair → ⊥

module _ {np count pair : ℕ} {scratch classes : List ℕ} where
  pub unfound_start : Unfound np scratch classes count pair 0
  unfound_start = record { within = omega arith; none = λ i h. absurd (omega arith) }

  module _ {j : ℕ} (u : Unfound np scratch classes count pair j) (h : j < count) {answer : Bool} (t : Tells (ClassSame np scratch classes j pair) answer) where
    pub found_here : answer ≡ true → ClassThere np scratch classes count pair j
    found_here e = record { below = h; same = t.holds e }

    pub unfound_more : answer ≡ false → Unfound np scratch classes count pair (j + 1)
    unfound_more e = record { within = omega arith; none = λ i l c. go i l (ℕ_discrete i j) c }
      where
        go : (i : ℕ) → i < j + 1 → Dec (i ≡ j) → ClassSame np scratch classes i pair → ⊥
        go i l (yes d) c = t.fails e (subst (λ (a : ℕ). ClassSame np scratch classes a pair) d c)
        go i l (no d) c = let d' : i ≢ j = d in u.none i (omega arith) c

  pub unfound_all : {j : ℕ} → Unfound np scratch classes count pair j → count ≤ j → NoClass np scratch classes count pair
  unfound_all u h = record { none = λ i b. u.none i (omega arith) }
