-- The search of the cuts over the two tables of values is the test of membership. Assumes nothing.
use Prim.Native.Nat.{ℕ, suc, ◌+◌, ◌*◌, ◌≤◌, ◌<◌}
use mathlib.Core.Path.{◌≡◌, sym, ap, ◌∙◌, subst}
use mathlib.Core.Bool.{Bool}
use mathlib.Core.Logic.{◌↔◌, ⊎_elim}
use mathlib.Core.List.{List, ◌++◌}
use native.Mathlib.Omega.{arith}
use borrow.Author.Tests.{lt-ltb, le-ltb}
use lib.ListN.{length, get_or, take, drop, drop_of_length-le}
use lib.Dec.{T, leb}
use Rattle.finite.proofs.Numbers.{le_or_lt}
use Rattle.theory.specs.Words.{Over}
use Rattle.theory.specs.Rules.{Morphism, Lawful, Pairs, Value, level, element, join, value}
use Rattle.theory.proofs.Words.{over_take, over_drop}
use Rattle.theory.proofs.Values.{value_append, join_elements, inside_of}
use Rattle.theory.proofs.Membership.{cut_look, cut_test_is, accepts_test}
use Rattle.formats.proofs.Sections.{AllInRange}
use Rattle.scratch.specs.Map.{mark_table_size, beginnings_base, ends_base, words_end, marks_from}
use Rattle.lasso_powers.specs.Raising.{Raised}
use Rattle.lasso_powers.proofs.Raises.{raised_same}
use Rattle.lasso_turns.specs.Cuts.{Beginnings, Ends, KeptAround, CutValues, turn_value, cut_at, some_cut, MarksUpTo}
use Rattle.lasso_turns.proofs.Looks.{any_same}
use Rattle.lasso_turns.proofs.Agreement.{accepts_test_agrees}

-- the turn's value at a cut that has letters behind it, and at the last cut
pub turn_value_inner : (m : Morphism) (bytes : List ℕ) (len j : ℕ) → j + 1 < len
    → turn_value m bytes len j ≡ m.product (get_or bytes (ends_base + j + 1) 0) (get_or bytes (beginnings_base + j) 0)
unfolding turn_value
turn_value_inner m bytes len j h = simp (lt-ltb (j + 1) len h)

pub turn_value_last : (m : Morphism) (bytes : List ℕ) (len j : ℕ) → len ≤ j + 1 → turn_value m bytes len j ≡ get_or bytes (beginnings_base + j) 0
unfolding turn_value
turn_value_last m bytes len j h = simp (le-ltb (j + 1) len h)

module _ {m : Morphism} (law : Lawful m) (v bytes : List ℕ) (ov : Over m.letters v) (begins : Beginnings m v bytes beginnings_base)
    (ends : Ends m v bytes ends_base) where
  module _ {j : ℕ} (h : j < length v) where
    -- the value of a turn after the cut
    turn_is : value m (drop (suc j) v ++ take (suc j) v) ≡ element (turn_value m bytes (length v) j)
    unfolding value join
    turn_is =
        value_append law (over_drop (suc j) ov) (over_take (suc j) ov)
        ∙ ap (join m (value m (drop (suc j) v))) (begins.beginning j h)
        ∙ ⊎_elim last inner (le_or_lt (length v) (j + 1))
      where
        last : length v ≤ j + 1 → join m (value m (drop (suc j) v)) (element (get_or bytes (beginnings_base + j) 0)) ≡ element (turn_value m bytes (length v) j)
        last l =
            ap (λ (w : List ℕ). join m (value m w) (element (get_or bytes (beginnings_base + j) 0))) (drop_of_length-le v (let z : length v ≤ suc j = omega arith in z))
            ∙ ap element (sym (turn_value_last m bytes (length v) j l))

        inner : j + 1 < length v → join m (value m (drop (suc j) v)) (element (get_or bytes (beginnings_base + j) 0)) ≡ element (turn_value m bytes (length v) j)
        inner l =
            ap (λ (x : Value). join m x (element (get_or bytes (beginnings_base + j) 0)))
            (ends.end (suc j) (omega arith) ∙ ap (λ (i : ℕ). element (get_or bytes i 0)) (let z : ends_base + suc j ≡ ends_base + j + 1 = omega arith in z))
            ∙ join_elements m (get_or bytes (ends_base + j + 1) 0) (get_or bytes (beginnings_base + j) 0) ∙ ap element (sym (turn_value_inner m bytes (length v) j l))

  -- the search of the cuts answers the test of membership
  pub some_cut_is : (P : Pairs) {u : List ℕ} {s : ℕ} → Over m.letters u → value m u ≡ element s
      → some_cut m P s bytes (length v) ≡ accepts_test m P u v
  unfolding some_cut accepts_test cut_at cut_look
  some_cut_is P {u} {s} ou eu =
      any_same (length v) (cut_at m P s bytes (length v)) (cut_look m P u v)
      (λ j h. sym (cut_test_is m P (start j h) (turn_is h)))
    where
      start : (j : ℕ) → j < length v → value m (u ++ take (suc j) v) ≡ element (m.product s (get_or bytes (beginnings_base + j) 0))
      start j h =
          value_append law ou (over_take (suc j) ov)
          ∙ ap (join m (value m u)) (begins.beginning j h)
          ∙ ap (λ (x : Value). join m x (element (get_or bytes (beginnings_base + j) 0))) eu
          ∙ join_elements m s (get_or bytes (beginnings_base + j) 0)

  -- the values in the two tables are elements
  pub cut_values : length v ≤ 4224 → words_end ≤ length bytes → CutValues bytes m.size (length v)
  cut_values short long = record {
    short = short;
    long = long;
    beginning_inside = λ j h. inside_of law (over_take (suc j) ov) (begins.beginning j h);
    end_inside = λ j h. inside_of law (over_drop j ov) (ends.end j h);
  }

-- stores behind the marks leave the marks of up to 64 elements
pub marks_kept : (entry now : List ℕ) {n : ℕ} → n ≤ 64 → ((i : ℕ) → i < mark_table_size → get_or now i 0 ≡ get_or entry i 0) → (s e : ℕ) → s < n → e < n
    → marks_from now 0 s e ≡ marks_from entry 0 s e
unfolding marks_from
marks_kept entry now {n} small kept s e hs he = kept (0 + (s * 64 + e)) (omega arith)

-- both tables of values of v stand behind the marks, which are as they were at entry
pub record BothTables (m : Morphism) (v entry now : List ℕ) : Type 0 where
  pub same_length : length now ≡ length entry
  pub begins : Beginnings m v now beginnings_base
  pub ends : Ends m v now ends_base
  pub marks : (i : ℕ) → i < mark_table_size → get_or now i 0 ≡ get_or entry i 0

-- the second pass leaves what the first one stored
pub both_tables : {m : Morphism} {v entry between now : List ℕ} → length v ≤ 4224 → Beginnings m v between beginnings_base
    → KeptAround entry between beginnings_base (length v) → Ends m v now ends_base → KeptAround between now ends_base (length v) → BothTables m v entry now
both_tables {m} {v} {entry} {between} {now} short b first e second = record {
  same_length = second.same_length ∙ first.same_length;
  begins = record { beginning = λ j h. b.beginning j h ∙ ap element (sym (second.before (beginnings_base + j) (omega arith))) };
  ends = e;
  marks = λ i h. second.before i (omega arith) ∙ first.before i h;
}

-- what the search of the cuts answers is the test of membership with the marks at entry, at each grade
pub cut_membership : {m : Morphism} {u v entry now : List ℕ} {s r : ℕ} → Lawful m → m.size ≤ 64 → Over m.letters u → Over m.letters v
    → value m u ≡ element s → BothTables m v entry now → Raised (λ g. some_cut m (level g (marks_from now 0)) s now (length v)) 0 r
    → Raised (λ g. accepts_test m (level g (marks_from entry 0)) u v) 0 r
unfolding level
cut_membership {m} {u} {v} {entry} {now} {s} law small ou ov eu tables raised = raised_same (λ g some. same (is g)) raised
  where
    is : (g : ℕ) → some_cut m (level g (marks_from now 0)) s now (length v) ≡ accepts_test m (level g (marks_from entry 0)) u v
    is g =
        some_cut_is law v now ov tables.begins tables.ends (level g (marks_from now 0)) ou eu
        ∙ accepts_test_agrees law (record { same = λ t e hs he. ap (leb g) (marks_kept entry now small tables.marks t e hs he) }) ou ov

    same : {a b : Bool} → a ≡ b → T a ↔ T b
    same e = (λ x. subst T e x, λ x. subst T (sym e) x)

-- what bounds the marks at entry bounds them after such stores
pub marks_up_to : (entry now : List ℕ) {n top : ℕ} → n ≤ 64 → ((i : ℕ) → i < mark_table_size → get_or now i 0 ≡ get_or entry i 0) → MarksUpTo n (marks_from entry 0) top
    → MarksUpTo n (marks_from now 0) top
marks_up_to entry now small kept up = record { small = λ s e hs he. rw (marks_kept entry now small kept s e hs he) (up.small s e hs he) }

-- no mark is above the greatest byte of the table
pub greatest_up_to : (bytes : List ℕ) {n top : ℕ} → n ≤ 64 → AllInRange bytes 0 (n * 64) (λ i. 0) (λ i. top + 1) → MarksUpTo n (marks_from bytes 0) top
unfolding marks_from
greatest_up_to bytes {n} small all = record { small = λ s e hs he. omega (arith, (all.each (s * 64 + e) (omega arith)).below) }
