-- An entry with an element in front, tried: a marked split stops there, any other hands every letter over. Assumes nothing.
use Prim.Native.Nat.{ℕ, ◌+◌}
use mathlib.Core.Path.{◌≡◌, sym, subst}
use mathlib.Core.Bool.{Bool, true, false}
use mathlib.Core.List.{List}
use native.Mathlib.Omega.{arith}
use lib.ListN.{get_or}
use lib.Dec.{T}
use Rattle.theory.specs.Rules.{Morphism, Pairs}
use Rattle.mark_search_list.specs.Queue.{front_at, back_at}
use Rattle.mark_search_letters.specs.Steps.{ExpandNeeds, Expanded}
use Rattle.mark_search_letters.proofs.Taking.{found_none}
use Rattle.mark_search_visit.specs.Visits.{split_marked, Visited}

module _ {m : Morphism} {s : ℕ} {entry : List ℕ} {count from : ℕ} (P : Pairs) (place : ExpandNeeds m s entry count from) {b : Bool}
    (answer : b ≡ split_marked m P s (get_or entry (8192 + from) 0) (get_or entry (16384 + from) 0)) where
  is_answer : b ≡ split_marked m P s (front_at entry from) (back_at entry from)
  unfolding front_at back_at
  is_answer = answer

  pub visited_stop : b ≡ true → Visited m P s entry count from entry count
  visited_stop e = record {
    found = found_none m s place;
    takes = λ f a h. absurd (f (subst T is_answer (subst T (sym e) tt)));
    unmarked = λ j h l t. omega arith;
  }

  pub visited_on : {exit : List ℕ} {total : ℕ} → b ≡ false → Expanded m s entry count from m.letters exit total → Visited m P s entry count from exit total
  visited_on e x = record {
    found = x.found;
    takes = λ f. x.takes;
    unmarked = λ j h l t. subst T e (subst T (sym is_answer) t);
  }
