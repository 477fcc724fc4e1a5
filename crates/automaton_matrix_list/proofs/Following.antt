-- The letters followed one after the other from one entry of the search: each step's matrix is in the list, and the step is recorded.
-- Assumes nothing.
use Rattle.std.proofs.Common.{Option, Some, None}
use Prim.Native.Nat.{ℕ, suc, ◌+◌, ◌≤◌, ◌<◌}
use mathlib.Core.Path.{◌≡◌, subst}
use mathlib.Core.Logic.{◌≢◌, ◌⊎◌, inl, inr, ⊎_elim}
use mathlib.Core.List.{List}
use native.Mathlib.Omega.{arith}
use Rattle.finite.proofs.Numbers.{below_cases, le_or_lt}
use Rattle.finite.proofs.FirstWords.{Sooner, sooner_parent, sooner_letter}
use Rattle.finite.proofs.Explore.{sooner_le}
use Rattle.buchi.specs.Matrices.{SameEntries}
use Rattle.buchi.proofs.Products.{same_sym, same_trans}
use Rattle.automaton_products.specs.Arrays.{entry_in}
use Rattle.automaton_matrix_search.specs.Lists.{step_place, next_at, parent_at, letter_at, ListNeeds, Kept, TooRich, step_entry, StepNumber}
use Rattle.automaton_matrix_search.specs.Steps.{Full, StepTaken, StepAnswer, StepAdded, IsWord, FoundFrom, StepsTaken, Following, Followed}
use Rattle.scratch.proofs.Unchanged.{unchanged_both}
use Rattle.automaton_matrix_search.proofs.Growing.{here_kept, grown_refl, grown_trans}
use Rattle.automaton_matrix_list.proofs.Order.{step_among, step_grown, step_among_grown, number_grown, found_grown}
use Rattle.automaton_matrix_list.proofs.Words.{words_added, too_rich}

-- ---- the answers of one step

pub step_listed : {n count total p x : ℕ} {entry exit : List ℕ} {m : List (List ℕ)} {answer : Option ℕ} → StepAdded n entry count m p x exit answer
    → answer ≡ Some total → StepTaken n entry count m p x exit total
step_listed {n} {count} {total} {p} {x} {entry} {exit} {m} a e = subst (StepAnswer n entry count m p x exit) e a.says

pub step_full : {n count p x : ℕ} {entry exit : List ℕ} {m : List (List ℕ)} {answer : Option ℕ} → StepAdded n entry count m p x exit answer
    → answer ≡ None → Full n entry count m
step_full {n} {count} {p} {x} {entry} {exit} {m} a e = subst (StepAnswer n entry count m p x exit) e a.says

-- an automaton that stands in the bytes at entry stands in those of now
pub rich_kept : {kinds : List ℕ} {n k : ℕ} {entry now : List ℕ} → Kept entry now → TooRich kinds n k now → TooRich kinds n k entry
rich_kept e r = record { more = λ t h. r.more t (here_kept e h) }

-- ---- the order of the steps

-- a step before the next letter is one before this letter, or this one
next_letter : {q y p x : ℕ} → Sooner q y p (x + 1) → Sooner q y p x ⊎ ((q ≡ p) × (y ≡ x))
next_letter (sooner_parent h) = inl (sooner_parent h)
next_letter {y = y} {x = x} (sooner_letter e h) = ⊎_elim (λ d. inr (e, omega arith)) (λ l. inl (sooner_letter e l)) (le_or_lt x y)

-- a step before the next entry is one before the last letter's end
next_entry : {q y p p' k : ℕ} → p' ≤ suc p → y < k → Sooner q y p' 0 → Sooner q y p k
next_entry {q} {p = p} b l (sooner_parent h) =
    let c : q < suc p = omega arith in
    ⊎_elim (λ e. sooner_letter e l) (λ d. sooner_parent d) (below_cases c)
next_entry b l (sooner_letter e h) = absurd (omega arith)

-- each step has a byte of its own
other_place : {q y p x : ℕ} → Sooner q y p x → y < 16 → step_place q y ≢ step_place p x
other_place (sooner_parent h) l = omega arith
other_place (sooner_letter e h) l = omega arith

module _ {kinds : List ℕ} {n k : ℕ} where
  -- every letter was followed from an entry: the next entry's turn
  pub entry_taken : {entry exit : List ℕ} {total p p' : ℕ} → p' ≤ suc p → StepsTaken kinds n k entry exit total p k → StepsTaken kinds n k entry exit total p' 0
  entry_taken b s = record { kept = s.kept; words = s.words; steps = λ q y e l. s.steps q y (next_entry b l e) l; found = s.found }

  -- what was taken from a list on was taken from the one before on
  pub taken_from : {before entry exit : List ℕ} {total p x : ℕ} → Kept before entry → StepsTaken kinds n k entry exit total p x → StepsTaken kinds n k before exit total p x
  taken_from b s = record { kept = unchanged_both b s.kept; words = s.words; steps = s.steps; found = s.found }

-- ---- one letter after the other

pub following_start : {kinds : List ℕ} {n k count p : ℕ} {entry : List ℕ} → StepsTaken kinds n k entry entry count p 0 → Following kinds n k entry count p entry count 0
following_start s = record { grown = grown_refl s.words.list; taken = s }

module _ {kinds : List ℕ} {n k count p : ℕ} {entry : List ℕ} (place : ListNeeds kinds n k entry) (inside : p ≤ count) where
  -- a letter's step, whose matrix is a word's
  module _ {now : List ℕ} {total x : ℕ} {m : List (List ℕ)} (f : Following kinds n k entry count p now total x) (h : x < k)
      (word : IsWord kinds n k now (entry_in m)) (made : SameEntries n (entry_in m) (step_entry kinds n now p x)) where
    module _ {next : List ℕ} {total' : ℕ} (a : StepTaken n now total m p x next total') where
      -- the number of this step's matrix
      number_new : StepNumber kinds n next total' p x (next_at next p x)
      number_new =
          let few = place.few_letters in
          let more = f.grown.more in
          record {
            below = a.added.below;
            same = same_trans (same_sym (same_trans made (step_grown a.added.grown kinds p x (omega arith) (omega arith)))) a.added.same;
          }

      -- and of the matrix of a step before it
      number_old : (q y : ℕ) → Sooner q y p x → y < k → StepNumber kinds n next total' q y (next_at next q y)
      number_old q y s l =
          let few = place.few_letters in
          let more = f.grown.more in
          let small = f.taken.words.list.few in
          let le = sooner_le s in
          let kept : next_at next q y ≡ next_at now q y = a.others (step_place q y) (omega arith) (other_place s (omega arith)) (omega arith) (omega arith) in
          rw kept (number_grown a.added.grown (omega arith) (omega arith) (f.taken.steps q y s l))

      numbers : (q y : ℕ) → y < k → Sooner q y p x ⊎ ((q ≡ p) × (y ≡ x)) → StepNumber kinds n next total' q y (next_at next q y)
      numbers q y l (inl s) = number_old q y s l
      numbers q y l (inr (e, d)) = rw (e, d) number_new

      -- a new matrix was found by this step, and those of the steps before it stand before it
      source_new : total < total' → FoundFrom kinds n k next total p x
      source_new b =
          let few = place.few_letters in
          let more = f.grown.more in
          record {
            made = record {
              parent_before = omega arith;
              letter_lt = h;
              same = same_trans (same_sym (same_trans made (step_grown a.added.grown kinds p x (omega arith) (omega arith)))) (a.added.only total (omega arith) b);
            };
            sooner = λ q y s l. step_among_grown a.added.grown kinds q y (omega (arith, sooner_le s)) (omega arith) (omega arith) (step_among (f.taken.steps q y s l));
          }

      -- where each matrix was found
      sources : (j : ℕ) → j < total' → (total ≤ j) ⊎ (j < total) → FoundFrom kinds n k next j (parent_at next j) (letter_at next j)
      sources j b (inr c) =
          let few = place.few_letters in
          let more = f.grown.more in
          let small = f.taken.words.list.few in
          let parent : parent_at next j ≡ parent_at now j = a.others _ (omega arith) (omega arith) (omega arith) (omega arith) in
          let letter : letter_at next j ≡ letter_at now j = a.others _ (omega arith) (omega arith) (omega arith) (omega arith) in
          rw (parent, letter) (found_grown a.added.grown few c (f.taken.found j c))
      sources j b (inl c) =
          let one = a.added.one_more in
          let d : j ≡ total = omega arith in
          rw (d, a.parent, a.letter) (source_new (omega arith))

    pub following_next : {next : List ℕ} {total' : ℕ} → StepTaken n now total m p x next total' → Following kinds n k entry count p next total' (x + 1)
    following_next a = record {
      grown = grown_trans f.grown a.added.grown;
      taken = record {
        kept = unchanged_both f.taken.kept a.added.grown.kept;
        words = words_added f.taken.words word a.added;
        steps = λ q y s l. numbers a q y l (next_letter s);
        found = λ j b. sources a j b (le_or_lt total j);
      };
    }

    -- or the list is full
    pub following_full : {next : List ℕ} → Full n now total m → Kept now next → Followed kinds n k entry count p next None
    following_full d e = record { kept = unchanged_both f.taken.kept e; says = rich_kept f.taken.kept (too_rich f.taken.words word d) }

  -- every letter was followed
  pub following_all : {now : List ℕ} {total x : ℕ} → Following kinds n k entry count p now total x → x ≤ k → k ≤ x → Followed kinds n k entry count p now (Some total)
  following_all {now} {total} {x} f h l = let e : x ≡ k = omega arith in record { kept = f.taken.kept; says = rw e at f }
