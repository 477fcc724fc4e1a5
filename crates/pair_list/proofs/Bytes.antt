-- The bytes of the list of pairs: what five stores leave. Assumes nothing.
use Rattle.std.proofs.Common.{Some, None}
use Prim.Native.Nat.{ℕ, ◌+◌, ◌*◌, ◌≤◌, ◌<◌}
use mathlib.Core.Path.{refl}
use mathlib.Core.List.{List}
use native.Mathlib.Omega.{arith}
use lib.ListN.{length, get_or, set}
use Rattle.finite.proofs.Stores.{done, put, stores, Apart, here, later, stores_length, stores_other, stores_at}
use Rattle.formats.specs.RuleChecks.{scratch_size}
use Rattle.scratch.specs.Map.{pair_numbers_base, pair_lefts_base, pair_rights_base, pair_parents_base, pair_letters_base}
use Rattle.scratch.proofs.Unchanged.{unchanged_none}
use Rattle.pair_list.specs.Pairs.{number_at, Kept}
use Rattle.pair_list.specs.Steps.{AddNeeds, Stored, placed_old, placed_new, Added}

-- scratch with the five bytes of a new entry
abbrev pub stored_at : List ℕ → ℕ → ℕ → ℕ → ℕ → ℕ → List ℕ
stored_at l count s t from letter =
    set (set (set (set (set l (pair_lefts_base + count) s) (pair_rights_base + count) t) (pair_parents_base + count) from) (pair_letters_base + count) letter)
    (pair_numbers_base + (s * 64 + t)) (count + 1)

module _ (l : List ℕ) (count s t from letter : ℕ) (room : scratch_size ≤ length l) (hc : count < 64) (hs : s < 64) (ht : t < 64) where
  stored : Stored l (stored_at l count s t from letter) count s t from letter
  unfolding stores Apart
  stored =
      let all =
      put (pair_lefts_base + count) s (put (pair_rights_base + count) t (put (pair_parents_base + count) from (put (pair_letters_base + count) letter
      (put (pair_numbers_base + (s * 64 + t)) (count + 1) done)))) in
      record {
        the_left = stores_at all l (here (omega arith, (omega arith, (omega arith, (omega arith, tt))))) (omega arith);
        the_right = stores_at all l (later (here (omega arith, (omega arith, (omega arith, tt))))) (omega arith);
        the_parent = stores_at all l (later (later (here (omega arith, (omega arith, tt))))) (omega arith);
        the_letter = stores_at all l (later (later (later (here (omega arith, tt))))) (omega arith);
        the_number = stores_at all l (later (later (later (later (here tt))))) (omega arith);
        other = λ i h₁ h₂ h₃ h₄ h₅. stores_other all l i (h₁, (h₂, (h₃, (h₄, (h₅, tt)))));
        same_length = stores_length all l;
      }

-- a store of an entry changes nothing outside the list
pub stored_kept : {entry exit : List ℕ} {count s t from letter : ℕ} → Stored entry exit count s t from letter → count < 64 → s < 64 → t < 64 → Kept entry exit
stored_kept e hc hs ht = record {
  same_length = e.same_length;
  before = λ i h. e.other i (omega arith) (omega arith) (omega arith) (omega arith) (omega arith);
  after = λ i h. e.other i (omega arith) (omega arith) (omega arith) (omega arith) (omega arith);
}

module _ {l : List ℕ} {count s t from letter : ℕ} where
  -- the pair has a number, and nothing is stored
  pub add_there : 0 < get_or l (pair_numbers_base + (s * 64 + t)) 0 → Added l l count s t from letter (Some count)
  unfolding number_at
  add_there h = record { kept = unchanged_none _ _ _; says = placed_old h refl refl }

  module _ (place : AddNeeds l count s t from letter) (none-there : get_or l (pair_numbers_base + (s * 64 + t)) 0 ≤ 0) where
    -- it has none, and there is no place for it
    pub add_full : 64 ≤ count → Added l l count s t from letter None
    unfolding number_at
    add_full h = record { kept = unchanged_none _ _ _; says = record { full = omega (arith, place.few); new = omega arith } }

    -- it has none, and it gets the next place
    pub add_new : count < 64 → Added l (stored_at l count s t from letter) count s t from letter (Some (count + 1))
    unfolding number_at
    add_new h =
        let e = stored l count s t from letter place.room h place.left_small place.right_small in
        record { kept = stored_kept e h place.left_small place.right_small; says = placed_new (omega arith) h e refl }
