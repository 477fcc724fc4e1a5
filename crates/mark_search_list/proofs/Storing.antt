-- The five stores of an entry: what they leave in its bytes, and that no other byte changes. Assumes nothing.
use Prim.Native.Nat.{ℕ, ◌+◌, ◌*◌, ◌/◌, ◌%◌, ◌<◌}
use mathlib.Core.Path.{◌≡◌}
use mathlib.Core.List.{List}
use native.Mathlib.Omega.{arith}
use lib.ListN.{get_or, set}
use Rattle.finite.proofs.Stores.{Stores, done, put, stores, Apart, here, later, stores_length, stores_other, stores_at}
use Rattle.mark_search_list.specs.Queue.{front_at, back_at, letter_at, parent_at, SameEntry}
use Rattle.mark_search_list.specs.Steps.{StoreNeeds, Stored}

module _ (scratch : List ℕ) (count x y from letter : ℕ) where
  abbrev pub after_stores : List ℕ
  after_stores =
      set (set (set (set (set scratch (8192 + count) x) (16384 + count) y) (24576 + count) letter) (32768 + count) (from % 256)) (40960 + count) (from / 256)

  all : Stores
  all = put (8192 + count) x (put (16384 + count) y (put (24576 + count) letter (put (32768 + count) (from % 256) (put (40960 + count) (from / 256) done))))

  outside : (i : ℕ) → (i ≡ 8192 + count → ⊥) → (i ≡ 16384 + count → ⊥) → (i ≡ 24576 + count → ⊥) → (i ≡ 32768 + count → ⊥)
      → (i ≡ 40960 + count → ⊥) → get_or after_stores i 0 ≡ get_or scratch i 0
  unfolding stores Apart all
  outside i h₁ h₂ h₃ h₄ h₅ = stores_other all scratch i (h₁, (h₂, (h₃, (h₄, (h₅, tt)))))

  module _ (place : StoreNeeds scratch count x y from letter) where
    low_high : from % 256 + 256 * (from / 256) ≡ from
    low_high = omega arith

    same_entry : (i : ℕ) → i < 4225 → (i ≡ count → ⊥) → SameEntry scratch after_stores i
    unfolding front_at back_at letter_at parent_at
    same_entry i h f =
        let few = place.few in
        let low = outside (32768 + i) (omega arith) (omega arith) (omega arith) (λ e. f (omega arith)) (omega arith) in
        let high = outside (40960 + i) (omega arith) (omega arith) (omega arith) (omega arith) (λ e. f (omega arith)) in
        record {
          front = outside (8192 + i) (λ e. f (omega arith)) (omega arith) (omega arith) (omega arith) (omega arith);
          back = outside (16384 + i) (omega arith) (λ e. f (omega arith)) (omega arith) (omega arith) (omega arith);
          letter = outside (24576 + i) (omega arith) (omega arith) (λ e. f (omega arith)) (omega arith) (omega arith);
          parent = rw (low, high);
        }

    pub stored_entry : Stored scratch after_stores count x y from letter
    unfolding front_at back_at letter_at parent_at stores Apart all
    stored_entry =
        let room = place.room in
        let few = place.few in
        let low : get_or after_stores (32768 + count) 0 ≡ from % 256 = stores_at all scratch (later (later (later (here (omega arith, tt))))) (omega arith) in
        let high : get_or after_stores (40960 + count) 0 ≡ from / 256 = stores_at all scratch (later (later (later (later (here tt))))) (omega arith) in
        record {
          same_length = stores_length all scratch;
          the_front = stores_at all scratch (here (omega arith, (omega arith, (omega arith, (omega arith, tt))))) (omega arith);
          the_back = stores_at all scratch (later (here (omega arith, (omega arith, (omega arith, tt))))) (omega arith);
          the_letter = stores_at all scratch (later (later (here (omega arith, (omega arith, tt))))) (omega arith);
          the_parent = rw (low, high) low_high;
          others = same_entry;
          outside = outside;
        }
