-- Stores in a row at places that differ: each value is read back at its place, and no other place changes. Assumes nothing.
use Prim.Native.Nat.{ℕ, ◌<◌}
use mathlib.Core.Path.{◌≡◌, refl, ◌∙◌}
use mathlib.Core.Logic.{◌≢◌}
use mathlib.Core.List.{List}
use lib.ListN.{length, get_or, set, length-set}
use lib.Seq.{get_or-set_same, get_or-set_other}

-- places and the values that are stored there, in their order
pub data Stores : Type 0 where
  done : Stores
  put : ℕ → ℕ → Stores → Stores

unfoldable pub stores : Stores → List ℕ → List ℕ
stores done l = l
stores (put place v rest) l = stores rest (set l place v)

-- none of them is at i
unfoldable pub Apart : ℕ → Stores → Type 0
Apart i done = Unit {0}
Apart i (put place v rest) = (i ≢ place) × Apart i rest

pub stores_length : (all : Stores) (l : List ℕ) → length (stores all l) ≡ length l
unfolding stores
stores_length done l = refl
stores_length (put place v rest) l = stores_length rest (set l place v) ∙ length-set l place v

pub stores_other : (all : Stores) (l : List ℕ) (i : ℕ) → Apart i all → get_or (stores all l) i 0 ≡ get_or l i 0
unfolding stores Apart
stores_other done l i apart = refl
stores_other (put place v rest) l i apart = stores_other rest (set l place v) i apart.1 ∙ get_or-set_other l place i v 0 apart.0

-- v is stored at the place, and nothing after it
pub data StoredAt (place v : ℕ) : Stores → Type 0 where
  here : {rest : Stores} → Apart place rest → StoredAt place v (put place v rest)
  later : {other w : ℕ} {rest : Stores} → StoredAt place v rest → StoredAt place v (put other w rest)

pub stores_at : {place v : ℕ} (all : Stores) (l : List ℕ) → StoredAt place v all → place < length l → get_or (stores all l) place 0 ≡ v
unfolding stores
stores_at {place} {v} all l (here {rest} apart) inside = stores_other rest (set l place v) place apart ∙ get_or-set_same l place v 0 inside
stores_at all l (later {other} {w} {rest} s) inside = stores_at rest (set l other w) s (rw (length-set l other w) inside)
