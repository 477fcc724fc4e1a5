-- The passes that store the value of each beginning, or of each end, of a word: their invariants, and the tables of values that
-- they leave. Assumes nothing.
use Prim.Native.Nat.{ℕ, suc, ◌+◌, ◌-◌, ◌%◌, ◌≤◌, ◌<◌}
use mathlib.Core.Path.{◌≡◌, refl, subst}
use mathlib.Core.List.{List}
use native.Mathlib.Omega.{arith}
use native.Mathlib.Numerals.{add-one}
use lib.ListN.{length, get_or, set, take, drop, length-set}
use Rattle.theory.specs.Rules.{element, value}
use Rattle.formats.specs.Table.{product_at, image_at, morphism_at}
use Rattle.lasso_turns.specs.Cuts.{Beginnings, Ends, KeptAround}
use Rattle.lasso_cuts.proofs.Passes.{Reading, Begun, begun_start, begun_next, begun_inside, Ended, ended_start, ended_next, ended_inside}
use Rattle.lasso_cuts.proofs.Stores.{Stored, stored_start, stored_up, stored_down, stored_kept, stored_here, kept_store}

-- an element fits a byte
byte_same : {s n : ℕ} → s < n → n ≤ 64 → s ≡ s % 256
byte_same h small = omega arith

-- x is the value of the first i + 1 letters
abbrev BeginsWith : List ℕ → ℕ → ℕ → List ℕ → ℕ → ℕ → Type 0
BeginsWith bytes n k w i x = value (morphism_at bytes n k) (take (suc i) w) ≡ element x

-- x is the value of the letters from place i on
abbrev EndsWith : List ℕ → ℕ → ℕ → List ℕ → ℕ → ℕ → Type 0
EndsWith bytes n k w i x = value (morphism_at bytes n k) (drop i w) ≡ element x

-- the values of the first j beginnings stand from base on, and s is the last of them
pub record BeginningsTo (bytes : List ℕ) (n k : ℕ) (w entry now : List ℕ) (base s j : ℕ) : Type 0 where
  pub begun : Begun bytes n k w s j
  pub room : base + length w ≤ length entry
  pub stored : Stored (BeginsWith bytes n k w) entry now base 0 j

-- the values of the ends from place i on stand from base + i on, and s is the first of them
pub record EndsFrom (bytes : List ℕ) (n k : ℕ) (w entry now : List ℕ) (base s i : ℕ) : Type 0 where
  pub ended : Ended bytes n k w s i
  pub room : base + length w ≤ length entry
  pub stored : Stored (EndsWith bytes n k w) entry now base i (length w)

module _ {bytes : List ℕ} {n k : ℕ} {w entry : List ℕ} {base : ℕ} where
  -- the value s of one more beginning is stored
  begun_store : {now : List ℕ} {s j : ℕ} (place : ℕ) → Begun bytes n k w s (j + 1) → base + length w ≤ length entry
      → Stored (BeginsWith bytes n k w) entry now base 0 j → place ≡ base + j → BeginningsTo bytes n k w entry (set now place (s % 256)) base s (j + 1)
  begun_store {now} {s} {j} place b room st e = record {
    begun = b;
    room = room;
    stored = stored_up st j place (s % 256) e (omega (arith, b.high))
        (rw (← byte_same (begun_inside b) b.reading.table.small, ← add-one) b.has_value) refl (omega arith);
  }

  -- one letter more, with its element h
  pub beginnings_next : {now : List ℕ} {s j h t : ℕ} → BeginningsTo bytes n k w entry now base s j → j < length w
      → h ≡ image_at bytes n (get_or w j 0) → t ≡ product_at bytes n s h
      → BeginningsTo bytes n k w entry (set now (base + j) (t % 256)) base t (j + 1)
  beginnings_next {j = j} b l eh et = begun_store (base + j) (begun_next b.begun l eh et) b.room b.stored refl

  -- where the pass ends, all beginnings have their values
  pub beginnings_values : {now : List ℕ} {s j : ℕ} → BeginningsTo bytes n k w entry now base s j → length w ≤ j
      → Beginnings (morphism_at bytes n k) w now base
  beginnings_values b l = record { beginning = λ i h. b.stored.right i (omega arith) (omega arith) }

  -- and all other bytes are as they were before the first store
  pub beginnings_others : {now : List ℕ} {s j : ℕ} (x : ℕ) → BeginningsTo bytes n k w (set entry base x) now base s j → length w ≤ j
      → KeptAround entry now base (length w)
  beginnings_others x b l =
      kept_store base x (omega arith) (omega (arith, b.begun.reading.word.some)) (stored_kept b.stored (omega (arith, b.begun.high)))

  -- the value s of one more end is stored
  ended_store : {now : List ℕ} {s i : ℕ} → Ended bytes n k w s i → base + length w ≤ length entry
      → Stored (EndsWith bytes n k w) entry now base (i + 1) (length w) → EndsFrom bytes n k w entry (set now (base + i) (s % 256)) base s i
  ended_store {now} {s} {i} b room st = record {
    ended = b;
    room = room;
    stored = stored_down st i (base + i) (s % 256) refl (omega (arith, b.below))
        (rw (← byte_same (ended_inside b) b.reading.table.small) b.has_value) refl (omega (arith, b.below));
  }

  -- one letter more before the end, with its element h
  pub ends_next : {now : List ℕ} {s i h t : ℕ} → EndsFrom bytes n k w entry now base s i → 0 < i
      → h ≡ image_at bytes n (get_or w (i - 1) 0) → t ≡ product_at bytes n h s
      → EndsFrom bytes n k w entry (set now (base + (i - 1)) (t % 256)) base t (i - 1)
  ends_next {now} {i = i} b l eh et =
      let g : i ≡ i - 1 + 1 = omega arith in
      ended_store (ended_next b.ended l eh et) b.room (subst (λ (x : ℕ). Stored (EndsWith bytes n k w) entry now base x (length w)) g b.stored)

  -- where the pass ends, all ends have their values
  pub ends_values : {now : List ℕ} {s i : ℕ} → EndsFrom bytes n k w entry now base s i → i ≤ 0 → Ends (morphism_at bytes n k) w now base
  ends_values b l = record { end = λ i h. b.stored.right i (omega arith) h }

  -- and all other bytes are as they were before the first store
  pub ends_others : {now : List ℕ} {s i : ℕ} (last x : ℕ) → last < length w → EndsFrom bytes n k w (set entry (base + last) x) now base s i → i ≤ 0
      → KeptAround entry now base (length w)
  ends_others {now} {s} {i} last x h b l =
      kept_store (base + last) x (omega arith) (omega arith)
      (stored_kept (subst (λ (y : ℕ). Stored (EndsWith bytes n k w) (set entry (base + last) x) now base y (length w)) (let z : i ≡ 0 = omega arith in z) b.stored) refl)

module _ {bytes : List ℕ} {n k : ℕ} {w : List ℕ} where
  -- the first letter's element is stored, and the bytes are as they are then
  pub beginnings_start : (entry : List ℕ) {base s : ℕ} → Reading bytes n k w → base + length w ≤ length entry → s ≡ image_at bytes n (get_or w 0 0)
      → BeginningsTo bytes n k w (set entry base (s % 256)) (set entry base (s % 256)) base s 1
  beginnings_start entry {base} {s} r room e =
      let b = begun_store base (begun_start r e) room (stored_start _ entry base 0) (let z : base ≡ base + 0 = omega arith in z) in
      record { begun = b.begun; room = omega (arith, room, length-set entry base (s % 256)); stored = stored_here b.stored }

  -- the same for the last letter's
  pub ends_start : (entry : List ℕ) {base s i : ℕ} → Reading bytes n k w → base + length w ≤ length entry → i ≡ length w - 1 → s ≡ image_at bytes n (get_or w i 0)
      → EndsFrom bytes n k w (set entry (base + i) (s % 256)) (set entry (base + i) (s % 256)) base s i
  ends_start entry {base} {s} {i} r room ei e =
      let last : length w ≡ i + 1 = omega (arith, r.word.some) in
      let b = ended_store (ended_start r ei e) room
      (subst (λ (x : ℕ). Stored (EndsWith bytes n k w) entry entry base x (length w)) last (stored_start _ entry base (length w))) in
      record { ended = b.ended; room = omega (arith, room, length-set entry (base + i) (s % 256)); stored = stored_here b.stored }
