-- What stays as it was where bytes of scratch are written: no change, changes in a row, one store. Assumes nothing.
use Prim.Native.Nat.{ℕ, ◌≤◌, ◌<◌}
use mathlib.Core.Path.{refl, sym, ◌∙◌}
use mathlib.Core.List.{List}
use native.Mathlib.Omega.{arith}
use lib.ListN.{length, set, length-set}
use lib.Seq.{get_or-set_other}
use Rattle.scratch.specs.Bytes.{UnchangedOutside}

-- nothing changed
pub unchanged_none : (from to : ℕ) (l : List ℕ) → UnchangedOutside from to l l
unchanged_none from to l = record { same_length = refl; before = λ i h. refl; after = λ i h. refl }

-- the other way round
pub unchanged_sym : {from to : ℕ} {l now : List ℕ} → UnchangedOutside from to l now → UnchangedOutside from to now l
unchanged_sym k = record { same_length = sym k.same_length; before = λ i h. sym (k.before i h); after = λ i h. sym (k.after i h) }

-- two changes in a row
pub unchanged_both : {from to : ℕ} {l now next : List ℕ} → UnchangedOutside from to l now → UnchangedOutside from to now next → UnchangedOutside from to l next
unchanged_both p q = record {
  same_length = q.same_length ∙ p.same_length;
  before = λ i h. q.before i h ∙ p.before i h;
  after = λ i h. q.after i h ∙ p.after i h;
}

-- a change within a wider part
pub unchanged_wider : {from to low high : ℕ} {l now : List ℕ} → low ≤ from → to ≤ high → UnchangedOutside from to l now → UnchangedOutside low high l now
unchanged_wider {from} {to} {low} {high} g h k = record {
  same_length = k.same_length;
  before = λ i p. k.before i (omega arith);
  after = λ i p. k.after i (omega arith);
}

-- one store
pub unchanged_set : {from to : ℕ} (l : List ℕ) (at v : ℕ) → from ≤ at → at < to → UnchangedOutside from to l (set l at v)
unchanged_set l at v g h = record {
  same_length = simp length-set;
  before = λ i p. get_or-set_other l at i v 0 (λ e. omega arith);
  after = λ i p. get_or-set_other l at i v 0 (λ e. omega arith);
}

-- room stays room
pub unchanged_room : {from to size : ℕ} {l now : List ℕ} → UnchangedOutside from to l now → size ≤ length l → size ≤ length now
unchanged_room k h = omega (arith, k.same_length)
