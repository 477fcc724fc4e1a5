-- A class is stored behind others. Assumes nothing.
use Prim.Native.Nat.{ℕ, ◌+◌, ◌*◌, ◌<◌}
use mathlib.Core.Path.{◌≡◌}
use mathlib.Core.List.{List}
use Rattle.scratch.specs.Bytes.{UnchangedOutside}
use Rattle.scratch.specs.Rows.{RowFilled, RowsFilled}
use Rattle.scratch.proofs.Rows.{rows_more}
use Rattle.scratch.proofs.Unchanged.{unchanged_room}
use Rattle.until_step.specs.Bytes.{new_at}
use Rattle.until_search.specs.Searching.{StoreNeeds}

module _ {np count : ℕ} {scratch entry : List ℕ} (n : StoreNeeds np count scratch entry) where
  pub needs_now : {from to : ℕ} {now : List ℕ} → UnchangedOutside from to entry now → StoreNeeds np count scratch now
  needs_now k = record {
    needs = record { few_pairs = n.needs.few_pairs; room = n.needs.room; classes_room = unchanged_room k n.needs.classes_room };
    place = n.place;
  }

  module _ {t : ℕ} (ht : t < np) where
    pub row_more : {now next : List ℕ} → RowsFilled (λ t z byte. byte ≡ new_at scratch t z) (count * 4096) 64 np t entry now
        → RowFilled (λ z byte. byte ≡ new_at scratch t z) (count * 4096 + t * 64) np now next → RowsFilled (λ t z byte. byte ≡ new_at scratch t z) (count * 4096) 64 np (t + 1) entry next
    row_more r s = rows_more n.needs.few_pairs r s (λ z byte hz q. q)
