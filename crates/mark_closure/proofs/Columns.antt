-- One column of the second table: the byte of (s, e) after a pair of factors, element after element. Assumes nothing.
use Prim.Native.Nat.{ℕ, ◌+◌, ◌*◌, ◌≤◌, ◌<◌}
use mathlib.Core.Path.{◌≡◌, refl}
use mathlib.Core.List.{List}
use native.Mathlib.Omega.{arith}
use lib.ListN.{length, get_or, set, length-set}
use lib.Seq.{get_or-set_same, get_or-set_other}
use Rattle.theory.specs.Rules.{Morphism}
use Rattle.theory.proofs.BestConjugates.{better_not, better_taken, better_same, bettered_none, bettered_more}
use Rattle.mark_closure.specs.Closing.{place, first_table, ByteAfter, ColumnClosed}
use Rattle.mark_closure.proofs.Tables.{place_same, kept_none, kept_both, kept_first}

-- the ways through the code for one byte where s·e = s: (s·x, f) has no higher mark, or it has
module _ (m : Morphism) (bytes : List ℕ) (x e f s old : ℕ) {kept t : ℕ} (is-kept : kept ≡ m.product s e) (is-start : t ≡ m.product s x) where
  pub after_lower : get_or bytes (t * 64 + f) 0 ≤ old → ByteAfter m (first_table bytes) x e f s old old
  after_lower h = better_not is-kept is-start h

  pub after_higher : kept ≡ s → old < get_or bytes (t * 64 + f) 0 → ByteAfter m (first_table bytes) x e f s old (get_or bytes (t * 64 + f) 0)
  after_higher p h = better_taken is-kept is-start p refl (omega arith)

-- no byte of the column has changed yet
pub column_none : (m : Morphism) (x e f : ℕ) (l : List ℕ) → ColumnClosed m x e f 0 l l
column_none m x e f l = record { kept = kept_none m.size l; column = bettered_none }

-- the byte of one more element
module _ {m : Morphism} {x e f s : ℕ} {entry now : List ℕ} {byte : ℕ} (small : m.size ≤ 64) (hs : s < m.size) (he : e < m.size) (hf : f < m.size)
    (ht : m.product s x < m.size) (inside : place s e < length now) (l : ColumnClosed m x e f s entry now)
    (d : ByteAfter m (first_table now) x e f s (get_or now (place s e) 0) byte) where
  pub column_more : ColumnClosed m x e f (s + 1) entry (set now (place s e) byte)
  column_more = record {
    kept = kept_both l.kept (record {
      same_length = length-set now (place s e) byte;
      kept = λ i g. get_or-set_other now (place s e) i byte 0 (λ q. g s e hs he q);
    });
    column = bettered_more hs he l.column (better_same (kept_first small l.kept (m.product s x) f ht hf) d) (record {
      has_value = get_or-set_same now (place s e) byte 0 inside;
      others = λ a b ha hb g. get_or-set_other now (place s e) (place a b) byte 0 (λ q. let p = place_same a b s e (omega arith) (omega arith) q in g p.0 p.1);
    });
  }
