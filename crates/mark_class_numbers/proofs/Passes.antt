-- What the passes over the numbers leave: first numbers pair after pair and row after row, one column lowered, and the classes
-- once all factors were tried. Assumes nothing.
use Prim.Native.Nat.{ℕ, ◌+◌, ◌*◌, ◌≤◌, ◌<◌}
use mathlib.Core.Path.{◌≡◌, sym, subst, subst₂}
use mathlib.Core.Logic.{◌≢◌, ⊎_elim}
use mathlib.Core.List.{List}
use native.Mathlib.Omega.{arith}
use native.Mathlib.Decide.{ℕ_discrete}
use lib.Arith.{digits_lt}
use Rattle.finite.proofs.Numbers.{le_or_lt, pair_same, row_more}
use Rattle.theory.specs.Rules.{Morphism, Lawful}
use Rattle.theory.proofs.BestConjugates.{bettered_none, bettered_more, so_far_column}
use Rattle.promises.specs.Classes.{ClassesWritten, class_place}
use Rattle.scratch.proofs.Unchanged.{unchanged_none, unchanged_both, unchanged_wider}
use Rattle.mark_class_numbers.specs.Cells.{number_table, Stored, Numbered, Begun, Classed, CellAdvanced, Lowest, Lowered}
use Rattle.mark_class_numbers.proofs.Bytes.{two_kept, stored_other, stored_byte, stored_kept}
use Rattle.mark_class_numbers.proofs.Factors.{numbered_all}

-- no pair has its first number yet
pub begun_none : (m : Morphism) (from : ℕ) (l : List ℕ) → Begun m from from l l
begun_none m from l = record {
  cells = λ s e he a b. absurd (omega arith);
  bytes = λ i a b. absurd (omega arith);
  kept = unchanged_none (2 * from) (2 * from) l;
}

-- a pair more
module _ {m : Morphism} {from s e : ℕ} {entry now next : List ℕ} {number : ℕ} where
  pub begun_more : e < m.size → from ≤ s * m.size + e → Begun m from (s * m.size + e) entry now → Stored now next (2 * (s * m.size + e)) number
      → Numbered m 0 s e number → Begun m from (s * m.size + (e + 1)) entry next
  begun_more he lo b st d = record {
    cells = λ a c hc g h. cell a c hc g (ℕ_discrete (a * m.size + c) (s * m.size + e)) h;
    bytes = λ i a h. stored_byte st i (λ f g. b.bytes i a (let u : i ≢ 2 * (s * m.size + e) = f in let v : i ≢ 2 * (s * m.size + e) + 1 = g in omega arith));
    kept = unchanged_both (unchanged_wider (omega arith) (omega arith) b.kept) (stored_kept st (omega arith) (omega arith));
  }
    where
      cell : (a c : ℕ) → c < m.size → from ≤ a * m.size + c → Dec (a * m.size + c ≡ s * m.size + e) → a * m.size + c < s * m.size + (e + 1)
          → Numbered m 0 a c (number_table m.size next a c)
      cell a c hc g (yes q) h =
          let same = pair_same hc he q in
          subst₂ (λ (a c : ℕ). Numbered m 0 a c (number_table m.size next a c)) (sym same.0) (sym same.1)
          (subst (λ (v : ℕ). Numbered m 0 s e v) (sym st.is_number) d)
      cell a c hc g (no f) h = rw (stored_other st (a * m.size + c) f) (b.cells a c hc g (omega arith))

-- two passes in a row
pub begun_both : {m : Morphism} {from mid to : ℕ} {entry now next : List ℕ} → from ≤ mid → mid ≤ to → Begun m from mid entry now → Begun m mid to now next
    → Begun m from to entry next
begun_both {m} {from} {mid} {to} {entry} {now} {next} h g a b = record {
  cells = λ s e he p q. ⊎_elim (λ w. b.cells s e he w q)
      (λ w. let i = s * m.size + e in rw (two_kept now next i (b.kept.before (2 * i) (omega arith)) (b.kept.before (2 * i + 1) (omega arith))) (a.cells s e he p w))
      (le_or_lt mid (s * m.size + e));
  bytes = λ i p q. ⊎_elim (λ w. b.bytes i w q) (λ w. rw (b.kept.before i w) (a.bytes i p w)) (le_or_lt (2 * mid) i);
  kept = unchanged_both (unchanged_wider (omega arith) (omega arith) a.kept) (unchanged_wider (omega arith) (omega arith) b.kept);
}

-- a row more
pub begun_row : {m : Morphism} (s : ℕ) {entry now next : List ℕ} → Begun m 0 (s * m.size) entry now → Begun m (s * m.size) (s * m.size + m.size) now next
    → Begun m 0 ((s + 1) * m.size) entry next
begun_row {m} s {entry} {now} {next} a b =
    subst (λ (to : ℕ). Begun m 0 to entry next) (sym (row_more s m.size)) (begun_both (omega arith) (omega arith) a b)

-- every pair has its first number
pub begun_all : {m : Morphism} {entry exit : List ℕ} → Begun m 0 (m.size * m.size) entry exit → CellAdvanced m 0 entry exit
begun_all b = record {
  classed = record {
    numbers = record { cells = λ s e hs he. b.cells s e he (omega arith) (digits_lt hs he) };
    bytes_small = λ i h. b.bytes i (omega arith) h;
  };
  kept = b.kept;
}

-- no number is lowered yet
pub lowered_none : (m : Morphism) (x e f : ℕ) (l : List ℕ) → Lowered m x e f 0 l l
lowered_none m x e f l = record { kept = unchanged_none 0 (2 * (m.size * m.size)) l; column = bettered_none; bytes = λ i h. h }

-- the number of one more element
module _ {m : Morphism} {x e f s : ℕ} {entry now next : List ℕ} {number : ℕ} where
  pub lowered_more : s < m.size → e < m.size → Lowered m x e f s entry now → Stored now next (2 * (s * m.size + e)) number
      → Lowest m x e f s (number_table m.size now s e) number → Lowered m x e f (s + 1) entry next
  lowered_more hs he l st d =
      let inside = digits_lt hs he in
      record {
        kept = unchanged_both l.kept (stored_kept st (omega arith) (omega arith));
        column = bettered_more hs he l.column d (record {
          has_value = st.is_number;
          others = λ a b ha hb g. stored_other st (a * m.size + b) (λ q. let p = pair_same hb he q in g p.0 p.1);
        });
        bytes = λ i h. stored_byte st i (λ f g. l.bytes i h);
      }

-- one pair of factors more, whose products are idempotent: a column was lowered
pub advanced_lowered : {m : Morphism} {x y e f ee ff : ℕ} {entry exit : List ℕ} → Lawful m → x < m.size → y < m.size → Classed m (x * m.size + y) entry
    → e ≡ m.product x y → f ≡ m.product y x → ee ≡ m.product e e → ee ≡ e → ff ≡ m.product f f → ff ≡ f
    → Lowered m x e f m.size entry exit → CellAdvanced m (x * m.size + (y + 1)) entry exit
advanced_lowered law hx hy c pe pf q i r j l = record {
  classed = record {
    numbers = so_far_column hx hy c.numbers pe pf law q i r j l.column;
    bytes_small = λ i h. l.bytes i (c.bytes_small i h);
  };
  kept = l.kept;
}

-- passes in a row
pub advanced_both : {m : Morphism} {a b : ℕ} {entry now next : List ℕ} → CellAdvanced m a entry now → CellAdvanced m b now next → CellAdvanced m b entry next
advanced_both p q = record { classed = q.classed; kept = unchanged_both p.kept q.kept }

pub advanced_row : {m : Morphism} (x : ℕ) {entry now next : List ℕ} → CellAdvanced m (x * m.size) entry now → CellAdvanced m (x * m.size + m.size) now next
    → CellAdvanced m ((x + 1) * m.size) entry next
advanced_row {m} x {entry} {now} {next} a b = subst (λ (count : ℕ). CellAdvanced m count entry next) (sym (row_more x m.size)) (advanced_both a b)

-- all factors were tried: the classes are written
pub advanced_all : {m : Morphism} {entry exit : List ℕ} → CellAdvanced m (m.size * m.size) entry exit → ClassesWritten m entry exit
unfolding class_place
advanced_all {m} {entry} {exit} a = record {
  same_length = a.kept.same_length;
  classes = λ s e hs he. numbered_all (a.classed.numbers.cells s e hs he);
  bytes = a.classed.bytes_small;
  kept = a.kept.after;
}
