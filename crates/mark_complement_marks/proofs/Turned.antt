-- The marks of the complement, written over the second table pair after pair and row after row. Assumes nothing.
use Prim.Native.Nat.{ℕ, ◌+◌, ◌*◌, ◌-◌, ◌≤◌, ◌<◌}
use mathlib.Core.Path.{◌≡◌, refl, sym, ap, ◌∙◌, subst}
use mathlib.Core.Bool.{Bool, cond}
use mathlib.Core.Logic.{◌≢◌}
use mathlib.Core.List.{List}
use native.Mathlib.Omega.{arith}
use native.Mathlib.Decide.{ℕ_discrete}
use lib.ListN.{length, get_or, set, length-set}
use lib.Seq.{get_or-set_same, get_or-set_other}
use Rattle.finite.proofs.Tests.{T_true, T_false}
use Rattle.theory.specs.Rules.{Morphism}
use Rattle.theory.specs.Pairs.{Linked}
use Rattle.theory.proofs.Closure.{linked_test, linked_intro, linked_elim}
use Rattle.scratch.specs.Map.{second_base, marks_from}
use Rattle.mark_closure.specs.Closing.{place, Kept}
use Rattle.mark_closure.proofs.Tables.{place_same, kept_before, kept_after}
use Rattle.mark_complement_marks.specs.Complement.{turned_mark, ComplementLaid, ComplementByte, ComplementRow, ComplementRows}

-- the ways through the code for one byte: the pair is not linked, has the highest grade, or lacks something of it
module _ (m : Morphism) (bytes : List ℕ) (s e : ℕ) where
  pub turned_unlinked : (Linked m s e → ⊥) → ComplementByte m bytes s e 0
  unfolding turned_mark
  turned_unlinked g =
      let number : ℕ = 3 - marks_from bytes second_base s e in
      sym (ap (λ (b : Bool). cond b number 0) (T_false (linked_test m s e) (λ t. g (linked_elim m s e t))))

  pub turned_linked : {byte : ℕ} → Linked m s e → byte ≡ 3 - get_or bytes (second_base + (s * 64 + e)) 0 → ComplementByte m bytes s e byte
  unfolding turned_mark marks_from
  turned_linked l q =
      let number : ℕ = 3 - marks_from bytes second_base s e in
      q ∙ sym (ap (λ (b : Bool). cond b number 0) (T_true (linked_test m s e) (linked_intro l)))

-- the byte to be depends on the byte that is there only
turned_same : (m : Morphism) (s e : ℕ) {byte : ℕ} (now entry : List ℕ) → get_or now (place s e) 0 ≡ get_or entry (place s e) 0
    → ComplementByte m now s e byte → ComplementByte m entry s e byte
unfolding turned_mark marks_from
turned_same m s e now entry q d = d ∙ ap (λ (mark : ℕ). cond (linked_test m s e) (3 - mark) 0) q

-- no pair of the row has its byte yet
pub row_none : (m : Morphism) (s : ℕ) (l : List ℕ) → ComplementRow m s 0 l l
row_none m s l = record { same_length = refl; row = λ e h. absurd (omega arith); others = λ i g. refl }

-- one more has
module _ {m : Morphism} {s e : ℕ} {entry now : List ℕ} {byte : ℕ} (he : e < 64) (inside : place s e < length now)
    (l : ComplementRow m s e entry now) (d : ComplementByte m now s e byte) where
  fresh : get_or now (place s e) 0 ≡ get_or entry (place s e) 0
  fresh = l.others (place s e) (λ a h q. let p = (place_same s e s a he (omega arith) q).1 in omega arith)

  stored : (a : ℕ) → Dec (a ≡ e) → a < e + 1 → ComplementByte m entry s a (get_or (set now (place s e) byte) (place s a) 0)
  stored a (yes q) h =
      subst (λ (a : ℕ). ComplementByte m entry s a (get_or (set now (place s e) byte) (place s a) 0)) (sym q)
      (rw (get_or-set_same now (place s e) byte 0 inside) (turned_same m s e now entry fresh d))
  stored a (no g) h =
      rw (get_or-set_other now (place s e) (place s a) byte 0 (λ q. g (place_same s a s e (omega arith) he q).1))
      (l.row a (let w : a ≢ e = g in omega arith))

  pub row_more : ComplementRow m s (e + 1) entry (set now (place s e) byte)
  row_more = record {
    same_length = length-set now (place s e) byte ∙ l.same_length;
    row = λ a h. stored a (ℕ_discrete a e) h;
    others = λ i g. get_or-set_other now (place s e) i byte 0 (λ q. g e (omega arith) q) ∙ l.others i (λ a h q. g a (omega arith) q);
  }

-- no row is done
pub rows_none : (m : Morphism) (l : List ℕ) → ComplementRows m 0 l l
rows_none m l = record { same_length = refl; rows = λ s e h. absurd (omega arith); others = λ i g. refl }

-- one more is
module _ {m : Morphism} {s : ℕ} {entry now next : List ℕ} (small : m.size ≤ 64) (l : ComplementRows m s entry now) (r : ComplementRow m s m.size now next) where
  row_byte : (a e : ℕ) → e < m.size → Dec (a ≡ s) → a < s + 1 → ComplementByte m entry a e (get_or next (place a e) 0)
  row_byte a e he (yes q) h =
      subst (λ (a : ℕ). ComplementByte m entry a e (get_or next (place a e) 0)) (sym q)
      (turned_same m s e now entry (l.others (place s e) (λ b d hb hd p. let w = (place_same s e b d (omega arith) (omega arith) p).0 in omega arith)) (r.row e he))
  row_byte a e he (no g) h =
      rw (r.others (place a e) (λ d hd p. g (place_same a e s d (omega arith) (omega arith) p).0))
      (l.rows a e (let w : a ≢ s = g in omega arith) he)

  pub rows_more : ComplementRows m (s + 1) entry next
  rows_more = record {
    same_length = r.same_length ∙ l.same_length;
    rows = λ a e h he. row_byte a e he (ℕ_discrete a s) h;
    others = λ i g. r.others i (λ e he q. g s e (omega arith) he q) ∙ l.others i (λ a e h he q. g a e (omega arith) he q);
  }

-- all rows are
module _ {m : Morphism} {entry exit : List ℕ} (small : m.size ≤ 64) (l : ComplementRows m m.size entry exit) where
  rows_kept : Kept m.size entry exit
  rows_kept = record { same_length = l.same_length; kept = l.others }

  pub rows_all : ComplementLaid m entry exit
  unfolding marks_from
  rows_all = record {
    same_length = l.same_length;
    marks = λ s e hs he. l.rows s e hs he;
    before = kept_before small rows_kept;
    after = kept_after small rows_kept;
    between = l.others;
  }
