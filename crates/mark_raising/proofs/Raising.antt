-- What each way through the code of a round leaves: a mark raised to that of a conjugate, none raised, parts in a row. Assumes nothing.
use Prim.Native.Nat.{ℕ, ◌+◌, ◌≤◌, ◌<◌}
use mathlib.Core.Path.{◌≡◌, refl, sym, ap, ◌∙◌, subst}
use mathlib.Core.Bool.{Bool, true}
use mathlib.Core.List.{List}
use native.Mathlib.Omega.{arith}
use native.Mathlib.Decide.{ℕ_discrete}
use lib.ListN.{length, get_or, set, length-set}
use lib.Seq.{get_or-set_same, get_or-set_other}
use Rattle.finite.specs.Each.{EachBelow}
use Rattle.finite.proofs.Each.{each_none, each_more}
use Rattle.theory.specs.Rules.{Morphism, Lawful}
use Rattle.theory.specs.Pairs.{Idempotent, Conjugate}
use Rattle.theory.proofs.Conjugacy.{conjugate_sym, conjugate_trans}
use Rattle.theory.proofs.BestConjugates.{Attained, of_conjugate, of_none, best_none, so_far_same}
use Rattle.conjugacy_moves.specs.Moves.{LeftEquivalent, turned, AnyWay}
use Rattle.conjugacy_moves.proofs.Returns.{returns_conjugate}
use Rattle.conjugacy_moves.proofs.Rows.{stays_returns, stays_turned}
use Rattle.conjugacy_moves.proofs.FirstMoves.{first_left}
use Rattle.mark_moves.specs.Agreeing.{MoveTo}
use Rattle.mark_raising.specs.Tables.{place, first_table, second_table, highest_mark, Kept}
use Rattle.mark_raising.specs.Raising.{Raised, RaiseAnswer, StartSettled, MoveSettled, LetterSettled, LettersSettled, CycleSettled}
use Rattle.mark_raising.proofs.Tables.{place_same, kept_none, kept_both, kept_first}

-- nothing was raised, and what is asked is settled
pub raise_not : {m : Morphism} {P : List ℕ → Type 0} {before : Bool} {entry : List ℕ} → Raised m entry → P entry → RaiseAnswer m P before entry entry before
raise_not {m} {entry = entry} r p = record { kept = kept_none m.size entry; raised = r; unraised = λ e. (e, refl, p) }

-- what is settled is more
pub raise_known : {m : Morphism} {P Q : List ℕ → Type 0} {before answer : Bool} {entry exit : List ℕ} → (P entry → Q entry) → RaiseAnswer m P before entry exit answer
    → RaiseAnswer m Q before entry exit answer
raise_known f a = record { kept = a.kept; raised = a.raised; unraised = λ e. (let w = a.unraised e in (w.0, w.1, f w.2)) }

-- parts in a row
pub raise_both : {m : Morphism} {P Q S : List ℕ → Type 0} {before middle answer : Bool} {entry now next : List ℕ} → RaiseAnswer m P before entry now middle
    → RaiseAnswer m Q middle now next answer → (P entry → Q entry → S entry) → RaiseAnswer m S before entry next answer
raise_both {Q = Q} a b f = record {
  kept = kept_both a.kept b.kept;
  raised = b.raised;
  unraised = λ e.
      (let w = b.unraised e in
      let v = a.unraised w.0 in
      (v.0, w.1 ∙ v.1, f v.2 (subst Q v.1 w.2)));
}

-- a pass over the numbers below a bound
module _ {m : Morphism} {P : List ℕ → ℕ → Type 0} {before : Bool} where
  pub pass_none : {entry : List ℕ} → Raised m entry → RaiseAnswer m (λ bytes. EachBelow (P bytes) 0) before entry entry before
  pass_none r = raise_not r each_none

  pub pass_more : {i : ℕ} {middle answer : Bool} {entry now next : List ℕ} → RaiseAnswer m (λ bytes. EachBelow (P bytes) i) before entry now middle
      → RaiseAnswer m (λ bytes. P bytes i) middle now next answer → RaiseAnswer m (λ bytes. EachBelow (P bytes) (i + 1)) before entry next answer
  pass_more a b = raise_both a b (λ w p. each_more w p)

-- one start
module _ {m : Morphism} (law : Lawful m) (small : m.size ≤ 64) {e g f s t : ℕ} {now : List ℕ} (w : MoveTo m e g f) (hs : s < m.size) (is-start : t ≡ m.product s g)
    (r : Raised m now) where
  start_inside : t < m.size
  start_inside = subst (λ (a : ℕ). a < m.size) (sym is-start) (law.closed s g hs w.by_inside)

  -- the mark there is no lower
  pub start_not : {before : Bool} → get_or now (place s e) 0 ≤ get_or now (place t f) 0 → RaiseAnswer m (λ bytes. StartSettled m e g f bytes s) before now now before
  start_not h = raise_not r (record { no_lower = λ q. subst (λ (a : ℕ). get_or now (place s e) 0 ≤ get_or now (place a f) 0) is-start h })

  module _ (hf : f < m.size) (h : get_or now (place t f) 0 < get_or now (place s e) 0) where
    abbrev next : List ℕ
    next = set now (place t f) (get_or now (place s e) 0)

    -- it is lower: the mark of (s, e), which is not 0, is one of a conjugate
    found : Attained m highest_mark (first_table now) s e (get_or now (place s e) 0) → Attained m highest_mark (first_table now) t f (get_or now (place s e) 0)
    found (of_conjugate c q) =
        let d : Conjugate m s e t f = subst (λ (a : ℕ). Conjugate m s e a f) (sym is-start) (subst (Conjugate m s e (m.product s g)) w.step.cycle
        (returns_conjugate law c.left_linked w.by_inside w.step.returns)) in
        of_conjugate (conjugate_trans law (conjugate_sym law d) c) q
    found (of_none z) = absurd (omega arith)

    set_kept : Kept m.size now next
    set_kept = record {
      same_length = length-set now (place t f) (get_or now (place s e) 0);
      kept = λ i k. get_or-set_other now (place t f) i (get_or now (place s e) 0) 0 (λ q. k t f start_inside hf q);
    }

    inside : place t f < length now
    inside = let a = start_inside in omega (arith, r.so_far.room)

    cell : (a b : ℕ) → a < m.size → b < m.size → Dec (place a b ≡ place t f) → Attained m highest_mark (first_table now) a b (get_or next (place a b) 0)
    cell a b ha hb (yes q) =
        let p = place_same a b t f (omega arith) (omega arith) q in
        subst (λ (x : ℕ). Attained m highest_mark (first_table now) x b (get_or next (place x b) 0)) (sym p.0)
        (subst (λ (y : ℕ). Attained m highest_mark (first_table now) t y (get_or next (place t y) 0)) (sym p.1)
        (subst (Attained m highest_mark (first_table now) t f) (sym (get_or-set_same now (place t f) (get_or now (place s e) 0) 0 inside))
        (found (r.so_far.marks.cells s e hs w.idempotent.inside).attained)))
    cell a b ha hb (no d) =
        subst (Attained m highest_mark (first_table now) a b) (sym (get_or-set_other now (place t f) (place a b) (get_or now (place s e) 0) 0 d))
        (r.so_far.marks.cells a b ha hb).attained

    higher : (a b : ℕ) → a < m.size → b < m.size → Dec (place a b ≡ place t f) → first_table next a b ≤ second_table next a b
    higher a b ha hb (yes q) =
        omega (arith, kept_first small set_kept a b ha hb, r.above a b ha hb, ap (λ (i : ℕ). get_or now i 0) q, ap (λ (i : ℕ). get_or next i 0) q, get_or-set_same now (place t f) (get_or now (place s e) 0) 0 inside)
    higher a b ha hb (no d) =
        omega (arith, kept_first small set_kept a b ha hb, r.above a b ha hb, get_or-set_other now (place t f) (place a b) (get_or now (place s e) 0) 0 d)

    pub start_raised : {before : Bool} {P : List ℕ → Type 0} → RaiseAnswer m P before now next true
    start_raised = record {
      kept = set_kept;
      raised = record {
        so_far = record {
          room = omega (arith, r.so_far.room, set_kept.same_length);
          marks = so_far_same law (λ a b ha hb. sym (kept_first small set_kept a b ha hb))
              (record { cells = λ a b ha hb. best_none (cell a b ha hb (ℕ_discrete (place a b) (place t f))) });
        };
        above = λ a b ha hb. higher a b ha hb (ℕ_discrete (place a b) (place t f));
      };
      unraised = λ q. absurd (let z : ◌≡◌ {A = ℕ} 0 1 = cc in omega arith);
    }

-- the ways through the code for one letter's element
pub letter_stays : {m : Morphism} {e g : ℕ} {bytes : List ℕ} → Lawful m → Idempotent m e → g < m.size → m.product e g ≡ e → LetterSettled m e g bytes
letter_stays {m} {e} {g} {bytes} law i hg p = record {
  some_way = λ z b. (
    e,
    record { way = e; returns = stays_returns law i p; cycle = stays_turned law i p },
    record { starts = record { each = λ s hs. record { no_lower = λ stays. start hs stays } } },
  );
}
  where
    start : {s : ℕ} → s < m.size → m.product s e ≡ s → second_table bytes s e ≤ second_table bytes (m.product s g) e
    start {s} hs stays =
        let q : m.product s g ≡ s = cc (law.associative s e g hs i.inside hg) in
        omega (arith, ap (λ (t : ℕ). second_table bytes t e) q)

pub letter_none : {m : Morphism} {e g y : ℕ} {bytes : List ℕ} → y ≡ m.product e g → EachBelow (λ x. m.product y x ≡ e → ⊥) m.size → LetterSettled m e g bytes
letter_none {m} is_y none = record { some_way = λ x b. absurd (none.each x b.inside (ap (λ (a : ℕ). m.product a x) is_y ∙ b.back)) }

pub letter_moves : {m : Morphism} {e g f : ℕ} {bytes : List ℕ} → AnyWay m e g f → MoveSettled m e g f bytes → LetterSettled m e g bytes
letter_moves {f = f} w k = record { some_way = λ z b. (f, w, k) }

-- a move within a left class is one by the idempotent itself
pub left_move : {m : Morphism} {e f : ℕ} → LeftEquivalent m e f → MoveTo m e e f
unfolding turned
left_move {m} {e} {f} k = record {
  idempotent = k.first;
  by_inside = k.first.inside;
  step = record {
    way = f;
    returns = record { inside = k.second.inside; back = ap (λ (a : ℕ). m.product a f) k.first.square ∙ k.forth };
    cycle = ap (m.product f) k.first.square ∙ k.back;
  };
}

-- the ways through the code for one element
module _ {m : Morphism} {e : ℕ} {bytes : List ℕ} where
  pub cycle_none : (m.product e e ≡ e → ⊥) → CycleSettled m bytes e
  cycle_none other = record { by_left = λ i d. absurd (other i.square); by_letters = λ i q. absurd (other i.square) }

  module _ {first : ℕ} (is-first : first ≡ first_left m e) where
    pub cycle_first : first ≡ e → LettersSettled m e bytes → CycleSettled m bytes e
    cycle_first q k = record { by_left = λ i d. absurd (d (sym is-first ∙ q)); by_letters = λ i z. k }

    pub cycle_later : (first ≡ e → ⊥) → MoveSettled m e e first bytes → MoveSettled m first first e bytes → CycleSettled m bytes e
    cycle_later other there back = record {
      by_left = λ i d.
          subst (λ (x : ℕ). MoveSettled m e e x bytes × MoveSettled m x x e bytes) is-first (there, back);
      by_letters = λ i q. absurd (other (is-first ∙ q));
    }
