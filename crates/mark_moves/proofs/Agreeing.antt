-- What each look at the marks tells: the first idempotent of a left class, marks that differ on conjugate pairs, marks that agree along a move; and that
-- marks which agree as is asked at each idempotent are constant along every move. Assumes nothing.
use Prim.Native.Nat.{ℕ, ◌+◌, ◌*◌, ◌≤◌, ◌<◌}
use mathlib.Core.Path.{◌≡◌, sym, ap, ap₂, ◌∙◌, subst}
use mathlib.Core.Bool.{Bool, true, false, not}
use mathlib.Core.Logic.{◌⊎◌, inl, inr}
use mathlib.Core.List.{List}
use native.Mathlib.Nat.{le_antisymm}
use native.Mathlib.Omega.{arith}
use lib.ListN.{get_or}
use borrow.Author.Tests.{not-true, not-false}
use Rattle.finite.specs.Each.{EachBelow}
use Rattle.finite.proofs.Each.{each_more}
use Rattle.finite.proofs.Numbers.{le_or_lt}
use Rattle.theory.specs.Rules.{Morphism, Lawful, Marking}
use Rattle.theory.specs.Pairs.{Idempotent, Linked, Conjugate}
use Rattle.theory.proofs.Gradings.{GradedMarks, level_up}
use Rattle.conjugacy_moves.specs.Moves.{LetterElement, LeftEquivalent, turned, GeneratorMove, AnyWay}
use Rattle.conjugacy_moves.specs.Tables.{ConstantAlongMoves}
use Rattle.conjugacy_moves.proofs.Returns.{same_left_sym, returns_same, turned_inside, turned_same, returns_conjugate, same_left_conjugate}
use Rattle.conjugacy_moves.proofs.Rows.{stays_returns, stays_turned}
use Rattle.conjugacy_moves.proofs.FirstMoves.{first_left, first_left_least, first_left_same, first_left_representatives}
use Rattle.conjugacy_moves.proofs.Tables.{rep_linked, kept_rep}
use Rattle.scratch.specs.Map.{marks_from}
use Rattle.scratch.proofs.Markings.{front_mark}
use Rattle.mark_moves.specs.Agreeing.{ConjugatesDiffer, AgreeAnswer, Way, ColumnsAgree, MoveTo, StartAgrees, MoveAgrees, LetterAgrees, LettersAgree, CycleAgrees}

-- an answer that was given
module _ {m : Morphism} {marks : Marking} {P : Type 0} where
  pub answer_yes : P → AgreeAnswer m marks P true
  answer_yes p = record { agree = λ e. p; differ = λ e. absurd (let z : ◌≡◌ {A = ℕ} 0 1 = cc in omega arith) }

  pub answer_no : ConjugatesDiffer m marks → AgreeAnswer m marks P false
  answer_no d = record { agree = λ e. absurd (let z : ◌≡◌ {A = ℕ} 0 1 = cc in omega arith); differ = λ e. d }

  -- and is passed on
  pub answer_more : {Q : Type 0} {answer : Bool} → (P → Q) → AgreeAnswer m marks P answer → AgreeAnswer m marks Q answer
  answer_more f a = record { agree = λ e. f (a.agree e); differ = a.differ }

-- a pass over the numbers below a bound that ends at the first which differs
pub pass_more : {m : Morphism} {marks : Marking} {P : ℕ → Type 0} {i : ℕ} {answer : Bool} → EachBelow P i → AgreeAnswer m marks (P i) answer → not answer ≡ false
    → EachBelow P (i + 1)
pass_more w a e = each_more w (a.agree (not-false _ e))

pub pass_ends : {m : Morphism} {marks : Marking} {P Q : Type 0} {answer : Bool} → AgreeAnswer m marks P answer → not answer ≡ true → AgreeAnswer m marks Q false
pass_ends a e = answer_no (a.differ (not-true _ e))

-- marks in the first table, by their bytes
module _ (bytes : List ℕ) (s e t f : ℕ) where
  pub bytes_same : get_or bytes (s * 64 + e) 0 ≡ get_or bytes (t * 64 + f) 0 → marks_from bytes 0 s e ≡ marks_from bytes 0 t f
  bytes_same q = sym (front_mark bytes s e) ∙ q ∙ front_mark bytes t f

  pub bytes_differ : (get_or bytes (s * 64 + e) 0 ≡ get_or bytes (t * 64 + f) 0 → ⊥) → marks_from bytes 0 s e ≡ marks_from bytes 0 t f → ⊥
  bytes_differ d q = d (front_mark bytes s e ∙ q ∙ sym (front_mark bytes t f))

-- the ways through the code for one start: the pair is not linked, or the bytes are the same
module _ {m : Morphism} {e g f s : ℕ} where
  pub start_free : {marks : Marking} {kept : ℕ} → kept ≡ m.product s e → (kept ≡ s → ⊥) → StartAgrees m marks e g f s
  start_free is-kept moved = record { same = λ q. absurd (moved (is-kept ∙ q)) }

  pub start_same : (bytes : List ℕ) {t : ℕ} → t ≡ m.product s g → get_or bytes (s * 64 + e) 0 ≡ get_or bytes (t * 64 + f) 0 → StartAgrees m (marks_from bytes 0) e g f s
  start_same bytes {t} is-start same = record {
    same = λ q. subst (λ (a : ℕ). marks_from bytes 0 s e ≡ marks_from bytes 0 a f) is-start (bytes_same bytes s e t f same);
  }

-- the first of a left class, where none was found before it
module _ {m : Morphism} where
  pub first_is : {e f : ℕ} → LeftEquivalent m f e → EachBelow (λ i. LeftEquivalent m i e → ⊥) f → f ≡ first_left m e
  first_is {e} {f} k none = le_antisymm (by (le_or_lt f (first_left m e))) (first_left_least k)
    where
      by : (f ≤ first_left m e) ⊎ (first_left m e < f) → f ≤ first_left m e
      by (inl h) = h
      by (inr h) = absurd (none.each (first_left m e) h (first_left_same k.second))

  pub first_same : {e first : ℕ} → Idempotent m e → first ≡ first_left m e → LeftEquivalent m e first
  first_same {e} i p = subst (LeftEquivalent m e) (sym p) (same_left_sym (first_left_same i))

-- the ways through the code for one letter's element g with y = e·g: e stands in the row of y, and the move leads to z·y; or it does not, and there is none
module _ {m : Morphism} {e g y : ℕ} (is_y : y ≡ m.product e g) where
  pub first_way_move : {z f : ℕ} → Way m y e z → f ≡ m.product z y → AnyWay m e g f
  unfolding turned
  first_way_move {z} w p = record {
    way = z;
    returns = record { inside = w.inside; back = ap (λ (a : ℕ). m.product a z) (sym is_y) ∙ w.leads };
    cycle = ap (m.product z) (sym is_y) ∙ sym p;
  }

  pub letter_none : {marks : Marking} → EachBelow (λ x. m.product y x ≡ e → ⊥) m.size → LetterAgrees m marks e g
  letter_none none = record { some_way = λ x b. absurd (none.each x b.inside (ap (λ (a : ℕ). m.product a x) is_y ∙ b.back)) }

pub letter_moves : {m : Morphism} {marks : Marking} {e g f : ℕ} → AnyWay m e g f → MoveAgrees m marks e g f → LetterAgrees m marks e g
letter_moves {f = f} w k = record { some_way = λ z b. (f, w, k) }

-- the ways through the code for one element
module _ {m : Morphism} {marks : Marking} {e : ℕ} where
  -- one that is not idempotent is the cycle of no linked pair
  pub cycle_none : (m.product e e ≡ e → ⊥) → CycleAgrees m marks e
  cycle_none other = record { by_left = λ s l. absurd (other l.idempotent.square); by_letters = λ i q. absurd (other i.square) }

  module _ {first : ℕ} (is-first : first ≡ first_left m e) where
    -- one that is not the first of its left class
    pub cycle_later : (first ≡ e → ⊥) → ColumnsAgree m marks e first → CycleAgrees m marks e
    cycle_later other k = record { by_left = λ s l. k.same.each s l.inside ∙ ap (marks s) is-first; by_letters = λ i q. absurd (other (is-first ∙ q)) }

    -- one that is
    pub cycle_first : first ≡ e → LettersAgree m marks e → CycleAgrees m marks e
    cycle_first q k = record { by_left = λ s l. ap (marks s) (sym q ∙ is-first); by_letters = λ i z. k }

module _ {m : Morphism} (law : Lawful m) where
  -- e·f = e and f·e = f make f idempotent
  pub left_of : {e f : ℕ} → Idempotent m e → f < m.size → m.product e f ≡ e → m.product f e ≡ f → LeftEquivalent m f e
  left_of {e} {f} i hf forth back = record {
    first = record { inside = hf; square = cc (law.associative f e f hf i.inside hf) };
    second = i;
    forth = back;
    back = forth;
  }

  -- marks of pairs with one start and idempotents of one left class that differ: one is not 0, so that its pair is linked, and with it the other
  pub left_differ : {marks : Marking} {s e f : ℕ} → GradedMarks m marks → s < m.size → LeftEquivalent m e f → (marks s e ≡ marks s f → ⊥) → ConjugatesDiffer m marks
  left_differ {marks} {s} {e} {f} good hs k differ = by (le_or_lt 1 (marks s e)) (le_or_lt 1 (marks s f))
    where
      linked : {c : ℕ} → c < m.size → 1 ≤ marks s c → Linked m s c
      linked {c} hc some = good.linked.linked s c hs hc (level_up marks 1 s c some)

      by : (1 ≤ marks s e) ⊎ (marks s e < 1) → (1 ≤ marks s f) ⊎ (marks s f < 1) → ConjugatesDiffer m marks
      by (inl some) d = record {
        s = s;
        e = e;
        t = s;
        f = f;
        conjugate = same_left_conjugate law (linked k.first.inside some) k;
        differ = differ;
      }
      by (inr none) (inl some) = record {
        s = s;
        e = f;
        t = s;
        f = e;
        conjugate = same_left_conjugate law (linked k.second.inside some) (same_left_sym k);
        differ = λ q. differ (sym q);
      }
      by (inr none) (inr none') = absurd (differ (omega arith))

  module _ {e g f : ℕ} (w : MoveTo m e g f) where
    pub move_inside : f < m.size
    move_inside = subst (λ (a : ℕ). a < m.size) w.step.cycle (turned_inside law w.idempotent.inside w.by_inside w.step.returns.inside)

    -- bytes that differ along a move
    pub start_differs : (bytes : List ℕ) {s kept t : ℕ} → s < m.size → kept ≡ m.product s e → kept ≡ s → t ≡ m.product s g
        → (get_or bytes (s * 64 + e) 0 ≡ get_or bytes (t * 64 + f) 0 → ⊥) → ConjugatesDiffer m (marks_from bytes 0)
    start_differs bytes {s} {kept} {t} hs is-kept stays is-start differ = record {
      s = s;
      e = e;
      t = m.product s g;
      f = f;
      conjugate = subst (Conjugate m s e (m.product s g)) w.step.cycle
          (returns_conjugate law (record { inside = hs; idempotent = w.idempotent; stays = sym is-kept ∙ stays }) w.by_inside w.step.returns);
      differ = subst (λ (a : ℕ). marks_from bytes 0 s e ≡ marks_from bytes 0 a f → ⊥) is-start (bytes_differ bytes s e t f differ);
    }

  -- where e·g = e, the move leads from each pair to itself
  pub letter_stays : {marks : Marking} {e g : ℕ} → Idempotent m e → g < m.size → m.product e g ≡ e → LetterAgrees m marks e g
  letter_stays {marks} {e} {g} i hg p = record {
    some_way = λ z b. (
      e,
      record { way = e; returns = stays_returns law i p; cycle = stays_turned law i p },
      record { same = record { each = λ s hs. record { same = λ stays. ap (λ (t : ℕ). marks t e) (start hs stays) } } },
    );
  }
    where
      start : {s : ℕ} → s < m.size → m.product s e ≡ s → s ≡ m.product s g
      start {s} hs stays = cc (law.associative s e g hs i.inside hg)

  -- marks that agree at each element are constant along every move
  module _ {marks : Marking} (k : EachBelow (CycleAgrees m marks) m.size) where
    left_constant : {s e f : ℕ} → Linked m s e → LeftEquivalent m e f → marks s e ≡ marks s f
    left_constant {s} {e} {f} l same =
        (k.each e l.idempotent.inside).by_left s l
        ∙ ap (marks s) ((first_left_representatives law).one e f same)
        ∙ sym ((k.each f same.second.inside).by_left s (same_left_conjugate law l same).right_linked)

    -- the move is compared with the one from the first idempotent of the left class, which may lead back another way
    letter_constant : {s e t f : ℕ} → GeneratorMove m (LetterElement m) s e t f → marks s e ≡ marks t f
    letter_constant {s} {e} {t} {f} w =
        let reps = first_left_representatives law in
        let first = first_left m e in
        let i = w.linked.idempotent in
        let same = reps.same_left e i in
        let l : Linked m s first = rep_linked reps law w.linked in
        let g = w.is_generator in
        let hg : w.by < m.size = subst (λ (a : ℕ). a < m.size) g.image (law.images g.letter g.is_letter) in
        let letter : LetterAgrees m marks first w.by =
        subst (LetterAgrees m marks first) g.image (((k.each first same.first.inside).by_letters same.first (kept_rep reps i)).same.each g.letter g.is_letter) in
        let found = letter.some_way w.way (returns_same law same hg w.returns) in
        let step = found.1 in
        let there : Linked m (m.product s w.by) found.0 =
        subst (Linked m (m.product s w.by)) step.cycle (returns_conjugate law l hg step.returns).right_linked in
        (k.each e i.inside).by_left s w.linked
        ∙ (found.2.same.each s l.inside).same l.stays
        ∙ left_constant there (subst (λ (a : ℕ). LeftEquivalent m a (turned m e w.by w.way)) step.cycle (turned_same law same hg step.returns w.returns))
        ∙ ap₂ marks w.start w.cycle

    pub all_agree : ConstantAlongMoves m (LetterElement m) marks
    all_agree = record {
      by_letters = λ s e t f w. letter_constant w;
      by_left = λ s e f w. left_constant w.linked w.same_left;
    }
