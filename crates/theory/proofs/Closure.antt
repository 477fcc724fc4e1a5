-- The closure of a marking under conjugacy as a test that computes, and acceptance under a strong marking as one look in
-- it. Assumes nothing.
use Prim.Native.Nat.{ℕ, ◌≤◌}
use mathlib.Core.Path.{◌≡◌}
use mathlib.Core.Bool.{Bool, ◌&&◌}
use mathlib.Core.Logic.{◌↔◌}
use mathlib.Core.List.{List}
use lib.Dec.{T, eqb, ltb}
use mir.Facts.{eqb_yes, yes_eqb, ltb_yes, yes_ltb}
use Rattle.finite.proofs.Tests.{T_and, T_and_left, T_and_right}
use Rattle.finite.specs.Search.{any_below}
use Rattle.finite.proofs.Search.{any_intro, any_elim, bit, bit_le, bit_passes}
use Rattle.theory.specs.Words.{Over}
use Rattle.theory.specs.Rules.{Morphism, Lawful, Pairs, element, value, AllReached}
use Rattle.theory.specs.Acceptance.{Accepts, Strong}
use Rattle.theory.specs.Pairs.{Linked, LinkedOnly}
use Rattle.theory.proofs.Conjugacy.{conjugate_by}
use Rattle.theory.proofs.Strength.{Closed, settled_cycle, settled_start, strong_all, accepted_settled, settled_accepted}

-- the pair is linked
unfoldable pub linked_test : Morphism → ℕ → ℕ → Bool
linked_test m s e =
    let inside = ltb e m.size in
    let square = eqb (m.product e e) e in
    let stays = eqb (m.product s e) s in
    ltb s m.size && (inside && (square && stays))

pub linked_intro : {m : Morphism} {s e : ℕ} → Linked m s e → T (linked_test m s e)
unfolding linked_test
linked_intro {m} {s} {e} l =
    T_and (ltb s m.size) _ (yes_ltb l.inside)
    (T_and (ltb e m.size) _ (yes_ltb l.idempotent.inside)
    (T_and (eqb (m.product e e) e) _ (yes_eqb l.idempotent.square) (yes_eqb l.stays)))

pub linked_elim : (m : Morphism) (s e : ℕ) → T (linked_test m s e) → Linked m s e
unfolding linked_test
linked_elim m s e t =
    let t₁ = T_and_right (ltb s m.size) _ t in
    let t₂ = T_and_right (ltb e m.size) _ t₁ in
    record {
      inside = ltb_yes (T_and_left (ltb s m.size) _ t);
      idempotent = record { inside = ltb_yes (T_and_left (ltb e m.size) _ t₁); square = eqb_yes (T_and_left (eqb (m.product e e) e) _ t₂) };
      stays = eqb_yes (T_and_right (eqb (m.product e e) e) _ t₂);
    }

-- x·y = e, and the pair (s·x, y·x) is in P
unfoldable pub closure_look : Morphism → Pairs → ℕ → ℕ → ℕ → ℕ → Bool
closure_look m P s e x y =
    let found = P (m.product s x) (m.product y x) in
    eqb (m.product x y) e && found

-- the pair is linked, and conjugate by some x and y to a pair of P
unfoldable pub closure_test : Morphism → Pairs → Pairs
closure_test m P s e =
    let found = any_below m.size (λ x. any_below m.size (closure_look m P s e x)) in
    linked_test m s e && found

-- only linked pairs pass
pub closure_linked : (m : Morphism) (P : Pairs) → LinkedOnly m (closure_test m P)
unfolding closure_test
closure_linked m P = record { linked = λ s e hs he t. linked_elim m s e (T_and_left (linked_test m s e) _ t) }

-- a pair of the closure passes
pub closure_intro : {m : Morphism} {P : Pairs} {s e : ℕ} → Closed m P s e → T (closure_test m P s e)
unfolding closure_test closure_look
closure_intro {m} {P} {s} {e} c =
    T_and (linked_test m s e) _ (linked_intro c.conjugate.left_linked)
    (any_intro m.size (λ x. any_below m.size (closure_look m P s e x)) c.conjugate.x c.conjugate.x_inside
    (any_intro m.size (closure_look m P s e c.conjugate.x) c.conjugate.y c.conjugate.y_inside
    (T_and (eqb (m.product c.conjugate.x c.conjugate.y) e) _ (yes_eqb c.conjugate.around)
    (rw (c.conjugate.moves, c.conjugate.turned) c.has_mark))))

-- and what passes is in the closure
pub closure_elim : {m : Morphism} {P : Pairs} → Lawful m → LinkedOnly m P → (s e : ℕ) → T (closure_test m P s e) → Closed m P s e
unfolding closure_test closure_look
closure_elim {m} {P} law linked s e t =
    let l : Linked m s e = linked_elim m s e (T_and_left (linked_test m s e) _ t) in
    let f = any_elim m.size (λ x. any_below m.size (closure_look m P s e x)) (T_and_right (linked_test m s e) _ t) in
    let g = any_elim m.size (closure_look m P s e f.at) f.holds in
    let marked = T_and_right (eqb (m.product f.at g.at) e) _ g.holds in
    record {
      to_start = m.product s f.at;
      to_cycle = m.product g.at f.at;
      conjugate = conjugate_by law l f.below g.below (eqb_yes (T_and_left (eqb (m.product f.at g.at) e) _ g.holds))
          (linked.linked (m.product s f.at) (m.product g.at f.at) (law.closed s f.at l.inside f.below)
          (law.closed g.at f.at g.below f.below) marked).idempotent;
      has_mark = marked;
    }

-- 1 where the lassos with the values (s, z) are accepted under a strong marking, else 0
unfoldable pub acceptance : Morphism → Pairs → ℕ → ℕ → ℕ
acceptance m P s z = bit (closure_test m P (settled_start m s z) (settled_cycle m z))

-- the settled pair is in the closure exactly where this number is 1
pub acceptance_passes : (m : Morphism) (P : Pairs) (s z : ℕ)
    → T (closure_test m P (settled_start m s z) (settled_cycle m z)) ↔ (1 ≤ acceptance m P s z)
unfolding acceptance
acceptance_passes m P s z = bit_passes (closure_test m P (settled_start m s z) (settled_cycle m z))

pub acceptance_le : (m : Morphism) (P : Pairs) (s z : ℕ) → acceptance m P s z ≤ 1
unfolding acceptance
acceptance_le m P s z = bit_le (closure_test m P (settled_start m s z) (settled_cycle m z))

-- under a strong marking a lasso is accepted exactly if its values say so
pub strong_acceptance : {m : Morphism} {P : Pairs} {u v : List ℕ} {s z : ℕ} → Lawful m → AllReached m → LinkedOnly m P → Strong m P
    → Over m.letters u → Over m.letters v → value m u ≡ element s → value m v ≡ element z → Accepts m P u v ↔ (1 ≤ acceptance m P s z)
strong_acceptance {m} {P} {u} {v} {s} {z} law reached linked strong ou ov eu ev = (
  λ a. (acceptance_passes m P s z).0 (closure_intro (accepted_settled law linked ou ov eu ev a)),
  λ h. settled_accepted law linked (strong_all law linked reached strong) ou ov eu ev
      (closure_elim law linked (settled_start m s z) (settled_cycle m z) ((acceptance_passes m P s z).1 h)),
)
