-- Linked pairs and conjugacy: an equivalence, and what a turn of a cycle does to a linked pair. Assumes nothing.
use Prim.Native.Nat.{ℕ, ◌<◌}
use mathlib.Core.Path.{◌≡◌, refl, sym, ap, ◌∙◌}
use Rattle.theory.specs.Rules.{Morphism, Lawful}
use Rattle.theory.specs.Pairs.{Idempotent, Linked, Conjugate}
use Rattle.theory.proofs.Powers.{Semigroup}

-- the table's semigroup
pub semigroup : {m : Morphism} → Lawful m → Semigroup m.size m.product
semigroup law = record { closed = law.closed; associative = law.associative }

module _ {m : Morphism} (law : Lawful m) where
  pub conjugate_refl : {s e : ℕ} → Linked m s e → Conjugate m s e s e
  conjugate_refl {s} {e} l = record {
    left_linked = l;
    right_linked = l;
    x = e;
    y = e;
    x_inside = l.idempotent.inside;
    y_inside = l.idempotent.inside;
    moves = l.stays;
    around = l.idempotent.square;
    turned = l.idempotent.square;
  }

  pub conjugate_sym : {s e t f : ℕ} → Conjugate m s e t f → Conjugate m t f s e
  conjugate_sym {s} {e} {t} {f} c = record {
    left_linked = c.right_linked;
    right_linked = c.left_linked;
    x = c.y;
    y = c.x;
    x_inside = c.y_inside;
    y_inside = c.x_inside;
    moves =
        ap (λ (a : ℕ). m.product a c.y) (sym c.moves)
        ∙ law.associative s c.x c.y c.left_linked.inside c.x_inside c.y_inside
        ∙ ap (m.product s) c.around ∙ c.left_linked.stays;
    around = c.turned;
    turned = c.around;
  }

  -- factors of a linked pair's cycle lead to a linked pair, if the turned cycle is idempotent
  pub conjugate_by : {x y s e : ℕ} → Linked m s e → x < m.size → y < m.size → m.product x y ≡ e → Idempotent m (m.product y x)
      → Conjugate m s e (m.product s x) (m.product y x)
  conjugate_by {x} {y} {s} l hx hy p turned = record {
    left_linked = l;
    right_linked = record {
      inside = law.closed s x l.inside hx;
      idempotent = turned;
      stays =
          sym (law.associative (m.product s x) y x (law.closed s x l.inside hx) hy hx)
          ∙ ap (λ (a : ℕ). m.product a x) (law.associative s x y l.inside hx hy ∙ ap (m.product s) p ∙ l.stays);
    };
    x = x;
    y = y;
    x_inside = hx;
    y_inside = hy;
    moves = refl;
    around = p;
    turned = refl;
  }

  -- (a·b)·(c·d) = a·((b·c)·d)
  pub conjugate_middle : (a b c d : ℕ) → a < m.size → b < m.size → c < m.size → d < m.size
      → m.product (m.product a b) (m.product c d) ≡ m.product a (m.product (m.product b c) d)
  conjugate_middle a b c d ha hb hc hd =
      law.associative a b (m.product c d) ha hb (law.closed c d hc hd)
      ∙ ap (m.product a) (sym (law.associative b c d hb hc hd))

  -- where x·y = e, y'·y''.. the two outer factors close around e: x·(e·y) = e
  around_idempotent : (x y e : ℕ) → x < m.size → y < m.size → Idempotent m e → m.product x y ≡ e
      → (f : ℕ) → m.product y x ≡ f → m.product x (m.product f y) ≡ e
  around_idempotent x y e hx hy i p f q =
      ap (λ (a : ℕ). m.product x (m.product a y)) (sym q)
      ∙ sym (conjugate_middle x y x y hx hy hx hy) ∙ ap (λ (a : ℕ). m.product a a) p ∙ i.square

  pub conjugate_trans : {s e t f r g : ℕ} → Conjugate m s e t f → Conjugate m t f r g → Conjugate m s e r g
  conjugate_trans {s} {e} {t} {f} {r} {g} c d = record {
    left_linked = c.left_linked;
    right_linked = d.right_linked;
    x = m.product c.x d.x;
    y = m.product d.y c.y;
    x_inside = law.closed c.x d.x c.x_inside d.x_inside;
    y_inside = law.closed d.y c.y d.y_inside c.y_inside;
    moves =
        sym (law.associative s c.x d.x c.left_linked.inside c.x_inside d.x_inside)
        ∙ ap (λ (a : ℕ). m.product a d.x) c.moves ∙ d.moves;
    around =
        conjugate_middle c.x d.x d.y c.y c.x_inside d.x_inside d.y_inside c.y_inside
        ∙ ap (λ (a : ℕ). m.product c.x (m.product a c.y)) d.around
        ∙ around_idempotent c.x c.y e c.x_inside c.y_inside c.left_linked.idempotent c.around f c.turned;
    turned =
        conjugate_middle d.y c.y c.x d.x d.y_inside c.y_inside c.x_inside d.x_inside
        ∙ ap (λ (a : ℕ). m.product d.y (m.product a d.x)) c.turned
        ∙ around_idempotent d.y d.x g d.y_inside d.x_inside d.right_linked.idempotent d.turned f d.around;
  }
