-- A cycle whose value is an idempotent e, cut in two: x is the value of its beginning and y of its end, so x·y = e. After
-- the cut one turn has the value f = y·x; its square is f's idempotent power. Assumes nothing.
use Prim.Native.Nat.{ℕ, ◌<◌}
use mathlib.Core.Path.{◌≡◌, refl, sym, ap, ◌∙◌, subst}
use Rattle.theory.specs.Rules.{Morphism, Lawful, Value, none, element, join}
use Rattle.theory.specs.Pairs.{Idempotent, Linked, Conjugate}
use Rattle.theory.proofs.Values.{Inside, inside_none, inside_element, element_same}
use Rattle.theory.proofs.Powers.{times, idempotent_of, idempotent_is}
use Rattle.theory.proofs.Conjugacy.{semigroup, conjugate_middle, conjugate_by}

-- the element y·x, where y may be none
unfoldable pub turned : Morphism → Value → ℕ → ℕ
turned m none x = x
turned m (element y) x = m.product y x

pub turned_join : (m : Morphism) (y : Value) (x : ℕ) → join m y (element x) ≡ element (turned m y x)
unfolding join turned
turned_join m none x = refl
turned_join m (element y) x = refl

-- what is known of a cut, and what follows for the turn after it
pub record Turn (m : Morphism) (s e x : ℕ) (y : Value) : Type 0 where
  pub inside : turned m y x < m.size
  -- (s·x)·f = s·x
  pub stays : m.product (m.product s x) (turned m y x) ≡ m.product s x
  -- f·f is f's idempotent power
  pub settles : idempotent_of m.size m.product (turned m y x) ≡ m.product (turned m y x) (turned m y x)
  -- (s, e) is conjugate to (s·x, f·f)
  pub conjugate : Conjugate m s e (m.product s x) (m.product (turned m y x) (turned m y x))

module _ {m : Morphism} (law : Lawful m) where
  turn_none : (s e : ℕ) → Linked m s e → Turn m s e e none
  unfolding turned times
  turn_none s e l = record {
    inside = l.idempotent.inside;
    stays = ap (λ (a : ℕ). m.product a e) l.stays;
    settles = sym (idempotent_is (semigroup law) l.idempotent.inside 1 squared);
    conjugate = conjugate_by law l l.idempotent.inside l.idempotent.inside l.idempotent.square
        (record { inside = law.closed e e l.idempotent.inside l.idempotent.inside; square = squared });
  }
    where
      squared : m.product (m.product e e) (m.product e e) ≡ m.product e e
      squared = ap (λ (a : ℕ). m.product a a) l.idempotent.square

  module _ {s e x y : ℕ} (l : Linked m s e) (hx : x < m.size) (hy : y < m.size) (p : m.product x y ≡ e) where
    f : ℕ
    f = m.product y x

    he : e < m.size
    he = l.idempotent.inside

    hf : f < m.size
    unfolding f
    hf = law.closed y x hy hx

    -- f·f = y·(e·x)
    square_as : m.product f f ≡ m.product y (m.product e x)
    unfolding f
    square_as = conjugate_middle law y x y x hy hx hy hx ∙ ap (λ (a : ℕ). m.product y (m.product a x)) p

    -- f·f·f = f·f
    cube : m.product (m.product f f) f ≡ m.product f f
    unfolding f
    cube =
        ap (λ (a : ℕ). m.product a f) square_as
        ∙ conjugate_middle law y (m.product e x) y x hy (law.closed e x he hx) hy hx
        ∙ ap (λ (a : ℕ). m.product y (m.product a x)) (law.associative e x y he hx hy ∙ ap (m.product e) p ∙ l.idempotent.square)
        ∙ sym square_as

    squared : m.product (m.product f f) (m.product f f) ≡ m.product f f
    squared =
        sym (law.associative (m.product f f) f f (law.closed f f hf hf) hf hf)
        ∙ ap (λ (a : ℕ). m.product a f) cube ∙ cube

    moved : m.product (m.product s x) f ≡ m.product s x
    unfolding f
    moved =
        conjugate_middle law s x y x l.inside hx hy hx
        ∙ ap (λ (a : ℕ). m.product s (m.product a x)) p
        ∙ sym (law.associative s e x l.inside he hx)
        ∙ ap (λ (a : ℕ). m.product a x) l.stays

    turn_element : Turn m s e x (element y)
    unfolding turned times f
    turn_element = record {
      inside = hf;
      stays = moved;
      settles = sym (idempotent_is (semigroup law) hf 1 squared);
      conjugate = subst (λ (a : ℕ). Idempotent m a → Conjugate m s e (m.product s x) a) (law.associative y e x hy he hx ∙ sym square_as)
          (conjugate_by law l hx (law.closed y e hy he) (sym (law.associative x y e hx hy he) ∙ ap (λ (a : ℕ). m.product a e) p ∙ l.idempotent.square))
          (record { inside = law.closed f f hf hf; square = squared });
    }

  -- every cut of a cycle with an idempotent value
  pub turn_of : {s e x : ℕ} {y : Value} → Linked m s e → x < m.size → Inside m y → join m (element x) y ≡ element e → Turn m s e x y
  unfolding join
  turn_of {s} {e} {x} l hx inside_none p =
      rw (element_same p) (turn_none s e l)
  turn_of l hx (inside_element hy) p = turn_element l hx hy (element_same p)
