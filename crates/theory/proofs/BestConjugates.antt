-- The best value over the conjugates of each pair, whatever is best, while the factors x, y are tried one pair after the other:
-- x·y = e and y·x = f make a linked pair (s, e) conjugate to (s·x, f). Assumes nothing.
use Prim.Native.Nat.{ℕ, ◌+◌, ◌*◌, ◌<◌}
use mathlib.Core.Path.{◌≡◌, refl, sym, ap, ◌∙◌, subst, subst₂}
use mathlib.Core.Logic.{◌⊎◌, inl, inr, ◌≢◌}
use native.Mathlib.Omega.{arith}
use native.Mathlib.Decide.{ℕ_discrete}
use lib.Arith.{digits_lt}
use Rattle.finite.proofs.Numbers.{below_cases, pair_same}
use Rattle.theory.specs.Rules.{Morphism, Lawful, Marking}
use Rattle.theory.specs.Pairs.{Idempotent, Linked, Conjugate}
use Rattle.theory.proofs.Conjugacy.{conjugate_by}

-- what is best: when a value is no worse than another, a preorder, and what a pair may have that has no conjugate's value
pub record Ranking : Type 1 where
  pub no_worse : ℕ → ℕ → Type 0
  pub reflexive : (a : ℕ) → no_worse a a
  pub transitive : (a b c : ℕ) → no_worse a b → no_worse b c → no_worse a c
  pub without : ℕ → ℕ → ℕ → Type 0

-- the factors x, y make (s, e) conjugate to (s·x, y·x)
pub record ConjugateBy (m : Morphism) (x y s e : ℕ) : Type 0 where
  pub x_inside : x < m.size
  pub y_inside : y < m.size
  pub linked : Linked m s e
  pub around : m.product x y ≡ e
  pub turned : Idempotent m (m.product y x)

-- a value of (s, e): that of a conjugate, or one without
pub data Attained (m : Morphism) (R : Ranking) (value : Marking) (s e best : ℕ) : Type 0 where
  of_conjugate : {t f : ℕ} → Conjugate m s e t f → best ≡ value t f → Attained m R value s e best
  of_none : R.without s e best → Attained m R value s e best

-- the best over the factors x, y with x·n+y below the count
pub record Best (m : Morphism) (R : Ranking) (value : Marking) (count s e best : ℕ) : Type 0 where
  pub attained : Attained m R value s e best
  pub none_better : (x y : ℕ) → ConjugateBy m x y s e → x * m.size + y < count → R.no_worse best (value (m.product s x) (m.product y x))

-- the better of an old value and that of (s·x, f), where s·e = s; else the old value
pub data Better (m : Morphism) (R : Ranking) (value : Marking) (x e f s old new : ℕ) : Type 0 where
  taken : m.product s e ≡ s → new ≡ value (m.product s x) f → R.no_worse new old → Better m R value x e f s old new
  as_it_was : (m.product s e ≡ s → R.no_worse old (value (m.product s x) f)) → new ≡ old → Better m R value x e f s old new

-- a table that has the best of every pair
pub record BestSoFar (m : Morphism) (R : Ranking) (value : Marking) (count : ℕ) (table : Marking) : Type 0 where
  pub cells : (s e : ℕ) → s < m.size → e < m.size → Best m R value count s e (table s e)

-- the values of (s, e) for the first elements s are bettered, and every other value is as it was
pub record ColumnBettered (m : Morphism) (R : Ranking) (value : Marking) (x e f rows : ℕ) (entry exit : Marking) : Type 0 where
  pub cells : (s : ℕ) → s < rows → Better m R value x e f s (entry s e) (exit s e)
  pub others : (s b : ℕ) → s < m.size → b < m.size → (s < rows → b ≡ e → ⊥) → exit s b ≡ entry s b

-- the value of (s, e) is set, and every other is as it was
pub record CellSet (n s e new : ℕ) (now next : Marking) : Type 0 where
  pub has_value : next s e ≡ new
  pub others : (a b : ℕ) → a < n → b < n → (a ≡ s → b ≡ e → ⊥) → next a b ≡ now a b

-- the ways through the code for one value: s·e is not s, or the value of (s·x, f) is compared with the old one
module _ {m : Morphism} {R : Ranking} {value : Marking} {x e f s old kept : ℕ} (is-kept : kept ≡ m.product s e) where
  pub better_moved : (kept ≡ s → ⊥) → Better m R value x e f s old old
  better_moved g = as_it_was (λ p. absurd (g (is-kept ∙ p))) refl

  module _ {t : ℕ} (is-start : t ≡ m.product s x) where
    pub better_not : R.no_worse old (value t f) → Better m R value x e f s old old
    better_not h = as_it_was (λ p. subst (λ (a : ℕ). R.no_worse old (value a f)) is-start h) refl

    pub better_taken : {new : ℕ} → kept ≡ s → new ≡ value t f → R.no_worse new old → Better m R value x e f s old new
    better_taken p q h = taken (sym is-kept ∙ p) (q ∙ ap (λ (a : ℕ). value a f) is-start) h

-- it depends on the value of (s·x, f) only
pub better_same : {m : Morphism} {R : Ranking} {value other : Marking} {x e f s old new : ℕ} → value (m.product s x) f ≡ other (m.product s x) f
    → Better m R value x e f s old new → Better m R other x e f s old new
better_same q (taken p r h) = taken p (r ∙ q) h
better_same {R = R} {old = old} q (as_it_was g r) = as_it_was (λ p. subst (R.no_worse old) q (g p)) r

module _ {m : Morphism} {R : Ranking} {value : Marking} where
  -- before any factors were tried
  pub best_none : {s e best : ℕ} → Attained m R value s e best → Best m R value 0 s e best
  best_none a = record { attained = a; none_better = λ x y w h. absurd (omega arith) }

  -- one pair of factors more: a value that is no worse than the old one, nor than theirs
  best_more : {x y s e old new : ℕ} → y < m.size → Best m R value (x * m.size + y) s e old → Attained m R value s e new → R.no_worse new old
      → (ConjugateBy m x y s e → R.no_worse new (value (m.product s x) (m.product y x))) → Best m R value (x * m.size + (y + 1)) s e new
  best_more {x} {y} {s} {e} {old} {new} hy b a h here = record { attained = a; none_better = λ x' y' w g. tried x' y' w (below_cases (omega arith)) }
    where
      tried : (x' y' : ℕ) → ConjugateBy m x' y' s e → (x' * m.size + y' ≡ x * m.size + y) ⊎ (x' * m.size + y' < x * m.size + y)
          → R.no_worse new (value (m.product s x') (m.product y' x'))
      tried x' y' w (inr l) = R.transitive new old _ h (b.none_better x' y' w l)
      tried x' y' w (inl q) =
          let same = pair_same w.y_inside hy q in
          subst₂ (λ (a b : ℕ). ConjugateBy m a b s e → R.no_worse new (value (m.product s a) (m.product b a))) (sym same.0) (sym same.1) here w

  -- the old value, where the factors have no better one
  best_kept : {x y s e old : ℕ} → y < m.size → Best m R value (x * m.size + y) s e old
      → (ConjugateBy m x y s e → R.no_worse old (value (m.product s x) (m.product y x))) → Best m R value (x * m.size + (y + 1)) s e old
  best_kept {old = old} hy b here = best_more hy b b.attained (R.reflexive old) here

  -- all factors were tried: no conjugate has a better value
  pub best_all : {s e t f best : ℕ} → Best m R value (m.size * m.size) s e best → Conjugate m s e t f → R.no_worse best (value t f)
  best_all {best = best} b c =
      subst₂ (λ (u v : ℕ). R.no_worse best (value u v)) c.moves c.turned
      (b.none_better c.x c.y
      (record {
        x_inside = c.x_inside;
        y_inside = c.y_inside;
        linked = c.left_linked;
        around = c.around;
        turned = subst (Idempotent m) (sym c.turned) c.right_linked.idempotent;
      })
      (digits_lt c.x_inside c.y_inside))

-- the best depends on the values of pairs of elements only
pub so_far_same : {m : Morphism} {R : Ranking} {value other : Marking} {count : ℕ} {table : Marking} → Lawful m
    → ((a b : ℕ) → a < m.size → b < m.size → value a b ≡ other a b) → BestSoFar m R value count table → BestSoFar m R other count table
so_far_same {m} {R} {value} {other} {count} {table} law same c = record { cells = λ s e hs he. cell s e (c.cells s e hs he) }
  where
    attained : {s e best : ℕ} → Attained m R value s e best → Attained m R other s e best
    attained (of_conjugate {t} {f} k q) = of_conjugate k (q ∙ same t f k.right_linked.inside k.right_linked.idempotent.inside)
    attained (of_none w) = of_none w

    cell : (s e : ℕ) → Best m R value count s e (table s e) → Best m R other count s e (table s e)
    cell s e b = record {
      attained = attained b.attained;
      none_better = λ x y w h.
          subst (R.no_worse (table s e)) (same (m.product s x) (m.product y x) (law.closed s x w.linked.inside w.x_inside) w.turned.inside)
          (b.none_better x y w h);
    }

-- one column, element after element
module _ {m : Morphism} {R : Ranking} {value : Marking} {x e f : ℕ} where
  pub bettered_none : {entry : Marking} → ColumnBettered m R value x e f 0 entry entry
  bettered_none = record { cells = λ s h. absurd (omega arith); others = λ s b hs hb g. refl }

  pub bettered_more : {s new : ℕ} {entry now next : Marking} → s < m.size → e < m.size → ColumnBettered m R value x e f s entry now
      → Better m R value x e f s (now s e) new → CellSet m.size s e new now next → ColumnBettered m R value x e f (s + 1) entry next
  bettered_more {s} {new} {entry} {now} {next} hs he l d st = record {
    cells = λ a h. cell a (ℕ_discrete a s) h;
    others = λ a b ha hb g. st.others a b ha hb (λ p q. g (omega arith) q) ∙ l.others a b ha hb (λ h q. g (omega arith) q);
  }
    where
      cell : (a : ℕ) → Dec (a ≡ s) → a < s + 1 → Better m R value x e f a (entry a e) (next a e)
      cell a (yes q) h =
          subst (λ (a : ℕ). Better m R value x e f a (entry a e) (next a e)) (sym q)
          (subst₂ (λ (old new : ℕ). Better m R value x e f s old new) (l.others s e hs he (λ k p. omega arith)) (sym st.has_value) d)
      cell a (no g) h =
          let w : a ≢ s = g in
          subst (λ (v : ℕ). Better m R value x e f a (entry a e) v) (sym (st.others a e (omega arith) he (λ p q. g p))) (l.cells a (omega arith))

-- one pair of factors more, by the products e = x·y and f = y·x and their squares
module _ {m : Morphism} {R : Ranking} {value : Marking} {x y e f : ℕ} {entry : Marking} (hx : x < m.size) (hy : y < m.size)
    (c : BestSoFar m R value (x * m.size + y) entry) (pe : e ≡ m.product x y) (pf : f ≡ m.product y x) where
  so_far_skip : ((s a : ℕ) → ConjugateBy m x y s a → ⊥) → BestSoFar m R value (x * m.size + (y + 1)) entry
  so_far_skip g = record { cells = λ s a hs ha. best_kept hy (c.cells s a hs ha) (λ w. absurd (g s a w)) }

  -- x·y is not idempotent: no pair (s, x·y) is linked
  pub so_far_left : {ee : ℕ} → ee ≡ m.product e e → (ee ≡ e → ⊥) → BestSoFar m R value (x * m.size + (y + 1)) entry
  so_far_left q g = so_far_skip (λ s a w. g (let i = w.linked.idempotent.square in let v = w.around in cc))

  -- y·x is not idempotent: no pair (s·x, y·x) is linked
  pub so_far_right : {ff : ℕ} → ff ≡ m.product f f → (ff ≡ f → ⊥) → BestSoFar m R value (x * m.size + (y + 1)) entry
  so_far_right q g = so_far_skip (λ s a w. g (let i = w.turned.square in cc))

  -- both are: a column is bettered
  pub so_far_column : {ee ff : ℕ} {exit : Marking} → Lawful m → ee ≡ m.product e e → ee ≡ e → ff ≡ m.product f f → ff ≡ f
      → ColumnBettered m R value x e f m.size entry exit → BestSoFar m R value (x * m.size + (y + 1)) exit
  so_far_column {exit = exit} law qe ie qf jf l = record { cells = λ s a hs ha. cell s a hs ha (ℕ_discrete a e) }
    where
      after : (s : ℕ) → s < m.size → {old new : ℕ} → Best m R value (x * m.size + y) s e old → Better m R value x e f s old new
          → Best m R value (x * m.size + (y + 1)) s e new
      after s hs {old} {new} b (taken p q h) =
          let i : Idempotent m e = record { inside = subst (λ (a : ℕ). a < m.size) (sym pe) (law.closed x y hx hy); square = cc } in
          let j : Idempotent m (m.product y x) = record { inside = law.closed y x hy hx; square = cc } in
          let r : new ≡ value (m.product s x) (m.product y x) = q ∙ ap (value (m.product s x)) pf in
          best_more hy b (of_conjugate (conjugate_by law (record { inside = hs; idempotent = i; stays = p }) hx hy (sym pe) j) r) h (λ w. subst (R.no_worse new) r (R.reflexive new))
      after s hs {old} {new} b (as_it_was g q) =
          subst (λ (v : ℕ). Best m R value (x * m.size + (y + 1)) s e v) (sym q)
          (best_kept hy b (λ w. subst (λ (a : ℕ). R.no_worse old (value (m.product s x) a)) pf (g w.linked.stays)))

      cell : (s a : ℕ) → s < m.size → a < m.size → Dec (a ≡ e) → Best m R value (x * m.size + (y + 1)) s a (exit s a)
      cell s a hs ha (yes q) =
          subst (λ (a : ℕ). a < m.size → Best m R value (x * m.size + (y + 1)) s a (exit s a)) (sym q) (λ he. after s hs (c.cells s e hs he) (l.cells s hs)) ha
      cell s a hs ha (no g) =
          subst (λ (v : ℕ). Best m R value (x * m.size + (y + 1)) s a v) (sym (l.others s a hs ha (λ h q. g q)))
          (best_kept hy (c.cells s a hs ha) (λ w. absurd (g (sym w.around ∙ sym pe))))
