-- A product table and its letters within their limits; one whose triples all associate is lawful; the checks 5 and 6 of a table fail at one place at
-- most. Assumes nothing.
use Prim.Native.Nat.{ℕ, ◌+◌, ◌*◌, ◌≤◌, ◌<◌}
use mathlib.Core.Path.{◌≡◌, refl, sym}
use mathlib.Core.List.{List}
use native.Mathlib.Omega.{arith}
use lib.ListN.{length}
use Rattle.theory.specs.Rules.{Morphism, Lawful}
use Rattle.formats.specs.Table.{product_at, image_at, morphism_at}
use Rattle.formats.specs.TableChecks.{Associates, TripleBefore, by_a, by_b, by_c, NotAssociativeAt, UnreachedAt}
use Rattle.finite.proofs.Numbers.{Compared, lesser, level, greater, compared_numbers}

-- both sections are there, within the format's limits, and every entry names an element
pub record Table (bytes : List ℕ) (n k : ℕ) : Type 0 where
  pub some : 1 ≤ n
  pub small : n ≤ 64
  pub letters_small : k ≤ 16
  pub long : 2 + n * n + k ≤ length bytes
  pub products : (a b : ℕ) → a < n → b < n → product_at bytes n a b < n
  pub images : (a : ℕ) → a < k → image_at bytes n a < n

-- a letter's element is an element
pub image_below : {bytes : List ℕ} {n k a h : ℕ} → Table bytes n k → a < k → h ≡ image_at bytes n a → h < n
image_below {a = a} table letter e = rw e (table.images a letter)

-- every triple associates
pub record AllAssociate (m : Morphism) : Type 0 where
  pub associate : (a b c : ℕ) → a < m.size → b < m.size → c < m.size → Associates m a b c

-- a checked table whose triples all associate is lawful
pub table_lawful : {bytes : List ℕ} {n k : ℕ} → Table bytes n k → AllAssociate (morphism_at bytes n k) → Lawful (morphism_at bytes n k)
table_lawful t all = record { closed = t.products; associative = all.associate; images = t.images }

-- the triple is the first, by a, then b, then c, that does not associate
pub record FirstTriple (m : Morphism) (a b c : ℕ) : Type 0 where
  pub a_inside : a < m.size
  pub b_inside : b < m.size
  pub c_inside : c < m.size
  pub differs : Associates m a b c → ⊥
  pub first : (a' b' c' : ℕ) → a' < m.size → b' < m.size → c' < m.size → TripleBefore a' b' c' a b c → Associates m a' b' c'

-- the first triple that does not associate gives the place of the refusal
pub first_triple_place : {m : Morphism} {a b c : ℕ} → FirstTriple m a b c → NotAssociativeAt m (a * 4096 + b * 64 + c)
first_triple_place {m} {a} {b} {c} f = record {
  a = a;
  b = b;
  c = c;
  a_inside = f.a_inside;
  b_inside = f.b_inside;
  c_inside = f.c_inside;
  differs = f.differs;
  first = f.first;
  is_place = refl;
}

-- of two triples one stands before the other, or they are equal
data TriplesCompared (a b c a' b' c' : ℕ) : Type 0 where
  before : TripleBefore a b c a' b' c' → TriplesCompared a b c a' b' c'
  same : a ≡ a' → b ≡ b' → c ≡ c' → TriplesCompared a b c a' b' c'
  after : TripleBefore a' b' c' a b c → TriplesCompared a b c a' b' c'

triples_compared : (a b c a' b' c' : ℕ) → TriplesCompared a b c a' b' c'
triples_compared a b c a' b' c' = go (compared_numbers a a') (compared_numbers b b') (compared_numbers c c')
  where
    go : Compared a a' → Compared b b' → Compared c c' → TriplesCompared a b c a' b' c'
    go (lesser h) q r = before (by_a h)
    go (greater h) q r = after (by_a h)
    go (level e) (lesser h) r = before (by_b e h)
    go (level e) (greater h) r = after (by_b (sym e) h)
    go (level e) (level f) (lesser h) = before (by_c e f h)
    go (level e) (level f) (greater h) = after (by_c (sym e) (sym f) h)
    go (level e) (level f) (level g) = same e f g

-- the place of line 5 is one
pub not_associative_unique : {m : Morphism} {p q : ℕ} → NotAssociativeAt m p → NotAssociativeAt m q → p ≡ q
not_associative_unique {m} {p} {q} s t = go (triples_compared s.a s.b s.c t.a t.b t.c)
  where
    go : TriplesCompared s.a s.b s.c t.a t.b t.c → p ≡ q
    go (before h) = absurd (s.differs (t.first s.a s.b s.c s.a_inside s.b_inside s.c_inside h))
    go (after h) = absurd (t.differs (s.first t.a t.b t.c t.a_inside t.b_inside t.c_inside h))
    go (same e f g) = omega (arith, s.is_place, t.is_place)

-- where all triples associate, line 5 refuses nothing
pub all_associate_none : {m : Morphism} {p : ℕ} → AllAssociate m → NotAssociativeAt m p → ⊥
all_associate_none all s = s.differs (all.associate s.a s.b s.c s.a_inside s.b_inside s.c_inside)

-- the least element that is no word's value is one
pub unreached_unique : {m : Morphism} {p q : ℕ} → UnreachedAt m p → UnreachedAt m q → p ≡ q
unreached_unique {m} {p} {q} s t = go (compared_numbers p q)
  where
    go : Compared p q → p ≡ q
    go (lesser h) = absurd (s.no_word (t.least p h))
    go (level e) = e
    go (greater h) = absurd (t.no_word (s.least q h))
