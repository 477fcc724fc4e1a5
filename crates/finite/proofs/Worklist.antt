-- Worklists: states in the order in which a search found them, each a start or a step on from an earlier one.
-- Every entry is reached by a word no longer than its place; a closed worklist holds every reached state; and there
-- are no more entries than codes for reached states. Assumes nothing.
use mathlib.Core.Path.{◌≡◌, sym, subst}
use mathlib.Core.List.{List, [], ◌∷◌}
use Prim.Native.Nat.{ℕ, suc, ◌≤◌, ◌<◌}
use native.Mathlib.Omega.{arith}
use lib.ListN.{length}
use Rattle.finite.proofs.Numbers.{strong_induction, Compared, lesser, level, greater, compared_numbers}
use Rattle.finite.proofs.Pigeonhole.{injection_le}

-- x is reached from a start by these letters, the last one first
pub data Reached {A : Type 0} (Start : A → Type 0) (Step : ℕ → A → A → Type 0) : List ℕ → A → Type 0 where
  begin : {x : A} → Start x → Reached Start Step [] x
  onward : {w : List ℕ} {x y : A} (a : ℕ) → Reached Start Step w x → Step a x y → Reached Start Step (a ∷ w) y

-- x is reached by some word
pub record Reachable {A : Type 0} (Start : A → Type 0) (Step : ℕ → A → A → Type 0) (x : A) : Type 0 where
  pub word : List ℕ
  pub reached : Reached Start Step word x

-- where entry i comes from: it is a start, or a step from the entry j before it
pub data Origin {A : Type 0} (Start : A → Type 0) (Step : ℕ → A → A → Type 0) (q : ℕ → A) (i : ℕ) : Type 0 where
  start : Start (q i) → Origin Start Step q i
  parent : (j a : ℕ) → j < i → Step a (q j) (q i) → Origin Start Step q i

-- the first c values of q are different
pub record Distinct {A : Type 0} (q : ℕ → A) (c : ℕ) : Type 0 where
  pub distinct : (i j : ℕ) → i < j → j < c → q i ≡ q j → ⊥

-- q 0 to q (c - 1) are different, and each is a start or a step on from an earlier one
pub record Worklist {A : Type 0} (Start : A → Type 0) (Step : ℕ → A → A → Type 0) (q : ℕ → A) (c : ℕ) : Type 0 where
  pub distinct : (i j : ℕ) → i < j → j < c → q i ≡ q j → ⊥
  pub origin : (i : ℕ) → i < c → Origin Start Step q i

-- x is one of q 0 to q (c - 1)
pub record Entry {A : Type 0} (q : ℕ → A) (c : ℕ) (x : A) : Type 0 where
  pub at : ℕ
  pub below : at < c
  pub same : q at ≡ x

-- every start is an entry, and so is every step on from an entry
pub record Closed {A : Type 0} (Start : A → Type 0) (Step : ℕ → A → A → Type 0) (q : ℕ → A) (c : ℕ) : Type 0 where
  pub starts : (x : A) → Start x → Entry q c x
  pub steps : (i a : ℕ) (y : A) → i < c → Step a (q i) y → Entry q c y

-- the reached states have different codes below N
pub record Coding {A : Type 0} (Start : A → Type 0) (Step : ℕ → A → A → Type 0) (code : A → ℕ) (N : ℕ) : Type 0 where
  pub below : (x : A) → Reachable Start Step x → code x < N
  pub apart : (x y : A) → Reachable Start Step x → Reachable Start Step y → code x ≡ code y → x ≡ y

-- x is reached by a word of at most n letters
pub record Spelled {A : Type 0} (Start : A → Type 0) (Step : ℕ → A → A → Type 0) (x : A) (n : ℕ) : Type 0 where
  pub word : List ℕ
  pub reached : Reached Start Step word x
  pub short : length word ≤ n

module _ {A : Type 0} {Start : A → Type 0} {Step : ℕ → A → A → Type 0} {q : ℕ → A} where
  -- following the parents: entry i is reached by a word of at most i letters
  pub entry_spelled : {c : ℕ} → Worklist Start Step q c → (i : ℕ) → i < c → Spelled Start Step (q i) i
  entry_spelled {c} l = strong_induction (λ i. i < c → Spelled Start Step (q i) i) (λ i before h. go i before h (l.origin i h))
    where
      go : (i : ℕ) → ((j : ℕ) → j < i → j < c → Spelled Start Step (q j) j) → i < c → Origin Start Step q i → Spelled Start Step (q i) i
      go i before h (start s) = record { word = []; reached = begin s; short = omega arith }
      go i before h (parent j a e s) =
          let p : Spelled Start Step (q j) j = before j e (omega arith) in
          record { word = a ∷ p.word; reached = onward a p.reached s; short = omega arith }

  -- every entry is reached
  pub entry_reached : {c : ℕ} → Worklist Start Step q c → (i : ℕ) → i < c → Reachable Start Step (q i)
  entry_reached l i h =
      let p : Spelled Start Step (q i) i = entry_spelled l i h in
      record { word = p.word; reached = p.reached }

  -- in a closed worklist every reached state is an entry
  pub reached_entry : {c : ℕ} {w : List ℕ} {x : A} → Closed Start Step q c → Reached Start Step w x → Entry q c x
  reached_entry closed (begin s) = closed.starts _ s
  reached_entry {c} closed (onward {x = x} {y = y} a r s) = go (reached_entry closed r)
    where
      go : Entry q c x → Entry q c y
      go e = closed.steps e.at a y e.below (subst (λ (z : A). Step a z y) (sym e.same) s)

  -- c different reached states have no fewer codes
  pub distinct_le : {c N : ℕ} {code : A → ℕ} → Coding Start Step code N → Distinct q c → ((i : ℕ) → i < c → Reachable Start Step (q i)) → c ≤ N
  distinct_le {c} {N} {code} k d r = injection_le {f = λ i. code (q i)} (record {
    maps = λ i h. k.below (q i) (r i h);
    apart = λ i j h l e. go i j h l (k.apart (q i) (q j) (r i h) (r j l) e) (compared_numbers i j);
  })
    where
      go : (i j : ℕ) → i < c → j < c → q i ≡ q j → Compared i j → i ≡ j
      go i j h l e (lesser b) = absurd (d.distinct i j b l e)
      go i j h l e (level b) = b
      go i j h l e (greater b) = absurd (d.distinct j i b h (sym e))

  -- a worklist is no longer than there are codes
  pub worklist_le : {c N : ℕ} {code : A → ℕ} → Coding Start Step code N → Worklist Start Step q c → c ≤ N
  worklist_le k l = distinct_le k (record { distinct = l.distinct }) (entry_reached l)

  -- c + 1 different reached states have no codes below c
  pub too_many : {c : ℕ} {code : A → ℕ} → Distinct q (suc c) → ((i : ℕ) → i < suc c → Reachable Start Step (q i)) → ¬ Coding Start Step code c
  too_many d r k = omega (arith, distinct_le k d r)
