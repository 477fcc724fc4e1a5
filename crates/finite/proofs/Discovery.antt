-- The deterministic search in breadth is in first order: each entry but the first has the least parent and, for it, the
-- least letter that lead to it, and these increase along the entries. Assumes nothing.
use mathlib.Core.Path.{◌≡◌, refl, sym, ap, ◌∙◌}
use mathlib.Core.Bool.{Bool}
use mathlib.Core.Logic.{◌≢◌}
use mathlib.Core.List.Memᴰ
use mathlib.Core.List.{List, [], ◌∷◌}
use Prim.Native.Nat.{ℕ, ◌<◌}
use native.Mathlib.Omega.{arith}
use lib.ListN.{length, get_or}
use Rattle.finite.proofs.Numbers.{Compared, lesser, level, greater, compared_numbers}
use Rattle.finite.specs.Search.{any_below}
use Rattle.finite.proofs.Search.{Found, any_intro, any_elim, least_below, least_unique}
use Rattle.finite.proofs.Worklist.{Entry}
use Rattle.finite.proofs.FirstWords.{Sooner, sooner_parent, sooner_letter, FirstOrder}
use Rattle.finite.proofs.Places.{Among, at_cast, at_get_d, get_d_at}
use Rattle.finite.proofs.Explore.{Equality, Source, source_start, source_step, sooner_le}
use Rattle.finite.proofs.Explored.{Explored, among_entry}

-- the least place before j from which some letter leads to q j
unfoldable pub parent_of : {A : Type 0} → (A → A → Bool) → (ℕ → A → A) → ℕ → (ℕ → A) → ℕ → ℕ
parent_of same δ k q j = least_below j (λ p. any_below k (λ a. same (δ a (q p)) (q j)))

-- the least letter that leads from there to q j
unfoldable pub letter_of : {A : Type 0} → (A → A → Bool) → (ℕ → A → A) → ℕ → (ℕ → A) → ℕ → ℕ
letter_of same δ k q j = least_below k (λ a. same (δ a (q (parent_of same δ k q j))) (q j))

-- q j is found from p by a, and whatever is found sooner stands before j
pub record Discovered {A : Type 0} (δ : ℕ → A → A) (k : ℕ) (q : ℕ → A) (j p a : ℕ) : Type 0 where
  pub parent_lt : p < j
  pub letter_lt : a < k
  pub step : q j ≡ δ a (q p)
  pub sooner : (p' b : ℕ) → Sooner p' b p a → b < k → Entry q j (δ b (q p'))

-- q j is found from some place by some letter
pub record Discovery {A : Type 0} (δ : ℕ → A → A) (k : ℕ) (q : ℕ → A) (j : ℕ) : Type 0 where
  pub parent : ℕ
  pub letter : ℕ
  pub found : Discovered δ k q j parent letter

module _ {A : Type 0} {same : A → A → Bool} (eq : Equality same) {δ : ℕ → A → A} {k : ℕ} {q : ℕ → A} {c : ℕ} (apart : (i j : ℕ) → i < j → j < c → q i ≢ q j) where
  -- what is found sooner is another state
  fresh : {j p a : ℕ} → j < c → Discovered δ k q j p a → (p' b : ℕ) → Sooner p' b p a → b < k → δ b (q p') ≢ q j
  fresh {j} h d p' b s l e =
      let n : Entry q j (δ b (q p')) = d.sooner p' b s l in
      apart n.at j n.below h (n.same ∙ e)

  parent_least : {j p a : ℕ} → j < c → Discovered δ k q j p a → parent_of same δ k q j ≡ p
  unfolding parent_of
  parent_least {j} {p} {a} h d =
      sym (least_unique j (λ p. any_below k (λ a. same (δ a (q p)) (q j))) p (omega (arith, d.parent_lt))
      (λ l. any_intro k (λ a. same (δ a (q p)) (q j)) a d.letter_lt (eq.complete _ _ (sym d.step)))
      (λ p' l t. none p' l (any_elim k (λ a. same (δ a (q p')) (q j)) t)))
    where
      none : (p' : ℕ) → p' < p → Found k (λ a. same (δ a (q p')) (q j)) → ⊥
      none p' l f = fresh h d p' f.at (sooner_parent l) f.below (eq.sound _ _ f.holds)

  letter_least : {j p a : ℕ} → j < c → Discovered δ k q j p a → letter_of same δ k q j ≡ a
  unfolding letter_of
  letter_least {j} {p} {a} h d =
      rw (parent_least h d)
      (sym (least_unique k (λ a. same (δ a (q p)) (q j)) a (omega (arith, d.letter_lt))
      (λ l. eq.complete _ _ (sym d.step))
      (λ b l t. fresh h d p b (sooner_letter refl l) (omega (arith, d.letter_lt)) (eq.sound _ _ t))))

  by_least : {j : ℕ} → j < c → Discovery δ k q j → Discovered δ k q j (parent_of same δ k q j) (letter_of same δ k q j)
  by_least {j} h d = rw (parent_least h d.found, letter_least h d.found) d.found

  -- an entry is found sooner than a later one
  not_later : {i j p a p' a' : ℕ} → i < j → j < c → Discovered δ k q i p a → Discovered δ k q j p' a' → ¬ Sooner p' a' p a
  not_later {i} {j} {p' = p'} {a' = a'} l h d e s =
      let n : Entry q i (δ a' (q p')) = d.sooner p' a' s e.letter_lt in
      apart n.at j (omega arith) h (n.same ∙ sym e.step)

  ordered : {i j p a p' a' : ℕ} → i < j → j < c → Discovered δ k q i p a → Discovered δ k q j p' a' → Compared p p' → Compared a a' → Sooner p a p' a'
  ordered l h d e (lesser g) m = sooner_parent g
  ordered l h d e (level g) (lesser m) = sooner_letter g m
  ordered {i} {j} l h d e (level g) (level m) = absurd (apart i j l h (cc))
  ordered l h d e (level g) (greater m) = absurd (not_later l h d e (sooner_letter (sym g) m))
  ordered l h d e (greater g) m = absurd (not_later l h d e (sooner_parent g))

  -- different entries that hold x₀ first, are closed and are each discovered are in first order
  pub first_order : {x₀ : A} → q 0 ≡ x₀ → 0 < c → ((i a : ℕ) → i < c → a < k → Entry q c (δ a (q i))) → ((j : ℕ) → 0 < j → j < c → Discovery δ k q j) → FirstOrder x₀ δ k q c (parent_of same δ k q) (letter_of same δ k q)
  first_order e s closed d = record {
    first = e;
    some = s;
    parent_lt = λ i h l. (found i h l).parent_lt;
    letter_lt = λ i h l. (found i h l).letter_lt;
    step = λ i h l. (found i h l).step;
    increasing = λ i j h l m.
        ordered l m (found i h (omega arith)) (found j (omega arith) m) (compared_numbers (parent_of same δ k q i) (parent_of same δ k q j)) (compared_numbers (letter_of same δ k q i) (letter_of same δ k q j));
    fresh = λ j p a h l m r b. fresh l (found j h l) p a b r;
    distinct = apart;
    closed = closed;
  }
    where
      found : (j : ℕ) → 0 < j → j < c → Discovered δ k q j (parent_of same δ k q j) (letter_of same δ k q j)
      found j h l = by_least l (d j h l)

-- the search from one start with one next state for each letter is in first order
module _ {A : Type 0} {same : A → A → Bool} (eq : Equality same) {x₀ : A} {δ : ℕ → A → A} {k : ℕ} {l : List A} (e : Explored (x₀ ∷ []) (λ a x. δ a x ∷ []) k l) where
  apart : (i j : ℕ) → i < j → j < length l → get_or l i x₀ ≢ get_or l j x₀
  apart i j h m q = e.grown.distinct i j (get_or l j x₀) h (at_cast (sym q) (get_d_at l i x₀ (omega arith))) (get_d_at l j x₀ m)

  some_entry : 0 < length l
  some_entry =
      let p : Among x₀ l (length l) = e.begins x₀ (Memᴰ.head refl) in
      omega arith

  starts_first : get_or l 0 x₀ ≡ x₀
  starts_first = go (e.grown.source 0 (get_or l 0 x₀) (get_d_at l 0 x₀ some_entry))
    where
      go : Source (x₀ ∷ []) (λ a x. δ a x ∷ []) k l 0 (get_or l 0 x₀) → get_or l 0 x₀ ≡ x₀
      go (source_start m) = Memᴰ.eq_of_singleton m
      go (source_step p a x h q r m n) = absurd (omega arith)

  discovery : (j : ℕ) → 0 < j → j < length l → Discovery δ k (λ n. get_or l n x₀) j
  discovery j h m = go (e.grown.source j (get_or l j x₀) (get_d_at l j x₀ m))
    where
      go : Source (x₀ ∷ []) (λ a x. δ a x ∷ []) k l j (get_or l j x₀) → Discovery δ k (λ n. get_or l n x₀) j
      go (source_start s) = absurd (apart 0 j h m (starts_first ∙ sym (Memᴰ.eq_of_singleton s)))
      go (source_step p a x g q r s n) = record {
        parent = p;
        letter = a;
        found = record {
          parent_lt = g;
          letter_lt = r;
          step = Memᴰ.eq_of_singleton s ∙ ap (δ a) (sym (at_get_d x₀ q));
          sooner = λ p' b t u.
              among_entry x₀
              (n.known p' b (get_or l p' x₀) (δ b (get_or l p' x₀)) t u (get_d_at l p' x₀ (omega (arith, sooner_le t))) (Memᴰ.head refl));
        };
      }

  pub explored_first_order : FirstOrder x₀ δ k (λ n. get_or l n x₀) (length l) (parent_of same δ k (λ n. get_or l n x₀)) (letter_of same δ k (λ n. get_or l n x₀))
  explored_first_order =
      first_order eq apart starts_first some_entry
      (λ i a h r.
      among_entry x₀ (e.goes_on i a (get_or l i x₀) (δ a (get_or l i x₀)) (get_d_at l i x₀ h) r (Memᴰ.head refl)))
      discovery
