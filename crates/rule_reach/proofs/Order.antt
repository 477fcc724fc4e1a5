-- The laws of a search in breadth by pairs (entry, letter): it starts, goes on by a pair that finds an old state or a new
-- one, goes on to the next entry, and ends when every entry was tried; and a word leads to each entry. Assumes nothing.
use Prim.Native.Nat.{ℕ, zero, suc, ◌+◌, ◌≤◌, ◌<◌}
use mathlib.Core.Path.{◌≡◌, sym, ap, subst, ◌∙◌}
use mathlib.Core.Logic.{◌⊎◌, inl, inr, ◌≢◌, ⊎_elim}
use mathlib.Core.List.{List, []}
use native.Mathlib.Omega.{arith}
use Rattle.finite.proofs.Numbers.{below_cases, strong_induction}
use Rattle.finite.specs.Letters.{Over, over_nil}
use Rattle.finite.proofs.Shortlex.{snoc, over_snoc}
use Rattle.finite.proofs.FirstWords.{Sooner, sooner_parent, sooner_letter, after, after_snoc, FirstOrder}
use Rattle.finite.proofs.Explore.{sooner_le}
use Rattle.finite.proofs.Worklist.{Entry}
use Rattle.rule_reach.specs.Searching.{Ordered, InOrder}

-- no pair is sooner than the first
sooner_none : {p b : ℕ} → Sooner p b 0 0 → ⊥
sooner_none (sooner_parent h) = omega arith
sooner_none (sooner_letter e h) = omega arith

-- a pair sooner than (p, a + 1) is (p, a) or sooner
sooner_cases : {p' b p a : ℕ} → Sooner p' b p (a + 1) → ((p' ≡ p) × (b ≡ a)) ⊎ Sooner p' b p a
sooner_cases (sooner_parent h) = inr (sooner_parent h)
sooner_cases {b = b} {a = a} (sooner_letter e h) =
    ⊎_elim (λ f. inl (e, f)) (λ f. inr (sooner_letter e f)) (below_cases (let l : b < suc a = omega arith in l))

sooner_more : {p' b p a : ℕ} → Sooner p' b p a → Sooner p' b p (a + 1)
sooner_more (sooner_parent h) = sooner_parent h
sooner_more (sooner_letter e h) = sooner_letter e (omega arith)

-- with letters below k, the pairs sooner than (p, k) are those sooner than (p + 1, 0)
sooner_next : {p' b p k : ℕ} → Sooner p' b p k → Sooner p' b (p + 1) 0
sooner_next s = sooner_parent (omega (arith, sooner_le s))

sooner_last : {p' b p k : ℕ} → b < k → Sooner p' b (p + 1) 0 → Sooner p' b p k
sooner_last {p'} {b} {p} h (sooner_parent l) =
    ⊎_elim (λ e. sooner_letter e h) (λ g. sooner_parent g) (below_cases (let l : p' < suc p = omega arith in l))
sooner_last h (sooner_letter e l) = absurd (omega arith)

-- what holds at c, and below c, holds below c + 1
up_to : (P : ℕ → Type 0) {c : ℕ} → P c → ((i : ℕ) → i < c → P i) → (i : ℕ) → i < suc c → P i
up_to P last before i h = ⊎_elim (λ e. rw e last) (before i) (below_cases h)

-- q' has the c entries of q, with their parents and letters
pub record Extends {A : Type 0} (q q' : ℕ → A) (parent parent' letter letter' : ℕ → ℕ) (c : ℕ) : Type 0 where
  pub entries : (i : ℕ) → i < c → q' i ≡ q i
  pub parents : (i : ℕ) → 0 < i → i < c → parent' i ≡ parent i
  pub letters : (i : ℕ) → 0 < i → i < c → letter' i ≡ letter i

-- entry c of q' is found by the pair (p, a)
pub record Newest {A : Type 0} (δ : ℕ → A → A) (q q' : ℕ → A) (parent' letter' : ℕ → ℕ) (c p a : ℕ) : Type 0 where
  pub entry : q' c ≡ δ a (q p)
  pub parent : parent' c ≡ p
  pub letter : letter' c ≡ a

module _ {A : Type 0} {x₀ : A} {δ : ℕ → A → A} {k : ℕ} {q : ℕ → A} {parent letter : ℕ → ℕ} where
  -- the first state alone
  pub order_start : q 0 ≡ x₀ → InOrder x₀ δ k q 1 parent letter 0 0
  order_start e = record {
    entries = record {
      first = e;
      some = omega arith;
      parent_lt = λ i h l. absurd (omega arith);
      letter_lt = λ i h l. absurd (omega arith);
      step = λ i h l. absurd (omega arith);
      increasing = λ i j h l m. absurd (omega arith);
      fresh = λ j p b h l m r s. absurd (omega arith);
      distinct = λ i j h l. absurd (omega arith);
    };
    sooner = λ i h l. absurd (omega arith);
    known = λ p b h l s. absurd (sooner_none s);
  }

  -- the pair (p, a) finds an entry
  pub order_old : {c p a : ℕ} → InOrder x₀ δ k q c parent letter p a → Entry q c (δ a (q p))
      → InOrder x₀ δ k q c parent letter p (a + 1)
  order_old o e = record {
    entries = o.entries;
    sooner = λ i h l. sooner_more (o.sooner i h l);
    known = λ p b h l s. ⊎_elim (λ f. rw (f.0, f.1) e) (λ f. o.known p b h l f) (sooner_cases s);
  }

  -- all letters were tried at entry p
  pub order_next : {c p : ℕ} → InOrder x₀ δ k q c parent letter p k → InOrder x₀ δ k q c parent letter (p + 1) 0
  order_next o = record {
    entries = o.entries;
    sooner = λ i h l. sooner_next (o.sooner i h l);
    known = λ p b h l s. o.known p b h l (sooner_last l s);
  }

  -- every entry was tried
  pub order_done : {c p : ℕ} → InOrder x₀ δ k q c parent letter p 0 → c ≤ p → FirstOrder x₀ δ k q c parent letter
  order_done o h = record {
    first = o.entries.first;
    some = o.entries.some;
    parent_lt = o.entries.parent_lt;
    letter_lt = o.entries.letter_lt;
    step = o.entries.step;
    increasing = o.entries.increasing;
    fresh = o.entries.fresh;
    distinct = o.entries.distinct;
    closed = λ i a l m. o.known i a l m (sooner_parent (omega arith));
  }

  -- the pair (p, a) finds a state that is no entry, and it is the entry c now
  pub order_new : {q' : ℕ → A} {parent' letter' : ℕ → ℕ} {c p a : ℕ} → InOrder x₀ δ k q c parent letter p a
      → Extends q q' parent parent' letter letter' c → Newest δ q q' parent' letter' c p a → p < c → a < k → (Entry q c (δ a (q p)) → ⊥)
      → InOrder x₀ δ k q' (suc c) parent' letter' p (a + 1)
  order_new {q'} {parent'} {letter'} {c} {p} {a} s x e hp ha new = record {
    entries = record {
      first = x.entries 0 o.some ∙ o.first;
      some = omega arith;
      parent_lt = λ i h l.
          up_to (λ i. 0 < i → parent' i < i) (λ h. omega arith)
          (λ i l h. omega (arith, x.parents i h l, o.parent_lt i h l)) i l h;
      letter_lt = λ i h l.
          up_to (λ i. 0 < i → letter' i < k) (λ h. omega arith)
          (λ i l h. omega (arith, x.letters i h l, o.letter_lt i h l)) i l h;
      step = λ i h l.
          up_to (λ i. 0 < i → q' i ≡ δ (letter' i) (q' (parent' i))) (λ h. cc (x.entries p hp)) step i l h;
      increasing = λ i j h l m.
          up_to (λ j. i < j → Sooner (parent' i) (letter' i) (parent' j) (letter' j))
          (λ l. rw (e.parent, e.letter, x.parents i h l, x.letters i h l) (s.sooner i h l))
          (λ j m l. increasing i j h l m) j m l;
      fresh = λ j p b h l m r.
          up_to (λ j. 0 < j → Sooner p b (parent' j) (letter' j) → δ b (q' p) ≢ q' j)
          (λ h n d. fresh p b r (rw (e.parent, e.letter) at n) d)
          (λ j l h n d. fresh_below j p b h l r (rw (x.parents j h l, x.letters j h l) at n) d) j l h;
      distinct = λ i j h l.
          up_to (λ j. i < j → q' i ≢ q' j) (λ h d. new (record { at = i; below = h; same = cc (x.entries i h) }))
          (λ j l h d. o.distinct i j h l (cc (x.entries i (omega arith), x.entries j l))) j l h;
    };
    sooner = λ i h l.
        up_to (λ i. 0 < i → Sooner (parent' i) (letter' i) p (a + 1)) (λ h. sooner_letter e.parent (omega arith))
        (λ i l h. rw (x.parents i h l, x.letters i h l) (sooner_more (s.sooner i h l))) i l h;
    known = λ p' b h l n. known p' b l (sooner_cases n);
  }
    where
      o : Ordered x₀ δ k q c parent letter
      o = s.entries

      step : (i : ℕ) → i < c → 0 < i → q' i ≡ δ (letter' i) (q' (parent' i))
      step i l h =
          let r : parent i < i = o.parent_lt i h l in
          let g : q' (parent i) ≡ q (parent i) = x.entries (parent i) (omega arith) in
          cc (x.entries i l, o.step i h l, x.parents i h l, x.letters i h l)

      increasing : (i j : ℕ) → 0 < i → i < j → j < c → Sooner (parent' i) (letter' i) (parent' j) (letter' j)
      increasing i j h l m =
          rw (x.parents i h (omega arith), x.letters i h (omega arith), x.parents j (omega arith) m, x.letters j (omega arith) m)
          (o.increasing i j h l m)

      fresh : (p' b : ℕ) → b < k → Sooner p' b p a → δ b (q' p') ≡ q' c → ⊥
      fresh p' b r n d =
          let l : p' ≤ p = sooner_le n in
          let g : q' p' ≡ q p' = x.entries p' (omega arith) in
          let f : Entry q c (δ b (q p')) = s.known p' b (omega arith) r n in
          new (record { at = f.at; below = f.below; same = cc })

      fresh_below : (j p' b : ℕ) → 0 < j → j < c → b < k → Sooner p' b (parent j) (letter j) → δ b (q' p') ≡ q' j → ⊥
      fresh_below j p' b h l r n d =
          let m : p' ≤ parent j = sooner_le n in
          let m' : parent j < j = o.parent_lt j h l in
          let g : q' p' ≡ q p' = x.entries p' (omega arith) in
          o.fresh j p' b h l (omega arith) r n (cc (x.entries j l))

      known : (p' b : ℕ) → b < k → ((p' ≡ p) × (b ≡ a)) ⊎ Sooner p' b p a → Entry q' (suc c) (δ b (q' p'))
      known p' b l (inl f) = record { at = c; below = omega arith; same = cc (x.entries p hp) }
      known p' b l (inr n) =
          let m : p' ≤ p = sooner_le n in
          let f : Entry q c (δ b (q p')) = s.known p' b (omega arith) l n in
          record { at = f.at; below = omega arith; same = cc (x.entries f.at f.below, x.entries p' (omega arith)) }

-- a word over k letters that leads from x₀ to x
pub record LeadingWord {A : Type 0} (x₀ : A) (δ : ℕ → A → A) (k : ℕ) (x : A) : Type 0 where
  pub word : List ℕ
  pub over : Over k word
  pub leads : after δ x₀ word ≡ x

module _ {A : Type 0} {x₀ : A} {δ : ℕ → A → A} {k : ℕ} where
  -- one letter more
  pub leading_step : {x : A} {a : ℕ} → LeadingWord x₀ δ k x → a < k → LeadingWord x₀ δ k (δ a x)
  leading_step {a = a} w h = record { word = snoc w.word a; over = over_snoc w.over h; leads = after_snoc δ x₀ w.word a ∙ ap (δ a) w.leads }

  -- a word leads to every entry, also while the search runs
  pub ordered_word : {q : ℕ → A} {c : ℕ} {parent letter : ℕ → ℕ} → Ordered x₀ δ k q c parent letter → (i : ℕ) → i < c → LeadingWord x₀ δ k (q i)
  unfolding after
  ordered_word {q} {c} {parent} {letter} o = strong_induction (λ i. i < c → LeadingWord x₀ δ k (q i)) go
    where
      go : (i : ℕ) → ((j : ℕ) → j < i → j < c → LeadingWord x₀ δ k (q j)) → i < c → LeadingWord x₀ δ k (q i)
      go zero before l = record { word = []; over = over_nil; leads = sym o.first }
      go (suc i) before l =
          let h : parent (suc i) < suc i = o.parent_lt (suc i) (omega arith) l in
          subst (LeadingWord x₀ δ k) (sym (o.step (suc i) (omega arith) l))
          (leading_step (before (parent (suc i)) h (omega arith)) (o.letter_lt (suc i) (omega arith) l))
