-- The deterministic search in breadth: where the entries of a list of states are found in the order of (parent, letter),
-- each entry's word, its parent's word and the letter, is the first in the shortlex order of all words that lead to the
-- entry, and the entries stand in the order of their words. Assumes nothing.
use mathlib.Core.Path.{◌≡◌, refl, sym, ap, ◌∙◌}
use mathlib.Core.Logic.{inl, inr, ◌≢◌}
use mathlib.Core.List.{List, [], ◌∷◌}
use Prim.Native.Nat.{ℕ, zero, suc, ◌≤◌, ◌<◌}
use native.Mathlib.Omega.{arith}
use lib.ListN.{length}
use Rattle.finite.proofs.Numbers.{strong_induction, Compared, lesser, level, greater, compared_numbers}
use Rattle.finite.specs.Letters.{Over, over_nil}
use Rattle.finite.specs.Shortlex.{Before, shorter, NotAfter}
use Rattle.finite.proofs.Shortlex.{over_snoc, over_front, over_last, snoc, length_snoc, snoc_induction, before_snoc, before_last, empty_first, not_after_snoc, not_after_last, before_not_after}
use Rattle.finite.proofs.Worklist.{Entry}

-- the state after reading a word from x
unfoldable pub after : {A : Type 0} → (ℕ → A → A) → A → List ℕ → A
after δ x [] = x
after δ x (a ∷ w) = after δ (δ a x) w

pub after_snoc : {A : Type 0} (δ : ℕ → A → A) (x : A) (w : List ℕ) (a : ℕ) → after δ x (snoc w a) ≡ δ a (after δ x w)
unfolding after
after_snoc δ x [] a = refl
after_snoc δ x (b ∷ w) a = after_snoc δ (δ b x) w a

-- (p, a) is before (p', a'): an earlier parent, or the same parent and a smaller letter
pub data Sooner (p a p' a' : ℕ) : Type 0 where
  sooner_parent : p < p' → Sooner p a p' a'
  sooner_letter : p ≡ p' → a < a' → Sooner p a p' a'

-- the word of entry i, by a recursion that is at most d deep
unfoldable pub spell : (ℕ → ℕ) → (ℕ → ℕ) → ℕ → ℕ → List ℕ
spell parent letter zero i = []
spell parent letter (suc d) zero = []
spell parent letter (suc d) (suc i) = snoc (spell parent letter d (parent (suc i))) (letter (suc i))

-- the word of entry i: its parent's and its letter
unfoldable pub first_word : (ℕ → ℕ) → (ℕ → ℕ) → ℕ → List ℕ
first_word parent letter i = spell parent letter i i

-- the c entries of q are the states reached from x₀ by the k letters, in the order in which a search in breadth finds them
pub record FirstOrder {A : Type 0} (x₀ : A) (δ : ℕ → A → A) (k : ℕ) (q : ℕ → A) (c : ℕ) (parent letter : ℕ → ℕ) : Type 0 where
  pub first : q 0 ≡ x₀
  pub some : 0 < c
  pub parent_lt : (i : ℕ) → 0 < i → i < c → parent i < i
  pub letter_lt : (i : ℕ) → 0 < i → i < c → letter i < k
  pub step : (i : ℕ) → 0 < i → i < c → q i ≡ δ (letter i) (q (parent i))
  pub increasing : (i j : ℕ) → 0 < i → i < j → j < c → Sooner (parent i) (letter i) (parent j) (letter j)
  pub fresh : (j p a : ℕ) → 0 < j → j < c → p < c → a < k → Sooner p a (parent j) (letter j) → δ a (q p) ≢ q j
  pub distinct : (i j : ℕ) → i < j → j < c → q i ≢ q j
  pub closed : (i a : ℕ) → i < c → a < k → Entry q c (δ a (q i))

-- w is the first word over k letters that leads from x₀ to x
pub record FirstWord {A : Type 0} (x₀ : A) (δ : ℕ → A → A) (k : ℕ) (x : A) (w : List ℕ) : Type 0 where
  pub over : Over k w
  pub leads : after δ x₀ w ≡ x
  pub least : (v : List ℕ) → Over k v → after δ x₀ v ≡ x → NotAfter w v

module _ {A : Type 0} {x₀ : A} {δ : ℕ → A → A} {k : ℕ} {q : ℕ → A} {c : ℕ} {parent letter : ℕ → ℕ} (o : FirstOrder x₀ δ k q c parent letter) where
  enough : (d e i : ℕ) → i < c → i ≤ d → i ≤ e → spell parent letter d i ≡ spell parent letter e i
  unfolding spell
  enough zero zero i l h g = refl
  enough zero (suc e) zero l h g = refl
  enough zero (suc e) (suc i) l h g = absurd (omega arith)
  enough (suc d) zero zero l h g = refl
  enough (suc d) zero (suc i) l h g = absurd (omega arith)
  enough (suc d) (suc e) zero l h g = refl
  enough (suc d) (suc e) (suc i) l h g =
      let p : parent (suc i) < suc i = o.parent_lt (suc i) (omega arith) l in
      ap (λ (w : List ℕ). snoc w (letter (suc i))) (enough d e (parent (suc i)) (omega arith) (omega arith) (omega arith))

  pub word_zero : first_word parent letter 0 ≡ []
  unfolding first_word spell
  word_zero = refl

  -- an entry's word is its parent's and its letter
  pub word_step_lem : (i : ℕ) → 0 < i → i < c → first_word parent letter i ≡ snoc (first_word parent letter (parent i)) (letter i)
  unfolding first_word spell
  word_step_lem zero h l = absurd (omega arith)
  word_step_lem (suc i) h l =
      let p : parent (suc i) < suc i = o.parent_lt (suc i) h l in
      ap (λ (w : List ℕ). snoc w (letter (suc i))) (enough i (parent (suc i)) (parent (suc i)) (omega arith) (omega arith) (omega arith))

  -- what holds of entry 0, and of an entry whenever of its parent, holds of every entry
  entry_induction : (P : ℕ → Type 0) → P 0 → ((i : ℕ) → 0 < i → i < c → P (parent i) → P i) → (i : ℕ) → i < c → P i
  entry_induction P base step = strong_induction (λ i. i < c → P i) go
    where
      go : (i : ℕ) → ((j : ℕ) → j < i → j < c → P j) → i < c → P i
      go zero before l = base
      go (suc i) before l =
          let p : parent (suc i) < suc i = o.parent_lt (suc i) (omega arith) l in
          step (suc i) (omega arith) l (before (parent (suc i)) p (omega arith))

  word_leads : (i : ℕ) → i < c → after δ x₀ (first_word parent letter i) ≡ q i
  unfolding after
  word_leads =
      entry_induction (λ i. after δ x₀ (first_word parent letter i) ≡ q i)
      (rw word_zero (sym o.first))
      (λ i h l e. rw (word_step_lem i h l, after_snoc, e) (sym (o.step i h l)))

  word_over : (i : ℕ) → i < c → Over k (first_word parent letter i)
  word_over =
      entry_induction (λ i. Over k (first_word parent letter i))
      (rw word_zero over_nil)
      (λ i h l r. rw (word_step_lem i h l) (over_snoc r (o.letter_lt i h l)))

  -- an entry's word is no longer than its place
  pub word_short : (i : ℕ) → i < c → length (first_word parent letter i) ≤ i
  word_short =
      entry_induction (λ i. length (first_word parent letter i) ≤ i)
      (rw word_zero (omega arith))
      (λ i h l r.
      rw (word_step_lem i h l)
      (omega (arith, length_snoc (first_word parent letter (parent i)) (letter i), o.parent_lt i h l)))

  -- the entries stand in the order of their words
  pub words_increase : (i j : ℕ) → i < j → j < c → Before (first_word parent letter i) (first_word parent letter j)
  words_increase i j = strong_induction (λ j. (i : ℕ) → i < j → j < c → Before (first_word parent letter i) (first_word parent letter j)) go j i
    where
      W : ℕ → List ℕ
      W i = first_word parent letter i

      longer : (i j : ℕ) → 0 < i → i < j → j < c → ((i : ℕ) → i < parent j → Before (W i) (W (parent j))) → Sooner (parent i) (letter i) (parent j) (letter j) → Before (snoc (W (parent i)) (letter i)) (snoc (W (parent j)) (letter j))
      longer i j h l m before (sooner_parent p) = before_snoc (letter i) (letter j) (before (parent i) p)
      longer i j h l m before (sooner_letter e a) = rw e (before_last (W (parent j)) a)

      go : (j : ℕ) → ((m : ℕ) → m < j → (i : ℕ) → i < m → m < c → Before (W i) (W m)) → (i : ℕ) → i < j → j < c → Before (W i) (W j)
      go j before zero l m = rw (word_zero, word_step_lem j l m) (shorter (omega (arith, length_snoc (W (parent j)) (letter j))))
      go j before (suc i) l m =
          let p : parent j < j = o.parent_lt j (omega arith) m in
          rw (word_step_lem (suc i) (omega arith) (omega arith), word_step_lem j (omega arith) m)
          (longer (suc i) j (omega arith) l m (λ n h. before (parent j) p n h (omega arith)) (o.increasing (suc i) j (omega arith) l m))

  -- every word leads to an entry
  pub word_entry : (w : List ℕ) → Over k w → Entry q c (after δ x₀ w)
  unfolding after
  word_entry =
      snoc_induction (λ w. Over k w → Entry q c (after δ x₀ w)) (λ r. record { at = 0; below = o.some; same = o.first })
      (λ w a before r. go w a (over_last w a r) (before (over_front w a r)))
    where
      go : (w : List ℕ) (a : ℕ) → a < k → Entry q c (after δ x₀ w) → Entry q c (after δ x₀ (snoc w a))
      go w a l e =
          let n : Entry q c (δ a (q e.at)) = o.closed e.at a e.below l in
          record { at = n.at; below = n.below; same = n.same ∙ ap (δ a) e.same ∙ sym (after_snoc δ x₀ w a) }

  -- equal entries have one place
  same_place : (i j : ℕ) → i < c → j < c → q i ≡ q j → i ≡ j
  same_place i j l m e = go (compared_numbers i j)
    where
      go : Compared i j → i ≡ j
      go (lesser h) = absurd (o.distinct i j h m e)
      go (level h) = h
      go (greater h) = absurd (o.distinct j i h l (sym e))

  -- the last letter: the parent and letter of i are no later than any p and a that lead to i
  later_word : (i p a : ℕ) (w : List ℕ) → 0 < i → i < c → p < c → a < k → δ a (q p) ≡ q i → NotAfter (first_word parent letter p) w → Compared (parent i) p → Compared (letter i) a → NotAfter (snoc (first_word parent letter (parent i)) (letter i)) (snoc w a)
  later_word i p a w h l m r e n (lesser g) b = inr (before_snoc (letter i) a (before_not_after (words_increase (parent i) p g m) n))
  later_word i p a w h l m r e n (level g) (lesser b) = inr (rw g (not_after_last n b))
  later_word i p a w h l m r e n (level g) (level b) = rw (g, b) (not_after_snoc a n)
  later_word i p a w h l m r e n (level g) (greater b) = absurd (o.fresh i p a h l m r (sooner_letter (sym g) b) e)
  later_word i p a w h l m r e n (greater g) b = absurd (o.fresh i p a h l m r (sooner_parent g) e)

  word_least : (w : List ℕ) → Over k w → (i : ℕ) → i < c → after δ x₀ w ≡ q i → NotAfter (first_word parent letter i) w
  unfolding after
  word_least =
      snoc_induction (λ w. Over k w → (i : ℕ) → i < c → after δ x₀ w ≡ q i → NotAfter (first_word parent letter i) w)
      (λ r i l e. rw (← same_place 0 i o.some l (o.first ∙ e), word_zero) (inl refl))
      (λ w a before r i l e. go w a (over_front w a r) (over_last w a r) (before (over_front w a r)) i l e)
    where
      go : (w : List ℕ) (a : ℕ) → Over k w → a < k → ((p : ℕ) → p < c → after δ x₀ w ≡ q p → NotAfter (first_word parent letter p) w) → (i : ℕ) → i < c → after δ x₀ (snoc w a) ≡ q i → NotAfter (first_word parent letter i) (snoc w a)
      go w a r s before zero l e = rw word_zero (empty_first (snoc w a))
      go w a r s before (suc i) l e =
          let p : Entry q c (after δ x₀ w) = word_entry w r in
          let leads : δ a (q p.at) ≡ q (suc i) = ap (δ a) p.same ∙ sym (after_snoc δ x₀ w a) ∙ e in
          rw (word_step_lem (suc i) (omega arith) l)
          (later_word (suc i) p.at a w (omega arith) l p.below s leads (before p.at p.below (sym p.same)) (compared_numbers (parent (suc i)) p.at) (compared_numbers (letter (suc i)) a))

  -- each entry's word is the first of all words that lead to it
  pub first_word_lem : (i : ℕ) → i < c → FirstWord x₀ δ k (q i) (first_word parent letter i)
  first_word_lem i l = record { over = word_over i l; leads = word_leads i l; least = λ v r e. word_least v r i l e }
