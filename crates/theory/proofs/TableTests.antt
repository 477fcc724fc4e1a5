-- Tests that decide a given table by computing: it is lawful, every element is some word's value, the marks are linked, a
-- pair is the least conjugate of another, and how many linked pairs and classes there are. Assumes nothing.
use Prim.Native.Nat.{ℕ, zero, suc, ◌+◌, ◌*◌, ◌/◌, ◌%◌, ◌<◌}
use mathlib.Core.Path.{◌≡◌, refl, sym, ap, subst₂}
use mathlib.Core.Bool.{Bool, true, false, ◌&&◌}
use mathlib.Core.Logic.{◌↔◌}
use native.Mathlib.Numerals.{add-one}
use native.Mathlib.Nat.{add-zero}
use native.Mathlib.Omega.{arith}
use lib.Dec.{T, leb, ltb, eqb, leb→le, le→leb}
use mir.Facts.{eqb_yes, yes_eqb, ltb_yes}
use Rattle.finite.proofs.Tests.{T_and, T_and_left, T_and_right}
use Rattle.finite.proofs.Search.{all_below, all_intro, all_elim, count_below, bit}
use Rattle.theory.specs.Rules.{Morphism, Lawful, Pairs, AllReached}
use Rattle.theory.specs.Pairs.{Linked, LinkedOnly, Conjugate, LeastConjugate, pair_number, Counted, counted_none, counted_one, counted_other, LinkedPairs, Classes, ClassCounts}
use Rattle.theory.proofs.Strength.{Closed}
use Rattle.theory.proofs.Closure.{linked_test, linked_intro, linked_elim, closure_test, closure_intro, closure_elim}
use Rattle.theory.proofs.ShortWords.{unreached, unreached_first}

-- where the first test passes, so does the second
unfoldable pub implies : Bool → Bool → Bool
implies true b = b
implies false b = true

implies_intro : (a b : Bool) → (T a → T b) → T (implies a b)
unfolding implies
implies_intro true b h = h tt
implies_intro false b h = tt

implies_elim : (a b : Bool) → T (implies a b) → T a → T b
unfolding implies
implies_elim true b h t = h
implies_elim false b h t = absurd t

-- every pair of numbers below n passes
unfoldable pub all_pairs : ℕ → (ℕ → ℕ → Bool) → Bool
all_pairs n p = all_below n (λ a. all_below n (p a))

pub all_pairs_intro : (n : ℕ) (p : ℕ → ℕ → Bool) → ((a b : ℕ) → a < n → b < n → T (p a b)) → T (all_pairs n p)
unfolding all_pairs
all_pairs_intro n p h = all_intro n (λ a. all_below n (p a)) (λ a ha. all_intro n (p a) (λ b hb. h a b ha hb))

pub all_pairs_elim : (n : ℕ) (p : ℕ → ℕ → Bool) → T (all_pairs n p) → (a b : ℕ) → a < n → b < n → T (p a b)
unfolding all_pairs
all_pairs_elim n p t a b ha hb = all_elim n (p a) (all_elim n (λ a. all_below n (p a)) t a ha) b hb

-- the table is closed and associative, and each letter has an element
unfoldable pub closed_test : Morphism → Bool
closed_test m = all_pairs m.size (λ a b. ltb (m.product a b) m.size)

unfoldable pub associates : Morphism → ℕ → ℕ → ℕ → Bool
associates m a b c = eqb (m.product (m.product a b) c) (m.product a (m.product b c))

unfoldable pub associative_test : Morphism → Bool
associative_test m = all_pairs m.size (λ a b. all_below m.size (associates m a b))

unfoldable pub images_test : Morphism → Bool
images_test m = all_below m.letters (λ a. ltb (m.image a) m.size)

unfoldable pub lawful_test : Morphism → Bool
lawful_test m = closed_test m && (associative_test m && images_test m)

-- a table that passes is lawful
pub lawful_elim : (m : Morphism) → T (lawful_test m) → Lawful m
unfolding lawful_test closed_test associative_test associates images_test
lawful_elim m t =
    let t₁ = T_and_right (closed_test m) _ t in
    record {
      closed = λ a b ha hb. ltb_yes (all_pairs_elim m.size (λ a b. ltb (m.product a b) m.size) (T_and_left (closed_test m) _ t) a b ha hb);
      associative = λ a b c ha hb hc. eqb_yes
          (all_elim m.size (associates m a b)
          (all_pairs_elim m.size (λ a b. all_below m.size (associates m a b)) (T_and_left (associative_test m) _ t₁) a b ha hb) c hc);
      images = λ a h. ltb_yes (all_elim m.letters (λ a. ltb (m.image a) m.size) (T_and_right (associative_test m) _ t₁) a h);
    }

-- no element is left out by words
pub reached_all : {m : Morphism} → Lawful m → T (leb m.size (unreached m)) → AllReached m
reached_all {m} law t = record { word_of = λ s h. unreached_first law s (omega (arith, leb→le m.size (unreached m) t)) }

-- every marked pair is linked
unfoldable pub linked_only_test : Morphism → Pairs → Bool
linked_only_test m P = all_pairs m.size (λ s e. implies (P s e) (linked_test m s e))

pub linked_only_elim : (m : Morphism) (P : Pairs) → T (linked_only_test m P) → LinkedOnly m P
unfolding linked_only_test
linked_only_elim m P t = record {
  linked = λ s e hs he h. linked_elim m s e
      (implies_elim (P s e) (linked_test m s e) (all_pairs_elim m.size (λ s e. implies (P s e) (linked_test m s e)) t s e hs he) h);
}

-- the pair (t, f) alone
unfoldable pub only_pair : ℕ → ℕ → Pairs
only_pair t f a b = eqb a t && eqb b f

-- (s, e) is conjugate to (t, f): it is in the closure of this pair alone
unfoldable pub conjugate_test : Morphism → ℕ → ℕ → ℕ → ℕ → Bool
conjugate_test m s e t f = linked_test m t f && closure_test m (only_pair t f) s e

pub conjugate_intro : {m : Morphism} {s e t f : ℕ} → Conjugate m s e t f → T (conjugate_test m s e t f)
unfolding conjugate_test only_pair
conjugate_intro {m} {s} {e} {t} {f} c =
    T_and (linked_test m t f) _ (linked_intro c.right_linked)
    (closure_intro (record { to_start = t; to_cycle = f; conjugate = c; has_mark = T_and (eqb t t) (eqb f f) (yes_eqb {a = t} refl) (yes_eqb {a = f} refl) }))

pub conjugate_elim : {m : Morphism} → Lawful m → (s e t f : ℕ) → T (conjugate_test m s e t f) → Conjugate m s e t f
unfolding conjugate_test only_pair
conjugate_elim {m} law s e t f h =
    let l : Linked m t f = linked_elim m t f (T_and_left (linked_test m t f) _ h) in
    let only : LinkedOnly m (only_pair t f) = record {
      linked = λ a b ha hb g. subst₂ (Linked m) (sym (eqb_yes (T_and_left (eqb a t) _ g))) (sym (eqb_yes (T_and_right (eqb a t) _ g))) l;
    } in
    let c : Closed m (only_pair t f) s e = closure_elim law only s e (T_and_right (linked_test m t f) _ h) in
    subst₂ (Conjugate m s e) (eqb_yes (T_and_left (eqb c.to_start t) _ c.has_mark)) (eqb_yes (T_and_right (eqb c.to_start t) _ c.has_mark))
    c.conjugate

-- (t, f) is the least conjugate of (s, e)
unfoldable pub no_less : Morphism → ℕ → ℕ → ℕ → ℕ → ℕ → ℕ → Bool
no_less m s e t f t' f' = implies (conjugate_test m s e t' f') (leb (pair_number m t f) (pair_number m t' f'))

unfoldable pub least_test : Morphism → ℕ → ℕ → ℕ → ℕ → Bool
least_test m s e t f = conjugate_test m s e t f && all_pairs m.size (no_less m s e t f)

pub least_intro : {m : Morphism} {s e t f : ℕ} → Lawful m → LeastConjugate m s e t f → T (least_test m s e t f)
unfolding least_test no_less
least_intro {m} {s} {e} {t} {f} law l =
    T_and (conjugate_test m s e t f) _ (conjugate_intro l.conjugate)
    (all_pairs_intro m.size (no_less m s e t f)
    (λ t' f' ht hf. implies_intro (conjugate_test m s e t' f') _ (λ c. le→leb _ _ (l.least t' f' (conjugate_elim law s e t' f' c)))))

pub least_elim : {m : Morphism} → Lawful m → (s e t f : ℕ) → T (least_test m s e t f) → LeastConjugate m s e t f
unfolding least_test no_less
least_elim {m} law s e t f h = record {
  conjugate = conjugate_elim law s e t f (T_and_left (conjugate_test m s e t f) _ h);
  least = λ t' f' c. leb→le _ _
      (implies_elim (conjugate_test m s e t' f') _
      (all_pairs_elim m.size (no_less m s e t f) (T_and_right (conjugate_test m s e t f) _ h) t' f' c.right_linked.inside c.right_linked.idempotent.inside)
      (conjugate_intro c));
}

-- a count is one number
pub counted_same : {P : ℕ → Type 0} {n c c' : ℕ} → Counted P n c → Counted P n c' → c ≡ c'
counted_same counted_none counted_none = refl
counted_same (counted_one p k) (counted_one q l) = ap suc (counted_same k l)
counted_same (counted_one p k) (counted_other f l) = absurd (f p)
counted_same (counted_other f k) (counted_one q l) = absurd (f q)
counted_same (counted_other f k) (counted_other g l) = counted_same k l

-- the counts of a table are three numbers
pub counts_same : {m : Morphism} {linked classes joins linked' classes' joins' : ℕ} → ClassCounts m linked classes joins → ClassCounts m linked' classes' joins'
    → (linked ≡ linked') × (classes ≡ classes') × (joins ≡ joins')
unfolding LinkedPairs Classes
counts_same {linked = linked} {classes = classes} {linked' = linked'} {classes' = classes'} p q =
    let el : linked ≡ linked' = counted_same p.linked_pairs q.linked_pairs in
    let ec : classes ≡ classes' = counted_same p.class_count q.class_count in
    (el, ec, omega (arith, p.difference, q.difference))

-- a predicate that a test decides is counted by the test
pub counted_by : {P : ℕ → Type 0} (p : ℕ → Bool) → ((i : ℕ) → T (p i) ↔ P i) → (n : ℕ) → Counted P n (count_below n p)
unfolding count_below
counted_by p h zero = counted_none
counted_by {P} p h (suc n) = go (p n) (h n) (counted_by p h n)
  where
    go : (b : Bool) → T b ↔ P n → Counted P n (count_below n p) → Counted P (suc n) (count_below n p + bit b)
    go true k c = rw add-one (counted_one (k.0 tt) c)
    go false k c = rw add-zero (counted_other k.1 c)

-- how many pairs are linked
unfoldable pub linked_count : Morphism → ℕ
linked_count m = count_below (m.size * m.size) (λ i. linked_test m (i / m.size) (i % m.size))

pub linked_counted : (m : Morphism) → LinkedPairs m (linked_count m)
unfolding LinkedPairs linked_count
linked_counted m =
    counted_by (λ i. linked_test m (i / m.size) (i % m.size)) (λ i. (linked_elim m (i / m.size) (i % m.size), linked_intro)) (m.size * m.size)

-- how many pairs are their own least conjugates
unfoldable pub own_least : Morphism → ℕ → Bool
own_least m i = least_test m (i / m.size) (i % m.size) (i / m.size) (i % m.size)

unfoldable pub class_count : Morphism → ℕ
class_count m = count_below (m.size * m.size) (own_least m)

pub class_counted : {m : Morphism} → Lawful m → Classes m (class_count m)
unfolding Classes class_count own_least
class_counted {m} law =
    counted_by (own_least m) (λ i. (least_elim law (i / m.size) (i % m.size) (i / m.size) (i % m.size), least_intro law)) (m.size * m.size)

-- how many linked pairs, classes and joins a table has is computed
pub counts_by : {m : Morphism} {joins : ℕ} → Lawful m → joins + class_count m ≡ linked_count m → ClassCounts m (linked_count m) (class_count m) joins
counts_by {m} law e = record { linked_pairs = linked_counted m; class_count = class_counted law; difference = e }
