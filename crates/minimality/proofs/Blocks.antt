-- The rounds computed: a list that has, for each element, the least element of its block. Each list is computed from the
-- one before, and gives exactly the elements that stand together after its round. Assumes nothing.
use Prim.Native.Nat.{ℕ, zero, suc, ◌+◌, ◌≤◌, ◌<◌}
use native.Mathlib.Nat.{not-suc-le-zero, le_of_suc-le-suc, le_antisymm}
use native.Mathlib.Omega.{arith}
use mathlib.Core.Path.{◌≡◌, refl, sym, ap, ◌∙◌}
use mathlib.Core.Bool.{Bool, ◌&&◌}
use mathlib.Core.Logic.{◌↔◌, ⊎_elim}
use mathlib.Core.List.{List, [], ◌∷◌}
use lib.Dec.{T, eqb, eqb→eq}
use lib.ListN.{length, get_or}
use lib.Seq.{ext_get_or}
use mir.Facts.{yes_eqb}
use Rattle.finite.proofs.Tests.{T_and, T_and_left, T_and_right}
use Rattle.finite.proofs.Numbers.{le_or_lt, Compared, lesser, level, greater, compared_numbers}
use Rattle.finite.proofs.Search.{all_below, all_intro, all_elim, least_below, least_holds, least_bound, least_first}
use Rattle.theory.specs.Rules.{Morphism, Lawful}
use Rattle.theory.specs.Rounds.{SameOutcomes, StillTogether, Together, IsBlocks}
use Rattle.minimality.proofs.Rounds.{together_refl, together_sym, together_trans, still_carry}

-- the values of f at the n numbers from i on
unfoldable pub tab_from : ℕ → ℕ → (ℕ → ℕ) → List ℕ
tab_from zero i f = []
tab_from (suc n) i f = f i ∷ tab_from n (suc i) f

pub length_tab : (n i : ℕ) (f : ℕ → ℕ) → length (tab_from n i f) ≡ n
unfolding tab_from
length_tab zero i f = refl
length_tab (suc n) i f = ap suc (length_tab n (suc i) f)

pub get_d_tab : (n i : ℕ) (f : ℕ → ℕ) (j : ℕ) → j < n → get_or (tab_from n i f) j 0 ≡ f (i + j)
unfolding tab_from
get_d_tab zero i f j h = absurd (not-suc-le-zero h)
get_d_tab (suc n) i f zero h = ap f (omega arith)
get_d_tab (suc n) i f (suc j) h = get_d_tab n (suc i) f j (le_of_suc-le-suc h) ∙ ap f (omega arith)

-- for each of n elements the least that passes the test with it
unfoldable pub least_of : ℕ → (ℕ → ℕ → Bool) → List ℕ
least_of n test = tab_from n 0 (λ s. least_below n (λ t. test t s))

-- s and t have the same outcomes
unfoldable pub same_test : Morphism → (ℕ → ℕ → ℕ) → ℕ → ℕ → Bool
same_test m acc s t = all_below m.size (λ z. eqb (acc s z) (acc t z) && eqb (acc z s) (acc z t))

-- the products of s and t with the letter a, on the right and on the left, were in one block
unfoldable pub products_test : Morphism → List ℕ → ℕ → ℕ → ℕ → Bool
products_test m blocks s t a =
    eqb (get_or blocks (m.product s (m.image a)) 0) (get_or blocks (m.product t (m.image a)) 0)
    && eqb (get_or blocks (m.product (m.image a) s) 0) (get_or blocks (m.product (m.image a) t) 0)

-- s and t were in one block, and so were their products with every letter
unfoldable pub kept_test : Morphism → List ℕ → ℕ → ℕ → Bool
kept_test m blocks s t =
    let products = all_below m.letters (products_test m blocks s t) in
    eqb (get_or blocks s 0) (get_or blocks t 0) && products

-- the blocks of round 0
unfoldable pub first_blocks : Morphism → (ℕ → ℕ → ℕ) → List ℕ
first_blocks m acc = least_of m.size (same_test m acc)

-- the blocks of a further round, from those before it
unfoldable pub next_blocks : Morphism → List ℕ → List ℕ
next_blocks m blocks = least_of m.size (kept_test m blocks)

-- the blocks after round i
unfoldable pub blocks_after : Morphism → (ℕ → ℕ → ℕ) → ℕ → List ℕ
blocks_after m acc zero = first_blocks m acc
blocks_after m acc (suc i) = next_blocks m (blocks_after m acc i)

-- the least that pass a test that decides R, as a list
module _ (n : ℕ) (R : ℕ → ℕ → Type 0) (test : ℕ → ℕ → Bool) (right : (s t : ℕ) → s < n → t < n → T (test s t) ↔ R s t) (reflexive : (s : ℕ) → R s s) where
  least_at : (s : ℕ) → s < n → get_or (least_of n test) s 0 ≡ least_below n (λ t. test t s)
  unfolding least_of
  least_at s h = get_d_tab n 0 _ s h ∙ ap (λ k. least_below n (λ t. test t k)) (omega arith)

  found_at_most : (s : ℕ) → s < n → least_below n (λ t. test t s) ≤ s
  found_at_most s h = least_bound n (λ t. test t s) s h ((right s s h h).1 (reflexive s))

  found_related : (s : ℕ) → s < n → R (least_below n (λ t. test t s)) s
  found_related s h =
      let l : least_below n (λ t. test t s) < n = omega (arith, found_at_most s h) in
      (right _ s l h).0 (least_holds n (λ t. test t s) l)

  pub least_blocks : IsBlocks n R (least_of n test)
  unfolding least_of
  least_blocks = record {
    count = length_tab n 0 _;
    at_most = λ s h. rw (least_at s h) (found_at_most s h);
    related = λ s h. rw (least_at s h) (found_related s h);
    least = λ s t h l r.
        let l' : t < least_below n (λ t. test t s) = rw (← least_at s h) l in
        least_first n (λ t. test t s) t l' ((right t s (omega (arith, found_at_most s h)) h).1 r);
  }

-- the least of a block are equal exactly for elements of one block
module _ {n : ℕ} {R : ℕ → ℕ → Type 0} {blocks : List ℕ} (b : IsBlocks n R blocks) (symmetric : (s t : ℕ) → R s t → R t s) (transitive : (s t u : ℕ) → R s t → R t u → R s u) where
  pub equal_related : (s t : ℕ) → s < n → t < n → get_or blocks s 0 ≡ get_or blocks t 0 → R s t
  equal_related s t hs ht e =
      transitive s _ t (symmetric _ s (b.related s hs)) (rw e (b.related t ht))

  entry_below : (s t : ℕ) → s < n → t < n → R s t → get_or blocks s 0 ≤ get_or blocks t 0
  entry_below s t hs ht r =
      ⊎_elim (λ l. l) (λ l. absurd (b.least s _ hs l (transitive _ t s (b.related t ht) (symmetric s t r))))
      (le_or_lt (get_or blocks s 0) (get_or blocks t 0))

  pub related_equal : (s t : ℕ) → s < n → t < n → R s t → get_or blocks s 0 ≡ get_or blocks t 0
  related_equal s t hs ht r = le_antisymm (entry_below s t hs ht r) (entry_below t s ht hs (symmetric s t r))

-- relations that agree on the elements have one list of blocks
pub one_blocks : {n : ℕ} {R S : ℕ → ℕ → Type 0} {blocks blocks' : List ℕ} → ((s t : ℕ) → s < n → t < n → R s t ↔ S s t) → IsBlocks n R blocks → IsBlocks n S blocks'
    → blocks ≡ blocks'
one_blocks {n} {blocks = blocks} {blocks' = blocks'} agree b c = ext_get_or 0 blocks blocks' (b.count ∙ sym c.count) (λ s h. same s (rw b.count at h))
  where
    same : (s : ℕ) → s < n → get_or blocks s 0 ≡ get_or blocks' s 0
    same s h = go (compared_numbers (get_or blocks s 0) (get_or blocks' s 0))
      where
        go : Compared (get_or blocks s 0) (get_or blocks' s 0) → get_or blocks s 0 ≡ get_or blocks' s 0
        go (lesser l) = absurd (c.least s (get_or blocks s 0) h l ((agree (get_or blocks s 0) s (omega (arith, b.at_most s h)) h).0 (b.related s h)))
        go (level e) = e
        go (greater l) = absurd (b.least s (get_or blocks' s 0) h l ((agree (get_or blocks' s 0) s (omega (arith, c.at_most s h)) h).1 (c.related s h)))

-- two equations tested
both : (a b c d : ℕ) → T (eqb a b && eqb c d) ↔ ((a ≡ b) × (c ≡ d))
both a b c d = (
  λ p. (eqb→eq a b (T_and_left (eqb a b) (eqb c d) p), eqb→eq c d (T_and_right (eqb a b) (eqb c d) p)),
  λ q. T_and (eqb a b) (eqb c d) (yes_eqb q.0) (yes_eqb q.1),
)

-- the test of round 0 is right
module _ (m : Morphism) (acc : ℕ → ℕ → ℕ) (s t : ℕ) where
  same_elim : T (same_test m acc s t) → (z : ℕ) → z < m.size → (acc s z ≡ acc t z) × (acc z s ≡ acc z t)
  unfolding same_test
  same_elim p z h = (both _ _ _ _).0 (all_elim m.size _ p z h)

  pub same_test_lem : T (same_test m acc s t) ↔ SameOutcomes m acc s t
  unfolding same_test
  same_test_lem = (
    λ p. record { as_start = λ z h. (same_elim p z h).0; as_cycle = λ z h. (same_elim p z h).1 },
    λ r. all_intro m.size _ (λ z h. (both _ _ _ _).1 (r.as_start z h, r.as_cycle z h)),
  )

-- s and t have the same entry in a list of blocks
unfoldable pub Equal : List ℕ → ℕ → ℕ → Type 0
Equal blocks s t = get_or blocks s 0 ≡ get_or blocks t 0

-- the test of a further round is right
module _ (m : Morphism) (blocks : List ℕ) (s t : ℕ) where
  kept_before : T (kept_test m blocks s t) → get_or blocks s 0 ≡ get_or blocks t 0
  unfolding kept_test
  kept_before p = eqb→eq _ _ (T_and_left (eqb (get_or blocks s 0) (get_or blocks t 0)) _ p)

  kept_products : T (kept_test m blocks s t) → (a : ℕ) → a < m.letters
      → Equal blocks (m.product s (m.image a)) (m.product t (m.image a)) × Equal blocks (m.product (m.image a) s) (m.product (m.image a) t)
  unfolding kept_test products_test Equal
  kept_products p a h =
      (both _ _ _ _).0 (all_elim m.letters _ (T_and_right (eqb (get_or blocks s 0) (get_or blocks t 0)) _ p) a h)

  pub kept_test_lem : T (kept_test m blocks s t) ↔ StillTogether m (Equal blocks) s t
  unfolding kept_test products_test Equal
  kept_test_lem = (
    λ p. record {
      before = kept_before p;
      on_right = λ a h. (kept_products p a h).0;
      on_left = λ a h. (kept_products p a h).1;
    },
    λ r. T_and (eqb (get_or blocks s 0) (get_or blocks t 0)) _ (yes_eqb r.before)
        (all_intro m.letters _ (λ a h. (both _ _ _ _).1 (r.on_right a h, r.on_left a h))),
  )

module _ {m : Morphism} (law : Lawful m) (acc : ℕ → ℕ → ℕ) where
  -- one more round
  pub blocks_next : (i : ℕ) {blocks : List ℕ} → IsBlocks m.size (Together m acc i) blocks
      → IsBlocks m.size (Together m acc (suc i)) (next_blocks m blocks)
  unfolding Together next_blocks Equal
  blocks_next i {blocks} b =
      least_blocks m.size (Together m acc (suc i)) (kept_test m blocks)
      (λ s t hs ht. (
        λ p. still_carry law.closed law.images equal s t hs ht ((kept_test_lem m blocks s t).0 p),
        λ r. (kept_test_lem m blocks s t).1 (still_carry law.closed law.images related s t hs ht r),
      ))
      (together_refl m acc (suc i))
    where
      equal : (s t : ℕ) → s < m.size → t < m.size → Equal blocks s t → Together m acc i s t
      equal = equal_related b (together_sym m acc i) (together_trans m acc i)

      related : (s t : ℕ) → s < m.size → t < m.size → Together m acc i s t → Equal blocks s t
      related = related_equal b (together_sym m acc i) (together_trans m acc i)

  -- the list after round i has exactly its blocks
  pub blocks_right : (i : ℕ) → IsBlocks m.size (Together m acc i) (blocks_after m acc i)
  unfolding blocks_after Together first_blocks
  blocks_right zero = least_blocks m.size (Together m acc 0) (same_test m acc) (λ s t hs ht. same_test_lem m acc s t) (together_refl m acc 0)
  blocks_right (suc i) = blocks_next i (blocks_right i)

  pub blocks_together : (i s t : ℕ) → s < m.size → t < m.size
      → (get_or (blocks_after m acc i) s 0 ≡ get_or (blocks_after m acc i) t 0) ↔ Together m acc i s t
  blocks_together i s t hs ht = (
    equal_related (blocks_right i) (together_sym m acc i) (together_trans m acc i) s t hs ht,
    related_equal (blocks_right i) (together_sym m acc i) (together_trans m acc i) s t hs ht,
  )
