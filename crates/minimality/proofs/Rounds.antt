-- The rounds of reduction: standing together is decided and an equivalence, later rounds only split, and once a round
-- changes nothing no later one does. Assumes nothing.
use Prim.Native.Nat.{ℕ, zero, suc, ◌≤◌, ◌<◌}
use native.Mathlib.Nat.{eq-or-lt_of_le, le_of_suc-le-suc}
use native.Mathlib.Decide.{ℕ_discrete}
use native.Mathlib.Omega.{arith}
use mathlib.Core.Path.{◌≡◌, refl, sym, subst, ◌∙◌}
use mathlib.Core.Logic.Dec
use mathlib.Core.Logic.{⊎_elim, ◌↔◌}
use Rattle.theory.specs.Rules.{Morphism, Lawful}
use Rattle.finite.proofs.Search.{dec_all}
use Rattle.theory.specs.Rounds.{SameOutcomes, StillTogether, Together, Stable}

-- what each number hands to the next holds of every later number
upward : (P : ℕ → Type 0) → ((k : ℕ) → P k → P (suc k)) → {i j : ℕ} → i ≤ j → P i → P j
upward P step {i} {j = zero} h p = let e : i ≡ 0 = omega arith in subst P e p
upward P step {i} {j = suc j} h p =
    ⊎_elim (λ e. subst P e p) (λ l. step j (upward P step (le_of_suc-le-suc l) p)) (eq-or-lt_of_le h)

module _ (m : Morphism) (acc : ℕ → ℕ → ℕ) where
  -- standing together is an equivalence
  pub together_refl : (i s : ℕ) → Together m acc i s s
  unfolding Together
  together_refl zero s = record { as_start = λ z h. refl; as_cycle = λ z h. refl }
  together_refl (suc i) s = record {
    before = together_refl i s;
    on_right = λ a h. together_refl i _;
    on_left = λ a h. together_refl i _;
  }

  pub together_sym : (i s t : ℕ) → Together m acc i s t → Together m acc i t s
  unfolding Together
  together_sym zero s t r = record { as_start = λ z h. sym (r.as_start z h); as_cycle = λ z h. sym (r.as_cycle z h) }
  together_sym (suc i) s t r = record {
    before = together_sym i s t r.before;
    on_right = λ a h. together_sym i _ _ (r.on_right a h);
    on_left = λ a h. together_sym i _ _ (r.on_left a h);
  }

  pub together_trans : (i s t u : ℕ) → Together m acc i s t → Together m acc i t u → Together m acc i s u
  unfolding Together
  together_trans zero s t u p q = record {
    as_start = λ z h. p.as_start z h ∙ q.as_start z h;
    as_cycle = λ z h. p.as_cycle z h ∙ q.as_cycle z h;
  }
  together_trans (suc i) s t u p q = record {
    before = together_trans i s t u p.before q.before;
    on_right = λ a h. together_trans i _ _ _ (p.on_right a h) (q.on_right a h);
    on_left = λ a h. together_trans i _ _ _ (p.on_left a h) (q.on_left a h);
  }

  -- what each round asks
  pub together_first : {s t : ℕ} → SameOutcomes m acc s t ↔ Together m acc 0 s t
  unfolding Together
  together_first = (λ r. r, λ r. r)

  pub together_next : (i : ℕ) {s t : ℕ} → StillTogether m (Together m acc i) s t ↔ Together m acc (suc i) s t
  unfolding Together
  together_next i = (λ r. r, λ r. r)

  -- later rounds are finer
  pub together_before : (i s t : ℕ) → Together m acc (suc i) s t → Together m acc i s t
  unfolding Together
  together_before i s t r = r.before

  pub together_earlier : {i j : ℕ} (s t : ℕ) → i ≤ j → Together m acc j s t → Together m acc i s t
  together_earlier {i} s t h =
      upward (λ k. Together m acc k s t → Together m acc i s t) (λ k p r. p (together_before k s t r)) h (λ r. r)

  pub together_outcomes : (i s t : ℕ) → Together m acc i s t → SameOutcomes m acc s t
  unfolding Together
  together_outcomes i s t r = together_earlier {i = 0} {j = i} s t (omega arith) r

  -- standing together is decided
  pub together_dec : (i s t : ℕ) → Dec (Together m acc i s t)
  unfolding Together
  together_dec zero s t =
      Dec.of_iff (λ p. record { as_start = p.0; as_cycle = p.1 }, λ r. (r.as_start, r.as_cycle))
      (Dec.and (dec_all m.size (λ z h. ℕ_discrete (acc s z) (acc t z)))
      (dec_all m.size (λ z h. ℕ_discrete (acc z s) (acc z t))))
  together_dec (suc i) s t =
      Dec.of_iff
      (λ p. record { before = p.0; on_right = p.1.0; on_left = p.1.1 }, λ r. (r.before, (r.on_right, r.on_left)))
      (Dec.and (together_dec i s t)
      (Dec.and (dec_all m.letters (λ a h. together_dec i (m.product s (m.image a)) (m.product t (m.image a))))
      (dec_all m.letters (λ a h. together_dec i (m.product (m.image a) s) (m.product (m.image a) t)))))

  -- a round that changes nothing is the last that could
  module _ (law : Lawful m) where
    pub stable_next : (i : ℕ) → Stable m acc i → Stable m acc (suc i)
    unfolding Together
    stable_next i st = record {
      kept = λ s t hs ht r. record {
        before = r;
        on_right = λ a h.
            st.kept _ _ (law.closed s _ hs (law.images a h)) (law.closed t _ ht (law.images a h)) (r.on_right a h);
        on_left = λ a h.
            st.kept _ _ (law.closed _ s (law.images a h) hs) (law.closed _ t (law.images a h) ht) (r.on_left a h);
      };
    }

    pub stable_later : {i j : ℕ} → i ≤ j → Stable m acc i → Stable m acc j
    stable_later = upward (Stable m acc) stable_next

    -- from a stable round on, the blocks are the same
    pub together_later : {i j : ℕ} (s t : ℕ) → Stable m acc i → i ≤ j → s < m.size → t < m.size → Together m acc i s t → Together m acc j s t
    together_later s t st h hs ht r =
        (upward (λ k. Stable m acc k × Together m acc k s t)
        (λ k p. (stable_next k p.0, p.0.kept s t hs ht p.1))
        h (st, r)).1

-- ---- relations and outcomes that agree on elements

-- relations of which one implies the other on elements
pub still_carry : {m : Morphism} {R S : ℕ → ℕ → Type 0} → ((a b : ℕ) → a < m.size → b < m.size → m.product a b < m.size)
    → ((a : ℕ) → a < m.letters → m.image a < m.size) → ((s t : ℕ) → s < m.size → t < m.size → R s t → S s t)
    → (s t : ℕ) → s < m.size → t < m.size → StillTogether m R s t → StillTogether m S s t
still_carry closed images f s t hs ht r = record {
  before = f s t hs ht r.before;
  on_right = λ a h. f _ _ (closed s _ hs (images a h)) (closed t _ ht (images a h)) (r.on_right a h);
  on_left = λ a h. f _ _ (closed _ s (images a h) hs) (closed _ t (images a h) ht) (r.on_left a h);
}

-- outcomes that agree on elements give the same answer
pub same_outcomes_carry : {m : Morphism} {f g : ℕ → ℕ → ℕ} → ((s z : ℕ) → s < m.size → z < m.size → f s z ≡ g s z)
    → (s t : ℕ) → s < m.size → t < m.size → SameOutcomes m f s t ↔ SameOutcomes m g s t
same_outcomes_carry agree s t hs ht = (
  λ o. record {
    as_start = λ z h. sym (agree s z hs h) ∙ o.as_start z h ∙ agree t z ht h;
    as_cycle = λ z h. sym (agree z s h hs) ∙ o.as_cycle z h ∙ agree z t h ht;
  },
  λ o. record {
    as_start = λ z h. agree s z hs h ∙ o.as_start z h ∙ sym (agree t z ht h);
    as_cycle = λ z h. agree z s h hs ∙ o.as_cycle z h ∙ sym (agree z t h ht);
  },
)

-- so elements stand together by both after every round
module _ {m : Morphism} (law : Lawful m) where
  pub together_carry : {f g : ℕ → ℕ → ℕ} → ((s z : ℕ) → s < m.size → z < m.size → f s z ≡ g s z) → (i s t : ℕ) → s < m.size → t < m.size
      → Together m f i s t → Together m g i s t
  unfolding Together
  together_carry agree zero s t hs ht = (same_outcomes_carry agree s t hs ht).0
  together_carry agree (suc i) s t hs ht = still_carry law.closed law.images (together_carry agree i) s t hs ht

  pub stable_carry : {f g : ℕ → ℕ → ℕ} → ((s z : ℕ) → s < m.size → z < m.size → f s z ≡ g s z) → (i : ℕ) → Stable m f i → Stable m g i
  stable_carry agree i st = record {
    kept = λ s t hs ht r.
        together_carry agree (suc i) s t hs ht (st.kept s t hs ht (together_carry (λ s z h k. sym (agree s z h k)) i s t hs ht r));
  }
