-- At a stable round the blocks respect products with all elements, and two elements stand together exactly if no context
-- tells them apart. Assumes nothing.
use Prim.Native.Nat.{ℕ, zero, suc, ◌<◌}
use mathlib.Core.Path.{subst, subst₂}
use mathlib.Core.List.{List}
use Rattle.theory.specs.Words.{Over, over_nil, over_cons}
use Rattle.theory.specs.Rules.{Morphism, Lawful, Value, none, value, AllReached}
use Rattle.theory.proofs.Values.{Inside, inside_none, inside_element, value_inside}
use Rattle.theory.specs.Rounds.{SameOutcomes, Together, Stable}
use Rattle.minimality.proofs.Rounds.{together_refl, together_sym, together_trans, together_dec, together_outcomes}
use Rattle.minimality.proofs.Contexts.{after, ahead, around, Indistinct, ahead_inside, after_join, ahead_join, indistinct_around, value_word}

-- a decided equivalence of the elements that products respect, that lies within the elements of the same outcomes and
-- parts no two elements that no context tells apart
pub record Congruence (m : Morphism) (acc : ℕ → ℕ → ℕ) (R : ℕ → ℕ → Type 0) : Type 0 where
  pub decided : (s t : ℕ) → Dec (R s t)
  pub reflexive : (s : ℕ) → R s s
  pub symmetric : (s t : ℕ) → R s t → R t s
  pub transitive : (s t u : ℕ) → R s t → R t u → R s u
  pub products : (s s' t t' : ℕ) → s < m.size → s' < m.size → t < m.size → t' < m.size
      → R s s' → R t t' → R (m.product s t) (m.product s' t')
  pub outcomes : (s t : ℕ) → R s t → SameOutcomes m acc s t
  pub apart : (s t : ℕ) → s < m.size → t < m.size → Indistinct m acc s t → R s t

module _ {m : Morphism} (law : Lawful m) (acc : ℕ → ℕ → ℕ) where
  -- elements that no context tells apart stand together after every round: one letter of context a round
  pub indistinct_together : (i s t : ℕ) → s < m.size → t < m.size → Indistinct m acc s t → Together m acc i s t
  unfolding Together around ahead after
  indistinct_together zero s t hs ht d = d.in_context none none inside_none inside_none
  indistinct_together (suc i) s t hs ht d = record {
    before = indistinct_together i s t hs ht d;
    on_right = λ a h.
        let ha : m.image a < m.size = law.images a h in
        indistinct_together i _ _ (law.closed s _ hs ha) (law.closed t _ ht ha)
        (indistinct_around law inside_none (inside_element ha) hs ht d);
    on_left = λ a h.
        let ha : m.image a < m.size = law.images a h in
        indistinct_together i _ _ (law.closed _ s ha hs) (law.closed _ t ha ht)
        (indistinct_around law (inside_element ha) inside_none hs ht d);
  }

  module _ (i : ℕ) (st : Stable m acc i) where
    -- at a stable round the blocks respect a letter on either side
    letter_after : (s t a : ℕ) → s < m.size → t < m.size → a < m.letters → Together m acc i s t
        → Together m acc i (m.product s (m.image a)) (m.product t (m.image a))
    unfolding Together
    letter_after s t a hs ht h r = (st.kept s t hs ht r).on_right a h

    letter_ahead : (s t a : ℕ) → s < m.size → t < m.size → a < m.letters → Together m acc i s t
        → Together m acc i (m.product (m.image a) s) (m.product (m.image a) t)
    unfolding Together
    letter_ahead s t a hs ht h r = (st.kept s t hs ht r).on_left a h

    -- and so a word
    word_after : {w : List ℕ} → Over m.letters w → (s t : ℕ) → s < m.size → t < m.size → Together m acc i s t
        → Together m acc i (after m s (value m w)) (after m t (value m w))
    unfolding value after
    word_after over_nil s t hs ht r = r
    word_after (over_cons {a} h o) s t hs ht r =
        let ha : m.image a < m.size = law.images a h in
        subst₂ (Together m acc i)
        (after_join law hs (inside_element ha) (value_inside law o))
        (after_join law ht (inside_element ha) (value_inside law o))
        (word_after o _ _ (law.closed s _ hs ha) (law.closed t _ ht ha) (letter_after s t a hs ht h r))

    word_ahead : {w : List ℕ} → Over m.letters w → (s t : ℕ) → s < m.size → t < m.size → Together m acc i s t
        → Together m acc i (ahead m (value m w) s) (ahead m (value m w) t)
    unfolding value ahead
    word_ahead over_nil s t hs ht r = r
    word_ahead (over_cons {a} h o) s t hs ht r =
        let ha : m.image a < m.size = law.images a h in
        subst₂ (Together m acc i)
        (ahead_join law hs (inside_element ha) (value_inside law o))
        (ahead_join law ht (inside_element ha) (value_inside law o))
        (letter_ahead _ _ a (ahead_inside law (value_inside law o) hs) (ahead_inside law (value_inside law o) ht) h
        (word_ahead o s t hs ht r))

    module _ (reached : AllReached m) where
      -- where every element is reached, the blocks respect every value on either side
      pub together_after : {y : Value} → Inside m y → (s t : ℕ) → s < m.size → t < m.size → Together m acc i s t
          → Together m acc i (after m s y) (after m t y)
      together_after {y} hy s t hs ht r =
          let w = value_word reached hy in
          subst (λ v. Together m acc i (after m s v) (after m t v)) w.its_value (word_after w.over s t hs ht r)

      pub together_ahead : {x : Value} → Inside m x → (s t : ℕ) → s < m.size → t < m.size → Together m acc i s t
          → Together m acc i (ahead m x s) (ahead m x t)
      together_ahead {x} hx s t hs ht r =
          let w = value_word reached hx in
          subst (λ v. Together m acc i (ahead m v s) (ahead m v t)) w.its_value (word_ahead w.over s t hs ht r)

      pub together_products : (s s' t t' : ℕ) → s < m.size → s' < m.size → t < m.size → t' < m.size
          → Together m acc i s s' → Together m acc i t t' → Together m acc i (m.product s t) (m.product s' t')
      unfolding after ahead
      together_products s s' t t' hs hs' ht ht' p q =
          together_trans m acc i _ _ _ (together_after (inside_element ht) s s' hs hs' p)
          (together_ahead (inside_element hs') t t' ht ht' q)

      -- elements that stand together are told apart by no context
      pub together_indistinct : (s t : ℕ) → s < m.size → t < m.size → Together m acc i s t → Indistinct m acc s t
      unfolding around
      together_indistinct s t hs ht r = record {
        in_context = λ x y hx hy.
            together_outcomes m acc i _ _
            (together_after hy _ _ (ahead_inside law hx hs) (ahead_inside law hx ht) (together_ahead hx s t hs ht r));
      }

      -- the blocks of a stable round are a congruence
      pub stable_congruence : Congruence m acc (Together m acc i)
      stable_congruence = record {
        decided = together_dec m acc i;
        reflexive = together_refl m acc i;
        symmetric = together_sym m acc i;
        transitive = together_trans m acc i;
        products = together_products;
        outcomes = together_outcomes m acc i;
        apart = indistinct_together i;
      }
