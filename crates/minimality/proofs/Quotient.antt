-- The rule whose elements are the blocks: it is lawful and reached, gives every lasso its outcome back, and contexts tell
-- its elements apart. Assumes nothing.
use Prim.Native.Nat.{ℕ, ◌<◌}
use mathlib.Core.Path.{◌≡◌, refl, sym, subst₂, ap, ◌∙◌}
use mathlib.Core.List.{List}
use Rattle.theory.specs.Words.{Over, Lasso}
use Rattle.theory.specs.Rules.{Morphism, Lawful, Value, element, value, WordOf, AllReached}
use Rattle.theory.specs.Maps.{MapsOnto}
use Rattle.theory.proofs.Values.{Inside, inside_none, inside_element}
use Rattle.theory.proofs.Carried.{renamed, value_carried}
use Rattle.theory.specs.Rounds.{SameOutcomes}
use Rattle.minimality.proofs.Contexts.{after, ahead, around, ahead_inside, around_inside, Indistinct, HasValue}
use Rattle.minimality.proofs.Smallest.{outcome, outcome_started, outcome_at_lem, LassoValues, lasso_values, values_outcome, Factors, Syntactic}

-- c numbered blocks: the number of each element's block, and an element of each block, its leader. Products respect the
-- blocks, elements of one block have the same outcomes, and elements that no context tells apart are in one block
pub record Numbering (m : Morphism) (acc : ℕ → ℕ → ℕ) (c : ℕ) : Type 0 where
  pub number : ℕ → ℕ
  pub leader : ℕ → ℕ
  pub number_below : (s : ℕ) → s < m.size → number s < c
  pub leader_below : (j : ℕ) → j < c → leader j < m.size
  pub number_leader : (j : ℕ) → j < c → number (leader j) ≡ j
  pub congruent : (s s' t t' : ℕ) → s < m.size → s' < m.size → t < m.size → t' < m.size
      → number s ≡ number s' → number t ≡ number t' → number (m.product s t) ≡ number (m.product s' t')
  pub outcomes : (s t : ℕ) → s < m.size → t < m.size → number s ≡ number t → SameOutcomes m acc s t
  pub apart : (s t : ℕ) → s < m.size → t < m.size → Indistinct m acc s t → number s ≡ number t

-- the blocks as elements
unfoldable pub quotient : {m : Morphism} {acc : ℕ → ℕ → ℕ} {c : ℕ} → Numbering m acc c → Morphism
quotient {m} {acc} {c} b = record {
  size = c;
  letters = m.letters;
  product = λ i j. b.number (m.product (b.leader i) (b.leader j));
  image = λ a. b.number (m.image a);
}

-- the outcome of two blocks is that of their leaders
unfoldable pub quotient_acc : {m : Morphism} {acc : ℕ → ℕ → ℕ} {c : ℕ} → Numbering m acc c → ℕ → ℕ → ℕ
quotient_acc {acc = acc} b i j = acc (b.leader i) (b.leader j)

module _ {m : Morphism} {acc : ℕ → ℕ → ℕ} {c : ℕ} (law : Lawful m) (b : Numbering m acc c) where
  leader_number : (s : ℕ) → s < m.size → b.leader (b.number s) < m.size
  leader_number s h = b.leader_below (b.number s) (b.number_below s h)

  same_number : (s : ℕ) → s < m.size → b.number (b.leader (b.number s)) ≡ b.number s
  same_number s h = b.number_leader (b.number s) (b.number_below s h)

  -- the number of a product is the product of the numbers
  number_product : (s t : ℕ) → s < m.size → t < m.size
      → b.number (m.product s t) ≡ (quotient b).product (b.number s) (b.number t)
  unfolding quotient
  number_product s t hs ht =
      b.congruent s _ t _ hs (leader_number s hs) ht (leader_number t ht) (sym (same_number s hs)) (sym (same_number t ht))

  leaders_product : (i j : ℕ) → i < c → j < c → m.product (b.leader i) (b.leader j) < m.size
  leaders_product i j hi hj = law.closed _ _ (b.leader_below i hi) (b.leader_below j hj)

  -- a product with a block is the same by its leader as by any other of its elements
  number_left : (s k : ℕ) → s < m.size → k < c
      → b.number (m.product (b.leader (b.number s)) (b.leader k)) ≡ b.number (m.product s (b.leader k))
  number_left s k h hk =
      let l : b.leader k < m.size = b.leader_below k hk in
      b.congruent _ s _ _ (leader_number s h) h l l (same_number s h) refl

  number_right : (i s : ℕ) → i < c → s < m.size
      → b.number (m.product (b.leader i) (b.leader (b.number s))) ≡ b.number (m.product (b.leader i) s)
  number_right i s hi h =
      let l : b.leader i < m.size = b.leader_below i hi in
      b.congruent _ _ _ s l l (leader_number s h) h refl (same_number s h)

  -- the blocks are closed under their product, and it associates
  pub quotient_lawful : Lawful (quotient b)
  unfolding quotient
  quotient_lawful = record {
    closed = λ i j hi hj. b.number_below _ (leaders_product i j hi hj);
    associative = λ i j k hi hj hk.
        number_left _ k (leaders_product i j hi hj) hk
        ∙ ap b.number (law.associative _ _ _ (b.leader_below i hi) (b.leader_below j hj) (b.leader_below k hk))
        ∙ sym (number_right i _ hi (leaders_product j k hj hk));
    images = λ a h. b.number_below _ (law.images a h);
  }

  -- the numbers are a map onto the blocks that carries products and letter images over
  pub quotient_maps : MapsOnto m (quotient b) b.number
  unfolding quotient
  quotient_maps = record {
    inside = b.number_below;
    onto = λ j h. (b.leader j, b.leader_below j h, b.number_leader j h);
    carries = record { products = number_product; images = λ a h. refl };
  }

  renamed_inside : {x : Value} → Inside m x → Inside (quotient b) (renamed b.number x)
  unfolding quotient renamed
  renamed_inside inside_none = inside_none
  renamed_inside (inside_element {s} h) = inside_element (b.number_below s h)

  -- a word's value is the number of its value before
  pub quotient_value : {w : List ℕ} → Over m.letters w → value (quotient b) w ≡ renamed b.number (value m w)
  unfolding quotient
  quotient_value = value_carried law quotient_maps.carries

  pub quotient_has : {w : List ℕ} {s : ℕ} → HasValue m w (element s) → HasValue (quotient b) w (element (b.number s))
  unfolding quotient renamed
  quotient_has h = record { over = h.over; is = quotient_value h.over ∙ ap (renamed b.number) h.is }

  -- every block is reached
  pub quotient_reached : AllReached m → AllReached (quotient b)
  unfolding quotient
  quotient_reached reached = record {
    word_of = λ j h.
        let w : WordOf m (b.leader j) = reached.word_of (b.leader j) (b.leader_below j h) in
        let q : HasValue (quotient b) w.word (element (b.number (b.leader j))) = quotient_has (record { over = w.over; is = w.its_value }) in
        record { word = w.word; over = w.over; its_value = q.is ∙ ap element (b.number_leader j h) };
  }

  -- the outcome of two elements is that of their blocks
  pub quotient_acc_number : (s t : ℕ) → s < m.size → t < m.size → quotient_acc b (b.number s) (b.number t) ≡ acc s t
  unfolding quotient_acc
  quotient_acc_number s t hs ht =
      (b.outcomes _ s (leader_number s hs) hs (same_number s hs)).as_start _ (leader_number t ht)
      ∙ (b.outcomes _ t (leader_number t ht) ht (same_number t ht)).as_cycle s hs

  -- every lasso keeps its outcome
  pub quotient_outcome : {u v : List ℕ} → Lasso m.letters u v → outcome (quotient b) (quotient_acc b) u v ≡ outcome m acc u v
  quotient_outcome {u} {v} l =
      let k : LassoValues m u v = lasso_values law l in
      sym (outcome_started (quotient b) (quotient_acc b) u v)
      ∙ outcome_at_lem (quotient_acc b) (quotient_has k.start_has) (quotient_has k.cycle_has)
      ∙ quotient_acc_number k.start k.cycle k.start_inside k.cycle_inside
      ∙ sym (values_outcome acc k)

  -- a rival whose values decide the outcomes of lassos decides those of the blocks too
  pub quotient_factors : {rival : Morphism} → Factors m acc rival → Factors (quotient b) (quotient_acc b) rival
  unfolding quotient
  quotient_factors f = record {
    equal_outcomes = λ u v u' v' l l' p q. quotient_outcome l ∙ f.equal_outcomes u v u' v' l l' p q ∙ sym (quotient_outcome l');
  }

  -- contexts pass on
  number_after : {y : Value} (s : ℕ) → s < m.size → Inside m y
      → b.number (after m s y) ≡ after (quotient b) (b.number s) (renamed b.number y)
  unfolding after renamed
  number_after s h inside_none = refl
  number_after s h (inside_element {s = y} hy) = number_product s y h hy

  number_ahead : {x : Value} (s : ℕ) → s < m.size → Inside m x
      → b.number (ahead m x s) ≡ ahead (quotient b) (renamed b.number x) (b.number s)
  unfolding ahead renamed
  number_ahead s h inside_none = refl
  number_ahead s h (inside_element {s = x} hx) = number_product x s hx h

  number_around : {x y : Value} (s : ℕ) → s < m.size → Inside m x → Inside m y
      → b.number (around m x s y) ≡ around (quotient b) (renamed b.number x) (b.number s) (renamed b.number y)
  unfolding around
  number_around {x} {y} s h hx hy =
      number_after (ahead m x s) (ahead_inside law hx h) hy
      ∙ ap (λ k. after (quotient b) k (renamed b.number y)) (number_ahead s h hx)

  -- elements of blocks that no context tells apart are told apart by none
  outcomes_up : (s t : ℕ) → s < m.size → t < m.size → SameOutcomes (quotient b) (quotient_acc b) (b.number s) (b.number t)
      → SameOutcomes m acc s t
  unfolding quotient
  outcomes_up s t hs ht r = record {
    as_start = λ z h.
        sym (quotient_acc_number s z hs h)
        ∙ r.as_start (b.number z) (b.number_below z h)
        ∙ quotient_acc_number t z ht h;
    as_cycle = λ z h.
        sym (quotient_acc_number z s h hs)
        ∙ r.as_cycle (b.number z) (b.number_below z h)
        ∙ quotient_acc_number z t h ht;
  }

  indistinct_up : (s t : ℕ) → s < m.size → t < m.size
      → Indistinct (quotient b) (quotient_acc b) (b.number s) (b.number t) → Indistinct m acc s t
  indistinct_up s t hs ht d = record {
    in_context = λ x y hx hy.
        outcomes_up _ _ (around_inside law hx hy hs) (around_inside law hx hy ht)
        (subst₂ (SameOutcomes (quotient b) (quotient_acc b))
        (sym (number_around s hs hx hy)) (sym (number_around t ht hx hy))
        (d.in_context _ _ (renamed_inside hx) (renamed_inside hy)));
  }

  blocks_equal : (i j : ℕ) → i < c → j < c → Indistinct (quotient b) (quotient_acc b) i j
      → b.number (b.leader i) ≡ b.number (b.leader j)
  blocks_equal i j hi hj d =
      let li : b.leader i < m.size = b.leader_below i hi in
      let lj : b.leader j < m.size = b.leader_below j hj in
      b.apart _ _ li lj (indistinct_up _ _ li lj
      (subst₂ (Indistinct (quotient b) (quotient_acc b)) (sym (b.number_leader i hi)) (sym (b.number_leader j hj)) d))

  -- contexts tell the blocks apart
  pub quotient_syntactic : Syntactic (quotient b) (quotient_acc b)
  unfolding quotient
  quotient_syntactic = record {
    told_apart = λ i j hi hj d. sym (b.number_leader i hi) ∙ blocks_equal i j hi hj d ∙ b.number_leader j hj;
  }
