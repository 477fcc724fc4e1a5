-- A rule in which contexts tell all elements apart is the smallest with its outcomes: any other rule whose values decide
-- them has as many elements or more, and one with just as many is a renumbering. Assumes nothing.
use Prim.Native.Nat.{ℕ, ◌≤◌, ◌<◌}
use native.Mathlib.Decide.{dec_lt}
use native.Mathlib.Omega.{arith}
use mathlib.Core.Path.{◌≡◌, refl, sym, subst, ap, ap₂, ◌∙◌}
use mathlib.Core.Logic.{dite}
use mathlib.Core.List.{List, [], ◌∷◌, ◌++◌}
use lib.ListN.{length}
use Rattle.finite.proofs.Pigeonhole.{Injection, injection_le, injection_onto}
use Rattle.finite.proofs.Preimages.{preimage, preimage_below, preimage_maps, preimage_injection}
use Rattle.theory.specs.Words.{Over, over_nil, over_cons, Lasso}
use Rattle.theory.specs.Rules.{Morphism, Lawful, Value, none, element, join, value, ValueWord, AllReached}
use Rattle.theory.specs.Smallest.{Renumbered}
use Rattle.theory.proofs.Values.{inside_element, element_apart, element_same, join_elements, value_append, Element, value_element}
use Rattle.theory.proofs.Starts.{start_or_turn, first_value, first_value_again, value_started, lasso_started, started_values}
use Rattle.theory.specs.Rounds.{SameOutcomes}
use Rattle.minimality.proofs.Contexts.{around, Indistinct, HasValue, word_has, value_word, has_append, has_around}

-- the outcome of two values, 0 where one of them is of an empty word
unfoldable pub value_outcome : (ℕ → ℕ → ℕ) → Value → Value → ℕ
value_outcome acc none y = 0
value_outcome acc (element s) none = 0
value_outcome acc (element s) (element t) = acc s t

-- the outcome of a lasso; where its start is empty the first turn of its cycle stands for it
unfoldable pub outcome : Morphism → (ℕ → ℕ → ℕ) → List ℕ → List ℕ → ℕ
outcome m acc u v = value_outcome acc (first_value (value m u) (value m v)) (value m v)

pub outcome_started : (m : Morphism) (acc : ℕ → ℕ → ℕ) (u v : List ℕ) → outcome m acc (start_or_turn u v) v ≡ outcome m acc u v
unfolding outcome
outcome_started m acc u v =
    ap (λ x. value_outcome acc x (value m v))
    (ap (λ x. first_value x (value m v)) (value_started m u v) ∙ first_value_again (value m u) (value m v))

-- lassos with equal values in the rival have equal outcomes
pub record Factors (m : Morphism) (acc : ℕ → ℕ → ℕ) (rival : Morphism) : Type 0 where
  pub equal_outcomes : (u v u' v' : List ℕ) → Lasso m.letters u v → Lasso m.letters u' v'
      → value rival u ≡ value rival u' → value rival v ≡ value rival v' → outcome m acc u v ≡ outcome m acc u' v'

-- contexts tell all elements apart
pub record Syntactic (m : Morphism) (acc : ℕ → ℕ → ℕ) : Type 0 where
  pub told_apart : (s t : ℕ) → s < m.size → t < m.size → Indistinct m acc s t → s ≡ t

pub outcome_at_lem : {m : Morphism} (acc : ℕ → ℕ → ℕ) {u v : List ℕ} {s t : ℕ} → HasValue m u (element s) → HasValue m v (element t)
    → outcome m acc u v ≡ acc s t
unfolding outcome value_outcome first_value
outcome_at_lem acc p q = ap₂ (λ x y. value_outcome acc (first_value x y) y) p.is q.is

-- the values of a lasso's two words, of the cycle twice where the start is empty
pub record LassoValues (m : Morphism) (u v : List ℕ) : Type 0 where
  pub start : ℕ
  pub cycle : ℕ
  pub start_inside : start < m.size
  pub cycle_inside : cycle < m.size
  pub start_has : HasValue m (start_or_turn u v) (element start)
  pub cycle_has : HasValue m v (element cycle)

pub lasso_values : {m : Morphism} {u v : List ℕ} → Lawful m → Lasso m.letters u v → LassoValues m u v
lasso_values {m} {u} {v} law l =
    let k = started_values law l in
    record {
      start = k.start.the;
      cycle = k.cycle.the;
      start_inside = k.start.inside;
      cycle_inside = k.cycle.inside;
      start_has = record { over = (lasso_started l).start_over; is = k.start.is };
      cycle_has = record { over = l.cycle_over; is = k.cycle.is };
    }

-- they decide the outcome
pub values_outcome : {m : Morphism} (acc : ℕ → ℕ → ℕ) {u v : List ℕ} (k : LassoValues m u v) → outcome m acc u v ≡ acc k.start k.cycle
values_outcome {m} acc {u} {v} k = sym (outcome_started m acc u v) ∙ outcome_at_lem acc k.start_has k.cycle_has

-- a word with an element for its value is not empty
pub word_some : {m : Morphism} {w : List ℕ} {s : ℕ} → HasValue m w (element s) → 0 < length w
unfolding value
word_some {w = []} e = absurd (element_apart (sym e.is))
word_some {w = a ∷ w} e = omega arith

pub elements_lasso : {m : Morphism} {u v : List ℕ} {s t : ℕ} → HasValue m u (element s) → HasValue m v (element t) → Lasso m.letters u v
elements_lasso p q = record {
  start_over = p.over;
  cycle_over = q.over;
  cycle_some = word_some q;
}

pub framed_value : {p w q : List ℕ} (rival : Morphism) → Lawful rival → Over rival.letters p → Over rival.letters w → Over rival.letters q
    → value rival ((p ++ w) ++ q) ≡ join rival (join rival (value rival p) (value rival w)) (value rival q)
framed_value rival law op ow oq =
    (has_append law (has_append law (record { over = op; is = refl }) (record { over = ow; is = refl })) (record { over = oq; is = refl })).is

-- a word chosen for each element
chosen : {m : Morphism} → AllReached m → ℕ → List ℕ
chosen {m} reached s = dite (dec_lt s m.size) (λ h. (reached.word_of s h).word) (λ h. [])

chosen_has : {m : Morphism} (reached : AllReached m) (s : ℕ) → s < m.size → HasValue m (chosen reached s) (element s)
unfolding chosen
chosen_has {m} reached s h = go (dec_lt s m.size)
  where
    go : (d : Dec (s < m.size)) → HasValue m (dite d (λ h. (reached.word_of s h).word) (λ h. [])) (element s)
    go (yes l) = record { over = (reached.word_of s l).over; is = (reached.word_of s l).its_value }
    go (no f) = absurd (f h)

pub letter_has : (m : Morphism) (a : ℕ) → a < m.letters → HasValue m (a ∷ []) (element (m.image a))
unfolding value
letter_has m a h = record { over = over_cons h over_nil; is = refl }

-- the element of a value that is one
the_element : Value → ℕ
the_element none = 0
the_element (element s) = s

element_itself : {x : Value} {s : ℕ} → x ≡ element s → x ≡ element (the_element x)
unfolding the_element
element_itself e = e ∙ ap element (sym (ap the_element e))

module _ {m rival : Morphism} (acc : ℕ → ℕ → ℕ) (law : Lawful m) (reached : AllReached m) (rival-law : Lawful rival) (letters : rival.letters ≡ m.letters) (factors : Factors m acc rival) where
  for_rival : {w : List ℕ} → Over m.letters w → Over rival.letters w
  for_rival {w} o = subst (λ k. Over k w) (sym letters) o

  module _ {w w' : List ℕ} {s t : ℕ} (hw : HasValue m w (element s)) (hw' : HasValue m w' (element t)) (e : value rival w ≡ value rival w') where
    framed_same : {p q : List ℕ} → Over m.letters p → Over m.letters q → value rival ((p ++ w) ++ q) ≡ value rival ((p ++ w') ++ q)
    framed_same {p} {q} op oq =
        framed_value rival rival-law (for_rival op) (for_rival hw.over) (for_rival oq)
        ∙ ap (λ x. join rival (join rival (value rival p) x) (value rival q)) e
        ∙ sym (framed_value rival rival-law (for_rival op) (for_rival hw'.over) (for_rival oq))

    context_same : {x y : Value} → ValueWord m x → ValueWord m y → SameOutcomes m acc (around m x s y) (around m x t y)
    context_same {x} {y} p q =
        let one : HasValue m ((p.word ++ w) ++ q.word) (element (around m x s y)) = has_around law (word_has p) hw (word_has q) in
        let two : HasValue m ((p.word ++ w') ++ q.word) (element (around m x t y)) = has_around law (word_has p) hw' (word_has q) in
        let same : value rival ((p.word ++ w) ++ q.word) ≡ value rival ((p.word ++ w') ++ q.word) = framed_same p.over q.over in
        record {
          as_start = λ z h.
              let c : ValueWord m (element z) = value_word reached (inside_element h) in
              sym (outcome_at_lem acc one (word_has c))
              ∙ factors.equal_outcomes _ _ _ _ (elements_lasso one (word_has c)) (elements_lasso two (word_has c)) same refl
              ∙ outcome_at_lem acc two (word_has c);
          as_cycle = λ z h.
              let c : ValueWord m (element z) = value_word reached (inside_element h) in
              sym (outcome_at_lem acc (word_has c) one)
              ∙ factors.equal_outcomes _ _ _ _ (elements_lasso (word_has c) one) (elements_lasso (word_has c) two) refl same
              ∙ outcome_at_lem acc (word_has c) two;
        }

    -- words with one value in the rival have values in ours that no context tells apart
    pub one_value : Indistinct m acc s t
    one_value = record { in_context = λ x y hx hy. context_same (value_word reached hx) (value_word reached hy) }

  module _ (syntactic : Syntactic m acc) where
    -- the rival's value of an element's chosen word
    send : ℕ → ℕ
    send s = the_element (value rival (chosen reached s))

    sent : (s : ℕ) → s < m.size → Element rival (value rival (chosen reached s))
    sent s h =
        let w : HasValue m (chosen reached s) (element s) = chosen_has reached s h in
        value_element rival-law (for_rival w.over) (word_some w)

    send_value : (s : ℕ) → s < m.size → value rival (chosen reached s) ≡ element (send s)
    unfolding send
    send_value s h = element_itself (sent s h).is

    send_inside : (s : ℕ) → s < m.size → send s < rival.size
    send_inside s h =
        subst (λ t. t < rival.size) (element_same (sym (sent s h).is ∙ send_value s h)) (sent s h).inside

    injection : Injection m.size rival.size send
    injection = record {
      maps = send_inside;
      apart = λ s t hs ht e.
          syntactic.told_apart s t hs ht (one_value (chosen_has reached s hs) (chosen_has reached t ht)
          (send_value s hs ∙ ap element e ∙ sym (send_value t ht)));
    }

    -- a rival has at least as many elements
    pub smallest_size : m.size ≤ rival.size
    smallest_size = injection_le injection

    module _ (sizes : rival.size ≡ m.size) where
      source : (b : ℕ) → b < rival.size → (s : ℕ) × (s < m.size) × (send s ≡ b)
      source b h = injection_onto (subst (λ n. Injection m.size n send) sizes injection) b (omega arith)

      -- our element that is sent to b
      abbrev back : ℕ → ℕ
      back = preimage m.size send

      back_inside : (b : ℕ) → b < rival.size → back b < m.size
      back_inside = preimage_below source

      send_back : (b : ℕ) → b < rival.size → send (back b) ≡ b
      send_back = preimage_maps source

      back_has : (b : ℕ) → b < rival.size → HasValue m (chosen reached (back b)) (element (back b))
      back_has b h = chosen_has reached (back b) (back_inside b h)

      back_sent : (b : ℕ) → b < rival.size → value rival (chosen reached (back b)) ≡ element b
      back_sent b h = send_value (back b) (back_inside b h) ∙ ap element (send_back b h)

      -- a word tells where the rival's value of it goes back to
      back_value : {w : List ℕ} {s : ℕ} (b : ℕ) → b < rival.size → s < m.size → HasValue m w (element s)
          → value rival w ≡ element b → back b ≡ s
      back_value {s = s} b h hs hw e =
          syntactic.told_apart (back b) s (back_inside b h) hs (one_value (back_has b h) hw (back_sent b h ∙ sym e))

      module _ (a b : ℕ) (ha : a < rival.size) (hb : b < rival.size) where
        pair_has : HasValue m (chosen reached (back a) ++ chosen reached (back b)) (element (m.product (back a) (back b)))
        pair_has =
            subst (HasValue m _) (join_elements m (back a) (back b)) (has_append law (back_has a ha) (back_has b hb))

        pair_value : value rival (chosen reached (back a) ++ chosen reached (back b)) ≡ element (rival.product a b)
        pair_value =
            value_append rival-law (for_rival (back_has a ha).over) (for_rival (back_has b hb).over)
            ∙ ap₂ (join rival) (back_sent a ha) (back_sent b hb)
            ∙ join_elements rival a b

        back_product : back (rival.product a b) ≡ m.product (back a) (back b)
        back_product =
            back_value (rival.product a b) (rival-law.closed a b ha hb)
            (law.closed _ _ (back_inside a ha) (back_inside b hb)) pair_has pair_value

      -- a rival with just as many elements is ours, renumbered
      pub smallest_copy : Renumbered rival m
      smallest_copy = record {
        same_letters = letters;
        to = back;
        inside = back_inside;
        one_to_one = (preimage_injection source).apart;
        onto = λ b h.
            (send b, send_inside b h, back_value (send b) (send_inside b h) h (chosen_has reached b h) (send_value b h));
        products = back_product;
        images = λ a h.
            let h' : a < rival.letters = omega arith in
            back_value (rival.image a) (rival-law.images a h') (law.images a h) (letter_has m a h) (letter_has rival a h').is;
      }
