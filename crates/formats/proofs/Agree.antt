-- Two morphisms with the same size and the same letters that agree on elements and letters: what the rule checks say of one
-- they say of the other, for values, words, products and powers look at the table below the size only. Assumes nothing.
use Prim.Native.Nat.{ℕ, ◌<◌}
use mathlib.Core.Path.{◌≡◌, refl, sym, ap, subst, ◌∙◌}
use mathlib.Core.List.{List}
use Rattle.theory.specs.Words.{Over, over_nil, over_cons}
use Rattle.theory.specs.Rules.{Morphism, Lawful, Value, element, join, value, WordOf, AllReached}
use Rattle.theory.specs.Pairs.{Idempotent, Linked}
use Rattle.theory.specs.Maps.{MapsOnto}
use Rattle.theory.proofs.Values.{Inside, inside_none, inside_element, value_inside}

-- the second morphism has the first one's size, letters, products and images
pub record Agree (m m' : Morphism) : Type 0 where
  pub same_size : m'.size ≡ m.size
  pub same_letters : m'.letters ≡ m.letters
  pub same_product : (a b : ℕ) → a < m.size → b < m.size → m'.product a b ≡ m.product a b
  pub same_image : (a : ℕ) → a < m.letters → m'.image a ≡ m.image a

module _ {m m' : Morphism} (agree : Agree m m') where
  -- an element of one is an element of the other
  pub below_first : {a : ℕ} → a < m'.size → a < m.size
  below_first {a} h = subst (λ (n : ℕ). a < n) agree.same_size h

  pub below_second : {a : ℕ} → a < m.size → a < m'.size
  below_second {a} h = subst (λ (n : ℕ). a < n) (sym agree.same_size) h

  pub letter_first : {a : ℕ} → a < m'.letters → a < m.letters
  letter_first {a} h = subst (λ (n : ℕ). a < n) agree.same_letters h

  -- an idempotent of one is an idempotent of the other
  pub agree_idempotent : {e : ℕ} → Idempotent m e → Idempotent m' e
  agree_idempotent {e} i = record { inside = below_second i.inside; square = agree.same_product e e i.inside i.inside ∙ i.square }

  -- a linked pair of one is a linked pair of the other
  pub agree_linked : {s e : ℕ} → Linked m s e → Linked m' s e
  agree_linked {s} {e} l = record {
    inside = below_second l.inside;
    idempotent = agree_idempotent l.idempotent;
    stays = agree.same_product s e l.inside l.idempotent.inside ∙ l.stays;
  }

  -- a map onto the elements of one is a map onto those of the other
  pub agree_maps : {a : Morphism} {f : ℕ → ℕ} → a.letters ≡ m.letters → MapsOnto a m f → MapsOnto a m' f
  agree_maps {f = f} letters p = record {
    inside = λ s h. below_second (p.inside s h);
    onto = λ t h. p.onto t (below_first h);
    carries = record {
      products = λ s t hs ht. p.carries.products s t hs ht ∙ sym (agree.same_product (f s) (f t) (p.inside s hs) (p.inside t ht));
      images = λ x h. p.carries.images x h ∙ sym (agree.same_image x (subst (λ (n : ℕ). x < n) letters h));
    };
  }

  agree_join : {s : ℕ} {x : Value} → s < m.size → Inside m x → join m' (element s) x ≡ join m (element s) x
  unfolding join
  agree_join h inside_none = refl
  agree_join {s} h (inside_element {s = t} k) = ap element (agree.same_product s t h k)

  module _ (law : Lawful m) where
    -- both have the same value of a word
    pub agree_value : {w : List ℕ} → Over m.letters w → value m' w ≡ value m w
    unfolding value
    agree_value over_nil = refl
    agree_value (over_cons {a} {w} h o) =
        ap (λ (s : ℕ). join m' (element s) (value m' w)) (agree.same_image a h)
        ∙ ap (join m' (element (m.image a))) (agree_value o)
        ∙ agree_join (law.images a h) (value_inside law o)

    -- and the same words for an element
    pub agree_word : {s : ℕ} → WordOf m s → WordOf m' s
    agree_word w = record {
      word = w.word;
      over = subst (λ (k : ℕ). Over k w.word) (sym agree.same_letters) w.over;
      its_value = agree_value w.over ∙ w.its_value;
    }

    pub agree_reached : AllReached m → AllReached m'
    agree_reached all = record { word_of = λ s h. agree_word (all.word_of s (below_first h)) }

    -- a morphism that agrees with a lawful one is lawful
    pub agree_lawful : Lawful m'
    agree_lawful = record {
      closed = λ a b ha hb.
          rw (agree.same_product a b (below_first ha) (below_first hb)) (below_second (law.closed a b (below_first ha) (below_first hb)));
      associative = λ a b c ha hb hc. same_triple a b c (below_first ha) (below_first hb) (below_first hc);
      images = λ a h. rw (agree.same_image a (letter_first h)) (below_second (law.images a (letter_first h)));
    }
      where
        same_triple : (a b c : ℕ) → a < m.size → b < m.size → c < m.size
            → m'.product (m'.product a b) c ≡ m'.product a (m'.product b c)
        same_triple a b c ha hb hc =
            ap (λ (x : ℕ). m'.product x c) (agree.same_product a b ha hb)
            ∙ agree.same_product (m.product a b) c (law.closed a b ha hb) hc
            ∙ law.associative a b c ha hb hc
            ∙ sym (agree.same_product a (m.product b c) ha (law.closed b c hb hc))
            ∙ ap (m'.product a) (sym (agree.same_product b c hb hc))

-- and the other way round
pub agree_back : {m m' : Morphism} → Agree m m' → Agree m' m
agree_back g = record {
  same_size = sym g.same_size;
  same_letters = sym g.same_letters;
  same_product = λ a b ha hb. sym (g.same_product a b (below_first g ha) (below_first g hb));
  same_image = λ a h. sym (g.same_image a (letter_first g h));
}
