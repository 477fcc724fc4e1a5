-- When a table associates: two tests with letters in place of all elements. A product with an element is a product letter by letter along
-- the word by which the element was found, and each letter in front may be taken before or after each letter behind. Assumes nothing.
use Prim.Native.Nat.{ℕ, ◌<◌}
use mathlib.Core.Path.{◌≡◌, sym, ap, ◌∙◌}
use Rattle.theory.specs.Rules.{Morphism}

-- the element of a letter, or that of a shorter word and then a letter, where every product with it is one with the shorter word's and
-- then one with the letter's
pub data ByLetters (m : Morphism) : ℕ → Type 0 where
  one : (a : ℕ) → a < m.letters → ByLetters m (m.image a)
  more : {p : ℕ} (a : ℕ) → p < m.size → ByLetters m p → a < m.letters
      → ((x : ℕ) → x < m.size → m.product (m.product x p) (m.image a) ≡ m.product x (m.product p (m.image a)))
      → ByLetters m (m.product p (m.image a))

-- a letter in front and a letter behind
pub record LettersAssociate (m : Morphism) : Type 0 where
  pub between : (a b x : ℕ) → a < m.letters → b < m.letters → x < m.size
      → m.product (m.product (m.image a) x) (m.image b) ≡ m.product (m.image a) (m.product x (m.image b))

module _ {m : Morphism} (closed : (a b : ℕ) → a < m.size → b < m.size → m.product a b < m.size)
    (images : (a : ℕ) → a < m.letters → m.image a < m.size) (letters : LettersAssociate m) where
  -- a letter in front associates
  front : (a : ℕ) → a < m.letters → {z : ℕ} → ByLetters m z → (x : ℕ) → x < m.size
      → m.product (m.product (m.image a) x) z ≡ m.product (m.image a) (m.product x z)
  front a l (one b h) x hx = letters.between a b x l h hx
  front a l (more {p} b hp w h along) x hx =
      sym (along (m.product (m.image a) x) (closed (m.image a) x (images a l) hx))
      ∙ ap (λ (y : ℕ). m.product y (m.image b)) (front a l w x hx)
      ∙ letters.between a b (m.product x p) l h (closed x p hx hp)
      ∙ ap (m.product (m.image a)) (along x hx)

  module _ (all : (s : ℕ) → s < m.size → ByLetters m s) where
    -- so does every element that letters make
    made : {s : ℕ} → ByLetters m s → (x y : ℕ) → x < m.size → y < m.size
        → m.product (m.product s x) y ≡ m.product s (m.product x y)
    made (one a l) x y hx hy = front a l (all y hy) x hx
    made (more {p} a hp w l along) x y hx hy =
        let h : m.image a < m.size = images a l in
        ap (λ (z : ℕ). m.product z y) (made w (m.image a) x h hx)
        ∙ made w (m.product (m.image a) x) y (closed (m.image a) x h hx) hy
        ∙ ap (m.product p) (front a l (all y hy) x hx)
        ∙ sym (made w (m.image a) (m.product x y) h (closed x y hx hy))

    -- where letters make every element, every triple associates
    pub letters_associate : (a b c : ℕ) → a < m.size → b < m.size → c < m.size
        → m.product (m.product a b) c ≡ m.product a (m.product b c)
    letters_associate a b c ha hb hc = made (all a ha) b c hb hc
