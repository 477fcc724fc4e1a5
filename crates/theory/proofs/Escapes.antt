-- Two markings compared at one start value s: a cycle escapes if its value e makes (s, e) a pair of the first marking while
-- no split of it is a pair of the second. A search over the values of the two parts of a split, from the end of the cycle
-- to its beginning, finds one exactly if there is one. Assumes nothing.
use Prim.Native.Nat.{ℕ, ◌<◌}
use mathlib.Core.Path.{◌≡◌, refl, sym, ap, ◌∙◌, subst}
use mathlib.Core.List.{List, [], ◌∷◌, ◌++◌, append_assoc, append-nil}
use native.Mathlib.Omega.{arith}
use native.Mathlib.Decide.{ℕ_discrete}
use lib.ListN.{length, length-append}
use lib.Dec.{T}
use Rattle.finite.proofs.Worklist.{Reached, begin, onward}
use Rattle.theory.specs.Words.{Over, over_nil, over_cons}
use Rattle.theory.specs.Rules.{Morphism, Lawful, Pairs, Value, none, element, join, value, Value-discrete}
use Rattle.theory.proofs.Words.{over_append, over_left, over_right, over_head}
use Rattle.theory.proofs.Values.{Inside, inside_element, element_same, join_none, join_assoc, value_append, value_inside, value_element, value_some, inside_of, Element}
use Rattle.theory.proofs.Splits.{MarkedSplit, turn_square}

-- the cycle's value is paired with s by the first marking, and no split of the cycle is a pair of the second
pub record Escapes (m : Morphism) (P P' : Pairs) (s : ℕ) (v : List ℕ) : Type 0 where
  pub over : Over m.letters v
  pub cycle_element : ℕ
  pub cycle_value : value m v ≡ element cycle_element
  pub has_mark : T (P s cycle_element)
  pub no_split : MarkedSplit m P' s v → ⊥

-- the values of the two parts of a split; the front part is still to be read, letter by letter from its end
pub record State : Type 0 where
  pub front : Value
  pub back : Value

pub State_discrete : Discrete State
State_discrete x y = go (Value-discrete ℕ_discrete x.front y.front) (Value-discrete ℕ_discrete x.back y.back)
  where
    go : Dec (x.front ≡ y.front) → Dec (x.back ≡ y.back) → Dec (x ≡ y)
    go (yes p) (yes q) = yes (λ i. record { front = p i; back = q i })
    go (yes p) (no f) = no (λ e. f (ap (λ (z : State). z.back) e))
    go (no f) d = no (λ e. f (ap (λ (z : State). z.front) e))

-- a search begins with a marked cycle value in front and nothing behind
pub record Begins (m : Morphism) (P : Pairs) (s : ℕ) (x : State) : Type 0 where
  pub cycle_element : ℕ
  pub inside : cycle_element < m.size
  pub has_mark : T (P s cycle_element)
  pub all_front : x.front ≡ element cycle_element
  pub no_back : x.back ≡ none

-- a split that is not a pair of the second marking hands the last letter of its front over to its back
pub record Moves (m : Morphism) (P' : Pairs) (s a : ℕ) (x y : State) : Type 0 where
  pub letter : a < m.letters
  pub front_element : ℕ
  pub has_front : x.front ≡ element front_element
  pub unmarked : T (P' (m.product s front_element) (turn_square m x.back front_element)) → ⊥
  pub inside : Inside m y.front
  pub front_less : join m y.front (element (m.image a)) ≡ element front_element
  pub back_more : y.back ≡ join m (element (m.image a)) x.back

-- a state as the two values of a split
abbrev pub split_state : Value → Value → State
split_state x y = record { front = x; back = y }

-- what a state reached by the letters w knows: w's value is behind, some marked e is the product, no split of w was marked
pub record Known (m : Morphism) (P P' : Pairs) (s : ℕ) (w : List ℕ) (x : State) : Type 0 where
  pub over : Over m.letters w
  pub inside : Inside m x.front
  pub back_value : value m w ≡ x.back
  pub cycle_element : ℕ
  pub has_mark : T (P s cycle_element)
  pub product : join m x.front x.back ≡ element cycle_element
  pub unmarked : (w₁ w₂ : List ℕ) → w₁ ++ w₂ ≡ w → 0 < length w₁ → (z : ℕ) → join m x.front (value m w₁) ≡ element z
      → T (P' (m.product s z) (turn_square m (value m w₂) z)) → ⊥

module _ {m : Morphism} (law : Lawful m) {P P' : Pairs} {s : ℕ} where
  known_begin : {x : State} → Begins m P s x → Known m P P' s [] x
  unfolding value
  known_begin {x} b = record {
    over = over_nil;
    inside = rw b.all_front (inside_element b.inside);
    back_value = sym b.no_back;
    cycle_element = b.cycle_element;
    has_mark = b.has_mark;
    product = rw b.no_back (join_none m x.front ∙ b.all_front);
    unmarked = none_left;
  }
    where
      none_left : (w₁ w₂ : List ℕ) → w₁ ++ w₂ ≡ [] → 0 < length w₁ → (z : ℕ) → join m x.front (value m w₁) ≡ element z
          → T (P' (m.product s z) (turn_square m (value m w₂) z)) → ⊥
      none_left [] w₂ e h z p t = omega arith
      none_left (a ∷ w₁) w₂ e h z p t = let g : ◌≡◌ {A = ℕ} 0 1 = cc in omega arith

  module _ {a : ℕ} {w : List ℕ} {x y : State} (k : Known m P P' s w x) (g : Moves m P' s a x y) where
    abbrev h : Value
    h = element (m.image a)

    inside_h : Inside m h
    inside_h = inside_element (law.images a g.letter)

    -- the fronts' products with what follows agree
    front_same : (z : Value) → Inside m z → join m y.front (join m h z) ≡ join m x.front z
    front_same z iz =
        sym (join_assoc law g.inside inside_h iz) ∙ ap (λ (b : Value). join m b z) (g.front_less ∙ sym g.has_front)

    back_inside : Inside m x.back
    back_inside = subst (Inside m) k.back_value (value_inside law k.over)

    -- the new front's splits: the first is the one just looked at, the others were looked at before
    splits : (w₁ w₂ : List ℕ) → w₁ ++ w₂ ≡ a ∷ w → 0 < length w₁ → (z : ℕ) → join m y.front (value m w₁) ≡ element z
        → T (P' (m.product s z) (turn_square m (value m w₂) z)) → ⊥
    unfolding value join
    splits [] w₂ e l z p t = omega arith
    splits (b ∷ []) w₂ e l z p t =
        let eb : b ≡ a = cc in
        let ew : w₂ ≡ w = cc in
        let ez : z ≡ g.front_element = element_same (sym p ∙ ap (λ (c : ℕ). join m y.front (element (m.image c))) eb ∙ g.front_less) in
        g.unmarked
        (subst (λ (c : ℕ). T (P' (m.product s c) (turn_square m x.back c))) ez
        (subst (λ (c : Value). T (P' (m.product s z) (turn_square m c z))) (ap (value m) ew ∙ k.back_value) t))
    splits (b ∷ c ∷ w₁) w₂ e l z p t =
        let eb : b ≡ a = cc in
        let ew : (c ∷ w₁) ++ w₂ ≡ w = cc in
        k.unmarked (c ∷ w₁) w₂ ew (omega arith) z
        (sym (front_same (value m (c ∷ w₁)) (value_inside law (over_left (c ∷ w₁) w₂ (subst (Over m.letters) (sym ew) k.over))))
        ∙ ap (λ (d : ℕ). join m y.front (join m (element (m.image d)) (value m (c ∷ w₁)))) (sym eb) ∙ p)
        t

    known_onward : Known m P P' s (a ∷ w) y
    unfolding value
    known_onward = record {
      over = over_cons g.letter k.over;
      inside = g.inside;
      back_value = ap (join m h) k.back_value ∙ sym g.back_more;
      cycle_element = k.cycle_element;
      has_mark = k.has_mark;
      product = ap (join m y.front) g.back_more ∙ front_same x.back back_inside ∙ k.product;
      unmarked = splits;
    }

  -- every reached state knows this of its letters
  pub known_escape : {w : List ℕ} {x : State} → Reached (Begins m P s) (Moves m P' s) w x → Known m P P' s w x
  known_escape (begin b) = known_begin b
  known_escape (onward a r g) = known_onward (known_escape r) g

  -- a state with nothing left in front: its letters are a cycle that escapes
  pub ends_escapes : {w : List ℕ} {x : State} → Reached (Begins m P s) (Moves m P' s) w x → x.front ≡ none → Escapes m P P' s w
  unfolding join
  ends_escapes {w} {x} r e =
      let k = known_escape r in
      record {
        over = k.over;
        cycle_element = k.cycle_element;
        cycle_value = k.back_value ∙ ap (λ (z : Value). join m z x.back) (sym e) ∙ k.product;
        has_mark = k.has_mark;
        no_split = λ c. k.unmarked c.front c.back c.parts (value_some m c.front c.front_element c.front_value) c.front_element
            (ap (λ (z : Value). join m z (value m c.front)) e ∙ c.front_value) c.has_mark;
      }

  module _ {v : List ℕ} (k : Escapes m P P' s v) where
    over_parts : (v₁ v₂ : List ℕ) → v₁ ++ v₂ ≡ v → Over m.letters (v₁ ++ v₂)
    over_parts v₁ v₂ e = subst (Over m.letters) (sym e) k.over

    -- the front of a split hands its last letter over
    move : (v₁ v₂ : List ℕ) (a : ℕ) → v₁ ++ (a ∷ v₂) ≡ v → a < m.letters → Over m.letters v₁
        → Element m (value m (v₁ ++ (a ∷ [])))
        → Moves m P' s a (split_state (value m (v₁ ++ (a ∷ []))) (value m v₂)) (split_state (value m v₁) (value m (a ∷ v₂)))
    unfolding value join
    move v₁ v₂ a e h o x = record {
      letter = h;
      front_element = x.the;
      has_front = x.is;
      unmarked = λ t. k.no_split
          (record { front = v₁ ++ (a ∷ []); back = v₂; parts = append_assoc v₁ (a ∷ []) v₂ ∙ e; front_element = x.the; front_value = x.is; has_mark = t });
      inside = value_inside law o;
      front_less = sym (value_append law o (over_cons h over_nil)) ∙ x.is;
      back_more = refl;
    }

    -- every split of a cycle that escapes is reached, from its end to its beginning
    pub split_reached : (v₁ v₂ : List ℕ) → v₁ ++ v₂ ≡ v → Reached (Begins m P s) (Moves m P' s) v₂ (split_state (value m v₁) (value m v₂))
    unfolding value
    split_reached v₁ [] e = begin (record {
      cycle_element = k.cycle_element;
      inside = inside_of law k.over k.cycle_value;
      has_mark = k.has_mark;
      all_front = ap (value m) (sym (append-nil v₁) ∙ e) ∙ k.cycle_value;
      no_back = refl;
    })
    split_reached v₁ (a ∷ v₂) e =
        let o = over_parts v₁ (a ∷ v₂) e in
        let h = over_head (over_right v₁ (a ∷ v₂) o) in
        let o₁ = over_left v₁ (a ∷ v₂) o in
        onward a (split_reached (v₁ ++ (a ∷ [])) v₂ (append_assoc v₁ (a ∷ []) v₂ ∙ e))
        (move v₁ v₂ a e h o₁ (value_element law (over_append o₁ (over_cons h over_nil)) (omega (arith, length-append v₁ (a ∷ [])))))

  -- a cycle that escapes is found by the search
  pub escapes_reached : {v : List ℕ} → Escapes m P P' s v → Reached (Begins m P s) (Moves m P' s) v (split_state none (value m v))
  unfolding value
  escapes_reached {v} k = split_reached k [] v refl
