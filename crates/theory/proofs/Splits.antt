-- Membership of a lasso whose values are a linked pair (s, e): it is accepted exactly if its cycle splits, after a beginning
-- that is not empty, at a marked pair (s·x, (y·x)²), x and y the values of the two parts. Assumes nothing.
use Prim.Native.Nat.{ℕ, suc, pred, ◌<◌}
use mathlib.Core.Path.{◌≡◌, sym, ap, ◌∙◌, subst}
use mathlib.Core.List.{List, ◌++◌}
use native.Mathlib.Omega.{arith}
use lib.ListN.{length, take, drop, take-append-drop, length-append}
use lib.Seq.{take-append_seam, drop-append_seam, length-take-le}
use lib.Dec.{T}
use Rattle.finite.proofs.Search.{any_intro, any_elim}
use Rattle.theory.specs.Words.{Over}
use Rattle.theory.specs.Rules.{Morphism, Lawful, Pairs, Value, element, join, value}
use Rattle.theory.specs.Acceptance.{Accepts}
use Rattle.theory.specs.Pairs.{LinkedOnly, Linked, Conjugate}
use Rattle.theory.proofs.Words.{over_left, over_right, over_take, over_drop}
use Rattle.theory.proofs.Values.{Inside, join_elements, value_append, value_inside, value_element, value_some, inside_of, Element}
use Rattle.theory.proofs.Powers.{times, times_stays, idempotent_of}
use Rattle.theory.proofs.Conjugacy.{semigroup}
use Rattle.theory.proofs.Turns.{turned, turned_join, Turn, turn_of}
use Rattle.theory.proofs.Membership.{turn_test, turn_look, cut_look, cut_test, cut_test_is, accepts_test, accepts_test_intro, accepts_test_elim}

-- (y·x)², where y may be none
unfoldable pub turn_square : Morphism → Value → ℕ → ℕ
turn_square m y x = m.product (turned m y x) (turned m y x)

-- the cycle v splits at a pair of P
pub record MarkedSplit (m : Morphism) (P : Pairs) (s : ℕ) (v : List ℕ) : Type 0 where
  pub front : List ℕ
  pub back : List ℕ
  pub parts : front ++ back ≡ v
  pub front_element : ℕ
  pub front_value : value m front ≡ element front_element
  pub has_mark : T (P (m.product s front_element) (turn_square m (value m back) front_element))

module _ {m : Morphism} (law : Lawful m) {s e : ℕ} (l : Linked m s e) where
  -- at a cut of a cycle with value e the test looks at one pair only
  module _ {x : ℕ} {y : Value} (hx : x < m.size) (hy : Inside m y) (p : join m (element x) y ≡ element e) where
    turn : Turn m s e x y
    turn = turn_of law l hx hy p

    -- (s·x)·(f·f) = s·x
    stays_twice : m.product (m.product s x) (m.product (turned m y x) (turned m y x)) ≡ m.product s x
    stays_twice =
        sym (law.associative (m.product s x) (turned m y x) (turned m y x) (law.closed s x l.inside hx) turn.inside turn.inside)
        ∙ ap (λ (a : ℕ). m.product a (turned m y x)) turn.stays ∙ turn.stays

    looks_at : (j : ℕ)
        → times m.product (m.product (m.product s x) (idempotent_of m.size m.product (turned m y x))) (turned m y x) j ≡ m.product s x
    looks_at j = rw (turn.settles, stays_twice) (times_stays (semigroup law) turn.stays j)

    pub one_look_elim : (P : Pairs) → T (turn_test m P (m.product s x) (turned m y x)) → T (P (m.product s x) (turn_square m y x))
    unfolding turn_test turn_look turn_square
    one_look_elim P h =
        let f = any_elim m.size (turn_look m P (m.product s x) (turned m y x) (idempotent_of m.size m.product (turned m y x))) h in
        rw (looks_at f.at, turn.settles) at f.holds

    pub one_look_intro : (P : Pairs) → T (P (m.product s x) (turn_square m y x)) → T (turn_test m P (m.product s x) (turned m y x))
    unfolding turn_test turn_look turn_square
    one_look_intro P h =
        any_intro m.size (turn_look m P (m.product s x) (turned m y x) (idempotent_of m.size m.product (turned m y x))) 0
        (omega (arith, l.inside)) (rw (looks_at 0, turn.settles) h)

  module _ {P : Pairs} (linked : LinkedOnly m P) {u v : List ℕ} (ou : Over m.letters u) (ov : Over m.letters v)
      (u-value : value m u ≡ element s) (v-value : value m v ≡ element e) where
    some : 0 < length v
    some = value_some m v e v-value

    -- the two parts of a split: their values, and what the test sees there
    module _ {front back : List ℕ} (of : Over m.letters front) (ob : Over m.letters back) (parts : front ++ back ≡ v)
        {x : ℕ} (front_value : value m front ≡ element x) where
      around : join m (element x) (value m back) ≡ element e
      around =
          ap (λ (a : Value). join m a (value m back)) (sym front_value) ∙ sym (value_append law of ob)
          ∙ ap (value m) parts ∙ v-value

      before_value : value m (u ++ front) ≡ element (m.product s x)
      before_value =
          value_append law ou of ∙ ap (λ (a : Value). join m a (value m front)) u-value
          ∙ ap (join m (element s)) front_value ∙ join_elements m s x

      turn_value_lem : value m (back ++ front) ≡ element (turned m (value m back) x)
      turn_value_lem =
          value_append law ob of ∙ ap (join m (value m back)) front_value ∙ turned_join m (value m back) x

      look_is : cut_test m P (value m (u ++ front)) (value m (back ++ front)) ≡ turn_test m P (m.product s x) (turned m (value m back) x)
      look_is = cut_test_is m P before_value turn_value_lem

    split_at : (j : ℕ) → j < length v → T (cut_look m P u v j) → MarkedSplit m P s v
    unfolding cut_look
    split_at j short h =
        go (value_element law (over_take (suc j) ov) (rw (length-take-le (suc j) v short) (omega arith)))
      where
        go : Element m (value m (take (suc j) v)) → MarkedSplit m P s v
        go x = record {
          front = take (suc j) v;
          back = drop (suc j) v;
          parts = take-append-drop (suc j) v;
          front_element = x.the;
          front_value = x.is;
          has_mark =
              one_look_elim x.inside (value_inside law (over_drop (suc j) ov))
              (around (over_take (suc j) ov) (over_drop (suc j) ov) (take-append-drop (suc j) v) x.is) P
              (rw (look_is (over_take (suc j) ov) (over_drop (suc j) ov) (take-append-drop (suc j) v) x.is) at h);
        }

    -- an accepted lasso splits at a marked pair
    pub accepted_splits : Accepts m P u v → MarkedSplit m P s v
    unfolding accepts_test
    accepted_splits a =
        let f = any_elim (length v) (cut_look m P u v) (accepts_test_intro law linked ou ov some a) in
        split_at f.at f.below f.holds

    over_front : (k : MarkedSplit m P s v) → Over m.letters k.front
    over_front k = over_left k.front k.back (subst (Over m.letters) (sym k.parts) ov)

    over_back : (k : MarkedSplit m P s v) → Over m.letters k.back
    over_back k = over_right k.front k.back (subst (Over m.letters) (sym k.parts) ov)

    -- the pair at a split is conjugate to (s, e)
    pub split_conjugate : (k : MarkedSplit m P s v) → Conjugate m s e (m.product s k.front_element) (turn_square m (value m k.back) k.front_element)
    unfolding turn_square
    split_conjugate k =
        (turn_of law l (inside_of law (over_front k) k.front_value) (value_inside law (over_back k)) (around (over_front k) (over_back k) k.parts k.front_value)).conjugate

    look_at : (k : MarkedSplit m P s v) (j : ℕ) → length k.front ≡ suc j → T (cut_look m P u v j)
    unfolding cut_look
    look_at k j e =
        rw (← e, ← k.parts, take-append_seam k.front k.back, drop-append_seam k.front k.back)
        (rw (look_is (over_front k) (over_back k) k.parts k.front_value)
        (one_look_intro (inside_of law (over_front k) k.front_value) (value_inside law (over_back k))
        (around (over_front k) (over_back k) k.parts k.front_value) P k.has_mark))

    -- and a lasso that does is accepted
    pub split_accepted : MarkedSplit m P s v → Accepts m P u v
    unfolding accepts_test
    split_accepted k =
        let h : 0 < length k.front = value_some m k.front k.front_element k.front_value in
        let e : length k.front ≡ suc (pred (length k.front)) = omega arith in
        accepts_test_elim law linked ou ov some
        (any_intro (length v) (cut_look m P u v) (pred (length k.front))
        (omega (arith, length-append k.front k.back, ap length k.parts))
        (look_at k (pred (length k.front)) e))
