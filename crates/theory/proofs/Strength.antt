-- The closure of a marking under conjugacy, and strength. Where every element is some word's value: a lasso with the
-- linked values (s, e) is accepted for some words exactly if the closure has (s, e); the marking is strong exactly if then
-- all such lassos are accepted; and acceptance under a strong marking is one look in the closure. Assumes nothing.
use Prim.Native.Nat.{ℕ, suc, ◌<◌}
use mathlib.Core.Path.{◌≡◌, sym, ap, ◌∙◌}
use mathlib.Core.Logic.{◌↔◌}
use mathlib.Core.List.{List, ◌++◌}
use native.Mathlib.Omega.{arith}
use lib.ListN.{length}
use lib.Dec.{T}
use Rattle.theory.specs.Words.{Over, Lasso, endless}
use Rattle.theory.specs.Rules.{Morphism, Lawful, Pairs, Value, element, join, value, WordOf, AllReached}
use Rattle.theory.specs.Acceptance.{Accepts, Strong}
use Rattle.theory.specs.Pairs.{LinkedOnly, Linked, Conjugate}
use Rattle.theory.proofs.Words.{over_append, repeat, repeat_over}
use Rattle.theory.proofs.Periods.{same_turned, same_unrolled_repeated}
use Rattle.theory.proofs.Values.{join_elements, value_append, value_some, inside_of}
use Rattle.theory.proofs.Starts.{start_or_turn, lasso_started, same_started, equal_started, started_values}
use Rattle.theory.proofs.Powers.{times_power, idempotent_of, idempotent_square, idempotent_inside, idempotent_self, settling}
use Rattle.theory.proofs.Conjugacy.{semigroup}
use Rattle.theory.proofs.Cuts.{value_repeat, value_then_repeat}
use Rattle.theory.proofs.Splits.{turn_square, accepted_splits, split_conjugate}

-- conjugate to a marked pair
pub record Closed (m : Morphism) (P : Pairs) (s e : ℕ) : Type 0 where
  pub to_start : ℕ
  pub to_cycle : ℕ
  pub conjugate : Conjugate m s e to_start to_cycle
  pub has_mark : T (P to_start to_cycle)

-- acceptance depends on the endless word only
pub accepts_same : {m : Morphism} {P : Pairs} {u v u' v' : List ℕ} → 0 < length v' → ((i : ℕ) → endless u v i ≡ endless u' v' i) → Accepts m P u v → Accepts m P u' v'
accepts_same some same a = record {
  cycle_some = some;
  start = a.start;
  cycle = a.cycle;
  start_over = a.start_over;
  cycle_over = a.cycle_over;
  same = λ i. a.same i ∙ same i;
  element_of_start = a.element_of_start;
  cycle_element = a.cycle_element;
  start_value = a.start_value;
  cycle_value = a.cycle_value;
  has_mark = a.has_mark;
}

-- with a turn of its cycle for an empty start a lasso is accepted exactly if it was
pub started_accepts : {m : Morphism} {P : Pairs} (u v : List ℕ) → 0 < length v → Accepts m P (start_or_turn u v) v ↔ Accepts m P u v
started_accepts u v some = (accepts_same some (same_started u v some), accepts_same some (λ i. sym (same_started u v some i)))

-- an accepted lasso with the values (s, e)
pub record AcceptedLasso (m : Morphism) (P : Pairs) (s e : ℕ) : Type 0 where
  pub start : List ℕ
  pub cycle : List ℕ
  pub lasso : Lasso m.letters start cycle
  pub start_value : value m start ≡ element s
  pub cycle_value : value m cycle ≡ element e
  pub accepted : Accepts m P start cycle

-- a lasso of words whose values are elements
pub lasso_of : (m : Morphism) {u v : List ℕ} {s e : ℕ} → Over m.letters u → Over m.letters v → value m u ≡ element s → value m v ≡ element e → Lasso m.letters u v
lasso_of m {u} {v} {s} {e} ou ov eu ev = record { start_over = ou; cycle_over = ov; cycle_some = value_some m v e ev }

module _ {m : Morphism} (law : Lawful m) where
  -- the value of two words whose values are elements
  pub value_two : {x y : List ℕ} {s t : ℕ} → Over m.letters x → Over m.letters y → value m x ≡ element s → value m y ≡ element t
      → value m (x ++ y) ≡ element (m.product s t)
  value_two {x} {y} {s} {t} ox oy ex ey =
      value_append law ox oy ∙ ap (λ (a : Value). join m a (value m y)) ex ∙ ap (join m (element s)) ey ∙ join_elements m s t

  module _ {P : Pairs} (linked : LinkedOnly m P) where
    -- a lasso with linked values that is accepted has its values in the closure
    pub accepted_closed : {s e : ℕ} {u v : List ℕ} → Linked m s e → Over m.letters u → Over m.letters v → value m u ≡ element s
        → value m v ≡ element e → Accepts m P u v → Closed m P s e
    accepted_closed {s} {e} {u} {v} l ou ov eu ev a =
        let k = accepted_splits law l linked ou ov eu ev a in
        record {
          to_start = m.product s k.front_element;
          to_cycle = turn_square m (value m k.back) k.front_element;
          conjugate = split_conjugate law l linked ou ov eu ev k;
          has_mark = k.has_mark;
        }

  module _ (reached : AllReached m) {P : Pairs} {s e : ℕ} (c : Closed m P s e) where
    abbrev at : Conjugate m s e c.to_start c.to_cycle
    at = c.conjugate

    abbrev word_s : WordOf m s
    word_s = reached.word_of s at.left_linked.inside

    abbrev word_x : WordOf m at.x
    word_x = reached.word_of at.x at.x_inside

    abbrev word_y : WordOf m at.y
    word_y = reached.word_of at.y at.y_inside

    cycle_is : value m (word_x.word ++ word_y.word) ≡ element e
    cycle_is = value_two word_x.over word_y.over word_x.its_value word_y.its_value ∙ ap element at.around

    -- a pair of the closure is the values of some accepted lasso
    pub closed_accepted : AcceptedLasso m P s e
    closed_accepted = record {
      start = word_s.word;
      cycle = word_x.word ++ word_y.word;
      lasso = lasso_of m word_s.over (over_append word_x.over word_y.over) word_s.its_value cycle_is;
      start_value = word_s.its_value;
      cycle_value = cycle_is;
      accepted = record {
        cycle_some = value_some m (word_x.word ++ word_y.word) e cycle_is;
        start = word_s.word ++ word_x.word;
        cycle = word_y.word ++ word_x.word;
        start_over = over_append word_s.over word_x.over;
        cycle_over = over_append word_y.over word_x.over;
        same = same_turned word_s.word word_x.word word_y.word (value_some m (word_x.word ++ word_y.word) e cycle_is);
        element_of_start = c.to_start;
        cycle_element = c.to_cycle;
        start_value = value_two word_s.over word_x.over word_s.its_value word_x.its_value ∙ ap element at.moves;
        cycle_value = value_two word_y.over word_x.over word_y.its_value word_x.its_value ∙ ap element at.turned;
        has_mark = c.has_mark;
      };
    }

-- the linked pair (s·f, f), f the idempotent power of z: the values of a lasso (s, z) written with enough turns
abbrev pub settled_cycle : Morphism → ℕ → ℕ
settled_cycle m z = idempotent_of m.size m.product z

abbrev pub settled_start : Morphism → ℕ → ℕ → ℕ
settled_start m s z = m.product s (settled_cycle m z)

-- a lasso written so that its values are a linked pair
pub record Settled (m : Morphism) (u v : List ℕ) (s z : ℕ) : Type 0 where
  pub start : List ℕ
  pub cycle : List ℕ
  pub start_over : Over m.letters start
  pub cycle_over : Over m.letters cycle
  pub start_value : value m start ≡ element (settled_start m s z)
  pub cycle_value : value m cycle ≡ element (settled_cycle m z)
  pub same : (i : ℕ) → endless start cycle i ≡ endless u v i

module _ {m : Morphism} (law : Lawful m) where
  pub settled_linked : {s z : ℕ} → s < m.size → z < m.size → Linked m (settled_start m s z) (settled_cycle m z)
  settled_linked {s} {z} hs hz = record {
    inside = law.closed s (settled_cycle m z) hs (idempotent_inside (semigroup law) hz);
    idempotent = record { inside = idempotent_inside (semigroup law) hz; square = idempotent_square (semigroup law) hz };
    stays =
        law.associative s (settled_cycle m z) (settled_cycle m z) hs (idempotent_inside (semigroup law) hz) (idempotent_inside (semigroup law) hz)
        ∙ ap (m.product s) (idempotent_square (semigroup law) hz);
  }

  -- a linked pair is the settled pair of its values
  pub settled_same : {s e : ℕ} → Linked m s e → (settled_start m s e ≡ s) × (settled_cycle m e ≡ e)
  settled_same {s} {e} l =
      let q = idempotent_self (semigroup law) l.idempotent.inside l.idempotent.square in
      (ap (m.product s) q ∙ l.stays, q)

  -- every lasso can be written so
  pub settle_strength : {u v : List ℕ} {s z : ℕ} → Over m.letters u → Over m.letters v → value m u ≡ element s → value m v ≡ element z → Settled m u v s z
  unfolding idempotent_of
  settle_strength {u} {v} {s} {z} ou ov eu ev = record {
    start = u ++ repeat (suc σ) v;
    cycle = repeat (suc σ) v;
    start_over = over_append ou (repeat_over (suc σ) ov);
    cycle_over = repeat_over (suc σ) ov;
    start_value =
        value_then_repeat law ou ov eu ev (inside_of law ou eu) (inside_of law ov ev) (suc σ)
        ∙ ap element (sym (times_power (semigroup law) (inside_of law ou eu) (inside_of law ov ev) σ));
    cycle_value = value_repeat law ov ev (inside_of law ov ev) σ;
    same = same_unrolled_repeated u v (suc σ) (suc σ) (value_some m v z ev) (omega arith);
  }
    where
      σ : ℕ
      σ = settling m.size m.product z

-- every lasso whose values are in the closure is accepted
pub record AllAccepted (m : Morphism) (P : Pairs) : Type 0 where
  pub accepted : {s e : ℕ} {u v : List ℕ} → Closed m P s e → Over m.letters u → Over m.letters v → value m u ≡ element s → value m v ≡ element e → Accepts m P u v

module _ {m : Morphism} (law : Lawful m) {P : Pairs} (linked : LinkedOnly m P) where
  -- a strong marking accepts every lasso with values in the closure
  pub strong_all : AllReached m → Strong m P → AllAccepted m P
  strong_all reached strong = record {
    accepted = λ {s} {e} {u} {v} c ou ov eu ev.
        (let a = closed_accepted law reached c in
        (strong.both_or_neither a.start a.cycle u v a.lasso (lasso_of m ou ov eu ev) (a.start_value ∙ sym eu) (a.cycle_value ∙ sym ev)).0 a.accepted);
  }

  -- an accepted lasso has its settled values in the closure
  pub accepted_settled : {u v : List ℕ} {s z : ℕ} → Over m.letters u → Over m.letters v → value m u ≡ element s → value m v ≡ element z
      → Accepts m P u v → Closed m P (settled_start m s z) (settled_cycle m z)
  accepted_settled {u} {v} {s} {z} ou ov eu ev a =
      let t = settle_strength law ou ov eu ev in
      accepted_closed law linked (settled_linked law (inside_of law ou eu) (inside_of law ov ev)) t.start_over t.cycle_over t.start_value t.cycle_value
      (accepts_same (value_some m t.cycle (settled_cycle m z) t.cycle_value) (λ i. sym (t.same i)) a)

  -- and where all lassos with values in the closure are accepted, one with its settled values there is
  pub settled_accepted : AllAccepted m P → {u v : List ℕ} {s z : ℕ} → Over m.letters u → Over m.letters v → value m u ≡ element s → value m v ≡ element z
      → Closed m P (settled_start m s z) (settled_cycle m z) → Accepts m P u v
  settled_accepted all {u} {v} {s} {z} ou ov eu ev c =
      let t = settle_strength law ou ov eu ev in
      accepts_same (value_some m v z ev) t.same (all.accepted c t.start_over t.cycle_over t.start_value t.cycle_value)

  one_way : AllAccepted m P → {u v u' v' : List ℕ} → Lasso m.letters u v → Lasso m.letters u' v'
      → value m u ≡ value m u' → value m v ≡ value m v' → Accepts m P u v → Accepts m P u' v'
  one_way all {u} {v} {u'} {v'} k k' eu ev a =
      let l = lasso_started k in
      let l' = lasso_started k' in
      let values = started_values law k in
      (started_accepts u' v' k'.cycle_some).0
      (settled_accepted all l'.start_over l'.cycle_over (sym (equal_started m u v u' v' eu ev) ∙ values.start.is) (sym ev ∙ values.cycle.is)
      (accepted_settled l.start_over l.cycle_over values.start.is values.cycle.is ((started_accepts u v k.cycle_some).1 a)))

  -- where they all are, the marking is strong
  pub all_strong : AllAccepted m P → Strong m P
  all_strong all = record {
    both_or_neither = λ u v u' v' k k' eu ev. (one_way all k k' eu ev, one_way all k' k (sym eu) (sym ev));
  }
