-- Where the worklist in scratch and the search of the theory meet: the entries are states that the theory's search reaches, and
-- once every entry was tried they are all of them. Assumes nothing.
use Prim.Native.Nat.{ℕ, ◌≤◌, ◌<◌}
use mathlib.Core.Path.{◌≡◌, refl, sym, ap, ◌∙◌, subst}
use mathlib.Core.Bool.{Bool, true, false, cond}
use mathlib.Core.Logic.{⊎_elim}
use mathlib.Core.List.{List}
use native.Mathlib.Omega.{arith}
use native.Mathlib.Nat.{le_refl}
use lib.Dec.{T, ltb}
use borrow.Author.Tests.{lt-ltb, le-ltb}
use Rattle.finite.proofs.Numbers.{le_or_lt}
use Rattle.finite.proofs.Worklist.{Entry, Closed, reached_entry}
use Rattle.theory.specs.Rules.{Morphism, Lawful, Marking, level, Value, none, element, join}
use Rattle.theory.proofs.Values.{element_apart, element_same}
use Rattle.theory.proofs.Codes.{value_coded, value_code, value_code_below, value_at_code}
use Rattle.theory.proofs.Turns.{turned}
use Rattle.theory.proofs.Splits.{turn_square}
use Rattle.theory.proofs.Escapes.{Escapes, State, Begins, Moves, split_state, escapes_reached}
use Rattle.scratch.specs.Map.{marks_from, MarkingAt}
use Rattle.scratch.proofs.Markings.{level_at}
use Rattle.scratch.specs.Preimages.{after_letter}
use Rattle.mark_search_list.specs.Queue.{front_at, back_at, HasState}
use Rattle.mark_search_letters.specs.Steps.{before_letter}
use Rattle.mark_search_visit.specs.Visits.{split_marked}
use Rattle.mark_search_run.specs.Search.{Source, a_start, a_step, Entries, Tried}
use Rattle.mark_search_letters.proofs.Values.{before_element, before_none}
use Rattle.mark_search_visit.proofs.Values.{turned_element, turned_none}

-- the state of an entry
unfoldable pub state_at : ℕ → List ℕ → ℕ → State
state_at n scratch i = split_state (value_coded n (front_at scratch i)) (value_coded n (back_at scratch i))

-- numbers of values
pub value_at_element : (n c : ℕ) → c < n → value_coded n c ≡ element c
unfolding value_coded
value_at_element n c h = rw (lt-ltb c n h)

pub value_at_none : (n c : ℕ) → n ≤ c → value_coded n c ≡ none
unfolding value_coded
value_at_none n c h = rw (le-ltb c n h)

module _ (m : Morphism) where
  -- a value and then a letter
  pub after_join : (a c : ℕ) → join m (value_coded m.size c) (element (m.image a)) ≡ element (after_letter m a c)
  unfolding value_coded after_letter join
  after_join a c = go (ltb c m.size)
    where
      go : (b : Bool) → join m (cond b (element c) none) (element (m.image a)) ≡ element (cond b (m.product c (m.image a)) (m.image a))
      go true = refl
      go false = refl

  -- a letter and then a value
  pub before_join : (a y : ℕ) → join m (element (m.image a)) (value_coded m.size y) ≡ element (before_letter m a y)
  unfolding value_coded before_letter join
  before_join a y = go (ltb y m.size)
    where
      go : (b : Bool) → join m (element (m.image a)) (cond b (element y) none) ≡ element (cond b (m.product (m.image a) y) (m.image a))
      go true = refl
      go false = refl

module _ {m : Morphism} (law : Lawful m) where
  -- a letter and then a value is an element
  pub before_below : (a y : ℕ) → a < m.letters → before_letter m a y < m.size
  before_below a y h = ⊎_elim (λ l. rw (before_none m a y l) (law.images a h))
      (λ l. rw (before_element m a y l) (law.closed (m.image a) y (law.images a h) l)) (le_or_lt m.size y)

  turned_below : (x y : ℕ) → x < m.size → turned m (value_coded m.size y) x < m.size
  turned_below x y h = ⊎_elim (λ l. rw (turned_none m x y l) h) (λ l. rw (turned_element m x y l) (law.closed y x l h)) (le_or_lt m.size y)

  -- the pair of a split is one of elements, so any marking that stands in the table says the same of it
  pub split_inside : (least : ℕ) {F : Marking} {scratch : List ℕ} {base s x : ℕ} (y : ℕ) → MarkingAt m.size F scratch base → s < m.size → x < m.size
      → split_marked m (level least F) s x y ≡ split_marked m (level least (marks_from scratch base)) s x y
  unfolding split_marked turn_square
  split_inside least {s = s} {x = x} y t hs hx =
      level_at least t (law.closed s x hs hx) (law.closed _ _ (turned_below x y hx) (turned_below x y hx))

-- the sources under other markings that stand in the tables
module _ {m : Morphism} (law : Lawful m) (least : ℕ) {F S : Marking} {first second s : ℕ} {entry : List ℕ} (hs : s < m.size)
    (t : MarkingAt m.size F entry first) (t' : MarkingAt m.size S entry second) where
  source_as : {scratch : List ℕ} {i : ℕ} → Source m (level least (marks_from entry first)) (level least (marks_from entry second)) s scratch i → Source m (level least F) (level least S) s scratch i
  source_as (a_start f k b) = a_start f (subst T (sym (level_at least t hs f)) k) b
  source_as (a_step p l f a b u) = a_step p l f a b (λ k. u (subst T (split_inside law least _ t' hs f) k))

  pub entries_as : {scratch : List ℕ} {count : ℕ} → Entries m (level least (marks_from entry first)) (level least (marks_from entry second)) s scratch count → Entries m (level least F) (level least S) s scratch count
  entries_as e = record { queue = e.queue; source = λ i h. source_as (e.source i h) }

  -- once every entry was tried, no cycle escapes
  module _ {scratch : List ℕ} {count : ℕ} (starts : (e : ℕ) → e < m.size → T (level least (marks_from entry first) s e) → HasState scratch count e m.size)
      (tried : (p : ℕ) → p < count → Tried m (level least (marks_from entry second)) s scratch count p) where
    abbrev state : ℕ → State
    state = state_at m.size scratch

    has_entry : {c y : ℕ} {x : State} → HasState scratch count c y → value_coded m.size c ≡ x.front → value_coded m.size y ≡ x.back → Entry state count x
    unfolding state_at
    has_entry h p q = record {
      at = h.at;
      below = h.below;
      same = λ i. split_state ((ap (value_coded m.size) h.front ∙ p) i) ((ap (value_coded m.size) h.back ∙ q) i);
    }

    closed : Closed (Begins m (level least F) s) (Moves m (level least S) s) state count
    unfolding state_at split_marked
    closed = record {
      starts = λ x b. has_entry (starts b.cycle_element b.inside (subst T (level_at least t hs b.inside) b.has_mark))
          (value_at_element m.size _ b.inside ∙ sym b.all_front) (value_at_none m.size _ (le_refl m.size) ∙ sym b.no_back);
      steps = λ i a y h g. step i a y h g (tried i h);
    }
      where
        step : (i a : ℕ) (y : State) → i < count → Moves m (level least S) s a (state_at m.size scratch i) y → Tried m (level least (marks_from entry second)) s scratch count i → Entry state count y
        step i a y h g k =
            let f : front_at scratch i ≡ g.front_element = element_same (sym (value_at_element m.size _ k.has_front) ∙ g.has_front) in
            let unmarked : T (split_marked m (level least (marks_from entry second)) s (front_at scratch i) (back_at scratch i)) → ⊥ =
            λ u. g.unmarked (subst T (ap (λ (x : ℕ). split_marked m (level least S) s x (back_at scratch i)) f) (subst T (sym (split_inside law least _ t' hs k.has_front)) u)) in
            let c = value_code m.size y.front in
            let below : c ≤ m.size = let e = value_code_below g.inside in omega arith in
            let after : after_letter m a c ≡ front_at scratch i =
            element_same (sym (after_join m a c) ∙ ap (λ (v : Value). join m v (element (m.image a))) (value_at_code g.inside) ∙ g.front_less ∙ ap element (sym f)) in
            has_entry ((k.takes unmarked a g.letter).holds c below after) (value_at_code g.inside)
            (value_at_element m.size _ (before_below law a _ g.letter) ∙ sym (before_join m a _) ∙ sym g.back_more)

    pub no_escape : (v : List ℕ) → Escapes m (level least F) (level least S) s v → ⊥
    unfolding state_at
    no_escape v k =
        let e = reached_entry closed (escapes_reached law k) in
        element_apart (sym (value_at_element m.size _ (tried e.at e.below).has_front) ∙ ap (λ (x : State). x.front) e.same)
