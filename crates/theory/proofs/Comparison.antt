-- The search of Escapes as a test that computes: it runs over lists of states, with (n+1)·(n+1) codes for n elements. It
-- passes exactly if some cycle escapes, and then one does with fewer letters than there are codes. Assumes nothing.
use Prim.Native.Nat.{ℕ, ◌+◌, ◌*◌, ◌-◌, ◌/◌, ◌%◌, ◌≤◌, ◌<◌}
use mathlib.Core.Path.{◌≡◌, refl, sym, ap, ◌∙◌, subst}
use mathlib.Core.Bool.{Bool, true, false, ◌&&◌}
use mathlib.Core.List.Memᴰ
use mathlib.Core.List.{List, [], Memᴰ}
use native.Mathlib.Omega.{arith}
use lib.Arith.{digits_lt, digits_div, digits_mod}
use lib.ListN.{length}
use lib.Dec.{T}
use Rattle.finite.proofs.Tests.{T_and, T_and_left, T_and_right, T_false}
use Rattle.finite.specs.Select.{select}
use Rattle.finite.proofs.Select.{Selected, select_intro, select_elim}
use Rattle.finite.proofs.Worklist.{Reached, Reachable, Coding}
use Rattle.finite.proofs.Explore.{Equality, explore}
use Rattle.finite.proofs.Explored.{NextIn}
use Rattle.theory.specs.Rules.{Morphism, Lawful, Pairs, Value, none, element, join}
use Rattle.theory.proofs.Values.{Inside, value_inside}
use Rattle.theory.proofs.Splits.{turn_square}
use Rattle.theory.proofs.Codes.{same_value, value_equality, value_code, value_coded, value_code_below, value_at_code, value_at_inside}
use Rattle.theory.proofs.Searches.{some_in, Hit, hit_elim, hit_intro, coding_of, reached_map}
use Rattle.theory.proofs.Escapes.{Escapes, State, Begins, Moves, split_state, Known, known_escape, ends_escapes, escapes_reached}

-- a cycle that escapes, with fewer letters than there are codes of states
pub record ShortEscape (m : Morphism) (P P' : Pairs) (s : ℕ) : Type 0 where
  pub cycle : List ℕ
  pub escapes : Escapes m P P' s cycle
  pub short : length cycle ≤ (m.size + 1) * (m.size + 1) - 1

-- the two states are equal
unfoldable pub same_state : State → State → Bool
same_state x y =
    let backs = same_value x.back y.back in
    same_value x.front y.front && backs

pub state_equality : Equality same_state
unfolding same_state
state_equality = record { sound = sound; complete = complete }
  where
    sound : (x y : State) → T (same_state x y) → x ≡ y
    sound x y t =
        let p = value_equality.sound x.front y.front (T_and_left (same_value x.front y.front) _ t) in
        let q = value_equality.sound x.back y.back (T_and_right (same_value x.front y.front) _ t) in
        λ i. split_state (p i) (q i)

    complete : (x y : State) → x ≡ y → T (same_state x y)
    complete x y e =
        T_and (same_value x.front y.front) _ (value_equality.complete x.front y.front (ap (λ (z : State). z.front) e))
        (value_equality.complete x.back y.back (ap (λ (z : State). z.back) e))

-- the number of a state of n elements, below (n+1)·(n+1), and the state with this number
unfoldable pub state_code_lem : ℕ → State → ℕ
state_code_lem n x = value_code n x.front * (n + 1) + value_code n x.back

unfoldable pub state_at_lem : ℕ → ℕ → State
state_at_lem n c = split_state (value_coded n (c / (n + 1))) (value_coded n (c % (n + 1)))

-- each marked cycle value in front, and nothing behind
unfoldable pub search_starts : Morphism → Pairs → ℕ → List State
search_starts m P s = select m.size (P s) (λ e. split_state (element e) none)

-- the fronts that make f with one more letter a at their end, where the split at f is not marked
unfoldable pub next_unmarked : Morphism → ℕ → ℕ → Value → Bool → List State
next_unmarked m a f y true = []
next_unmarked m a f y false =
    let letter = element (m.image a) in
    let back = join m letter y in
    select (m.size + 1) (λ c. same_value (join m (value_coded m.size c) letter) (element f)) (λ c. split_state (value_coded m.size c) back)

-- the states that follow by the letter a; none where nothing is in front
unfoldable pub next_from : Morphism → Pairs → ℕ → ℕ → Value → Value → List State
next_from m P' s a none y = []
next_from m P' s a (element f) y = next_unmarked m a f y (P' (m.product s f) (turn_square m y f))

unfoldable pub search_next : Morphism → Pairs → ℕ → ℕ → State → List State
search_next m P' s a x = next_from m P' s a x.front x.back

-- nothing is in front
unfoldable pub ended : State → Bool
ended x = same_value x.front none

-- the states that the search reaches
unfoldable pub search_states : Morphism → Pairs → Pairs → ℕ → List State
search_states m P P' s = explore same_state (search_starts m P s) (search_next m P' s) m.letters ((m.size + 1) * (m.size + 1))

-- one of them ends the search
unfoldable pub escapes_test : Morphism → Pairs → Pairs → ℕ → Bool
escapes_test m P P' s = some_in ended (search_states m P P' s)

module _ (m : Morphism) (P P' : Pairs) (s : ℕ) where
  -- the listed starts are those of the search
  listed_begins : (x : State) → Memᴰ x (search_starts m P s) → Begins m P s x
  unfolding search_starts
  listed_begins x h = go (select_elim (P s) (λ e. split_state (element e) none) m.size x h)
    where
      go : Selected m.size (P s) (λ e. split_state (element e) none) x → Begins m P s x
      go f = record {
        cycle_element = f.at;
        inside = f.below;
        has_mark = f.passes;
        all_front = ap (λ (z : State). z.front) (sym f.same);
        no_back = ap (λ (z : State). z.back) (sym f.same);
      }

  begins_listed : (x : State) → Begins m P s x → Memᴰ x (search_starts m P s)
  unfolding search_starts
  begins_listed x b = select_intro (P s) (λ e. split_state (element e) none) (record {
    at = b.cycle_element;
    below = b.inside;
    passes = b.has_mark;
    same = λ i. split_state (sym b.all_front i) (sym b.no_back i);
  })

  module _ (a : ℕ) (x y : State) where
    abbrev letter : Value
    letter = element (m.image a)

    -- the fronts that a step may leave, by number
    abbrev fits : ℕ → ℕ → Bool
    fits f c = same_value (join m (value_coded m.size c) letter) (element f)

    abbrev then : ℕ → State
    then c = split_state (value_coded m.size c) (join m letter x.back)

    -- the listed steps are those of the search
    listed_moves : NextIn (search_next m P' s) m.letters a x y → Moves m P' s a x y
    unfolding search_next next_from next_unmarked
    listed_moves n = by_front x.front refl n.member
      where
        selected : (f : ℕ) → x.front ≡ element f → P' (m.product s f) (turn_square m x.back f) ≡ false
            → Selected (m.size + 1) (fits f) then y → Moves m P' s a x y
        selected f e u h = record {
          letter = n.letter;
          front_element = f;
          has_front = e;
          unmarked = λ t. subst T u t;
          inside = subst (λ (z : State). Inside m z.front) h.same (value_at_inside m h.at);
          front_less =
              ap (λ (z : State). join m z.front letter) (sym h.same)
              ∙ value_equality.sound (join m (value_coded m.size h.at) letter) (element f) h.passes;
          back_more = ap (λ (z : State). z.back) (sym h.same);
        }

        by_mark : (f : ℕ) → x.front ≡ element f → (b : Bool) → P' (m.product s f) (turn_square m x.back f) ≡ b
            → Memᴰ y (next_unmarked m a f x.back b) → Moves m P' s a x y
        by_mark f e true u h = absurd (Memᴰ.not-nil h)
        by_mark f e false u h = selected f e u (select_elim (fits f) then (m.size + 1) y h)

        by_front : (v : Value) → x.front ≡ v → Memᴰ y (next_from m P' s a v x.back) → Moves m P' s a x y
        by_front none e h = absurd (Memᴰ.not-nil h)
        by_front (element f) e h = by_mark f e (P' (m.product s f) (turn_square m x.back f)) refl h

    moves_listed : Moves m P' s a x y → NextIn (search_next m P' s) m.letters a x y
    unfolding search_next next_from next_unmarked
    moves_listed g = record {
      letter = g.letter;
      member = rw (g.has_front, T_false (P' (m.product s g.front_element) (turn_square m x.back g.front_element)) g.unmarked)
          (select_intro (fits g.front_element) then (record {
            at = value_code m.size y.front;
            below = value_code_below g.inside;
            passes = rw (value_at_code g.inside) (value_equality.complete (join m y.front letter) (element g.front_element) g.front_less);
            same = λ i. split_state (value_at_code g.inside i) (sym g.back_more i);
          }));
    }

abbrev Starts : Morphism → Pairs → ℕ → State → Type 0
Starts m P s x = Memᴰ x (search_starts m P s)

abbrev Steps : Morphism → Pairs → ℕ → ℕ → State → State → Type 0
Steps m P' s = NextIn (search_next m P' s) m.letters

module _ {m : Morphism} (law : Lawful m) (P P' : Pairs) (s : ℕ) where
  listed_reached : {w : List ℕ} {x : State} → Reached (Starts m P s) (Steps m P' s) w x → Reached (Begins m P s) (Moves m P' s) w x
  listed_reached = reached_map (listed_begins m P P' s) (listed_moves m P P' s)

  reached_listed : {w : List ℕ} {x : State} → Reached (Begins m P s) (Moves m P' s) w x → Reached (Starts m P s) (Steps m P' s) w x
  reached_listed = reached_map (begins_listed m P P' s) (moves_listed m P P' s)

  module _ {x : State} (r : Reachable (Starts m P s) (Steps m P' s) x) where
    knows : Known m P P' s r.word x
    knows = known_escape law (listed_reached r.reached)

    front_inside : Inside m x.front
    front_inside = knows.inside

    back_inside : Inside m x.back
    back_inside = subst (Inside m) knows.back_value (value_inside law knows.over)

    code_below : state_code_lem m.size x < (m.size + 1) * (m.size + 1)
    unfolding state_code_lem
    code_below = digits_lt (value_code_below front_inside) (value_code_below back_inside)

    code_back : state_at_lem m.size (state_code_lem m.size x) ≡ x
    unfolding state_code_lem state_at_lem
    code_back =
        rw (
          digits_div (value_code m.size x.front) (value_code_below back_inside),
          digits_mod (value_code m.size x.front) (value_code_below back_inside),
        )
        (λ i. split_state (value_at_code front_inside i) (value_at_code back_inside i))

  coding : Coding (Starts m P s) (Steps m P' s) (state_code_lem m.size) ((m.size + 1) * (m.size + 1))
  coding = coding_of (state_at_lem m.size) (λ x r. code_below r) (λ x r. code_back r)

  -- where the test passes, a short cycle escapes
  pub escapes_elim : T (escapes_test m P P' s) → ShortEscape m P P' s
  unfolding escapes_test search_states ended
  escapes_elim t = go (hit_elim state_equality coding ((m.size + 1) * (m.size + 1)) (omega arith) ended t)
    where
      go : Hit (Starts m P s) (Steps m P' s) ended ((m.size + 1) * (m.size + 1)) → ShortEscape m P P' s
      go f = record {
        cycle = f.word;
        escapes = ends_escapes law (listed_reached f.reached) (value_equality.sound f.state.front none f.passes);
        short = omega (arith, f.short);
      }

-- where a cycle escapes, the test passes
pub escapes_intro : {m : Morphism} {P P' : Pairs} {s : ℕ} {v : List ℕ} → Lawful m → Escapes m P P' s v → T (escapes_test m P P' s)
unfolding escapes_test search_states ended
escapes_intro {m} {P} {P'} {s} law e =
    hit_intro state_equality (coding law P P' s) ((m.size + 1) * (m.size + 1)) (omega arith) ended
    (reached_listed law P P' s (escapes_reached law e)) (value_equality.complete none none refl)
