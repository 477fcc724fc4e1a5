-- The cycle of an entry in the theory's search: its letters reach the state of the entry, and those of an entry with nothing in
-- front escape. Assumes nothing.
use Prim.Native.Nat.{ℕ, ◌+◌, ◌*◌, ◌-◌, ◌≤◌, ◌<◌}
use mathlib.Core.Path.{◌≡◌, sym, ap, ◌∙◌}
use mathlib.Core.List.{List, [], ◌∷◌}
use native.Mathlib.Omega.{arith}
use native.Mathlib.Decide.{ℕ_discrete}
use lib.ListN.{length}
use lib.Dec.{T}
use Rattle.finite.proofs.Numbers.{strong_induction}
use Rattle.finite.proofs.Worklist.{Reached, begin, onward}
use Rattle.theory.specs.Rules.{Morphism, Lawful, Pairs, element}
use Rattle.theory.proofs.Codes.{value_at_inside}
use Rattle.theory.proofs.Escapes.{Escapes, Begins, Moves, ends_escapes}
use Rattle.theory.proofs.Comparison.{ShortEscape}
use Rattle.scratch.specs.Preimages.{after_letter}
use Rattle.mark_search_list.specs.Queue.{front_at, back_at, letter_at, parent_at}
use Rattle.mark_search_letters.specs.Steps.{before_letter}
use Rattle.mark_search_visit.specs.Visits.{split_marked}
use Rattle.mark_search_run.specs.Search.{Source, a_start, a_step, Entries, EndedAt}
use Rattle.mark_search_list.proofs.Growth.{queue_few, queue_bound}
use Rattle.mark_search_run.proofs.Meeting.{state_at, value_at_element, value_at_none, after_join, before_join, before_below}
use Rattle.mark_cycles.specs.Cycles.{Spells, spells_none, spells_more, CycleNeeds}

-- a cycle that an entry spells, with no more letters than there are entries before it
pub record EntrySpelled (n : ℕ) (scratch : List ℕ) (i : ℕ) : Type 0 where
  pub word : List ℕ
  pub spells : Spells n scratch i word
  pub short : length word ≤ i

module _ {m : Morphism} (law : Lawful m) {P P' : Pairs} {s : ℕ} {scratch : List ℕ} {count : ℕ} (k : Entries m P P' s scratch count) where
  -- an entry that was found by a letter has an element behind
  step_back : (i : ℕ) → letter_at scratch i < m.letters → back_at scratch i ≡ before_letter m (letter_at scratch i) (back_at scratch (parent_at scratch i)) → back_at scratch i < m.size
  step_back i l e = rw e (before_below law _ _ l)

  -- its parent comes before it
  pub parent_before : (i : ℕ) → i < count → (back_at scratch i ≡ m.size → ⊥) → parent_at scratch i < i
  parent_before i h f = go (k.source i h)
    where
      go : Source m P P' s scratch i → parent_at scratch i < i
      go (a_start fr t b) = absurd (f b)
      go (a_step p l fr a b u) = p

  begins : (i : ℕ) → front_at scratch i < m.size → T (P s (front_at scratch i)) → back_at scratch i ≡ m.size → Begins m P s (state_at m.size scratch i)
  unfolding state_at
  begins i f t b = record {
    cycle_element = front_at scratch i;
    inside = f;
    has_mark = t;
    all_front = value_at_element m.size (front_at scratch i) f;
    no_back = value_at_none m.size (back_at scratch i) (omega (arith, b));
  }

  moves : (i : ℕ) → letter_at scratch i < m.letters → front_at scratch (parent_at scratch i) < m.size
      → after_letter m (letter_at scratch i) (front_at scratch i) ≡ front_at scratch (parent_at scratch i)
      → back_at scratch i ≡ before_letter m (letter_at scratch i) (back_at scratch (parent_at scratch i))
      → (T (split_marked m P' s (front_at scratch (parent_at scratch i)) (back_at scratch (parent_at scratch i))) → ⊥)
      → Moves m P' s (letter_at scratch i) (state_at m.size scratch (parent_at scratch i)) (state_at m.size scratch i)
  unfolding state_at split_marked
  moves i l f a b u = record {
    letter = l;
    front_element = front_at scratch (parent_at scratch i);
    has_front = value_at_element m.size _ f;
    unmarked = u;
    inside = value_at_inside m (front_at scratch i);
    front_less = after_join m (letter_at scratch i) (front_at scratch i) ∙ ap element a;
    back_more = value_at_element m.size (back_at scratch i) (step_back i l b) ∙ ap element b ∙ sym (before_join m (letter_at scratch i) (back_at scratch (parent_at scratch i)));
  }

  -- the letters of an entry reach its state
  pub spelled_reached : {i : ℕ} {w : List ℕ} → i < count → Spells m.size scratch i w → Reached (Begins m P s) (Moves m P' s) w (state_at m.size scratch i)
  spelled_reached {i} h (spells_none e) = go (k.source i h)
    where
      go : Source m P P' s scratch i → Reached (Begins m P s) (Moves m P' s) [] (state_at m.size scratch i)
      go (a_start f t b) = begin (begins i f t b)
      go (a_step p l f a b u) = absurd (let g = step_back i l b in omega arith)
  spelled_reached {i} h (spells_more {w = w} f r) = go (λ l. spelled_reached l r) (k.source i h)
    where
      go : (parent_at scratch i < count → Reached (Begins m P s) (Moves m P' s) w (state_at m.size scratch (parent_at scratch i))) → Source m P P' s scratch i
          → Reached (Begins m P s) (Moves m P' s) (letter_at scratch i ∷ w) (state_at m.size scratch i)
      go rest (a_start fr t b) = absurd (f b)
      go rest (a_step p l fr a b u) = onward (letter_at scratch i) (rest (omega arith)) (moves i l fr a b u)

  -- every entry spells a cycle
  pub entry_spelled : (i : ℕ) → i < count → EntrySpelled m.size scratch i
  entry_spelled = strong_induction (λ i. i < count → EntrySpelled m.size scratch i) (λ i before h. go i before h (ℕ_discrete (back_at scratch i) m.size))
    where
      go : (i : ℕ) → ((j : ℕ) → j < i → j < count → EntrySpelled m.size scratch j) → i < count → Dec (back_at scratch i ≡ m.size) → EntrySpelled m.size scratch i
      go i before h (yes e) = record { word = []; spells = spells_none e; short = omega arith }
      go i before h (no f) =
          let p = parent_before i h f in
          let r = before (parent_at scratch i) p (omega arith) in
          record { word = letter_at scratch i ∷ r.word; spells = spells_more f r.spells; short = omega (arith, r.short) }

module _ {m : Morphism} (law : Lawful m) {P P' : Pairs} {s : ℕ} {scratch : List ℕ} {i : ℕ} (k : EndedAt m P P' s scratch i) where
  -- room for the cycle in a buffer for the longest
  pub cycle_place : {out : List ℕ} → 4224 ≤ length out → CycleNeeds m.size scratch i out
  cycle_place h = record {
    room = k.entries.queue.room;
    few = omega (arith, k.below, queue_few k.entries.queue);
    parents = λ j l f. parent_before law k.entries j (omega (arith, k.below)) f;
    long = h;
  }

  -- the letters of an entry with nothing in front are a cycle that escapes
  pub spelled_escapes : {w : List ℕ} → Spells m.size scratch i w → Escapes m P P' s w
  unfolding state_at
  spelled_escapes {w} r =
      ends_escapes law (spelled_reached law k.entries k.below r) (value_at_none m.size (front_at scratch i) (omega (arith, k.no_front)))

  -- and a short one
  pub ended_short : (l : ℕ) → l ≤ i → l ≤ (m.size + 1) * (m.size + 1) - 1
  ended_short l h = let b = queue_bound k.entries.queue in omega (arith, k.below)

  -- so there is one
  pub ended_escapes : ShortEscape m P P' s
  ended_escapes =
      let r = entry_spelled law k.entries i k.below in
      record { cycle = r.word; escapes = spelled_escapes r.spells; short = ended_short (length r.word) r.short }
