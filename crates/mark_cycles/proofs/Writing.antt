-- The cycle of an entry while it is written, letter by letter from its front. Assumes nothing.
use Prim.Native.Nat.{ℕ, suc, ◌+◌, ◌≤◌, ◌<◌}
use mathlib.Core.Path.{◌≡◌, refl, sym, ap, ◌∙◌, subst}
use mathlib.Core.List.{List, [], ◌∷◌, ◌++◌, append_assoc, append-nil}
use native.Mathlib.Omega.{arith}
use lib.ListN.{length, get_or, drop, set, length-set, length-append}
use lib.Seq.{drop-cons, set_at}
use Rattle.mark_search_list.specs.Queue.{back_at, letter_at, parent_at}
use Rattle.scratch.specs.Map.{backs_base, letters_base}
use Rattle.mark_cycles.specs.Cycles.{Spells, spells_none, spells_more, CycleNeeds, CycleWritten}

-- the letters from the entry `start` to the entry i were written
pub record CycleSoFar (n : ℕ) (scratch : List ℕ) (start : ℕ) (entry now : List ℕ) (letters i : ℕ) : Type 0 where
  pub front : List ℕ
  pub counts : letters ≡ length front
  pub same_length : length now ≡ length entry
  pub written : now ≡ front ++ drop letters entry
  pub short : letters + i ≤ start
  pub whole : (w : List ℕ) → Spells n scratch i w → Spells n scratch start (front ++ w)

module _ {n : ℕ} {scratch : List ℕ} {start : ℕ} {entry : List ℕ} (place : CycleNeeds n scratch start entry) where
  -- none was
  pub cycle_start : CycleSoFar n scratch start entry entry 0 start
  cycle_start = record { front = []; counts = refl; same_length = refl; written = refl; short = omega arith; whole = λ w s. s }

  module _ {now : List ℕ} {letters i : ℕ} (k : CycleSoFar n scratch start entry now letters i) where
    -- an entry before the first
    pub still_few : i < 4225
    still_few = omega (arith, k.short, place.few)

    module _ (some : get_or scratch (backs_base + i) 0 ≡ n → ⊥) where
      has_back : back_at scratch i ≡ n → ⊥
      unfolding back_at
      has_back = some

      -- there is an entry before it
      pub parent_less : parent_at scratch i < i
      parent_less = place.parents i (omega (arith, k.short)) has_back

      pub letter_room : letters < length now
      letter_room = omega (arith, k.short, k.same_length, place.few, place.long, parent_less)

      stored : set now letters (letter_at scratch i) ≡ (k.front ++ (letter_at scratch i ∷ [])) ++ drop (letters + 1) entry
      stored =
          ap (λ (l : List ℕ). set l letters (letter_at scratch i)) (k.written ∙ ap (λ (l : List ℕ). k.front ++ l) (drop-cons entry letters 0 (omega (arith, letter_room, k.same_length))))
          ∙ set_at k.front (get_or entry letters 0) (drop (suc letters) entry) (letter_at scratch i) letters (sym k.counts)
          ∙ sym (append_assoc k.front (letter_at scratch i ∷ []) (drop (suc letters) entry))
          ∙ ap (λ (j : ℕ). (k.front ++ (letter_at scratch i ∷ [])) ++ drop j entry) (let e : suc letters ≡ letters + 1 = omega arith in e)

      -- one letter more
      pub cycle_more : {r : ℕ} → r ≡ parent_at scratch i → CycleSoFar n scratch start entry (set now letters (get_or scratch (letters_base + i) 0)) (letters + 1) r
      unfolding letter_at
      cycle_more {r} e = record {
        front = k.front ++ (letter_at scratch i ∷ []);
        counts = omega (arith, k.counts, length-append k.front (letter_at scratch i ∷ []));
        same_length = length-set now letters (letter_at scratch i) ∙ k.same_length;
        written = stored;
        short = omega (arith, k.short, parent_less);
        whole = λ w s. subst (Spells n scratch start) (sym (append_assoc k.front (letter_at scratch i ∷ []) w))
            (k.whole (letter_at scratch i ∷ w) (spells_more has_back (subst (λ (j : ℕ). Spells n scratch j w) e s)));
      }

    -- a start: the cycle is whole
    pub cycle_done : get_or scratch (backs_base + i) 0 ≡ n → CycleWritten n scratch start entry now letters
    unfolding back_at
    cycle_done e = record {
      word = k.front;
      spells = subst (Spells n scratch start) (append-nil k.front) (k.whole [] (spells_none e));
      short = omega (arith, k.short, k.counts);
      written = record { holds = k.written ∙ ap (λ (j : ℕ). k.front ++ drop j entry) k.counts; counts = k.counts };
    }
