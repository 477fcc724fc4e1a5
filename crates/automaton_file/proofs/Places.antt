-- The transitions where the code finds them: by the place of their section and their count, and by the index that was computed for
-- one. Assumes nothing.
use Prim.Native.Nat.{ℕ, ◌+◌, ◌*◌, ◌≤◌, ◌<◌}
use mathlib.Core.Path.{◌≡◌, sym, ap, subst}
use mathlib.Core.List.{List}
use native.Mathlib.Omega.{arith}
use lib.ListN.{length, get_or, set}
use Rattle.answer.specs.declared.Refusal.TheVariants.{Duplicate}
use Rattle.answer.specs.Checks.{passed, refused, FirstFailure}
use Rattle.formats.specs.AutomatonFile.{states_of, automaton_letters_of, transitions_of, transition_at, from_of, letter_of, to_of, has_transition, automaton_end}
use Rattle.formats.specs.AutomatonChecks.{repeated_checks}
use Rattle.scratch.specs.Map.{transition_table_size}
use Rattle.automaton_file.specs.Answers.{index_of, TransitionsNeeds, TransitionsLaid}
use Rattle.automaton_file.proofs.RepeatedOrder.{Stood, Fresh, AllFresh, repeated_first, fresh_all}
use Rattle.automaton_file.proofs.Laid.{among_first, index_below, index_in, index_seen, index_new, laid_next, laid_all}

module _ {bytes : List ℕ} {at count : ℕ} (t : TransitionsNeeds bytes at count) where
  module _ (i : ℕ) (h : i < count) where
    in_count : i < transitions_of bytes
    in_count = omega (arith, t.is_count)

    place_is : at + (2 + 3 * i) ≡ transition_at bytes i
    unfolding transition_at
    place_is = ap (λ (x : ℕ). x + (2 + 3 * i)) t.is_place

    -- the three bytes of the i-th transition stand within the file
    pub place_inside : at + (2 + 3 * i) + 2 < length bytes
    unfolding automaton_end
    place_inside = omega (arith, t.is_place, t.is_count, t.sections.long)

    -- the index that they make
    pub index_is : get_or bytes (at + (2 + 3 * i)) 0 * 96 + (get_or bytes (at + (2 + 3 * i) + 1) 0 * 6 + get_or bytes (at + (2 + 3 * i) + 2) 0) ≡ index_of bytes i
    unfolding from_of letter_of to_of
    index_is = ap (λ (x : ℕ). get_or bytes x 0 * 96 + (get_or bytes (x + 1) 0 * 6 + get_or bytes (x + 2) 0)) place_is

    pub index_small : get_or bytes (at + (2 + 3 * i)) 0 * 96 + (get_or bytes (at + (2 + 3 * i) + 1) 0 * 6 + get_or bytes (at + (2 + 3 * i) + 2) 0) < transition_table_size
    index_small =
        let g = t.sections in
        subst (λ (x : ℕ). x < transition_table_size) (sym index_is)
        (index_below g.states_small g.letters_small (g.from_below i in_count) (g.letter_below i in_count) (g.to_below i in_count))

    -- the i-th transition is the first that stood before
    pub repeated_here : AllFresh bytes i → Stood bytes i → (input : ℕ)
        → FirstFailure (repeated_checks input bytes 0 (transitions_of bytes)) (refused Duplicate input (at + (2 + 3 * i)))
    repeated_here all s input =
        subst (λ (x : ℕ). FirstFailure (repeated_checks input bytes 0 (transitions_of bytes)) (refused Duplicate input x)) (sym place_is)
        (repeated_first input (transitions_of bytes) i in_count all s)

    module _ {s : ℕ} (e : s ≡ index_of bytes i) {size : ℕ} {now : List ℕ} (l : TransitionsLaid (among_first bytes i) (states_of bytes) (automaton_letters_of bytes) size now) where
      pub in_table : transition_table_size ≤ size → s < length now
      in_table r = subst (λ (x : ℕ). x < length now) (sym e) (index_in bytes t.sections i in_count l r)

      pub seen_here : (get_or now s 0 ≡ 0 → ⊥) → Stood bytes i
      seen_here f = index_seen bytes t.sections i in_count l (λ z. f (subst (λ (x : ℕ). get_or now x 0 ≡ 0) (sym e) z))

      pub new_here : get_or now s 0 ≡ 0 → Fresh bytes i
      new_here z = index_new bytes t.sections i in_count l (subst (λ (x : ℕ). get_or now x 0 ≡ 0) e z)

      pub laid_here : s < length now → TransitionsLaid (among_first bytes (i + 1)) (states_of bytes) (automaton_letters_of bytes) size (set now s 1)
      laid_here h' =
          subst (λ (x : ℕ). TransitionsLaid (among_first bytes (i + 1)) (states_of bytes) (automaton_letters_of bytes) size (set now x 1)) (sym e)
          (laid_next bytes t.sections i in_count l (subst (λ (x : ℕ). x < length now) e h'))

  module _ {i : ℕ} (above : count ≤ i) (below : i ≤ count) where
    all_gone : i ≡ transitions_of bytes
    all_gone = omega (arith, t.is_count)

    -- all transitions are new
    pub none_repeated : AllFresh bytes i → (input : ℕ) → FirstFailure (repeated_checks input bytes 0 (transitions_of bytes)) passed
    none_repeated all input = fresh_all input (transitions_of bytes) (subst (AllFresh bytes) all_gone all)

    -- and all of them are laid out
    pub laid_whole : {m k size : ℕ} {table : List ℕ} → TransitionsLaid (among_first bytes i) m k size table → TransitionsLaid (has_transition bytes) m k size table
    laid_whole l = laid_all bytes all_gone l
