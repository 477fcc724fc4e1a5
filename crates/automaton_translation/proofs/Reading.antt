-- The automaton that a file means stands in the bytes of its states and in scratch once it was read. Assumes nothing.
use Prim.Native.Nat.{ℕ, zero, suc, ◌+◌, ◌-◌, ◌≤◌, ◌<◌}
use mathlib.Core.Path.{◌≡◌, refl, sym, ap, ◌∙◌}
use mathlib.Core.Bool.{Bool, true, false, ◌||◌}
use mathlib.Core.List.{List}
use native.Mathlib.Omega.{arith}
use lib.ListN.{length, get_or, take, drop}
use lib.Dec.{eqb, ltb}
use Rattle.automaton_file.specs.Answers.{one_if}
use Rattle.formats.specs.AutomatonFile.{states_of, kind_at, is_initial, is_final, has_transition, automaton_letters_at, transitions_at, automaton_end}
use Rattle.automaton_matrices.specs.Bytes.{initial_at, final_at, step_at, AutomatonAt}
use Rattle.automaton_matrix_search.specs.Lists.{ListNeeds, StandsHere}
use Rattle.scratch.proofs.Parts.{part_length, part_byte}
use Rattle.promises.specs.Automaton.{automaton_of}
use Rattle.automaton_translation.specs.Promise.{ReadHere}

-- "0 plain, 1 initial, 2 final, 3 both": the final kinds are those above 1
final_kind_lem : (kind : ℕ) → kind < 4 → (eqb kind 2 || eqb kind 3) ≡ ltb 1 kind
final_kind_lem zero h = refl
final_kind_lem (suc zero) h = refl
final_kind_lem (suc (suc zero)) h = refl
final_kind_lem (suc (suc (suc zero))) h = refl
final_kind_lem (suc (suc (suc (suc kind)))) h = absurd (let z : ⊥ = omega arith in z)

-- a byte of the transitions is not 0 exactly if there is one
one_there : (b : Bool) → b ≡ ltb 0 (one_if b)
one_there true = refl
one_there false = refl

module _ {bytes : List ℕ} {n k : ℕ} {out scratch : List ℕ} (r : ReadHere bytes n k out scratch) where
  abbrev kinds : List ℕ
  kinds = take (length bytes - 1) (drop 1 bytes)

  long : 1 + states_of bytes + 3 ≤ length bytes
  unfolding automaton_end transitions_at automaton_letters_at
  long = omega (arith, r.sections.long)

  kinds_length : length kinds ≡ length bytes - 1
  kinds_length = part_length bytes 1 (omega (arith, long))

  kind_byte : (p : ℕ) → p < states_of bytes → get_or kinds p 0 ≡ kind_at bytes p
  unfolding kind_at
  kind_byte p h = part_byte bytes 1 (omega (arith, long)) p (omega (arith, long))

  kinds_long : states_of bytes ≤ length kinds
  kinds_long = omega (arith, long, kinds_length)

  stands : AutomatonAt (automaton_of bytes) kinds scratch
  unfolding is_initial is_final initial_at final_at step_at
  stands = record {
    few_states = r.sections.states_small;
    few_letters = r.sections.letters_small;
    kinds_long = kinds_long;
    steps_long = omega (arith, r.room);
    initials = λ p h. ap (λ (b : ℕ). eqb b 1 || eqb b 3) (sym (kind_byte p h));
    finals = λ p h. final_kind_lem (kind_at bytes p) (r.sections.kinds p h) ∙ ap (ltb 1) (sym (kind_byte p h));
    transitions = λ p x q hp hx hq. one_there (has_transition bytes p x q) ∙ ap (ltb 0) (sym (r.laid.transition p x q hp hx hq));
  }

  pub read_stands : StandsHere (automaton_of bytes) (take (length bytes - 1) (drop 1 bytes)) n k scratch
  read_stands = record { stands = stands; states = sym r.states_are; letters = sym r.letters_are }

  pub read_place : ListNeeds (take (length bytes - 1) (drop 1 bytes)) n k scratch
  read_place = record {
    few_states = omega (arith, r.sections.states_small, r.states_are);
    few_letters = omega (arith, r.sections.letters_small, r.letters_are);
    kinds_long = omega (arith, kinds_long, r.states_are);
    room = r.room;
  }

  pub read_letters : 1 ≤ k
  read_letters = omega (arith, r.sections.letters_some, r.letters_are)

  pub read_some : 1 ≤ length bytes
  read_some = omega (arith, long)
