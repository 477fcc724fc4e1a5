-- What each way to the kind of a state shows. Assumes nothing.
use Prim.Native.Nat.{ℕ, ◌+◌, ◌*◌, ◌≤◌, ◌<◌}
use mathlib.Core.Path.{◌≡◌, refl, sym, ap, ap₂, subst, ◌∙◌}
use mathlib.Core.Bool.{Bool, true, false, not, cond, ◌&&◌, true≢false}
use mathlib.Core.Logic.{◌⊎◌, ⊎_elim}
use mathlib.Core.List.{List, [], ◌∷◌}
use native.Mathlib.Omega.{arith}
use lib.Dec.{leb}
use lib.ListN.{get_or}
use borrow.Author.Tests.{le-leb, lt-leb}
use Rattle.answer.specs.declared.Refusal.TheVariants.{EntryOutOfRange, NoSuchState}
use Rattle.answer.specs.Checks.{passed, Verdict, FirstFailure}
use Rattle.answer.proofs.Order.{first_passes, first_fails, none_left}
use Rattle.theory.specs.Rules.{Morphism, Marking, level}
use Rattle.theory.proofs.Values.{Inside, element_inside}
use Rattle.buchi.specs.Automata.{Automaton}
use Rattle.buchi.specs.RuleAutomaton.{is_state, is_pair, is_none}
use Rattle.buchi.proofs.RuleStates.{initial_at_lem, final_at_lem}
use Rattle.scratch.specs.Map.{marks_from, MarkingAt}
use Rattle.promises.specs.declared.StateKind.TheVariants.{Plain, Initial, Final, Refused}
use Rattle.promises.specs.Monitor.{no_value, value_of}
use Rattle.promises.specs.RuleAutomaton.{automaton_for, state_of, least_check, state_check, kind_own_checks, kind_number, KindIs}
use Rattle.promises.proofs.MonitorValues.{value_none, value_element}
use Rattle.rule_automaton.specs.Steps.{KindSaid}
use Rattle.rule_automaton.proofs.Values.{found_state, said_state, said_none}

-- the number of a kind by the two tests
kind_number_lem : (a : Automaton) (q : ℕ) {i f : Bool} → a.initial q ≡ i → a.final q ≡ f → kind_number a q ≡ cond i 1 0 + cond f 2 0
unfolding kind_number
kind_number_lem a q = ap₂ (λ (i f : Bool). cond i 1 0 + cond f 2 0)

module _ (m : Morphism) (s e : ℕ) (state : is_state m (value_of s) e ≡ true) (marks : Marking) (least : ℕ) where
  inside : e < m.size
  inside = (found_state m s e state).idempotent.inside

  -- 64 is final, and is in no pair
  kind_none : s ≡ no_value → KindIs m marks s e least 2
  unfolding is_pair is_none
  kind_none h =
      kind_number_lem (automaton_for m marks least) (state_of m s e)
      (initial_at_lem m (level least marks) (value_of s) inside ∙ ap₂ ◌&&◌ state (ap (λ x. is_pair (level least marks) x e) (value_none h)))
      (final_at_lem m (level least marks) (value_of s) inside ∙ ap₂ ◌&&◌ state (ap is_none (value_none h)))

  -- an element is initial by its grade
  kind_element : (s ≡ no_value → ⊥) → KindIs m marks s e least (cond (leb least (marks s e)) 1 0 + 0)
  unfolding is_pair is_none level
  kind_element h =
      kind_number_lem (automaton_for m marks least) (state_of m s e)
      (initial_at_lem m (level least marks) (value_of s) inside ∙ ap₂ ◌&&◌ state (ap (λ x. is_pair (level least marks) x e) (value_element h)))
      (final_at_lem m (level least marks) (value_of s) inside ∙ ap₂ ◌&&◌ state (ap is_none (value_element h)))

-- an element's state is a pair of elements
pub pair_inside : (m : Morphism) (s e : ℕ) {found : Bool} → found ≡ is_state m (value_of s) e → not found ≡ false → (s ≡ no_value → ⊥) → (s < m.size) × (e < m.size)
pair_inside m s e is f some =
    let here = found_state m s e (said_state is f) in
    (element_inside {m = m} (subst (Inside m) (value_element some) here.value), here.idempotent.inside)

module _ (m : Morphism) (s e least : ℕ) (bytes : List ℕ) where
  -- a least grade outside 1 to 3
  pub kind_least : (least < 1) ⊎ (3 < least) → KindSaid m s e least bytes (Refused EntryOutOfRange 1 0)
  kind_least h = record { refusal = first_fails (least_check least) (record { outside = h; is_place = refl }); kind = λ marks at. tt }

  module _ (low : 1 ≤ least) (high : least ≤ 3) where
    least_passes : {v : Verdict} → FirstFailure (state_check m s e ∷ []) v → FirstFailure (kind_own_checks m s e least) v
    least_passes = first_passes (record { nowhere = λ place f. ⊎_elim (λ (h : least < 1). omega arith) (λ (h : 3 < least). omega arith) f.outside })

    -- no such state
    pub kind_missing : {found : Bool} → found ≡ is_state m (value_of s) e → not found ≡ true → KindSaid m s e least bytes (Refused NoSuchState 1 0)
    kind_missing is f = record { refusal = least_passes (first_fails (state_check m s e) (record { missing = said_none is f; is_place = refl })); kind = λ marks at. tt }

    module _ {found : Bool} (is : found ≡ is_state m (value_of s) e) (f : not found ≡ false) where
      state : is_state m (value_of s) e ≡ true
      state = said_state is f

      all_pass : FirstFailure (kind_own_checks m s e least) passed
      all_pass = least_passes (first_passes (record { nowhere = λ place q. true≢false (sym state ∙ q.missing) }) none_left)

      pub kind_final : s ≡ no_value → KindSaid m s e least bytes Final
      kind_final h = record { refusal = all_pass; kind = λ marks at. kind_none m s e state marks least h }

      module _ (some : s ≡ no_value → ⊥) where
        -- the grade stands in the table of marks
        grade : (marks : Marking) → MarkingAt m.size marks bytes 0 → marks s e ≡ get_or bytes (s * 64 + e) 0
        unfolding marks_from
        grade marks at =
            let both = pair_inside m s e is f some in
            at.same s e both.0 both.1 ∙ ap (λ (x : ℕ). get_or bytes x 0) (let z : 0 + (s * 64 + e) ≡ s * 64 + e = omega arith in z)

        pub kind_initial : least ≤ get_or bytes (s * 64 + e) 0 → KindSaid m s e least bytes Initial
        kind_initial h = record { refusal = all_pass; kind = λ marks at. kind_element m s e state marks least some ∙ rw (grade marks at, le-leb least _ h) }

        pub kind_plain : get_or bytes (s * 64 + e) 0 < least → KindSaid m s e least bytes Plain
        kind_plain h = record { refusal = all_pass; kind = λ marks at. kind_element m s e state marks least some ∙ rw (grade marks at, lt-leb _ _ h) }
