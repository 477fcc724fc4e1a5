-- What the promises of state_kind and successors say in small cases: each is contradicted where a definition says something else. Assumes
-- nothing.
use Prim.Native.Nat.{ℕ, ◌<◌}
use mathlib.Core.Path.{◌≡◌, refl}
use mathlib.Core.Bool.{false, true≢false}
use mathlib.Core.Logic.{inl, inr, ⊎_elim}
use mathlib.Core.List.{[], ◌∷◌}
use native.Mathlib.Omega.{arith}
use Rattle.finite.specs.Select.{select, select_from}
use Rattle.answer.specs.Checks.{numbered, FirstFailure}
use Rattle.answer.proofs.Order.{first_fails}
use Rattle.theory.specs.Rules.{Morphism, level, join}
use Rattle.theory.proofs.SmallRules.{entry, W, Z, three_grades, W_graded_sound, sound_grades, grades_test}
use Rattle.buchi.specs.RuleAutomaton.{is_value, is_state, is_pair, is_none, value_number, numbered_value, letter_then, then_cycle, leads, state_number, state_rest, state_cycle, numbers_state, transition, rule_automaton}
use Rattle.promises.specs.Monitor.{value_of}
use Rattle.promises.specs.RuleAutomaton.{AcceptsGrade, LeastOutOfRangeAt, least_check, NoSuchStateAt, state_check, kind_own_checks, successor_own_checks, kind_number, KindIs, successors_of}
use Rattle.promises.proofs.AutomatonGrades.{grades_accepted}

-- ---- states: in Z 1·1 is 0, so (0, 1) is none, and (1, 0) is one; 64 is none's number and 2 is no value's

no_state : NoSuchStateAt Z 0 1 0
unfolding is_state is_value value_of
no_state = record { missing = refl; is_place = refl }

a_state : {place : ℕ} → NoSuchStateAt Z 1 0 place → ⊥
unfolding is_state is_value value_of
a_state f = true≢false f.missing

none_a_state : {place : ℕ} → NoSuchStateAt Z 64 0 place → ⊥
unfolding is_state is_value value_of
none_a_state f = true≢false f.missing

two_no_value : NoSuchStateAt Z 2 0 0
unfolding is_state is_value value_of
two_no_value = record { missing = refl; is_place = refl }

-- ---- least grades: 1 to 3

module _ {place : ℕ} where
  one_passes : LeastOutOfRangeAt 1 place → ⊥
  one_passes f = ⊎_elim (λ h. omega arith) (λ h. omega arith) f.outside

  three_passes : LeastOutOfRangeAt 3 place → ⊥
  three_passes f = ⊎_elim (λ h. omega arith) (λ h. omega arith) f.outside

zero_fails : LeastOutOfRangeAt 0 0
zero_fails = record { outside = inl (omega arith); is_place = refl }

four_fails : LeastOutOfRangeAt 4 0
four_fails = record { outside = inr (omega arith); is_place = refl }

-- ---- the order: 3 before 17, and 17 before 10

module _ (m : Morphism) (s e : ℕ) where
  three_first : (least : ℕ) → 3 < least → FirstFailure (kind_own_checks m s e least) (numbered 3 1 0)
  three_first least h = first_fails (least_check least) (record { outside = inr h; is_place = refl })

  seventeen_first : (letter : ℕ) → is_state m (value_of s) e ≡ false → FirstFailure (successor_own_checks m s e letter) (numbered 17 1 0)
  seventeen_first letter h = first_fails (state_check m s e) (record { missing = h; is_place = refl })

-- ---- kinds: W with (0, 0) of grade 3, (0, 1) of 1 and (1, 1) of 2, for the least grade 2

pair_initial : KindIs W (entry three_grades) 1 1 2 1
unfolding kind_number rule_automaton numbers_state is_state is_value is_pair is_none state_number state_rest state_cycle value_number numbered_value value_of level
pair_initial = refl

lower_plain : KindIs W (entry three_grades) 0 1 2 0
unfolding kind_number rule_automaton numbers_state is_state is_value is_pair is_none state_number state_rest state_cycle value_number numbered_value value_of level
lower_plain = refl

none_final : KindIs W (entry three_grades) 64 1 2 2
unfolding kind_number rule_automaton numbers_state is_state is_value is_pair is_none state_number state_rest state_cycle value_number numbered_value value_of level
none_final = refl

-- its automaton accepts the lassos of that grade or more
graded_two : AcceptsGrade W (entry three_grades) 2
unfolding grades_test
graded_two = grades_accepted W_graded_sound.lawful (sound_grades W (entry three_grades) W_graded_sound tt) 2 (omega arith)

-- ---- lists: from W's (64, 0) letter 0 leads to all, 64 last, and letter 1 to 0 only; from Z's (64, 0) letter 0, of element 1, leads to 1

all_three : successors_of W 64 0 0 ≡ 0 ∷ 1 ∷ 64 ∷ []
unfolding successors_of select select_from transition numbers_state is_state is_value leads letter_then then_cycle state_number state_rest state_cycle value_number numbered_value value_of join
all_three = refl

one_only : successors_of W 64 0 1 ≡ 0 ∷ []
unfolding successors_of select select_from transition numbers_state is_state is_value leads letter_then then_cycle state_number state_rest state_cycle value_number numbered_value value_of join
one_only = refl

by_parity : successors_of Z 64 0 0 ≡ 1 ∷ []
unfolding successors_of select select_from transition numbers_state is_state is_value leads letter_then then_cycle state_number state_rest state_cycle value_number numbered_value value_of join
by_parity = refl

-- with s·e apart from s both equations count: from W's (1, 0), not linked, letter 0 leads to all by s·e, and letter 1 by s or s·e
unlinked_both : successors_of W 1 0 1 ≡ 0 ∷ 1 ∷ 64 ∷ []
unfolding successors_of select select_from transition numbers_state is_state is_value leads letter_then then_cycle state_number state_rest state_cycle value_number numbered_value value_of join
unlinked_both = refl
