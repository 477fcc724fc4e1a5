-- What `state_kind` and `successors` promise: the automaton of a rule, state by state. Document 02, Jobs 5 and 12. Assumes nothing.
use Rattle.std.specs.Prelude.{ℕ, ◌+◌, ◌≤◌, ◌<◌, ◌≡◌, false, cond, ◌⊎◌, List, [], ◌∷◌, ◌++◌}
use Rattle.finite.specs.Select.{select}
use Rattle.answer.specs.declared.Refusal.TheVariants.{EntryOutOfRange, NoSuchState}
use Rattle.answer.specs.Checks.{Check, Verdict, passed, refused, FirstFailure}
use Rattle.theory.specs.Rules.{Morphism, Marking, level}
use Rattle.buchi.specs.Automata.{Automaton}
use Rattle.buchi.specs.Rule.{AcceptsRuns}
use Rattle.buchi.specs.RuleAutomaton.{is_state, state_number, transition, rule_automaton}
use Rattle.formats.specs.RuleFile.{morphism_of, marking_of}
use Rattle.formats.specs.RuleChecks.{buffer_check}
use Rattle.formats.specs.Calls.{checked_checks, after_call, scratch_left}
use Rattle.formats.specs.Front.{AtFront}
use Rattle.promises.specs.Monitor.{value_of}
use Rattle.promises.specs.Moves.{lone_letter_check}
use Rattle.promises.specs.declared.StateKind.{StateKind}
use Rattle.promises.specs.declared.StateKind.TheVariants.{Plain, Initial, Final, Refused as Kind-refused}
use Rattle.promises.specs.declared.SuccessorList.{SuccessorList}
use Rattle.promises.specs.declared.SuccessorList.TheVariants.{Listed, Refused as Successors-refused}

-- "in a lent 65 bytes"
abbrev pub successors_size : ℕ
successors_size = 65

-- the automaton of a rule for a least grade: "initial states are the pairs marked with that or more" (Job 12)
abbrev pub automaton_for : Morphism → Marking → ℕ → Automaton
automaton_for m marks least = rule_automaton m (level least marks)

-- the number of the state (s, e) there, "s an element or 64 for none"
abbrev pub state_of : Morphism → ℕ → ℕ → ℕ
state_of m s e = state_number m (value_of s) e

-- "the lassos accepted are those of that grade or more" (Job 12), "weak rules included": whatever the marks, as long as they are linked
abbrev pub AcceptsGrade : Morphism → Marking → ℕ → Type 0
AcceptsGrade m marks least = AcceptsRuns (automaton_for m marks least) m (level least marks)

-- ---- the checks

-- 3 for "a least grade (place 0, just before 17), outside 1 to 3" (Job 12)
pub record LeastOutOfRangeAt (least place : ℕ) : Type 0 where
  pub outside : (least < 1) ⊎ (3 < least)
  pub is_place : place ≡ 0

abbrev pub least_check : ℕ → Check
least_check least = record { refusal = EntryOutOfRange; input = 1; Fails = LeastOutOfRangeAt least }

-- "17, no such state"; place 0
pub record NoSuchStateAt (m : Morphism) (s e place : ℕ) : Type 0 where
  pub missing : is_state m (value_of s) e ≡ false
  pub is_place : place ≡ 0

abbrev pub state_check : Morphism → ℕ → ℕ → Check
state_check m s e = record { refusal = NoSuchState; input = 1; Fails = NoSuchStateAt m s e }

-- the checks of a kind beside the rule's: 3 "just before 17"
abbrev pub kind_own_checks : Morphism → ℕ → ℕ → ℕ → List Check
kind_own_checks m s e least = least_check least ∷ state_check m s e ∷ []

-- 17 is "tried after the rule's own checks"
abbrev pub kind_checks : List ℕ → ℕ → ℕ → ℕ → List ℕ → List Check
kind_checks bytes s e least scratch = checked_checks 1 bytes scratch ++ kind_own_checks (morphism_of bytes) s e least

-- those of a list: 17 "before 10"
abbrev pub successor_own_checks : Morphism → ℕ → ℕ → ℕ → List Check
successor_own_checks m s e letter = state_check m s e ∷ lone_letter_check 1 m.letters letter ∷ []

-- "First 13", of both buffers
abbrev pub successor_checks : List ℕ → ℕ → ℕ → ℕ → List ℕ → List ℕ → List Check
successor_checks bytes s e letter out scratch =
    buffer_check successors_size out ∷ (checked_checks 1 bytes scratch ++ successor_own_checks (morphism_of bytes) s e letter)

-- ---- a state's kind

-- "coded as in automaton files": "0 plain, 1 initial, 2 final, 3 both"
unfoldable pub kind_number : Automaton → ℕ → ℕ
kind_number a q = cond (a.initial q) 1 0 + cond (a.final q) 2 0

-- the number of the kind of (s, e) for a least grade
abbrev pub KindIs : Morphism → Marking → ℕ → ℕ → ℕ → ℕ → Type 0
KindIs m marks s e least kind = kind_number (automaton_for m marks least) (state_of m s e) ≡ kind

-- the numbers of the kinds that an answer tells; none is both, since a pair of elements has no 64
abbrev pub plain_kind : ℕ
plain_kind = 0

abbrev pub initial_kind : ℕ
initial_kind = 1

abbrev pub final_kind : ℕ
final_kind = 2

-- by the answer
abbrev pub KindAnswer : Morphism → Marking → ℕ → ℕ → ℕ → StateKind → Type 0
KindAnswer m marks s e least Plain = KindIs m marks s e least plain_kind
KindAnswer m marks s e least Initial = KindIs m marks s e least initial_kind
KindAnswer m marks s e least Final = KindIs m marks s e least final_kind
KindAnswer m marks s e least (Kind-refused refusal input place) = Unit {0}

-- document 01's number, input and place of an answer
abbrev pub kind_verdict : StateKind → Verdict
kind_verdict Plain = passed
kind_verdict Initial = passed
kind_verdict Final = passed
kind_verdict (Kind-refused refusal input place) = refused refusal input place

pub record KindPromise (bytes : List ℕ) (s e least : ℕ) (entry exit : List ℕ) (answer : StateKind) : Type 0 where
  pub refusal : FirstFailure (kind_checks bytes s e least entry) (kind_verdict answer)
  pub answered : KindAnswer (morphism_of bytes) (marking_of bytes) s e least answer
  pub accepts : kind_verdict answer ≡ passed → AcceptsGrade (morphism_of bytes) (marking_of bytes) least
  pub scratch : exit ≡ after_call entry

-- ---- the states that a state leads to

-- "in rising order .., the t with a transition from (s, e) by a letter to (t, e)", 64 last
unfoldable pub successors_of : Morphism → ℕ → ℕ → ℕ → List ℕ
successors_of m s e letter = select successors_size (λ t. transition m (state_of m s e) letter (state_of m t e)) (λ t. t)

-- document 01's number, input and place of an answer
abbrev pub successors_verdict : SuccessorList → Verdict
successors_verdict (Listed count) = passed
successors_verdict (Successors-refused refusal input place) = refused refusal input place

-- the list stands at the front of out and the rest is kept; a refusal keeps every byte
abbrev pub SuccessorsAnswer : Morphism → ℕ → ℕ → ℕ → List ℕ → List ℕ → SuccessorList → Type 0
SuccessorsAnswer m s e letter before after (Listed count) = AtFront (successors_of m s e letter) before after count
SuccessorsAnswer m s e letter before after (Successors-refused refusal input place) = after ≡ before

-- the transitions are those of the automaton for each least grade; scratch as every call leaves it
pub record SuccessorsPromise (bytes : List ℕ) (s e letter : ℕ) (before after entry exit : List ℕ) (answer : SuccessorList) : Type 0 where
  pub refusal : FirstFailure (successor_checks bytes s e letter before entry) (successors_verdict answer)
  pub answered : SuccessorsAnswer (morphism_of bytes) s e letter before after answer
  pub accepts : successors_verdict answer ≡ passed → (least : ℕ) → 1 ≤ least → least ≤ 3 → AcceptsGrade (morphism_of bytes) (marking_of bytes) least
  pub scratch : exit ≡ scratch_left successors_size before entry
