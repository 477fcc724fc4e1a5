-- What the promises say in small cases and of one answer: each is contradicted where a definition says something else. Assumes nothing.
use Prim.Native.Nat.{ℕ, ◌≤◌, ◌<◌}
use mathlib.Core.Path.{◌≡◌, refl}
use mathlib.Core.Bool.{true, false}
use mathlib.Core.Logic.{◌↔◌}
use mathlib.Core.List.{List, [], ◌∷◌}
use native.Mathlib.Omega.{arith}
use Rattle.answer.specs.declared.Refusal.{Refusal}
use Rattle.finite.specs.Search.{any_below}
use Rattle.theory.specs.Words.{Lasso}
use Rattle.theory.specs.Rules.{Morphism, Lawful, Marking, element, value}
use Rattle.theory.specs.Grades.{AtLeast, Graded}
use Rattle.theory.proofs.Gradings.{higher_graded}
use Rattle.buchi.specs.Matrices.{Matrix}
use Rattle.buchi.specs.Rule.{MatricesOf}
use Rattle.buchi.proofs.Numberings.{matrices_size}
use Rattle.formats.specs.Sections.{two_bytes}
use Rattle.formats.specs.AutomatonFile.{automaton_letters_at, transitions_at, transitions_of, kind_at, transition_at, from_of, letter_of, to_of, is_initial, is_transition, has_transition}
use Rattle.formats.specs.RuleFile.{letters_of, morphism_of, marking_of}
use Rattle.promises.specs.declared.Monitor.{Monitor}
use Rattle.promises.specs.declared.Moved.TheVariants.{Refused}
use Rattle.promises.specs.declared.InPlaceAnswer.TheVariants.{Done}
use Rattle.promises.specs.declared.LassoVerdict.TheVariants.{Decided}
use Rattle.promises.specs.declared.Step.{Step}
use Rattle.promises.specs.declared.Step.TheVariants.{Stay}
use Rattle.promises.specs.declared.Advanced.TheVariants.{Refused as Not-advanced}
use Rattle.promises.specs.EventWords.{after_word}
use Rattle.promises.specs.Advance.{AdvancePromise}
use Rattle.promises.specs.Stretch.{unread, stretch_of}
use Rattle.promises.specs.Automaton.{automaton_of, TooManyMatricesAt}
use Rattle.promises.specs.Complement.{ComplementMarks}
use Rattle.promises.specs.Inclusion.{Apart, Within}
use Rattle.promises.specs.Monitor.{value_of, fresh_monitor}
use Rattle.promises.specs.Moves.{after_event, after_mark, EventPromise}
use Rattle.promises.specs.InPlace.{EventInPlace}
use Rattle.promises.specs.Verdict.{NoneAt, VerdictAnswer}
use Rattle.promises.specs.Histories.{Action, event, mark, since_word, before_word, with_step, with_word, MonitorRun, event_refused}

-- ---- stretch: u is 0, v is 1 2

-- where u ends all of v is left
all_of_v : stretch_of (0 ∷ []) (1 ∷ 2 ∷ []) 1 ≡ 1 ∷ 2 ∷ []
unfolding stretch_of unread
all_of_v = refl

-- in the second turn of v its end is left
second_turn : stretch_of (0 ∷ []) (1 ∷ 2 ∷ []) 4 ≡ 2 ∷ []
unfolding stretch_of unread
second_turn = refl

-- with an empty u every part is one of v
empty_start_first_turn : stretch_of [] (1 ∷ 2 ∷ []) 0 ≡ 1 ∷ 2 ∷ []
unfolding stretch_of unread
empty_start_first_turn = refl

empty_start_later : stretch_of [] (1 ∷ 2 ∷ []) 3 ≡ 2 ∷ []
unfolding stretch_of unread
empty_start_later = refl

-- ---- the automaton of a file: state 0 initial, state 1 final, letter 0 to state 1 and letter 1 to state 0 from either

file : List ℕ
file = 2 ∷ 1 ∷ 2 ∷ 2 ∷ 4 ∷ 0 ∷ 0 ∷ 0 ∷ 1 ∷ 0 ∷ 1 ∷ 0 ∷ 1 ∷ 0 ∷ 1 ∷ 1 ∷ 1 ∷ 0 ∷ []

initial_state : (automaton_of file).initial 0 ≡ true
unfolding file is_initial kind_at
initial_state = refl

final_state : (automaton_of file).initial 1 ≡ false
unfolding file is_initial kind_at
final_state = refl

-- a transition goes from its first state to its second
transition : (automaton_of file).step 0 0 1 ≡ true
unfolding file has_transition is_transition from_of letter_of to_of transition_at transitions_of transitions_at automaton_letters_at two_bytes any_below
transition = refl

no_transition_back : (automaton_of file).step 1 0 0 ≡ false
unfolding file has_transition is_transition from_of letter_of to_of transition_at transitions_of transitions_at automaton_letters_at two_bytes any_below
no_transition_back = refl

-- 64 matrices pass
sixty_four_pass : {bytes : List ℕ} {m : Morphism} {matrix : ℕ → Matrix} {place : ℕ} → Lawful m → MatricesOf (automaton_of bytes) m matrix → m.size ≤ 64
    → TooManyMatricesAt bytes place → ⊥
sixty_four_pass law elements few rich =
    let more : 64 < _ = matrices_size law elements 64 rich.more in
    omega arith

-- ---- inclusion

-- yes says that a lasso of a grade or more under the first marking is one under the second
yes_says : {m : Morphism} {marks marks' : Marking} {u u' v v' : List ℕ} → Within m marks marks' u u' v v' → (start cycle : List ℕ) → Lasso m.letters start cycle
    → AtLeast m marks 2 start cycle → AtLeast m marks' 2 start cycle
yes_says answer start cycle l a = (answer.included.at_each 2 (omega arith)).accepted_too start cycle l a

-- the lasso has its start in u and its cycle in v; its grade is higher under the first marking
no_shows : {m : Morphism} {marks marks' : Marking} {u u' v v' : List ℕ} {a b g g' : ℕ} (answer : Apart m marks marks' u u' v v' a b)
    → Graded m marks answer.start answer.cycle g → Graded m marks' answer.start answer.cycle g' → g' < g
no_shows answer k k' = higher_graded answer.witness k k'

-- ---- the complement

-- what the rule grades 1 or more the complement does not grade 3
rest_of_one : {m : Morphism} {marks marks' : Marking} (u v : List ℕ) → ComplementMarks m marks marks' → Lasso m.letters u v
    → AtLeast m marks' 3 u v ↔ (AtLeast m marks 1 u v → ⊥)
rest_of_one u v k l = k.rest 1 (omega arith) (omega arith) u v l

-- ---- the monitor

fresh_before : fresh_monitor.before ≡ 64
fresh_before = refl

fresh_since : fresh_monitor.since ≡ 64
fresh_since = refl

-- a mark empties since
mark_empties : (m : Morphism) (f : Monitor) → (after_mark m f).since ≡ 64
unfolding after_mark
mark_empties m f = refl

-- an event that is done in place leaves the monitor after the event
done_in_place : {bytes : List ℕ} {f g : Monitor} {letter : ℕ} {entry exit : List ℕ} → EventInPlace bytes f letter entry exit g Done
    → g ≡ after_event (morphism_of bytes) f letter
done_in_place p = p.monitor

-- a word of events is taken from its first letter on
word_in_order : (m : Morphism) (f : Monitor) → after_word m f (0 ∷ 1 ∷ []) ≡ after_event m (after_event m f 0) 1
unfolding after_word
word_in_order m f = refl

-- a refused step hands the monitor back
refused_step : {input : ℕ} {bytes : List ℕ} {f g : Monitor} {step : Step} {entry exit : List ℕ} {refusal : Refusal} {i place : ℕ}
    → AdvancePromise input bytes f step entry exit (Not-advanced g refusal i place) → g ≡ f
refused_step p = p.answered

-- no verdict with since none, whatever before is
since_none : NoneAt (record { before = 0; since = 64 }) 0
since_none = record { none = refl; is_place = refl }

both_none : NoneAt (record { before = 64; since = 64 }) 0
both_none = record { none = refl; is_place = refl }

-- one with before none
before_none : {place : ℕ} → NoneAt (record { before = 64; since = 0 }) place → ⊥
before_none k = omega (arith, k.none)

-- it is that of the cycle for ever
cycle_for_ever : (bytes v : List ℕ) (grade turns : ℕ) → VerdictAnswer bytes (record { before = 64; since = 0 }) (Decided grade turns) → Lasso (letters_of bytes) [] v
    → value (morphism_of bytes) v ≡ element 0 → Graded (morphism_of bytes) (marking_of bytes) [] v grade
unfolding value value_of
cycle_for_ever bytes v grade turns answer lasso e = answer.0.graded [] v lasso refl e

-- ---- histories: letters 0 and 1, a mark, letter 2; the latest action first

history : List Action
history = event 2 ∷ mark ∷ event 1 ∷ event 0 ∷ []

letters_before : before_word history ≡ 0 ∷ 1 ∷ []
unfolding history before_word since_word
letters_before = refl

letters_since : since_word (event 3 ∷ history) ≡ 2 ∷ 3 ∷ []
unfolding history since_word
letters_since = refl

-- the letters of a word are events, its last letter the latest
word_in_history : with_word (3 ∷ 4 ∷ []) (mark ∷ []) ≡ event 4 ∷ event 3 ∷ mark ∷ []
unfolding with_word
word_in_history = refl

-- a step that leaves the monitor is no part of it
stay_in_history : with_step Stay history ≡ history
unfolding history
stay_in_history = refl

-- a refused event is no part of the history
refused_event_left_out : {bytes : List ℕ} {f g : Monitor} {past : List Action} {letter : ℕ} {entry exit : List ℕ} {refusal : Refusal} {input place : ℕ}
    → MonitorRun bytes f past → EventPromise bytes f letter entry exit (Refused g refusal input place) → MonitorRun bytes g past
refused_event_left_out run promise = event_refused run promise
