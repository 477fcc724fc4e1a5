-- Packing loses nothing. Of each exported call, for inputs of any length: the number is read back as what the answer holds, so two calls
-- that give one number gave one answer (`-told`). An answer that meets its call's promise keeps to the limits of packing (`-fits`): the
-- refusals by Limits, the results by what their promises say. Assumes nothing.
use Prim.Native.Nat.{ℕ, ◌+◌, ◌*◌, ◌^◌, ◌≤◌, ◌<◌}
use mathlib.Core.Path.{◌≡◌, refl, sym, ap, ◌∙◌, subst}
use mathlib.Core.Logic.{⊎_elim}
use mathlib.Core.Bool.{Bool, true, false}
use mathlib.Core.List.{List, [], ◌∷◌, ◌++◌}
use native.Mathlib.Omega.{arith}
use native.Mathlib.Nat.{mul-le-mul}
use lib.ListN.{length}
use Rattle.finite.specs.Select.{select}
use Rattle.finite.proofs.Numbers.{le_or_lt}
use Rattle.answer.specs.Checks.{Check}
use Rattle.answer.proofs.Order.{passed_first, passed_last, passes_head, passes_tail}
use Rattle.answer.proofs.Limits.{Limited, limited_nil, limited_cons, limited_append}
use Rattle.theory.specs.Rules.{Morphism, Marking}
use Rattle.theory.specs.Pairs.{LinkedPairs, Classes, LeastExponent}
use Rattle.formats.specs.RuleFile.{elements_of, letters_of, morphism_of}
use Rattle.formats.specs.RuleChecks.{rule_checks}
use Rattle.formats.specs.Calls.{checked_checks}
use Rattle.formats.proofs.GoodRule.{graded_marks, called_good}
use Rattle.theory.proofs.Gradings.{graded_small, lassos_small}
use Rattle.formats.specs.ReadBack.{WrittenRule}
use Rattle.formats.proofs.Listed.{select_listed}
use Rattle.promises.specs.Weak.{WeakAt, weak_check}
use Rattle.promises.specs.declared.Monitor.{Monitor}
use Rattle.promises.specs.declared.Step.{Step}
use Rattle.promises.specs.Monitor.{fresh_monitor, MonitorValueOutOfRangeAt, monitor_checks}
use Rattle.promises.specs.Moves.{LoneUnknownLetterAt, EventPromise, MarkPromise}
use Rattle.promises.specs.Points.{NameOutOfRangeAt, NameNeverKeptAt, MonitorOrPointOutOfRangeAt, KeepPromise, ReturnPromise}
use Rattle.promises.specs.Verdict.{NoneAt, VerdictPromise}
use Rattle.promises.specs.declared.Written.{Written}
use Rattle.promises.specs.declared.Written.TheVariants.{Rule, Refused as Not-written}
use Rattle.promises.specs.Automaton.{RulePromise}
use Rattle.promises.specs.declared.Inspected.{Inspected}
use Rattle.promises.specs.declared.Inspected.TheVariants.{Rule as Inspected-rule, Refused as Inspected-refused}
use Rattle.promises.specs.Inspect.{InspectPromise}
use Rattle.promises.specs.declared.Listed.{Listed}
use Rattle.promises.specs.declared.Listed.TheVariants.{Counts, Refused as Not-listed}
use Rattle.promises.specs.Classes.{ListPromise}
use Rattle.list_classes_call.proofs.Counting.{counted_le}
use Rattle.promises.specs.Complement.{ComplementPromise}
use Rattle.promises.specs.declared.Operation.{Operation}
use Rattle.promises.specs.declared.Confirmation.{Confirmation}
use Rattle.promises.specs.declared.Confirmation.TheVariants.{Yes, No, Refused as Not-confirmed}
use Rattle.promises.specs.Confirm.{ConfirmPromise}
use Rattle.promises.specs.Combine.{LettersDifferAt, TooManyPairsAt, pair_checks, CombinePromise}
use Rattle.temporal_promises.specs.FirstLetter.{LettersOutOfRangeAt, GradeOutOfRangeAt, ForeignInSetAt, letter_count_check, grade_check, set_check, FirstLetterPromise, ConstantPromise}
use Rattle.temporal_promises.specs.Next.{TooManyNextAt, NextPromise}
use Rattle.temporal_promises.specs.Until.{TooManyUntilAt, UntilPromise}
use Rattle.first_letter_call.proofs.Calling.{none_beyond}
use Rattle.promises.specs.declared.Inclusion.{Inclusion}
use Rattle.promises.specs.declared.Inclusion.TheVariants.{Included, NotIncluded, Refused as Not-compared}
use Rattle.promises.specs.Inclusion.{InclusionPromise}
use Rattle.promises.specs.declared.LassoVerdict.{LassoVerdict}
use Rattle.promises.specs.declared.LassoVerdict.TheVariants.{Decided, Refused as Not-graded}
use Rattle.promises.specs.Member.{MemberPromise}
use Rattle.promises.specs.declared.Moved.{Moved}
use Rattle.promises.specs.declared.Moved.TheVariants.{To, Refused as Not-moved}
use Rattle.promises.specs.Reduce.{ReducePromise}
use Rattle.promises.specs.declared.Partition.{Partition}
use Rattle.promises.specs.declared.Partition.TheVariants.{Blocks, Refused as Not-partitioned}
use Rattle.promises.specs.Rounds.{LimitOutOfRangeAt, limit_check, RoundsPromise}
use Rattle.promises.specs.declared.StateKind.{StateKind}
use Rattle.promises.specs.declared.StateKind.TheVariants.{Plain, Initial, Final, Refused as No-kind}
use Rattle.promises.specs.declared.SuccessorList.{SuccessorList}
use Rattle.promises.specs.declared.SuccessorList.TheVariants.{Listed as Successors, Refused as No-successors}
use Rattle.promises.specs.RuleAutomaton.{state_of, LeastOutOfRangeAt, NoSuchStateAt, successors_of, KindPromise, SuccessorsPromise}
use Rattle.buchi.specs.RuleAutomaton.{transition}
use Rattle.promises.specs.declared.Strength.{Strength}
use Rattle.promises.specs.declared.Strength.TheVariants.{Strong, Weak, Refused as Not-decided}
use Rattle.promises.specs.Strong.{StrongPromise}
use Rattle.board_promises.specs.declared.Board.{Board}
use Rattle.board_promises.specs.declared.Posted.{Posted}
use Rattle.board_state.specs.State.{state_size}
use Rattle.promises.specs.Advance.{AdvancePromise, AdvanceWordPromise}
use Rattle.promises.specs.Feed.{FeedPromise}
use Rattle.packing.specs.Packing.{Contents, fields, refusal_at, unpack}
use Rattle.packing_counts.specs.Counts.{inspected_contents, listed_contents, written_contents, bit, partition_contents, successors_contents}
use Rattle.packing_decisions.specs.Decisions.{strength_contents, lasso_verdict_contents, confirmation_contents, inclusion_contents, kind_contents}
use Rattle.packing_monitors.specs.Monitors.{monitor_contents, moved_contents, advanced_contents, pack_monitor, notice_contents, pack_notice}
use Rattle.packing.proofs.ReadBack.{FieldsFit, Fits, read_back}
use Rattle.packing_counts.proofs.Contents.{inspected_told, listed_told, written_told, partition_told, successors_told}
use Rattle.packing_decisions.proofs.Contents.{strength_told, lasso_verdict_told, confirmation_told, inclusion_told, kind_told}
use Rattle.packing_monitors.proofs.Contents.{moved_told, advanced_told}
use Rattle.packing.specs.Exports.{Exported}
use Rattle.exports.specs.BoardExports.{ExportedBoardCall, ExportedBoardEmpty, ExportedBoardEnter, ExportedBoardLeave, ExportedBoardEvent, ExportedBoardMark}
use Rattle.unpacking.proofs.Limits.{Near, near_limit, refused_fits, at_zero, buffer_limited, rule_limited, checked_limited, second_limited, lasso_limited, log_limited}
use Rattle.unpacking.proofs.FormulaLimits.{formula_limited}
use Rattle.formula_promises.specs.FormulaRule.{FormulaPromise}
use Rattle.unpacking.proofs.Advances.{advance_fits, advance_held, advance_word_fits, advance_word_held}
use Rattle.unpacking.proofs.AutomatonLimits.{translated_limited}
use Rattle.unpacking.proofs.BoardGrades.{board_enter_fits, board_leave_fits, board_event_fits, board_mark_fits}
use Rattle.unpacking.proofs.Monitors.{feed_fits, mark_fits, event_fits, keep_fits, return_fits}

-- a number below 2 to the power 16 alone
one_fits : {a : ℕ} → a ≤ 65535 → FieldsFit a 0 0
one_fits h = record { first = omega arith; second = omega arith; third = omega arith }

-- yes or no
bit_fits : {a : ℕ} → a ≤ 1 → FieldsFit a 0 0
bit_fits h = record { first = omega arith; second = omega arith; third = omega arith }

-- a grade, and turns
decided_fits : {m : Morphism} {x grade turns : ℕ} → grade ≤ 3 → m.size ≤ 64 → LeastExponent m x turns → FieldsFit grade turns 0
decided_fits g h l = record { first = omega arith; second = omega (arith, l.is_exponent, l.below); third = omega arith }

-- the length of a written rule
written_fits : {m : Morphism} {marks : Marking} {entry exit : List ℕ} {r : ℕ} → WrittenRule m marks entry exit r → FieldsFit r 0 0
written_fits w = record { first = omega (arith, w.front.counts, w.shape.short); second = omega arith; third = omega arith }

-- the checks of the calls that write a rule, and of those that get a monitor
checked_strong_limited : (bytes entry : List ℕ) → Limited Near (checked_checks 1 bytes entry ++ (weak_check 1 bytes ∷ []))
checked_strong_limited bytes entry =
    limited_append (checked_checks 1 bytes entry) (checked_limited bytes entry) (λ _. limited_cons (λ place (f : WeakAt _ place). at_zero f.is_place) (λ _. limited_nil))

monitor_limited : (bytes : List ℕ) (f : Monitor) (entry : List ℕ) → Limited Near (monitor_checks bytes f entry)
monitor_limited bytes f entry =
    limited_append (checked_checks 1 bytes entry) (checked_limited bytes entry)
    (λ _. limited_cons (λ place (a : MonitorValueOutOfRangeAt _ _ place). at_zero a.is_place) (λ _. limited_nil))

-- classes
inspected_fits : {bytes entry exit : List ℕ} (answer : Inspected) → InspectPromise bytes entry exit answer → Fits (inspected_contents answer)
inspected_fits {bytes} {entry = entry} (Inspected-rule elements letters marks) p =
    let good = called_good 1 bytes entry p.refusal in
    let counts = p.values in
    record { first = omega (arith, good.table.small, counts.elements_are); second = omega (arith, good.table.letters_small, counts.letters_are); third = omega (arith, counts.marks_are, good.marks_small) }
inspected_fits {bytes} {entry = entry} (Inspected-refused r i place) p = refused_fits r (checked_limited bytes entry) p.refusal

listed_fits : {bytes before after entry exit : List ℕ} (answer : Listed) → ListPromise bytes before after entry exit answer → Fits (listed_contents answer)
unfolding LinkedPairs Classes
listed_fits {bytes} {entry = entry} (Counts linked classes joins) p =
    let small = (called_good 1 bytes entry (passes_tail p.refusal)).table.small in
    let square : elements_of bytes * elements_of bytes ≤ 64 * 64 = mul-le-mul small small in
    let counts = p.answered.1 in
    let l = counted_le counts.linked_pairs in
    let c = counted_le counts.class_count in
    record { first = omega arith; second = omega arith; third = omega (arith, counts.difference) }
listed_fits {bytes} {entry = entry} (Not-listed r i place) p = refused_fits r (buffer_limited (checked_limited bytes entry)) p.refusal

-- strong
strength_fits : {bytes entry exit : List ℕ} (answer : Strength) → StrongPromise bytes entry exit answer → Fits (strength_contents answer)
strength_fits Strong p = bit_fits (omega arith)
strength_fits Weak p = bit_fits (omega arith)
strength_fits {bytes} {entry} (Not-decided r i place) p = refused_fits r (checked_limited bytes entry) p.refusal

-- member
member_fits : {bytes u v entry exit : List ℕ} (answer : LassoVerdict) → MemberPromise bytes u v entry exit answer → Fits (lasso_verdict_contents answer)
member_fits {bytes} {entry = entry} (Decided grade turns) p =
    let good = called_good 1 bytes entry (passed_first (checked_checks 1 bytes entry) _ p.refusal) in
    decided_fits (graded_small good.lawful (graded_marks good) p.answered.0) good.table.small p.answered.1.turns_are
member_fits {bytes} {u} {v} {entry} (Not-graded r i place) p =
    refused_fits r (limited_append (checked_checks 1 bytes entry) (checked_limited bytes entry) (λ _. lasso_limited (letters_of bytes) u v)) p.refusal

-- complement
complement_fits : {bytes before after entry exit : List ℕ} (answer : Written) → ComplementPromise bytes before after entry exit answer
    → Fits (written_contents answer)
complement_fits (Rule end) p = written_fits p.answered.written
complement_fits {bytes} {entry = entry} (Not-written r i place) p = refused_fits r (buffer_limited (checked_strong_limited bytes entry)) p.refusal

-- reduce
reduce_fits : {bytes before after map map' entry exit : List ℕ} (answer : Written) → ReducePromise bytes before after map map' entry exit answer → Fits (written_contents answer)
reduce_fits (Rule end) p = written_fits p.answered.written
reduce_fits {bytes} {entry = entry} (Not-written r i place) p = refused_fits r (buffer_limited (buffer_limited (checked_strong_limited bytes entry))) p.refusal

-- confirm
confirm_fits : {first second map entry exit : List ℕ} (answer : Confirmation) → ConfirmPromise first second map entry exit answer → Fits (confirmation_contents answer)
confirm_fits Yes p = bit_fits (omega arith)
confirm_fits No p = bit_fits (omega arith)
confirm_fits {first} {second} {entry = entry} (Not-confirmed r i place) p =
    refused_fits r (limited_append (checked_checks 1 first entry) (checked_limited first entry)
    (λ _. limited_append (rule_checks 2 second) (rule_limited 2 second (omega arith))
    (λ _. limited_cons (λ place (f : WeakAt _ place). at_zero f.is_place) (λ _. limited_nil)))) p.refusal

-- combine
pair_limited : (first second : List ℕ) → Limited Near (pair_checks first second)
pair_limited first second =
    limited_cons (λ place (f : LettersDifferAt _ _ place). at_zero f.is_place)
    (λ _. limited_cons (λ place (f : WeakAt _ place). at_zero f.is_place)
    (λ _. limited_cons (λ place (f : WeakAt _ place). near_limit (omega arith) (omega (arith, f.is_place)))
    (λ _. limited_cons (λ place (f : TooManyPairsAt _ _ place). at_zero f.is_place) (λ _. limited_nil))))

combine_fits : {first second : List ℕ} {operation : Operation} {before after entry exit : List ℕ} (answer : Written)
    → CombinePromise first second operation before after entry exit answer → Fits (written_contents answer)
combine_fits (Rule end) p = written_fits p.answered.written
combine_fits {first} {second} {entry = entry} (Not-written r i place) p =
    refused_fits r (buffer_limited (limited_append (checked_checks 1 first entry) (checked_limited first entry)
    (λ _. limited_append (rule_checks 2 second) (rule_limited 2 second (omega arith))
    (λ _. pair_limited first second)))) p.refusal

-- first_letter, constant: a letter of a set of 64 bits is below 64
numbers_limited : (letters grade : ℕ) {checks : List Check} → Limited Near checks → Limited Near (letter_count_check letters ∷ grade_check grade ∷ checks)
numbers_limited letters grade l =
    limited_cons (λ place (f : LettersOutOfRangeAt letters place). at_zero f.is_place)
    (λ _. limited_cons (λ place (f : GradeOutOfRangeAt grade place). at_zero f.is_place) (λ _. l))

set_limited : {letters set : ℕ} → set < 2 ^ 64 → Limited Near (set_check letters set ∷ [])
set_limited {letters} {set} small =
    limited_cons (λ place (f : ForeignInSetAt letters set place). ⊎_elim (λ h. absurd (none_beyond small h f.is_in_set)) (λ h. near_limit (omega arith) (omega arith)) (le_or_lt 64 place))
    (λ _. limited_nil)

first_letter_fits : {letters set grade : ℕ} {before after : List ℕ} → set < 2 ^ 64 → (answer : Written) → FirstLetterPromise letters set grade before after answer
    → Fits (written_contents answer)
first_letter_fits small (Rule end) p = written_fits p.answered.written
first_letter_fits {letters} {grade = grade} small (Not-written r i place) p = refused_fits r (buffer_limited (numbers_limited letters grade (set_limited small))) p.refusal

constant_fits : {letters grade : ℕ} {before after : List ℕ} (answer : Written) → ConstantPromise letters grade before after answer → Fits (written_contents answer)
constant_fits (Rule end) p = written_fits p.answered.written
constant_fits {letters} {grade} (Not-written r i place) p = refused_fits r (buffer_limited (numbers_limited letters grade limited_nil)) p.refusal

-- next
next_fits : {bytes before after entry exit : List ℕ} (answer : Written) → NextPromise bytes before after entry exit answer → Fits (written_contents answer)
next_fits (Rule end) p = written_fits p.answered.written
next_fits {bytes} {entry = entry} (Not-written r i place) p =
    refused_fits r (buffer_limited (limited_append (checked_checks 1 bytes entry) (checked_limited bytes entry)
    (λ _. limited_cons (λ place (f : WeakAt _ place). at_zero f.is_place)
    (λ _. limited_cons (λ place (f : TooManyNextAt _ place). at_zero f.is_place) (λ _. limited_nil))))) p.refusal

-- until
until_fits : {first second before after classes classes' entry exit : List ℕ} (answer : Written) → UntilPromise first second before after classes classes' entry exit answer
    → Fits (written_contents answer)
until_fits (Rule end) p = written_fits p.answered.written
until_fits {first} {second} {entry = entry} (Not-written r i place) p =
    refused_fits r (buffer_limited (buffer_limited (limited_append (checked_checks 1 first entry) (checked_limited first entry)
    (λ _. limited_append (rule_checks 2 second) (rule_limited 2 second (omega arith))
    (λ _. limited_append (pair_checks first second) (pair_limited first second)
    (λ _. limited_cons (λ place (f : TooManyUntilAt _ _ place). at_zero f.is_place) (λ _. limited_nil))))))) p.refusal

-- formula_rule
formula_fits : {letters : ℕ} {formula before after stack stack' spare spare' classes classes' entry exit : List ℕ} (answer : Written)
    → FormulaPromise letters formula before after stack stack' spare spare' classes classes' entry exit answer → Fits (written_contents answer)
formula_fits (Rule end) p = written_fits p.answered.written
formula_fits {letters} {formula} {before} {stack = stack} {spare = spare} {classes = classes} {entry = entry} (Not-written r i place) p =
    refused_fits r (buffer_limited (buffer_limited (buffer_limited (buffer_limited (buffer_limited (formula_limited letters formula)))))) p.refusal

-- reduce_rounds: the limit passed its check, so that it is at most 64
bit_small : (b : Bool) → bit b ≤ 1
bit_small false = omega arith
bit_small true = omega arith

rounds_fits : {bytes : List ℕ} {limit : ℕ} {before after entry exit : List ℕ} (answer : Partition) → RoundsPromise bytes limit before after entry exit answer
    → Fits (partition_contents answer)
rounds_fits {bytes} {limit} {entry = entry} (Blocks rounds finished) p =
    let few = passes_head (passed_last (checked_checks 1 bytes entry) (limit_check limit ∷ weak_check 1 bytes ∷ []) (passes_tail p.refusal)) in
    let most : limit ≤ 64 = ⊎_elim (λ h. h) (λ h. absurd (few.nowhere 0 (record { above = h; is_place = refl }))) (le_or_lt limit 64) in
    record { first = omega (arith, p.answered.within); second = omega (arith, bit_small finished); third = omega arith }
rounds_fits {bytes} {limit} {entry = entry} (Not-partitioned r i place) p =
    refused_fits r (buffer_limited (limited_append (checked_checks 1 bytes entry) (checked_limited bytes entry)
    (λ _. limited_cons (λ place (f : LimitOutOfRangeAt _ place). at_zero f.is_place)
    (λ _. limited_cons (λ place (f : WeakAt _ place). at_zero f.is_place) (λ _. limited_nil))))) p.refusal

-- automaton_rule
automaton_fits : {bytes before after entry exit : List ℕ} (answer : Written) → RulePromise bytes before after entry exit answer
    → Fits (written_contents answer)
automaton_fits (Rule end) p = written_fits p.answered.written
automaton_fits {bytes} {entry = entry} (Not-written r i place) p = refused_fits r (buffer_limited (translated_limited bytes entry)) p.refusal

-- included
inclusion_fits : {bytes second u-entry u-exit v-entry v-exit entry exit : List ℕ} (answer : Inclusion)
    → InclusionPromise bytes second u-entry u-exit v-entry v-exit entry exit answer → Fits (inclusion_contents answer)
inclusion_fits Included p = bit_fits (omega arith)
inclusion_fits {bytes} {entry = entry} (NotIncluded u v) p =
    let checked = passed_first (checked_checks 1 bytes entry) _ (passes_tail (passes_tail p.refusal)) in
    let small = (called_good 1 bytes entry checked).table.small in
    let side : elements_of bytes + 1 ≤ 65 = omega arith in
    let square : (elements_of bytes + 1) * (elements_of bytes + 1) ≤ 65 * 65 = mul-le-mul side side in
    let apart = p.answered in
    record {
      first = omega arith;
      second = omega (arith, apart.start_written.counts, apart.witness.witness.start_short);
      third = omega (arith, apart.cycle_written.counts, apart.witness.witness.cycle_short);
    }
inclusion_fits {bytes} {second} {entry = entry} (Not-compared r i place) p =
    refused_fits r (buffer_limited (buffer_limited (limited_append (checked_checks 1 bytes entry) (checked_limited bytes entry) (λ _. second_limited bytes second)))) p.refusal

-- event, mark
moved_fits : {f g : Monitor} → f ≡ g → Fits (monitor_contents g) → Fits (monitor_contents f)
moved_fits e h = subst (λ (x : Monitor). Fits (monitor_contents x)) (sym e) h

event_answer_fits : {bytes : List ℕ} {f : Monitor} {letter : ℕ} {entry exit : List ℕ} (answer : Moved) → EventPromise bytes f letter entry exit answer
    → Fits (moved_contents answer)
event_answer_fits {bytes} {f} {letter} {entry} (To g) p = moved_fits p.monitor (event_fits bytes f entry letter p.refusal)
event_answer_fits {bytes} {f} {letter} {entry} (Not-moved g r i place) p =
    refused_fits r (limited_append (monitor_checks bytes f entry) (monitor_limited bytes f entry)
    (λ _. limited_cons (λ place (a : LoneUnknownLetterAt _ _ place). at_zero a.is_place) (λ _. limited_nil))) p.refusal

mark_answer_fits : {bytes : List ℕ} {f : Monitor} {entry exit : List ℕ} (answer : Moved) → MarkPromise bytes f entry exit answer → Fits (moved_contents answer)
mark_answer_fits {bytes} {f} {entry} (To g) p = moved_fits p.monitor (mark_fits bytes f entry p.refusal)
mark_answer_fits {bytes} {f} {entry} (Not-moved g r i place) p = refused_fits r (monitor_limited bytes f entry) p.refusal

feed_answer_fits : {bytes : List ℕ} {f : Monitor} {w entry exit : List ℕ} (answer : Moved) → FeedPromise bytes f w entry exit answer → Fits (moved_contents answer)
feed_answer_fits {bytes} {f} {w} {entry} (To g) p = moved_fits p.monitor (feed_fits bytes f entry w p.refusal)
feed_answer_fits {bytes} {f} {w} {entry} (Not-moved g r i place) p =
    refused_fits r (limited_append (monitor_checks bytes f entry) (monitor_limited bytes f entry) (λ _. log_limited (letters_of bytes) w)) p.refusal

-- keep, return_to
keep_answer_fits : {bytes : List ℕ} {f : Monitor} {name : ℕ} {points points-exit entry exit : List ℕ} (answer : Moved) → KeepPromise bytes f name points points-exit entry exit answer
    → Fits (moved_contents answer)
keep_answer_fits {bytes} {f} {name} {points} {entry = entry} (To g) p = moved_fits p.monitor (keep_fits bytes f name points entry p.refusal)
keep_answer_fits {bytes} {f} {name} {points} {entry = entry} (Not-moved g r i place) p =
    refused_fits r (buffer_limited (limited_append (checked_checks 1 bytes entry) (checked_limited bytes entry)
    (λ _. limited_cons (λ place (a : NameOutOfRangeAt _ place). at_zero a.is_place)
    (λ _. limited_cons (λ place (a : MonitorOrPointOutOfRangeAt _ _ _ place). at_zero a.is_place) (λ _. limited_nil))))) p.refusal

return_answer_fits : {bytes : List ℕ} {f : Monitor} {name : ℕ} {points entry exit : List ℕ} (answer : Moved) → ReturnPromise bytes f name points entry exit answer
    → Fits (moved_contents answer)
return_answer_fits {bytes} {f} {name} {points} {entry} (To g) p = moved_fits p.monitor (return_fits bytes f name points entry p.refusal)
return_answer_fits {bytes} {f} {name} {points} {entry} (Not-moved g r i place) p =
    refused_fits r (buffer_limited (limited_append (checked_checks 1 bytes entry) (checked_limited bytes entry)
    (λ _. limited_cons (λ place (a : NameOutOfRangeAt _ place). at_zero a.is_place)
    (λ _. limited_cons (λ place (a : NameNeverKeptAt _ _ place). at_zero a.is_place)
    (λ _. limited_cons (λ place (a : MonitorOrPointOutOfRangeAt _ _ _ place). at_zero a.is_place) (λ _. limited_nil)))))) p.refusal

-- verdict
verdict_fits : {bytes : List ℕ} {f : Monitor} {entry exit : List ℕ} (answer : LassoVerdict) → VerdictPromise bytes f entry exit answer → Fits (lasso_verdict_contents answer)
verdict_fits {bytes} {f} {entry} (Decided grade turns) p =
    let good = called_good 1 bytes entry (passed_first (checked_checks 1 bytes entry) _ (passed_first (monitor_checks bytes f entry) _ p.refusal)) in
    decided_fits (lassos_small good.lawful (graded_marks good) p.answered.0) good.table.small p.answered.1
verdict_fits {bytes} {f} {entry} (Not-graded r i place) p =
    refused_fits r (limited_append (monitor_checks bytes f entry) (monitor_limited bytes f entry)
    (λ _. limited_cons (λ place (a : NoneAt _ place). at_zero a.is_place)
    (λ _. limited_cons (λ place (a : WeakAt _ place). at_zero a.is_place) (λ _. limited_nil)))) p.refusal

-- state_kind, successors
kind_fits : {bytes : List ℕ} {s e least : ℕ} {entry exit : List ℕ} (answer : StateKind) → KindPromise bytes s e least entry exit answer → Fits (kind_contents answer)
kind_fits Plain p = one_fits (omega arith)
kind_fits Initial p = one_fits (omega arith)
kind_fits Final p = one_fits (omega arith)
kind_fits {bytes} {entry = entry} (No-kind r i place) p =
    refused_fits r (limited_append (checked_checks 1 bytes entry) (checked_limited bytes entry)
    (λ _. limited_cons (λ place (a : LeastOutOfRangeAt _ place). at_zero a.is_place)
    (λ _. limited_cons (λ place (a : NoSuchStateAt _ _ _ place). at_zero a.is_place) (λ _. limited_nil)))) p.refusal

successors_short : (m : Morphism) (s e letter : ℕ) → length (successors_of m s e letter) ≤ 65
unfolding successors_of select
successors_short m s e letter = (select_listed (λ t. transition m (state_of m s e) letter (state_of m t e)) 0 65).short

successors_fits : {bytes : List ℕ} {s e letter : ℕ} {before after entry exit : List ℕ} (answer : SuccessorList)
    → SuccessorsPromise bytes s e letter before after entry exit answer → Fits (successors_contents answer)
successors_fits {bytes} {s} {e} {letter} (Successors count) p = one_fits (omega (arith, p.answered.counts, successors_short (morphism_of bytes) s e letter))
successors_fits {bytes} {entry = entry} (No-successors r i place) p =
    refused_fits r (buffer_limited (limited_append (checked_checks 1 bytes entry) (checked_limited bytes entry)
    (λ _. limited_cons (λ place (a : NoSuchStateAt _ _ _ place). at_zero a.is_place)
    (λ _. limited_cons (λ place (a : LoneUnknownLetterAt _ _ place). at_zero a.is_place) (λ _. limited_nil))))) p.refusal

-- the number of a call is read back as what its answer holds
pub fresh_read : unpack (pack_monitor fresh_monitor) ≡ monitor_contents fresh_monitor
fresh_read = read_back _ (record { first = omega arith; second = omega arith; third = omega arith })

-- and of any call: the number is read back as what its answer holds, so that one number is one answer, whatever the inputs were
pub record Told {Answer : Type 0} (holds : Answer → Contents) (Promise Promise' : Answer → Type 0) : Type 0 where
  pub read : {r : ℕ} (x : Exported Promise holds r) → unpack r ≡ holds x.answer
  pub one_answer : {r : ℕ} (x : Exported Promise holds r) (y : Exported Promise' holds r) → x.answer ≡ y.answer

module _ {Answer : Type 0} {holds : Answer → Contents} where
  read_answer : {Promise : Answer → Type 0} {r : ℕ} → ((answer : Answer) → Promise answer → Fits (holds answer)) → (x : Exported Promise holds r) → unpack r ≡ holds x.answer
  read_answer fits x = ap unpack x.packed ∙ read_back _ (fits x.answer x.promise)

  told : {Promise Promise' : Answer → Type 0} → ((answer : Answer) → Promise answer → Fits (holds answer)) → ((answer : Answer) → Promise' answer → Fits (holds answer))
      → ((a b : Answer) → Promise a → Promise' b → holds a ≡ holds b → a ≡ b) → Told holds Promise Promise'
  told fits fits' one = record {
    read = λ x. read_answer fits x;
    one_answer = λ x y. one x.answer y.answer x.promise y.promise (sym (read_answer fits x) ∙ read_answer fits' y);
  }

module _ {out out-exit out' out-exit' : List ℕ} where
  -- a set is a number of 64 bits
  pub first_letter_told : {letters set grade letters' set' grade' : ℕ} → set < 2 ^ 64 → set' < 2 ^ 64
      → Told written_contents (FirstLetterPromise letters set grade out out-exit) (FirstLetterPromise letters' set' grade' out' out-exit')
  first_letter_told small small' = told (first_letter_fits small) (first_letter_fits small') (λ a b p q. written_told a b)

  pub constant_told : {letters grade letters' grade' : ℕ}
      → Told written_contents (ConstantPromise letters grade out out-exit) (ConstantPromise letters' grade' out' out-exit')
  constant_told = told constant_fits constant_fits (λ a b p q. written_told a b)

pub formula_told : {letters letters' : ℕ}
    {formula before after stack stack_exit spare spare_exit classes classes_exit entry exit formula' before' after' stack' stack-exit' spare' spare-exit' classes' classes-exit' entry' exit' : List ℕ}
    → Told written_contents (FormulaPromise letters formula before after stack stack_exit spare spare_exit classes classes_exit entry exit)
    (FormulaPromise letters' formula' before' after' stack' stack-exit' spare' spare-exit' classes' classes-exit' entry' exit')
formula_told = told formula_fits formula_fits (λ a b p q. written_told a b)

module _ {bytes entry exit bytes' entry' exit' : List ℕ} where
  pub strong_told : Told strength_contents (StrongPromise bytes entry exit) (StrongPromise bytes' entry' exit')
  strong_told = told strength_fits strength_fits (λ a b p q. strength_told a b)

  pub member_told : {u v u' v' : List ℕ} → Told lasso_verdict_contents (MemberPromise bytes u v entry exit) (MemberPromise bytes' u' v' entry' exit')
  member_told = told member_fits member_fits (λ a b p q. lasso_verdict_told a b)

  pub verdict_told : {f f' : Monitor} → Told lasso_verdict_contents (VerdictPromise bytes f entry exit) (VerdictPromise bytes' f' entry' exit')
  verdict_told = told verdict_fits verdict_fits (λ a b p q. lasso_verdict_told a b)

  pub confirm_told : {second map second' map' : List ℕ} → Told confirmation_contents (ConfirmPromise bytes second map entry exit) (ConfirmPromise bytes' second' map' entry' exit')
  confirm_told = told confirm_fits confirm_fits (λ a b p q. confirmation_told a b)

  pub state_kind_told : {s e least s' e' least' : ℕ} → Told kind_contents (KindPromise bytes s e least entry exit) (KindPromise bytes' s' e' least' entry' exit')
  state_kind_told = told kind_fits kind_fits (λ a b p q. kind_told a b)

  pub included_told : {second u u-exit v v-exit second' u' u-exit' v' v-exit' : List ℕ}
      → Told inclusion_contents (InclusionPromise bytes second u u-exit v v-exit entry exit) (InclusionPromise bytes' second' u' u-exit' v' v-exit' entry' exit')
  included_told = told inclusion_fits inclusion_fits (λ a b p q. inclusion_told a b)

  -- for one monitor, which a refused call hands back
  module _ {f : Monitor} where
    pub event_told : {letter letter' : ℕ} → Told moved_contents (EventPromise bytes f letter entry exit) (EventPromise bytes' f letter' entry' exit')
    event_told = told event_answer_fits event_answer_fits (λ a b p q. moved_told f _ _ a b p.monitor q.monitor)

    pub mark_told : Told moved_contents (MarkPromise bytes f entry exit) (MarkPromise bytes' f entry' exit')
    mark_told = told mark_answer_fits mark_answer_fits (λ a b p q. moved_told f _ _ a b p.monitor q.monitor)

    pub feed_told : {w w' : List ℕ} → Told moved_contents (FeedPromise bytes f w entry exit) (FeedPromise bytes' f w' entry' exit')
    feed_told = told feed_answer_fits feed_answer_fits (λ a b p q. moved_told f _ _ a b p.monitor q.monitor)

    pub keep_told : {name name' : ℕ} {points points-exit points' points-exit' : List ℕ}
        → Told moved_contents (KeepPromise bytes f name points points-exit entry exit) (KeepPromise bytes' f name' points' points-exit' entry' exit')
    keep_told = told keep_answer_fits keep_answer_fits (λ a b p q. moved_told f _ _ a b p.monitor q.monitor)

    pub return_told : {name name' : ℕ} {points points' : List ℕ}
        → Told moved_contents (ReturnPromise bytes f name points entry exit) (ReturnPromise bytes' f name' points' entry' exit')
    return_told = told return_answer_fits return_answer_fits (λ a b p q. moved_told f _ _ a b p.monitor q.monitor)

    pub advance_told : {step step' : Step} → Told advanced_contents (AdvancePromise 1 bytes f step entry exit) (AdvancePromise 1 bytes' f step' entry' exit')
    advance_told = told advance_fits advance_fits (λ a b p q. advanced_told f a b (advance_held a p) (advance_held b q))

    pub advance_word_told : {w w' : List ℕ} → Told advanced_contents (AdvanceWordPromise 1 bytes f w entry exit) (AdvanceWordPromise 1 bytes' f w' entry' exit')
    advance_word_told = told advance_word_fits advance_word_fits (λ a b p q. advanced_told f a b (advance_word_held a p) (advance_word_held b q))

  pub inspect_told : Told inspected_contents (InspectPromise bytes entry exit) (InspectPromise bytes' entry' exit')
  inspect_told = told inspected_fits inspected_fits (λ a b p q. inspected_told a b)

  module _ {out out-exit out' out-exit' : List ℕ} where
    pub classes_told : Told listed_contents (ListPromise bytes out out-exit entry exit) (ListPromise bytes' out' out-exit' entry' exit')
    classes_told = told listed_fits listed_fits (λ a b p q. listed_told a b)

    pub complement_told : Told written_contents (ComplementPromise bytes out out-exit entry exit) (ComplementPromise bytes' out' out-exit' entry' exit')
    complement_told = told complement_fits complement_fits (λ a b p q. written_told a b)

    pub reduce_told : {map map-exit map' map-exit' : List ℕ}
        → Told written_contents (ReducePromise bytes out out-exit map map-exit entry exit) (ReducePromise bytes' out' out-exit' map' map-exit' entry' exit')
    reduce_told = told reduce_fits reduce_fits (λ a b p q. written_told a b)

    pub combine_told : {second second' : List ℕ} {operation operation' : Operation}
        → Told written_contents (CombinePromise bytes second operation out out-exit entry exit) (CombinePromise bytes' second' operation' out' out-exit' entry' exit')
    combine_told = told combine_fits combine_fits (λ a b p q. written_told a b)

    pub next_told : Told written_contents (NextPromise bytes out out-exit entry exit) (NextPromise bytes' out' out-exit' entry' exit')
    next_told = told next_fits next_fits (λ a b p q. written_told a b)

    pub until_told : {second classes classes_exit second' classes' classes-exit' : List ℕ}
        → Told written_contents (UntilPromise bytes second out out-exit classes classes_exit entry exit)
        (UntilPromise bytes' second' out' out-exit' classes' classes-exit' entry' exit')
    until_told = told until_fits until_fits (λ a b p q. written_told a b)

    pub automaton_rule_told : Told written_contents (RulePromise bytes out out-exit entry exit) (RulePromise bytes' out' out-exit' entry' exit')
    automaton_rule_told = told automaton_fits automaton_fits (λ a b p q. written_told a b)

    pub rounds_told : {limit limit' : ℕ} → Told partition_contents (RoundsPromise bytes limit out out-exit entry exit) (RoundsPromise bytes' limit' out' out-exit' entry' exit')
    rounds_told = told rounds_fits rounds_fits (λ a b p q. partition_told a b)

    pub successor_list_told : {s e letter s' e' letter' : ℕ}
        → Told successors_contents (SuccessorsPromise bytes s e letter out out-exit entry exit) (SuccessorsPromise bytes' s' e' letter' out' out-exit' entry' exit')
    successor_list_told = told successors_fits successors_fits (λ a b p q. successors_told a b)

-- the board's calls: what a state that is too short gives, and what the others answer
module _ {Promise : Board → Posted → Type 0} {Kept : Type 0} {state state-exit : List ℕ} {r : ℕ} (x : ExportedBoardCall Promise Kept state state-exit r) where
  pub board_short_read : length state < state_size → unpack r ≡ refusal_at 13 1 0
  board_short_read h =
      ap unpack (x.short h).packed
      ∙ read_back (refusal_at 13 1 0) (record { number_some = omega arith; number_small = omega arith; input_small = omega arith; place_small = omega arith })

  module _ (h : state_size ≤ length state) where
    abbrev pub posted_board : Posted
    posted_board = (x.long h).answer

    board_read : Fits (notice_contents posted_board.board posted_board.notice) → unpack r ≡ notice_contents posted_board.board posted_board.notice
    board_read f = ap unpack (x.long h).packed ∙ read_back _ f

module _ {state state-exit files entry exit : List ℕ} {r : ℕ} (h : state_size ≤ length state) where
  pub board_enter_read : {name : ℕ} {file files-exit : List ℕ} (x : ExportedBoardEnter state state-exit name file files files-exit entry exit r)
      → unpack r ≡ notice_contents (posted_board x h).board (posted_board x h).notice
  board_enter_read x = board_read x h (board_enter_fits (x.long h).promise)

  pub board_leave_read : {name : ℕ} (x : ExportedBoardLeave state state-exit name files entry exit r)
      → unpack r ≡ notice_contents (posted_board x h).board (posted_board x h).notice
  board_leave_read x = board_read x h (board_leave_fits (x.long h).promise)

  pub board_event_read : {letter : ℕ} (x : ExportedBoardEvent state state-exit letter files entry exit r)
      → unpack r ≡ notice_contents (posted_board x h).board (posted_board x h).notice
  board_event_read x = board_read x h (board_event_fits (x.long h).promise)

  pub board_mark_read : (x : ExportedBoardMark state state-exit files entry exit r) → unpack r ≡ notice_contents (posted_board x h).board (posted_board x h).notice
  board_mark_read x = board_read x h (board_mark_fits (x.long h).promise)

pub board_empty_read : {state state-exit : List ℕ} {r : ℕ} (h : state_size ≤ length state) → ExportedBoardEmpty state state-exit r → unpack r ≡ fields 4 0 0
board_empty_read h x =
    ap unpack ((x.long h).packed ∙ ap (λ (answer : Posted). pack_notice answer.board answer.notice) (x.long h).promise)
    ∙ read_back (fields 4 0 0) (record { first = omega arith; second = omega arith; third = omega arith })
