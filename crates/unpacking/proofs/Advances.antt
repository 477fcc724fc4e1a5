-- What `advance` and `advance_word` answer keeps to the limits of packing: a grade up to 4 and at most 64 turns go in one field. Assumes nothing.
use Prim.Native.Nat.{ℕ, ◌+◌, ◌*◌, ◌≤◌}
use mathlib.Core.Path.{refl, sym, subst}
use mathlib.Core.Logic.{by_cases}
use mathlib.Core.List.{List}
use native.Mathlib.Omega.{arith}
use native.Mathlib.Decide.{ℕ_discrete}
use Rattle.answer.specs.Checks.{passed, FirstFailure}
use Rattle.answer.proofs.Order.{passed_first, passed_last, passes_head}
use Rattle.answer.proofs.Limits.{Limited, limited_nil, limited_cons, limited_append}
use Rattle.theory.proofs.Gradings.{lassos_small}
use Rattle.theory.specs.Pairs.{LeastExponent}
use Rattle.formats.specs.RuleFile.{elements_of, letters_of, morphism_of}
use Rattle.formats.specs.Calls.{checked_checks}
use Rattle.formats.proofs.GoodRule.{GoodRule, graded_marks, called_good}
use Rattle.promises.specs.declared.Monitor.{Monitor}
use Rattle.promises.specs.declared.Step.{Step}
use Rattle.promises.specs.declared.Step.TheVariants.{Event, Mark, Stay}
use Rattle.promises.specs.declared.Advanced.{Advanced}
use Rattle.promises.specs.declared.Advanced.TheVariants.{To, Refused}
use Rattle.promises.specs.Monitor.{no_value, MonitorValueOutOfRangeAt}
use Rattle.promises.specs.Moves.{LoneUnknownLetterAt}
use Rattle.promises.specs.Weak.{WeakAt}
use Rattle.promises.specs.Advance.{strong_monitor_checks, foreign_checks, MonitorGrade, MonitorTurns, AdvancedTo, AdvancePromise, AdvanceWordPromise}
use Rattle.promises.proofs.EventWords.{known_step, log_over}
use Rattle.packing_monitors.specs.Monitors.{advanced_contents}
use Rattle.packing_monitors.proofs.Contents.{Held}
use Rattle.packing.proofs.ReadBack.{FieldsFit, Fits}
use Rattle.unpacking.proofs.Limits.{Near, refused_fits, at_zero, checked_limited, log_limited}
use Rattle.unpacking.proofs.Monitors.{SmallValues, Unstray, step_small, word_small}

-- the checks
strong_monitor_limited : (bytes : List ℕ) (f : Monitor) (entry : List ℕ) → Limited Near (strong_monitor_checks 1 bytes f entry)
strong_monitor_limited bytes f entry =
    limited_append (checked_checks 1 bytes entry) (checked_limited bytes entry)
    (λ _. limited_cons (λ place (a : MonitorValueOutOfRangeAt _ _ place). at_zero a.is_place)
    (λ _. limited_cons (λ place (a : WeakAt _ place). at_zero a.is_place) (λ _. limited_nil)))

foreign_limited : (k : ℕ) (step : Step) → Limited Near (foreign_checks 1 k step)
foreign_limited k (Event letter) = limited_cons (λ place (a : LoneUnknownLetterAt _ _ place). at_zero a.is_place) (λ _. limited_nil)
foreign_limited k Mark = limited_nil
foreign_limited k Stay = limited_nil

-- the grade, and the turns
module _ {bytes : List ℕ} (rule : GoodRule bytes) {f : Monitor} where
  grade_small : {grade : ℕ} → MonitorGrade bytes f grade → grade ≤ 4
  grade_small {grade} g =
      by_cases (ℕ_discrete f.since no_value) (λ none. let e = g.without none in omega arith)
      (λ some. let h = lassos_small rule.lawful (graded_marks rule) (g.has_since some) in omega arith)

  turns_small : {turns : ℕ} → MonitorTurns bytes f turns → turns ≤ 64
  turns_small {turns} t =
      by_cases (ℕ_discrete f.since no_value) (λ none. let e = t.without none in omega arith)
      (λ some. (let l : LeastExponent (morphism_of bytes) f.since turns = t.has_since some in omega (arith, rule.table.small, l.is_exponent, l.below)))

  moved_fits : {next : Monitor} {grade turns : ℕ} → SmallValues next → AdvancedTo bytes next f grade turns → FieldsFit f.before f.since (grade + 256 * turns)
  moved_fits small a =
      let values = subst SmallValues (sym a.moved) small in
      let grade = grade_small a.graded in
      let turns = turns_small a.settled in
      record { first = omega (arith, values.before_small); second = omega (arith, values.since_small); third = omega arith }

-- a rule that passed
module _ (bytes : List ℕ) (f : Monitor) (entry : List ℕ) (all : FirstFailure (strong_monitor_checks 1 bytes f entry) passed) where
  rule_of_lem : GoodRule bytes
  rule_of_lem = called_good 1 bytes entry (passed_first (checked_checks 1 bytes entry) _ all)

  unstray_of : Unstray (elements_of bytes) f
  unstray_of s = (passes_head (passed_last (checked_checks 1 bytes entry) _ all)).nowhere 0 (record { stray = s; is_place = refl })

module _ {bytes : List ℕ} {f : Monitor} {entry exit : List ℕ} where
  pub advance_fits : {step : Step} (answer : Advanced) → AdvancePromise 1 bytes f step entry exit answer → Fits (advanced_contents answer)
  advance_fits {step} (To g grade turns) p =
      let stands = passed_first (strong_monitor_checks 1 bytes f entry) _ p.refusal in
      let known = known_step 1 (letters_of bytes) step (passed_last (strong_monitor_checks 1 bytes f entry) _ p.refusal) in
      moved_fits (rule_of_lem bytes f entry stands) (step_small (rule_of_lem bytes f entry stands) (unstray_of bytes f entry stands) step known) p.answered
  advance_fits {step} (Refused g r i place) p =
      refused_fits r (limited_append (strong_monitor_checks 1 bytes f entry) (strong_monitor_limited bytes f entry) (λ _. foreign_limited (letters_of bytes) step)) p.refusal

  pub advance_held : {step : Step} (answer : Advanced) → AdvancePromise 1 bytes f step entry exit answer → Held f answer
  advance_held (To g grade turns) p =
      let stands = passed_first (strong_monitor_checks 1 bytes f entry) _ p.refusal in
      let small = grade_small (rule_of_lem bytes f entry stands) p.answered.graded in
      omega arith
  advance_held (Refused g r i place) p = p.answered

  pub advance_word_fits : {w : List ℕ} (answer : Advanced) → AdvanceWordPromise 1 bytes f w entry exit answer → Fits (advanced_contents answer)
  advance_word_fits {w} (To g grade turns) p =
      let stands = passed_first (strong_monitor_checks 1 bytes f entry) _ p.refusal in
      let over = log_over 1 (letters_of bytes) w (passed_last (strong_monitor_checks 1 bytes f entry) _ p.refusal) in
      moved_fits (rule_of_lem bytes f entry stands) (word_small (rule_of_lem bytes f entry stands) (unstray_of bytes f entry stands) over) p.answered
  advance_word_fits {w} (Refused g r i place) p =
      refused_fits r (limited_append (strong_monitor_checks 1 bytes f entry) (strong_monitor_limited bytes f entry) (λ _. log_limited (letters_of bytes) w)) p.refusal

  pub advance_word_held : {w : List ℕ} (answer : Advanced) → AdvanceWordPromise 1 bytes f w entry exit answer → Held f answer
  advance_word_held (To g grade turns) p =
      let stands = passed_first (strong_monitor_checks 1 bytes f entry) _ p.refusal in
      let small = grade_small (rule_of_lem bytes f entry stands) p.answered.graded in
      omega arith
  advance_word_held (Refused g r i place) p = p.answered
