-- What `advance` and `advance_word` promise: a monitor moved by a step or by a word of events, and the grade that it then stands for, from one check of the
-- rule and one look at its strength. It is what the harbour board asks of the library for each rule present. Document 02, Job 14. Assumes nothing.
use Rattle.std.specs.Prelude.{ℕ, ◌≤◌, ◌≡◌, List, [], ◌∷◌, ◌++◌}
use Rattle.answer.specs.Checks.{Check, Verdict, passed, refused, FirstFailure}
use Rattle.theory.specs.Rules.{Morphism}
use Rattle.theory.specs.Pairs.{LeastExponent}
use Rattle.theory.specs.Grades.{LassosGraded}
use Rattle.formats.specs.RuleFile.{elements_of, letters_of, morphism_of, marking_of}
use Rattle.formats.specs.Calls.{after_call, checked_checks}
use Rattle.promises.specs.Weak.{weak_check}
use Rattle.promises.specs.Monitor.{no_value, value_of, monitor_value_check}
use Rattle.promises.specs.Moves.{after_event, after_mark, lone_letter_check}
use Rattle.promises.specs.EventWords.{log_checks, after_word}
use Rattle.promises.specs.declared.Monitor.{Monitor}
use Rattle.promises.specs.declared.Step.{Step}
use Rattle.promises.specs.declared.Step.TheVariants.{Event, Mark, Stay}
use Rattle.promises.specs.declared.Advanced.{Advanced}
use Rattle.promises.specs.declared.Advanced.TheVariants.{To, Refused}

-- the monitor after an event, after a mark, and as it is
abbrev pub after_step : Morphism → Monitor → Step → Monitor
after_step m f (Event letter) = after_event m f letter
after_step m f Mark = after_mark m f
after_step m f Stay = f

-- an event whose letter is none of k letters
abbrev pub ForeignStep : ℕ → Step → Type 0
ForeignStep k (Event letter) = k ≤ letter
ForeignStep k Mark = ⊥
ForeignStep k Stay = ⊥

-- "none", for a monitor whose since is none: one more than the highest grade, so that the lowest of some grades may begin with it
abbrev pub no_grade : ℕ
no_grade = 4

-- the grade of the lassos with a monitor's values, or none
pub record MonitorGrade (bytes : List ℕ) (f : Monitor) (grade : ℕ) : Type 0 where
  pub without : f.since ≡ no_value → grade ≡ no_grade
  pub has_since : (f.since ≡ no_value → ⊥) → LassosGraded (morphism_of bytes) (marking_of bytes) (value_of f.before) f.since grade

-- how many turns settle the value of its since, or none
pub record MonitorTurns (bytes : List ℕ) (f : Monitor) (turns : ℕ) : Type 0 where
  pub without : f.since ≡ no_value → turns ≡ 0
  pub has_since : (f.since ≡ no_value → ⊥) → LeastExponent (morphism_of bytes) f.since turns

-- "every call checks those present, strength and follower included", each as the input of its number: its file, its monitor (3), its strength (12)
abbrev pub standing_checks : ℕ → List ℕ → Monitor → List Check
standing_checks input bytes f = monitor_value_check input (elements_of bytes) f ∷ weak_check input bytes ∷ []

-- "First 13", then the rule's own checks, then those
abbrev pub strong_monitor_checks : ℕ → List ℕ → Monitor → List ℕ → List Check
strong_monitor_checks input bytes f scratch = checked_checks input bytes scratch ++ standing_checks input bytes f

-- 10 of a step: only an event can be foreign
abbrev pub foreign_checks : ℕ → ℕ → Step → List Check
foreign_checks input k (Event letter) = lone_letter_check input k letter ∷ []
foreign_checks input k Mark = []
foreign_checks input k Stay = []

-- and 10 last; of a word of events 11 and then 10
abbrev pub advance_checks : ℕ → List ℕ → Monitor → Step → List ℕ → List Check
advance_checks input bytes f step scratch = strong_monitor_checks input bytes f scratch ++ foreign_checks input (letters_of bytes) step

abbrev pub advance_word_checks : ℕ → List ℕ → Monitor → List ℕ → List ℕ → List Check
advance_word_checks input bytes f w scratch = strong_monitor_checks input bytes f scratch ++ log_checks input (letters_of bytes) w

-- document 01's number, input and place of an answer
abbrev pub advanced_verdict : Advanced → Verdict
advanced_verdict (To f grade turns) = passed
advanced_verdict (Refused f refusal input place) = refused refusal input place

-- the moved monitor with its grade and its turns
pub record AdvancedTo (bytes : List ℕ) (next g : Monitor) (grade turns : ℕ) : Type 0 where
  pub moved : g ≡ next
  pub graded : MonitorGrade bytes g grade
  pub settled : MonitorTurns bytes g turns

-- or after a refusal the same
abbrev pub AdvanceAnswer : List ℕ → Monitor → Monitor → Advanced → Type 0
AdvanceAnswer bytes f next (To g grade turns) = AdvancedTo bytes next g grade turns
AdvanceAnswer bytes f next (Refused g refusal input place) = g ≡ f

pub record AdvancePromise (input : ℕ) (bytes : List ℕ) (f : Monitor) (step : Step) (entry exit : List ℕ) (answer : Advanced) : Type 0 where
  pub refusal : FirstFailure (advance_checks input bytes f step entry) (advanced_verdict answer)
  pub answered : AdvanceAnswer bytes f (after_step (morphism_of bytes) f step) answer
  pub scratch : exit ≡ after_call entry

pub record AdvanceWordPromise (input : ℕ) (bytes : List ℕ) (f : Monitor) (w entry exit : List ℕ) (answer : Advanced) : Type 0 where
  pub refusal : FirstFailure (advance_word_checks input bytes f w entry) (advanced_verdict answer)
  pub answered : AdvanceAnswer bytes f (after_word (morphism_of bytes) f w) answer
  pub scratch : exit ≡ after_call entry
