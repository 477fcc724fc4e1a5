-- The checks of the board's calls, in their order. Document 02, Job 14. Assumes nothing.
use Rattle.std.specs.Prelude.{ℕ, zero, suc, ◌≤◌, ◌≡◌, true, false, cond, ◌⊎◌, List, [], ◌∷◌, ◌++◌}
use Rattle.answer.specs.declared.Refusal.TheVariants.{NameNotFree, NameNotPresent}
use Rattle.answer.specs.Checks.{Check}
use Rattle.formats.specs.RuleFile.{letters_of}
use Rattle.formats.specs.RuleChecks.{buffer_check, scratch_size, rule_checks}
use Rattle.promises.specs.Weak.{weak_check}
use Rattle.promises.specs.Moves.{lone_letter_check}
use Rattle.promises.specs.Advance.{standing_checks}
use Rattle.board_promises.specs.declared.Board.{Board}
use Rattle.board_promises.specs.Boards.{board_names_count, files_size, file_at, present_at, monitor_at}

-- "First 13", of both buffers
abbrev pub buffers_checks : List ℕ → List ℕ → List Check
buffers_checks files scratch = buffer_check files_size files ∷ buffer_check scratch_size scratch ∷ []

-- "21, entering under a name above 7 or taken"; place 0
pub record NotFreeAt (b : Board) (name place : ℕ) : Type 0 where
  pub not_free : (board_names_count ≤ name) ⊎ (present_at b name ≡ true)
  pub is_place : place ≡ 0

abbrev pub free_check : Board → ℕ → Check
free_check b name = record { refusal = NameNotFree; input = 1; Fails = NotFreeAt b name }

-- "22, leaving a name not there"; place 0
pub record NotPresentAt (b : Board) (name place : ℕ) : Type 0 where
  pub not_there : (board_names_count ≤ name) ⊎ (present_at b name ≡ false)
  pub is_place : place ≡ 0

abbrev pub present_check : Board → ℕ → Check
present_check b name = record { refusal = NameNotPresent; input = 1; Fails = NotPresentAt b name }

-- a name that is present: its file, its monitor (3), its strength (12), "with the rule's name as input and a place counted from its file's
-- start"
abbrev pub name_checks : Board → List ℕ → ℕ → List Check
name_checks b files i = cond (present_at b i) (rule_checks i (file_at files i) ++ standing_checks i (file_at files i) (monitor_at b i)) []

-- "every call checks those present, .. lowest name first": count names from the i-th on
unfoldable pub names_checks : Board → List ℕ → ℕ → ℕ → List Check
names_checks b files i zero = []
names_checks b files i (suc count) = name_checks b files i ++ names_checks b files (suc i) count

abbrev pub all_checks : Board → List ℕ → List Check
all_checks b files = names_checks b files 0 board_names_count

-- "An event foreign to a rule is refused by 10 .., with its name as input, the lowest if several"
abbrev pub letter_checks : Board → List ℕ → ℕ → ℕ → List Check
letter_checks b files letter i =
    cond (present_at b i) (lone_letter_check i (letters_of (file_at files i)) letter ∷ []) []

unfoldable pub letters_checks : Board → List ℕ → ℕ → ℕ → ℕ → List Check
letters_checks b files letter i zero = []
letters_checks b files letter i (suc count) = letter_checks b files letter i ++ letters_checks b files letter (suc i) count

-- "An entering file comes after those present, its name as input": its own checks, in its own length, then its strength
abbrev pub enter_checks : Board → ℕ → List ℕ → List ℕ → List ℕ → List Check
enter_checks b name file files scratch = buffers_checks files scratch ++ free_check b name ∷ (all_checks b files ++ (rule_checks name file ++ weak_check name file ∷ []))

abbrev pub leave_checks : Board → ℕ → List ℕ → List ℕ → List Check
leave_checks b name files scratch = buffers_checks files scratch ++ present_check b name ∷ all_checks b files

-- "refused by 10 after those checks"
abbrev pub board_event_checks : Board → ℕ → List ℕ → List ℕ → List Check
board_event_checks b letter files scratch = buffers_checks files scratch ++ (all_checks b files ++ letters_checks b files letter 0 board_names_count)

abbrev pub board_mark_checks : Board → List ℕ → List ℕ → List Check
board_mark_checks b files scratch = buffers_checks files scratch ++ all_checks b files
