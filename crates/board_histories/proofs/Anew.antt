-- Where a board agrees with the deeds, its lowest grade is the one that is worked out anew from the files and the words. Assumes nothing.
use Prim.Native.Nat.{ℕ, ◌<◌}
use mathlib.Core.Path.{◌≡◌, refl, sym, ◌∙◌, subst}
use mathlib.Core.Logic.{⊎_elim, inl, inr}
use mathlib.Core.List.{List}
use native.Mathlib.Omega.{arith}
use lib.ListN.{length}
use Rattle.theory.specs.Words.{Lasso}
use Rattle.theory.specs.Rules.{element, value}
use Rattle.theory.specs.Grades.{Graded, LassosGraded}
use Rattle.theory.proofs.Values.{element_apart, value_element as word-element, value_some}
use Rattle.theory.proofs.Gradings.{strong_lassos, has_grade, graded_small}
use Rattle.formats.specs.RuleFile.{letters_of, morphism_of, marking_of}
use Rattle.formats.proofs.GoodRule.{graded_marks}
use Rattle.promises.specs.Monitor.{no_value, value_of}
use Rattle.promises.specs.Histories.{Action, since_word, before_word}
use Rattle.promises.specs.Advance.{no_grade}
use Rattle.promises.proofs.MonitorValues.{value_none, value_element}
use Rattle.board_promises.specs.declared.Board.{Board}
use Rattle.board_promises.specs.Boards.{board_names_count, monitor_at, Counting, SomeCounting}
use Rattle.board_histories.specs.Histories.{Deed, Standing, nobody, stands, standing, CountsAnew, GradeAnew}
use Rattle.board_histories.proofs.Standing.{Present, Holds, holds_nobody, holds_rule, BoardAgrees, not_both}

pub present_of : {b : Board} {files : List ℕ} {i : ℕ} {file : List ℕ} {history : List Action} → Holds b files i (stands file history) → Present b files i file history
present_of (holds_rule p) = p

-- a rule that is present and the words of its history
module _ {b : Board} {files : List ℕ} {i : ℕ} {file : List ℕ} {history : List Action} (p : Present b files i file history) where
  -- since is none where no letter came since the last mark, and there only
  some_since : 0 < length (since_word history) → (monitor_at b i).since ≡ no_value → ⊥
  some_since some e =
      let v = word-element p.good.lawful p.follows.since_over some in
      element_apart (sym v.is ∙ sym p.follows.since_value ∙ value_none e)

  module _ (has_since : (monitor_at b i).since ≡ no_value → ⊥) where
    since_is : value (morphism_of file) (since_word history) ≡ element (monitor_at b i).since
    since_is = sym p.follows.since_value ∙ value_element has_since

    some_letter : 0 < length (since_word history)
    some_letter = value_some (morphism_of file) (since_word history) (monitor_at b i).since since_is

    its_lasso : Lasso (letters_of file) (before_word history) (since_word history)
    its_lasso = record { start_over = p.follows.before_over; cycle_over = p.follows.since_over; cycle_some = some_letter }

    -- the grade of its lasso is that of the lassos with its monitor's values
    values_graded : {grade : ℕ} → Graded (morphism_of file) (marking_of file) (before_word history) (since_word history) grade
        → LassosGraded (morphism_of file) (marking_of file) (value_of (monitor_at b i).before) (monitor_at b i).since grade
    values_graded = strong_lassos (before_word history) (since_word history) p.strong its_lasso (sym p.follows.before_value) since_is

    words_graded : {grade : ℕ} → LassosGraded (morphism_of file) (marking_of file) (value_of (monitor_at b i).before) (monitor_at b i).since grade
        → Graded (morphism_of file) (marking_of file) (before_word history) (since_word history) grade
    words_graded k = k.graded (before_word history) (since_word history) its_lasso (sym p.follows.before_value) since_is

module _ {b : Board} {files : List ℕ} {log : List Deed} (a : BoardAgrees b files log) where
  -- what counts by the deeds counts on the board
  counts_there : {i h : ℕ} → CountsAnew log i h → Counting b files i h
  counts_there {i} {h} c =
      let p : Present b files i c.file c.history = present_of (subst (Holds b files i) c.stands_there (a.names.holds i c.named)) in
      let some = some_since p c.some_letter in
      record {
        named = c.named;
        there = p.there;
        has_since = some;
        graded =
            subst (λ (bytes : List ℕ). LassosGraded (morphism_of bytes) (marking_of bytes) (value_of (monitor_at b i).before) (monitor_at b i).since h) (sym p.its_file)
            (values_graded p some c.graded);
      }

  -- and conversely
  counts_anew : {i h : ℕ} → Counting b files i h → CountsAnew log i h
  counts_anew {i} {h} c = go (standing log i) refl (a.names.holds i c.named)
    where
      go : (x : Standing) → standing log i ≡ x → Holds b files i x → CountsAnew log i h
      go nobody e (holds_nobody absent) = absurd (not_both b i c.there absent)
      go (stands file history) e (holds_rule p) = record {
        named = c.named;
        file = file;
        history = history;
        stands_there = e;
        some_letter = some_letter p c.has_since;
        graded =
            words_graded p c.has_since
            (subst (λ (bytes : List ℕ). LassosGraded (morphism_of bytes) (marking_of bytes) (value_of (monitor_at b i).before) (monitor_at b i).since h) p.its_file c.graded);
      }

  pub grade_anew : GradeAnew log b.lowest
  grade_anew = record {
    lowest = λ i h c. a.lowest.lowest i h (counts_there c);
    attained = ⊎_elim (λ e. inl e) (λ (s : SomeCounting b files b.lowest). inr (record { name = s.name; counts = counts_anew s.counts })) a.lowest.attained;
    none = λ e i h c. a.lowest.none e i h (counts_there c);
  }

  -- a rule that has heard an event since its last mark has a grade, so that the board's is not none
  pub grade_heard : {i : ℕ} {file : List ℕ} {history : List Action} → i < board_names_count → standing log i ≡ stands file history → 0 < length (since_word history) → b.lowest < no_grade
  grade_heard {i} {file} {history} h e some =
      let p : Present b files i file history = present_of (subst (Holds b files i) e (a.names.holds i h)) in
      let l : Lasso (letters_of file) (before_word history) (since_word history) =
      record { start_over = p.follows.before_over; cycle_over = p.follows.since_over; cycle_some = some } in
      let k = has_grade p.good.lawful (graded_marks p.good) l in
      let c : CountsAnew log i k.0 = record { named = h; file = file; history = history; stands_there = e; some_letter = some; graded = k.1 } in
      omega (arith, grade_anew.lowest i k.0 c, graded_small p.good.lawful (graded_marks p.good) k.1)
