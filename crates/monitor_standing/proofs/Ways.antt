-- What each way through the checks of a strong rule and its monitor shows. Assumes nothing.
use Rattle.std.specs.Prelude.{Result}
use Rattle.answer.specs.declared.Refused.{Refused}
use Rattle.std.specs.Prelude.{Ok, Err}
use Rattle.answer.proofs.Parts.{refused_by}
use Prim.Native.Nat.{ℕ}
use mathlib.Core.Path.{◌≡◌, refl, sym, subst}
use mathlib.Core.Bool.{Bool, true, false}
use mathlib.Core.List.{List}
use lib.ListN.{length, replicate}
use Rattle.answer.specs.declared.Refusal.{Refusal}
use Rattle.answer.specs.declared.Refusal.TheVariants.{EntryOutOfRange, NotStrong}
use Rattle.theory.specs.Rules.{Morphism}
use Rattle.theory.specs.Grades.{LassosGraded}
use Rattle.formats.specs.Table.{morphism_at}
use Rattle.formats.specs.RuleFile.{morphism_of, marking_of}
use Rattle.rule_layout.specs.declared.Shape.{Shape}
use Rattle.rule_check.specs.Answers.{CheckPromise}
use Rattle.rule_check.proofs.Calls.{zeros_left, checked_length, shape_morphism}
use Rattle.mark_strong.specs.Deciding.{StrongIf, Decided}
use Rattle.mark_strong.proofs.Calling.{checked_table, checked_lawful, checked_graded, marks_stand, decide_place, decided_file, decided_left, decided_room}
use Rattle.promises.specs.declared.Monitor.{Monitor}
use Rattle.promises.specs.Monitor.{value_of}
use Rattle.promises.specs.Advance.{MonitorGrade}
use Rattle.promises.proofs.MonitorOrder.{Stray}
use Rattle.promises.proofs.AdvanceOrder.{file_first, values_next, weak_next, strong_passes}
use Rattle.monitor_state.specs.Ready.{GoodMonitor, StrayAnswer}
use Rattle.monitor_state.proofs.Numbers.{good_monitor}
use Rattle.monitor_judging.proofs.Judging.{look_graded}
use Rattle.verdict_call.proofs.Values.{start_graded, values_judgeable}
use Rattle.monitor_standing.specs.Standing.{GradeRead, Stands, StandingAnswer}

module _ (input : ℕ) (bytes : List ℕ) (f : Monitor) (entry : List ℕ) where
  -- the rule is refused
  pub rule_refused : {exit : List ℕ} {r : Refusal} {i place : ℕ} → CheckPromise input bytes entry exit (Err (refused_by r i place))
      → StandingAnswer input bytes f entry exit (Err (refused_by r i place))
  rule_refused {r = r} {i = i} {place = place} p = (file_first input bytes f entry r i place p.refusal, p.scratch)

  module _ {shape : Shape} {mid : List ℕ} (p : CheckPromise input bytes entry mid (Ok shape)) where
    -- a value of the monitor is stray
    pub monitor_stray : {exit : List ℕ} → StrayAnswer shape.elements f true → exit ≡ replicate (length mid) 0
        → StandingAnswer input bytes f entry exit (Err (refused_by EntryOutOfRange input 0))
    monitor_stray {exit} s z = (
      values_next input bytes f entry p.refusal (subst (λ (n : ℕ). StrayAnswer n f true) p.scratch.shape_is.elements s),
      zeros_left input bytes entry p.refusal mid exit (checked_length p.scratch) z,
    )

    module _ (good : GoodMonitor shape.elements f) {strong : Bool} {after : List ℕ} (d : Decided (morphism_at bytes shape.elements shape.letters) mid after strong) where
      fits : ¬ Stray bytes f
      fits s = good_monitor good (subst (λ (n : ℕ). StrayAnswer n f true) (sym p.scratch.shape_is.elements) s)

      said_strength : {b : Bool} → strong ≡ b → StrongIf (morphism_of bytes) (marking_of bytes) b
      said_strength e = subst (StrongIf (morphism_of bytes) (marking_of bytes)) e (decided_file input bytes entry p d)

      -- the rule is weak
      pub rule_weak : {exit : List ℕ} → strong ≡ false → exit ≡ replicate (length after) 0 → StandingAnswer input bytes f entry exit (Err (refused_by NotStrong input 0))
      rule_weak {exit} e z = (weak_next input bytes f entry p.refusal fits (said_strength e), decided_left input bytes entry p d after exit refl z)

      -- what is read in the closure is the grade of the file's lassos
      grade_told : strong ≡ true → (g : Monitor) (grade : ℕ) → GoodMonitor shape.elements g → GradeRead (morphism_at bytes shape.elements shape.letters) after g grade
          → MonitorGrade bytes g grade
      grade_told e g grade ok read = record {
        without = read.without;
        has_since = λ some.
            let b = values_judgeable shape.elements g ok some in
            subst (λ (m : Morphism). LassosGraded m (marking_of bytes) (value_of g.before) g.since grade) (shape_morphism p.scratch.shape_is)
            (start_graded g
            (look_graded (decide_place input bytes entry p) b.start_inside b.since_inside d (read.has_since some) e (marking_of bytes)
            (checked_graded input bytes entry p) (marks_stand input bytes entry p)));
      }

      -- nothing is refused
      pub rule_stands : strong ≡ true → StandingAnswer input bytes f entry after (Ok shape)
      rule_stands e = record {
        passes = strong_passes input bytes f entry p.refusal fits (said_strength e);
        shape_is = p.scratch.shape_is;
        table = checked_table input bytes entry p;
        lawful = checked_lawful input bytes entry p;
        good = good;
        room = decided_room input bytes entry p d;
        zeros = λ exit z. decided_left input bytes entry p d after exit refl z;
        grades = grade_told e;
      }

-- the answer, known by its case
module _ (input : ℕ) (bytes : List ℕ) (f : Monitor) (entry exit : List ℕ) (answer : Result Shape Refused) (known : StandingAnswer input bytes f entry exit answer) where
  pub said_stands : {shape : Shape} → answer ≡ Ok shape → Stands input bytes f entry exit shape
  said_stands e = subst (StandingAnswer input bytes f entry exit) e known

  pub said_refused : {r : Refusal} {i place : ℕ} → answer ≡ Err (refused_by r i place) → StandingAnswer input bytes f entry exit (Err (refused_by r i place))
  said_refused e = subst (StandingAnswer input bytes f entry exit) e known
