-- The lowest grade of a finished pass is that of the board that a call makes: after a step, without the leaver, and with a rule that entered.
-- Assumes nothing.
use Prim.Native.Nat.{ℕ, ◌<◌}
use mathlib.Core.Path.{◌≡◌, refl, sym, ap, ◌∙◌, subst}
use mathlib.Core.Bool.{Bool, true, false}
use mathlib.Core.Logic.{inl, inr, ⊎_elim}
use mathlib.Core.List.{List}
use native.Mathlib.Omega.{arith}
use lib.ListN.{get_or}
use lib.Seq.{get_or-set_same, get_or-set_other}
use Rattle.theory.specs.Grades.{LassosGraded}
use Rattle.formats.specs.RuleFile.{morphism_of, marking_of}
use Rattle.promises.specs.declared.Monitor.{Monitor}
use Rattle.promises.specs.declared.Step.{Step}
use Rattle.promises.specs.declared.Step.TheVariants.{Stay}
use Rattle.promises.specs.Monitor.{no_value, value_of, fresh_monitor}
use Rattle.board_promises.specs.declared.Board.{Board}
use Rattle.board_promises.specs.Boards.{board_names_count, file_at, present_at, monitor_at, with_entered, with_left, moved_below, Counting, LowestGrade}
use Rattle.board_promises.specs.Monitors.{Whole, moved_at}
use Rattle.board_promises.proofs.Moved.{moved_flags, moved_monitor, set_here, set_elsewhere}
use Rattle.board_pass.specs.Passes.{Counts, LowestBelow}

-- a monitor with a grade, by its file
abbrev Stands : List ℕ → Monitor → ℕ → Type 0
Stands file f grade = LassosGraded (morphism_of file) (marking_of file) (value_of f.before) f.since grade

-- the names that count on the board that is made are those that counted in the pass
pub lowest_made : {b next : Board} {files made : List ℕ} {step : Step} {leaver grade : ℕ}
    → ((i : ℕ) → i < board_names_count → present_at next i ≡ true → ((monitor_at next i).since ≡ no_value → ⊥)
    → (present_at b i ≡ true) × ((i ≡ leaver → ⊥) × ((monitor_at next i ≡ moved_at b files step i) × (file_at made i ≡ file_at files i))))
    → ((i : ℕ) → i < board_names_count → present_at b i ≡ true → (i ≡ leaver → ⊥)
    → (present_at next i ≡ true) × ((monitor_at next i ≡ moved_at b files step i) × (file_at made i ≡ file_at files i)))
    → LowestBelow b files step leaver board_names_count grade → LowestGrade next made grade
lowest_made {b} {next} {files} {made} {step} {leaver} {grade} there back l = record {
  lowest = λ i h c. l.lowest i h c.named (counts i h c);
  attained = ⊎_elim (λ e. inl e) (λ s. inr (record { name = s.name; counts = counting s.name grade s.named s.counts })) l.attained;
  none = λ e i h c. l.none e i h c.named (counts i h c);
}
  where
    counts : (i h : ℕ) → Counting next made i h → Counts b files step leaver i h
    counts i h c =
        let k = there i c.named c.there c.has_since in
        record {
          there = k.0;
          stays = k.1.0;
          has_since = λ e. c.has_since (ap (λ (f : Monitor). f.since) k.1.1.0 ∙ e);
          graded = subst (λ (f : Monitor). Stands (file_at files i) f h) k.1.1.0 (subst (λ (file : List ℕ). Stands file (monitor_at next i) h) k.1.1.1 c.graded);
        }

    counting : (i h : ℕ) → i < board_names_count → Counts b files step leaver i h → Counting next made i h
    counting i h named c =
        let k = back i named c.there c.stays in
        record {
          named = named;
          there = k.0;
          has_since = λ e. c.has_since (ap (λ (f : Monitor). f.since) (sym k.1.0) ∙ e);
          graded = subst (λ (f : Monitor). Stands (file_at made i) f h) (sym k.1.0) (subst (λ (file : List ℕ). Stands file (moved_at b files step i) h) (sym k.1.1) c.graded);
        }

module _ {b : Board} (whole : Whole b) {files : List ℕ} where
  -- after a step of all
  pub lowest_moved : {step : Step} {grade : ℕ} → LowestBelow b files step board_names_count board_names_count grade → LowestGrade (moved_below files step b board_names_count) files grade
  lowest_moved {step} l =
      lowest_made
      (λ i named present since. let p = flags_same i present in (p, ((λ e. omega arith), (moved_monitor files step whole board_names_count i named named p, refl))))
      (λ i named present stays. (subst (λ (flags : List Bool). get_or flags i false ≡ true) (sym (moved_flags files step b board_names_count)) present, (moved_monitor files step whole board_names_count i named named present, refl))) l
    where
      flags_same : (i : ℕ) → present_at (moved_below files step b board_names_count) i ≡ true → present_at b i ≡ true
      flags_same i present = subst (λ (flags : List Bool). get_or flags i false ≡ true) (moved_flags files step b board_names_count) present

  -- without the leaver
  pub lowest_left : {name grade : ℕ} → name < board_names_count → LowestBelow b files Stay name board_names_count grade → LowestGrade (with_left b name) files grade
  lowest_left {name} h l =
      lowest_made
      (λ i named present since. let other = not_leaver i present in (sym (get_or-set_other b.present name i false false other) ∙ present, (other, (refl, refl))))
      (λ i named present stays. (get_or-set_other b.present name i false false stays ∙ present, (refl, refl))) l
    where
      not_leaver : (i : ℕ) → present_at (with_left b name) i ≡ true → i ≡ name → ⊥
      not_leaver i present e =
          let gone : present_at (with_left b name) i ≡ false = subst (λ (j : ℕ). present_at (with_left b name) j ≡ false) (sym e) (get_or-set_same b.present name false false (omega (arith, whole.flags))) in
          let z : ◌≡◌ {A = ℕ} 0 1 = cc in
          omega arith

  -- with a rule that entered under a name that was free; a fresh monitor does not count
  pub lowest_entered : {name grade : ℕ} {made : List ℕ} → name < board_names_count → present_at b name ≡ false → ((i : ℕ) → i < board_names_count → (i ≡ name → ⊥) → file_at made i ≡ file_at files i)
      → LowestBelow b files Stay board_names_count board_names_count grade → LowestGrade (with_entered b name) made grade
  lowest_entered {name} {grade} {made} h free kept l =
      lowest_made
      (λ i named present since. let other = not_fresh i since in
      (sym (get_or-set_other b.present name i true false other) ∙ present, ((λ e. omega arith), (set_elsewhere b other fresh_monitor, kept i named other))))
      (λ i named present stays. let other = not_free i present in
      (get_or-set_other b.present name i true false other ∙ present, (set_elsewhere b other fresh_monitor, kept i named other))) l
    where
      not_fresh : (i : ℕ) → ((monitor_at (with_entered b name) i).since ≡ no_value → ⊥) → i ≡ name → ⊥
      not_fresh i since e =
          since (subst (λ (j : ℕ). (monitor_at (with_entered b name) j).since ≡ no_value) (sym e) (ap (λ (f : Monitor). f.since) (set_here whole h fresh_monitor)))

      not_free : (i : ℕ) → present_at b i ≡ true → i ≡ name → ⊥
      not_free i present e =
          let gone : present_at b i ≡ false = subst (λ (j : ℕ). present_at b j ≡ false) (sym e) free in
          let z : ◌≡◌ {A = ℕ} 0 1 = cc in
          omega arith
