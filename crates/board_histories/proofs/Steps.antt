-- Each call that was not refused makes a board and files that agree with one deed more. Assumes nothing.
use Prim.Native.Nat.{ℕ, ◌+◌, ◌*◌, ◌≤◌, ◌<◌}
use mathlib.Core.Path.{◌≡◌, refl, sym, ap, ◌∙◌, subst}
use mathlib.Core.Bool.{Bool, true, false, cond}
use mathlib.Core.Logic.{inl, by_cases}
use mathlib.Core.List.{List, [], ◌∷◌}
use native.Mathlib.Omega.{arith}
use native.Mathlib.Decide.{ℕ_discrete}
use borrow.Author.Tests.{eq-eqb, ne_eqb}
use lib.Dec.{eqb}
use lib.ListN.{length, get_or, length-set, get_or-replicate}
use lib.Seq.{get_or-set_same, get_or-set_other}
use Rattle.answer.specs.Checks.{passed, FirstFailure}
use Rattle.formats.specs.RuleFile.{letters_of, morphism_of}
use Rattle.formats.specs.RuleChecks.{rule_size}
use Rattle.promises.specs.declared.Monitor.{Monitor}
use Rattle.promises.specs.declared.Step.{Step}
use Rattle.promises.specs.declared.Step.TheVariants.{Event, Mark}
use Rattle.promises.specs.Monitor.{fresh_monitor}
use Rattle.promises.specs.Advance.{after_step}
use Rattle.promises.specs.Histories.{Action, event, mark, Follows}
use Rattle.promises.proofs.Histories.{fresh_follows, after_event_lem, after_mark_lem}
use Rattle.board_promises.specs.declared.Board.{Board}
use Rattle.board_promises.specs.declared.Notice.TheVariants.{Done}
use Rattle.board_promises.specs.Boards.{board_names_count, empty_board, file_at, present_at, monitor_at, with_entered, with_left, moved_below, Counting}
use Rattle.board_promises.specs.Checks.{enter_checks, board_event_checks}
use Rattle.board_promises.specs.Promises.{files_after_enter}
use Rattle.board_promises.proofs.SmallFiles.{whole_file, short_file}
use Rattle.board_promises.proofs.Slots.{file_placed}
use Rattle.board_promises.proofs.Places.{pasted_file, others_kept}
use Rattle.board_promises.proofs.Moved.{moved_flags, moved_whole, moved_monitor, set_here, set_elsewhere}
use Rattle.board_histories.specs.Histories.{Deed, entered, left, moved, Standing, nobody, stands, hears, standing}
use Rattle.board_histories.proofs.Passed.{enter_room, enter_named, enter_checked, enter_good, enter_strong, event_letter}
use Rattle.board_histories.proofs.Standing.{Present, Holds, holds_nobody, holds_rule, NamesAgree, BoardAgrees, not_both, same_holds}

-- an empty board, before any deed
pub empty_agrees : (files : List ℕ) → BoardAgrees empty_board files []
unfolding standing
empty_agrees files = record {
  names = record { whole = record { flags = refl; befores = refl; sinces = refl }; holds = λ i h. holds_nobody (absent i h) };
  lowest = record { lowest = λ i h c. absurd (none i h c); attained = inl refl; none = λ e i h c. none i h c };
}
  where
    absent : (i : ℕ) → i < board_names_count → present_at empty_board i ≡ false
    absent i h = get_or-replicate board_names_count i false false h

    none : (i h : ℕ) → Counting empty_board files i h → ⊥
    none i h c = not_both empty_board i c.there (absent i c.named)

-- what stands under a name that a deed names, and under another
at_name : (P : Standing → Type 0) {x y : Standing} {i name : ℕ} → (i ≡ name → P x) → ((i ≡ name → ⊥) → P y) → P (cond (eqb i name) x y)
at_name P {x} {y} {i} {name} here elsewhere =
    by_cases (ℕ_discrete i name) (λ (e : i ≡ name). subst (λ (t : Bool). P (cond t x y)) (sym (eq-eqb i name e)) (here e))
    (λ other. subst (λ (t : Bool). P (cond t x y)) (sym (ne_eqb i name other)) (elsewhere other))

module _ {b : Board} {files : List ℕ} {log : List Deed} (s : NamesAgree b files log) where
  -- a rule enters, with a fresh monitor
  module _ (name : ℕ) (file entry : List ℕ) (all : FirstFailure (enter_checks b name file files entry) passed) where
    named : name < board_names_count
    named = enter_named b name file files entry all

    short : length file ≤ rule_size
    short = short_file name file (enter_checked b name file files entry all)

    place_room : rule_size * name + length file ≤ length files
    place_room = omega (arith, enter_room b name file files entry all, named, short)

    now_present : Present (with_entered b name) (files_after_enter name file files Done) name file []
    now_present = record {
      there = get_or-set_same b.present name true false (omega (arith, named, s.whole.flags));
      its_file = file_placed files file name (omega (arith, place_room)) (whole_file name file (enter_checked b name file files entry all)) short;
      good = enter_good b name file files entry all;
      strong = enter_strong b name file files entry all;
      follows = subst (λ (f : Monitor). Follows file f []) (sym (set_here s.whole named fresh_monitor)) (fresh_follows file);
    }

    pub enter_agrees : NamesAgree (with_entered b name) (files_after_enter name file files Done) (entered name file ∷ log)
    unfolding standing
    enter_agrees = record {
      whole = record {
        flags = length-set b.present name true ∙ s.whole.flags;
        befores = length-set b.before name fresh_monitor.before ∙ s.whole.befores;
        sinces = length-set b.since name fresh_monitor.since ∙ s.whole.sinces;
      };
      holds = λ i h.
          at_name (Holds (with_entered b name) (files_after_enter name file files Done) i)
          (λ (e : i ≡ name). subst (λ (k : ℕ). Holds (with_entered b name) (files_after_enter name file files Done) k (stands file [])) (sym e) (holds_rule now_present))
          (λ other. same_holds (record {
            flags = get_or-set_other b.present name i true false other;
            monitors = set_elsewhere b other fresh_monitor;
            same_file = λ there.
                ap (λ (l : List ℕ). file_at l i) (sym (pasted_file files file (rule_size * name))) ∙ others_kept files file name place_room short i other;
          }) (s.holds i h));
    }

  -- a rule leaves
  pub leave_agrees : (name : ℕ) → NamesAgree (with_left b name) files (left name ∷ log)
  unfolding standing
  leave_agrees name = record {
    whole = record { flags = length-set b.present name false ∙ s.whole.flags; befores = s.whole.befores; sinces = s.whole.sinces };
    holds = λ i h.
        at_name (Holds (with_left b name) files i)
        (λ (e : i ≡ name). subst (λ (k : ℕ). Holds (with_left b name) files k nobody) (sym e)
        (holds_nobody (get_or-set_same b.present name false false (omega (arith, h, s.whole.flags)))))
        (λ other. same_holds (record { flags = get_or-set_other b.present name i false false other; monitors = refl; same_file = λ there. refl }) (s.holds i h));
  }

  -- an event or a mark goes to all present
  module _ (step : Step) (action : Action)
      (follows : (i : ℕ) → i < board_names_count → (file : List ℕ) (history : List Action) → Present b files i file history
      → Follows file (after_step (morphism_of file) (monitor_at b i) step) (action ∷ history)) where
    same_flag : (i : ℕ) → present_at (moved_below files step b board_names_count) i ≡ present_at b i
    same_flag i = ap (λ (l : List Bool). get_or l i false) (moved_flags files step b board_names_count)

    heard : (i : ℕ) → i < board_names_count → {x : Standing} → Holds b files i x → Holds (moved_below files step b board_names_count) files i (hears action x)
    unfolding hears
    heard i h (holds_nobody e) = holds_nobody (same_flag i ∙ e)
    heard i h (holds_rule {file} {history} p) = holds_rule (record {
      there = same_flag i ∙ p.there;
      its_file = p.its_file;
      good = p.good;
      strong = p.strong;
      follows =
          subst (λ (f : Monitor). Follows file f (action ∷ history)) (sym (moved_monitor files step s.whole board_names_count i h h p.there))
          (subst (λ (bytes : List ℕ). Follows file (after_step (morphism_of bytes) (monitor_at b i) step) (action ∷ history)) (sym p.its_file) (follows i h file history p));
    })

    move_agrees : NamesAgree (moved_below files step b board_names_count) files (moved action ∷ log)
    unfolding standing
    move_agrees = record { whole = moved_whole files step b s.whole board_names_count; holds = λ i h. heard i h (s.holds i h) }

  pub event_agrees : (letter : ℕ) (entry : List ℕ) → FirstFailure (board_event_checks b letter files entry) passed
      → NamesAgree (moved_below files (Event letter) b board_names_count) files (moved (event letter) ∷ log)
  event_agrees letter entry all =
      move_agrees (Event letter) (event letter) (λ i h file history p.
      after_event_lem file p.good p.follows letter
      (subst (λ (bytes : List ℕ). letter < letters_of bytes) p.its_file (event_letter b files letter all i h p.there)))

  pub mark_agrees : NamesAgree (moved_below files Mark b board_names_count) files (moved mark ∷ log)
  mark_agrees = move_agrees Mark mark (λ i h file history p. after_mark_lem file p.good p.follows)
