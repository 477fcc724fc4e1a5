-- What each way through the board's calls promises. Assumes nothing.
use Prim.Native.Nat.{ℕ, ◌+◌, ◌*◌, ◌≤◌, ◌<◌}
use mathlib.Core.Path.{◌≡◌, refl, sym, ap, ◌∙◌, subst}
use mathlib.Core.Bool.{true, false}
use mathlib.Core.Logic.{◌⊎◌, ⊎_elim}
use mathlib.Core.List.{List, [], ◌∷◌, ◌++◌, append-nil}
use native.Mathlib.Omega.{arith}
use lib.ListN.{length, replicate}
use lib.Seq.{paste}
use Rattle.answer.specs.declared.Refusal.{Refusal}
use Rattle.answer.specs.declared.Refusal.TheVariants.{BufferTooShort, UnknownLetter, NameNotFree, NameNotPresent}
use Rattle.answer.specs.Checks.{Check, Verdict, Passes, passed, refused, FirstFailure}
use Rattle.answer.proofs.Order.{FirstCase, decides_now, hands_on, first_case, first_passes, first_fails, none_left, refused_before, passed_before, passed_first, passed_last}
use Rattle.formats.specs.RuleFile.{elements_of, letters_of}
use Rattle.formats.specs.RuleChecks.{rule_size, scratch_size, rule_checks}
use Rattle.promises.specs.declared.Monitor.{Monitor}
use Rattle.promises.specs.declared.Step.{Step}
use Rattle.promises.specs.declared.Step.TheVariants.{Event, Mark, Stay}
use Rattle.promises.specs.declared.Advanced.{Advanced}
use Rattle.promises.specs.declared.Advanced.TheVariants.{To, Refused as Refused-answer}
use Rattle.promises.specs.Monitor.{fresh_monitor, monitor_value_check, MonitorValueOutOfRangeAt}
use Rattle.promises.specs.Weak.{weak_check}
use Rattle.promises.specs.Advance.{ForeignStep, AdvancePromise, advanced_verdict, strong_monitor_checks, advance_checks}
use Rattle.board_promises.specs.declared.Board.{Board}
use Rattle.board_promises.specs.declared.Notice.{Notice}
use Rattle.board_promises.specs.declared.Notice.TheVariants.{Done, Refused}
use Rattle.board_promises.specs.declared.Posted.{Posted}
use Rattle.board_promises.specs.Boards.{board_names_count, files_size, file_at, present_at, with_lowest, with_entered, with_left, moved_below}
use Rattle.board_promises.specs.Checks.{buffers_checks, free_check, present_check, NotFreeAt, NotPresentAt, all_checks, leave_checks}
use Rattle.board_promises.specs.Promises.{notice_verdict, BoardHandsBack, files_after_enter, EnterPromise, LeavePromise, BoardMarkPromise}
use Rattle.board_promises.specs.Monitors.{Whole}
use Rattle.board_promises.proofs.SmallFiles.{short_file}
use Rattle.board_promises.proofs.Letters.{letters_pass, letters_refuse}
use Rattle.board_promises.proofs.Places.{pasted_file, others_kept}
use Rattle.board_values.specs.Presence.{PresentAnswer, FreeAnswer}
use Rattle.board_answers.specs.declared.Pass.{Pass}
use Rattle.board_answers.specs.Answers.{PassAnswer, pass_refuses, pass_done, StepAnswer, step_refuses, step_foreign, step_done, EntryTold}
use Rattle.board_answers.proofs.Notices.{not_done}
use Rattle.board_pass.specs.Passes.{Cleared, LowestBelow, FirstForeign, AllKnown, PassAt}
use Rattle.board_pass.proofs.ClearedScratch.{after_long, call_leaves}
use Rattle.board.specs.Calls.{step_checks, CallPromise, Admitted}
use Rattle.board.proofs.Rooms.{rooms_short, left_short, rooms_long, left_long}
use Rattle.board.proofs.Graded.{lowest_moved, lowest_left, lowest_entered}

-- a refusal among the first checks is the verdict, whatever follows
stays_refused : (checks more : List Check) (notice : Notice) → (notice ≡ Done → ⊥) → FirstFailure checks (notice_verdict notice) → FirstFailure (checks ++ more) (notice_verdict notice)
stays_refused checks more Done not f = absurd (not refl)
stays_refused checks more (Refused refusal input place) not f = refused_before checks more f

-- and hands the board back
back_refused : (b next : Board) (files : List ℕ) (notice : Notice) → (notice ≡ Done → ⊥) → BoardHandsBack b next files b notice
back_refused b next files Done not = absurd (not refl)
back_refused b next files (Refused refusal input place) not = refl

-- the verdict and the board of a call that has passed over the buffers' checks
pub record Decided (checks : List Check) (b next : Board) (files : List ℕ) (answer : Posted) : Type 0 where
  pub refusal : FirstFailure checks (notice_verdict answer.notice)
  pub board : BoardHandsBack b next files answer.board answer.notice

-- by the answer that was made
decided_as : {checks : List Check} {b next : Board} {files : List ℕ} {answer made : Posted} → answer ≡ made → Decided checks b next files made → Decided checks b next files answer
decided_as {checks} {b} {next} {files} e d = subst (Decided checks b next files) (sym e) d

passed_pass : {b : Board} {files : List ℕ} {step : Step} {leaver : ℕ} {p : Pass} → PassAt b files step leaver board_names_count p → p.notice ≡ Done → FirstFailure (all_checks b files) passed
passed_pass {b} {files} pass done = subst (λ (notice : Notice). FirstFailure (all_checks b files) (notice_verdict notice)) done pass.refusal

-- nothing is foreign to a pass without a step
lowest_of : {b : Board} {files : List ℕ} {leaver : ℕ} {p : Pass} → PassAt b files Stay leaver board_names_count p → p.notice ≡ Done → LowestBelow b files Stay leaver board_names_count p.lowest
lowest_of {b} {files} {leaver} {p} pass done =
    ⊎_elim (λ (k : AllKnown b files Stay leaver board_names_count p). k.lowest) (λ (f : FirstForeign b files Stay board_names_count p.foreign). absurd f.foreign) (pass.result done)

module _ (b : Board) (files : List ℕ) where
  -- an event or a mark
  module _ (whole : Whole b) (step : Step) {p : Pass} (pass : PassAt b files step board_names_count board_names_count p) where
    known_passes : AllKnown b files step board_names_count board_names_count p → FirstFailure (step_checks b files step) passed
    known_passes k = go step (λ i named there. k.known.known i named there)
      where
        go : (s : Step) → ((i : ℕ) → i < board_names_count → present_at b i ≡ true → ForeignStep (letters_of (file_at files i)) s → ⊥) → FirstFailure (step_checks b files s) passed
        go (Event letter) known = letters_pass b files letter 0 board_names_count (λ j low high there foreign. known j (omega arith) there foreign)
        go Mark known = none_left
        go Stay known = none_left

    foreign_refuses : FirstForeign b files step board_names_count p.foreign → FirstFailure (step_checks b files step) (refused UnknownLetter p.foreign 0)
    foreign_refuses f = go step f.foreign (λ i named there. f.earlier.known i named there)
      where
        go : (s : Step) → ForeignStep (letters_of (file_at files p.foreign)) s → ((i : ℕ) → i < p.foreign → present_at b i ≡ true → ForeignStep (letters_of (file_at files i)) s → ⊥)
            → FirstFailure (step_checks b files s) (refused UnknownLetter p.foreign 0)
        go (Event letter) foreign earlier =
            letters_refuse b files letter 0 board_names_count p.foreign (omega arith) (omega (arith, f.named)) f.there foreign (λ j low high there own. earlier j high there own)
        go Mark foreign earlier = absurd foreign
        go Stay foreign earlier = absurd foreign

    pub step_decided : {r : Posted} → StepAnswer b p r → Decided (all_checks b files ++ step_checks b files step) b (moved_below files step b board_names_count) files r
    step_decided (step_refuses not e) = decided_as e (record { refusal = stays_refused (all_checks b files) (step_checks b files step) p.notice not pass.refusal; board = back_refused b _ files p.notice not })
    step_decided (step_foreign done low e) =
        decided_as e (record {
          refusal = passed_before (all_checks b files) (step_checks b files step) (passed_pass pass done)
              (⊎_elim (λ (k : AllKnown b files step board_names_count board_names_count p). absurd (let z : ⊥ = omega (arith, k.unfound) in z)) (λ f. foreign_refuses f) (pass.result done));
          board = refl;
        })
    step_decided (step_done done high e) =
        decided_as e (⊎_elim (λ (k : AllKnown b files step board_names_count board_names_count p). record {
          refusal = passed_before (all_checks b files) (step_checks b files step) (passed_pass pass done) (known_passes k);
          board = record { lowest = p.lowest; becomes = ap (λ (c : Board). with_lowest c p.lowest) k.moved; grade = lowest_moved whole k.lowest };
        })
        (λ f. absurd (let z : ⊥ = omega (arith, f.named) in z)) (pass.result done))

  -- leaving
  pub leave_decided : {name : ℕ} {p : Pass} {r : Posted} → Whole b → name < board_names_count → PassAt b files Stay name board_names_count p
      → PassAnswer b (with_lowest (with_left b name) p.lowest) p r → Decided (all_checks b files) b (with_left b name) files r
  leave_decided {name} {p} {r} whole h pass (pass_refuses not e) = decided_as e (record { refusal = pass.refusal; board = back_refused b _ files p.notice not })
  leave_decided {name} {p} {r} whole h pass (pass_done done e) =
      decided_as e (record {
        refusal = passed_pass pass done;
        board = record {
          lowest = p.lowest;
          becomes = refl;
          grade = lowest_left whole h (lowest_of pass done);
        };
      })

  -- 22
  pub absent_refused : {name : ℕ} {checks : List Check} → PresentAnswer b name false → FirstFailure (present_check b name ∷ checks) (refused NameNotPresent 1 0)
  absent_refused {name} a = first_fails (present_check b name) (record { not_there = a; is_place = refl })

  pub present_passed : {name : ℕ} {checks : List Check} {v : Verdict} → PresentAnswer b name true → FirstFailure checks v → FirstFailure (present_check b name ∷ checks) v
  present_passed {name} a f =
      first_passes (record {
        nowhere = λ place (n : NotPresentAt b name place).
            ⊎_elim (λ h. omega (arith, a.0)) (λ (e : present_at b name ≡ false). let t = a.1 in let z : ◌≡◌ {A = ℕ} 0 1 = cc in omega arith) n.not_there;
      }) f

  -- 21
  pub taken_refused : {name : ℕ} {checks : List Check} → FreeAnswer b name false → FirstFailure (free_check b name ∷ checks) (refused NameNotFree 1 0)
  taken_refused {name} a = first_fails (free_check b name) (record { not_free = a; is_place = refl })

  pub free_passed : {name : ℕ} {checks : List Check} {v : Verdict} → FreeAnswer b name true → FirstFailure checks v → FirstFailure (free_check b name ∷ checks) v
  free_passed {name} a f =
      first_passes (record {
        nowhere = λ place (n : NotFreeAt b name place).
            ⊎_elim (λ h. omega (arith, a.0)) (λ (e : present_at b name ≡ true). let t = a.1 in let z : ◌≡◌ {A = ℕ} 0 1 = cc in omega arith) n.not_free;
      }) f

-- a call that writes no file: refused by 13, or as was decided after the buffers' checks
module _ {b next : Board} {files entry exit : List ℕ} {checks : List Check} {r : Posted} where
  pub call_short : (length files < files_size) ⊎ (length entry < scratch_size) → r ≡ record { board = b; notice = Refused BufferTooShort 1 0 } → exit ≡ entry
      → CallPromise (buffers_checks files entry ++ checks) b next files entry exit r
  call_short s e same =
      let d = decided_as {next = next} {files = files} e (record { refusal = rooms_short files entry {checks = checks} s; board = refl }) in
      record { refusal = d.refusal; board = d.board; scratch = same ∙ left_short files entry s }

  pub call_decided : (files_size ≤ length files) × (scratch_size ≤ length entry) → Decided checks b next files r → exit ≡ replicate (length entry) 0
      → CallPromise (buffers_checks files entry ++ checks) b next files entry exit r
  call_decided h d zeros = record { refusal = rooms_long files entry h d.refusal; board = d.board; scratch = left_long files entry h zeros }

-- refused after them
pub refused_decided : {b next : Board} {files : List ℕ} {checks : List Check} {r : Posted} {refusal : Refusal} {input place : ℕ}
    → FirstFailure checks (refused refusal input place) → r ≡ record { board = b; notice = Refused refusal input place } → Decided checks b next files r
refused_decided f e = decided_as e (record { refusal = f; board = refl })

-- a check that passes may be left out
without : (before after : List Check) {c : Check} {v : Verdict} → Passes c → FirstFailure (before ++ c ∷ after) v → FirstFailure (before ++ after) v
without [] after {c} {v} p f = go (first_case f)
  where
    go : FirstCase c after v → FirstFailure after v
    go (decides_now r) = absurd (p.nowhere r.place r.fails)
    go (hands_on q g) = g
without (d ∷ before) after {c} {v} p f = go (first_case f) (without before after p)
  where
    go : FirstCase d (before ++ c ∷ after) v → (FirstFailure (before ++ c ∷ after) v → FirstFailure (before ++ after) v) → FirstFailure (d ∷ before ++ after) v
    go (decides_now r) more = subst (λ (w : Verdict). FirstFailure (d ∷ before ++ after) w) (sym r.verdict) (first_fails d r.fails)
    go (hands_on q g) more = first_passes q (more g)

-- 3 of a fresh monitor does not fail
fresh_passes : (input n : ℕ) → Passes (monitor_value_check input n fresh_monitor)
fresh_passes input n = record { nowhere = λ place (f : MonitorValueOutOfRangeAt n fresh_monitor place). ⊎_elim (λ v. v.not_none refl) (λ v. v.not_none refl) f.stray }

-- entering: the names, then the file
module _ {b : Board} {name : ℕ} {file files : List ℕ} {p : Pass} (pass : PassAt b files Stay board_names_count board_names_count p) where
  pub admit_refused : (p.notice ≡ Done → ⊥) → Admitted b name file files p
  admit_refused not = record { refusal = stays_refused (all_checks b files) _ p.notice not pass.refusal; lowest = λ done. absurd (not done) }

  pub admit_told : {entry exit : List ℕ} {r : Pass} → p.notice ≡ Done → scratch_size ≤ length entry → (answer : Advanced)
      → AdvancePromise name file fresh_monitor Stay entry exit answer → EntryTold p answer r → Admitted b name file files r
  admit_told {entry} {exit} {r} done room answer a t = go answer a.refusal t
    where
      own : {v : Verdict} → FirstFailure (advance_checks name file fresh_monitor Stay entry) v → FirstFailure (all_checks b files ++ (rule_checks name file ++ weak_check name file ∷ [])) v
      own {v} f = passed_before (all_checks b files) _ (passed_pass pass done) (without (rule_checks name file) (weak_check name file ∷ []) (fresh_passes name (elements_of file))
          (after_long room (subst (λ (checks : List Check). FirstFailure checks v) (append-nil (strong_monitor_checks name file fresh_monitor entry)) f)))

      entered : FirstFailure (advance_checks name file fresh_monitor Stay entry) passed → r ≡ p → Admitted b name file files r
      entered f e = subst (Admitted b name file files) (sym e) (record {
        refusal = subst (λ (notice : Notice). FirstFailure (all_checks b files ++ (rule_checks name file ++ weak_check name file ∷ [])) (notice_verdict notice)) (sym done) (own f);
        lowest = lowest_of pass;
      })

      go : (answer : Advanced) → FirstFailure (advance_checks name file fresh_monitor Stay entry) (advanced_verdict answer) → EntryTold p answer r → Admitted b name file files r
      go (To g grade turns) f e = entered f e
      go (Refused-answer g refusal input place) f e =
          let told = ap (λ (q : Pass). q.notice) e in
          record {
            refusal = subst (λ (notice : Notice). FirstFailure (all_checks b files ++ (rule_checks name file ++ weak_check name file ∷ [])) (notice_verdict notice)) (sym told) (own f);
            lowest = λ r-done. absurd (not_done (sym told ∙ r-done));
          }

-- a file that was admitted, and the room for it
module _ {b : Board} {name : ℕ} {file files : List ℕ} {p : Pass} (admitted : Admitted b name file files p) (done : p.notice ≡ Done) where
  all_passed : FirstFailure (all_checks b files ++ (rule_checks name file ++ weak_check name file ∷ [])) passed
  all_passed =
      subst (λ (notice : Notice). FirstFailure (all_checks b files ++ (rule_checks name file ++ weak_check name file ∷ [])) (notice_verdict notice)) done admitted.refusal

  file_short : length file ≤ rule_size
  file_short = short_file name file (passed_first _ _ (passed_last (all_checks b files) _ all_passed))

  pub file_fits : name < board_names_count → files_size ≤ length files → rule_size * name + length file ≤ length files
  file_fits h room = omega (arith, file_short)

-- a call that enters
module _ {b : Board} {name : ℕ} {file files entry exit : List ℕ} {r : Posted} where
  enter_as : {made : Posted} {files-exit : List ℕ} → r ≡ made → EnterPromise b name file files files-exit entry exit made → EnterPromise b name file files files-exit entry exit r
  enter_as {made} {files-exit} e p = subst (EnterPromise b name file files files-exit entry exit) (sym e) p

  pub enter_short : (length files < files_size) ⊎ (length entry < scratch_size) → r ≡ record { board = b; notice = Refused BufferTooShort 1 0 } → exit ≡ entry
      → EnterPromise b name file files files entry exit r
  enter_short s e same = enter_as e (record { refusal = rooms_short files entry s; board = refl; files_left = refl; scratch = same ∙ left_short files entry s })

  module _ (h : (files_size ≤ length files) × (scratch_size ≤ length entry)) (zeros : exit ≡ replicate (length entry) 0) where
    pub enter_taken : FreeAnswer b name false → r ≡ record { board = b; notice = Refused NameNotFree 1 0 } → EnterPromise b name file files files entry exit r
    enter_taken a e =
        enter_as e (record { refusal = rooms_long files entry h (taken_refused b files a); board = refl; files_left = refl; scratch = left_long files entry h zeros })

    module _ (free : FreeAnswer b name true) {p : Pass} (admitted : Admitted b name file files p) where
      pub enter_refused : (p.notice ≡ Done → ⊥) → r ≡ record { board = b; notice = p.notice } → EnterPromise b name file files files entry exit r
      enter_refused not e = enter_as e (record {
        refusal = rooms_long files entry h (free_passed b files free admitted.refusal);
        board = back_refused b _ files p.notice not;
        files_left = left p.notice not;
        scratch = left_long files entry h zeros;
      })
        where
          left : (notice : Notice) → (notice ≡ Done → ⊥) → files ≡ files_after_enter name file files notice
          left Done no_refusal = absurd (no_refusal refl)
          left (Refused refusal input place) no_refusal = refl

      pub enter_done : {files-exit : List ℕ} → p.notice ≡ Done → Whole b → files-exit ≡ paste files (rule_size * name) file (length file)
          → r ≡ record { board = with_lowest (with_entered b name) p.lowest; notice = Done } → EnterPromise b name file files files-exit entry exit r
      enter_done {files-exit} done whole copied e = enter_as e (record {
        refusal = rooms_long files entry h (free_passed b files free (all_passed admitted done));
        board = record {
          lowest = p.lowest;
          becomes = refl;
          grade = lowest_entered whole free.0 free.1
              (λ i named other. ap (λ (l : List ℕ). file_at l i) copied
              ∙ others_kept files file name (file_fits admitted done free.0 h.0) (file_short admitted done) i other)
              (admitted.lowest done);
        };
        files_left = copied ∙ pasted_file files file (rule_size * name);
        scratch = left_long files entry h zeros;
      })

-- the calls' own promises
module _ {b : Board} {files entry exit : List ℕ} {r : Posted} where
  pub mark_call : CallPromise (buffers_checks files entry ++ (all_checks b files ++ [])) b (moved_below files Mark b board_names_count) files entry exit r → BoardMarkPromise b files entry exit r
  mark_call p = record {
    refusal =
        subst (λ (checks : List Check). FirstFailure (buffers_checks files entry ++ checks) (notice_verdict r.notice)) (append-nil (all_checks b files)) p.refusal;
    board = p.board;
    scratch = p.scratch;
  }

  pub leave_call : {name : ℕ} → CallPromise (leave_checks b name files entry) b (with_left b name) files entry exit r → LeavePromise b name files entry exit r
  leave_call p = record { refusal = p.refusal; board = p.board; scratch = p.scratch }

-- after 22
pub leave_present : {b next : Board} {name : ℕ} {files : List ℕ} {r : Posted} → PresentAnswer b name true → Decided (all_checks b files) b next files r
    → Decided (present_check b name ∷ all_checks b files) b next files r
leave_present {b} {next} {name} {files} a d = record { refusal = present_passed b files a d.refusal; board = d.board }

-- the file that enters, asked with a fresh monitor and a scratch of zeros
pub admit_asked : {b : Board} {name : ℕ} {file files : List ℕ} {p r : Pass} {f : Monitor} {entry mid exit : List ℕ} → PassAt b files Stay board_names_count board_names_count p → p.notice ≡ Done
    → f ≡ fresh_monitor → Cleared entry → mid ≡ entry → (answer : Advanced) → AdvancePromise name file f Stay mid exit answer → EntryTold p answer r
    → Admitted b name file files r × (exit ≡ entry)
admit_asked {name = name} {file} {entry = entry} {mid} {exit} pass done fresh clear same answer a t =
    let still : Cleared mid = subst Cleared (sym same) clear in
    (admit_told pass done still.room answer (subst (λ (g : Monitor). AdvancePromise name file g Stay mid exit answer) fresh a) t, a.scratch ∙ call_leaves still ∙ same)
