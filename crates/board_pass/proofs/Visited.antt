-- A pass with one name more: one after a refusal, one that is not present, and one that the library was asked for. Assumes nothing.
use Prim.Native.Nat.{ℕ, ◌+◌, ◌≤◌, ◌<◌}
use mathlib.Core.Path.{◌≡◌, refl, sym, ap, ◌∙◌, subst}
use mathlib.Core.Bool.{true, false}
use mathlib.Core.Logic.{inl, inr, ⊎_elim, by_cases}
use mathlib.Core.List.{List, ◌++◌, append-nil}
use native.Mathlib.Omega.{arith}
use native.Mathlib.Decide.{ℕ_discrete}
use lib.ListN.{length}
use Rattle.answer.specs.declared.Refusal.{Refusal}
use Rattle.answer.specs.declared.Refusal.TheVariants.{UnknownLetter}
use Rattle.answer.specs.Refusals.{number_of}
use Rattle.answer.specs.Checks.{Check, Verdict, passed, numbered, refused, FirstFailure}
use Rattle.answer.proofs.Order.{none_left, refused_before, passed_before, passed_first, passed_last}
use Rattle.formats.specs.RuleFile.{letters_of}
use Rattle.formats.specs.RuleChecks.{scratch_size, rule_checks}
use Rattle.promises.specs.declared.Monitor.{Monitor}
use Rattle.promises.specs.declared.Step.{Step}
use Rattle.promises.specs.declared.Advanced.{Advanced}
use Rattle.promises.specs.declared.Advanced.TheVariants.{To, Refused}
use Rattle.promises.specs.Advance.{no_grade, ForeignStep, MonitorGrade, standing_checks, foreign_checks, AdvancePromise}
use Rattle.promises.proofs.CheckParts.{FirstOf, by_first, by_last, first_of}
use Rattle.promises.proofs.EventWords.{known_step, step_refused}
use Rattle.promises.proofs.NoLetters.{standing_none}
use Rattle.board_promises.specs.declared.Board.{Board}
use Rattle.board_promises.specs.declared.Notice.{Notice}
use Rattle.board_promises.specs.declared.Notice.TheVariants.{Done, Refused as Refused-notice}
use Rattle.board_promises.specs.Boards.{board_names_count, file_at, present_at, monitor_at, with_monitor, moved_below}
use Rattle.board_promises.specs.Checks.{name_checks, names_checks}
use Rattle.board_promises.specs.Promises.{notice_verdict}
use Rattle.board_promises.specs.Monitors.{moved_at}
use Rattle.board_promises.proofs.NameRows.{one_more, present_decides, absent_checks}
use Rattle.board_promises.proofs.SmallFiles.{grade_small}
use Rattle.board_promises.proofs.Moved.{moved_none, moved_absent, moved_present}
use Rattle.board_answers.specs.declared.Pass.{Pass}
use Rattle.board_answers.specs.Answers.{GradeCounted, FoundForeign, RefusalTold, Told}
use Rattle.board_answers.proofs.Notices.{not_done}
use Rattle.board_pass.specs.Passes.{Cleared, NoneForeign, FirstForeign, AllKnown, PassAt}
use Rattle.board_pass.proofs.ClearedScratch.{after_long, call_leaves}
use Rattle.board_pass.proofs.Lowest.{lowest_of_none, lowest_past, lowest_with}

module _ (b : Board) (files : List ℕ) (step : Step) (leaver : ℕ) {i : ℕ} {p : Pass} (before : PassAt b files step leaver i p) where
  -- a name more that the step is not foreign to
  known_more : NoneForeign b files step i → (present_at b i ≡ true → ForeignStep (letters_of (file_at files i)) step → ⊥) → NoneForeign b files step (i + 1)
  known_more k last = record {
    known = λ j named there foreign.
        by_cases (ℕ_discrete j i)
        (λ (e : j ≡ i). subst (λ (x : ℕ). present_at b x ≡ true → ForeignStep (letters_of (file_at files x)) step → ⊥) (sym e) last there foreign)
        (λ other. k.known j (omega arith) there foreign);
  }

  found_more : {j : ℕ} → FirstForeign b files step i j → FirstForeign b files step (i + 1) j
  found_more f = record { named = omega (arith, f.named); there = f.there; foreign = f.foreign; earlier = f.earlier }

  -- after a refusal
  pub pass_refused : (p.notice ≡ Done → ⊥) → PassAt b files step leaver (i + 1) p
  pass_refused not = record { refusal = one_more b files i (go p.notice not before.refusal); result = λ done. absurd (not done) }
    where
      go : (notice : Notice) → (notice ≡ Done → ⊥) → FirstFailure (names_checks b files 0 i) (notice_verdict notice)
          → FirstFailure (names_checks b files 0 i ++ name_checks b files i) (notice_verdict notice)
      go Done no_refusal f = absurd (no_refusal refl)
      go (Refused-notice refusal input place) no_refusal f = refused_before (names_checks b files 0 i) (name_checks b files i) f

  -- a name that is not present
  pub pass_absent : present_at b i ≡ false → PassAt b files step leaver (i + 1) p
  pass_absent e = record {
    refusal =
        one_more b files i (subst (λ (checks : List Check). FirstFailure checks (notice_verdict p.notice))
        (sym (append-nil (names_checks b files 0 i)) ∙ ap (λ (checks : List Check). names_checks b files 0 i ++ checks) (absent_checks b files i e)) before.refusal);
    result = λ done.
        ⊎_elim (λ (k : AllKnown b files step leaver i p). inl (record {
          unfound = k.unfound;
          known = known_more k.known (λ there. absurd (let z : ◌≡◌ {A = ℕ} 0 1 = cc in omega arith));
          moved = k.moved ∙ sym (moved_absent files step b i e);
          lowest = lowest_past k.lowest (λ h c. let q = c.there in let z : ◌≡◌ {A = ℕ} 0 1 = cc in omega arith);
        }))
        (λ f. inr (found_more f)) (before.result done);
  }

  -- a name that the library was asked for
  module _ (done : p.notice ≡ Done) (there : present_at b i ≡ true) where
    earlier_passed : FirstFailure (names_checks b files 0 i) passed
    earlier_passed = subst (λ (notice : Notice). FirstFailure (names_checks b files 0 i) (notice_verdict notice)) done before.refusal

    -- the verdict of its checks is that of the pass
    one_decides : {v : Verdict} → FirstFailure (rule_checks i (file_at files i) ++ standing_checks i (file_at files i) (monitor_at b i)) v → FirstFailure (names_checks b files 0 (i + 1)) v
    one_decides f = one_more b files i (passed_before _ _ earlier_passed (present_decides b files i there f))

    -- moved and graded
    module _ {r : Pass} {g : Monitor} {grade : ℕ} (counted : GradeCounted leaver i p g grade r)
        (own : FirstFailure (rule_checks i (file_at files i) ++ standing_checks i (file_at files i) (monitor_at b i)) passed)
        (known : ForeignStep (letters_of (file_at files i)) step → ⊥) (moved : g ≡ moved_at b files step i) (graded : MonitorGrade (file_at files i) g grade) where
      pass_counted : PassAt b files step leaver (i + 1) r
      pass_counted = record {
        refusal = subst (λ (notice : Notice). FirstFailure (names_checks b files 0 (i + 1)) (notice_verdict notice)) (sym counted.done) (one_decides own);
        result = λ r-done.
            ⊎_elim (λ (k : AllKnown b files step leaver i p). inl (record {
              unfound = counted.foreign ∙ k.unfound;
              known = known_more k.known (λ present. known);
              moved =
                  counted.moved ∙ ap (λ (c : Board). with_monitor c i g) k.moved ∙ ap (with_monitor (moved_below files step b i) i) moved
                  ∙ sym (moved_present files step b i there);
              lowest =
                  lowest_with k.lowest there (λ h. grade_small i (file_at files i) (passed_first _ _ own))
                  (subst (λ (f : Monitor). MonitorGrade (file_at files i) f grade) moved graded) counted.lowest;
            }))
            (λ f. inr (subst (FirstForeign b files step (i + 1)) (sym counted.foreign) (found_more f))) (before.result done);
      }

    -- foreign
    module _ {r : Pass} (found : FoundForeign i p r) (own : FirstFailure (rule_checks i (file_at files i) ++ standing_checks i (file_at files i) (monitor_at b i)) passed)
        (foreign : ForeignStep (letters_of (file_at files i)) step) (named : i < board_names_count) where
      is_last : AllKnown b files step leaver i p → r.foreign ≡ i
      is_last k = ⊎_elim (λ (e : r.foreign ≡ p.foreign). omega (arith, k.unfound, found.foreign.second)) (λ (e : r.foreign ≡ i). e) found.foreign.either

      is_earlier : FirstForeign b files step i p.foreign → r.foreign ≡ p.foreign
      is_earlier f = ⊎_elim (λ (e : r.foreign ≡ p.foreign). e) (λ (e : r.foreign ≡ i). omega (arith, f.named, found.foreign.first)) found.foreign.either

      pass_foreign : PassAt b files step leaver (i + 1) r
      pass_foreign = record {
        refusal = subst (λ (notice : Notice). FirstFailure (names_checks b files 0 (i + 1)) (notice_verdict notice)) (sym found.done) (one_decides own);
        result = λ r-done.
            inr (⊎_elim (λ (k : AllKnown b files step leaver i p).
            subst (FirstForeign b files step (i + 1)) (sym (is_last k)) (record { named = omega arith; there = there; foreign = foreign; earlier = k.known }))
            (λ f. subst (FirstForeign b files step (i + 1)) (sym (is_earlier f)) (found_more f)) (before.result done));
      }

    -- refused: by one of its own checks, or by the step's, whose number none of those has
    module _ {r : Pass} {number : Refusal} {input place : ℕ} (named : i < board_names_count) (t : RefusalTold i p number input place r) where
      own_refused : FirstFailure (rule_checks i (file_at files i) ++ standing_checks i (file_at files i) (monitor_at b i)) (refused number input place)
          → PassAt b files step leaver (i + 1) r
      own_refused f =
          let not : number_of number ≡ number_of UnknownLetter → ⊥ =
          λ e. (standing_none i (file_at files i) (monitor_at b i)).never input place
          (subst (λ (n : ℕ). FirstFailure (rule_checks i (file_at files i) ++ standing_checks i (file_at files i) (monitor_at b i)) (numbered n input place)) e f) in
          let notice = ap (λ (q : Pass). q.notice) (t.other not) in
          record {
            refusal = subst (λ (n : Notice). FirstFailure (names_checks b files 0 (i + 1)) (notice_verdict n)) (sym notice) (one_decides f);
            result = λ r-done. absurd (not_done (sym notice ∙ r-done));
          }

      pass_refuses : FirstOf (rule_checks i (file_at files i) ++ standing_checks i (file_at files i) (monitor_at b i)) (foreign_checks i (letters_of (file_at files i)) step) (refused number input place)
          → PassAt b files step leaver (i + 1) r
      pass_refuses (by_first e f) = own_refused f
      pass_refuses (by_last own f) =
          let found = step_refused i (letters_of (file_at files i)) step f in
          pass_foreign (t.foreign found.0) own found.1 named

    pub pass_told : {entry exit : List ℕ} {r : Pass} → i < board_names_count → scratch_size ≤ length entry → (answer : Advanced)
        → AdvancePromise i (file_at files i) (monitor_at b i) step entry exit answer → Told leaver i p answer r → PassAt b files step leaver (i + 1) r
    pass_told named room (To g grade turns) a t =
        let all = after_long room a.refusal in
        pass_counted t (passed_first (rule_checks i (file_at files i) ++ standing_checks i (file_at files i) (monitor_at b i)) _ all)
        (known_step i (letters_of (file_at files i)) step (passed_last (rule_checks i (file_at files i) ++ standing_checks i (file_at files i) (monitor_at b i)) _ all))
        a.answered.moved a.answered.graded
    pass_told named room (Refused g number input place) a t =
        pass_refuses named t (first_of (rule_checks i (file_at files i) ++ standing_checks i (file_at files i) (monitor_at b i)) _ (after_long room a.refusal))

    -- the scratch that the call is lent is zeros, and stays so
    pub pass_asked : {file : List ℕ} {f : Monitor} {entry exit : List ℕ} {r : Pass} → file ≡ file_at files i → f ≡ monitor_at b i → i < board_names_count → Cleared entry → (answer : Advanced)
        → AdvancePromise i file f step entry exit answer → Told leaver i p answer r → PassAt b files step leaver (i + 1) r × (exit ≡ entry)
    pass_asked {f = f} {entry} {exit} ef em named clear answer a t = (
      pass_told named clear.room answer
          (subst (λ (g : Monitor). AdvancePromise i (file_at files i) g step entry exit answer) em (subst (λ (l : List ℕ). AdvancePromise i l f step entry exit answer) ef a)) t,
      a.scratch ∙ call_leaves clear,
    )

-- a pass that begins, and one that has come to the end
pub pass_begun : (b : Board) (files : List ℕ) (step : Step) (leaver : ℕ) → PassAt b files step leaver 0 (record { next = b; lowest = no_grade; foreign = board_names_count; notice = Done })
unfolding names_checks
pass_begun b files step leaver = record {
  refusal = none_left;
  result = λ done. inl (record {
    unfound = refl;
    known = record { known = λ i named there foreign. omega arith };
    moved = moved_none files step b;
    lowest = lowest_of_none;
  });
}

pub pass_ended : {b : Board} {files : List ℕ} {step : Step} {leaver i : ℕ} {p : Pass} → PassAt b files step leaver i p → board_names_count ≤ i → i ≤ board_names_count → PassAt b files step leaver board_names_count p
pass_ended {b} {files} {step} {leaver} {i} {p} pass low high = subst (λ (n : ℕ). PassAt b files step leaver n p) (let z : i ≡ board_names_count = omega arith in z) pass
