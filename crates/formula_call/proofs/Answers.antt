-- What is told of a formula: its refusal, or its rule at the front of out. Assumes nothing.
use Prim.Native.Nat.{ℕ, ◌+◌, ◌*◌}
use mathlib.Core.Path.{◌≡◌, refl, sym, ap, ◌∙◌, subst}
use mathlib.Core.Bool.{Bool, true, false}
use mathlib.Core.List.{List, ◌++◌}
use native.Mathlib.Omega.{arith}
use lib.ListN.{length, replicate, drop}
use lib.Seq.{paste}
use Rattle.std.specs.Prelude.{Result, Ok, Err}
use Rattle.answer.specs.declared.Fault.{Fault}
use Rattle.answer.specs.declared.Refusal.TheVariants.{BufferTooShort}
use Rattle.answer.specs.Checks.{passed, FirstFailure}
use Rattle.answer.proofs.Order.{refused_before, passed_before}
use Rattle.formats.specs.RuleChecks.{rule_size, rule_checks}
use Rattle.formats.specs.ReadBack.{ReadsBack, FileShape}
use Rattle.formats.specs.Front.{AtFront}
use Rattle.promises.specs.declared.Written.{Written}
use Rattle.promises.specs.declared.Written.TheVariants.{Rule, Refused as Not-written}
use Rattle.promises.specs.Answers.{written_verdict}
use Rattle.temporal_promises.specs.Formed.{WrittenAs, FormedAnswer}
use Rattle.board_promises.specs.Boards.{file_at}
use Rattle.board_promises.proofs.Places.{pasted_file}
use Rattle.formula_promises.specs.Checks.{scan_checks, formula_checks}
use Rattle.formula_promises.specs.FormulaRule.{FormulaMade, lent_left, FormulaPromise}
use Rattle.formula_slots.specs.Slots.{LentLengths}
use Rattle.formula_scan.specs.Scanning.{scanned_verdict}
use Rattle.formula_run.specs.Running.{FormulaStands, FormulaRan}
use Rattle.formula_call.specs.Calling.{LentAnswer, LentCleared, FormulaTried, Told}
use Rattle.formula_call.proofs.Lent.{lent_refused, some_short_lem, lent_passed, none_short}

-- ---- the pass and the run

module _ {letters : ℕ} {formula : List ℕ} {s : Result Unit Fault} (f : FirstFailure (scan_checks letters formula) (scanned_verdict s)) where
  pub scan-passed : {done : Unit} → s ≡ Ok done → FirstFailure (scan_checks letters formula) passed
  scan-passed e = subst (λ (t : Result Unit Fault). FirstFailure (scan_checks letters formula) (scanned_verdict t)) e f

  pub tried-ran : {done : Unit} → s ≡ Ok done → {stack : List ℕ} {ran : Result Unit Fault} → FormulaRan letters formula stack ran → FormulaTried letters formula stack ran
  tried-ran e r = record { refusal = passed_before (scan_checks letters formula) _ (scan-passed e) r.refusal; stands = r.stands }

  pub tried-refused : {stack : List ℕ} {fault : Fault} → s ≡ Err fault → FormulaTried letters formula stack (Err fault)
  tried-refused e = record {
    refusal = refused_before (scan_checks letters formula) _ (subst (λ (t : Result Unit Fault). FirstFailure (scan_checks letters formula) (scanned_verdict t)) e f);
    stands = λ done. absurd (let z : false ≡ true = done in cc);
  }

-- ---- the copy

pub copied_front : (stack : List ℕ) {file before after : List ℕ} → file ≡ file_at stack 0 → after ≡ paste before (rule_size * 0) file (length file) → AtFront (file_at stack 0) before after (length file)
copied_front stack {file} {before} {after} is e =
    subst (λ (bytes : List ℕ). AtFront bytes before after (length file)) is (record {
      holds = e ∙ pasted_file before file 0 ∙ ap (λ (n : ℕ). file ++ drop n before) (let z : 0 + length file ≡ length file = omega arith in z);
      counts = refl;
    })

pub told_done : {ran : Result Unit Fault} {done : Unit} (stack : List ℕ) {before after : List ℕ} {end : ℕ} → ran ≡ Ok done → AtFront (file_at stack 0) before after end
    → Told ran stack before after (Rule end)
told_done stack {before} {after} {end} e front = subst (λ (r : Result Unit Fault). Told r stack before after (Rule end)) (sym e) (record { end = end; is = refl; front = front })

pub told_refused : {ran : Result Unit Fault} (stack before : List ℕ) {fault : Fault} → ran ≡ Err fault → Told ran stack before before (Not-written fault.refusal 1 fault.place)
told_refused stack before {fault} e = subst (λ (r : Result Unit Fault). Told r stack before before (Not-written fault.refusal 1 fault.place)) (sym e) (refl, refl)

-- ---- the answer

-- the rule of the first slot is the formula's, and it was written whole
stands_written : {letters : ℕ} {formula stack before after : List ℕ} {end : ℕ} → FormulaStands letters formula stack → AtFront (file_at stack 0) before after end
    → WrittenAs (FormulaMade letters formula) before after end
stands_written {before = before} {after} {end} s front =
    let file = s.file in
    let is = file.file_is in
    record {
      rule = file.rule;
      makes = record { meaning = s.meaning; formula_is = s.formula_is; reduction = file.reduction };
      written = record {
        front = subst (λ (bytes : List ℕ). AtFront bytes before after end) is front;
        passes = λ input. subst (λ (bytes : List ℕ). FirstFailure (rule_checks input bytes) passed) is (file.passes input);
        reads_back = subst (ReadsBack file.rule.morphism file.rule.marks) is file.reads_back;
        shape = subst FileShape is file.shape;
      };
    }

-- the answer that a formula tried leads to
pub record Answered (letters : ℕ) (formula before after : List ℕ) (answer : Written) : Type 0 where
  pub refusal : FirstFailure (formula_checks letters formula) (written_verdict answer)
  pub answered : FormedAnswer (FormulaMade letters formula) before after answer

tried_answered : {letters : ℕ} {formula stack before after : List ℕ} {answer : Written} (ran : Result Unit Fault) → FormulaTried letters formula stack ran → Told ran stack before after answer
    → Answered letters formula before after answer
tried_answered {letters} {formula} {before = before} {after} (Ok done) t copied =
    subst (Answered letters formula before after) (sym copied.is) (record { refusal = t.refusal; answered = stands_written (t.stands refl) copied.front })
tried_answered {letters} {formula} {before = before} {after} (Err fault) t kept =
    subst (Answered letters formula before after) (sym kept.0) (record { refusal = t.refusal; answered = kept.1 })

-- ---- the call

-- what is left in a buffer
left_kept : {short : Bool} (buffer : List ℕ) → short ≡ true → buffer ≡ lent_left short buffer
left_kept buffer e = subst (λ (b : Bool). buffer ≡ lent_left b buffer) (sym e) refl

left_zeros : {short : Bool} (buffer : List ℕ) {size : ℕ} {exit : List ℕ} → short ≡ false → size ≡ length buffer → exit ≡ replicate size 0 → exit ≡ lent_left short buffer
left_zeros buffer {exit = exit} e l z = subst (λ (b : Bool). exit ≡ lent_left b buffer) (sym e) (z ∙ ap (λ (n : ℕ). replicate n 0) l)

module _ {letters : ℕ} {formula : List ℕ} (out stack spare classes scratch : List ℕ) (b : Bool) (answer : LentAnswer (length out) (length stack) (length spare) (length classes) (length scratch) b) where
  pub call_short : b ≡ true → FormulaPromise letters formula out out stack stack spare spare classes classes scratch scratch (Not-written BufferTooShort 1 0)
  call_short e =
      let short = some_short_lem out stack spare classes scratch b answer e in
      record {
        refusal = lent_refused out stack spare classes scratch b answer e;
        answered = refl;
        stack_left = left_kept stack short;
        spare_left = left_kept spare short;
        classes_left = left_kept classes short;
        scratch_at_exit = left_kept scratch short;
      }

  pub call-told : b ≡ false → {after stack' stack'' spare' spare'' classes' classes'' scratch' scratch'' : List ℕ} {said : Written} (ran : Result Unit Fault)
      → FormulaTried letters formula stack' ran → Told ran stack' out after said
      → LentLengths stack stack' spare spare' classes classes' scratch scratch' → LentCleared stack' stack'' spare' spare'' classes' classes'' scratch' scratch''
      → FormulaPromise letters formula out after stack stack'' spare spare'' classes classes'' scratch scratch'' said
  call-told e ran tried told lengths cleared =
      let long = none_short out stack spare classes scratch b answer e in
      let a = tried_answered ran tried told in
      record {
        refusal = lent_passed out stack spare classes scratch b answer e a.refusal;
        answered = a.answered;
        stack_left = left_zeros stack long lengths.stack_length cleared.stack_zeros;
        spare_left = left_zeros spare long lengths.spare_length cleared.spare_zeros;
        classes_left = left_zeros classes long lengths.classes_length cleared.classes_zeros;
        scratch_at_exit = left_zeros scratch long lengths.scratch_length cleared.scratch_zeros;
      }
