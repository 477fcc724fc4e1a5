-- What the calls on a rule's automaton promise, from what the check of the rule and the steps promise; and that the automaton of a checked rule
-- accepts the lassos of the least grade or more. Assumes nothing.
use Rattle.std.specs.Prelude.{Ok, Err}
use Rattle.answer.proofs.Parts.{refused_by}
use Prim.Native.Nat.{ℕ, ◌≤◌, ◌<◌}
use mathlib.Core.Path.{◌≡◌, refl, sym, subst, ◌∙◌}
use mathlib.Core.Logic.{inl}
use mathlib.Core.Bool.{Bool, true, false, not, true≢false}
use mathlib.Core.List.{List, [], ◌∷◌}
use native.Mathlib.Omega.{arith}
use lib.ListN.{length, replicate}
use Rattle.answer.specs.declared.Refusal.{Refusal}
use Rattle.answer.specs.declared.Refusal.TheVariants.{BufferTooShort, UnknownLetter, NoSuchState}
use Rattle.answer.specs.Checks.{Verdict, passed, FirstFailure}
use Rattle.answer.proofs.Order.{first_passes, first_fails, none_left, passed_before, refused_before, passes_head}
use Rattle.answer.proofs.Verdicts.{not_passed}
use Rattle.theory.specs.Rules.{Morphism}
use Rattle.buchi.specs.RuleAutomaton.{is_state}
use Rattle.formats.specs.Calls.{checked_checks, scratch_left}
use Rattle.formats.specs.Front.{AtFront}
use Rattle.formats.specs.RuleFile.{morphism_of, marking_of}
use Rattle.formats.specs.Table.{morphism_at}
use Rattle.formats.proofs.Buffers.{buffer_short, buffer_long}
use Rattle.rule_layout.specs.declared.Shape.{Shape}
use Rattle.rule_check.specs.Answers.{CheckPromise}
use Rattle.formats.proofs.GoodRule.{graded_marks, called_good}
use Rattle.rule_check.proofs.Calls.{shape_morphism, zeros_left, checked_length}
use Rattle.rule_check.proofs.Left.{short_left, long_left}
use Rattle.mark_strong.proofs.Calling.{checked_table, checked_lawful, marks_stand}
use Rattle.promises.specs.declared.StateKind.{StateKind}
use Rattle.promises.specs.declared.StateKind.TheVariants.{Refused as Kind-refused}
use Rattle.promises.specs.declared.SuccessorList.TheVariants.{Listed, Refused as Successors-refused}
use Rattle.promises.specs.Monitor.{value_of}
use Rattle.promises.specs.Moves.{lone_letter_check}
use Rattle.promises.specs.RuleAutomaton.{successors_size, AcceptsGrade, state_check, kind_own_checks, successor_own_checks, successor_checks, successors_of, KindAnswer, kind_verdict, KindPromise, SuccessorsPromise}
use Rattle.promises.proofs.AutomatonGrades.{grades_accepted}
use Rattle.rule_automaton.specs.Steps.{KindSaid, ListNeeds}
use Rattle.rule_automaton.proofs.Values.{said_state, said_none}

-- ---- accepted lassos

-- for every rule that passes the checks, weak ones included, and every least grade from 1 on
pub checked_accepts : (bytes scratch : List ℕ) → FirstFailure (checked_checks 1 bytes scratch) passed → (least : ℕ) → 1 ≤ least → AcceptsGrade (morphism_of bytes) (marking_of bytes) least
checked_accepts bytes scratch all least low =
    let good = called_good 1 bytes scratch all in
    grades_accepted good.lawful (graded_marks good) least low

-- ---- a state's kind

module _ (bytes : List ℕ) (s e least : ℕ) (entry : List ℕ) where
  -- the check's refusal is handed on
  pub kind_refused : {exit : List ℕ} {r : Refusal} {input place : ℕ} → CheckPromise 1 bytes entry exit (Err (refused_by r input place))
      → KindPromise bytes s e least entry exit (Kind-refused r input place)
  kind_refused p = record {
    refusal = refused_before (checked_checks 1 bytes entry) (kind_own_checks (morphism_of bytes) s e least) p.refusal;
    answered = tt;
    accepts = λ h. absurd (not_passed h);
    scratch = p.scratch;
  }

  -- what is said of a checked rule's state
  module _ {shape : Shape} {mid end : List ℕ} (p : CheckPromise 1 bytes entry mid (Ok shape)) (z : end ≡ replicate (length mid) 0) (answer : StateKind)
      (k : KindSaid (morphism_at bytes shape.elements shape.letters) s e least mid answer) where
    same : morphism_at bytes shape.elements shape.letters ≡ morphism_of bytes
    same = shape_morphism p.scratch.shape_is

    -- a least grade that passes is 1 or more
    low : kind_verdict answer ≡ passed → 1 ≤ least
    low h =
        let all = subst (FirstFailure (kind_own_checks (morphism_at bytes shape.elements shape.letters) s e least)) h k.refusal in
        let not : least < 1 → ⊥ = λ l. (passes_head all).nowhere 0 (record { outside = inl l; is_place = refl }) in
        omega arith

    pub kind_told : KindPromise bytes s e least entry end answer
    kind_told = record {
      refusal = passed_before (checked_checks 1 bytes entry) (kind_own_checks (morphism_of bytes) s e least) p.refusal
          (subst (λ (m : Morphism). FirstFailure (kind_own_checks m s e least) (kind_verdict answer)) same k.refusal);
      answered = subst (λ (m : Morphism). KindAnswer m (marking_of bytes) s e least answer) same (k.kind (marking_of bytes) (marks_stand 1 bytes entry p));
      accepts = λ h. checked_accepts bytes entry p.refusal least (low h);
      scratch = zeros_left 1 bytes entry p.refusal mid end (checked_length p.scratch) z;
    }

-- ---- the states that a state leads to

-- a short buffer is refused, and both are left as they came
pub successors_short : (bytes : List ℕ) (s e letter : ℕ) (out scratch : List ℕ) → length out < successors_size
    → SuccessorsPromise bytes s e letter out out scratch scratch (Successors-refused BufferTooShort 1 0)
successors_short bytes s e letter out scratch h =
    record { refusal = buffer_short h; answered = refl; accepts = λ q. absurd (not_passed q); scratch = short_left successors_size out scratch h }

module _ (bytes : List ℕ) (s e letter : ℕ) (out entry : List ℕ) (long : successors_size ≤ length out) where
  pub successors_refused : {exit : List ℕ} {r : Refusal} {input place : ℕ} → CheckPromise 1 bytes entry exit (Err (refused_by r input place))
      → SuccessorsPromise bytes s e letter out out entry exit (Successors-refused r input place)
  successors_refused p = record {
    refusal = buffer_long long (refused_before (checked_checks 1 bytes entry) (successor_own_checks (morphism_of bytes) s e letter) p.refusal);
    answered = refl;
    accepts = λ h. absurd (not_passed h);
    scratch = long_left successors_size out entry long p.scratch;
  }

  module _ {shape : Shape} {mid end : List ℕ} (p : CheckPromise 1 bytes entry mid (Ok shape)) (z : end ≡ replicate (length mid) 0) where
    abbrev read : Morphism
    read = morphism_at bytes shape.elements shape.letters

    as_file : read ≡ morphism_of bytes
    as_file = shape_morphism p.scratch.shape_is

    -- the call's own checks, by the counts that were read
    own : {v : Verdict} → FirstFailure (successor_own_checks read s e letter) v → FirstFailure (successor_checks bytes s e letter out entry) v
    own {v} f =
        buffer_long long (passed_before (checked_checks 1 bytes entry) (successor_own_checks (morphism_of bytes) s e letter) p.refusal
        (subst (λ (m : Morphism). FirstFailure (successor_own_checks m s e letter) v) as_file f))

    left : end ≡ scratch_left successors_size out entry
    left = long_left successors_size out entry long (zeros_left 1 bytes entry p.refusal mid end (checked_length p.scratch) z)

    -- no such state
    pub successors_missing : {found : Bool} → found ≡ is_state read (value_of s) e → not found ≡ true → SuccessorsPromise bytes s e letter out out entry end (Successors-refused NoSuchState 1 0)
    successors_missing is f = record {
      refusal = own (first_fails (state_check read s e) (record { missing = said_none is f; is_place = refl }));
      answered = refl;
      accepts = λ q. absurd (not_passed q);
      scratch = left;
    }

    module _ {found : Bool} (is : found ≡ is_state read (value_of s) e) (f : not found ≡ false) where
      state : is_state read (value_of s) e ≡ true
      state = said_state is f

      state_passes : {v : Verdict} → FirstFailure (lone_letter_check 1 shape.letters letter ∷ []) v → FirstFailure (successor_own_checks read s e letter) v
      state_passes = first_passes (record { nowhere = λ place q. true≢false (sym state ∙ q.missing) })

      -- no such letter
      pub successors_letter : shape.letters ≤ letter → SuccessorsPromise bytes s e letter out out entry end (Successors-refused UnknownLetter 1 0)
      successors_letter h = record {
        refusal = own (state_passes (first_fails (lone_letter_check 1 shape.letters letter) (record { foreign = h; is_place = refl })));
        answered = refl;
        accepts = λ q. absurd (not_passed q);
        scratch = left;
      }

      module _ (known : letter < shape.letters) where
        pub list_place : ListNeeds bytes shape.elements shape.letters s e letter out
        list_place = record { table = checked_table 1 bytes entry p; lawful = checked_lawful 1 bytes entry p; state = state; letter = known; room = long }

        pub successors_listed : {after : List ℕ} {count : ℕ} → AtFront (successors_of read s e letter) out after count
            → SuccessorsPromise bytes s e letter out after entry end (Listed count)
        successors_listed {after} {count} w = record {
          refusal = own (state_passes (first_passes (record { nowhere = λ place f. omega (arith, f.foreign) }) none_left));
          answered = subst (λ (m : Morphism). AtFront (successors_of m s e letter) out after count) as_file w;
          accepts = λ q least low high. checked_accepts bytes entry p.refusal least low;
          scratch = left;
        }
