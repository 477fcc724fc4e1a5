-- What each way through the call for membership promises. Assumes nothing.
use Rattle.std.specs.Prelude.{Result}
use Rattle.answer.specs.declared.Refused.{Refused}
use Rattle.std.specs.Prelude.{Ok, Err}
use Rattle.answer.proofs.Parts.{refused_by}
use Prim.Native.Nat.{ℕ, ◌≤◌, ◌<◌}
use mathlib.Core.Path.{◌≡◌, refl, sym, ◌∙◌, subst}
use mathlib.Core.List.{List, [], ◌∷◌}
use native.Mathlib.Omega.{arith}
use lib.ListN.{length, replicate}
use Rattle.answer.specs.declared.Refusal.{Refusal}
use Rattle.answer.specs.Checks.{passed, refused, FirstFailure}
use Rattle.answer.proofs.Order.{refused_before, passed_before}
use Rattle.theory.specs.Rules.{Morphism, Lawful, Marking, level, element, value}
use Rattle.theory.specs.Grades.{Graded}
use Rattle.theory.proofs.Gradings.{GradedMarks, graded_same}
use Rattle.theory.specs.Pairs.{LeastPower, TurnsOf}
use Rattle.theory.proofs.Words.{over_from}
use Rattle.theory.proofs.Values.{inside_of}
use Rattle.theory.proofs.Starts.{start_or_turn, turn_of_empty, start_of_some}
use Rattle.theory.proofs.Membership.{accepts_test}
use Rattle.theory.proofs.Strength.{started_accepts}
use Rattle.formats.proofs.Tables.{Table}
use Rattle.formats.specs.Table.{morphism_at}
use Rattle.formats.specs.RuleFile.{letters_of, marking_of}
use Rattle.formats.specs.RuleChecks.{scratch_size}
use Rattle.rule_layout.specs.declared.Shape.{Shape}
use Rattle.rule_check.specs.Answers.{CheckPromise}
use Rattle.formats.specs.Calls.{after_call}
use Rattle.formats.proofs.GoodRule.{graded_marks, GoodRule, scratch_long, called_good}
use Rattle.rule_check.proofs.Calls.{zeros_left, checked_length, shape_morphism, shape_table}
use Rattle.formats.specs.WordChecks.{shortest_start, shortest_cycle, lasso_checks}
use Rattle.lasso_words.specs.Answers.{GoodWord, GoodLasso, LassoAnswer}
use Rattle.lasso_cuts.specs.WordValues.{CallWord}
use Rattle.scratch.specs.Map.{marks_from, MarkingAt}
use Rattle.scratch.proofs.Markings.{front_mark}
use Rattle.lasso_powers.specs.Raising.{Raised}
use Rattle.lasso_cuts.proofs.Accepted.{graded_told}
use Rattle.promises.specs.declared.LassoVerdict.TheVariants.{Decided, Refused as Not-decided}
use Rattle.promises.specs.Member.{MemberPromise}

-- the words' answer, known by its case
module _ (k : ℕ) (u v : List ℕ) (answer : Result (Unit {0}) Refused) (known : LassoAnswer k u v answer) where
  pub words_good : answer ≡ (Ok tt) → GoodLasso k u v
  words_good e = subst (LassoAnswer k u v) e known

  pub words_refused : {r : Refusal} {i place : ℕ} → answer ≡ Err (refused_by r i place) → FirstFailure (lasso_checks k u v) (refused r i place)
  words_refused e = subst (LassoAnswer k u v) e known

cycle_call : {k : ℕ} {w : List ℕ} → GoodWord shortest_cycle k w → CallWord k w
cycle_call {k} {w} g = record { over = over_from k w g.letters; some = g.some; short = g.short }

-- a turn of the cycle stands for an empty start
start_call : {k : ℕ} (u : List ℕ) {v : List ℕ} → GoodWord shortest_start k u → GoodWord shortest_cycle k v → CallWord k (start_or_turn u v)
unfolding start_or_turn
start_call [] gu gv = cycle_call gv
start_call {k} (a ∷ u) gu gv = record { over = over_from k (a ∷ u) gu.letters; some = omega arith; short = gu.short }

-- the tests with a turn of the cycle for an empty start
abbrev tested : Morphism → Marking → ℕ → List ℕ → List ℕ → Type 0
tested m marks r v u = Raised (λ g. accepts_test m (level g marks) u v) 0 r

module _ (m : Morphism) (marks : Marking) (u v : List ℕ) {r : ℕ} where
  pub turn_answer : length u < 1 → tested m marks r v v → tested m marks r v (start_or_turn u v)
  turn_answer h a = subst (tested m marks r v) (turn_of_empty u v h) a

  pub start_answer : 1 ≤ length u → tested m marks r v u → tested m marks r v (start_or_turn u v)
  start_answer h a = subst (tested m marks r v) (start_of_some u v h) a

pub start_itself : {k : ℕ} (u v : List ℕ) → 1 ≤ length u → CallWord k (start_or_turn u v) → CallWord k u
start_itself {k} u v h w = subst (CallWord k) (sym (start_of_some u v h)) w

module _ (bytes u v entry : List ℕ) where
  -- the rule is refused
  pub rule_refused : {exit : List ℕ} {r : Refusal} {i place : ℕ} → CheckPromise 1 bytes entry exit (Err (refused_by r i place)) → MemberPromise bytes u v entry exit (Not-decided r i place)
  rule_refused p = record { refusal = refused_before _ _ p.refusal; answered = tt; scratch = p.scratch }

  module _ {shape : Shape} {mid : List ℕ} (p : CheckPromise 1 bytes entry mid (Ok shape)) where
    good : GoodRule bytes
    good = called_good 1 bytes entry p.refusal

    pub member_table : Table bytes shape.elements shape.letters
    member_table = shape_table p.scratch.shape_is good.table

    pub member_lawful : Lawful (morphism_at bytes shape.elements shape.letters)
    member_lawful = subst Lawful (sym (shape_morphism p.scratch.shape_is)) good.lawful

    marks_good : GradedMarks (morphism_at bytes shape.elements shape.letters) (marking_of bytes)
    marks_good = subst (λ (m : Morphism). GradedMarks m (marking_of bytes)) (sym (shape_morphism p.scratch.shape_is)) (graded_marks good)

    pub member_long : scratch_size ≤ length mid
    member_long = omega (arith, scratch_long 1 bytes entry p.refusal, checked_length p.scratch)

    -- the file's marking stands in the table of marks in scratch
    stands : MarkingAt shape.elements (marking_of bytes) mid 0
    stands = record {
      same = λ s e hs he.
          sym (p.scratch.mark s e (omega (arith, p.scratch.shape_is.elements)) (omega (arith, p.scratch.shape_is.elements))) ∙ front_mark mid s e;
    }

    -- zeros after the marks or after their use
    left : (was exit : List ℕ) → length was ≡ length mid → exit ≡ replicate (length was) 0 → exit ≡ after_call entry
    left was exit e z = zeros_left 1 bytes entry p.refusal was exit (e ∙ checked_length p.scratch) z

    -- a word is refused
    pub word_refused : (exit : List ℕ) {r : Refusal} {i place : ℕ} → FirstFailure (lasso_checks shape.letters u v) (refused r i place) → exit ≡ replicate (length mid) 0
        → MemberPromise bytes u v entry exit (Not-decided r i place)
    word_refused exit {r} {i} {place} f z = record {
      refusal = passed_before _ _ p.refusal (subst (λ (k : ℕ). FirstFailure (lasso_checks k u v) (refused r i place)) p.scratch.shape_is.letters f);
      answered = tt;
      scratch = left mid exit refl z;
    }

    module _ (g : GoodLasso shape.letters u v) where
      pub start_word : CallWord shape.letters (start_or_turn u v)
      start_word = start_call u g.start g.cycle

      pub cycle_word : CallWord shape.letters v
      cycle_word = cycle_call g.cycle

      words_passed : FirstFailure (lasso_checks (letters_of bytes) u v) passed
      words_passed = subst (λ (k : ℕ). FirstFailure (lasso_checks k u v) passed) p.scratch.shape_is.letters g.refusal

      -- the value of the cycle is an element
      pub cycle_inside : {x : ℕ} → value (morphism_at bytes shape.elements shape.letters) v ≡ element x → x < shape.elements
      cycle_inside = inside_of member_lawful cycle_word.over

      -- the lasso is decided
      pub member_decided : {r x e turns : ℕ}
          → Raised (λ g. accepts_test (morphism_at bytes shape.elements shape.letters) (level g (marks_from mid 0)) (start_or_turn u v) v) 0 r
          → value (morphism_at bytes shape.elements shape.letters) v ≡ element x
          → LeastPower (morphism_at bytes shape.elements shape.letters) x e turns
          → (was exit : List ℕ) → length was ≡ length mid → exit ≡ replicate (length was) 0 → MemberPromise bytes u v entry exit (Decided r turns)
      member_decided {r} {x} {turns = turns} answer cycle power was exit kept z = record {
        refusal = passed_before _ _ p.refusal words_passed;
        answered = (
          subst (λ (m : Morphism). Graded m (marking_of bytes) u v r) (shape_morphism p.scratch.shape_is)
              (graded_same (λ g some. started_accepts u v cycle_word.some) (graded_told member_table member_lawful marks_good start_word cycle_word mid stands answer)),
          subst (λ (m : Morphism). TurnsOf m v turns) (shape_morphism p.scratch.shape_is)
              (record { cycle = x; cycle_value = cycle; turns_are = power.exponent_is }),
        );
        scratch = left was exit kept z;
      }
