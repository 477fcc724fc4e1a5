-- What each way through the making of a rule promises, once the automaton was read. Assumes nothing.
use Rattle.std.proofs.Common.{Option, Some, None}
use Prim.Native.Nat.{ℕ, ◌+◌, ◌-◌}
use mathlib.Core.Path.{◌≡◌, refl, ap, ◌∙◌, subst}
use mathlib.Core.List.{List}
use native.Mathlib.Omega.{arith}
use lib.ListN.{length, get_or, take, drop, replicate}
use Rattle.answer.specs.declared.Refusal.TheVariants.{TooManyMatrices}
use Rattle.answer.proofs.Order.{first_passes, first_fails, none_left}
use Rattle.buchi.proofs.AutomatonRule.{elements_reached, graded_good, graded_accepts_runs, graded_strong, graded_marks}
use Rattle.automaton_matrix_search.specs.Lists.{matrix_at, step_place, AllListed, TooRich, ListAnswer, MatricesAnswer}
use Rattle.formats.proofs.ReadBack.{written_rule}
use Rattle.promises.specs.Automaton.{automaton_of, matrices_check}
use Rattle.automaton_table.specs.Laying.{laid_rule, laid_marks, StepList, MarkNeeds, RuleLaid}
use Rattle.rule_laid.specs.Laid.{LaidNeeds, LaidAs, LaidWritten}
use Rattle.scratch.specs.Map.{steps_base}
use Rattle.automaton_translation.specs.Promise.{ReadHere, MadePromise}
use Rattle.promises.specs.declared.Written.TheVariants.{Rule, Refused}
use Rattle.automaton_translation.proofs.Reading.{read_stands, read_place, read_letters}
use Rattle.automaton_translation.proofs.Made.{step_list, mark_place, laid_lawful, laid_matrices, laid_order, laid_marking, laid_threes, not_rich}

-- the bytes of the states
abbrev kinds : List ℕ → List ℕ
kinds bytes = take (length bytes - 1) (drop 1 bytes)

module _ {bytes : List ℕ} {n k : ℕ} {out scratch listed : List ℕ} (r : ReadHere bytes n k out scratch) where
  -- more than 64 matrices
  pub made_refused : {end : List ℕ} (answer : Option ℕ) → MatricesAnswer (kinds bytes) n k scratch listed answer → answer ≡ None → end ≡ replicate (length listed) 0
      → MadePromise bytes out out scratch end (Refused TooManyMatrices 1 0)
  made_refused answer a e z =
      let rich : TooRich (kinds bytes) n k scratch = subst (ListAnswer (kinds bytes) n k scratch listed) e a.says in
      record {
        refusal = first_fails (matrices_check bytes) (record { more = rich.more (automaton_of bytes) (read_stands r); is_place = refl });
        answered = refl;
        scratch = z ∙ ap (λ (c : ℕ). replicate c 0) a.kept.same_length;
      }

  -- the matrices were listed
  module _ {count : ℕ} (answer : Option ℕ) (a : MatricesAnswer (kinds bytes) n k scratch listed answer) (e : answer ≡ Some count) where
    all : AllListed (kinds bytes) n k scratch listed count
    all = subst (ListAnswer (kinds bytes) n k scratch listed) e a.says

    pub lay_place : StepList (kinds bytes) n listed count × MarkNeeds (kinds bytes) n listed count
    lay_place = (step_list (read_stands r) (read_place r) a.kept all, mark_place (read_stands r) (read_place r) a.kept all)

    -- and the rule was laid out
    module _ {laid : List ℕ} (l : RuleLaid (kinds bytes) n count listed laid) where
      same_length : length laid ≡ length scratch
      same_length = l.kept.same_length ∙ a.kept.same_length

      pub write_place : LaidNeeds steps_base count k laid out
      write_place = record {
        some = all.some;
        small = all.list.few;
        letters_some = read_letters r;
        letters_small = (read_place r).few_letters;
        images_inside = omega arith;
        room = omega (arith, same_length, r.room);
        out_room = r.out_room;
      }

      -- what stands there is the rule that is meant: the letters' elements are where the letters lead from the empty word
      laid_as : LaidAs (laid_rule laid count k) (laid_marks laid) steps_base count k laid
      laid_as = record {
        size_is = refl;
        letters_are = refl;
        products = λ i j hi hj. refl;
        elements = λ x h. ap (λ (i : ℕ). get_or laid i 0) (let e : steps_base + x ≡ step_place 0 x = omega arith in e);
        grades = λ i j hi hj. refl;
      }

      -- and written
      pub rule_made : {exit end : List ℕ} {size : ℕ} → LaidWritten steps_base count k laid out exit size → end ≡ replicate (length laid) 0
          → MadePromise bytes out exit scratch end (Rule size)
      rule_made w z =
          let file = w.written _ _ laid_as in
          let law = laid_lawful (read_stands r) (read_place r) a.kept all l in
          let elements = laid_matrices (read_stands r) (read_place r) a.kept all l in
          let marking = laid_marking (read_stands r) (read_place r) a.kept all l in
          let threes = laid_threes (read_stands r) (read_place r) a.kept all l in
          record {
            refusal = first_passes (record { nowhere = λ place f. not_rich (read_stands r) (read_place r) a.kept all l f.more }) none_left;
            answered = record {
              morphism = laid_rule laid count k;
              matrix = matrix_at listed;
              marks = laid_marks laid;
              lawful = law;
              elements = elements;
              numbered = laid_order (read_stands r) (read_place r) a.kept all l;
              marking = marking;
              threes = threes;
              accepts = graded_accepts_runs (laid_marks laid) law elements marking threes;
              strong = graded_strong (laid_marks laid) law elements marking threes;
              all_marked = graded_marks (laid_marks laid) law elements marking threes;
              written =
                  written_rule (laid_rule laid count k) (laid_marks laid)
                  (record { some = all.some; small = all.list.few; letters_some = read_letters r; letters_small = (read_place r).few_letters })
                  (record { grades = (graded_good (laid_marks laid) law elements marking threes).small })
                  law (graded_good (laid_marks laid) law elements marking threes).linked (elements_reached law elements) file;
            };
            scratch = z ∙ ap (λ (c : ℕ). replicate c 0) same_length;
          }
