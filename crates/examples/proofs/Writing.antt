-- The promise of the reduction for W with all of its linked pairs marked: it allows one answer, and this one. Assumes nothing.
use Prim.Native.Nat.{ℕ, zero, suc, ◌≤◌, ◌<◌}
use native.Mathlib.Omega.{arith}
use mathlib.Core.Path.{◌≡◌, refl, sym, subst, ◌∙◌}
use mathlib.Core.List.{List, [], ◌∷◌}
use borrow.Author.Tests.{le-ltb}
use lib.ListN.{length, replicate, get_or}
use Rattle.finite.specs.Select.{select, select_from}
use Rattle.answer.specs.Checks.{passed, FirstFailure}
use Rattle.answer.proofs.Order.{first_passes, none_left, passed_before}
use Rattle.theory.proofs.EveryLasso.{GradesEvery, every_test, every_elim, one, one_rule}
use Rattle.theory.proofs.SmallReductions.{every_reduction, every_reduced}
use Rattle.theory.proofs.Maps.{maps_same}
use Rattle.formats.specs.RuleFile.{morphism_of, marking_of}
use Rattle.formats.proofs.GoodRule.{graded_marks}
use Rattle.formats.proofs.Buffers.{buffer_long}
use Rattle.formats.specs.RuleChecks.{rule_size, scratch_size}
use Rattle.formats.specs.Calls.{checked_checks, after_call}
use Rattle.formats.specs.WrittenFile.{tabulate, elements_bytes, letters_bytes, is_marked, mark_numbers, mark_bytes, marks_bytes, file_of}
use Rattle.formats.specs.Front.{AtFront}
use Rattle.formats.proofs.Front.{front_same}
use Rattle.promises.specs.declared.Written.{Written}
use Rattle.promises.specs.declared.Written.TheVariants.{Rule as Is-rule}
use Rattle.promises.specs.Reduce.{map_size, rule_of, reduce_checks, ReducedTo, reduce_left, ReducePromise}
use Rattle.promises.proofs.OneReduction.{one_answer}
use Rattle.examples.specs.Files.{W_all, one_element}
use Rattle.examples.specs.Examples.{ExampleHandsBack, ReducesToBytes}
use Rattle.examples.proofs.Reading.{reading}
use Rattle.examples.proofs.Rules.{W_all_passes, W_all_good, W_all_strong}
use Rattle.examples.proofs.OneElement.{all_marked, one_written, one_by_first_words}

-- every lasso is graded 3
every : GradesEvery (morphism_of W_all) (marking_of W_all)
unfolding reading every_test
every = every_elim W_all_good.lawful W_all_good.reached (graded_marks W_all_good) W_all_strong tt

-- the rule of one element over two letters is written as the document's bytes
one_bytes : file_of (one 2) all_marked ≡ one_element
unfolding file_of elements_bytes letters_bytes marks_bytes mark_numbers is_marked mark_bytes tabulate select select_from
one_bytes = refl

-- both elements go to the one
moves : List ℕ
moves = 0 ∷ 0 ∷ []

-- ---- the checks

module _ (before map entry : List ℕ) (long : rule_size ≤ length before) (map-long : map_size ≤ length map) (room : scratch_size ≤ length entry) where
  all_pass : FirstFailure (reduce_checks W_all before map entry) passed
  all_pass =
      buffer_long long (buffer_long map-long
      (passed_before (checked_checks 1 W_all entry) _ (buffer_long room W_all_passes)
      (first_passes (record { nowhere = λ place f. f.weak W_all_strong }) none_left)))

  zeros : reduce_left before map entry ≡ replicate (length entry) 0
  unfolding after_call
  zeros = simp (le-ltb (length before) rule_size long, le-ltb (length map) map_size map-long, le-ltb (length entry) scratch_size room)

  -- ---- what the promise allows

  each_goes : (s : ℕ) → s < 2 → get_or moves s 0 ≡ 0
  unfolding moves
  each_goes zero h = refl
  each_goes (suc zero) h = refl
  each_goes (suc (suc s)) h = absurd (let z : ⊥ = omega arith in z)

  written : {after map' : List ℕ} {end : ℕ} → AtFront (file_of (one 2) all_marked) before after end → AtFront moves map map' (length moves) → ReducedTo W_all before after map map' end
  unfolding reading moves
  written k m =
      let by = every_reduced (rule_of W_all W_all_good.lawful) (omega arith) every in
      record {
        lawful = W_all_good.lawful;
        reduced = one_rule 2;
        reduction = every_reduction (rule_of W_all W_all_good.lawful) (omega arith) every;
        numbered = one_by_first_words 2 (omega arith) (omega arith);
        written = one_written 2 (omega arith) (omega arith) k;
        map = moves;
        maps = maps_same W_all_good.lawful each_goes by.maps;
        map_written = m;
      }

  promised : {after map' exit : List ℕ} {answer : Written} → ExampleHandsBack one_element moves before after map map' entry exit answer → ReducePromise W_all before after map map' entry exit answer
  promised {after} {map'} {exit} k =
      subst (ReducePromise W_all before after map map' entry exit) (sym k.answer_is)
      (record {
        refusal = all_pass;
        answered = written (front_same (sym one_bytes) k.stands) k.map_stands;
        scratch = k.scratch_is ∙ sym zeros;
      })

  -- ---- and nothing else

  allowed : {after map' exit : List ℕ} (answer : Written) → ReducePromise W_all before after map map' entry exit answer
      → ExampleHandsBack one_element moves before after map map' entry exit answer
  allowed answer p =
      let q = promised (record { answer_is = refl; stands = record { holds = refl; counts = refl }; map_stands = record { holds = refl; counts = refl }; scratch_is = refl }) in
      let same = one_answer answer (Is-rule (length one_element)) p q in
      record {
        answer_is = same.answers;
        stands = record { holds = same.outs; counts = refl };
        map_stands = record { holds = same.maps; counts = refl };
        scratch_is = p.scratch ∙ zeros;
      }

-- M4
pub W_all_bytes : ReducesToBytes W_all one_element (0 ∷ 0 ∷ [])
unfolding moves
W_all_bytes = record {
  exactly = λ before after map map' entry exit answer long map-long room. (allowed before map entry long map-long room answer, promised before map entry long map-long room);
}
