-- What `reduce` writes, with its map, gets yes from `confirm`; so does every renumbering of it, with any marks that keep the grades. Assumes nothing.
use Prim.Native.Nat.{ℕ, ◌≤◌, ◌<◌}
use mathlib.Core.Path.{◌≡◌, refl, sym, subst}
use mathlib.Core.List.{List, [], ◌∷◌}
use lib.ListN.{length, get_or}
use Rattle.answer.specs.Checks.{passed, FirstFailure}
use Rattle.answer.proofs.Order.{passed_before, passed_last, passes_head, passes_tail, first_passes, none_left, one_verdict}
use Rattle.answer.proofs.Verdicts.{not_passed}
use Rattle.theory.specs.Rules.{Lawful}
use Rattle.theory.specs.Grades.{StrongMarking}
use Rattle.theory.specs.Maps.{MapsOnto}
use Rattle.theory.specs.Smallest.{SameGrades, Renumbered}
use Rattle.theory.proofs.Maps.{maps_same, maps_renumbered}
use Rattle.theory.proofs.SameGrades.{same_back, same_on, smallest_same, renumbered_size}
use Rattle.formats.specs.RuleFile.{elements_of, morphism_of, marking_of}
use Rattle.formats.specs.RuleChecks.{scratch_size, rule_checks}
use Rattle.formats.specs.Calls.{checked_checks}
use Rattle.formats.specs.WrittenFile.{file_of}
use Rattle.formats.specs.ReadBack.{ReadsBack}
use Rattle.formats.specs.Front.{AtFront}
use Rattle.formats.proofs.Agree.{agree_lawful}
use Rattle.formats.proofs.Buffers.{buffer_long}
use Rattle.formats.proofs.Front.{one_front}
use Rattle.formats.proofs.ReadBack.{reads_agree}
use Rattle.formats.proofs.ReadRules.{reads_strong}
use Rattle.promises.specs.declared.Written.TheVariants.{Rule as Is-rule}
use Rattle.promises.specs.declared.Confirmation.{Confirmation}
use Rattle.promises.specs.declared.Confirmation.TheVariants.{Yes, No, Refused}
use Rattle.promises.specs.Weak.{WeakAt, weak_check}
use Rattle.promises.specs.Reduce.{rule_of, ReducedTo, ReducePromise}
use Rattle.promises.specs.Confirm.{ReducesBy, confirm_checks, confirmation_verdict, ConfirmationAnswer, ConfirmPromise}
use Rattle.promises.proofs.OneConfirmation.{confirm_single}
use Rattle.promises.proofs.OneReduction.{maps_to_file, reduce_rule_passes}
use Rattle.promises.proofs.Printing.{read_same}

-- ---- a right reduction whose files pass gets yes

module _ (first second map entry exit : List ℕ) (room : scratch_size ≤ length entry) (first-passes-checks : FirstFailure (rule_checks 1 first) passed)
    (second-passes-checks : FirstFailure (rule_checks 2 second) passed) (not_weak : (place : ℕ) → WeakAt first place → ⊥) where
  all_pass : FirstFailure (confirm_checks first second entry) passed
  all_pass =
      passed_before (checked_checks 1 first entry) _ (buffer_long room first-passes-checks)
      (passed_before (rule_checks 2 second) (weak_check 1 first ∷ []) second-passes-checks (first_passes (record { nowhere = not_weak }) none_left))

  -- whatever the promise allows is an answer and no refusal
  judged : (answer : Confirmation) → ConfirmPromise first second map entry exit answer → confirmation_verdict answer ≡ passed
  judged answer p = one_verdict (confirm_single first second entry) p.refusal all_pass

  pub right_confirmed : ReducesBy first second map → (answer : Confirmation) → ConfirmPromise first second map entry exit answer → answer ≡ Yes
  right_confirmed right answer p = go answer p.answered (judged answer p)
    where
      go : (answer : Confirmation) → ConfirmationAnswer first second map answer → confirmation_verdict answer ≡ passed → answer ≡ Yes
      go Yes a e = refl
      go No a e = absurd (a right)
      go (Refused k i place) a e = absurd (not_passed e)

  -- and one that is not right gets no
  pub wrong_denied : ¬ ReducesBy first second map → (answer : Confirmation) → ConfirmPromise first second map entry exit answer → answer ≡ No
  wrong_denied wrong answer p = go answer p.answered (judged answer p)
    where
      go : (answer : Confirmation) → ConfirmationAnswer first second map answer → confirmation_verdict answer ≡ passed → answer ≡ No
      go Yes a e = absurd (wrong a)
      go No a e = refl
      go (Refused k i place) a e = absurd (not_passed e)

-- ---- our own

module _ {bytes out out' map map' : List ℕ} {end : ℕ} (a : ReducedTo bytes out out' map map' end) where
  -- a file of a rule with the reduction's elements in any numbering, marked so that each lasso keeps its grade, and the map renumbered
  module _ {second moved : List ℕ} (law : Lawful (morphism_of second)) (strong : StrongMarking (morphism_of second) (marking_of second))
      (same : SameGrades (rule_of bytes a.lawful) (rule_of second law)) (renumbered : Renumbered a.reduced.morphism (morphism_of second))
      (long : length moved ≡ elements_of bytes) (entries : (s : ℕ) → s < elements_of bytes → get_or moved s 0 ≡ renumbered.to (get_or a.map s 0)) where
    pub renumbered_reduces : ReducesBy bytes second moved
    renumbered_reduces = record {
      first_lawful = a.lawful;
      second_lawful = law;
      length_is = long;
      reduced = record {
        maps = maps_same a.lawful entries (maps_renumbered a.reduction.same.same_letters a.reduced.lawful a.maps renumbered);
        same = same;
        smallest = smallest_same a.reduction.smallest strong (same_on (same_back a.reduction.same) same) (sym (renumbered_size renumbered));
      };
    }

  module _ {file moved : List ℕ} (front : AtFront file out out' end) (map-front : AtFront moved map map' (elements_of bytes)) where
    file_is : file_of a.reduced.morphism a.reduced.marks ≡ file
    file_is = one_front a.written.front front

    reads : ReadsBack a.reduced.morphism a.reduced.marks file
    reads = subst (ReadsBack a.reduced.morphism a.reduced.marks) file_is a.written.reads_back

    law : Lawful (morphism_of file)
    law = agree_lawful (reads_agree reads) a.reduced.lawful

    pub own_reduces : ReducesBy bytes file moved
    own_reduces = record {
      first_lawful = a.lawful;
      second_lawful = law;
      length_is = sym map-front.counts;
      reduced = record {
        maps = subst (λ (l : List ℕ). MapsOnto (morphism_of bytes) (morphism_of file) (λ s. get_or l s 0)) (one_front a.map_written map-front) (maps_to_file a reads);
        same = same_on a.reduction.same (read_same a.reduced reads law);
        smallest =
            smallest_same a.reduction.smallest (reads_strong a.reduced.lawful reads a.reduction.smallest.strong) (read_same a.reduced reads law)
            (reads_agree reads).same_size;
      };
    }

    file_passes : FirstFailure (rule_checks 2 file) passed
    file_passes = subst (λ (f : List ℕ). FirstFailure (rule_checks 2 f) passed) file_is (a.written.passes 2)

-- "what it writes gets yes": whatever the promises allow, with a scratch that is long enough
pub own_confirmed : {bytes out out' map map' entry exit file moved entry' exit' : List ℕ} {end : ℕ} → ReducePromise bytes out out' map map' entry exit (Is-rule end)
    → AtFront file out out' end → AtFront moved map map' (elements_of bytes) → scratch_size ≤ length entry'
    → (answer : Confirmation) → ConfirmPromise bytes file moved entry' exit' answer → answer ≡ Yes
own_confirmed {bytes} {out} {out'} {map} {map'} {entry} {exit} {file} {moved} {entry'} {exit'} p front map-front room answer q =
    let weak-passes = passes_head (passed_last (checked_checks 1 bytes entry) (weak_check 1 bytes ∷ []) (passes_tail (passes_tail p.refusal))) in
    right_confirmed bytes file moved entry' exit' room (reduce_rule_passes bytes out map entry p.refusal) (file_passes p.answered front map-front) weak-passes.nowhere
    (own_reduces p.answered front map-front) answer q
