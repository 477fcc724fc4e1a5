-- What the definitions of the rows leave out: for each a case that it excludes. Assumes nothing.
use Prim.Native.Nat.{ℕ, ◌≤◌, ◌<◌}
use native.Mathlib.Omega.{arith}
use mathlib.Core.Path.{◌≡◌, refl, sym, ap, ◌∙◌}
use mathlib.Core.Bool.{Bool, not, ◌||◌}
use mathlib.Core.Logic.{⊎_elim}
use mathlib.Core.List.{List, [], ◌∷◌, ◌++◌}
use lib.ListN.{length, drop, replicate, get_or, length-replicate}
use Rattle.finite.proofs.Tests.{T_or_cases, not_T}
use Rattle.answer.specs.Checks.{passed, numbered}
use Rattle.theory.specs.Words.{Over, over_cons}
use Rattle.theory.specs.Rules.{level}
use Rattle.theory.specs.Pairs.{Classes, ClassCounts}
use Rattle.theory.proofs.Closure.{linked_elim, closure_test, closure_intro}
use Rattle.theory.proofs.TableTests.{all_pairs_elim, counted_same}
use Rattle.formats.specs.RuleFile.{morphism_of, marking_of}
use Rattle.promises.specs.declared.Written.TheVariants.{Rule as Is-rule}
use Rattle.formats.specs.RuleChecks.{rule_size, scratch_size}
use Rattle.examples.specs.Files.{W, W_all, one_element, Z, Z₀, not_associative, unreached, automaton}
use Rattle.promises.specs.Printed.{Prints}
use Rattle.promises.specs.Reduce.{map_size}
use Rattle.promises.proofs.Printing.{other_print}
use Rattle.formats.proofs.GoodRule.{graded_marks}
use Rattle.theory.proofs.Computing.{lasso_elim, graded_is}
use Rattle.examples.specs.Examples.{ChecksTo, GradesLasso, RefusesLasso, ConjugateToMark, NotClosed, MarksLinked, ExampleReducesTo, ExampleHandsBack, ReducesToBytes, AutomatonReducesTo}
use Rattle.examples.proofs.Reading.{reading}
use Rattle.examples.proofs.Rules.{W_all_good}
use Rattle.examples.proofs.Examples.{examples}

-- ---- checks

-- the two files that are refused do not pass
refused_or_passed : {number input place : ℕ} → passed ≡ numbered number input place → ⊥
refused_or_passed e = let z : ◌≡◌ {A = ℕ} 0 1 = cc in omega arith

pub not_associative_passes : ¬ ChecksTo not_associative passed
not_associative_passes c = refused_or_passed (examples.m8.only passed c.refusal)

pub unreached_passes : ¬ ChecksTo unreached passed
unreached_passes c = refused_or_passed (examples.m9.only passed c.refusal)

-- M9's table associates: 5 is not its refusal
pub other_number : ¬ ChecksTo unreached (numbered 5 1 1)
other_number c =
    let e = examples.m9.only (numbered 5 1 1) c.refusal in
    let z : ◌≡◌ {A = ℕ} 5 6 = cc in
    omega arith

-- ---- counts

-- a class for each linked pair of Z
pub classes_made_up : ¬ ClassCounts (morphism_of Z) 2 2 0
unfolding Classes
classes_made_up c =
    let e : ◌≡◌ {A = ℕ} 2 1 = counted_same c.class_count examples.m5.1.class_count in
    omega arith

-- ---- lassos and marks

-- a word with a foreign letter is no lasso, accepted or not
pub foreign_letter : ¬ RefusesLasso W (2 ∷ []) (0 ∷ [])
unfolding reading
foreign_letter k = outside k.lasso.start_over
  where
    outside : ¬ Over 2 (2 ∷ [])
    outside (over_cons h o) = omega arith

-- the pair (1, 0) of Z is not marked
pub not_a_mark : ¬ ConjugateToMark Z 0 0 1 0
unfolding reading
not_a_mark k = k.has_mark

-- the marks of W are closed under conjugacy
marked_if_closed : ℕ → ℕ → Bool
marked_if_closed s e = not (closure_test (morphism_of W) (level 1 (marking_of W)) s e) || level 1 (marking_of W) s e

pub closed_marks : ¬ NotClosed W
unfolding reading marked_if_closed
closed_marks k =
    let c = k.to_mark.conjugate in
    let t = closure_intro {m = morphism_of W} {P = level 1 (marking_of W)}
    (record { to_start = k.marked_start; to_cycle = k.marked_cycle; conjugate = c; has_mark = k.to_mark.has_mark }) in
    ⊎_elim (not_T (closure_test (morphism_of W) (level 1 (marking_of W)) k.start k.cycle)) (λ f. absurd (k.not_marked f))
    (T_or_cases (not (closure_test (morphism_of W) (level 1 (marking_of W)) k.start k.cycle)) (level 1 (marking_of W) k.start k.cycle)
    (all_pairs_elim 2 marked_if_closed tt k.start k.cycle c.left_linked.inside c.left_linked.idempotent.inside)) t

-- W leaves linked pairs without a mark
pub linked_without_mark : ¬ MarksLinked W
unfolding reading
linked_without_mark k = (k.marks 1 1 (omega arith) (omega arith)).1 (linked_elim (morphism_of W) 1 1 tt)

-- ---- reductions

-- a file reduces to one number of elements
one_number : {bytes : List ℕ} {n n' : ℕ} → ExampleReducesTo bytes n → ExampleReducesTo bytes n' → n ≡ n'
one_number a b =
    let k = a.reduces a.lawful in
    sym (k.elements k.reduced k.reduction) ∙ (b.reduces a.lawful).elements k.reduced k.reduction

-- not the one-element rule for W, and not Z's own elements with letter 0 only
pub always_one : ¬ ExampleReducesTo W 1
always_one k = let e : ◌≡◌ {A = ℕ} 1 2 = one_number k examples.m1.3 in omega arith

pub copied_table : ¬ ExampleReducesTo Z₀ 2
copied_table k = let e : ◌≡◌ {A = ℕ} 2 1 = one_number k examples.m7.3 in omega arith

-- W with all linked pairs marked, copied to out, or mapped to itself
module _ (before map entry : List ℕ) (long : rule_size ≤ length before) (map-long : map_size ≤ length map) (room : scratch_size ≤ length entry) {file moves : List ℕ}
    (k : ReducesToBytes W_all file moves) where
  handed : ExampleHandsBack one_element (0 ∷ 0 ∷ []) before (file ++ drop (length file) before) map (moves ++ drop (length moves) map) entry (replicate (length entry) 0) (Is-rule (length file))
  handed =
      (examples.m4.1.exactly _ _ _ _ _ _ _ long map-long room).0
      ((k.exactly before (file ++ drop (length file) before) map (moves ++ drop (length moves) map) entry (replicate (length entry) 0) (Is-rule (length file)) long map-long room).1
      (record { answer_is = refl; stands = record { holds = refl; counts = refl }; map_stands = record { holds = refl; counts = refl }; scratch_is = refl }))

zeros_long : (n : ℕ) → n ≤ length (replicate {A = ℕ} n 0)
zeros_long n = omega (arith, length-replicate {A = ℕ} n 0)

pub copied_file : ¬ ReducesToBytes W_all W_all (0 ∷ 0 ∷ [])
copied_file k =
    let r = handed (replicate rule_size 0) (replicate map_size 0) (replicate scratch_size 0) (zeros_long rule_size) (zeros_long map_size) (zeros_long scratch_size) k in
    let e = r.answer_is in
    let f : ◌≡◌ {A = ℕ} 19 10 = cc in
    omega arith

pub mapped_to_itself : ¬ ReducesToBytes W_all one_element (0 ∷ 1 ∷ [])
mapped_to_itself k =
    let r = handed (replicate rule_size 0) (replicate map_size 0) (replicate scratch_size 0) (zeros_long rule_size) (zeros_long map_size) (zeros_long scratch_size) k in
    let e : ◌≡◌ {A = ℕ} 1 0 = ap (λ (l : List ℕ). get_or l 1 0) r.map_stands.holds in
    omega arith

-- ---- automata

-- two matrices only, the number that is left after the reduction
pub two_matrices : ¬ AutomatonReducesTo automaton 2 2
two_matrices k = let h : 2 < 2 = (k.matrices 2).0 ((examples.m10.matrices 2).1 (omega arith)) in omega arith

-- ---- prints

-- W with all linked pairs marked is printed as the rule of one element
abbrev out : List ℕ
out = replicate rule_size 0

abbrev map : List ℕ
map = replicate map_size 0

abbrev scratch : List ℕ
scratch = replicate scratch_size 0

all_prints : Prints W_all one_element
all_prints = record {
  before = out;
  after = one_element ++ drop 10 out;
  map_before = map;
  map_after = 0 ∷ 0 ∷ drop 2 map;
  entry = scratch;
  exit = replicate (length scratch) 0;
  end = 10;
  promised = (examples.m4.1.exactly out (one_element ++ drop 10 out) map (0 ∷ 0 ∷ drop 2 map) scratch (replicate (length scratch) 0) (Is-rule 10)
      (zeros_long rule_size) (zeros_long map_size) (zeros_long scratch_size)).1
      (record { answer_is = refl; stands = record { holds = refl; counts = refl }; map_stands = record { holds = refl; counts = refl }; scratch_is = refl });
  printed = record { holds = refl; counts = refl };
}

all_graded : GradesLasso W_all (0 ∷ []) (1 ∷ []) 3
unfolding reading
all_graded = record {
  lasso = lasso_elim 2 (0 ∷ []) (1 ∷ []) tt;
  graded = graded_is W_all_good.lawful (graded_marks W_all_good) (0 ∷ []) (1 ∷ []) tt refl;
}

-- W is not, as it grades u=0, v=1 otherwise
pub other_grade_other_print : ¬ Prints W one_element
other_grade_other_print p =
    other_print p all_prints examples.m3.lasso examples.m3.graded all_graded.graded (λ e. let z : ◌≡◌ {A = ℕ} 0 3 = e in omega arith) refl
