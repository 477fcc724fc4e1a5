-- Equal rules, equal print (document 02, Job 8): what `reduce` prints for two files is equal byte for byte exactly if the files' rules give
-- each lasso the same grade, and what it prints for a printed file is that file. Assumes nothing.
use Prim.Native.Nat.{ℕ, ◌≤◌}
use mathlib.Core.Path.{◌≡◌, refl, sym, ap, subst, ◌∙◌}
use mathlib.Core.Logic.{◌↔◌}
use mathlib.Core.List.{List}
use lib.ListN.{length}
use Rattle.answer.specs.Checks.{passed, FirstFailure}
use Rattle.answer.proofs.Order.{first_passes, none_left, passed_before, one_verdict}
use Rattle.answer.proofs.Verdicts.{not_passed}
use Rattle.theory.specs.Rules.{Rule, Lawful}
use Rattle.theory.specs.Words.{Lasso}
use Rattle.theory.specs.Grades.{Graded, StrongMarking}
use Rattle.theory.proofs.Gradings.{one_grade, graded_same}
use Rattle.theory.specs.Smallest.{SameGrades}
use Rattle.formats.specs.RuleFile.{letters_of, morphism_of, marking_of}
use Rattle.formats.specs.RuleChecks.{rule_checks, rule_size, scratch_size}
use Rattle.formats.specs.Calls.{checked_checks}
use Rattle.formats.specs.WrittenFile.{file_of}
use Rattle.formats.specs.ReadBack.{ReadsBack}
use Rattle.formats.specs.Front.{AtFront}
use Rattle.formats.proofs.Agree.{agree_lawful}
use Rattle.formats.proofs.Buffers.{buffer_long}
use Rattle.formats.proofs.Front.{one_front}
use Rattle.formats.proofs.ReadBack.{reads_agree}
use Rattle.formats.proofs.ReadRules.{reads_at_least, reads_strong}
use Rattle.promises.specs.declared.Written.{Written}
use Rattle.promises.specs.declared.Written.TheVariants.{Rule as Is-rule, Refused}
use Rattle.promises.specs.Answers.{written_verdict}
use Rattle.promises.specs.Reduce.{map_size, reduce_checks, rule_of, ReducedTo, ReducePromise}
use Rattle.promises.specs.Printed.{Prints, Printed}
use Rattle.promises.specs.PrintTheorem.{PrintTheorem}
use Rattle.promises.proofs.OneReduction.{reduce_single}
use Rattle.theory.proofs.SameGrades.{same_back, same_on}
use Rattle.promises.proofs.SameReductions.{same_rule, reductions_file}

-- ---- a printed file means a rule with the grades of the rule that was reduced

-- the reduction that a print was written of
abbrev pub reduced_to : {bytes file : List ℕ} (p : Prints bytes file) → ReducedTo bytes p.before p.after p.map_before p.map_after p.end
reduced_to p = p.promised.answered

print_is : {bytes file : List ℕ} (p : Prints bytes file) → file_of (reduced_to p).reduced.morphism (reduced_to p).reduced.marks ≡ file
print_is p = one_front (reduced_to p).written.front p.printed

pub written_reads : {bytes file : List ℕ} (p : Prints bytes file) → ReadsBack (reduced_to p).reduced.morphism (reduced_to p).reduced.marks file
written_reads p = subst (ReadsBack (reduced_to p).reduced.morphism (reduced_to p).reduced.marks) (print_is p) (reduced_to p).written.reads_back

pub print_lawful : {bytes file : List ℕ} → Prints bytes file → Lawful (morphism_of file)
print_lawful p = agree_lawful (reads_agree (written_reads p)) (reduced_to p).reduced.lawful

pub read_same : (x : Rule) {file : List ℕ} → ReadsBack x.morphism x.marks file → (law : Lawful (morphism_of file)) → SameGrades x (rule_of file law)
read_same x r law = record {
  same_letters = sym (reads_agree r).same_letters;
  both_or_neither = λ g some u v l. reads_at_least x.lawful r g u v;
}

pub print_grades : {bytes file : List ℕ} → Prints bytes file → (law : Lawful (morphism_of bytes)) (law' : Lawful (morphism_of file)) → SameGrades (rule_of bytes law) (rule_of file law')
print_grades {bytes} p law law' = same_on (same_rule bytes) (same_on (reduced_to p).reduction.same (read_same (reduced_to p).reduced (written_reads p) law'))

-- ---- equal prints

module _ {bytes bytes' file file' : List ℕ} (p : Prints bytes file) (q : Prints bytes' file') (law : Lawful (morphism_of bytes)) (law' : Lawful (morphism_of bytes')) where
  same_print : SameGrades (rule_of bytes law) (rule_of bytes' law') → file ≡ file'
  same_print s =
      let between = same_on (same_rule bytes) (same_on s (same_rule bytes')) in
      sym (print_is p)
      ∙ sym (reductions_file between (reduced_to p).reduction (reduced_to q).reduction (reduced_to p).numbered (reduced_to q).numbered)
      ∙ print_is q

  print_same : file ≡ file' → SameGrades (rule_of bytes law) (rule_of bytes' law')
  print_same e =
      let q' : Prints bytes' file = subst (Prints bytes') (sym e) q in
      same_on (print_grades p law (print_lawful p)) (same_back (print_grades q' law' (print_lawful p)))

  -- "the reduced files are equal byte for byte exactly if the rules accept the same lassos", each with its grade
  pub equal_print : (file ≡ file') ↔ SameGrades (rule_of bytes law) (rule_of bytes' law')
  equal_print = (print_same, same_print)

-- ---- strong rules are printed

-- whatever the promise allows for the file of a strong rule that passes the checks, with buffers that are long enough
module _ (bytes : List ℕ) (checks : FirstFailure (rule_checks 1 bytes) passed) (strong : StrongMarking (morphism_of bytes) (marking_of bytes))
    (out out' map map' entry exit : List ℕ) (long : rule_size ≤ length out) (map-long : map_size ≤ length map) (room : scratch_size ≤ length entry) where
  strong_passes : FirstFailure (reduce_checks bytes out map entry) passed
  strong_passes =
      buffer_long long (buffer_long map-long
      (passed_before (checked_checks 1 bytes entry) _ (buffer_long room checks)
      (first_passes (record { nowhere = λ place f. f.weak strong }) none_left)))

  pub strong_printed : (answer : Written) → ReducePromise bytes out out' map map' entry exit answer → Printed bytes out out' answer
  strong_printed answer promise = printed answer promise (one_verdict (reduce_single bytes out map entry) promise.refusal strong_passes)
    where
      printed : (answer : Written) → ReducePromise bytes out out' map map' entry exit answer → written_verdict answer ≡ passed → Printed bytes out out' answer
      printed (Is-rule end) p e =
          let front = p.answered.written.front in
          record {
            file = file_of p.answered.reduced.morphism p.answered.reduced.marks;
            length_is = ap Is-rule front.counts;
            front = record { holds = front.holds; counts = refl };
            prints = record { before = out; after = out'; map_before = map; map_after = map'; entry = entry; exit = exit; end = end; promised = p; printed = front };
          }
      printed (Refused k i place) p e = absurd (not_passed e)

-- ---- a print printed again

pub print_again : {bytes file file' : List ℕ} → Prints bytes file → Prints file file' → file ≡ file'
print_again p q = same_print p q (reduced_to p).lawful (print_lawful p) (print_grades p (reduced_to p).lawful (print_lawful p))

-- "reducing a reduced file returns it": whatever the promise allows for a printed file, with buffers that are long enough
module _ {bytes file : List ℕ} (p : Prints bytes file) where
  print_strong : StrongMarking (morphism_of file) (marking_of file)
  print_strong = reads_strong (reduced_to p).reduced.lawful (written_reads p) (reduced_to p).reduction.smallest.strong

  checks_pass : FirstFailure (rule_checks 1 file) passed
  checks_pass = subst (λ (f : List ℕ). FirstFailure (rule_checks 1 f) passed) (print_is p) ((reduced_to p).written.passes 1)

  module _ (out out' map map' entry exit : List ℕ) (long : rule_size ≤ length out) (map-long : map_size ≤ length map) (room : scratch_size ≤ length entry) where
    -- it is not refused, and the file is printed again
    pub reduce_again : (answer : Written) → ReducePromise file out out' map map' entry exit answer → (answer ≡ Is-rule (length file)) × AtFront file out out' (length file)
    reduce_again answer promise =
        let again = strong_printed file checks_pass print_strong out out' map map' entry exit long map-long room answer promise in
        subst (λ (f : List ℕ). (answer ≡ Is-rule (length f)) × AtFront f out out' (length f)) (sym (print_again p again.prints)) (again.length_is, again.front)

-- ---- rules that differ in one lasso's grade print differently

pub other_print : {bytes bytes' file file' : List ℕ} {u v : List ℕ} {g g' : ℕ} → Prints bytes file → Prints bytes' file' → Lasso (letters_of bytes) u v
    → Graded (morphism_of bytes) (marking_of bytes) u v g → Graded (morphism_of bytes') (marking_of bytes') u v g' → (g ≡ g' → ⊥) → file ≡ file' → ⊥
other_print p q l k k' differ e =
    differ (one_grade k (graded_same (λ i some.
    (let both = (print_same p q (reduced_to p).lawful (reduced_to q).lawful e).both_or_neither i some _ _ l in (both.1, both.0))) k'))

pub print_theorem : PrintTheorem
print_theorem = record {
  equal = λ bytes bytes' file file' p q law law'. equal_print p q law law';
  printed = λ bytes checks strong out out' map map' entry exit long map-long room answer p. strong_printed bytes checks strong out out' map map' entry exit long map-long room answer p;
  again = λ bytes file p out out' map map' entry exit long map-long room answer q. reduce_again p out out' map map' entry exit long map-long room answer q;
}
