-- What `automaton_rule` promises: the automaton that a file means, and the rule that is written for it. Document 01, "Automaton to
-- rule"; document 02, Job 12. Assumes nothing.
use Rattle.std.specs.Prelude.{ℕ, ◌≤◌, ◌<◌, ◌≡◌, List, [], ◌∷◌, ◌++◌}
use Rattle.answer.specs.declared.Refusal.TheVariants.{TooManyMatrices}
use Rattle.answer.specs.Checks.{Check, FirstFailure}
use Rattle.formats.specs.AutomatonFile.{states_of, automaton_letters_of, is_initial, is_final, has_transition}
use Rattle.buchi.specs.Automata.{Automaton}
use Rattle.buchi.specs.Rule.{MoreMatrices, MatricesOf, MarkedBy, AcceptsRuns}
use Rattle.theory.specs.Rules.{Morphism, Lawful, Marking, level}
use Rattle.theory.specs.Grades.{StrongMarking}
use Rattle.theory.specs.Smallest.{MarksGrades}
use Rattle.formats.specs.FirstWords.{ByFirstWords}
use Rattle.formats.specs.RuleChecks.{rule_size, buffer_check}
use Rattle.formats.specs.Calls.{scratch_left}
use Rattle.formats.specs.AutomatonChecks.{read_checks}
use Rattle.buchi.specs.Matrices.{Matrix}
use Rattle.formats.specs.ReadBack.{WrittenRule}
use Rattle.promises.specs.declared.Written.{Written}
use Rattle.promises.specs.Answers.{written_verdict, WrittenAnswer}

-- states "plain, initial, final, both", letters, and transitions "(from, letter, to)", as the bytes have them
abbrev pub automaton_of : List ℕ → Automaton
automaton_of bytes = record {
  states = states_of bytes;
  letters = automaton_letters_of bytes;
  initial = is_initial bytes;
  final = is_final bytes;
  step = has_transition bytes;
}

-- 14 "an automaton has more than 64 matrices"; place 0
pub record TooManyMatricesAt (bytes : List ℕ) (place : ℕ) : Type 0 where
  pub more : MoreMatrices (automaton_of bytes) 64
  pub is_place : place ≡ 0

-- 14, in input 1
abbrev pub matrices_check : List ℕ → Check
matrices_check bytes = record { refusal = TooManyMatrices; input = 1; Fails = TooManyMatricesAt bytes }

-- "The elements are the matrices of all non-empty words. The rule accepts exactly the lassos on which some run from an initial
-- state meets a final state again and again. A linked pair (R, E) is marked if .."; "Automata mark with 3" (Job 12), so that this holds
-- for each least grade from 1 to 3; elements are numbered by first words; the file of that rule was written, its marks by s, then by e
pub record AutomatonRuleOf (bytes entry exit : List ℕ) (r : ℕ) : Type 0 where
  pub morphism : Morphism
  pub matrix : ℕ → Matrix
  pub marks : Marking
  pub lawful : Lawful morphism
  pub elements : MatricesOf (automaton_of bytes) morphism matrix
  pub numbered : ByFirstWords morphism
  pub marking : MarkedBy (automaton_of bytes) morphism matrix (level 1 marks)
  pub threes : (s e : ℕ) → s < morphism.size → e < morphism.size → 1 ≤ marks s e → marks s e ≡ 3
  pub accepts : (g : ℕ) → 1 ≤ g → g ≤ 3 → AcceptsRuns (automaton_of bytes) morphism (level g marks)
  pub strong : StrongMarking morphism marks
  pub all_marked : MarksGrades morphism marks
  pub written : WrittenRule morphism marks entry exit r

-- "For an automaton: 13, 1 to 4, 8, 14"; 13 of both buffers
abbrev pub translate_checks : List ℕ → List ℕ → List ℕ → List Check
translate_checks bytes out scratch = buffer_check rule_size out ∷ (read_checks 1 bytes scratch ++ (matrices_check bytes ∷ []))

-- scratch as every call leaves it
pub record RulePromise (bytes out-entry out-exit entry exit : List ℕ) (answer : Written) : Type 0 where
  pub refusal : FirstFailure (translate_checks bytes out-entry entry) (written_verdict answer)
  pub answered : WrittenAnswer (AutomatonRuleOf bytes out-entry out-exit) out-entry out-exit answer
  pub scratch : exit ≡ scratch_left rule_size out-entry entry
