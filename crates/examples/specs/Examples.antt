-- Document 01's small rules, M1 to M10, with the grade 3 on each mark, as one table: each row says of a file's bytes what the
-- document's line says of its rule, in the definitions of specs/ only. Assumes nothing.
use Rattle.std.specs.Prelude.{ℕ, ◌≤◌, ◌<◌, ◌≡◌, ◌↔◌, List, [], ◌∷◌, T, length, replicate}
use Rattle.answer.specs.Checks.{Verdict, passed, numbered, FirstFailure}
use Rattle.theory.specs.Words.{Lasso}
use Rattle.theory.specs.Rules.{Rule, Lawful, level, element, value}
use Rattle.theory.specs.Grades.{Graded, StrongMarking}
use Rattle.theory.specs.Pairs.{Linked, Conjugate, ClassCounts}
use Rattle.theory.specs.Smallest.{Reduction}
use Rattle.formats.specs.RuleFile.{elements_of, letters_of, morphism_of, marking_of}
use Rattle.formats.specs.RuleChecks.{rule_checks, rule_size, scratch_size}
use Rattle.formats.specs.Front.{AtFront}
use Rattle.promises.specs.declared.Written.{Written}
use Rattle.promises.specs.declared.Written.TheVariants.{Rule as Is-rule}
use Rattle.promises.specs.Reduce.{map_size, rule_of, ReducePromise}
use Rattle.buchi.specs.Rule.{MoreMatrices}
use Rattle.promises.specs.declared.Written.TheVariants.{Rule as Is-translated}
use Rattle.promises.specs.Automaton.{automaton_of, translate_checks, RulePromise}
use Rattle.examples.specs.Files.{W, W_all, one_element, Z, Z₀, not_associative, unreached, automaton}

-- the checks of the rule file come to this verdict and to no other
pub record ChecksTo (bytes : List ℕ) (v : Verdict) : Type 0 where
  pub refusal : FirstFailure (rule_checks 1 bytes) v
  pub only : (w : Verdict) → FirstFailure (rule_checks 1 bytes) w → w ≡ v

-- the rule that the file means is strong
abbrev pub FileStrong : List ℕ → Type 0
FileStrong bytes = StrongMarking (morphism_of bytes) (marking_of bytes)

-- it gives the lasso u, v over its letters the grade g
pub record GradesLasso (bytes u v : List ℕ) (g : ℕ) : Type 0 where
  pub lasso : Lasso (letters_of bytes) u v
  pub graded : Graded (morphism_of bytes) (marking_of bytes) u v g

-- it accepts the lasso: "Document 01's small rules get grade 3 on each mark" (document 02, Job 12)
abbrev pub AcceptsLasso : List ℕ → List ℕ → List ℕ → Type 0
AcceptsLasso bytes u v = GradesLasso bytes u v 3

-- it does not
abbrev pub RefusesLasso : List ℕ → List ℕ → List ℕ → Type 0
RefusesLasso bytes u v = GradesLasso bytes u v 0

-- (s, e) is the pair of the values of u and v
pub record ValuePair (bytes u v : List ℕ) (s e : ℕ) : Type 0 where
  pub start_value : value (morphism_of bytes) u ≡ element s
  pub cycle_value : value (morphism_of bytes) v ≡ element e

-- (t, f) is marked, and (s, e) is conjugate to it
pub record ConjugateToMark (bytes : List ℕ) (s e t f : ℕ) : Type 0 where
  pub conjugate : Conjugate (morphism_of bytes) s e t f
  pub has_mark : T (level 1 (marking_of bytes) t f)

-- the marks "aren't closed": a pair that is conjugate to a marked one is not marked
pub record NotClosed (bytes : List ℕ) : Type 0 where
  pub start : ℕ
  pub cycle : ℕ
  pub marked_start : ℕ
  pub marked_cycle : ℕ
  pub to_mark : ConjugateToMark bytes start cycle marked_start marked_cycle
  pub not_marked : T (level 1 (marking_of bytes) start cycle) → ⊥

-- exactly the linked pairs are marked
pub record MarksLinked (bytes : List ℕ) : Type 0 where
  pub marks : (s e : ℕ) → s < elements_of bytes → e < elements_of bytes → T (level 1 (marking_of bytes) s e) ↔ Linked (morphism_of bytes) s e

-- the rule has a reduction, and every reduction of it has n elements
pub record RuleReducesTo (r : Rule) (n : ℕ) : Type 0 where
  pub reduced : Rule
  pub reduction : Reduction r reduced
  pub elements : (other : Rule) → Reduction r other → other.morphism.size ≡ n

-- the file means a rule, and this is so of it
pub record ExampleReducesTo (bytes : List ℕ) (n : ℕ) : Type 0 where
  pub lawful : Lawful (morphism_of bytes)
  pub reduces : (law : Lawful (morphism_of bytes)) → RuleReducesTo (rule_of bytes law) n

-- what a call hands back that reduces to the file by the moves: the file's length, out with the file and map with the moves at the front, and
-- zeros in scratch
pub record ExampleHandsBack (file moves before after map map' entry exit : List ℕ) (answer : Written) : Type 0 where
  pub answer_is : answer ≡ Is-rule (length file)
  pub stands : AtFront file before after (length file)
  pub map_stands : AtFront moves map map' (length moves)
  pub scratch_is : exit ≡ replicate (length entry) 0

-- with buffers that are long enough, the call's promise allows this and nothing else
pub record ReducesToBytes (bytes file moves : List ℕ) : Type 0 where
  pub exactly : (before after map map' entry exit : List ℕ) (answer : Written) → rule_size ≤ length before → map_size ≤ length map → scratch_size ≤ length entry
      → ReducePromise bytes before after map map' entry exit answer ↔ ExampleHandsBack file moves before after map map' entry exit answer

-- an answer to an automaton, with two buffers, that the call's promise allows
pub record Translation (bytes before entry : List ℕ) : Type 0 where
  pub answer : Written
  pub after : List ℕ
  pub exit : List ℕ
  pub promised : RulePromise bytes before after entry exit answer

-- the answer is a rule of n elements that is strong and reduces to c, and its file stands in out
pub record TranslatedTo (n c : ℕ) (before after : List ℕ) (answer : Written) : Type 0 where
  pub end : ℕ
  pub answer_is : answer ≡ Is-translated end
  pub file : List ℕ
  pub stands : AtFront file before after end
  pub checked : ChecksTo file passed
  pub elements : elements_of file ≡ n
  pub strong : FileStrong file
  pub reduces : ExampleReducesTo file c

-- an automaton of n matrices, whose rule reduces to c elements
pub record AutomatonReducesTo (bytes : List ℕ) (n c : ℕ) : Type 0 where
  -- there are i + 1 different matrices of non-empty words exactly if i + 1 is at most n
  pub matrices : (i : ℕ) → MoreMatrices (automaton_of bytes) i ↔ (i < n)
  -- with buffers that are long enough every check passes, the promise allows an answer, and each that it allows is such a rule
  pub passes : (before entry : List ℕ) → rule_size ≤ length before → scratch_size ≤ length entry → FirstFailure (translate_checks bytes before entry) passed
  pub some_answer : (before entry : List ℕ) → rule_size ≤ length before → scratch_size ≤ length entry → Translation bytes before entry
  pub each_answer : (before after entry exit : List ℕ) (answer : Written) → rule_size ≤ length before → scratch_size ≤ length entry
      → RulePromise bytes before after entry exit answer → TranslatedTo n c before after answer

-- the table
pub record Examples : Type 0 where
  -- "M1 W has 3 linked pairs, 3 classes, 0 joins, is strong and reduces to 2 elements."
  pub m1 : ChecksTo W passed × ClassCounts (morphism_of W) 3 3 0 × FileStrong W × ExampleReducesTo W 2
  -- "M2 W accepts u=1, v=0."
  pub m2 : AcceptsLasso W (1 ∷ []) (0 ∷ [])
  -- "M3 W refuses u=0, v=1."
  pub m3 : RefusesLasso W (0 ∷ []) (1 ∷ [])
  -- "M4 W with all 3 linked pairs marked reduces to bytes 1 0 2 0 0 1 0 0 0.", with the grade 3 behind its mark; both elements go to the one
  pub m4 : MarksLinked W_all × ReducesToBytes W_all one_element (0 ∷ 0 ∷ [])
  -- "M5 Z has 2 linked pairs, 1 class, 1 join."
  pub m5 : ChecksTo Z passed × ClassCounts (morphism_of Z) 2 1 1
  -- "M6 Z is weak: u=0, v=1 isn't accepted, though its pair (1, 0) is conjugate to the mark; u=0, v=0 0, with equal values, is
  -- accepted."
  pub m6 : (FileStrong Z → ⊥)
      × (RefusesLasso Z (0 ∷ []) (1 ∷ []) × ValuePair Z (0 ∷ []) (1 ∷ []) 1 0 × ConjugateToMark Z 1 0 0 0)
      × (AcceptsLasso Z (0 ∷ []) (0 ∷ 0 ∷ []) × ValuePair Z (0 ∷ []) (0 ∷ 0 ∷ []) 1 0)
  -- "M7 Z with letter 0 only is strong, though its marks aren't closed, and reduces to 1 element."
  pub m7 : ChecksTo Z₀ passed × FileStrong Z₀ × NotClosed Z₀ × ExampleReducesTo Z₀ 1
  -- "M8 table 1 0 / 0 0 is refused by 5 at place 1."
  pub m8 : ChecksTo not_associative (numbered 5 1 1)
  -- "M9 table 0 0 / 0 1 with one letter of image 0: 6 at place 1."
  pub m9 : ChecksTo unreached (numbered 6 1 1)
  -- "M10 automaton: state 0 initial, state 1 final, letter 0 to state 1, letter 1 to state 0, from either: 3 matrices, reduced to
  -- 2."
  pub m10 : AutomatonReducesTo automaton 3 2
