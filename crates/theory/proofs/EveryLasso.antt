-- Rules that give every lasso the highest grade, 3: they are strong and give each lasso the same grade; a test that finds by computing
-- that a strong rule is one; and the rule of one element, whose one pair has grade 3. Assumes nothing.
use Prim.Native.Nat.{ℕ, ◌≤◌}
use mathlib.Core.Path.{◌≡◌, refl}
use mathlib.Core.Bool.{Bool}
use mathlib.Core.List.{List}
use native.Mathlib.Omega.{arith}
use lib.Dec.{T, leb, leb→le}
use Rattle.theory.specs.Words.{Lasso}
use Rattle.theory.specs.Rules.{Morphism, Lawful, Marking, Rule, level, AllReached}
use Rattle.theory.specs.Grades.{AtLeast, Graded, StrongMarking, RuleStrong}
use Rattle.theory.specs.Smallest.{SameGrades}
use Rattle.theory.proofs.Starts.{lasso_started, started_values}
use Rattle.theory.proofs.Strength.{started_accepts}
use Rattle.theory.proofs.Closure.{acceptance, strong_acceptance}
use Rattle.theory.proofs.Included.{marked_accepted}
use Rattle.theory.proofs.Gradings.{GradedMarks, level_down, level_linked, graded_levels, at_least_small}
use Rattle.theory.proofs.TableTests.{all_pairs, all_pairs_elim}

-- every lasso has grade 3
pub record GradesEvery (m : Morphism) (marks : Marking) : Type 0 where
  pub graded : (u v : List ℕ) → Lasso m.letters u v → Graded m marks u v 3

-- then a lasso has a least grade exactly if any other has it, under the same rule or another such
every_has : {m m' : Morphism} {marks marks' : Marking} {u v u' v' : List ℕ} {g : ℕ} → GradesEvery m marks → GradesEvery m' marks'
    → Lasso m.letters u v → Lasso m'.letters u' v' → 1 ≤ g → AtLeast m marks g u v → AtLeast m' marks' g u' v'
every_has {u = u} {v} {u'} {v'} {g} a a' l l' some b =
    (graded_levels (a'.graded u' v' l') g some).1 ((graded_levels (a.graded u v l) g some).0 b)

pub every_strong : {m : Morphism} {marks : Marking} → GradesEvery m marks → StrongMarking m marks
every_strong a = record {
  at_each = λ g some. record {
    both_or_neither = λ u v u' v' l l' eu ev. (λ b. every_has a a l l' some b, λ b. every_has a a l' l some b);
  };
}

-- two such rules over the same letters give each lasso the same grade
pub every_same : (r r' : Rule) → r.morphism.letters ≡ r'.morphism.letters → GradesEvery r.morphism r.marks
    → GradesEvery r'.morphism r'.marks → SameGrades r r'
every_same r r' e a a' = record {
  same_letters = e;
  both_or_neither = λ g some u v l.
      (let l' : Lasso r'.morphism.letters u v = rw e at l in
      (λ b. every_has a a' l l' some b, λ b. every_has a' a l' l some b));
}

-- under a strong marking every pair of values is looked at, at the level of grade 3
unfoldable pub every_test : Morphism → Marking → Bool
every_test m marks = all_pairs m.size (λ s z. leb 1 (acceptance m (level 3 marks) s z))

pub every_elim : {m : Morphism} {marks : Marking} → Lawful m → AllReached m → GradedMarks m marks → StrongMarking m marks → T (every_test m marks) → GradesEvery m marks
unfolding every_test
every_elim {m} {marks} law reached good strong t = record {
  graded = λ u v l. record { attained = λ some. go u v l; highest = λ h above a. omega (arith, at_least_small law good a) };
}
  where
    some : 1 ≤ 3
    some = omega arith

    go : (u v : List ℕ) → Lasso m.letters u v → AtLeast m marks 3 u v
    go u v l =
        let values = started_values law l in
        let s = values.start in
        let z = values.cycle in
        (started_accepts u v l.cycle_some).0
        ((strong_acceptance law reached (level_linked law good some) (strong.at_each 3 some) (lasso_started l).start_over l.cycle_over s.is z.is).1
        (leb→le 1 (acceptance m (level 3 marks) s.the z.the)
        (all_pairs_elim m.size (λ s z. leb 1 (acceptance m (level 3 marks) s z)) t s.the z.the s.inside z.inside)))

-- the rule of one element over k letters, its pair marked with 3
abbrev pub one : ℕ → Morphism
one k = record { size = 1; letters = k; product = λ a b. 0; image = λ a. 0 }

pub one_lawful : (k : ℕ) → Lawful (one k)
one_lawful k = record { closed = λ a b ha hb. omega arith; associative = λ a b c ha hb hc. refl; images = λ a h. omega arith }

abbrev pub one_rule : ℕ → Rule
one_rule k = record { morphism = one k; lawful = one_lawful k; marks = λ s e. 3 }

pub one_every : (k : ℕ) → GradesEvery (one k) (one_rule k).marks
unfolding level
one_every k = record {
  graded = λ u v l.
      (let values = started_values (one_lawful k) l in
      record {
        attained = λ some. (started_accepts u v l.cycle_some).0
            (marked_accepted (lasso_started l).start_over l.cycle_over values.start.is values.cycle.is tt);
        highest = λ h above a. omega (arith, level_down (one_rule k).marks h a.element_of_start a.cycle_element a.has_mark);
      });
}

pub one_strong : (k : ℕ) → RuleStrong (one_rule k)
one_strong k = every_strong (one_every k)
