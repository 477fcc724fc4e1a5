-- Reductions to one element: the rule of one element, its pair marked with 3, is the smallest rule that gives every lasso grade 3, and
-- so the reduction of every such rule that has a letter, by the map that takes each element to the one. Two of the small rules are such. Assumes nothing.
use Prim.Native.Nat.{ℕ, ◌<◌}
use mathlib.Core.Path.{◌≡◌, refl, sym, ap}
use mathlib.Core.List.{[], ◌∷◌}
use native.Mathlib.Omega.{arith}
use Rattle.theory.specs.Words.{over_nil, over_cons}
use Rattle.theory.specs.Rules.{Rule, element, join, value, WordOf}
use Rattle.theory.specs.Smallest.{SameGrades, Smallest, MarksGrades, Reduction, ReducedBy}
use Rattle.theory.proofs.SmallRules.{W_all, Z₀_rule}
use Rattle.theory.proofs.EveryLasso.{GradesEvery, one_strong, every_same, one, one_rule, one_every}
use Rattle.theory.proofs.Examples.{W_all_every, Z₀_every}

module _ (k : ℕ) (some : 0 < k) where
  word_zero : (s : ℕ) → s < 1 → WordOf (one k) s
  unfolding value join
  word_zero s h = record { word = 0 ∷ []; over = over_cons some over_nil; its_value = ap element (let e : 0 ≡ s = omega arith in e) }

  -- no rule with a letter has fewer elements, and one with as many has the same table
  pub one_smallest : Smallest (one_rule k)
  one_smallest = record {
    strong = one_strong k;
    at_least = λ rival strong same. omega (arith, inside rival same);
    copy = λ rival strong same e. record {
      same_letters = sym same.same_letters;
      to = λ a. 0;
      inside = λ a h. omega arith;
      one_to_one = λ a b ha hb q. omega arith;
      onto = λ b h. (0, omega arith, omega arith);
      products = λ a b ha hb. refl;
      images = λ a h. refl;
    };
  }
    where
      inside : (rival : Rule) → SameGrades (one_rule k) rival → rival.morphism.image 0 < rival.morphism.size
      inside rival same = rival.lawful.images 0 (omega (arith, same.same_letters))

  -- its one pair is linked, and marked with the grade of its lassos
  pub one_marks : MarksGrades (one k) (one_rule k).marks
  one_marks = record {
    of_linked = λ s e l. record {
      linked = l;
      lassos = record {
        start = word_zero s l.inside;
        cycle = word_zero e l.idempotent.inside;
        graded = λ u v l eu ev. (one_every k).graded u v l;
      };
    };
    of_others = λ s e hs he f. absurd
        (f (record { inside = hs; idempotent = record { inside = he; square = omega arith }; stays = omega arith }));
  }

-- a rule with a letter that gives every lasso grade 3 reduces to it
pub every_reduction : (r : Rule) → 0 < r.morphism.letters → GradesEvery r.morphism r.marks
    → Reduction r (one_rule r.morphism.letters)
every_reduction r some a = record {
  same = every_same r (one_rule r.morphism.letters) refl a (one_every r.morphism.letters);
  smallest = one_smallest r.morphism.letters some;
  marks = one_marks r.morphism.letters some;
}

-- and is reduced so by the map that takes each element to the one
pub every_reduced : (r : Rule) → 0 < r.morphism.letters → GradesEvery r.morphism r.marks → ReducedBy r (one_rule r.morphism.letters) (λ s. 0)
every_reduced r some a =
    let k = every_reduction r some a in
    record {
      maps = record {
        inside = λ s h. omega arith;
        onto = λ t h. (r.morphism.image 0, r.lawful.images 0 some, omega arith);
        carries = record { products = λ s t hs ht. refl; images = λ x h. refl };
      };
      same = k.same;
      smallest = k.smallest;
    }

-- M4: W with its three linked pairs marked reduces to one element
pub W_all_reduction : Reduction W_all (one_rule 2)
W_all_reduction = every_reduction W_all (omega arith) W_all_every

pub W_all_reduced : ReducedBy W_all (one_rule 2) (λ s. 0)
W_all_reduced = every_reduced W_all (omega arith) W_all_every

-- M7: so does Z with letter 0 only
pub Z₀_reduction : Reduction Z₀_rule (one_rule 1)
Z₀_reduction = every_reduction Z₀_rule (omega arith) Z₀_every
