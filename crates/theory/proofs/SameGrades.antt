-- Rules that give each lasso the same grade, and reductions of them; renumberings back and one after the other, so that a strong rule with the grades of
-- a smallest one and as many elements is a smallest one too. Assumes nothing.
use Prim.Native.Nat.{ℕ, ◌≤◌, ◌<◌}
use native.Mathlib.Omega.{arith}
use mathlib.Core.Path.{◌≡◌, refl, sym, ap₂, ◌∙◌, subst}
use Rattle.finite.proofs.Pigeonhole.{Injection, injection_le}
use Rattle.finite.proofs.Preimages.{preimage, preimage_below, preimage_maps, preimage_injection, onto_le}
use Rattle.theory.specs.Words.{Lasso}
use Rattle.theory.specs.Rules.{Morphism, Lawful, Rule}
use Rattle.theory.specs.Grades.{RuleStrong}
use Rattle.theory.specs.Smallest.{SameGrades, Renumbered, Smallest, Reduction}
use Rattle.theory.specs.Maps.{MapsOnto}
use Rattle.theory.proofs.Maps.{renumbered_maps, maps_renumbered}

pub same_self : (r : Rule) → SameGrades r r
same_self r = record { same_letters = refl; both_or_neither = λ g some u v l. (λ k. k, λ k. k) }

pub same_back : {r r' : Rule} → SameGrades r r' → SameGrades r' r
same_back s = record {
  same_letters = sym s.same_letters;
  both_or_neither = λ g some u v l.
      let k = s.both_or_neither g some u v (subst (λ n. Lasso n u v) (sym s.same_letters) l) in (k.1, k.0);
}

pub same_on : {r r' r'' : Rule} → SameGrades r r' → SameGrades r' r'' → SameGrades r r''
same_on s t = record {
  same_letters = s.same_letters ∙ t.same_letters;
  both_or_neither = λ g some u v l.
      let k = s.both_or_neither g some u v l in
      let k' = t.both_or_neither g some u v (subst (λ n. Lasso n u v) s.same_letters l) in
      (λ a. k'.0 (k.0 a), λ a. k.1 (k'.1 a));
}

-- reductions of them have the same grades too, and as many elements: each is a rival of the other
module _ {r r' x y : Rule} (s : SameGrades r r') (p : Reduction r x) (q : Reduction r' y) where
  pub reductions_grades : SameGrades x y
  reductions_grades = same_on (same_back p.same) (same_on s q.same)

  pub reductions_size : x.morphism.size ≡ y.morphism.size
  reductions_size = omega (arith, p.smallest.at_least y q.smallest.strong reductions_grades, q.smallest.at_least x p.smallest.strong (same_back reductions_grades))

-- a renumbering keeps the number of elements
pub renumbered_size : {a b : Morphism} → Renumbered a b → a.size ≡ b.size
renumbered_size {a} {b} f =
    let one : Injection a.size b.size f.to = record { maps = f.inside; apart = f.one_to_one } in
    omega (arith, injection_le one, onto_le f.onto)

-- a renumbering read backwards
module _ {a b : Morphism} (law : Lawful a) (law' : Lawful b) (f : Renumbered a b) where
  abbrev back : ℕ → ℕ
  back = preimage a.size f.to

  back_is : (s t : ℕ) → s < a.size → t < b.size → f.to s ≡ t → back t ≡ s
  back_is s t hs ht e = f.one_to_one (back t) s (preimage_below f.onto t ht) hs (preimage_maps f.onto t ht ∙ sym e)

  pub renumbered_back : Renumbered b a
  renumbered_back = record {
    same_letters = sym f.same_letters;
    to = back;
    inside = preimage_below f.onto;
    one_to_one = (preimage_injection f.onto).apart;
    onto = λ s h. (f.to s, f.inside s h, back_is s (f.to s) h (f.inside s h) refl);
    products = λ s t hs ht.
        let hs' = preimage_below f.onto s hs in
        let ht' = preimage_below f.onto t ht in
        back_is (a.product (back s) (back t)) (b.product s t) (law.closed (back s) (back t) hs' ht') (law'.closed s t hs ht)
        (f.products (back s) (back t) hs' ht' ∙ ap₂ b.product (preimage_maps f.onto s hs) (preimage_maps f.onto t ht));
    images = λ x h.
        let h' : x < b.letters = subst (λ (k : ℕ). x < k) f.same_letters h in
        back_is (a.image x) (b.image x) (law.images x h) (law'.images x h') (f.images x h');
  }

-- a renumbering and then another
pub renumbered_on : {a b c : Morphism} → Lawful a → Lawful b → Renumbered a b → Renumbered b c → Renumbered a c
renumbered_on {a} {b} {c} law law' f g =
    let both : MapsOnto a c (λ s. g.to (f.to s)) = maps_renumbered f.same_letters law' (renumbered_maps law f) g in
    let letters = f.same_letters ∙ g.same_letters in
    record {
      same_letters = letters;
      to = λ s. g.to (f.to s);
      inside = both.inside;
      one_to_one = λ s t hs ht e. f.one_to_one s t hs ht (g.one_to_one (f.to s) (f.to t) (f.inside s hs) (f.inside t ht) e);
      onto = both.onto;
      products = both.carries.products;
      images = λ x h. both.carries.images x (subst (λ (k : ℕ). x < k) (sym letters) h);
    }

-- a strong rule with the grades of a smallest one and as many elements is a smallest one: rivals of the one are rivals of the other
pub smallest_same : {x y : Rule} → Smallest x → RuleStrong y → SameGrades x y → y.morphism.size ≡ x.morphism.size → Smallest y
smallest_same {x} {y} small strong same size = record {
  strong = strong;
  at_least = λ rival rs k. subst (λ (n : ℕ). n ≤ rival.morphism.size) (sym size) (small.at_least rival rs (same_on same k));
  copy = λ rival rs k sizes.
      renumbered_on rival.lawful x.lawful (small.copy rival rs (same_on same k) (sizes ∙ size))
      (renumbered_back y.lawful x.lawful (small.copy y strong same size));
}
