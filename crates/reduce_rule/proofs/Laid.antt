-- The tables of the blocks, once laid out, are those of the quotient by the blocks with its saturated marks. Assumes nothing.
use Prim.Native.Nat.{ℕ, ◌+◌, ◌*◌, ◌<◌}
use mathlib.Core.Path.{◌≡◌, refl, sym, ap, ap₂, ◌∙◌}
use mathlib.Core.Bool.{Bool, true, false, cond, ◌&&◌}
use mathlib.Core.List.{List}
use native.Mathlib.Omega.{arith}
use lib.Dec.{eqb, ltb}
use lib.ListN.{get_or}
use borrow.Author.Tests.{lt-ltb}
use Rattle.theory.specs.Rules.{Morphism}
use Rattle.theory.proofs.Closure.{linked_test}
use Rattle.formats.proofs.Tables.{Table}
use Rattle.formats.specs.Table.{morphism_at}
use Rattle.minimality.proofs.Quotient.{quotient, quotient_acc}
use Rattle.minimality.proofs.Saturation.{saturated}
use Rattle.reduce_first_round.specs.Map.{outcome_at}
use Rattle.reduce_numbering.specs.Steps.{number_at, leader_at}
use Rattle.reduce_numbering.specs.Numbering.{NumberedAs}
use Rattle.reduce_table.specs.Layout.{BlocksNeeds, block_product, block_image, laid_product, block_outcome, block_mark, Filled, Grid}
use Rattle.scratch.specs.Map.{laid_images_base, laid_marks_base, laid_products_base, leaders_base, outcomes_base}
use Rattle.rule_laid.specs.Laid.{LaidNeeds, LaidAs, LaidWritten}
use Rattle.reduce_rule.specs.Steps.{QuotientNeeds, QuotientWritten}
use Rattle.scratch.proofs.Rows.{pair_small}
use Rattle.reduce_table.proofs.Blocks.{image_kept}

-- two tests that are passed take nothing away
and_after : (a b c : Bool) → a ≡ true → b ≡ true → a && (b && c) ≡ c
and_after true true c p q = refl
and_after true false c p q = absurd (let z : ◌≡◌ {A = ℕ} 0 1 = cc in omega arith)
and_after false b c p q = absurd (let z : ◌≡◌ {A = ℕ} 0 1 = cc in omega arith)

-- the numbers of saturated marks: the outcomes of linked pairs
saturated_is : (q : Morphism) (acc : ℕ → ℕ → ℕ) (i j : ℕ) → i < q.size → j < q.size
    → saturated q acc i j ≡ cond (eqb (q.product j j) j && eqb (q.product i j) i) (acc i j) 0
unfolding saturated linked_test
saturated_is q acc i j hi hj =
    ap (λ (b : Bool). cond b (acc i j) 0)
    (and_after (ltb i q.size) (ltb j q.size) (eqb (q.product j j) j && eqb (q.product i j) i) (lt-ltb i q.size hi) (lt-ltb j q.size hj))

module _ {bytes : List ℕ} {n k c : ℕ} (t : Table bytes n k) {entry table images out : List ℕ}
    (p : QuotientNeeds n k c entry out) (g : Grid (block_product bytes n entry) laid_products_base c c c entry table)
    (f : Filled (block_image bytes n table) laid_images_base k table images) where
  abbrev m : Morphism
  m = morphism_at bytes n k

  -- bytes before the tables are as they were
  front_kept : (i : ℕ) → i < laid_products_base → get_or images i 0 ≡ get_or entry i 0
  front_kept i l = f.kept.before i (omega arith) ∙ g.kept.before i l

  laid_product_lem : (i j : ℕ) → i < c → j < c → get_or images (laid_products_base + (i * c + j)) 0 ≡ block_product bytes n entry i j
  laid_product_lem i j hi hj = f.kept.before (laid_products_base + (i * c + j)) (omega (arith, pair_small c i j p.blocks.small hi hj)) ∙ g.filled i j hi hj

  leader_small : (j : ℕ) → j < c → leader_at entry j < 64
  leader_small j l = omega (arith, t.small, p.blocks.leaders j l)

  pub images_place : BlocksNeeds 64 c images
  images_place = record {
    small = p.blocks.small;
    leaders = λ j l. rw (front_kept (leaders_base + j) (omega (arith, p.blocks.small))) (leader_small j l);
    room = omega (arith, p.blocks.room, f.kept.same_length, g.kept.same_length);
  }

  -- the marks too
  module _ {marks : List ℕ} (h : Grid (block_mark c images) laid_marks_base 64 c c images marks) where
    pub marks_place : LaidNeeds laid_images_base c k marks out
    marks_place = record {
      some = p.some;
      small = p.blocks.small;
      letters_some = p.letters_some;
      letters_small = t.letters_small;
      images_inside = omega arith;
      room = omega (arith, p.blocks.room, f.kept.same_length, g.kept.same_length, h.kept.same_length);
      out_room = p.out_room;
    }

    -- by a numbering whose numbers and leaders stand in scratch
    module _ (acc : ℕ → ℕ → ℕ) (b : NumberedAs m acc c entry) (same : (s z : ℕ) → s < n → z < n → outcome_at entry s z ≡ acc s z) where
      product_is : (i j : ℕ) → block_product bytes n entry i j ≡ (quotient b.numbering).product i j
      unfolding block_product quotient
      product_is i j =
          sym (b.numbers (m.product (b.numbering.leader i) (b.numbering.leader j))
          ∙ ap₂ (λ (x y : ℕ). number_at entry (m.product x y)) (b.leaders i) (b.leaders j))

      image_is : (a : ℕ) → block_image bytes n entry a ≡ (quotient b.numbering).image a
      unfolding block_image quotient
      image_is a = sym (b.numbers (m.image a))

      outcome_is : (i j : ℕ) → i < c → j < c → block_outcome images i j ≡ quotient_acc b.numbering i j
      unfolding block_outcome outcome_at quotient_acc
      outcome_is i j hi hj =
          let si : leader_at entry i < 64 = leader_small i hi in
          let sj : leader_at entry j < 64 = leader_small j hj in
          ap₂ (λ (x y : ℕ). get_or images (outcomes_base + (x * 64 + y)) 0)
          (front_kept (leaders_base + i) (omega (arith, p.blocks.small))) (front_kept (leaders_base + j) (omega (arith, p.blocks.small)))
          ∙ front_kept (outcomes_base + (leader_at entry i * 64 + leader_at entry j)) (omega arith)
          ∙ same (leader_at entry i) (leader_at entry j) (p.blocks.leaders i hi) (p.blocks.leaders j hj)
          ∙ sym (ap₂ acc (b.leaders i) (b.leaders j))

      mark_is : (i j : ℕ) → i < c → j < c → block_mark c images i j ≡ saturated (quotient b.numbering) (quotient_acc b.numbering) i j
      unfolding block_mark laid_product quotient
      mark_is i j hi hj =
          ap₂ (λ (d : Bool) (y : ℕ). cond d y 0)
          (ap₂ (λ (x y : ℕ). eqb x j && eqb y i) (laid_product_lem j j hj hj ∙ product_is j j) (laid_product_lem i j hi hj ∙ product_is i j)) (outcome_is i j hi hj)
          ∙ sym (saturated_is (quotient b.numbering) (quotient_acc b.numbering) i j hi hj)

      pub laid_as : LaidAs (quotient b.numbering) (saturated (quotient b.numbering) (quotient_acc b.numbering)) laid_images_base c k marks
      unfolding quotient
      laid_as = record {
        size_is = refl;
        letters_are = refl;
        products = λ i j hi hj.
            h.kept.before (laid_products_base + (i * c + j)) (omega (arith, pair_small c i j p.blocks.small hi hj)) ∙ laid_product_lem i j hi hj ∙ product_is i j;
        elements = λ a ha.
            h.kept.before (laid_images_base + a) (omega (arith, t.letters_small)) ∙ f.filled a ha ∙ image_kept g.kept (omega arith) t a ha ∙ image_is a;
        grades = λ i j hi hj. h.filled i j hi hj ∙ mark_is i j hi hj;
      }

    pub quotient_written : {after : List ℕ} {end : ℕ} → LaidWritten laid_images_base c k marks out after end → QuotientWritten m c entry marks out after end
    quotient_written w = record {
      same_length = h.kept.same_length ∙ f.kept.same_length ∙ g.kept.same_length;
      written = λ acc b same. w.written _ _ (laid_as acc b same);
    }
