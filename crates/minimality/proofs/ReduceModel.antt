-- Reduction computed: the rounds until one changes nothing, the least elements of the blocks, the blocks numbered in their
-- order, and the table, images and marks of the blocks. What is computed is the reduced rule. Assumes nothing.
use Prim.Native.Nat.{ℕ, ◌<◌}
use native.Mathlib.Omega.{arith}
use mathlib.Core.Path.{◌≡◌, refl, sym, subst, ap, ◌∙◌}
use mathlib.Core.Bool.{Bool}
use mathlib.Core.Logic.{⊎_elim}
use mathlib.Core.List.{List}
use lib.Dec.{eqb, eqb→eq}
use lib.ListN.{length, get_or}
use mir.Facts.{yes_eqb}
use Rattle.finite.proofs.Numbers.{le_or_lt}
use Rattle.finite.proofs.Search.{least_below, least_holds, least_bound}
use Rattle.theory.specs.Rules.{Morphism, Lawful, Rule, Marking, AllReached}
use Rattle.theory.specs.Grades.{RuleStrong}
use Rattle.theory.specs.Smallest.{Reduction}
use Rattle.theory.proofs.Gradings.{GradedMarks}
use Rattle.theory.specs.Rounds.{Together, Stable, IsBlocks}
use Rattle.minimality.proofs.FirstStable.{StableRound, stable_round}
use Rattle.minimality.proofs.Congruence.{Congruence, stable_congruence}
use Rattle.minimality.proofs.Quotient.{Numbering, quotient, quotient_acc}
use Rattle.minimality.proofs.Listed.{passing, Holds, Listed, listed, entries_distinct}
use Rattle.minimality.proofs.Numbering.{Leaders, number_is, numbering_of_leaders}
use Rattle.minimality.proofs.Blocks.{blocks_after, related_equal, blocks_right}
use Rattle.minimality.proofs.Settle.{Settled, settle, settled_at, settle_from, settle_right}
use Rattle.minimality.proofs.Saturation.{saturated}
use Rattle.minimality.proofs.GradeOutcomes.{grading}
use Rattle.minimality.proofs.Reductions.{RuleNumbering, reduced_rule, reduction_right}

-- s is the least element of its block
unfoldable pub heads : List ℕ → ℕ → Bool
heads blocks s = eqb (get_or blocks s 0) s

-- the least elements of the blocks, in increasing order
unfoldable pub heads_of : ℕ → List ℕ → List ℕ
heads_of n blocks = passing n (heads blocks)

-- the place of the least element of s's block
unfoldable pub place_of : List ℕ → List ℕ → ℕ → ℕ
place_of blocks leaders s = least_below (length leaders) (λ j. eqb (get_or leaders j 0) (get_or blocks s 0))

-- a table with images, and marks
pub record Model : Type 0 where
  pub morphism : Morphism
  pub marks : Marking

-- the table, images and marks of numbered blocks
unfoldable pub model_of : Morphism → (ℕ → ℕ → ℕ) → List ℕ → List ℕ → Model
model_of m acc blocks leaders =
    let table : Morphism = record {
      size = length leaders;
      letters = m.letters;
      product = λ i j. place_of blocks leaders (m.product (get_or leaders i 0) (get_or leaders j 0));
      image = λ a. place_of blocks leaders (m.image a);
    } in
    record { morphism = table; marks = saturated table (λ i j. acc (get_or leaders i 0) (get_or leaders j 0)) }

-- the blocks after the last round that changes something
unfoldable pub final_blocks : Morphism → Marking → List ℕ
final_blocks m marks = (settle m (grading m marks)).blocks

-- the reduction of the table m with its marks
unfoldable pub reduce_model : Morphism → Marking → Model
reduce_model m marks =
    let blocks : List ℕ = final_blocks m marks in
    model_of m (grading m marks) blocks (heads_of m.size blocks)

-- its number of elements
unfoldable pub reduced_size : Morphism → Marking → ℕ
reduced_size m marks = length (heads_of m.size (final_blocks m marks))

-- the numbers and the leaders of a numbering may be given by other functions that agree with them
unfoldable pub numbering_as : {m : Morphism} {acc : ℕ → ℕ → ℕ} {c : ℕ} → Lawful m → (b : Numbering m acc c) → (number leader : ℕ → ℕ)
    → ((s : ℕ) → s < m.size → number s ≡ b.number s) → ((j : ℕ) → j < c → leader j ≡ b.leader j) → Numbering m acc c
numbering_as {m} {acc} {c} law b number leader numbers leaders = record {
  number = number;
  leader = leader;
  number_below = λ s h. rw (numbers s h) (b.number_below s h);
  leader_below = λ j h. rw (leaders j h) (b.leader_below j h);
  number_leader = λ j h. rw (leaders j h, numbers _ (b.leader_below j h)) (b.number_leader j h);
  congruent = λ s s' t t' hs hs' ht ht' p q.
      numbers _ (law.closed s t hs ht)
      ∙ b.congruent s s' t t' hs hs' ht ht' (sym (numbers s hs) ∙ p ∙ numbers s' hs') (sym (numbers t ht) ∙ q ∙ numbers t' ht')
      ∙ sym (numbers _ (law.closed s' t' hs' ht'));
  outcomes = λ s t hs ht e. b.outcomes s t hs ht (sym (numbers s hs) ∙ e ∙ numbers t ht);
  apart = λ s t hs ht d. numbers s hs ∙ b.apart s t hs ht d ∙ sym (numbers t ht);
}

module _ {m : Morphism} {acc : ℕ → ℕ → ℕ} {R : ℕ → ℕ → Type 0} {blocks : List ℕ} (law : Lawful m) (c : Congruence m acc R) (b : IsBlocks m.size R blocks) where
  abbrev leaders : List ℕ
  leaders = heads_of m.size blocks

  found : Listed m.size (heads blocks) leaders
  unfolding heads_of
  found = listed m.size (heads blocks)

  head_entry : (j : ℕ) → j < length leaders → get_or blocks (get_or leaders j 0) 0 ≡ get_or leaders j 0
  unfolding heads
  head_entry j h = eqb→eq _ _ (found.passes j h)

  entry_inside : (s : ℕ) → s < m.size → get_or blocks s 0 < m.size
  entry_inside s h = omega (arith, b.at_most s h)

  -- the least element of s's block stands in the list
  head_holds : (s : ℕ) → s < m.size → Holds leaders (get_or blocks s 0)
  unfolding heads
  head_holds s h =
      found.each (get_or blocks s 0) (entry_inside s h)
      (yes_eqb (related_equal b c.symmetric c.transitive (get_or blocks s 0) s (entry_inside s h) h (b.related s h)))

  -- the list has one element from each block
  pub heads_leaders : Leaders m R leaders
  heads_leaders = record {
    inside = found.below;
    distinct = λ i j hi hj r.
        entries_distinct found i j hi hj
        (sym (head_entry i hi)
        ∙ related_equal b c.symmetric c.transitive _ _ (found.below i hi) (found.below j hj) r
        ∙ head_entry j hj);
    each = λ s h.
        (let k : Holds leaders (get_or blocks s 0) = head_holds s h in
        record { index = k.index; inside = k.inside; related = rw k.entry (b.related s h) });
  }

  place_inside : (s : ℕ) → s < m.size → place_of blocks leaders s < length leaders
  unfolding place_of
  place_inside s h =
      let k : Holds leaders (get_or blocks s 0) = head_holds s h in
      omega (arith, k.inside, least_bound (length leaders) (λ j. eqb (get_or leaders j 0) (get_or blocks s 0)) k.index k.inside (yes_eqb k.entry))

  place_entry : (s : ℕ) → s < m.size → get_or leaders (place_of blocks leaders s) 0 ≡ get_or blocks s 0
  unfolding place_of
  place_entry s h = eqb→eq _ _ (least_holds (length leaders) (λ j. eqb (get_or leaders j 0) (get_or blocks s 0)) (place_inside s h))

  pub place_number : (s : ℕ) → s < m.size → place_of blocks leaders s ≡ (numbering_of_leaders law c heads_leaders).number s
  unfolding numbering_of_leaders
  place_number s h =
      sym (number_is law c heads_leaders s (place_of blocks leaders s) h (place_inside s h) (rw (place_entry s h) (b.related s h)))

  -- the blocks numbered by the places of their least elements
  unfoldable pub numbering_of_blocks : Numbering m acc (length leaders)
  unfolding numbering_of_leaders numbering_as
  numbering_of_blocks = numbering_as law (numbering_of_leaders law c heads_leaders) (place_of blocks leaders) (λ j. get_or leaders j 0) place_number (λ j h. refl)

  -- the computed table, images and marks are those of this numbering
  pub model_is : model_of m acc blocks leaders ≡ record { morphism = quotient numbering_of_blocks; marks = saturated (quotient numbering_of_blocks) (quotient_acc numbering_of_blocks) }
  unfolding model_of quotient quotient_acc numbering_of_blocks
  model_is = refl

-- the computed blocks are those of a stable round
pub record StableBlocks (m : Morphism) (acc : ℕ → ℕ → ℕ) (blocks : List ℕ) : Type 0 where
  pub round : ℕ
  pub stable : Stable m acc round
  pub right : IsBlocks m.size (Together m acc round) blocks

module _ {m : Morphism} (law : Lawful m) (acc : ℕ → ℕ → ℕ) where
  settled_stable : (i : ℕ) → Stable m acc i → settle m acc ≡ settled_at m acc i → StableBlocks m acc (settle m acc).blocks
  unfolding settled_at
  settled_stable i st e = record {
    round = i;
    stable = st;
    right = subst (λ (k : Settled). IsBlocks m.size (Together m acc i) k.blocks) (sym e) (blocks_right law acc i);
  }

  -- a table with no elements is stable at once
  settle_none : m.size ≡ 0 → StableBlocks m acc (settle m acc).blocks
  unfolding settle settle_from settled_at blocks_after
  settle_none e =
      settled_stable 0 (record { kept = λ s t hs ht r. absurd (omega arith) })
      (ap (λ k. settle_from m k 0 (blocks_after m acc 0)) e)

  pub settle_stable : StableBlocks m acc (settle m acc).blocks
  settle_stable =
      ⊎_elim (λ h. from_round (stable_round m acc h)) (λ h. settle_none (omega arith)) (le_or_lt 1 m.size)
    where
      from_round : StableRound m acc → StableBlocks m acc (settle m acc).blocks
      from_round r = settled_stable r.round r.stable (settle_right law acc r)

-- the rule that the model computes, and that it is the reduction
pub record ModelReduces (r : Rule) : Type 0 where
  pub reduced : Rule
  pub table_is : reduced.morphism ≡ (reduce_model r.morphism r.marks).morphism
  pub marks_are : reduced.marks ≡ (reduce_model r.morphism r.marks).marks
  pub size_is : reduced.morphism.size ≡ reduced_size r.morphism r.marks
  pub reduction : Reduction r reduced

module _ (r : Rule) (reached : AllReached r.morphism) (good : GradedMarks r.morphism r.marks) (strong : RuleStrong r) where
  abbrev outcomes : ℕ → ℕ → ℕ
  outcomes = grading r.morphism r.marks

  abbrev final : StableBlocks r.morphism outcomes (settle r.morphism outcomes).blocks
  final = settle_stable r.lawful outcomes

  abbrev congruence : Congruence r.morphism outcomes (Together r.morphism outcomes final.round)
  congruence = stable_congruence r.lawful outcomes final.round final.stable reached

  -- the computed blocks, numbered
  unfoldable pub model_numbering : RuleNumbering r (reduced_size r.morphism r.marks)
  unfolding reduced_size final_blocks numbering_of_blocks
  model_numbering = numbering_of_blocks r.lawful congruence final.right

  -- what the model computes is the reduction of a strong rule
  pub reduce_model_right : ModelReduces r
  unfolding reduce_model reduced_size final_blocks model_numbering reduced_rule quotient
  reduce_model_right =
      let e = model_is r.lawful congruence final.right in
      record {
        reduced = reduced_rule r model_numbering;
        table_is = sym (ap (λ (k : Model). k.morphism) e);
        marks_are = sym (ap (λ (k : Model). k.marks) e);
        size_is = refl;
        reduction = reduction_right r reached good strong model_numbering;
      }
