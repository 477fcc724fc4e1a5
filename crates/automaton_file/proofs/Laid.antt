-- Transitions laid out in a table of bytes, one for each triple, while the transitions of a file are gone through. Assumes nothing.
use Prim.Native.Nat.{ℕ, ◌+◌, ◌≤◌, ◌<◌}
use mathlib.Core.Path.{◌≡◌, refl, sym, ap, ◌∙◌, subst}
use mathlib.Core.Bool.{Bool, ◌&&◌, ◌||◌}
use mathlib.Core.Logic.{⊎_elim}
use mathlib.Core.List.{List}
use native.Mathlib.Omega.{arith}
use native.Mathlib.Decide.{ℕ_discrete}
use lib.ListN.{length, get_or, set, length-set}
use lib.Seq.{get_or-set_same, get_or-set_other}
use lib.Dec.{T, eqb}
use mir.Facts.{eqb_yes, yes_eqb}
use Rattle.finite.proofs.Tests.{T_and, T_and_left, T_and_right, T_dec, T_true, T_false}
use Rattle.finite.specs.Search.{any_below}
use Rattle.finite.proofs.Search.{any_zero, any_add_one, any_intro, any_elim}
use Rattle.formats.specs.AutomatonFile.{states_of, automaton_letters_of, transitions_of, from_of, letter_of, to_of, is_transition, has_transition}
use Rattle.formats.proofs.GoodAutomaton.{GoodSections}
use Rattle.scratch.specs.Map.{transition_table_size}
use Rattle.automaton_file.specs.Answers.{triple_index, index_of, BlankRoom, TransitionsLaid, one_if}
use Rattle.automaton_file.proofs.RepeatedOrder.{Stood, Fresh}

-- a triple's index is below 576
pub index_below : {m k p a q : ℕ} → m ≤ 6 → k ≤ 16 → p < m → a < k → q < m → triple_index p a q < transition_table_size
index_below hm hk hp ha hq = omega arith

-- and tells the triple
pub index_apart : (p a q p' a' q' : ℕ) → a < 16 → q < 6 → a' < 16 → q' < 6 → triple_index p a q ≡ triple_index p' a' q' → (p ≡ p') × (a ≡ a') × (q ≡ q')
index_apart p a q p' a' q' ha hq ha' hq' e =
    let ep : p ≡ p' = omega arith in
    let ea : a ≡ a' = omega arith in
    (ep, ea, omega arith)

-- the i-th transition goes from p by a to q
pub record Goes (bytes : List ℕ) (p a q i : ℕ) : Type 0 where
  pub from : from_of bytes i ≡ p
  pub letter : letter_of bytes i ≡ a
  pub to : to_of bytes i ≡ q

module _ (bytes : List ℕ) (p a q i : ℕ) where
  abbrev by_from : Bool
  by_from = eqb (from_of bytes i) p

  abbrev by_letter : Bool
  by_letter = eqb (letter_of bytes i) a

  abbrev by_to : Bool
  by_to = eqb (to_of bytes i) q

  -- what the test of a transition says
  pub goes_elim : T (is_transition bytes p a q i) → Goes bytes p a q i
  unfolding is_transition
  goes_elim t =
      let s = T_and_right by_from (by_letter && by_to) t in
      record {
        from = eqb_yes (T_and_left by_from (by_letter && by_to) t);
        letter = eqb_yes (T_and_left by_letter by_to s);
        to = eqb_yes (T_and_right by_letter by_to s);
      }

  pub goes_intro : Goes bytes p a q i → T (is_transition bytes p a q i)
  unfolding is_transition
  goes_intro g = T_and by_from (by_letter && by_to) (yes_eqb g.from) (T_and by_letter by_to (yes_eqb g.letter) (yes_eqb g.to))

-- some transition among the first i goes from p by a to q
unfoldable pub among_first : List ℕ → ℕ → ℕ → ℕ → ℕ → Bool
among_first bytes i p a q = any_below i (is_transition bytes p a q)

module _ (bytes : List ℕ) where
  -- one transition more
  among_more : (p a q i : ℕ) → among_first bytes (i + 1) p a q ≡ is_transition bytes p a q i || among_first bytes i p a q
  unfolding among_first
  among_more p a q i = any_add_one i (is_transition bytes p a q)

  among_this : (p a q i : ℕ) → Goes bytes p a q i → one_if (among_first bytes (i + 1) p a q) ≡ 1
  among_this p a q i g =
      ap one_if (among_more p a q i ∙ ap (λ (b : Bool). b || among_first bytes i p a q) (T_true (is_transition bytes p a q i) (goes_intro bytes p a q i g)))

  among_other : (p a q i : ℕ) → (Goes bytes p a q i → ⊥) → among_first bytes (i + 1) p a q ≡ among_first bytes i p a q
  among_other p a q i f =
      among_more p a q i
      ∙ ap (λ (b : Bool). b || among_first bytes i p a q) (T_false (is_transition bytes p a q i) (λ t. f (goes_elim bytes p a q i t)))

  -- none stands among none
  pub laid_start : {m k : ℕ} {table : List ℕ} → m ≤ 6 → k ≤ 16 → BlankRoom table → TransitionsLaid (among_first bytes 0) m k (length table) table
  unfolding among_first
  laid_start hm hk r = record {
    same_length = refl;
    transition = λ p a q hp ha hq. r.blank (triple_index p a q) (index_below hm hk hp ha hq) ∙ ap one_if (sym (any_zero (is_transition bytes p a q)));
  }

  -- all of them stand among all
  pub laid_all : {m k size count : ℕ} {table : List ℕ} → count ≡ transitions_of bytes → TransitionsLaid (among_first bytes count) m k size table
      → TransitionsLaid (has_transition bytes) m k size table
  unfolding among_first has_transition
  laid_all {m} {k} {size} {count} {table} e l = subst (λ (c : ℕ). TransitionsLaid (among_first bytes c) m k size table) e l

  module _ (good : GoodSections bytes) (i : ℕ) (h : i < transitions_of bytes) {size : ℕ} {now : List ℕ}
      (l : TransitionsLaid (among_first bytes i) (states_of bytes) (automaton_letters_of bytes) size now) where
    abbrev pᵢ : ℕ
    pᵢ = from_of bytes i

    abbrev aᵢ : ℕ
    aᵢ = letter_of bytes i

    abbrev qᵢ : ℕ
    qᵢ = to_of bytes i

    -- the byte of the i-th transition tells whether it stood before
    index_tells : get_or now (index_of bytes i) 0 ≡ one_if (among_first bytes i pᵢ aᵢ qᵢ)
    index_tells = l.transition pᵢ aᵢ qᵢ (good.from_below i h) (good.letter_below i h) (good.to_below i h)

    pub index_in : transition_table_size ≤ size → index_of bytes i < length now
    index_in r =
        omega (
          arith,
          l.same_length,
          index_below good.states_small good.letters_small (good.from_below i h) (good.letter_below i h) (good.to_below i h),
        )

    -- a byte that is not 0: it stood before
    pub index_seen : (get_or now (index_of bytes i) 0 ≡ 0 → ⊥) → Stood bytes i
    unfolding among_first
    index_seen f =
        let g = any_elim i (is_transition bytes pᵢ aᵢ qᵢ)
        (⊎_elim (λ t. t) (λ n. absurd (f (index_tells ∙ ap one_if (T_false (among_first bytes i pᵢ aᵢ qᵢ) n)))) (T_dec (among_first bytes i pᵢ aᵢ qᵢ))) in
        let e = goes_elim bytes pᵢ aᵢ qᵢ g.at g.holds in
        record { earlier = g.at; before = g.below; same = record { same_from = e.from; same_letter = e.letter; same_to = e.to } }

    -- a byte that is 0: it is new
    pub index_new : get_or now (index_of bytes i) 0 ≡ 0 → Fresh bytes i
    unfolding among_first
    index_new z = record {
      fresh = λ j b s.
          let t = any_intro i (is_transition bytes pᵢ aᵢ qᵢ) j b
          (goes_intro bytes pᵢ aᵢ qᵢ j (record { from = s.same_from; letter = s.same_letter; to = s.same_to })) in
          let e : ◌≡◌ {A = ℕ} 0 1 = sym z ∙ index_tells ∙ ap one_if (T_true (among_first bytes i pᵢ aᵢ qᵢ) t) in
          omega arith;
    }

    laid_at : (p a q : ℕ) → p < states_of bytes → a < automaton_letters_of bytes → q < states_of bytes → Dec (index_of bytes i ≡ triple_index p a q)
        → index_of bytes i < length now → get_or (set now (index_of bytes i) 1) (triple_index p a q) 0 ≡ one_if (among_first bytes (i + 1) p a q)
    laid_at p a q hp ha hq (yes e) b =
        let d = index_apart pᵢ aᵢ qᵢ p a q (omega (arith, good.letter_below i h, good.letters_small))
        (omega (arith, good.to_below i h, good.states_small)) (omega (arith, good.letters_small)) (omega (arith, good.states_small)) e in
        subst (λ (x : ℕ). get_or (set now (index_of bytes i) 1) x 0 ≡ 1) e (get_or-set_same now (index_of bytes i) 1 0 b)
        ∙ sym (among_this p a q i (record { from = d.0; letter = d.1; to = d.2 }))
    laid_at p a q hp ha hq (no f) b =
        get_or-set_other now (index_of bytes i) (triple_index p a q) 1 0 (λ e. f (sym e)) ∙ l.transition p a q hp ha hq
        ∙ ap one_if (sym (among_other p a q i (λ g. f (same_index g))))
      where
        same_index : Goes bytes p a q i → index_of bytes i ≡ triple_index p a q
        same_index g =
            ap (λ (x : ℕ). triple_index x aᵢ qᵢ) g.from ∙ ap (λ (x : ℕ). triple_index p x qᵢ) g.letter ∙ ap (λ (x : ℕ). triple_index p a x) g.to

    -- the i-th transition is laid out
    pub laid_next : index_of bytes i < length now
        → TransitionsLaid (among_first bytes (i + 1)) (states_of bytes) (automaton_letters_of bytes) size (set now (index_of bytes i) 1)
    laid_next b = record {
      same_length = length-set now (index_of bytes i) 1 ∙ l.same_length;
      transition = λ p a q hp ha hq. laid_at p a q hp ha hq (ℕ_discrete (index_of bytes i) (triple_index p a q)) b;
    }
