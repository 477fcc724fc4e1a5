-- The ranges of the triples (from, letter, to): m for a state, k for a letter. Assumes nothing.
use Prim.Native.Nat.{ℕ, ◌+◌, ◌*◌}
use mathlib.Core.Path.{◌≡◌, refl, ap}
use mathlib.Core.Bool.{cond}
use lib.Dec.{eqb}
use Rattle.formats.specs.AutomatonFile.{triple_bound, transition_width}
use Rattle.formats.proofs.Triples.{first_of, second_of, third_of}
use Rattle.section_triples.specs.Ranges.{TripleRanges}

module _ (m k : ℕ) where
  pub bound_from : (i : ℕ) → triple_bound m k (transition_width * i) ≡ m
  unfolding triple_bound
  bound_from i = ap (λ (x : ℕ). cond (eqb x 1) k m) (first_of i)

  pub bound_letter : (i : ℕ) → triple_bound m k (transition_width * i + 1) ≡ k
  unfolding triple_bound
  bound_letter i = ap (λ (x : ℕ). cond (eqb x 1) k m) (second_of i)

  pub bound_to : (i : ℕ) → triple_bound m k (transition_width * i + 2) ≡ m
  unfolding triple_bound
  bound_to i = ap (λ (x : ℕ). cond (eqb x 1) k m) (third_of i)

  pub triple_ranges : TripleRanges (λ i. 0) (triple_bound m k) m k m 0
  triple_ranges = record {
    bound_first = bound_from;
    bound_second = bound_letter;
    bound_third = bound_to;
    floor_first = λ i. refl;
    floor_second = λ i. refl;
    floor_third = λ i. refl;
  }
