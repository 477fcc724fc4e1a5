-- What each way through the checks of two words shows. Assumes nothing.
use Rattle.std.specs.Prelude.{Option, Some, None}
use Prim.Native.Nat.{ℕ, ◌≤◌, ◌<◌}
use mathlib.Core.Path.{◌≡◌, refl, subst}
use mathlib.Core.Logic.{◌⊎◌, inr, ⊎_elim}
use mathlib.Core.List.{List}
use native.Mathlib.Omega.{arith}
use native.Mathlib.Nat.{zero-add}
use lib.ListN.{length, get_or}
use Rattle.answer.specs.declared.Refusal.TheVariants.{UnknownLetter, WordLength}
use Rattle.answer.specs.Checks.{Check, refused, FirstFailure}
use Rattle.answer.proofs.Order.{first_passes, first_fails, none_left}
use Rattle.section_bounds.specs.Answers.{FoundOut}
use Rattle.formats.proofs.Sections.{FirstOut}
use Rattle.formats.specs.WordChecks.{shortest_start, shortest_cycle, longest_word, LengthOutAt, UnknownLetterAt, lasso_checks}
use Rattle.lasso_words.specs.Answers.{GoodLasso}

-- a length in the range
pub record GoodLength (shortest : ℕ) (w : List ℕ) : Type 0 where
  pub some : shortest ≤ length w
  pub short : length w ≤ longest_word

length_passes : {shortest : ℕ} {w : List ℕ} → GoodLength shortest w → (place : ℕ) → LengthOutAt shortest w place → ⊥
length_passes g place o = ⊎_elim (λ l. omega (arith, g.some)) (λ l. omega (arith, g.short)) o.outside

-- the search for a letter that is not below k, from the first letter on
module _ (k : ℕ) (w : List ℕ) (answer : Option ℕ) (known : FoundOut w 0 (length w) (λ i. 0) (λ i. k) answer) where
  pub foreign_at : {i : ℕ} → answer ≡ Some i → UnknownLetterAt k w i
  foreign_at {i} e = go (subst (FoundOut w 0 (length w) (λ i. 0) (λ i. k)) e known)
    where
      go : FirstOut w 0 (length w) (λ i. 0) (λ i. k) i → UnknownLetterAt k w i
      go o = record {
        inside = o.below;
        foreign = subst (λ (x : ℕ). k ≤ get_or w x 0) (zero-add i) (⊎_elim (λ l. absurd (let z : ⊥ = omega arith in z)) (λ l. l) o.outside);
        first = λ j h. subst (λ (x : ℕ). get_or w x 0 < k) (zero-add j) (o.first j h).below;
      }

  pub letters_below : answer ≡ None → (i : ℕ) → i < length w → get_or w i 0 < k
  letters_below e i h = subst (λ (x : ℕ). get_or w x 0 < k) (zero-add i) ((subst (FoundOut w 0 (length w) (λ i. 0) (λ i. k)) e known).each i h).below

letters_pass : {k : ℕ} {w : List ℕ} → ((i : ℕ) → i < length w → get_or w i 0 < k) → (place : ℕ) → UnknownLetterAt k w place → ⊥
letters_pass f place o = omega (arith, f place o.inside, o.foreign)

module _ (k : ℕ) (u v : List ℕ) where
  abbrev start_length : Check
  start_length = record { refusal = WordLength; input = 1; Fails = LengthOutAt shortest_start u }

  abbrev cycle_length : Check
  cycle_length = record { refusal = WordLength; input = 2; Fails = LengthOutAt shortest_cycle v }

  -- a bad start
  pub start_out : longest_word < length u → FirstFailure (lasso_checks k u v) (refused WordLength 1 0)
  start_out h = first_fails start_length (record { outside = inr h; is_place = refl })

  -- a bad cycle
  pub cycle_out : GoodLength shortest_start u → (length v < shortest_cycle) ⊎ (longest_word < length v) → FirstFailure (lasso_checks k u v) (refused WordLength 2 0)
  cycle_out gu o = first_passes (record { nowhere = length_passes gu }) (first_fails cycle_length (record { outside = o; is_place = refl }))

  module _ (gu : GoodLength shortest_start u) (gv : GoodLength shortest_cycle v) where
    -- a foreign letter in the start
    pub start_foreign : {i : ℕ} → UnknownLetterAt k u i → FirstFailure (lasso_checks k u v) (refused UnknownLetter 1 i)
    start_foreign f =
        first_passes (record { nowhere = length_passes gu }) (first_passes (record { nowhere = length_passes gv })
        (first_fails (record { refusal = UnknownLetter; input = 1; Fails = UnknownLetterAt k u }) f))

    module _ (lu : (i : ℕ) → i < length u → get_or u i 0 < k) where
      -- a foreign letter in the cycle
      pub cycle_foreign : {i : ℕ} → UnknownLetterAt k v i → FirstFailure (lasso_checks k u v) (refused UnknownLetter 2 i)
      cycle_foreign f =
          first_passes (record { nowhere = length_passes gu }) (first_passes (record { nowhere = length_passes gv })
          (first_passes (record { nowhere = letters_pass lu }) (first_fails (record { refusal = UnknownLetter; input = 2; Fails = UnknownLetterAt k v }) f)))

      -- two good words
      pub good_lasso : ((i : ℕ) → i < length v → get_or v i 0 < k) → GoodLasso k u v
      good_lasso lv = record {
        start = record { some = gu.some; short = gu.short; letters = lu };
        cycle = record { some = gv.some; short = gv.short; letters = lv };
        refusal =
            first_passes (record { nowhere = length_passes gu }) (first_passes (record { nowhere = length_passes gv })
            (first_passes (record { nowhere = letters_pass lu }) (first_passes (record { nowhere = letters_pass lv }) none_left)));
      }
