-- The checks of a word of events, letter by letter, and those of a step. Assumes nothing.
use Prim.Native.Nat.{ℕ, zero, suc, ◌≤◌, ◌<◌}
use mathlib.Core.Path.{◌≡◌, refl, sym, ap, subst, ◌∙◌}
use mathlib.Core.List.{List, [], ◌∷◌}
use native.Mathlib.Omega.{arith}
use lib.ListN.{length, get_or}
use Rattle.answer.specs.declared.Refusal.TheVariants.{UnknownLetter, WordLength}
use Rattle.answer.specs.Refusals.{number_of}
use Rattle.answer.specs.Checks.{Check, Verdict, passed, numbered, refused, FirstFailure}
use Rattle.answer.proofs.Order.{FirstCase, decides_now, hands_on, first_case, first_passes, first_fails, none_left, passes_head, passes_tail, Single, AllSingle, single_nil, single_at, single_cons, one_verdict}
use Rattle.answer.proofs.Verdicts.{not_passed}
use Rattle.theory.specs.Words.{Over, over_nil, over_cons}
use Rattle.theory.proofs.Words.{over_at}
use Rattle.formats.specs.WordChecks.{UnknownLetterAt}
use Rattle.formats.proofs.WordChecks.{lasso_single}
use Rattle.promises.specs.declared.Step.{Step}
use Rattle.promises.specs.declared.Step.TheVariants.{Event, Mark, Stay}
use Rattle.promises.specs.Moves.{LoneUnknownLetterAt, lone_letter_check}
use Rattle.promises.specs.EventWords.{longest_log, LogTooLongAt, log_checks}
use Rattle.promises.specs.Advance.{ForeignStep, foreign_checks}

-- ---- a step

-- an event fails at place 0, and nothing else fails
pub foreign_single : (input k : ℕ) (step : Step) → AllSingle (foreign_checks input k step)
foreign_single input k (Event letter) = single_cons (single_at (λ place (a : LoneUnknownLetterAt _ _ place). a.is_place)) single_nil
foreign_single input k Mark = single_nil
foreign_single input k Stay = single_nil

pub step_foreign : (input k : ℕ) (step : Step) → ForeignStep k step → FirstFailure (foreign_checks input k step) (refused UnknownLetter input 0)
step_foreign input k (Event letter) h = first_fails (lone_letter_check input k letter) (record { foreign = h; is_place = refl })
step_foreign input k Mark h = absurd h
step_foreign input k Stay h = absurd h

pub step_known : (input k : ℕ) (step : Step) → (ForeignStep k step → ⊥) → FirstFailure (foreign_checks input k step) passed
step_known input k (Event letter) h = first_passes (record { nowhere = λ place a. h a.foreign }) none_left
step_known input k Mark h = none_left
step_known input k Stay h = none_left

pub known_step : (input k : ℕ) (step : Step) → FirstFailure (foreign_checks input k step) passed → ForeignStep k step → ⊥
known_step input k (Event letter) f h = (passes_head f).nowhere 0 (record { foreign = h; is_place = refl })
known_step input k Mark f h = h
known_step input k Stay f h = h

-- a step that is refused is foreign
pub step_refused : (input k : ℕ) (step : Step) {number i place : ℕ} → FirstFailure (foreign_checks input k step) (numbered number i place)
    → (number ≡ number_of UnknownLetter) × ForeignStep k step
step_refused input k (Event letter) {number} {i} {place} f = go (first_case f)
  where
    go : FirstCase (lone_letter_check input k letter) [] (numbered number i place) → (number ≡ number_of UnknownLetter) × (k ≤ letter)
    go (decides_now d) = let e = d.verdict in (cc, d.fails.foreign)
    go (hands_on q h) = absurd (not_passed (one_verdict single_nil h none_left))
step_refused input k Mark f = absurd (not_passed (one_verdict single_nil f none_left))
step_refused input k Stay f = absurd (not_passed (one_verdict single_nil f none_left))

-- ---- a word

-- a list's third check
third : {a b c : Check} {rest : List Check} → AllSingle (a ∷ b ∷ c ∷ rest) → Single c
third (single_cons x (single_cons y (single_cons z rest))) = z

-- the first foreign letter is at one place, as in a word of a lasso
pub log_single : (input k : ℕ) (w : List ℕ) → AllSingle (log_checks input k w)
log_single input k w =
    single_cons (single_at (λ place (a : LogTooLongAt _ place). a.is_place)) (single_cons (record { one_place = (third (lasso_single k w w)).one_place }) single_nil)

-- the first foreign letter behind a known one
pub behind_known : {k a place : ℕ} {w : List ℕ} → a < k → UnknownLetterAt k w place → UnknownLetterAt k (a ∷ w) (suc place)
behind_known {k} {a} {place} {w} known u = record { inside = omega (arith, u.inside); foreign = u.foreign; first = go }
  where
    go : (i : ℕ) → i < suc place → get_or (a ∷ w) i 0 < k
    go zero l = known
    go (suc i) l = u.first i (omega arith)

-- a first letter that is foreign
pub foreign_head : {k a : ℕ} {w : List ℕ} → k ≤ a → UnknownLetterAt k (a ∷ w) 0
foreign_head h = record { inside = omega arith; foreign = h; first = λ i l. absurd (let z : ⊥ = omega arith in z) }

-- where no letter is foreign, the word is one over the letters
pub letters_over : (k : ℕ) (w : List ℕ) → ((place : ℕ) → UnknownLetterAt k w place → ⊥) → Over k w
letters_over k [] none = over_nil
letters_over k (a ∷ w) none =
    let h : k ≤ a → ⊥ = λ foreign. none 0 (foreign_head foreign) in
    let known : a < k = omega arith in
    over_cons known (letters_over k w (λ place u. none (suc place) (behind_known known u)))

pub over_letters : {k : ℕ} {w : List ℕ} → Over k w → (place : ℕ) → UnknownLetterAt k w place → ⊥
over_letters {k} {w} o place u = omega (arith, over_at k w o place u.inside, u.foreign)

module _ (input k : ℕ) (w : List ℕ) where
  abbrev letters : Check
  letters = record { refusal = UnknownLetter; input = input; Fails = UnknownLetterAt k w }

  pub log_over : FirstFailure (log_checks input k w) passed → Over k w
  log_over f = letters_over k w (passes_head (passes_tail f)).nowhere

  -- whatever the number of its input is
  pub log_as : (other : ℕ) → FirstFailure (log_checks input k w) passed → FirstFailure (log_checks other k w) passed
  log_as other f = first_passes (record { nowhere = (passes_head f).nowhere }) (first_passes (record { nowhere = (passes_head (passes_tail f)).nowhere }) none_left)

  module _ (short : length w ≤ longest_log) where
    pub log_passes : Over k w → FirstFailure (log_checks input k w) passed
    log_passes o = first_passes (record { nowhere = λ place a. omega (arith, a.above) }) (first_passes (record { nowhere = over_letters o }) none_left)

    pub log_foreign : {place : ℕ} → UnknownLetterAt k w place → FirstFailure (log_checks input k w) (refused UnknownLetter input place)
    log_foreign u =
        first_passes (record { nowhere = λ place a. omega (arith, a.above) })
        (first_fails letters u)

    -- a word that is refused has a foreign letter
    pub log_refused : {v : Verdict} → (v ≡ passed → ⊥) → FirstFailure (log_checks input k w) v → (place : ℕ) × (UnknownLetterAt k w place × (v ≡ refused UnknownLetter input place))
    log_refused {v} not f = first (first_case f)
      where
        second : FirstCase letters [] v → (place : ℕ) × (UnknownLetterAt k w place × (v ≡ refused UnknownLetter input place))
        second (decides_now r) = (r.place, (r.fails, r.verdict))
        second (hands_on p g) = absurd (not (one_verdict single_nil g none_left))

        first : FirstCase (record { refusal = WordLength; input = input; Fails = LogTooLongAt w }) (letters ∷ []) v → (place : ℕ) × (UnknownLetterAt k w place × (v ≡ refused UnknownLetter input place))
        first (decides_now r) = absurd (let z : ⊥ = omega (arith, r.fails.above) in z)
        first (hands_on p g) = second (first_case g)

-- ---- a letter before a word

-- what is told of the word with the letter before it: a place one further on
abbrev pub behind_verdict : Verdict → Verdict
behind_verdict passed = passed
behind_verdict (numbered number input place) = numbered number input (suc place)

module _ (input k letter : ℕ) (w : List ℕ) (short : length (letter ∷ w) ≤ longest_log) where
  -- a letter that is refused by itself is refused as the first of the word
  pub letter_refused : {v : Verdict} → (v ≡ passed → ⊥) → FirstFailure (lone_letter_check input k letter ∷ []) v → FirstFailure (log_checks input k (letter ∷ w)) v
  letter_refused {v} not g = go (first_case g)
    where
      go : FirstCase (lone_letter_check input k letter) [] v → FirstFailure (log_checks input k (letter ∷ w)) v
      go (decides_now d) =
          subst (FirstFailure (log_checks input k (letter ∷ w))) (ap (refused UnknownLetter input) (sym d.fails.is_place) ∙ sym d.verdict)
          (log_foreign input k (letter ∷ w) short (foreign_head d.fails.foreign))
      go (hands_on q h) = absurd (not (one_verdict single_nil h none_left))

  -- behind one that is known the other letters decide
  pub letter_passes : letter < k → (v : Verdict) → FirstFailure (log_checks input k w) v → FirstFailure (log_checks input k (letter ∷ w)) (behind_verdict v)
  letter_passes known passed q = log_passes input k (letter ∷ w) short (over_cons known (log_over input k w q))
  letter_passes known (numbered number i place) q =
      let u = log_refused input k w (omega arith) not_passed q in
      let e = u.1.1 in
      let there : numbered number i (suc place) ≡ refused UnknownLetter input (suc u.0) = ap behind_verdict e in
      subst (FirstFailure (log_checks input k (letter ∷ w))) (sym there) (log_foreign input k (letter ∷ w) short (behind_known known u.1.0))
