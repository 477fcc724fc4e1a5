-- Laws of the order of the checks: lists in a row, one verdict only, and a refusal is the verdict exactly if its check fails
-- and every earlier one passes. Assumes nothing.
use Prim.Native.Nat.{ℕ}
use native.Mathlib.Omega.{arith}
use mathlib.Core.Path.{◌≡◌, refl, sym, ap, ◌∙◌, subst}
use mathlib.Core.Logic.{inl, inr, ⊎_elim}
use mathlib.Core.List.{List, [], ◌∷◌, ◌++◌}
use Rattle.answer.specs.Refusals.{number_of}
use Rattle.answer.specs.Checks.{Verdict, passed, numbered, refused, Check, Passes, Refuses, first_of, FirstFailure}

-- a passing check hands on
pub first_passes : {c : Check} {checks : List Check} {v : Verdict} → Passes c → FirstFailure checks v → FirstFailure (c ∷ checks) v
unfolding first_of
first_passes p f = record { decided = inr (p, f.decided) }

-- a failing check decides
pub first_fails : (c : Check) {checks : List Check} {place : ℕ} → c.Fails place → FirstFailure (c ∷ checks) (refused c.refusal c.input place)
unfolding first_of
first_fails c {place = place} f = record { decided = inl (record { place = place; fails = f; verdict = refl }) }

pub none_left : FirstFailure [] passed
unfolding first_of
none_left = record { decided = refl }

no_refusal : {number input place : ℕ} → numbered number input place ≡ passed → ⊥
no_refusal e = let z : ◌≡◌ {A = ℕ} 0 1 = cc in omega arith

refuses_passed : {c : Check} → Refuses c passed → ⊥
refuses_passed r = no_refusal (sym r.verdict)

-- the first check decides, or it passes and the others do
pub data FirstCase (c : Check) (checks : List Check) (v : Verdict) : Type 0 where
  decides_now : Refuses c v → FirstCase c checks v
  hands_on : Passes c → FirstFailure checks v → FirstCase c checks v

pub first_case : {c : Check} {checks : List Check} {v : Verdict} → FirstFailure (c ∷ checks) v → FirstCase c checks v
unfolding first_of
first_case f = ⊎_elim (λ r. decides_now r) (λ p. hands_on p.0 (record { decided = p.1 })) f.decided

first_again : {c : Check} {checks : List Check} {v : Verdict} → FirstCase c checks v → FirstFailure (c ∷ checks) v
unfolding first_of
first_again (decides_now r) = record { decided = inl r }
first_again (hands_on p f) = first_passes p f

-- a refusal by the first checks stays the verdict whatever follows
pub refused_before : (before after : List Check) {number input place : ℕ} → FirstFailure before (numbered number input place)
    → FirstFailure (before ++ after) (numbered number input place)
unfolding first_of
refused_before [] after f = absurd (no_refusal f.decided)
refused_before (c ∷ before) after {number} {input} {place} f = go (first_case f) (refused_before before after)
  where
    go : FirstCase c before (numbered number input place) → (FirstFailure before (numbered number input place) → FirstFailure (before ++ after) (numbered number input place))
        → FirstFailure (c ∷ before ++ after) (numbered number input place)
    go (decides_now q) more = first_again (decides_now q)
    go (hands_on p g) more = first_passes p (more g)

-- where the first checks pass, the others decide
pub passed_before : (before after : List Check) {v : Verdict} → FirstFailure before passed → FirstFailure after v → FirstFailure (before ++ after) v
passed_before [] after p f = f
passed_before (c ∷ before) after {v} p f = go (first_case p) (λ q. passed_before before after q f)
  where
    go : FirstCase c before passed → (FirstFailure before passed → FirstFailure (before ++ after) v) → FirstFailure (c ∷ before ++ after) v
    go (decides_now q) more = absurd (refuses_passed q)
    go (hands_on q g) more = first_passes q (more g)

-- where all checks pass, the first of them passes
pub passed_first : (before after : List Check) → FirstFailure (before ++ after) passed → FirstFailure before passed
passed_first [] after f = none_left
passed_first (c ∷ before) after f = go (first_case f) (passed_first before after)
  where
    go : FirstCase c (before ++ after) passed → (FirstFailure (before ++ after) passed → FirstFailure before passed) → FirstFailure (c ∷ before) passed
    go (decides_now q) more = absurd (refuses_passed q)
    go (hands_on q g) more = first_passes q (more g)

-- and the last of them pass
pub passed_last : (before after : List Check) → FirstFailure (before ++ after) passed → FirstFailure after passed
passed_last [] after f = f
passed_last (c ∷ before) after f = go (first_case f) (passed_last before after)
  where
    go : FirstCase c (before ++ after) passed → (FirstFailure (before ++ after) passed → FirstFailure after passed) → FirstFailure after passed
    go (decides_now q) more = absurd (refuses_passed q)
    go (hands_on q g) more = more g

-- where a list passes, its first check does
pub passes_head : {c : Check} {checks : List Check} → FirstFailure (c ∷ checks) passed → Passes c
passes_head {c} {checks} f = go (first_case f)
  where
    go : FirstCase c checks passed → Passes c
    go (decides_now q) = absurd (refuses_passed q)
    go (hands_on q g) = q

pub passes_tail : {c : Check} {checks : List Check} → FirstFailure (c ∷ checks) passed → FirstFailure checks passed
passes_tail {c} {checks} f = passed_last (c ∷ []) checks f

-- a check fails at one place at most
pub record Single (c : Check) : Type 0 where
  pub one_place : (p q : ℕ) → c.Fails p → c.Fails q → p ≡ q

-- it does where each place that it fails at is a known one
pub single_at : {c : Check} {at : ℕ} → ((place : ℕ) → c.Fails place → place ≡ at) → Single c
single_at f = record { one_place = λ p q a b. f p a ∙ sym (f q b) }

-- each check of the list does
pub data AllSingle : List Check → Type 1 where
  single_nil : AllSingle []
  single_cons : {c : Check} {checks : List Check} → Single c → AllSingle checks → AllSingle (c ∷ checks)

-- so do the checks of two such lists in a row
pub single_append : {before after : List Check} → AllSingle before → AllSingle after → AllSingle (before ++ after)
single_append single_nil b = b
single_append (single_cons s a) b = single_cons s (single_append a b)

-- there is one verdict only
pub one_verdict : {checks : List Check} {v w : Verdict} → AllSingle checks → FirstFailure checks v → FirstFailure checks w → v ≡ w
unfolding first_of
one_verdict single_nil f g = f.decided ∙ sym g.decided
one_verdict {v = v} {w = w} (single_cons {c} {checks} s all) f g = go (first_case f) (first_case g) (λ p q. one_verdict all p q)
  where
    go : FirstCase c checks v → FirstCase c checks w → (FirstFailure checks v → FirstFailure checks w → v ≡ w) → v ≡ w
    go (decides_now r) (decides_now q) more =
        r.verdict ∙ ap (refused c.refusal c.input) (s.one_place r.place q.place r.fails q.fails) ∙ sym q.verdict
    go (decides_now r) (hands_on p q) more = absurd (p.nowhere r.place r.fails)
    go (hands_on p q) (decides_now r) more = absurd (p.nowhere r.place r.fails)
    go (hands_on p f') (hands_on q g') more = more f' g'

-- a check of the list that fails at the place while every earlier one passes, and its number in the table
pub data Decides : List Check → ℕ → ℕ → ℕ → Type 1 where
  here : {c : Check} {checks : List Check} {place : ℕ} → c.Fails place → Decides (c ∷ checks) (number_of c.refusal) c.input place
  later : {c : Check} {checks : List Check} {number input place : ℕ} → Passes c → Decides checks number input place → Decides (c ∷ checks) number input place

-- a refusal is the verdict exactly if its check fails there and no earlier one does
pub decides_verdict : {checks : List Check} {number input place : ℕ} → Decides checks number input place → FirstFailure checks (numbered number input place)
decides_verdict (here {c} f) = first_fails c f
decides_verdict (later p d) = first_passes p (decides_verdict d)

at_head : {c : Check} {rest : List Check} {number input place : ℕ} → Refuses c (numbered number input place) → Decides (c ∷ rest) number input place
at_head {c} {rest} {number} {input} {place} q =
    let e = q.verdict in
    let en : number_of c.refusal ≡ number = cc in
    let ei : c.input ≡ input = cc in
    let ep : q.place ≡ place = cc in
    subst (λ (x : ℕ). Decides (c ∷ rest) x input place) en
    (subst (λ (x : ℕ). Decides (c ∷ rest) (number_of c.refusal) x place) ei
    (subst (λ (x : ℕ). Decides (c ∷ rest) (number_of c.refusal) c.input x) ep (here q.fails)))

pub verdict_decides : (checks : List Check) {number input place : ℕ} → FirstFailure checks (numbered number input place) → Decides checks number input place
unfolding first_of
verdict_decides [] f = absurd (no_refusal f.decided)
verdict_decides (c ∷ rest) {number} {input} {place} f = cases (first_case f) (verdict_decides rest)
  where
    cases : FirstCase c rest (numbered number input place) → (FirstFailure rest (numbered number input place) → Decides rest number input place) → Decides (c ∷ rest) number input place
    cases (decides_now q) more = at_head q
    cases (hands_on p g) more = later p (more g)
