-- Checks of the library that stand for checks of a formula, one for one: what they come to is told at the operation's byte. Assumes nothing.
use Prim.Native.Nat.{ℕ}
use mathlib.Core.Path.{◌≡◌, sym, subst}
use mathlib.Core.List.{List, [], ◌∷◌, ◌++◌, append-nil}
use Rattle.answer.specs.Refusals.{number_of}
use Rattle.answer.specs.Checks.{Verdict, passed, numbered, Check, Passes, first_of, FirstFailure}
use Rattle.answer.proofs.Order.{FirstCase, decides_now, hands_on, first_case, first_passes, first_fails, none_left, passes_head, passes_tail, verdict_decides, Decides, here, later}
use Rattle.promises.specs.declared.Written.{Written}
use Rattle.promises.specs.declared.Written.TheVariants.{Rule as Is-rule, Refused}
use Rattle.promises.specs.Answers.{written_verdict}
use Rattle.formula_makings.specs.Makings.{told_at}

-- after checks that pass the others have decided
pub others_decide : (before after : List Check) {v : Verdict} → FirstFailure before passed → FirstFailure (before ++ after) v → FirstFailure after v
others_decide [] after p f = f
others_decide (c ∷ before) after {v} p f = go (first_case f) (λ g. others_decide before after (passes_tail p) g)
  where
    go : FirstCase c (before ++ after) v → (FirstFailure (before ++ after) v → FirstFailure after v) → FirstFailure after v
    go (decides_now r) more = absurd ((passes_head p).nowhere r.place r.fails)
    go (hands_on q g) more = more g

pub after_first : {c : Check} {checks : List Check} {v : Verdict} → Passes c → FirstFailure (c ∷ checks) v → FirstFailure checks v
after_first {c} {checks} p f = others_decide (c ∷ []) checks (first_passes p none_left) f

-- where all pass nothing is refused
pub none_refused : (checks : List Check) {v : Verdict} → FirstFailure checks passed → FirstFailure checks v → v ≡ passed
unfolding first_of
none_refused checks {v} p f = (others_decide checks [] p (subst (λ (l : List Check). FirstFailure l v) (sym (append-nil checks)) f)).decided

-- a check of input 1 with the same refusal that fails at a byte where the other fails somewhere, and nowhere else
pub record StandsFor (at : ℕ) (c c' : Check) : Type 0 where
  pub same_refusal : c.refusal ≡ c'.refusal
  pub first_input : c'.input ≡ 1
  pub fails_there : (place : ℕ) → c.Fails place → c'.Fails at
  pub fails_too : (place : ℕ) → c'.Fails place → (q : ℕ) × c.Fails q

pub data AllStandFor (at : ℕ) : List Check → List Check → Type 1 where
  none_stand : AllStandFor at [] []
  and_stands : {c c' : Check} {checks checks' : List Check} → StandsFor at c c' → AllStandFor at checks checks' → AllStandFor at (c ∷ checks) (c' ∷ checks')

module _ {at : ℕ} where
  stands_passed : {checks checks' : List Check} → AllStandFor at checks checks' → FirstFailure checks passed → FirstFailure checks' passed
  stands_passed none_stand f = none_left
  stands_passed (and_stands s all) f =
      first_passes (record { nowhere = λ place a. (let b = s.fails_too place a in (passes_head f).nowhere b.0 b.1) }) (stands_passed all (passes_tail f))

  stands_decided : {checks checks' : List Check} {number input place : ℕ} → AllStandFor at checks checks' → Decides checks number input place → FirstFailure checks' (numbered number 1 at)
  stands_decided {place = place} (and_stands {c} {c'} {checks} {checks'} s all) (here f) =
      subst (λ (i : ℕ). FirstFailure (c' ∷ checks') (numbered (number_of c.refusal) i at)) s.first_input
      (subst (λ r. FirstFailure (c' ∷ checks') (numbered (number_of r) c'.input at)) (sym s.same_refusal) (first_fails c' (s.fails_there place f)))
  stands_decided (and_stands s all) (later p d) =
      first_passes (record { nowhere = λ place a. (let b = s.fails_too place a in p.nowhere b.0 b.1) }) (stands_decided all d)
  stands_decided {number = number} {input = input} {place = place} none_stand x4 = elim x4 [ ]

  pub stands_told : {checks checks' : List Check} → AllStandFor at checks checks' → (answer : Written) → FirstFailure checks (written_verdict answer) → FirstFailure checks' (told_at at answer)
  stands_told all (Is-rule end) f = stands_passed all f
  stands_told {checks} all (Refused refusal input place) f = stands_decided all (verdict_decides checks f)
