-- A rule file that passes its checks has no element without a word; to find the word takes a search, so it is said that none can be missing. Assumes
-- nothing.
use Prim.Native.Nat.{ℕ, zero, suc, ◌≤◌, ◌<◌}
use mathlib.Core.Path.{subst, sym}
use mathlib.Core.List.{List}
use native.Mathlib.Omega.{arith}
use Rattle.finite.proofs.Numbers.{Compared, lesser, level, greater, compared_numbers}
use Rattle.answer.specs.Checks.{passed, FirstFailure}
use Rattle.answer.proofs.Order.{passed_first, passed_last, passes_head, passes_tail}
use Rattle.theory.specs.Rules.{Morphism, WordOf}
use Rattle.formats.specs.TableChecks.{UnreachedAt}
use Rattle.formats.specs.RuleFile.{elements_of, marks_at, marks_of, morphism_of}
use Rattle.formats.specs.RuleChecks.{layout_checks, content_checks, table_checks, mark_checks, rule_checks}

module _ {m : Morphism} (nowhere : (place : ℕ) → UnreachedAt m place → ⊥) where
  all_below_lem : (s : ℕ) → s ≤ m.size → ¬ (¬ ((t : ℕ) → t < s → WordOf m t))
  all_below_lem zero h k = k (λ t b. absurd (let z : ⊥ = omega arith in z))
  all_below_lem (suc s) h k = all_below_lem s (omega arith) (λ all. nowhere s (record { inside = omega arith; no_word = λ w. k (λ t b. go all w t b (compared_numbers t s)); least = all }))
    where
      go : ((t : ℕ) → t < s → WordOf m t) → WordOf m s → (t : ℕ) → t < suc s → Compared t s → WordOf m t
      go all w t b (lesser o) = all t o
      go all w t b (level e) = subst (WordOf m) (sym e) w
      go all w t b (greater o) = absurd (let z : ⊥ = omega arith in z)

pub word_not_missing : (input : ℕ) (bytes : List ℕ) → FirstFailure (rule_checks input bytes) passed → (s : ℕ) → s < elements_of bytes → ¬ (¬ WordOf (morphism_of bytes) s)
unfolding rule_checks
word_not_missing input bytes p s h k =
    let m = morphism_of bytes in
    let content = passes_tail (passed_last (layout_checks input bytes) (content_checks input bytes) p) in
    let reached = passes_head (passes_tail (passed_first (table_checks input m) (mark_checks input m bytes (marks_at bytes) 0 (marks_of bytes)) content)) in
    all_below_lem reached.nowhere (elements_of bytes) (omega arith) (λ all. k (all s h))
