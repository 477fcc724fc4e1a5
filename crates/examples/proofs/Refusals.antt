-- The two files that are refused: the first triple that does not associate, and the least element that is no word's value.
-- Assumes nothing.
use Prim.Native.Nat.{ℕ}
use mathlib.Core.Path.{◌≡◌, refl}
use native.Mathlib.Omega.{arith}
use Rattle.answer.specs.declared.Refusal.TheVariants.{NotAssociative, Unreachable}
use Rattle.answer.specs.Checks.{numbered, FirstFailure}
use Rattle.answer.proofs.Order.{first_passes, first_fails}
use Rattle.theory.specs.Rules.{Lawful}
use Rattle.theory.proofs.ShortWords.{reached_intro, unreached_first}
use Rattle.theory.proofs.TableTests.{lawful_elim}
use Rattle.formats.specs.TableChecks.{Associates, TripleBefore, by_a, by_b, by_c, NotAssociativeAt, UnreachedAt}
use Rattle.formats.proofs.Tables.{all_associate_none}
use Rattle.formats.specs.RuleFile.{morphism_of}
use Rattle.formats.specs.RuleChecks.{rule_checks}
use Rattle.examples.specs.Files.{not_associative, unreached}
use Rattle.examples.proofs.Passing.{after_layout}
use Rattle.examples.proofs.Reading.{reading}

-- ---- (0·0)·1 is 0 and 0·(0·1) is 1; (0·0)·0 and 0·(0·0) are 0

earlier_associate : (a b c : ℕ) → TripleBefore a b c 0 0 1 → Associates (morphism_of not_associative) a b c
unfolding reading
earlier_associate a b c (by_a h) = absurd (let z : ⊥ = omega arith in z)
earlier_associate a b c (by_b e h) = absurd (let z : ⊥ = omega arith in z)
earlier_associate a b c (by_c e f h) =
    let g : c ≡ 0 = omega arith in
    rw (e, f, g) refl

not_associative_at : NotAssociativeAt (morphism_of not_associative) 1
unfolding reading
not_associative_at = record {
  a = 0;
  b = 0;
  c = 1;
  a_inside = omega arith;
  b_inside = omega arith;
  c_inside = omega arith;
  differs = λ e. let z : ◌≡◌ {A = ℕ} 0 1 = e in omega arith;
  first = λ a b c ha hb hc before. earlier_associate a b c before;
  is_place = refl;
}

pub not_associative_refused : FirstFailure (rule_checks 1 not_associative) (numbered 5 1 1)
unfolding reading
not_associative_refused =
    after_layout not_associative tt
    (first_fails (record { refusal = NotAssociative; input = 1; Fails = NotAssociativeAt (morphism_of not_associative) }) not_associative_at)

-- ---- element 1 of W's table, where the one letter has the image 0

unreached_lawful : Lawful (morphism_of unreached)
unfolding reading
unreached_lawful = lawful_elim (morphism_of unreached) tt

unreached_at : UnreachedAt (morphism_of unreached) 1
unfolding reading
unreached_at = record { inside = omega arith; no_word = reached_intro unreached_lawful; least = unreached_first unreached_lawful }

pub unreached_refused : FirstFailure (rule_checks 1 unreached) (numbered 6 1 1)
unfolding reading
unreached_refused =
    after_layout unreached tt
    (first_passes (record { nowhere = λ place f. all_associate_none (record { associate = unreached_lawful.associative }) f })
    (first_fails (record { refusal = Unreachable; input = 1; Fails = UnreachedAt (morphism_of unreached) }) unreached_at))
