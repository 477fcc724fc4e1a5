-- What a call that checks a rule first knows of it afterwards. Assumes nothing.
use Prim.Native.Nat.{ℕ}
use mathlib.Core.Path.{◌≡◌, sym, ap, ◌∙◌, subst}
use mathlib.Core.List.{List}
use lib.ListN.{length, replicate}
use Rattle.std.specs.Prelude.{Result, Ok, Err}
use Rattle.answer.specs.declared.Refused.{Refused}
use Rattle.answer.specs.Checks.{passed, FirstFailure}
use Rattle.formats.proofs.Tables.{Table}
use Rattle.formats.specs.Table.{morphism_at}
use Rattle.formats.specs.RuleFile.{elements_of, letters_of, morphism_of}
use Rattle.rule_layout.specs.declared.Shape.{Shape}
use Rattle.rule_layout.specs.Answers.{IsShape}
use Rattle.rule_check.specs.Answers.{CheckPromise, RuleChecked}
use Rattle.formats.specs.Calls.{checked_checks, after_call}
use Rattle.rule_check.proofs.Promise.{zeros_after}
use Rattle.formats.proofs.GoodRule.{scratch_long}

module _ (input : ℕ) (bytes entry : List ℕ) (all : FirstFailure (checked_checks input bytes entry) passed) where
  -- zeros over the whole length are what a call leaves
  pub zeros_left : (mid exit : List ℕ) → length mid ≡ length entry → exit ≡ replicate (length mid) 0 → exit ≡ after_call entry
  zeros_left mid exit e z = z ∙ ap (λ (x : ℕ). replicate x 0) e ∙ zeros_after entry (scratch_long input bytes entry all)

-- the check's answer, known by its case
module _ (input : ℕ) (bytes entry exit : List ℕ) (answer : Result Shape Refused) (known : CheckPromise input bytes entry exit answer) where
  pub checked_rule : {shape : Shape} → answer ≡ Ok shape → CheckPromise input bytes entry exit (Ok shape)
  checked_rule e = subst (CheckPromise input bytes entry exit) e known

  pub checked_refused : {r : Refused} → answer ≡ Err r → CheckPromise input bytes entry exit (Err r)
  checked_refused e = subst (CheckPromise input bytes entry exit) e known

-- the marks in scratch keep its length
pub checked_length : {bytes entry exit : List ℕ} {shape : Shape} → RuleChecked bytes shape entry exit → length exit ≡ length entry
checked_length r = r.kept.same_length

-- by the counts that were read: the file's morphism and its table
module _ {bytes : List ℕ} {shape : Shape} (s : IsShape bytes shape) where
  pub shape_morphism : morphism_at bytes shape.elements shape.letters ≡ morphism_of bytes
  shape_morphism = ap (λ (x : ℕ). morphism_at bytes x shape.letters) s.elements ∙ ap (morphism_at bytes (elements_of bytes)) s.letters

  pub shape_table : Table bytes (elements_of bytes) (letters_of bytes) → Table bytes shape.elements shape.letters
  shape_table t =
      subst (λ (x : ℕ). Table bytes x shape.letters) (sym s.elements) (subst (λ (x : ℕ). Table bytes (elements_of bytes) x) (sym s.letters) t)
