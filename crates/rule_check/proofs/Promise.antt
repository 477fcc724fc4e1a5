-- What each way through the whole check promises. Assumes nothing.
use Prim.Native.Nat.{ℕ, ◌≤◌, ◌<◌}
use mathlib.Core.Path.{◌≡◌, sym, ap, ◌∙◌, subst}
use mathlib.Core.List.{List}
use native.Mathlib.Omega.{arith}
use borrow.Author.Tests.{lt-ltb, le-ltb}
use lib.ListN.{length, replicate}
use Rattle.std.specs.Prelude.{Ok, Err}
use Rattle.answer.specs.declared.Fault.{Fault}
use Rattle.answer.specs.declared.Refused.{Refused}
use Rattle.answer.specs.declared.Refusal.TheVariants.{BufferTooShort}
use Rattle.answer.specs.Checks.{passed, refused, FirstFailure}
use Rattle.answer.proofs.Order.{refused_before, passed_before}
use Rattle.formats.specs.RuleFile.{elements_of, marking_of}
use Rattle.formats.proofs.Buffers.{buffer_short, buffer_long}
use Rattle.formats.specs.RuleChecks.{layout_checks, content_checks, rule_checks, scratch_size}
use Rattle.rule_layout.specs.declared.Shape.{Shape}
use Rattle.rule_layout.specs.Answers.{LayoutPassed}
use Rattle.sections.specs.Answers.{PartZeroed}
use Rattle.rule_marks.specs.Faults.{MarksLaid}
use Rattle.formats.proofs.SectionsPassed.{size_small}
use Rattle.scratch.specs.Map.{mark_table_size}
use Rattle.rule_check.specs.Answers.{BlankMarks, RuleVerdict, CheckPromise}
use Rattle.formats.specs.Calls.{after_call}

-- a short scratch is left as it came
pub short_scratch : (input : ℕ) (bytes scratch : List ℕ) → length scratch < scratch_size → CheckPromise input bytes scratch scratch (Err (record { refusal = BufferTooShort; input = 1; place = 0 }))
unfolding after_call
short_scratch input bytes scratch h = record {
  refusal = buffer_short h;
  scratch = sym (simp (lt-ltb (length scratch) scratch_size h));
}

pub zeros_after : (scratch : List ℕ) → scratch_size ≤ length scratch → replicate (length scratch) 0 ≡ after_call scratch
unfolding after_call
zeros_after scratch h = sym (simp (le-ltb (length scratch) scratch_size h))

-- a table of marks that was made blank
pub blank_marks : {entry now : List ℕ} → mark_table_size ≤ length entry → PartZeroed 0 mark_table_size entry now → BlankMarks now
blank_marks h z = record { room = omega (arith, z.outside.same_length); blank = λ i l. z.zeros i (omega arith) l }

module _ (input : ℕ) (bytes entry : List ℕ) where
  -- a section refuses
  pub layout_verdict : {exit : List ℕ} {f : Fault} → PartZeroed 0 mark_table_size entry exit
      → ((input : ℕ) → FirstFailure (layout_checks input bytes) (refused f.refusal input f.place))
      → {r : Refused} → r ≡ record { refusal = f.refusal; input = input; place = f.place } → RuleVerdict input bytes entry exit (Err r)
  unfolding rule_checks
  layout_verdict {exit} z f e =
      subst (λ (r : Refused). RuleVerdict input bytes entry exit (Err r)) (sym e) (record { refusal = refused_before _ _ (f input); marks = z.outside.same_length })

  module _ {shape : Shape} (p : LayoutPassed bytes shape) {blank exit : List ℕ} (z : PartZeroed 0 mark_table_size entry blank) where
    -- the contents refuse
    pub content_verdict : {f : Fault} → length exit ≡ length blank
        → ((input : ℕ) → FirstFailure (content_checks input bytes) (refused f.refusal input f.place))
        → {r : Refused} → r ≡ record { refusal = f.refusal; input = input; place = f.place } → RuleVerdict input bytes entry exit (Err r)
    unfolding rule_checks
    content_verdict kept f e =
        subst (λ (r : Refused). RuleVerdict input bytes entry exit (Err r)) (sym e)
        (record { refusal = passed_before _ _ (p.refusal input) (f input); marks = kept ∙ z.outside.same_length })

    -- every check passes
    pub rule_verdict : ((input : ℕ) → FirstFailure (content_checks input bytes) passed) → MarksLaid (marking_of bytes) (elements_of bytes) blank exit
        → RuleVerdict input bytes entry exit (Ok shape)
    unfolding rule_checks
    rule_verdict f l = record {
      refusal = passed_before _ _ (p.refusal input) (f input);
      marks = record {
        shape_is = p.shape_is;
        mark = l.mark;
        kept = record {
          same_length = l.same_length ∙ z.outside.same_length;
          before = λ i h. absurd (let n : ⊥ = omega arith in n);
          after = λ i h. l.other i (λ s e hs he q. omega (arith, size_small bytes (p.refusal 1))) ∙ z.outside.after i h;
        };
      };
    }

-- scratch has its size: the rule's own checks decide
module _ (input : ℕ) (bytes entry mid : List ℕ) (h : scratch_size ≤ length entry) where
  pub rule_promise : {shape : Shape} → RuleVerdict input bytes entry mid (Ok shape) → CheckPromise input bytes entry mid (Ok shape)
  rule_promise k = record { refusal = buffer_long h k.refusal; scratch = k.marks }

  pub refused_promise : {exit : List ℕ} {r : Refused} → RuleVerdict input bytes entry mid (Err r) → exit ≡ replicate (length mid) 0
      → CheckPromise input bytes entry exit (Err r)
  refused_promise k z = record { refusal = buffer_long h k.refusal; scratch = z ∙ ap (λ (n : ℕ). replicate n 0) k.marks ∙ zeros_after entry h }
