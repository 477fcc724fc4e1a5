-- What `feed` promises on each way. Assumes nothing.
use Rattle.std.specs.Prelude.{Ok}
use Rattle.answer.proofs.Parts.{refused_by}
use Rattle.std.specs.Prelude.{Err}
use Rattle.answer.proofs.Parts.{fault_by}
use Prim.Native.Nat.{ℕ}
use mathlib.Core.Path.{◌≡◌, refl, ap, ◌∙◌, subst}
use mathlib.Core.List.{List}
use Rattle.answer.specs.declared.Refusal.{Refusal}
use Rattle.answer.specs.Checks.{refused, FirstFailure}
use Rattle.answer.proofs.Order.{refused_before, passed_before}
use Rattle.theory.specs.Words.{Over}
use Rattle.theory.specs.Rules.{Morphism}
use Rattle.formats.specs.Table.{morphism_at}
use Rattle.formats.specs.RuleFile.{letters_of}
use Rattle.rule_layout.specs.declared.Shape.{Shape}
use Rattle.rule_check.proofs.Calls.{shape_morphism}
use Rattle.promises.specs.declared.Monitor.{Monitor}
use Rattle.promises.specs.declared.Moved.TheVariants.{To, Refused}
use Rattle.promises.specs.EventWords.{log_checks, after_word}
use Rattle.promises.specs.Feed.{FeedPromise}
use Rattle.promises.proofs.EventWords.{log_passes}
use Rattle.monitor_state.specs.Ready.{ReadyPromise}
use Rattle.monitor_steps.specs.Steps.{GoodLog, LogAnswer}

module _ (bytes : List ℕ) (f : Monitor) (w entry exit : List ℕ) where
  -- the rule or the monitor is refused
  pub feed_refused : {r : Refusal} {i place : ℕ} → ReadyPromise bytes f entry exit (Err (refused_by r i place)) → FeedPromise bytes f w entry exit (Refused f r i place)
  feed_refused p = record { refusal = refused_before _ _ p.refusal; monitor = refl; scratch = p.scratch }

  module _ {shape : Shape} (p : ReadyPromise bytes f entry exit (Ok shape)) where
    -- the word is
    pub feed_fault : {r : Refusal} {place : ℕ} → LogAnswer shape.letters w (Err (fault_by r place)) → FeedPromise bytes f w entry exit (Refused f r 1 place)
    feed_fault {r} {place} fault = record {
      refusal = passed_before _ _ p.refusal (subst (λ (k : ℕ). FirstFailure (log_checks 1 k w) (refused r 1 place)) p.shape.letters (fault 1));
      monitor = refl;
      scratch = p.scratch;
    }

    -- each letter moved the monitor
    pub feed_moved : {g : Monitor} → GoodLog shape.letters w → g ≡ after_word (morphism_at bytes shape.elements shape.letters) f w → FeedPromise bytes f w entry exit (To g)
    feed_moved good e = record {
      refusal =
          passed_before _ _ p.refusal
          (log_passes 1 (letters_of bytes) w good.short (subst (λ (k : ℕ). Over k w) p.shape.letters good.over));
      monitor = e ∙ ap (λ (m : Morphism). after_word m f w) (shape_morphism p.shape);
      scratch = p.scratch;
    }
