-- What an event and a mark promise on each way. Assumes nothing.
use Rattle.std.specs.Prelude.{Ok, Err}
use Rattle.answer.proofs.Parts.{refused_by}
use Prim.Native.Nat.{ℕ, ◌≤◌, ◌<◌}
use mathlib.Core.Path.{◌≡◌, refl, ap, ◌∙◌, subst}
use mathlib.Core.List.{List}
use native.Mathlib.Omega.{arith}
use Rattle.answer.specs.declared.Refusal.{Refusal}
use Rattle.answer.specs.declared.Refusal.TheVariants.{UnknownLetter}
use Rattle.answer.proofs.Order.{first_passes, first_fails, none_left, refused_before, passed_before}
use Rattle.theory.specs.Rules.{Morphism}
use Rattle.formats.specs.Table.{morphism_at}
use Rattle.formats.specs.RuleFile.{letters_of}
use Rattle.rule_layout.specs.declared.Shape.{Shape}
use Rattle.rule_check.proofs.Calls.{shape_morphism}
use Rattle.promises.specs.declared.Monitor.{Monitor}
use Rattle.promises.specs.declared.Step.TheVariants.{Event, Mark}
use Rattle.promises.specs.declared.Moved.TheVariants.{To, Refused}
use Rattle.promises.specs.Moves.{lone_letter_check, after_event, after_mark, EventPromise, MarkPromise}
use Rattle.promises.specs.Advance.{after_step}
use Rattle.monitor_state.specs.Ready.{ReadyPromise}

module _ (bytes : List ℕ) (f : Monitor) (letter : ℕ) (entry exit : List ℕ) where
  -- the rule or the monitor is refused
  pub event_refused : {r : Refusal} {i place : ℕ} → ReadyPromise bytes f entry exit (Err (refused_by r i place)) → EventPromise bytes f letter entry exit (Refused f r i place)
  event_refused p = record { refusal = refused_before _ _ p.refusal; monitor = refl; scratch = p.scratch }

  module _ {shape : Shape} (p : ReadyPromise bytes f entry exit (Ok shape)) where
    -- the letter is foreign
    pub event_foreign : shape.letters ≤ letter → EventPromise bytes f letter entry exit (Refused f UnknownLetter 1 0)
    event_foreign h = record {
      refusal = passed_before _ _ p.refusal (first_fails (lone_letter_check 1 (letters_of bytes) letter) (record { foreign = subst (λ (x : ℕ). x ≤ letter) p.shape.letters h; is_place = refl }));
      monitor = refl;
      scratch = p.scratch;
    }

    -- the event moves since
    pub event_moved : {g : Monitor} → letter < shape.letters → g ≡ after_step (morphism_at bytes shape.elements shape.letters) f (Event letter)
        → EventPromise bytes f letter entry exit (To g)
    event_moved l e = record {
      refusal = passed_before _ _ p.refusal (first_passes (record { nowhere = λ place t. omega (arith, t.foreign, p.shape.letters) }) none_left);
      monitor = e ∙ ap (λ (m : Morphism). after_event m f letter) (shape_morphism p.shape);
      scratch = p.scratch;
    }

module _ (bytes : List ℕ) (f : Monitor) (entry exit : List ℕ) where
  pub mark_refused : {r : Refusal} {i place : ℕ} → ReadyPromise bytes f entry exit (Err (refused_by r i place)) → MarkPromise bytes f entry exit (Refused f r i place)
  mark_refused p = record { refusal = p.refusal; monitor = refl; scratch = p.scratch }

  -- the mark moves before and empties since
  pub mark_moved : {shape : Shape} {g : Monitor} → ReadyPromise bytes f entry exit (Ok shape) → g ≡ after_step (morphism_at bytes shape.elements shape.letters) f Mark
      → MarkPromise bytes f entry exit (To g)
  mark_moved p e = record {
    refusal = p.refusal;
    monitor = e ∙ ap (λ (m : Morphism). after_mark m f) (shape_morphism p.shape);
    scratch = p.scratch;
  }
