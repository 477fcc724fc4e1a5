-- What each way through the calls that move a monitor and grade it promises. Assumes nothing.
use Rattle.std.specs.Prelude.{Err}
use Rattle.answer.proofs.Parts.{refused_by}
use Prim.Native.Nat.{ℕ}
use mathlib.Core.Path.{◌≡◌, refl, subst}
use mathlib.Core.List.{List, ◌++◌}
use lib.ListN.{length, replicate}
use Rattle.answer.specs.declared.Refusal.{Refusal}
use Rattle.answer.specs.Checks.{Check, FirstFailure}
use Rattle.answer.proofs.Order.{passed_before}
use Rattle.theory.specs.Rules.{Morphism}
use Rattle.theory.specs.Pairs.{LeastExponent}
use Rattle.formats.specs.Table.{morphism_at}
use Rattle.rule_layout.specs.declared.Shape.{Shape}
use Rattle.rule_check.proofs.Calls.{shape_morphism}
use Rattle.promises.specs.declared.Monitor.{Monitor}
use Rattle.promises.specs.declared.Step.{Step}
use Rattle.promises.specs.declared.Advanced.{Advanced}
use Rattle.promises.specs.declared.Advanced.TheVariants.{To, Refused}
use Rattle.promises.specs.EventWords.{log_checks, after_word}
use Rattle.promises.specs.Advance.{after_step, foreign_checks, MonitorTurns, strong_monitor_checks, advanced_verdict, AdvanceAnswer, AdvancePromise, AdvanceWordPromise}
use Rattle.promises.proofs.AdvanceOrder.{step_others_first, word_others_first}
use Rattle.monitor_standing.specs.Standing.{TurnsRead, Stands, StandingAnswer}
use Rattle.advance_call.specs.Advancing.{LaterAnswer}

-- the rule does not stand
module _ (input : ℕ) (bytes : List ℕ) (f : Monitor) (entry : List ℕ) {exit : List ℕ} {r : Refusal} {i place : ℕ} (p : StandingAnswer input bytes f entry exit (Err (refused_by r i place))) where
  pub step_not_standing : (step : Step) → AdvancePromise input bytes f step entry exit (Refused f r i place)
  step_not_standing step = record { refusal = step_others_first input bytes f entry step r i place p.0; answered = refl; scratch = p.1 }

  pub word_not_standing : (w : List ℕ) → AdvanceWordPromise input bytes f w entry exit (Refused f r i place)
  word_not_standing w = record { refusal = word_others_first input bytes f entry w r i place p.0; answered = refl; scratch = p.1 }

-- the rule stands
module _ {input : ℕ} {bytes : List ℕ} {f : Monitor} {entry mid : List ℕ} {shape : Shape} (s : Stands input bytes f entry mid shape) where
  abbrev read : Morphism
  read = morphism_at bytes shape.elements shape.letters

  turns_told : {g : Monitor} {turns : ℕ} → TurnsRead read g turns → MonitorTurns bytes g turns
  turns_told {g} {turns} t = record {
    without = t.without;
    has_since = λ some. subst (λ (m : Morphism). LeastExponent m g.since turns) (shape_morphism s.shape_is) (t.has_since some);
  }

  -- the checks that are left decide, and what was read is said of the file
  module _ (later : List Check) (next : Monitor) where
    later_decides : (answer : Advanced) → LaterAnswer read mid later f next answer → FirstFailure (strong_monitor_checks input bytes f entry ++ later) (advanced_verdict answer)
    later_decides (To g grade turns) k = passed_before (strong_monitor_checks input bytes f entry) later s.passes k.0
    later_decides (Refused g r i place) k = passed_before (strong_monitor_checks input bytes f entry) later s.passes k.0

    later_answer : (answer : Advanced) → LaterAnswer read mid later f next answer → AdvanceAnswer bytes f next answer
    later_answer (To g grade turns) k = record { moved = k.1.moved; graded = s.grades g grade k.1.good k.1.read; settled = turns_told k.1.settled }
    later_answer (Refused g r i place) k = k.1

  module _ {exit : List ℕ} (z : exit ≡ replicate (length mid) 0) (answer : Advanced) where
    pub step_answered : (step : Step) → LaterAnswer read mid (foreign_checks input shape.letters step) f (after_step read f step) answer
        → AdvancePromise input bytes f step entry exit answer
    step_answered step k = record {
      refusal =
          subst (λ (n : ℕ). FirstFailure (strong_monitor_checks input bytes f entry ++ foreign_checks input n step) (advanced_verdict answer)) s.shape_is.letters
          (later_decides (foreign_checks input shape.letters step) (after_step read f step) answer k);
      answered =
          subst (λ (m : Morphism). AdvanceAnswer bytes f (after_step m f step) answer) (shape_morphism s.shape_is)
          (later_answer (foreign_checks input shape.letters step) (after_step read f step) answer k);
      scratch = s.zeros exit z;
    }

    pub word_answered : (w : List ℕ) → LaterAnswer read mid (log_checks input shape.letters w) f (after_word read f w) answer
        → AdvanceWordPromise input bytes f w entry exit answer
    word_answered w k = record {
      refusal =
          subst (λ (n : ℕ). FirstFailure (strong_monitor_checks input bytes f entry ++ log_checks input n w) (advanced_verdict answer)) s.shape_is.letters
          (later_decides (log_checks input shape.letters w) (after_word read f w) answer k);
      answered =
          subst (λ (m : Morphism). AdvanceAnswer bytes f (after_word m f w) answer) (shape_morphism s.shape_is)
          (later_answer (log_checks input shape.letters w) (after_word read f w) answer k);
      scratch = s.zeros exit z;
    }
