-- What is read of a monitor whose since is none, and of another. Assumes nothing.
use Prim.Native.Nat.{ℕ}
use mathlib.Core.Path.{◌≡◌, refl, ap, ◌∙◌}
use mathlib.Core.List.{List}
use Rattle.theory.specs.Rules.{Morphism}
use Rattle.theory.specs.Pairs.{LeastExponent}
use Rattle.theory.proofs.Strength.{settled_start, settled_cycle}
use Rattle.scratch.specs.Map.{marks_from}
use Rattle.promises.specs.declared.Monitor.{Monitor}
use Rattle.promises.specs.Monitor.{no_value}
use Rattle.verdict_call.specs.Judging.{start_element}
use Rattle.monitor_standing.specs.Standing.{GradeRead, TurnsRead}

module _ {m : Morphism} {f : Monitor} where
  pub grade_none : {scratch : List ℕ} → f.since ≡ no_value → GradeRead m scratch f 4
  grade_none e = record { without = λ none. refl; has_since = λ some. absurd (some e) }

  pub turns_none : f.since ≡ no_value → TurnsRead m f 0
  turns_none e = record { without = λ none. refl; has_since = λ some. absurd (some e) }

  module _ (some : f.since ≡ no_value → ⊥) where
    pub grade_some : {scratch : List ℕ} {start grade : ℕ} → start ≡ start_element f
        → grade ≡ marks_from scratch 4096 (settled_start m start f.since) (settled_cycle m f.since) → GradeRead m scratch f grade
    grade_some {scratch} e look = record {
      without = λ none. absurd (some none);
      has_since = λ given. look ∙ ap (λ (s : ℕ). marks_from scratch 4096 (settled_start m s f.since) (settled_cycle m f.since)) e;
    }

    pub turns_some : {turns : ℕ} → LeastExponent m f.since turns → TurnsRead m f turns
    turns_some l = record { without = λ none. absurd (some none); has_since = λ given. l }
