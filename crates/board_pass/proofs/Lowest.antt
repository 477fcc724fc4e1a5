-- The lowest grade among the first names, with one name more. Assumes nothing.
use Prim.Native.Nat.{ℕ, ◌+◌, ◌≤◌, ◌<◌}
use mathlib.Core.Path.{◌≡◌, refl, sym, ◌∙◌, subst}
use mathlib.Core.Bool.{true}
use mathlib.Core.Logic.{inl, inr, ⊎_elim, by_cases}
use mathlib.Core.List.{List}
use native.Mathlib.Omega.{arith}
use native.Mathlib.Decide.{ℕ_discrete}
use Rattle.theory.specs.Grades.{LassosGraded}
use Rattle.theory.proofs.Gradings.{one_lassos_grade}
use Rattle.formats.specs.RuleFile.{morphism_of, marking_of}
use Rattle.promises.specs.declared.Step.{Step}
use Rattle.promises.specs.Monitor.{no_value, value_of}
use Rattle.promises.specs.Advance.{no_grade, MonitorGrade}
use Rattle.board_promises.specs.declared.Board.{Board}
use Rattle.board_promises.specs.Boards.{file_at, present_at}
use Rattle.board_promises.specs.Monitors.{moved_at}
use Rattle.board_answers.specs.Answers.{Lesser, LowestWith}
use Rattle.board_pass.specs.Passes.{Counts, SomeCounts, LowestBelow}

-- what is said of each of the first names and of the next is said of one more
each_of_more : (count : ℕ) (P : ℕ → Type 0) → P count → ((i : ℕ) → i < count → P i) → (i : ℕ) → i < count + 1 → P i
each_of_more count P last before i named = by_cases (ℕ_discrete i count) (λ (e : i ≡ count). subst P (sym e) last) (λ other. before i (omega arith))

module _ {b : Board} {files : List ℕ} {step : Step} {leaver : ℕ} where
  -- among none
  pub lowest_of_none : LowestBelow b files step leaver 0 no_grade
  lowest_of_none = record {
    small = omega arith;
    lowest = λ i h named c. absurd (let z : ⊥ = omega arith in z);
    attained = inl refl;
    none = λ e i h named c. omega arith;
  }

  -- a name that counts among fewer counts among more
  some_more : {count grade : ℕ} → SomeCounts b files step leaver count grade → SomeCounts b files step leaver (count + 1) grade
  some_more s = record { name = s.name; named = omega (arith, s.named); counts = s.counts }

  module _ {count low : ℕ} (l : LowestBelow b files step leaver count low) where
    -- one name more, which does not count
    pub lowest_past : ((h : ℕ) → Counts b files step leaver count h → ⊥) → LowestBelow b files step leaver (count + 1) low
    lowest_past never = record {
      small = l.small;
      lowest = λ i h named c.
          each_of_more count (λ (j : ℕ). Counts b files step leaver j h → low ≤ h) (λ d. absurd (never h d)) (λ j k d. l.lowest j h k d) i named c;
      attained = ⊎_elim (λ e. inl e) (λ s. inr (some_more s)) l.attained;
      none = λ e i h named c.
          each_of_more count (λ (j : ℕ). Counts b files step leaver j h → ⊥) (never h) (λ j k d. l.none e j h k d) i named c;
    }

    -- one that counts with a grade
    lowest_lowered : {grade r : ℕ} → grade ≤ 3 → Counts b files step leaver count grade → Lesser low grade r → LowestBelow b files step leaver (count + 1) r
    lowest_lowered {grade} {r} small last lesser = record {
      small = omega (arith, l.small, lesser.first);
      lowest = λ i h named c.
          each_of_more count (λ (j : ℕ). Counts b files step leaver j h → r ≤ h)
          (λ d. let e = one_lassos_grade last.graded d.graded in omega (arith, lesser.second))
          (λ j k d. omega (arith, l.lowest j h k d, lesser.first)) i named c;
      attained =
          ⊎_elim (λ (e : r ≡ low). ⊎_elim (λ z. inl (e ∙ z)) (λ s. inr (subst (SomeCounts b files step leaver (count + 1)) (sym e) (some_more s))) l.attained)
          (λ (e : r ≡ grade). inr (record { name = count; named = omega arith; counts = subst (Counts b files step leaver count) (sym e) last })) lesser.either;
      none = λ e i h named c. omega (arith, lesser.second);
    }

    -- one with the grade that its monitor stands for; the leaver's does not count, nor one whose since is none
    pub lowest_with : {grade r : ℕ} → present_at b count ≡ true
        → ((g : ℕ) → LassosGraded (morphism_of (file_at files count)) (marking_of (file_at files count)) (value_of (moved_at b files step count).before) (moved_at b files step count).since g → g ≤ 3)
        → MonitorGrade (file_at files count) (moved_at b files step count) grade → LowestWith leaver count low grade r → LowestBelow b files step leaver (count + 1) r
    lowest_with {grade} {r} there small graded with-grade =
        by_cases (ℕ_discrete count leaver) (λ (e : count ≡ leaver). same (with-grade.leaving e) (λ h c. c.stays e))
        (λ stays. by_cases (ℕ_discrete (moved_at b files step count).since no_value)
        (λ none. same (unlowered (with-grade.staying stays) (graded.without none)) (λ h c. c.has_since none))
        (λ some. lowest_lowered (small grade (graded.has_since some)) (record { there = there; stays = stays; has_since = some; graded = graded.has_since some }) (with-grade.staying stays)))
      where
        same : r ≡ low → ((h : ℕ) → Counts b files step leaver count h → ⊥) → LowestBelow b files step leaver (count + 1) r
        same e never = subst (LowestBelow b files step leaver (count + 1)) (sym e) (lowest_past never)

        unlowered : Lesser low grade r → grade ≡ no_grade → r ≡ low
        unlowered k e = ⊎_elim (λ (z : r ≡ low). z) (λ z. omega (arith, k.first, l.small)) k.either
