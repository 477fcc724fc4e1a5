-- The checks of an event's letter, name by name: none is foreign, or the lowest name decides. Assumes nothing.
use Prim.Native.Nat.{ℕ, zero, suc, ◌+◌, ◌≤◌, ◌<◌}
use mathlib.Core.Path.{◌≡◌, refl, sym, subst}
use mathlib.Core.Bool.{Bool, true, false, cond}
use mathlib.Core.Logic.{by_cases}
use mathlib.Core.List.{List, [], ◌∷◌}
use native.Mathlib.Omega.{arith}
use native.Mathlib.Decide.{ℕ_discrete}
use Rattle.answer.specs.declared.Refusal.TheVariants.{UnknownLetter}
use Rattle.answer.specs.Checks.{passed, refused, FirstFailure}
use Rattle.answer.proofs.Order.{first_passes, first_fails, none_left, refused_before, passed_before}
use Rattle.formats.specs.RuleFile.{letters_of}
use Rattle.promises.specs.Moves.{LoneUnknownLetterAt, lone_letter_check}
use Rattle.board_promises.specs.declared.Board.{Board}
use Rattle.board_promises.specs.Boards.{file_at, present_at}
use Rattle.board_promises.specs.Checks.{letter_checks, letters_checks}

module _ (b : Board) (files : List ℕ) (letter : ℕ) where
  -- the letter is foreign to the rule of a name
  abbrev ForeignAt : ℕ → Type 0
  ForeignAt i = letters_of (file_at files i) ≤ letter

  -- one name
  one_passes : (i : ℕ) → (present_at b i ≡ true → ForeignAt i → ⊥) → FirstFailure (letter_checks b files letter i) passed
  one_passes i known = go (present_at b i) refl
    where
      go : (there : Bool) → present_at b i ≡ there
          → FirstFailure (cond there (lone_letter_check i (letters_of (file_at files i)) letter ∷ []) []) passed
      go true e = first_passes (record { nowhere = λ place (f : LoneUnknownLetterAt _ _ place). known e f.foreign }) none_left
      go false e = none_left

  one_refuses : (i : ℕ) → present_at b i ≡ true → ForeignAt i → FirstFailure (letter_checks b files letter i) (refused UnknownLetter i 0)
  one_refuses i there foreign =
      subst (λ (flag : Bool). FirstFailure (cond flag (lone_letter_check i (letters_of (file_at files i)) letter ∷ []) []) (refused UnknownLetter i 0))
      (sym there) (first_fails (lone_letter_check i (letters_of (file_at files i)) letter) (record { foreign = foreign; is_place = refl }))

  -- none of the names
  pub letters_pass : (i count : ℕ) → ((j : ℕ) → i ≤ j → j < i + count → present_at b j ≡ true → ForeignAt j → ⊥) → FirstFailure (letters_checks b files letter i count) passed
  unfolding letters_checks
  letters_pass i zero known = none_left
  letters_pass i (suc count) known =
      passed_before (letter_checks b files letter i) (letters_checks b files letter (suc i) count) (one_passes i (known i (omega arith) (omega arith)))
      (letters_pass (suc i) count (λ j low high. known j (omega arith) (omega arith)))

  -- the lowest of them
  pub letters_refuse : (i count lowest : ℕ) → i ≤ lowest → lowest < i + count → present_at b lowest ≡ true → ForeignAt lowest
      → ((j : ℕ) → i ≤ j → j < lowest → present_at b j ≡ true → ForeignAt j → ⊥) → FirstFailure (letters_checks b files letter i count) (refused UnknownLetter lowest 0)
  unfolding letters_checks
  letters_refuse i zero lowest low high there foreign earlier = absurd (let z : ⊥ = omega arith in z)
  letters_refuse i (suc count) lowest low high there foreign earlier =
      by_cases (ℕ_discrete lowest i)
      (λ (e : lowest ≡ i). refused_before (letter_checks b files letter i) (letters_checks b files letter (suc i) count)
      (subst (λ (j : ℕ). FirstFailure (letter_checks b files letter j) (refused UnknownLetter lowest 0)) e (one_refuses lowest there foreign)))
      (λ other. passed_before (letter_checks b files letter i) (letters_checks b files letter (suc i) count) (one_passes i (earlier i (omega arith) (omega arith)))
      (letters_refuse (suc i) count lowest (omega arith) (omega arith) there foreign (λ j l h. earlier j (omega arith) h)))
