-- The checks of the names in a row: one name more behind, and those of a name that is present or not. Assumes nothing.
use Prim.Native.Nat.{ℕ, zero, suc, ◌+◌}
use mathlib.Core.Path.{◌≡◌, sym, ap, ◌∙◌, subst}
use mathlib.Core.Bool.{Bool, true, false, cond}
use mathlib.Core.List.{List, [], ◌++◌, append-nil, append_assoc}
use native.Mathlib.Omega.{arith}
use Rattle.answer.specs.Checks.{Check, Verdict, FirstFailure}
use Rattle.formats.specs.RuleChecks.{rule_checks}
use Rattle.promises.specs.Advance.{standing_checks}
use Rattle.board_promises.specs.declared.Board.{Board}
use Rattle.board_promises.specs.Boards.{file_at, present_at, monitor_at}
use Rattle.board_promises.specs.Checks.{name_checks, names_checks}

module _ (b : Board) (files : List ℕ) where
  names_behind : (i count : ℕ) → names_checks b files i (suc count) ≡ names_checks b files i count ++ name_checks b files (i + count)
  unfolding names_checks
  names_behind i zero = append-nil (name_checks b files i) ∙ ap (name_checks b files) (let e : i ≡ i + 0 = omega arith in e)
  names_behind i (suc count) =
      ap (λ (checks : List Check). name_checks b files i ++ checks) (names_behind (suc i) count)
      ∙ ap (λ (j : ℕ). name_checks b files i ++ (names_checks b files (suc i) count ++ name_checks b files j)) (let e : suc i + count ≡ i + suc count = omega arith in e)
      ∙ sym (append_assoc (name_checks b files i) (names_checks b files (suc i) count) (name_checks b files (i + suc count)))

  -- one name more
  one_more_is : (i : ℕ) → names_checks b files 0 i ++ name_checks b files i ≡ names_checks b files 0 (i + 1)
  one_more_is i =
      ap (λ (j : ℕ). names_checks b files 0 i ++ name_checks b files j) (let e : i ≡ 0 + i = omega arith in e)
      ∙ sym (names_behind 0 i)
      ∙ ap (names_checks b files 0) (let e : suc i ≡ i + 1 = omega arith in e)

  pub one_more : (i : ℕ) {v : Verdict} → FirstFailure (names_checks b files 0 i ++ name_checks b files i) v → FirstFailure (names_checks b files 0 (i + 1)) v
  one_more i {v} f = subst (λ (checks : List Check). FirstFailure checks v) (one_more_is i) f

  -- of a name that is present, and of another
  present_is : (i : ℕ) → present_at b i ≡ true → rule_checks i (file_at files i) ++ standing_checks i (file_at files i) (monitor_at b i) ≡ name_checks b files i
  present_is i e =
      ap (λ (there : Bool). cond there (rule_checks i (file_at files i) ++ standing_checks i (file_at files i) (monitor_at b i)) []) (sym e)

  pub present_decides : (i : ℕ) {v : Verdict} → present_at b i ≡ true
      → FirstFailure (rule_checks i (file_at files i) ++ standing_checks i (file_at files i) (monitor_at b i)) v → FirstFailure (name_checks b files i) v
  present_decides i {v} e f = subst (λ (checks : List Check). FirstFailure checks v) (present_is i e) f

  pub absent_checks : (i : ℕ) → present_at b i ≡ false → [] ≡ name_checks b files i
  absent_checks i e =
      ap (λ (there : Bool). cond there (rule_checks i (file_at files i) ++ standing_checks i (file_at files i) (monitor_at b i)) []) (sym e)
