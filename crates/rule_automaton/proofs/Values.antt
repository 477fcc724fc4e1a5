-- States by numbers: s an element or 64 for none. Assumes nothing.
use Prim.Native.Nat.{ℕ, ◌≤◌, ◌<◌}
use mathlib.Core.Path.{◌≡◌, refl, sym, ap, subst, ◌∙◌}
use mathlib.Core.Bool.{Bool, true, false, not}
use mathlib.Core.Logic.{⊎_elim}
use native.Mathlib.Omega.{arith}
use lib.Dec.{eqb}
use borrow.Author.Tests.{lt-ltb, not-true, not-false}
use mir.Facts.{eqb_yes, yes_eqb}
use Rattle.finite.proofs.Tests.{true_T, T_true, T_false, tests_equal}
use Rattle.theory.specs.Rules.{Morphism, Value}
use Rattle.theory.proofs.Values.{Inside, inside_none, inside_element, element_inside}
use Rattle.buchi.specs.RuleAutomaton.{is_value, is_state, value_number}
use Rattle.buchi.proofs.RuleStates.{value_test, numbers_same, same_numbers, State, test_state}
use Rattle.promises.specs.Monitor.{value_of, number_for, ValueOutOfRange}
use Rattle.monitor_state.specs.Ready.{GoodNumber}
use Rattle.promises.proofs.MonitorValues.{value_none, value_element, number_of_value}

-- ---- the numbers of values

-- a good number stands for none or an element, and a number out of range for neither
pub good_inside : {m : Morphism} {s : ℕ} → m.size ≤ 64 → GoodNumber m.size s → Inside m (value_of s)
good_inside {m} {s} small g =
    ⊎_elim (λ (h : s < m.size). subst (Inside m) (sym (value_element (λ e. omega arith))) (inside_element h))
    (λ e. subst (Inside m) (sym (value_none e)) inside_none) g

pub stray_outside : {m : Morphism} {s : ℕ} → ValueOutOfRange m.size s → Inside m (value_of s) → ⊥
stray_outside {m} o i = let h = element_inside {m = m} (subst (Inside m) (value_element o.not_none) i) in omega (arith, o.no_element)

-- the value of a value's number is that value
pub value_of_number : {m : Morphism} {x : Value} → m.size ≤ 64 → Inside m x → value_of (number_for x) ≡ x
unfolding number_for
value_of_number small inside_none = value_none refl
value_of_number small (inside_element {s} h) = value_element (λ e. omega arith)

-- a value is that of a number exactly if it has the number
pub number_test : {m : Morphism} {x : Value} → m.size ≤ 64 → Inside m x → (s : ℕ) → eqb (value_number x) (value_number (value_of s)) ≡ eqb (number_for x) s
number_test {x = x} small i s =
    tests_equal (eqb (value_number x) (value_number (value_of s))) (eqb (number_for x) s)
    (λ t. yes_eqb (ap number_for (numbers_same x (value_of s) t) ∙ number_of_value s))
    (λ t. same_numbers (sym (value_of_number small i) ∙ ap value_of (eqb_yes t)))

-- ---- states

-- s is out of range, or e is no element: no state
pub no_value : (m : Morphism) {s : ℕ} (e : ℕ) → ValueOutOfRange m.size s → false ≡ is_state m (value_of s) e
no_value m {s} e o = sym (T_false (is_state m (value_of s) e) (λ t. stray_outside o (test_state {m = m} (value_of s) e t).value))

pub no_element : (m : Morphism) (s : ℕ) {e : ℕ} → m.size ≤ e → false ≡ is_state m (value_of s) e
no_element m s {e} h = sym (T_false (is_state m (value_of s) e) (λ t. omega (arith, (test_state {m = m} (value_of s) e t).idempotent.inside)))

-- with both in range it is the square that decides
pub square_decides : (m : Morphism) {s e square : ℕ} → m.size ≤ 64 → GoodNumber m.size s → e < m.size → square ≡ m.product e e → eqb square e ≡ is_state m (value_of s) e
unfolding is_state
square_decides m {s} {e} small g h q =
    rw (q, T_true (is_value m (value_of s)) (value_test (good_inside small g)), lt-ltb e m.size h)

-- a state that was found
pub found_state : (m : Morphism) (s e : ℕ) → is_state m (value_of s) e ≡ true → State m (value_of s) e
found_state m s e h = test_state (value_of s) e (true_T h)

-- what the test for a state said
pub said_state : {found is : Bool} → found ≡ is → not found ≡ false → is ≡ true
said_state e f = sym e ∙ not-false _ f

pub said_none : {found is : Bool} → found ≡ is → not found ≡ true → is ≡ false
said_none e f = sym e ∙ not-true _ f
