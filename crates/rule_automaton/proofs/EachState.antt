-- The states of a rule's automaton are those that the calls tell of: each number is that of an s and an e that a caller can ask for, and of no other.
-- Assumes nothing.
use Prim.Native.Nat.{ℕ, ◌≤◌, ◌<◌}
use mathlib.Core.Path.{◌≡◌, refl, sym, ap, ◌∙◌}
use mathlib.Core.Logic.{inl, inr}
use Rattle.theory.specs.Rules.{Morphism, Marking, Value, level}
use Rattle.theory.proofs.Values.{Inside, inside_none, inside_element}
use Rattle.buchi.specs.RuleAutomaton.{state_number, state_rest, state_cycle}
use Rattle.buchi.proofs.RuleStates.{number_rest, number_cycle, cycle_inside, rest_inside, state_number_lem}
use Rattle.promises.specs.Monitor.{value_of, number_for}
use Rattle.promises.specs.RuleAutomaton.{automaton_for, state_of}
use Rattle.monitor_state.specs.Ready.{GoodNumber}
use Rattle.promises.proofs.MonitorValues.{number_of_value}
use Rattle.rule_automaton.proofs.Values.{value_of_number}

-- the number is that of (s, e)
pub record AskedAs (m : Morphism) (q : ℕ) : Type 0 where
  pub s : ℕ
  pub e : ℕ
  pub value : GoodNumber m.size s
  pub inside : e < m.size
  pub is : state_of m s e ≡ q

number_good : {m : Morphism} {x : Value} → Inside m x → GoodNumber m.size (number_for x)
unfolding number_for
number_good inside_none = inr refl
number_good (inside_element h) = inl h

module _ (m : Morphism) (small : m.size ≤ 64) (marks : Marking) (least : ℕ) where
  pub each_state : (q : ℕ) → q < (automaton_for m marks least).states → AskedAs m q
  each_state q h =
      let rest = rest_inside m (level least marks) h in
      record {
        s = number_for (state_rest m q);
        e = state_cycle m q;
        value = number_good rest;
        inside = cycle_inside m (level least marks) h;
        is = ap (λ (x : Value). state_number m x (state_cycle m q)) (value_of_number small rest) ∙ state_number_lem m q;
      }

-- numbers of two states are apart
pub one_state : (m : Morphism) (s e s' e' : ℕ) → e < m.size → e' < m.size → state_of m s e ≡ state_of m s' e' → (s ≡ s') × (e ≡ e')
one_state m s e s' e' h h' q =
    let rest = sym (number_rest m (value_of s) h) ∙ ap (state_rest m) q ∙ number_rest m (value_of s') h' in
    (sym (number_of_value s) ∙ ap number_for rest ∙ number_of_value s', sym (number_cycle m (value_of s) h) ∙ ap (state_cycle m) q ∙ number_cycle m (value_of s') h')
