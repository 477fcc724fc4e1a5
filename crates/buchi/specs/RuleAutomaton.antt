-- The automaton of a rule. Document 02, Job 5: "Follow section 3.2 of source document 001", whose states are S¹ × E(S), with the pairs (1, e)
-- final and a transition from (s, e) by a to (t, e) where h(a)t = s or h(a)t = se in S¹. The one that S¹ adds is the value of the empty
-- word, `none`. No limit of the file format stands here: "The six-state limit binds only automaton files." Assumes nothing.
use Rattle.std.specs.Prelude.{ℕ, zero, suc, ◌+◌, ◌*◌, ◌/◌, ◌%◌, Bool, true, false, ◌&&◌, ◌||◌, ltb, eqb}
use Rattle.theory.specs.Rules.{Morphism, Pairs, Value, none, element, join}
use Rattle.buchi.specs.Automata.{Automaton}

-- "s an element or .. none"
unfoldable pub is_value : Morphism → Value → Bool
is_value m none = true
is_value m (element s) = ltb s m.size

-- "A state is (s, e), s an element or 64 for none, e idempotent." It need be neither linked nor reached.
unfoldable pub is_state : Morphism → Value → ℕ → Bool
is_state m s e = is_value m s && (ltb e m.size && eqb (m.product e e) e)

-- "Initial states are the marked pairs": s is an element
unfoldable pub is_pair : Pairs → Value → ℕ → Bool
is_pair P none e = false
is_pair P (element s) e = P s e

-- "final ones have s = 64"
unfoldable pub is_none : Value → Bool
is_none none = true
is_none (element s) = false

-- values are numbered, none first; they are one exactly if their numbers are
unfoldable pub value_number : Value → ℕ
value_number none = 0
value_number (element s) = suc s

-- the value with a number
unfoldable pub numbered_value : ℕ → Value
numbered_value zero = none
numbered_value (suc s) = element s

-- h(a)t
unfoldable pub letter_then : Morphism → ℕ → Value → Value
letter_then m a t = join m (element (m.image a)) t

-- se
unfoldable pub then_cycle : Morphism → Value → ℕ → Value
then_cycle m s e = join m s (element e)

-- h(a)t = s or h(a)t = se
unfoldable pub leads : Morphism → Value → ℕ → ℕ → Value → Bool
leads m s e a t =
    eqb (value_number (letter_then m a t)) (value_number s)
    || eqb (value_number (letter_then m a t)) (value_number (then_cycle m s e))

-- the states (s, e) are numbered by s, none first, and then by e
unfoldable pub state_number : Morphism → Value → ℕ → ℕ
state_number m s e = value_number s * m.size + e

-- the s of a number: what is left to read before the next final state has the value s, or se
unfoldable pub state_rest : Morphism → ℕ → Value
state_rest m q = numbered_value (q / m.size)

-- its e
unfoldable pub state_cycle : Morphism → ℕ → ℕ
state_cycle m q = q % m.size

-- the number is that of a state
unfoldable pub numbers_state : Morphism → ℕ → Bool
numbers_state m q = is_state m (state_rest m q) (state_cycle m q)

-- from (s, e) by a to (t, e), both states
unfoldable pub transition : Morphism → ℕ → ℕ → ℕ → Bool
transition m q a r =
    (numbers_state m q && numbers_state m r)
    && (eqb (state_cycle m r) (state_cycle m q) && leads m (state_rest m q) (state_cycle m q) a (state_rest m r))

-- a number that is no state's is neither initial nor final, and no transition leads from it or to it
unfoldable pub rule_automaton : Morphism → Pairs → Automaton
rule_automaton m P = record {
  states = suc m.size * m.size;
  letters = m.letters;
  initial = λ q. numbers_state m q && is_pair P (state_rest m q) (state_cycle m q);
  final = λ q. numbers_state m q && is_none (state_rest m q);
  step = transition m;
}
