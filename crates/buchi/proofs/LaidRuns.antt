-- From paths to a run: a path of x from an initial state to q, and a path of y from q to q that meets a final state, laid end
-- to end, are an accepting run on x followed by y for ever. Assumes nothing.
use Prim.Native.Nat.{ℕ, zero, suc, ◌+◌, ◌-◌, ◌*◌, ◌%◌, ◌≤◌, ◌<◌}
use mathlib.Core.Path.{◌≡◌, refl, sym, ap, subst, ◌∙◌}
use mathlib.Core.Bool.{cond}
use mathlib.Core.List.{List, ◌∷◌}
use native.Mathlib.Nat.{add-zero, add-suc, add-sub_cancel_left, mod-lt, mod_self, mod-eq_of_lt, suc-mod, zero-mod, mul-add-mod_self_right, le-mul_of_pos_right}
use native.Mathlib.Decide.{dec_lt}
use native.Mathlib.Omega.{arith}
use lib.ListN.{length, get_or}
use lib.Dec.{T, ltb}
use borrow.Author.Tests.{lt-ltb, le-ltb}
use Rattle.theory.specs.Words.{endless}
use Rattle.theory.proofs.Periods.{endless_inside, endless_past}
use Rattle.buchi.specs.Automata.{Automaton, WordPath, path_end, path_step, FinalPath, final_here, final_later, Run, FinalFrom, AcceptingRun}

-- the states of a path of w, by their places
pub record Trace (a : Automaton) (w : List ℕ) (p q : ℕ) : Type 0 where
  pub state : ℕ → ℕ
  pub begins : state 0 ≡ p
  pub ends : state (length w) ≡ q
  pub inside : (i : ℕ) → i ≤ length w → state i < a.states
  pub steps : (i : ℕ) → i < length w → T (a.step (state i) (get_or w i 0) (state (suc i)))

-- p, and then f
abbrev before : ℕ → (ℕ → ℕ) → ℕ → ℕ
before p f zero = p
before p f (suc i) = f i

trace_step : {a : Automaton} {x p r q : ℕ} {w : List ℕ} → p < a.states → T (a.step p x r) → Trace a w r q → Trace a (x ∷ w) p q
trace_step {a} {x} {p} {r} {q} {w} h s t = record { state = before p t.state; begins = refl; ends = t.ends; inside = inside; steps = steps }
  where
    inside : (i : ℕ) → i ≤ suc (length w) → before p t.state i < a.states
    inside zero l = h
    inside (suc i) l = t.inside i (omega arith)

    steps : (i : ℕ) → i < suc (length w) → T (a.step (before p t.state i) (get_or (x ∷ w) i 0) (t.state i))
    steps zero l = subst (λ k. T (a.step p x k)) (sym t.begins) s
    steps (suc i) l = t.steps i (omega arith)

pub path_trace : {a : Automaton} {w : List ℕ} {p q : ℕ} → WordPath a w p q → Trace a w p q
path_trace (path_end {p} h) = record { state = λ i. p; begins = refl; ends = refl; inside = λ i l. h; steps = λ i l. absurd (omega arith) }
path_trace (path_step h s d) = trace_step h s (path_trace d)

-- with the place of a final state, both ends included
pub record FinalTrace (a : Automaton) (w : List ℕ) (p q : ℕ) : Type 0 where
  pub trace : Trace a w p q
  pub place : ℕ
  pub place_inside : place ≤ length w
  pub ends_final : T (a.final (trace.state place))

pub final_trace : {a : Automaton} {w : List ℕ} {p q : ℕ} → FinalPath a w p q → FinalTrace a w p q
unfolding trace_step
final_trace {a} (final_here f d) =
    let t = path_trace d in
    record { trace = t; place = 0; place_inside = omega arith; ends_final = subst (λ k. T (a.final k)) (sym t.begins) f }
final_trace {a} (final_later h s d) =
    let t = final_trace d in
    record { trace = trace_step h s t.trace; place = suc t.place; place_inside = omega (arith, t.place_inside); ends_final = t.ends_final }

-- what holds at the places below n and at the places n + i holds everywhere
below_or_past : (n : ℕ) (P : ℕ → Type 0) → ((i : ℕ) → i < n → P i) → ((i : ℕ) → P (n + i)) → (i : ℕ) → P i
below_or_past n P f g i = pick (dec_lt i n)
  where
    pick : Dec (i < n) → P i
    pick (yes l) = f i l
    pick (no h) =
        let e : n + (i - n) ≡ i = omega arith in
        subst P e (g (i - n))

module _ {a : Automaton} {x y : List ℕ} {p q : ℕ} (s : Trace a x p q) (c : Trace a y q q) where
  -- the states of the first path, then those of the second over and over
  unfoldable pub laid : ℕ → ℕ
  laid i = cond (ltb i (length x)) (s.state i) (c.state ((i - length x) % length y))

  laid_inside : (i : ℕ) → i < length x → laid i ≡ s.state i
  unfolding laid
  laid_inside i l = rw (lt-ltb i (length x) l)

  laid_past : (d : ℕ) → laid (length x + d) ≡ c.state (d % length y)
  unfolding laid
  laid_past d =
      let h : length x ≤ length x + d = omega arith in
      rw (le-ltb (length x + d) (length x) h, add-sub_cancel_left (length x) d)

  -- the second path begins where the first ends
  laid_up_to : (i : ℕ) → i ≤ length x → laid i ≡ s.state i
  laid_up_to i h = pick (dec_lt i (length x))
    where
      pick : Dec (i < length x) → laid i ≡ s.state i
      pick (yes l) = laid_inside i l
      pick (no f) =
          let e : i ≡ length x = omega arith in
          ap laid (e ∙ sym (add-zero (length x))) ∙ laid_past 0 ∙ ap c.state (zero-mod (length y)) ∙ c.begins ∙ sym s.ends ∙ ap s.state (sym e)

  module _ (some : 0 < length y) where
    -- a place of the second path, its end taken for its beginning
    cycle_mod : (k : ℕ) → k ≤ length y → c.state (k % length y) ≡ c.state k
    cycle_mod k h = pick (dec_lt k (length y))
      where
        pick : Dec (k < length y) → c.state (k % length y) ≡ c.state k
        pick (yes l) = ap c.state (mod-eq_of_lt l)
        pick (no f) =
            let e : k ≡ length y = omega arith in
            ap (λ j. c.state (j % length y)) e ∙ ap c.state (mod_self (length y)) ∙ c.begins ∙ sym c.ends ∙ ap c.state (sym e)

    laid_next : (d : ℕ) → laid (suc (length x + d)) ≡ c.state (suc (d % length y))
    laid_next d =
        let l : d % length y < length y = mod-lt d some in
        ap laid (sym (add-suc (length x) d)) ∙ laid_past (suc d) ∙ ap c.state (suc-mod d (length y)) ∙ cycle_mod (suc (d % length y)) (omega arith)

    laid_steps : (i : ℕ) → T (a.step (laid i) (endless x y i) (laid (suc i)))
    laid_steps =
        below_or_past (length x) (λ i. T (a.step (laid i) (endless x y i) (laid (suc i))))
        (λ i l. rw (laid_inside i l, endless_inside x y i l, laid_up_to (suc i) l) (s.steps i l))
        (λ d. rw (laid_past d, endless_past x y d, laid_next d) (c.steps (d % length y) (mod-lt d some)))

    laid_states : (i : ℕ) → laid i < a.states
    laid_states =
        below_or_past (length x) (λ i. laid i < a.states)
        (λ i l. rw (laid_inside i l) (s.inside i (omega arith)))
        (λ d. rw (laid_past d) (c.inside (d % length y) (let l : d % length y < length y = mod-lt d some in omega arith)))

    -- the place k of the second path comes again and again
    laid_again : (k : ℕ) → k ≤ length y → T (a.final (c.state k)) → (n : ℕ) → FinalFrom a laid n
    laid_again k h f n = record {
      at = length x + (n * length y + k);
      later = omega (arith, le-mul_of_pos_right n some);
      ends_final = rw (laid_past (n * length y + k), mul-add-mod_self_right n (length y) k, cycle_mod k h) f;
    }

    laid_run : T (a.initial p) → Run a (endless x y)
    laid_run f = record {
      state = laid;
      inside = laid_states;
      starts = rw (laid_up_to 0 (omega arith), s.begins) f;
      steps = laid_steps;
    }

-- the accepting run
pub laid_accepting : {a : Automaton} {x y : List ℕ} {p q : ℕ} → 0 < length y → T (a.initial p) → WordPath a x p q → FinalPath a y q q → AcceptingRun a (endless x y)
unfolding laid_run laid
laid_accepting some f d e =
    let s = path_trace d in
    let c = final_trace e in
    record { run = laid_run s c.trace some f; again = laid_again s c.trace some c.place c.place_inside c.ends_final }
