-- The list of the states that a letter leads to, t by t. Assumes nothing.
use Prim.Native.Nat.{ℕ, zero, suc, ◌+◌, ◌-◌, ◌≤◌, ◌<◌}
use mathlib.Core.Path.{◌≡◌, refl, sym, ap, ap₂, subst, ◌∙◌}
use mathlib.Core.Bool.{Bool, true, false, cond, ◌||◌}
use mathlib.Core.Logic.{inl, inr, ⊎_elim}
use mathlib.Core.List.{List, [], ◌∷◌, ◌++◌}
use native.Mathlib.Omega.{arith}
use native.Mathlib.Nat.{zero-add}
use lib.Dec.{eqb}
use lib.ListN.{length, set, length-append}
use borrow.Author.Tests.{eq-eqb, ne_eqb}
use Rattle.finite.specs.Select.{select_from, select}
use Rattle.finite.proofs.Tests.{T_true, T_false}
use Rattle.theory.specs.Rules.{Morphism, Value, element, join}
use Rattle.theory.proofs.Values.{Inside, inside_element, join_inside}
use Rattle.buchi.specs.RuleAutomaton.{is_state, value_number, letter_then, then_cycle, leads, transition}
use Rattle.buchi.proofs.RuleStates.{State, state_test, test_state, transition_at_lem}
use Rattle.formats.specs.Front.{AtFront}
use Rattle.formats.specs.Table.{morphism_at, image_at}
use Rattle.formats.proofs.Listed.{select_listed, select_more, select_same}
use Rattle.formats.proofs.Front.{front_same}
use Rattle.formats.proofs.Tables.{Table}
use Rattle.promises.specs.Monitor.{no_value, value_of, number_for}
use Rattle.promises.specs.RuleAutomaton.{successors_size, state_of, successors_of}
use Rattle.monitor_state.specs.Ready.{GoodNumber, join_at}
use Rattle.monitor_state.proofs.Numbers.{not_stray}
use Rattle.promises.proofs.MonitorValues.{value_element}
use Rattle.rule_bytes.specs.Writing.{Written}
use Rattle.rule_bytes.proofs.Placed.{written_none, written_store, written_more, written_length, written_at_front}
use Rattle.rule_automaton.specs.Steps.{leads_at, successor_if_any, LeadsNeeds, SuccessorNeeds, ListNeeds}
use Rattle.rule_automaton.proofs.Values.{good_inside, stray_outside, value_of_number, number_test, found_state}

-- ---- lists of numbers that pass a test

-- x if it passes
abbrev if_any : (ℕ → Bool) → ℕ → List ℕ
if_any p x = cond (p x) (x ∷ []) []

select_one : (p : ℕ → Bool) (x : ℕ) → select_from 1 x p (λ t. t) ≡ if_any p x
unfolding select_from
select_one p x = refl

any_short : (p : ℕ → Bool) (x : ℕ) → length (if_any p x) ≤ 1
any_short p x = go (p x)
  where
    go : (b : Bool) → length (cond b (x ∷ []) []) ≤ 1
    go true = omega arith
    go false = omega arith

select_nothing : (k i : ℕ) → select_from k i (λ x. false) (λ t. t) ≡ []
unfolding select_from
select_nothing zero i = refl
select_nothing (suc k) i = select_nothing k (suc i)

-- ---- one t

module _ (bytes : List ℕ) (n k s turned h t : ℕ) {read : ℕ} (is : read ≡ join_at bytes n k h t) where
  pub leads_rest : read ≡ s → true ≡ leads_at bytes n k s turned h t
  unfolding leads_at
  leads_rest e = rw (← is, eq-eqb read s e)

  pub leads_turned : (read ≡ s → ⊥) → eqb read turned ≡ leads_at bytes n k s turned h t
  unfolding leads_at
  leads_turned e = rw (← is, ne_eqb read s e)

module _ (bytes : List ℕ) (n k s turned h t : ℕ) (out : List ℕ) (at : ℕ) {led : Bool} (is : led ≡ leads_at bytes n k s turned h t) where
  pub successor_in : led ≡ true → at < length out → Written out at (successor_if_any bytes n k s turned h t) (set out at t) (at + 1)
  unfolding successor_if_any
  successor_in e l = rw (← is, e) (written_store out at t l)

  pub successor_out : led ≡ false → Written out at (successor_if_any bytes n k s turned h t) out at
  unfolding successor_if_any
  successor_out e = rw (← is, e) (written_none out at)

-- a good number is a byte
pub good_byte : {bytes : List ℕ} {n k h t : ℕ} → LeadsNeeds bytes n k h t → t < 256
good_byte {n = n} {t = t} needs = ⊎_elim (λ (l : t < n). omega (arith, needs.table.small)) (λ (e : t ≡ no_value). omega arith) needs.good

-- ---- what is listed

module _ {bytes : List ℕ} {n k s e a : ℕ} {out : List ℕ} (needs : ListNeeds bytes n k s e a out) where
  abbrev m : Morphism
  m = morphism_at bytes n k

  -- the tests of the automaton and of the code
  abbrev listed : ℕ → Bool
  listed t = transition m (state_of m s e) a (state_of m t e)

  abbrev found : ℕ → Bool
  found = leads_at bytes n k s (join_at bytes n k s e) (image_at bytes n a)

  here : State m (value_of s) e
  here = found_state m s e needs.state

  -- s and e are numbers of values
  pub state_good : GoodNumber n s × GoodNumber n e
  state_good = (not_stray n s (λ o. stray_outside {m = m} o here.value), inl here.idempotent.inside)

  -- the values of e and of the letter's element
  element_value : {x : ℕ} → x < n → value_of x ≡ element x
  element_value h = value_element (λ q. omega (arith, needs.table.small))

  -- h(a)t = s or h(a)t = se, by numbers
  leads_found : {t : ℕ} → GoodNumber n t → leads m (value_of s) e a (value_of t) ≡ found t
  unfolding leads letter_then then_cycle leads_at join_at
  leads_found {t} g =
      let image = needs.table.images a needs.letter in
      let inside-e = here.idempotent.inside in
      let read : Inside m (join m (element (image_at bytes n a)) (value_of t)) = join_inside needs.lawful (inside_element image) (good_inside needs.table.small g) in
      let turned : Inside m (join m (value_of s) (element e)) = join_inside needs.lawful here.value (inside_element inside-e) in
      rw (element_value image, element_value inside-e)
      (ap₂ ◌||◌ (number_test needs.table.small read s)
      (ap (λ (y : Value). eqb (value_number (join m (element (image_at bytes n a)) (value_of t))) (value_number y)) (sym (value_of_number needs.table.small turned))
      ∙ number_test needs.table.small read (number_for (join m (value_of s) (element e)))))

  listed_good : {t : ℕ} → GoodNumber n t → listed t ≡ found t
  listed_good {t} g =
      transition_at_lem m (value_of s) (value_of t) a here.idempotent.inside
      ∙ rw (needs.state, T_true (is_state m (value_of t) e) (state_test (record { value = good_inside needs.table.small g; idempotent = here.idempotent })), eq-eqb e e refl)
      (leads_found g)

  listed_none : {t : ℕ} → n ≤ t → t < 64 → listed t ≡ false
  listed_none {t} low high =
      transition_at_lem m (value_of s) (value_of t) a here.idempotent.inside
      ∙ rw (needs.state, T_false (is_state m (value_of t) e) (λ q. stray_outside (record { no_element = low; not_none = λ z. omega arith }) (test_state (value_of t) e q).value))

  -- the elements that are led to, and 64 behind them
  pub all_listed : select_from n 0 found (λ t. t) ++ if_any found no_value ≡ successors_of m s e a
  unfolding successors_of select
  all_listed =
      let small = needs.table.small in
      let past : n + (64 - n + 1) ≡ successors_size = omega arith in
      let last : 0 + n + (64 - n) ≡ no_value = omega arith in
      ap₂ ◌++◌ (select_same found listed 0 n (λ x low high. sym (listed_good (inl (omega arith)))))
      (sym (ap₂ ◌++◌ (select_same listed (λ x. false) (0 + n) (64 - n) (λ x low high. listed_none (omega arith) (omega arith)) ∙ select_nothing (64 - n) (0 + n))
      (ap (λ (i : ℕ). select_from 1 i listed (λ t. t)) last ∙ select_one listed no_value ∙ ap (λ (b : Bool). cond b (no_value ∷ []) []) (listed_good (inr refl)))))
      ∙ ap (λ (l : List ℕ). select_from n 0 listed (λ t. t) ++ l) (sym (select_more listed (0 + n) (64 - n) 1))
      ∙ sym (select_more listed 0 n (64 - n + 1)) ∙ ap (λ (i : ℕ). select_from i 0 listed (λ t. t)) past

-- ---- the list so far

-- the first t elements are looked at
pub record ListSoFar (bytes : List ℕ) (n k s turned h : ℕ) (before current : List ℕ) (next t : ℕ) : Type 0 where
  pub table : Table bytes n k
  pub element : h < n
  pub room : successors_size ≤ length before
  pub within : t ≤ n
  pub written : Written before 0 (select_from t 0 (leads_at bytes n k s turned h) (λ x. x)) current next

-- none is
pub list_start : {bytes : List ℕ} {n k s e a h : ℕ} {before : List ℕ} (turned : ℕ) → ListNeeds bytes n k s e a before → h ≡ image_at bytes n a
    → ListSoFar bytes n k s turned h before before 0 0
unfolding select_from
list_start {n = n} {a = a} turned needs image = record {
  table = needs.table;
  element = subst (λ (x : ℕ). x < n) (sym image) (needs.table.images a needs.letter);
  room = needs.room;
  within = omega arith;
  written = written_none _ 0;
}

module _ {bytes : List ℕ} {n k s turned h : ℕ} {before current : List ℕ} {next t : ℕ} (so : ListSoFar bytes n k s turned h before current next t) where
  abbrev led : ℕ → Bool
  led = leads_at bytes n k s turned h

  -- no more than t are listed
  short : length (select_from t 0 led (λ x. x)) ≤ t
  short = (select_listed led 0 t).short

  list_length : length current ≡ length before
  list_length = written_length so.written (omega (arith, short, so.within, so.room, so.table.small))

  pub list_needs : {x : ℕ} → GoodNumber n x → SuccessorNeeds bytes n k h x current next
  list_needs g = record {
    needs = record { table = so.table; element = so.element; good = g };
    room = omega (arith, so.written.ends, short, so.within, so.room, so.table.small, list_length);
  }

  more_room : (x : ℕ) → 0 + (length (select_from t 0 led (λ x. x)) + length (if_any led x)) ≤ length before
  more_room x = omega (arith, short, any_short led x, so.within, so.room, so.table.small)

  module _ (x : ℕ) {after : List ℕ} {end : ℕ} (w : Written current next (successor_if_any bytes n k s turned h x) after end) where
    -- one more behind what is listed
    list_more : Written before 0 (select_from t 0 led (λ x. x) ++ if_any led x) after end
    unfolding successor_if_any
    list_more = written_more so.written w (more_room x)

    pub list_kept : length after ≡ length before
    list_kept = written_length list_more (omega (arith, more_room x, length-append (select_from t 0 led (λ x. x)) (if_any led x)))

  pub list_next : t < n → {after : List ℕ} {end : ℕ} → Written current next (successor_if_any bytes n k s turned h t) after end
      → ListSoFar bytes n k s turned h before after end (t + 1)
  list_next l {after} {end} w = record {
    table = so.table;
    element = so.element;
    room = so.room;
    within = omega arith;
    written = subst (λ (x : List ℕ). Written before 0 x after end)
        (ap (λ (x : List ℕ). select_from t 0 led (λ x. x) ++ x) (sym (ap (λ (i : ℕ). select_from 1 i led (λ x. x)) (zero-add t) ∙ select_one led t)) ∙ sym (select_more led 0 t 1))
        (list_more t w);
  }

  -- 64 behind all elements
  pub list_last : n ≤ t → {after : List ℕ} {end : ℕ} → Written current next (successor_if_any bytes n k s turned h no_value) after end
      → Written before 0 (select_from n 0 led (λ x. x) ++ if_any led no_value) after end
  list_last l {after} {end} w =
      subst (λ (x : ℕ). Written before 0 (select_from x 0 led (λ x. x) ++ if_any led no_value) after end) (let e : t ≡ n = omega (arith, so.within) in e) (list_more no_value w)

-- the whole list
pub list_written : {bytes : List ℕ} {n k s e a : ℕ} {before current after : List ℕ} {turned h next t end : ℕ} → ListNeeds bytes n k s e a before
    → h ≡ image_at bytes n a → turned ≡ join_at bytes n k s e → ListSoFar bytes n k s turned h before current next t → n ≤ t
    → Written current next (successor_if_any bytes n k s turned h no_value) after end → AtFront (successors_of (morphism_at bytes n k) s e a) before after end
list_written {bytes} {n} {k} {s} {before = before} {after = after} {end = end} needs image turned so l w =
    front_same (all_listed needs)
    (written_at_front (subst (λ (f : ℕ → Bool). Written before 0 (select_from n 0 f (λ x. x) ++ if_any f no_value) after end) (ap₂ (λ (h t : ℕ). leads_at bytes n k s t h) image turned) (list_last so l w)))
