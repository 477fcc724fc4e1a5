-- What a word of events makes of a monitor by a checked table, and its checks. Assumes nothing.
use Rattle.std.specs.Prelude.{Option, Some, None}
use Prim.Native.Nat.{ℕ, zero, suc, ◌+◌, ◌-◌, ◌≤◌, ◌<◌}
use mathlib.Core.Path.{◌≡◌, refl, sym, ap, ◌∙◌}
use mathlib.Core.Logic.{inl}
use mathlib.Core.List.{List, [], ◌∷◌}
use native.Mathlib.Omega.{arith}
use lib.ListN.{length, get_or, take, drop}
use Rattle.std.proofs.lemmas.Grind.{common_steps}
use Rattle.answer.specs.declared.Refusal.TheVariants.{UnknownLetter, WordLength}
use Rattle.answer.specs.Checks.{refused, FirstFailure}
use Rattle.answer.proofs.Order.{first_fails}
use Rattle.theory.specs.Words.{Over}
use Rattle.theory.proofs.Words.{over_at, over_from}
use Rattle.formats.proofs.Tables.{Table}
use Rattle.formats.specs.Table.{morphism_at, image_at, product_at}
use Rattle.section_bounds.specs.Answers.{FoundOut}
use Rattle.lasso_words.proofs.Lassos.{foreign_at, letters_below}
use Rattle.promises.specs.declared.Monitor.{Monitor}
use Rattle.promises.specs.Monitor.{no_value}
use Rattle.promises.specs.Moves.{after_event}
use Rattle.promises.specs.EventWords.{longest_log, LogTooLongAt, log_checks, after_word}
use Rattle.promises.proofs.EventWords.{log_foreign}
use Rattle.monitor_state.specs.Ready.{GoodMonitor}
use Rattle.monitor_state.proofs.Numbers.{join_left, join_both}
use Rattle.monitor_steps.specs.Steps.{Along, GoodLog}
use Rattle.rule_table.proofs.Facts.{product_below}
use Rattle.monitor_steps.proofs.Moving.{image_below, after_event_is}

-- the checks
module _ (k : ℕ) (w : List ℕ) where
  pub log_long : longest_log < length w → (input : ℕ) → FirstFailure (log_checks input k w) (refused WordLength input 0)
  log_long h input = first_fails (record { refusal = WordLength; input = input; Fails = LogTooLongAt w }) (record { above = h; is_place = refl })

  module _ (short : length w ≤ longest_log) (answer : Option ℕ) (known : FoundOut w 0 (length w) (λ i. 0) (λ i. k) answer) where
    pub log_found : {i : ℕ} → answer ≡ Some i → (input : ℕ) → FirstFailure (log_checks input k w) (refused UnknownLetter input i)
    log_found e input = log_foreign input k w short (foreign_at k w answer known e)

    pub log_good : answer ≡ None → GoodLog k w
    log_good e = record { short = short; over = over_from k w (letters_below k w answer known e) }

-- the letters from a place on are that one and those behind it
drop_letter : (w : List ℕ) (i : ℕ) → i < length w → drop i w ≡ get_or w i 0 ∷ drop (suc i) w
drop_letter [] i h = absurd (let z : ⊥ = omega arith in z)
drop_letter (a ∷ w) zero h = refl
drop_letter (a ∷ w) (suc i) h = drop_letter w i (omega arith)

drop_all : (w : List ℕ) (i : ℕ) → length w ≤ i → drop i w ≡ []
drop_all [] zero h = refl
drop_all [] (suc i) h = refl
drop_all (a ∷ w) zero h = absurd (let z : ⊥ = omega arith in z)
drop_all (a ∷ w) (suc i) h = drop_all w i (omega arith)

-- the letters of a word from a place on, as a slice has them
module _ (w : List ℕ) (from : ℕ) (room : from ≤ length w) where
  pub letters_many : length (take (length w - from) (drop from w)) ≡ length w - from
  letters_many = grind (arith, common_steps)

  pub letter_item : (i : ℕ) → from + i < length w → get_or (take (length w - from) (drop from w)) i 0 ≡ get_or w (from + i) 0
  letter_item i h = grind (arith, common_steps)

-- what is done of a word: the other letters make of the value what all make of the first one
pub record Going (bytes : List ℕ) (n k since : ℕ) (w : List ℕ) (from value j : ℕ) : Type 0 where
  pub table : Table bytes n k
  pub over : Over k w
  pub below : value < n
  pub rest : (before : ℕ) → after_word (morphism_at bytes n k) (record { before = before; since = value }) (drop j w)
      ≡ after_word (morphism_at bytes n k) (record { before = before; since = since }) (drop from w)

-- one letter, on an element
module _ {bytes : List ℕ} {n k : ℕ} (table : Table bytes n k) where
  element_some : {s : ℕ} → s < n → s ≡ no_value → ⊥
  element_some h e = omega (arith, table.small)

  letter_taken : {s letter h next : ℕ} (before : ℕ) → letter < k → s < n → h ≡ image_at bytes n letter → next ≡ product_at bytes n s h
      → record { before = before; since = next } ≡ after_event (morphism_at bytes n k) (record { before = before; since = s }) letter
  letter_taken {s} {letter} {h} before known inside e product =
      after_event_is table known (record { before = before; since = s }) e
      (product ∙ join_both bytes n k s h (element_some inside) (element_some (image_below table known e)))

  module _ {since : ℕ} {w : List ℕ} {from : ℕ} where
    pub going_start : Over k w → since < n → Going bytes n k since w from since from
    going_start over inside = record { table = table; over = over; below = inside; rest = λ before. refl }

    pub going_letter : {value j : ℕ} → Going bytes n k since w from value j → j < length w → get_or w j 0 < k
    going_letter {j = j} g h = over_at k w g.over j h

    pub going_next : {value j h next : ℕ} → Going bytes n k since w from value j → j < length w → h ≡ image_at bytes n (get_or w j 0) → next ≡ product_at bytes n value h
        → Going bytes n k since w from next (j + 1)
    unfolding after_word
    going_next {value} {j} {h} {next} g l e product =
        let known = going_letter g l in
        let behind : j + 1 ≡ suc j = omega arith in
        record {
          table = table;
          over = g.over;
          below = product_below table g.below (image_below table known e) product;
          rest = λ before.
              ap (λ (i : ℕ). after_word (morphism_at bytes n k) (record { before = before; since = next }) (drop i w)) behind
              ∙ ap (λ (f : Monitor). after_word (morphism_at bytes n k) f (drop (suc j) w)) (letter_taken before known g.below e product)
              ∙ ap (after_word (morphism_at bytes n k) (record { before = before; since = value })) (sym (drop_letter w j l))
              ∙ g.rest before;
        }

    pub going_all : {value j : ℕ} → Going bytes n k since w from value j → length w ≤ j → Along (morphism_at bytes n k) since (drop from w) value
    unfolding after_word
    going_all {value} {j} g l = record {
      after = λ before. ap (after_word (morphism_at bytes n k) (record { before = before; since = value })) (sym (drop_all w j l)) ∙ g.rest before;
      inside = g.below;
    }

  -- a whole word
  module _ {f : Monitor} (good : GoodMonitor n f) (w : List ℕ) where
    pub no_letter : length w ≡ 0 → (f ≡ after_word (morphism_at bytes n k) f w) × GoodMonitor n f
    unfolding after_word
    no_letter e = (go w e, good)
      where
        go : (v : List ℕ) → length v ≡ 0 → f ≡ after_word (morphism_at bytes n k) f v
        go [] z = refl
        go (a ∷ v) z = absurd (let no_way : ⊥ = omega arith in no_way)

    taken_good : {next : ℕ} → next < n → GoodMonitor n (record { before = f.before; since = next })
    taken_good h = record { before_good = good.before_good; since_good = inl h }

    -- from none
    pub word_from_none : {h next : ℕ} → f.since ≡ no_value → 0 < length w → Over k w → h ≡ image_at bytes n (get_or w 0 0) → Along (morphism_at bytes n k) h (drop 1 w) next
        → (record { before = f.before; since = next } ≡ after_word (morphism_at bytes n k) f w) × GoodMonitor n (record { before = f.before; since = next })
    unfolding after_word
    word_from_none {h} none some over e a = (
      a.after f.before
          ∙ ap (λ (g : Monitor). after_word (morphism_at bytes n k) g (drop 1 w)) (after_event_is table (over_at k w over 0 some) f e (join_left bytes n k f.since h none))
          ∙ ap (after_word (morphism_at bytes n k) f) (sym (drop_letter w 0 some)),
      taken_good a.inside,
    )

    -- from an element
    pub word_from_element : {next : ℕ} → Along (morphism_at bytes n k) f.since (drop 0 w) next
        → (record { before = f.before; since = next } ≡ after_word (morphism_at bytes n k) f w) × GoodMonitor n (record { before = f.before; since = next })
    word_from_element a = (a.after f.before, taken_good a.inside)
