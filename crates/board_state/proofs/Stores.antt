-- The bytes of a board written name by name, three at a time. Assumes nothing.
use Prim.Native.Nat.{ℕ, ◌+◌, ◌*◌, ◌%◌, ◌-◌, ◌≤◌, ◌<◌}
use mathlib.Core.Path.{◌≡◌, refl, sym, ap, ◌∙◌}
use mathlib.Core.Bool.{false}
use mathlib.Core.List.{List}
use native.Mathlib.Omega.{arith}
use native.Mathlib.Nat.{add-sub_of_le}
use lib.ListN.{length, get_or, set, drop, length-set, length-append, length-drop, get_or-append}
use lib.Seq.{get_or-set_same, get_or-set_other, get_or-append-add, get_or-drop, ext_get_or}
use Rattle.finite.proofs.Numbers.{Compared, lesser, level, greater, compared_numbers}
use Rattle.board_promises.specs.declared.Board.{Board}
use Rattle.board_promises.specs.Boards.{board_names_count}
use Rattle.board_state.specs.State.{state_size, flag_byte, board_state_of, state_with}
use Rattle.board_state.proofs.Filled.{each_below}

-- the bytes of a name
module _ (b : Board) where
  pub flag_at : (i : ℕ) → i < board_names_count → get_or (board_state_of b) (3 * i) 0 ≡ flag_byte (get_or b.present i false)
  flag_at = each_below (λ (i : ℕ). get_or (board_state_of b) (3 * i) 0 ≡ flag_byte (get_or b.present i false)) refl refl refl refl refl refl refl refl

  pub before_at : (i : ℕ) → i < board_names_count → get_or (board_state_of b) (3 * i + 1) 0 ≡ get_or b.before i 0 % 256
  before_at = each_below (λ (i : ℕ). get_or (board_state_of b) (3 * i + 1) 0 ≡ get_or b.before i 0 % 256) refl refl refl refl refl refl refl refl

  pub since_at : (i : ℕ) → i < board_names_count → get_or (board_state_of b) (3 * i + 2) 0 ≡ get_or b.since i 0 % 256
  since_at = each_below (λ (i : ℕ). get_or (board_state_of b) (3 * i + 2) 0 ≡ get_or b.since i 0 % 256) refl refl refl refl refl refl refl refl

-- three stores in a row
module _ (s : List ℕ) (k x y z : ℕ) where
  abbrev pub three : List ℕ
  three = set (set (set s k x) (k + 1) y) (k + 2) z

  three_length : length three ≡ length s
  three_length = length-set (set (set s k x) (k + 1) y) (k + 2) z ∙ length-set (set s k x) (k + 1) y ∙ length-set s k x

  three_other : (j : ℕ) → (j ≡ k → ⊥) → (j ≡ k + 1 → ⊥) → (j ≡ k + 2 → ⊥) → get_or three j 0 ≡ get_or s j 0
  three_other j n1 n2 n3 =
      get_or-set_other (set (set s k x) (k + 1) y) (k + 2) j z 0 n3 ∙ get_or-set_other (set s k x) (k + 1) j y 0 n2 ∙ get_or-set_other s k j x 0 n1

  module _ (room : k + 2 < length s) where
    three_first : get_or three k 0 ≡ x
    three_first =
        get_or-set_other (set (set s k x) (k + 1) y) (k + 2) k z 0 (λ e. omega arith) ∙ get_or-set_other (set s k x) (k + 1) k y 0 (λ e. omega arith)
        ∙ get_or-set_same s k x 0 (omega arith)

    three_second : get_or three (k + 1) 0 ≡ y
    three_second =
        get_or-set_other (set (set s k x) (k + 1) y) (k + 2) (k + 1) z 0 (λ e. omega arith)
        ∙ get_or-set_same (set s k x) (k + 1) y 0 (omega (arith, length-set s k x))

    three_third : get_or three (k + 2) 0 ≡ z
    three_third = get_or-set_same (set (set s k x) (k + 1) y) (k + 2) z 0 (omega (arith, length-set (set s k x) (k + 1) y, length-set s k x))

-- where a byte stands, seen from a name
data Place (i j : ℕ) : Type 0 where
  earlier : j < 3 * i → Place i j
  first : j ≡ 3 * i → Place i j
  second : j ≡ 3 * i + 1 → Place i j
  third : j ≡ 3 * i + 2 → Place i j
  later : 3 * (i + 1) ≤ j → Place i j

place : (i j : ℕ) → Place i j
place i j = from_first (compared_numbers j (3 * i))
  where
    from_third : Compared j (3 * i + 2) → 3 * i + 1 < j → Place i j
    from_third (lesser l) h = absurd (omega arith)
    from_third (level e) h = third e
    from_third (greater l) h = later (omega arith)

    from_second : Compared j (3 * i + 1) → 3 * i < j → Place i j
    from_second (lesser l) h = absurd (omega arith)
    from_second (level e) h = second e
    from_second (greater l) h = from_third (compared_numbers j (3 * i + 2)) l

    from_first : Compared j (3 * i) → Place i j
    from_first (lesser l) = earlier l
    from_first (level e) = first e
    from_first (greater l) = from_second (compared_numbers j (3 * i + 1)) l

-- the bytes of the first names are written, the others stay
pub record Written (b : Board) (state₀ state : List ℕ) (count : ℕ) : Type 0 where
  pub same_length : length state ≡ length state₀
  pub front : (j : ℕ) → j < 3 * count → get_or state j 0 ≡ get_or (board_state_of b) j 0
  pub rest : (j : ℕ) → 3 * count ≤ j → get_or state j 0 ≡ get_or state₀ j 0

pub written_none : (b : Board) (state : List ℕ) → Written b state state 0
written_none b state = record { same_length = refl; front = λ j h. absurd (omega arith); rest = λ j h. refl }

module _ {b : Board} {state₀ state : List ℕ} {i : ℕ} (w : Written b state₀ state i) (room : state_size ≤ length state₀) where
  pub written_more : {x y z : ℕ} → i < board_names_count → x ≡ flag_byte (get_or b.present i false) → y ≡ get_or b.before i 0 % 256 → z ≡ get_or b.since i 0 % 256
      → Written b state₀ (three state (3 * i) x y z) (i + 1)
  written_more {x} {y} {z} h ex ey ez =
      record {
        same_length = three_length state (3 * i) x y z ∙ w.same_length;
        front = λ j less. at j (place i j) less;
        rest = λ j more. three_other state (3 * i) x y z j (λ e. omega arith) (λ e. omega arith) (λ e. omega arith) ∙ w.rest j (omega arith);
      }
    where
      fits : 3 * i + 2 < length state
      fits = omega (arith, w.same_length)

      at : (j : ℕ) → Place i j → j < 3 * (i + 1) → get_or (three state (3 * i) x y z) j 0 ≡ get_or (board_state_of b) j 0
      at j (earlier l) less = three_other state (3 * i) x y z j (λ e. omega arith) (λ e. omega arith) (λ e. omega arith) ∙ w.front j l
      at j (first e) less =
          ap (λ (k : ℕ). get_or (three state (3 * i) x y z) k 0) e ∙ three_first state (3 * i) x y z fits ∙ ex ∙ sym (flag_at b i h)
          ∙ ap (λ (k : ℕ). get_or (board_state_of b) k 0) (sym e)
      at j (second e) less =
          ap (λ (k : ℕ). get_or (three state (3 * i) x y z) k 0) e ∙ three_second state (3 * i) x y z fits ∙ ey ∙ sym (before_at b i h)
          ∙ ap (λ (k : ℕ). get_or (board_state_of b) k 0) (sym e)
      at j (third e) less =
          ap (λ (k : ℕ). get_or (three state (3 * i) x y z) k 0) e ∙ three_third state (3 * i) x y z fits ∙ ez ∙ sym (since_at b i h)
          ∙ ap (λ (k : ℕ). get_or (board_state_of b) k 0) (sym e)
      at j (later l) less = absurd (omega arith)

  -- with the lowest grade behind them
  pub written_all : {z : ℕ} → i ≡ board_names_count → z ≡ b.lowest % 256 → set state 24 z ≡ state_with state₀ b
  written_all {z} e ez = ext_get_or 0 (set state 24 z) (state_with state₀ b) lengths (λ j less. at j (compared_numbers j 24))
    where
      lengths : length (set state 24 z) ≡ length (state_with state₀ b)
      lengths =
          length-set state 24 z ∙ w.same_length ∙ sym (add-sub_of_le room)
          ∙ sym (length-append (board_state_of b) (drop state_size state₀) ∙ ap (λ (k : ℕ). 25 + k) (length-drop state_size state₀))

      reach : (j : ℕ) → 24 < j → 25 + (j - 25) ≡ j
      reach j l = add-sub_of_le (let h : 25 ≤ j = l in h)

      at : (j : ℕ) → Compared j 24 → get_or (set state 24 z) j 0 ≡ get_or (state_with state₀ b) j 0
      at j (lesser l) =
          get_or-set_other state 24 j z 0 (λ same. omega arith) ∙ w.front j (omega arith) ∙ sym (get_or-append (board_state_of b) (drop state_size state₀) 0 j (omega arith))
      at j (level same) =
          ap (λ (k : ℕ). get_or (set state 24 z) k 0) same ∙ get_or-set_same state 24 z 0 (omega (arith, w.same_length)) ∙ ez
          ∙ ap (λ (k : ℕ). get_or (state_with state₀ b) k 0) (sym same)
      at j (greater l) =
          get_or-set_other state 24 j z 0 (λ same. omega arith) ∙ w.rest j (omega arith) ∙ ap (λ (k : ℕ). get_or state₀ k 0) (sym (reach j l))
          ∙ sym (get_or-drop 25 state₀ (j - 25) 0) ∙ sym (get_or-append-add (board_state_of b) (drop state_size state₀) (j - 25) 0)
          ∙ ap (λ (k : ℕ). get_or (state_with state₀ b) k 0) (reach j l)
