-- Bytes hold a board whole, where its values are below 256: it is read back from them as it was. What is read from bytes is such a board. Assumes
-- nothing.
use Prim.Native.Nat.{ℕ, ◌+◌, ◌*◌, ◌<◌}
use mathlib.Core.Path.{◌≡◌, refl, sym, ap, ◌∙◌, subst}
use mathlib.Core.Bool.{Bool, true, false, not}
use mathlib.Core.List.{List}
use native.Mathlib.Omega.{arith}
use native.Mathlib.Nat.{mod-eq_of_lt}
use lib.ListN.{get_or}
use lib.Dec.{eqb}
use Rattle.board_promises.specs.declared.Board.{Board}
use Rattle.board_promises.specs.Boards.{board_names_count, empty_board}
use Rattle.board_state.specs.State.{present_byte, before_byte, since_byte, board_of, flag_byte, board_state_of, state_with, ByteBoard}
use Rattle.board_state.proofs.Filled.{each_at, filled_all}
use Rattle.board_state.proofs.Stores.{flag_at, before_at, since_at}

flag_read : (there : Bool) → not (eqb (flag_byte there) 0) ≡ there
flag_read true = refl
flag_read false = refl

pub board_read : (b : Board) → ByteBoard b → board_of (board_state_of b) ≡ b
board_read b p = λ i. record { present = present i; before = before i; since = since i; lowest = lowest i }
  where
    present : (board_of (board_state_of b)).present ≡ b.present
    present =
        sym (filled_all (present_byte (board_state_of b)) false {i = board_names_count} (record {
          whole = p.whole.flags;
          done = λ j h. sym (ap (λ (byte : ℕ). not (eqb byte 0)) (flag_at b j h) ∙ flag_read (get_or b.present j false));
        }) (omega arith))

    before : (board_of (board_state_of b)).before ≡ b.before
    before =
        sym (filled_all (before_byte (board_state_of b)) 0 {i = board_names_count} (record {
          whole = p.whole.befores;
          done = λ j h. sym (before_at b j h ∙ mod-eq_of_lt (p.before_small j h));
        }) (omega arith))

    since : (board_of (board_state_of b)).since ≡ b.since
    since =
        sym (filled_all (since_byte (board_state_of b)) 0 {i = board_names_count} (record {
          whole = p.whole.sinces;
          done = λ j h. sym (since_at b j h ∙ mod-eq_of_lt (p.since_small j h));
        }) (omega arith))

    lowest : (board_of (board_state_of b)).lowest ≡ b.lowest
    lowest = mod-eq_of_lt p.lowest_small

-- from the front of longer bytes too
pub front_read : (state : List ℕ) (b : Board) → ByteBoard b → board_of (state_with state b) ≡ b
front_read state b p = board_read b p

pub empty_read : (state : List ℕ) → board_of (state_with state empty_board) ≡ empty_board
empty_read state = refl

pub read_bytes : (state : List ℕ) → ((i : ℕ) → get_or state i 0 < 256) → ByteBoard (board_of state)
read_bytes state small =
    record {
      whole = record { flags = refl; befores = refl; sinces = refl };
      before_small = λ i h. subst (λ (v : ℕ). v < 256) (sym (each_at (before_byte state) 0 i h)) (small (3 * i + 1));
      since_small = λ i h. subst (λ (v : ℕ). v < 256) (sym (each_at (since_byte state) 0 i h)) (small (3 * i + 2));
      lowest_small = small 24;
    }
