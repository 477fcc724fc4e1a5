-- Each exported call on a board leaves one number and one of every lent byte. Assumes nothing.
use Prim.Native.Nat.{ℕ}
use mathlib.Core.Path.{◌≡◌, sym, ap, ◌∙◌}
use mathlib.Core.Logic.{⊎_elim}
use mathlib.Core.List.{List}
use lib.ListN.{length}
use Rattle.finite.proofs.Numbers.{le_or_lt}
use Rattle.board_promises.specs.declared.Board.{Board}
use Rattle.board_promises.specs.declared.Posted.{Posted}
use Rattle.board_promises.proofs.OneAnswer.{board_one_answers}
use Rattle.board_state.specs.State.{state_size, board_of, state_after}
use Rattle.packing_monitors.specs.Monitors.{pack_notice}
use Rattle.exports.specs.BoardExports.{StateTooShort, StatePosted, ExportedBoardCall}
use Rattle.unpacking.specs.BoardTheorem.{ExportedBoardOneAnswers}

-- two posted answers that are one leave one state and one number
module _ {Promise Promise' : Board → Posted → Type 0} {state x y : List ℕ} {r r' : ℕ} (p : StatePosted Promise state x r) (q : StatePosted Promise' state y r')
    (same : p.answer ≡ q.answer) where
  one_number : r ≡ r'
  one_number = p.packed ∙ ap (λ (a : Posted). pack_notice a.board a.notice) same ∙ sym q.packed

  one_state : x ≡ y
  one_state = p.state_left ∙ ap (λ (a : Posted). state_after state a.board a.notice) same ∙ sym q.state_left

-- a call by whether the state is long enough
module _ {Promise Promise' : Board → Posted → Type 0} {Kept Kept' Same : Type 0} {state x y : List ℕ} {r r' : ℕ} where
  by_length : ExportedBoardCall Promise Kept state x r → ExportedBoardCall Promise' Kept' state y r'
      → (StateTooShort Kept r → StateTooShort Kept' r' → Same) → (StatePosted Promise state x r → StatePosted Promise' state y r' → Same) → Same
  by_length a b short long = ⊎_elim (λ h. long (a.long h) (b.long h)) (λ h. short (a.short h) (b.short h)) (le_or_lt state_size (length state))

pub exported_board_one_answers : ExportedBoardOneAnswers
exported_board_one_answers = record {
  empty = λ state. record {
    one = λ x y r r' a b.
        by_length a b (λ p q. (p.packed ∙ sym q.packed, p.kept ∙ sym q.kept))
        (λ p q. let same = p.promise ∙ sym q.promise in (one_number p q same, one_state p q same));
  };
  enter = λ state name file files entry. record {
    one = λ x y r r' a b.
        by_length a b
        (λ p q. (
          p.packed ∙ sym q.packed,
          λ i. ((p.kept.0 ∙ sym q.kept.0) i, ((p.kept.1 ∙ sym q.kept.1) i, (p.kept.2 ∙ sym q.kept.2) i)),
        ))
        (λ p q.
        let one = (board_one_answers.enter (board_of state) name file files entry).one x.1 y.1 p.answer q.answer p.promise q.promise in
        (one_number p q one.0, λ i. (one_state p q one.0 i, one.1 i)));
  };
  leave = λ state name files entry. record {
    one = λ x y r r' a b.
        by_length a b (λ p q. (p.packed ∙ sym q.packed, λ i. ((p.kept.0 ∙ sym q.kept.0) i, (p.kept.1 ∙ sym q.kept.1) i)))
        (λ p q.
        let one = (board_one_answers.leave (board_of state) name files entry).one x.1 y.1 p.answer q.answer p.promise q.promise in
        (one_number p q one.0, λ i. (one_state p q one.0 i, one.1 i)));
  };
  event = λ state letter files entry. record {
    one = λ x y r r' a b.
        by_length a b (λ p q. (p.packed ∙ sym q.packed, λ i. ((p.kept.0 ∙ sym q.kept.0) i, (p.kept.1 ∙ sym q.kept.1) i)))
        (λ p q.
        let one = (board_one_answers.event (board_of state) letter files entry).one x.1 y.1 p.answer q.answer p.promise q.promise in
        (one_number p q one.0, λ i. (one_state p q one.0 i, one.1 i)));
  };
  mark = λ state files entry. record {
    one = λ x y r r' a b.
        by_length a b (λ p q. (p.packed ∙ sym q.packed, λ i. ((p.kept.0 ∙ sym q.kept.0) i, (p.kept.1 ∙ sym q.kept.1) i)))
        (λ p q.
        let one = (board_one_answers.mark (board_of state) files entry).one x.1 y.1 p.answer q.answer p.promise q.promise in
        (one_number p q one.0, λ i. (one_state p q one.0 i, one.1 i)));
  };
}
