-- Marks of the second table raised along moves, in rounds: what each round keeps, and what is so where a round raises none. Assumes nothing.
use Rattle.std.specs.Prelude.{ℕ, ◌*◌, ◌≤◌, ◌<◌, ◌≡◌, Bool, true, false, List}
use Rattle.finite.specs.Each.{EachBelow}
use Rattle.theory.specs.Rules.{Morphism}
use Rattle.theory.specs.Pairs.{Idempotent}
use Rattle.theory.proofs.BestConjugates.{BestSoFar}
use Rattle.conjugacy_moves.specs.Moves.{Returns, AnyWay}
use Rattle.conjugacy_moves.proofs.FirstMoves.{first_left}
use Rattle.mark_raising.specs.Tables.{first_table, second_table, highest_mark, Kept, ClosedSoFar}

-- the second table has marks of conjugates, and none is lower than the pair's own
pub record Raised (m : Morphism) (bytes : List ℕ) : Type 0 where
  pub so_far : ClosedSoFar m 0 bytes
  pub above : (s e : ℕ) → s < m.size → e < m.size → first_table bytes s e ≤ second_table bytes s e

-- a part of a round: `before` says whether a mark was raised earlier in it, and the answer whether one was by now; where none was, all is as it was, and
-- so settled as is asked
pub record RaiseAnswer (m : Morphism) (Settled : List ℕ → Type 0) (before : Bool) (entry exit : List ℕ) (answer : Bool) : Type 0 where
  pub kept : Kept m.size entry exit
  pub raised : Raised m exit
  pub unraised : answer ≡ false → (before ≡ false) × (exit ≡ entry) × Settled entry

-- no mark along the move by g from e to f is lower than the one before it: from the start s
pub record StartSettled (m : Morphism) (e g f : ℕ) (bytes : List ℕ) (s : ℕ) : Type 0 where
  pub no_lower : m.product s e ≡ s → second_table bytes s e ≤ second_table bytes (m.product s g) f

-- from every start
pub record MoveSettled (m : Morphism) (e g f : ℕ) (bytes : List ℕ) : Type 0 where
  pub starts : EachBelow (StartSettled m e g f bytes) m.size

-- along one move by g from e, if there is any
pub record LetterSettled (m : Morphism) (e g : ℕ) (bytes : List ℕ) : Type 0 where
  pub some_way : (z : ℕ) → Returns m e g z → (f : ℕ) × AnyWay m e g f × MoveSettled m e g f bytes

-- along the letters' moves from e
pub record LettersSettled (m : Morphism) (e : ℕ) (bytes : List ℕ) : Type 0 where
  pub letters : EachBelow (λ a. LetterSettled m e (m.image a) bytes) m.letters

-- between e and the first idempotent of its left class, both ways, or, where that is e, along the letters' moves
pub record CycleSettled (m : Morphism) (bytes : List ℕ) (e : ℕ) : Type 0 where
  pub by_left : Idempotent m e → (first_left m e ≡ e → ⊥) → MoveSettled m e e (first_left m e) bytes × MoveSettled m (first_left m e) (first_left m e) e bytes
  pub by_letters : Idempotent m e → first_left m e ≡ e → LettersSettled m e bytes

-- everywhere
pub record RoundSettled (m : Morphism) (bytes : List ℕ) : Type 0 where
  pub cycles : EachBelow (CycleSettled m bytes) m.size

-- rounds in a row: yes only where the last one raised no mark, so that the second table has the highest mark of each pair's conjugates
pub record RoundsAnswer (m : Morphism) (entry exit : List ℕ) (answer : Bool) : Type 0 where
  pub kept : Kept m.size entry exit
  pub raised : Raised m exit
  pub settled : answer ≡ true → BestSoFar m highest_mark (first_table exit) (m.size * m.size) (second_table exit)
