-- What marks are asked so that they are constant along the moves between linked pairs: for each idempotent one comparison with the first of its left
-- class, and for that one a comparison for each letter. Assumes nothing.
use Rattle.std.specs.Prelude.{ℕ, ◌≤◌, ◌<◌, ◌≡◌, Bool, true, false, List, length, Option, MatchOption}
use Rattle.finite.specs.Each.{EachBelow}
use Rattle.theory.specs.Rules.{Morphism, Lawful, Marking}
use Rattle.theory.specs.Pairs.{Idempotent, Linked, Conjugate}
use Rattle.theory.proofs.Gradings.{GradedMarks}
use Rattle.conjugacy_moves.specs.Moves.{LetterElement, Returns, AnyWay}
use Rattle.conjugacy_moves.specs.Tables.{ConstantAlongMoves}
use Rattle.conjugacy_moves.proofs.FirstMoves.{first_left}
use Rattle.scratch.specs.Map.{mark_table_size, marks_from}

-- the marks of a lawful table's pairs in the first table of marks
pub record MoveNeeds (m : Morphism) (scratch : List ℕ) : Type 0 where
  pub lawful : Lawful m
  pub room : mark_table_size ≤ length scratch
  pub graded : GradedMarks m (marks_from scratch 0)

-- conjugate pairs with different marks
pub record ConjugatesDiffer (m : Morphism) (marks : Marking) : Type 0 where
  pub s : ℕ
  pub e : ℕ
  pub t : ℕ
  pub f : ℕ
  pub conjugate : Conjugate m s e t f
  pub differ : marks s e ≡ marks t f → ⊥

-- yes only where the marks agree as is asked, and no only where they differ on conjugate pairs
pub record AgreeAnswer (m : Morphism) (marks : Marking) (Agree : Type 0) (answer : Bool) : Type 0 where
  pub agree : answer ≡ true → Agree
  pub differ : answer ≡ false → ConjugatesDiffer m marks

-- z is an element with y·z = e
pub record Way (m : Morphism) (y e z : ℕ) : Type 0 where
  pub inside : z < m.size
  pub leads : m.product y z ≡ e

-- an element z with y·z = e, or there is none
abbrev pub FirstWay : Morphism → ℕ → ℕ → Option ℕ → Type 0
FirstWay m y e found = MatchOption found (EachBelow (λ x. m.product y x ≡ e → ⊥) m.size) (Way m y e)

-- the marks of (s, e) and (s, f) are the same, for every s
pub record ColumnsAgree (m : Morphism) (marks : Marking) (e f : ℕ) : Type 0 where
  pub same : EachBelow (λ s. marks s e ≡ marks s f) m.size

-- a move by g leads from the idempotent e to f
pub record MoveTo (m : Morphism) (e g f : ℕ) : Type 0 where
  pub idempotent : Idempotent m e
  pub by_inside : g < m.size
  pub step : AnyWay m e g f

-- the marks of (s, e) and (s·g, f) are the same if (s, e) is linked
pub record StartAgrees (m : Morphism) (marks : Marking) (e g f s : ℕ) : Type 0 where
  pub same : m.product s e ≡ s → marks s e ≡ marks (m.product s g) f

-- for every s
pub record MoveAgrees (m : Morphism) (marks : Marking) (e g f : ℕ) : Type 0 where
  pub same : EachBelow (StartAgrees m marks e g f) m.size

-- where a way leads back from e·g to e, the marks agree along the move by one such way
pub record LetterAgrees (m : Morphism) (marks : Marking) (e g : ℕ) : Type 0 where
  pub some_way : (z : ℕ) → Returns m e g z → (f : ℕ) × AnyWay m e g f × MoveAgrees m marks e g f

-- the letters' moves from e
pub record LettersAgree (m : Morphism) (marks : Marking) (e : ℕ) : Type 0 where
  pub same : EachBelow (λ a. LetterAgrees m marks e (m.image a)) m.letters

-- pairs with e have the marks of those with the first idempotent of its left class; if that is e, the marks agree along the letters' moves
pub record CycleAgrees (m : Morphism) (marks : Marking) (e : ℕ) : Type 0 where
  pub by_left : (s : ℕ) → Linked m s e → marks s e ≡ marks s (first_left m e)
  pub by_letters : Idempotent m e → first_left m e ≡ e → LettersAgree m marks e

-- whether the marks are constant along the letters' moves and within left classes
abbrev pub ConstantAnswer : Morphism → Marking → Bool → Type 0
ConstantAnswer m marks answer = AgreeAnswer m marks (ConstantAlongMoves m (LetterElement m) marks) answer
