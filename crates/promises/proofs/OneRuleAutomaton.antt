-- Two answers of a call on a rule's automaton, for the same rule, state, least grade or letter and buffers, are one, and leave out and scratch
-- alike. Assumes nothing.
use Prim.Native.Nat.{ℕ}
use native.Mathlib.Omega.{arith}
use mathlib.Core.Path.{◌≡◌, refl, sym, ap, ◌∙◌}
use mathlib.Core.List.{List}
use Rattle.answer.proofs.Order.{AllSingle, single_nil, single_at, single_cons, single_append, one_verdict}
use Rattle.answer.proofs.Verdicts.{same_refusal, not_passed}
use Rattle.theory.specs.Rules.{Morphism, Marking}
use Rattle.formats.specs.RuleFile.{morphism_of, marking_of}
use Rattle.formats.proofs.Buffers.{buffer_single}
use Rattle.formats.proofs.Front.{one_length, one_buffer}
use Rattle.formats.proofs.OneVerdict.{checked_single}
use Rattle.promises.specs.declared.StateKind.{StateKind}
use Rattle.promises.specs.declared.StateKind.TheVariants.{Plain, Initial, Final, Refused as Kind-refused}
use Rattle.promises.specs.declared.SuccessorList.{SuccessorList}
use Rattle.promises.specs.declared.SuccessorList.TheVariants.{Listed, Refused as Successors-refused}
use Rattle.promises.specs.Moves.{LoneUnknownLetterAt}
use Rattle.promises.specs.RuleAutomaton.{LeastOutOfRangeAt, NoSuchStateAt, kind_checks, successor_checks, kind_verdict, KindAnswer, KindPromise, successors_verdict, SuccessorsAnswer, SuccessorsPromise}

-- ---- a state's kind

-- each check fails at one place at most
kind_single : (bytes : List ℕ) (s e least : ℕ) (entry : List ℕ) → AllSingle (kind_checks bytes s e least entry)
kind_single bytes s e least entry =
    single_append (checked_single 1 bytes entry)
    (single_cons (single_at (λ place (a : LeastOutOfRangeAt _ place). a.is_place)) (single_cons (single_at (λ place (a : NoSuchStateAt _ _ _ place). a.is_place)) single_nil))

module _ (m : Morphism) (marks : Marking) (s e least : ℕ) where
  -- the kinds have different numbers
  same_kind : (a b : StateKind) → KindAnswer m marks s e least a → KindAnswer m marks s e least b → kind_verdict a ≡ kind_verdict b → a ≡ b
  same_kind Plain Plain p q v = refl
  same_kind Plain Initial p q v = absurd (let z : ◌≡◌ {A = ℕ} 0 1 = sym p ∙ q in omega arith)
  same_kind Plain Final p q v = absurd (let z : ◌≡◌ {A = ℕ} 0 2 = sym p ∙ q in omega arith)
  same_kind Plain (Kind-refused r i place) p q v = absurd (not_passed (sym v))
  same_kind Initial Plain p q v = absurd (let z : ◌≡◌ {A = ℕ} 1 0 = sym p ∙ q in omega arith)
  same_kind Initial Initial p q v = refl
  same_kind Initial Final p q v = absurd (let z : ◌≡◌ {A = ℕ} 1 2 = sym p ∙ q in omega arith)
  same_kind Initial (Kind-refused r i place) p q v = absurd (not_passed (sym v))
  same_kind Final Plain p q v = absurd (let z : ◌≡◌ {A = ℕ} 2 0 = sym p ∙ q in omega arith)
  same_kind Final Initial p q v = absurd (let z : ◌≡◌ {A = ℕ} 2 1 = sym p ∙ q in omega arith)
  same_kind Final Final p q v = refl
  same_kind Final (Kind-refused r i place) p q v = absurd (not_passed (sym v))
  same_kind (Kind-refused r i place) Plain p q v = absurd (not_passed v)
  same_kind (Kind-refused r i place) Initial p q v = absurd (not_passed v)
  same_kind (Kind-refused r i place) Final p q v = absurd (not_passed v)
  same_kind (Kind-refused r i place) (Kind-refused r' i' place') p q v = same_refusal Kind-refused r r' i i' place place' v

module _ {bytes : List ℕ} {s e least : ℕ} {entry exit exit' : List ℕ} where
  pub one_kind : (answer answer' : StateKind) → KindPromise bytes s e least entry exit answer → KindPromise bytes s e least entry exit' answer' → answer ≡ answer'
  one_kind answer answer' p q =
      same_kind (morphism_of bytes) (marking_of bytes) s e least answer answer' p.answered q.answered (one_verdict (kind_single bytes s e least entry) p.refusal q.refusal)

  pub one_kind_scratch : {answer answer' : StateKind} → KindPromise bytes s e least entry exit answer → KindPromise bytes s e least entry exit' answer' → exit ≡ exit'
  one_kind_scratch p q = p.scratch ∙ sym q.scratch

-- ---- the states that a state leads to

successors_single : (bytes : List ℕ) (s e letter : ℕ) (before entry : List ℕ) → AllSingle (successor_checks bytes s e letter before entry)
successors_single bytes s e letter before entry =
    buffer_single
    (single_append (checked_single 1 bytes entry)
    (single_cons (single_at (λ place (a : NoSuchStateAt _ _ _ place). a.is_place)) (single_cons (single_at (λ place (a : LoneUnknownLetterAt _ _ place). a.is_place)) single_nil)))

module _ (m : Morphism) (s e letter : ℕ) (before : List ℕ) {after after' : List ℕ} where
  same_successors : (a b : SuccessorList) → SuccessorsAnswer m s e letter before after a → SuccessorsAnswer m s e letter before after' b → successors_verdict a ≡ successors_verdict b
      → (a ≡ b) × (after ≡ after')
  same_successors (Listed c) (Listed c') p q v = (ap Listed (one_length p q refl), one_buffer p q refl)
  same_successors (Listed c) (Successors-refused r i place) p q v = absurd (not_passed (sym v))
  same_successors (Successors-refused r i place) (Listed c) p q v = absurd (not_passed v)
  same_successors (Successors-refused r i place) (Successors-refused r' i' place') p q v = (same_refusal Successors-refused r r' i i' place place' v, p ∙ sym q)

module _ {bytes : List ℕ} {s e letter : ℕ} {before after after' entry exit exit' : List ℕ} where
  pub one_list : (answer answer' : SuccessorList) → SuccessorsPromise bytes s e letter before after entry exit answer
      → SuccessorsPromise bytes s e letter before after' entry exit' answer' → (answer ≡ answer') × (after ≡ after')
  one_list answer answer' p q =
      same_successors (morphism_of bytes) s e letter before answer answer' p.answered q.answered
      (one_verdict (successors_single bytes s e letter before entry) p.refusal q.refusal)

  pub one_list_scratch : {answer answer' : SuccessorList} → SuccessorsPromise bytes s e letter before after entry exit answer
      → SuccessorsPromise bytes s e letter before after' entry exit' answer' → exit ≡ exit'
  one_list_scratch p q = p.scratch ∙ sym q.scratch
