-- Two answers of the call for the same rule, limit and buffers are one, and leave blocks and scratch alike; a finished answer is that of every
-- larger limit; and the rounds done are fewer than the elements. Assumes nothing.
use Prim.Native.Nat.{ℕ, ◌+◌, ◌≤◌, ◌<◌}
use mathlib.Core.Path.{◌≡◌, refl, sym, ap₂, subst, ◌∙◌}
use mathlib.Core.Logic.{◌↔◌}
use mathlib.Core.Bool.{Bool, true, false}
use mathlib.Core.List.{List, [], ◌∷◌}
use native.Mathlib.Omega.{arith}
use lib.ListN.{length}
use Rattle.answer.specs.declared.Refusal.TheVariants.{LimitOutOfRange}
use Rattle.answer.specs.Checks.{passed, refused, FirstFailure}
use Rattle.answer.proofs.Order.{first_fails, passed_before, AllSingle, single_nil, single_at, single_cons, single_append, one_verdict}
use Rattle.answer.proofs.Verdicts.{same_refusal, not_passed}
use Rattle.finite.proofs.Tells.{tells_same, one_telling}
use Rattle.finite.proofs.Numbers.{Compared, lesser, level, greater, compared_numbers}
use Rattle.theory.specs.Rounds.{Together, Stable}
use Rattle.theory.proofs.Gradings.{one_lassos_grade}
use Rattle.minimality.proofs.Rounds.{together_carry, stable_carry}
use Rattle.minimality.proofs.Blocks.{one_blocks}
use Rattle.minimality.proofs.FirstStable.{blocks_many, blocks_at_most}
use Rattle.formats.specs.RuleFile.{elements_of, morphism_of}
use Rattle.formats.specs.Calls.{checked_checks}
use Rattle.formats.proofs.Buffers.{buffer_long, buffer_single}
use Rattle.formats.proofs.Front.{one_buffer}
use Rattle.formats.proofs.OneVerdict.{checked_single}
use Rattle.promises.specs.declared.Partition.{Partition}
use Rattle.promises.specs.declared.Partition.TheVariants.{Blocks, Refused}
use Rattle.promises.specs.Weak.{WeakAt, weak_check}
use Rattle.promises.specs.Rounds.{blocks_size, most_rounds, limit_check, LimitOutOfRangeAt, rounds_checks, partition_verdict, PartitionedTo, PartitionAnswer, RoundsPromise}

-- each check of the call fails at one place at most
pub rounds_single : (bytes : List ℕ) (limit : ℕ) (blocks scratch : List ℕ) → AllSingle (rounds_checks bytes limit blocks scratch)
rounds_single bytes limit blocks scratch =
    buffer_single (single_append (checked_single 1 bytes scratch)
    (single_cons (single_at (λ place (a : LimitOutOfRangeAt limit place). a.is_place)) (single_cons (single_at (λ place (a : WeakAt bytes place). a.is_place)) single_nil)))

-- a limit above 64 is refused by 20 where the rule passes its own checks, whether it is strong or not
pub limit_first : (bytes : List ℕ) (limit : ℕ) (blocks scratch : List ℕ) → blocks_size ≤ length blocks → FirstFailure (checked_checks 1 bytes scratch) passed → most_rounds < limit
    → FirstFailure (rounds_checks bytes limit blocks scratch) (refused LimitOutOfRange 1 0)
limit_first bytes limit blocks scratch long p above =
    buffer_long long (passed_before (checked_checks 1 bytes scratch) (limit_check limit ∷ weak_check 1 bytes ∷ []) p
    (first_fails (limit_check limit) (record { above = above; is_place = refl })))

-- two answers for one rule, whatever their limits
module _ {bytes before after after' : List ℕ} {limit limit' rounds rounds' : ℕ} {finished finished' : Bool}
    (a : PartitionedTo bytes limit before after rounds finished) (b : PartitionedTo bytes limit' before after' rounds' finished') where
  agree : (s z : ℕ) → s < elements_of bytes → z < elements_of bytes → a.grades s z ≡ b.grades s z
  agree s z hs hz = one_lassos_grade (a.graded.graded s z hs hz) (b.graded.graded s z hs hz)

  agree_back : (s z : ℕ) → s < elements_of bytes → z < elements_of bytes → b.grades s z ≡ a.grades s z
  agree_back s z hs hz = sym (agree s z hs hz)

  -- a finished answer is not the earlier one
  pub finished_not_earlier : finished ≡ true → rounds < rounds' → ⊥
  finished_not_earlier e h = b.first rounds h (stable_carry a.lawful agree rounds (a.stable.holds e))

  -- the earlier one stopped at its limit
  pub earlier_at_limit : rounds < rounds' → rounds ≡ limit
  earlier_at_limit h = go finished refl
    where
      go : (f : Bool) → finished ≡ f → rounds ≡ limit
      go true e = absurd (finished_not_earlier e h)
      go false e = a.at_limit e

  -- after as many rounds they say and leave the same
  module _ (e : rounds ≡ rounds') where
    stable_both : Stable (morphism_of bytes) a.grades rounds ↔ Stable (morphism_of bytes) b.grades rounds'
    stable_both = subst (λ (i : ℕ). Stable (morphism_of bytes) a.grades rounds ↔ Stable (morphism_of bytes) b.grades i) e
        (stable_carry a.lawful agree rounds, stable_carry a.lawful agree_back rounds)

    together_both : (s t : ℕ) → s < elements_of bytes → t < elements_of bytes
        → Together (morphism_of bytes) a.grades rounds s t ↔ Together (morphism_of bytes) b.grades rounds' s t
    together_both s t hs ht = subst (λ (i : ℕ). Together (morphism_of bytes) a.grades rounds s t ↔ Together (morphism_of bytes) b.grades i s t) e
        (together_carry a.lawful agree rounds s t hs ht, together_carry a.lawful agree_back rounds s t hs ht)

    pub same_finished : finished ≡ finished'
    same_finished = one_telling finished finished' (tells_same stable_both a.stable) b.stable

    pub same_blocks : after ≡ after'
    same_blocks = one_buffer a.written b.written (sym (one_blocks together_both a.least b.least))

-- with one limit they are after as many rounds
pub same_rounds : {bytes before after after' : List ℕ} {limit rounds rounds' : ℕ} {finished finished' : Bool} → PartitionedTo bytes limit before after rounds finished
    → PartitionedTo bytes limit before after' rounds' finished' → rounds ≡ rounds'
same_rounds {rounds = rounds} {rounds' = rounds'} a b = go (compared_numbers rounds rounds')
  where
    go : Compared rounds rounds' → rounds ≡ rounds'
    go (lesser h) = absurd (omega (arith, earlier_at_limit a b h, b.within))
    go (level e) = e
    go (greater h) = absurd (omega (arith, earlier_at_limit b a h, a.within))

-- "A larger limit never alters a finished result": neither the rounds, nor that it is finished, nor the blocks
module _ {bytes before after after' : List ℕ} {limit limit' rounds rounds' : ℕ} {finished' : Bool} (larger : limit ≤ limit')
    (a : PartitionedTo bytes limit before after rounds true) (b : PartitionedTo bytes limit' before after' rounds' finished') where
  pub larger_rounds : rounds ≡ rounds'
  larger_rounds = go (compared_numbers rounds rounds')
    where
      go : Compared rounds rounds' → rounds ≡ rounds'
      go (lesser h) = absurd (finished_not_earlier a b refl h)
      go (level e) = e
      go (greater h) = absurd (omega (arith, earlier_at_limit b a h, a.within))

  pub larger_finished : true ≡ finished'
  larger_finished = same_finished a b larger_rounds

  pub larger_blocks : after ≡ after'
  larger_blocks = same_blocks a b larger_rounds

-- "Finishing takes at most n − 1 rounds": fewer rounds than elements are done, so with a limit of n − 1 or more it is finished
module _ {bytes before after : List ℕ} {limit rounds : ℕ} {finished : Bool} (some : 1 ≤ elements_of bytes) (a : PartitionedTo bytes limit before after rounds finished) where
  pub rounds_below : rounds < elements_of bytes
  rounds_below = omega (arith, blocks_many (morphism_of bytes) a.grades rounds some a.first, blocks_at_most (morphism_of bytes) a.grades rounds)

  -- with a limit of n − 1 or more it is finished: else one round more would have more blocks than there are elements
  pub finished_within : elements_of bytes ≤ limit + 1 → finished ≡ true
  finished_within enough = go finished refl
    where
      unstable : finished ≡ false → (i : ℕ) → i < rounds + 1 → Stable (morphism_of bytes) a.grades i → ⊥
      unstable e i h s = pick (compared_numbers i rounds)
        where
          pick : Compared i rounds → ⊥
          pick (lesser l) = a.first i l s
          pick (level q) = a.stable.fails e (subst (Stable (morphism_of bytes) a.grades) q s)
          pick (greater g) = omega arith

      go : (f : Bool) → finished ≡ f → finished ≡ true
      go true e = e
      go false e =
          absurd (omega (arith, enough, a.at_limit e, blocks_many (morphism_of bytes) a.grades (rounds + 1) some (unstable e), blocks_at_most (morphism_of bytes) a.grades (rounds + 1)))

module _ (bytes : List ℕ) (limit : ℕ) (before : List ℕ) {after after' : List ℕ} where
  same_answer : (a b : Partition) → PartitionAnswer bytes limit before after a → PartitionAnswer bytes limit before after' b → partition_verdict a ≡ partition_verdict b
      → (a ≡ b) × (after ≡ after')
  same_answer (Blocks r f) (Blocks r' f') p q e = let n = same_rounds p q in (ap₂ Blocks n (same_finished p q n), same_blocks p q n)
  same_answer (Blocks r f) (Refused k i place) p q e = absurd (not_passed (sym e))
  same_answer (Refused k i place) (Blocks r f) p q e = absurd (not_passed e)
  same_answer (Refused k i place) (Refused k' i' place') p q e = (same_refusal Refused k k' i i' place place' e, p ∙ sym q)

module _ {bytes : List ℕ} {limit : ℕ} {before after after' entry exit exit' : List ℕ} where
  pub one_answer : (answer answer' : Partition) → RoundsPromise bytes limit before after entry exit answer → RoundsPromise bytes limit before after' entry exit' answer'
      → (answer ≡ answer') × (after ≡ after')
  one_answer answer answer' p q = same_answer bytes limit before answer answer' p.answered q.answered (one_verdict (rounds_single bytes limit before entry) p.refusal q.refusal)

  pub one_scratch : {answer answer' : Partition} → RoundsPromise bytes limit before after entry exit answer → RoundsPromise bytes limit before after' entry exit' answer' → exit ≡ exit'
  one_scratch p q = p.scratch ∙ sym q.scratch
