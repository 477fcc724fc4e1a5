-- Rounds until one would change nothing, or a limit is reached, end no later than at the first stable round. Assumes nothing.
use Prim.Native.Nat.{ℕ, suc, ◌+◌, ◌≤◌, ◌<◌}
use mathlib.Core.Path.{◌≡◌, refl, sym, subst, ◌∙◌}
use mathlib.Core.Bool.{Bool, true, false, not}
use mathlib.Core.Logic.{◌≢◌, by_cases}
use mathlib.Core.List.{List}
use native.Mathlib.Omega.{arith}
use borrow.Author.Tests.{not-true, not-false}
use native.Mathlib.Decide.{ℕ_discrete}
use native.Mathlib.Numerals.{add-one}
use lib.ListN.{get_or}
use Rattle.finite.specs.Tells.{Tells}
use Rattle.finite.proofs.Tells.{told_yes}
use Rattle.theory.specs.Rules.{Morphism}
use Rattle.theory.specs.Rounds.{Together, Stable}
use Rattle.minimality.proofs.Rounds.{together_sym, together_trans, together_before, same_outcomes_carry}
use Rattle.minimality.proofs.FirstStable.{blocks_many, blocks_at_most}
use Rattle.reduce_first_round.specs.Map.{outcome_of, outcome_at, BlocksAt}
use Rattle.scratch.specs.Bytes.{UnchangedOutside}
use Rattle.reduce_first_round.specs.Steps.{OutcomesWritten, BlocksWritten}
use Rattle.scratch.specs.Map.{blocks_base, next_blocks_base, numbers_base, outcomes_base}
use Rattle.reduce_rounds.specs.declared.Refined.{Refined}
use Rattle.reduce_next_round.specs.Round.{RoundSeen, TakenOver}
use Rattle.reduce_rounds.specs.Rounds.{RoundsRefined}
use Rattle.scratch.proofs.Unchanged.{unchanged_none, unchanged_both, unchanged_wider}
use Rattle.reduce_first_round.proofs.OutcomeBytes.{outcome_below}
use Rattle.reduce_first_round.proofs.BlockBytes.{least_carry, least_unique, least_at, blocks_carry, blocks_moved, bytes_related, related_bytes}

-- the blocks still stand when a round was looked at
seen_blocks : {m : Morphism} {R : ℕ → ℕ → Type 0} {entry exit : List ℕ} {answer : Bool} → m.size ≤ 64 → BlocksAt m.size R entry blocks_base → RoundSeen m entry exit answer
    → BlocksAt m.size R exit blocks_base
seen_blocks small b r = blocks_moved (λ s h. r.kept.before (blocks_base + s) (omega arith)) b

module _ {m : Morphism} {acc : ℕ → ℕ → ℕ} {i : ℕ} {entry exit : List ℕ} {answer : Bool} (small : m.size ≤ 64) (b : BlocksAt m.size (Together m acc i) entry blocks_base)
    (r : RoundSeen m entry exit answer) where
  -- a round that would change nothing is stable
  pub unchanged_is_stable : answer ≡ false → Stable m acc i
  unchanged_is_stable e = record {
    kept = λ s t hs ht q.
        bytes_related (r.next acc i b) (together_sym m acc (suc i)) (together_trans m acc (suc i)) s t hs ht
        (same s hs ∙ related_bytes (seen_blocks small b r) (together_sym m acc i) (together_trans m acc i) s t hs ht q ∙ sym (same t ht));
  }
    where
      same : (s : ℕ) → s < m.size → get_or exit (next_blocks_base + s) 0 ≡ get_or exit (blocks_base + s) 0
      same s h = by_cases (ℕ_discrete _ _) (λ q. q) (λ g. absurd (r.changes.fails e (record { at = s; below = h; differs = g })))

  -- one that would change a block is not
  pub changed_not_stable : answer ≡ true → Stable m acc i → ⊥
  changed_not_stable e st =
      let d = r.changes.holds e in
      d.differs (least_unique (least_at (r.next acc i b) d.at d.below)
      (least_carry (λ t h. (st.kept t d.at (omega (arith, d.below)) d.below, together_before m acc i t d.at))
      (least_at (seen_blocks small b r) d.at d.below)))

-- round 0 stands there
pub record Started (m : Morphism) (entry start : List ℕ) : Type 0 where
  pub blocks : BlocksAt m.size (Together m (outcome_of m entry) 0) start blocks_base
  pub outcomes : (s z : ℕ) → s < m.size → z < m.size → outcome_at start s z ≡ outcome_of m entry s z
  pub kept : UnchangedOutside outcomes_base numbers_base entry start

-- after the outcomes and the blocks of round 0
pub rounds_started : {m : Morphism} {entry now start : List ℕ} → m.size ≤ 64 → OutcomesWritten m m.size entry now
    → BlocksWritten m.size (Together m (outcome_at now) 0) blocks_base now start → Started m entry start
unfolding Together
rounds_started small o w = record {
  blocks = blocks_carry (same_outcomes_carry o.outcomes) w.blocks;
  outcomes = λ s z hs hz. outcome_below s z (omega arith) (omega arith) (omega arith) w.kept ∙ o.outcomes s z hs hz;
  kept = unchanged_both (unchanged_wider (omega arith) (omega arith) o.kept) (unchanged_wider (omega arith) (omega arith) w.kept);
}

-- the blocks of round i stand there, and no round before was stable
pub record RoundsRun (m : Morphism) (acc : ℕ → ℕ → ℕ) (i : ℕ) (now : List ℕ) : Type 0 where
  pub blocks : BlocksAt m.size (Together m acc i) now blocks_base
  pub unstable : (j : ℕ) → j < i → Stable m acc j → ⊥

-- whatever the outcomes whose round 0 stood at the start
pub record Running (m : Morphism) (start now : List ℕ) (i : ℕ) : Type 0 where
  pub runs : (acc : ℕ → ℕ → ℕ) → BlocksAt m.size (Together m acc 0) start blocks_base → RoundsRun m acc i now
  pub kept : UnchangedOutside blocks_base numbers_base start now

pub running_start : {m : Morphism} (start : List ℕ) → Running m start start 0
running_start start = record {
  runs = λ acc b. record { blocks = b; unstable = λ j h. absurd (omega arith) };
  kept = unchanged_none blocks_base numbers_base start;
}

module _ {m : Morphism} {start now : List ℕ} {i : ℕ} (w : Running m start now i) where
  -- fewer rounds than elements changed something
  pub running_bound : {entry : List ℕ} → Started m entry start → 1 ≤ m.size → i < m.size
  running_bound {entry} st h =
      let acc = outcome_of m entry in
      omega (arith, blocks_many m acc i h (w.runs acc st.blocks).unstable, blocks_at_most m acc i)

  module _ {next : List ℕ} {answer : Bool} (small : m.size ≤ 64) (r : RoundSeen m now next answer) where
    -- after a round that was taken, since it changed a block
    pub running_next : {taken : List ℕ} → answer ≡ true → TakenOver m.size next taken → Running m start taken (i + 1)
    running_next {taken} e o = rw add-one (record {
      runs = λ acc b. record {
        blocks = blocks_moved o.blocks (r.next acc i (w.runs acc b).blocks);
        unstable = λ j h. before acc b j h (ℕ_discrete j i);
      };
      kept = unchanged_both w.kept (unchanged_both (unchanged_wider (omega arith) (omega arith) r.kept) (unchanged_wider (omega arith) (omega arith) o.kept));
    })
      where
        before : (acc : ℕ → ℕ → ℕ) → BlocksAt m.size (Together m acc 0) start blocks_base → (j : ℕ) → j < suc i → Dec (j ≡ i) → Stable m acc j → ⊥
        before acc b j h (yes q) st = changed_not_stable small (w.runs acc b).blocks r e (subst (Stable m acc) q st)
        before acc b j h (no g) st = let d : j ≢ i = g in (w.runs acc b).unstable j (omega arith) st

    -- at the end, with an answer that tells whether the round that was looked at would change nothing
    running_refined : {entry : List ℕ} {limit : ℕ} {finished : Bool} → 1 ≤ m.size → (st : Started m entry start) → i ≤ limit → Tells (Stable m (outcome_of m entry) i) finished
        → (finished ≡ false → i ≡ limit) → RoundsRefined m limit entry next (record { rounds = i; finished = finished })
    running_refined {entry} some st within told at_limit =
        let run = w.runs (outcome_of m entry) st.blocks in
        let kept = unchanged_both w.kept (unchanged_wider (omega arith) (omega arith) r.kept) in
        record {
          bound = running_bound st some;
          within = within;
          blocks = seen_blocks small run.blocks r;
          first = run.unstable;
          stable = told;
          unfinished = at_limit;
          outcomes = λ s z hs hz. outcome_below s z (omega arith) (omega arith) (omega arith) kept ∙ st.outcomes s z hs hz;
          kept = unchanged_both st.kept (unchanged_wider (omega arith) (omega arith) kept);
        }

    -- it would change nothing
    pub running_finished : {entry : List ℕ} {limit : ℕ} → 1 ≤ m.size → Started m entry start → i ≤ limit → answer ≡ false
        → RoundsRefined m limit entry next (record { rounds = i; finished = true })
    running_finished {entry} some st within e =
        running_refined some st within (told_yes (unchanged_is_stable small (w.runs (outcome_of m entry) st.blocks).blocks r e))
        (λ q. absurd (let z : ◌≡◌ {A = ℕ} 0 1 = cc in omega arith))

    -- as many rounds as the limit were taken
    pub running_last : {entry : List ℕ} {limit : ℕ} → 1 ≤ m.size → Started m entry start → i ≡ limit
        → RoundsRefined m limit entry next (record { rounds = limit; finished = not answer })
    running_last {entry} {limit} some st at_limit =
        subst (λ (j : ℕ). RoundsRefined m limit entry next (record { rounds = j; finished = not answer })) at_limit
        (running_refined some st (omega (arith, at_limit)) told (λ q. at_limit))
      where
        told : Tells (Stable m (outcome_of m entry) i) (not answer)
        told = record {
          holds = λ q. unchanged_is_stable small (w.runs (outcome_of m entry) st.blocks).blocks r (not-true _ q);
          fails = λ q. changed_not_stable small (w.runs (outcome_of m entry) st.blocks).blocks r (not-false _ q);
        }

-- with a limit that the size does not exceed they are finished
pub refined_finished : {m : Morphism} {limit : ℕ} {entry exit : List ℕ} {r : Refined} → m.size ≤ limit → RoundsRefined m limit entry exit r
    → Stable m (outcome_of m entry) r.rounds
refined_finished {m} {entry = entry} {r = r} h w = go r.finished refl
  where
    go : (b : Bool) → r.finished ≡ b → Stable m (outcome_of m entry) r.rounds
    go true e = w.stable.holds e
    go false e = absurd (omega (arith, w.bound, w.unfinished e))
