-- The blocks that the rounds leave are numbered and written, and their numbers are copied out. Assumes nothing.
use Prim.Native.Nat.{ℕ, ◌+◌, ◌-◌, ◌≤◌, ◌<◌}
use mathlib.Core.Path.{◌≡◌, sym, ap, ◌∙◌}
use mathlib.Core.List.{List, ◌++◌}
use native.Mathlib.Omega.{arith}
use lib.ListN.{length, take, drop}
use Rattle.scratch.specs.Map.{numbers_base}
use Rattle.theory.specs.Rules.{Morphism}
use Rattle.reduce_first_round.specs.Map.{outcome_of, outcome_at}
use Rattle.reduce_rounds.specs.declared.Refined.{Refined}
use Rattle.reduce_rounds.specs.Rounds.{RoundsRefined}
use Rattle.reduce_rounds.proofs.Settling.{refined_finished}
use Rattle.scratch.proofs.Unchanged.{unchanged_room}
use Rattle.reduce_first_round.proofs.OutcomeBytes.{outcome_below}
use Rattle.reduce_numbering.specs.Steps.{leader_at}
use Rattle.reduce_numbering.specs.Numbering.{NumberedAs, BlocksNumbered}
use Rattle.formats.specs.RuleChecks.{scratch_size}
use Rattle.reduce_rule.specs.Steps.{QuotientNeeds, QuotientWritten}
use Rattle.reduce_output.specs.Steps.{ReduceNeeds, ReducedWritten}
use Rattle.rule_bytes.proofs.CopiedParts.{part_entry, part_length}
use Rattle.promises.specs.Rounds.{most_rounds}
use Rattle.reduce_output.proofs.Order.{quotient_by_first_words}

-- from the blocks of the last round to the file
module _ {m : Morphism} {entry settled numbered out map : List ℕ} {c : ℕ} {refined : Refined} (small : m.size ≤ 64)
    (p : ReduceNeeds m entry out map) (r : RoundsRefined m most_rounds entry settled refined) (b : BlocksNumbered m c settled numbered) where
  -- the numbering by the outcomes that the table of marks gave
  numbering_of : NumberedAs m (outcome_of m entry) c numbered
  numbering_of = b.numbered (outcome_of m entry) refined.rounds r.blocks (refined_finished small r)

  leader_inside : (j : ℕ) → j < c → leader_at numbered j < m.size
  leader_inside j h = rw (← numbering_of.leaders j) (numbering_of.numbering.leader_below j h)

  numbered_room : scratch_size ≤ length numbered
  numbered_room = unchanged_room b.kept (unchanged_room r.kept p.room)

  pub quotient_place : QuotientNeeds m.size m.letters c numbered out
  quotient_place = record {
    some = b.some;
    letters_some = p.letters_some;
    blocks = record { small = omega (arith, b.few); leaders = leader_inside; room = numbered_room };
    out_room = p.out_room;
  }

  outcomes_stand : (s z : ℕ) → s < m.size → z < m.size → outcome_at numbered s z ≡ outcome_of m entry s z
  outcomes_stand s z hs hz = outcome_below s z (omega arith) (omega arith) (omega arith) b.kept ∙ r.outcomes s z hs hz

  -- the numbers of the elements' blocks
  abbrev numbers_part : List ℕ
  numbers_part = take m.size (drop numbers_base numbered)

  numbers_many : length numbers_part ≡ m.size
  numbers_many = part_length numbered numbers_base m.size (omega (arith, small, numbered_room))

  copied : {part : List ℕ} → part ≡ take (numbers_base + m.size - numbers_base) (drop numbers_base numbered)
      → part ++ drop m.size map ≡ numbers_part ++ drop (length numbers_part) map
  copied q =
      let many : numbers_base + m.size - numbers_base ≡ m.size = omega arith in
      ap (λ (l : List ℕ). l ++ drop m.size map) (q ∙ ap (λ (k : ℕ). take k (drop numbers_base numbered)) many)
      ∙ ap (λ (k : ℕ). numbers_part ++ drop k map) (sym numbers_many)

  pub reduced_written : {exit after part : List ℕ} {end : ℕ} → QuotientWritten m c numbered exit out after end
      → part ≡ take (numbers_base + m.size - numbers_base) (drop numbers_base numbered)
      → ReducedWritten m entry exit out after map (part ++ drop m.size map) end
  reduced_written w q = record {
    same_length = w.same_length ∙ b.kept.same_length ∙ r.kept.same_length;
    count = c;
    some = b.some;
    few = b.few;
    numbering = numbering_of.numbering;
    in_order = quotient_by_first_words p.lawful numbering_of b.in_order;
    written = w.written (outcome_of m entry) numbering_of outcomes_stand;
    map = numbers_part;
    numbers = λ s h. part_entry numbered numbers_base m.size s h ∙ sym (numbering_of.numbers s);
    map_written = record { holds = copied q; counts = sym numbers_many };
  }
