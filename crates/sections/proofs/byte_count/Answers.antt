-- `sections::byte_count` meets its contract: each return is the first of the count's checks that fails, or the count that
-- passed them all. Assumes nothing.
use mathlib.Core.Logic.{inl, inr, ⊎_elim}
use Rattle.formats.specs.Sections.{one_byte}
use Rattle.formats.proofs.Sections.{count_out}
use Rattle.sections.proofs.Laws.{count_cut_answer}
use Rattle.sections.proofs.byte_count.Goals as goal

pub returns-then-rest-lt1 : goal.returns-then-rest-lt1
returns-then-rest-lt1 c = count_cut_answer one_byte _ _ _ _ c.cut.ensures c.if-rest-lt1.true

pub returns-then-count-lt1 : goal.returns-then-count-lt1
returns-then-count-lt1 c input = count_out one_byte _ _ input _ _ c.if-rest-lt1.false (⊎_elim inl (λ h. inr h.1) c.then-count-lt1.either)
