-- `example_parts::part` meets its contract: it is the part with that number of those that the split gives, or empty. Assumes nothing.
use Prim.Native.Nat.{ℕ}
use mathlib.Core.Path.{refl, ap, ◌∙◌}
use mathlib.Core.List.{List}
use lib.Dec.{eqb}
use denote.Ref.{Bor}
use borrow.Author.Tests.{tests}
use borrow.Author.Rules.{rules}
use Rattle.std.specs.List.{slice_split}
use Rattle.std.proofs.lemmas.Iterator.Splits.{YieldsList-from_slice_split}
use Rattle.std.proofs.lemmas.Iterator.Consumers.{nth_from_yields_List}
use Rattle.example_parts.proofs.Splitting.{split_part, or_empty}
use Rattle.example_parts.proofs.part.Goals as goal

pub returns : goal.returns
returns c =
    let nth = nth_from_yields_List _ _ _ c.nth.ensures.ran
    (YieldsList-from_slice_split _ (λ b. eqb b c.args.mark) c.args.text.now c.split.ensures.rest c.split.ensures.done c.split.ensures.closure
    (λ x b q k. search (rules, tests))) in
    ap (λ (t : Bor (List ℕ)). t.now) c.unwrap_or.ensures ∙ or_empty _ _ (slice_split (λ b. eqb b c.args.mark) c.args.text.now) c.args.k refl nth ∙ split_part c.args.mark c.args.k c.args.text.now
