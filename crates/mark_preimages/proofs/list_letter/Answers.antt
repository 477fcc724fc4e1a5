-- `mark_preimages::list_letter` meets its contract: the values that were passed are listed. Assumes nothing.
use Prim.Native.Nat.{ℕ, ◌+◌}
use mathlib.Core.Path.{◌≡◌, subst}
use native.Mathlib.Omega.{arith}
use Rattle.formats.specs.Table.{morphism_at}
use Rattle.mark_preimages.specs.Listing.{LetterListed}
use Rattle.mark_preimages.proofs.Letters.{after_below}
use Rattle.mark_preimages.proofs.Listing.{letter_none, letter_more}
use Rattle.mark_preimages.proofs.list_letter.Goals as goal

pub overflow_add-c-end : goal.overflow_add-c-end
overflow_add-c-end c = omega (arith, c.requires.table.small)

pub loop-c-init : goal.loop-c-init
loop-c-init c =
    (letter_none c.requires.table.small c.requires.letter_room, omega arith)

pub after_letter-x-requires : goal.after_letter-x-requires
after_letter-x-requires c = record {
  table = c.requires.table;
  a_lt_k = c.requires.a_lt_k;
}

pub list_value-requires : goal.list_value-requires
list_value-requires c =
    let h = after_below c.requires.table c.requires.a_lt_k c.loop-c.c c.after_letter-x.ensures in
    record {
      room = omega (arith, c.requires.letter_room.room, c.loop-c.invariant.0.others.kept.same_length);
      letter = omega (arith, c.requires.table.letters_small, c.requires.a_lt_k);
      value = omega (arith, c.requires.table.small);
      element = omega (arith, c.requires.table.small, h);
    }

pub overflow_step-c : goal.overflow_step-c
overflow_step-c c =
    omega (arith, c.requires.table.small)

pub loop-c-preserved : goal.loop-c-preserved
loop-c-preserved c =
    let e = c.after_letter-x.ensures in (
      letter_more c.requires.table.small (omega (arith, c.requires.table.letters_small, c.requires.a_lt_k)) (omega arith)
          (after_below c.requires.table c.requires.a_lt_k c.loop-c.c e) e c.loop-c.invariant.0 c.list_value.ensures,
      omega arith,
    )

pub shape_of-scratch : goal.shape_of-scratch
shape_of-scratch c = c.loop-c.invariant.0.others.kept.same_length

pub returns : goal.returns
returns c =
    let a = c.args in
    let q : c.loop-c.c ≡ a.n + 1 = omega arith in
    subst (λ (v : ℕ). LetterListed (morphism_at a.rule.now a.n a.k) a.a v a.scratch.now c.loop-c.scratch) q c.loop-c.invariant.0
