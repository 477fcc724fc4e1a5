-- The two parts are compared as wholes. Assumes nothing.
use native.Mathlib.Omega.{arith}
use Rattle.until_search.proofs.Finding.{parts_told}
use Rattle.until_search.proofs.same_row.Goals as goal

pub returns : goal.returns
returns c =
    let j = c.requires.j_bound in
    let n = c.requires.search_needs in
    parts_told _ _ _ _ _ _ (omega (arith, j, n.few_pairs, n.classes_room)) (omega (arith, j, n.few_pairs, n.room)) c.eq.ensures
