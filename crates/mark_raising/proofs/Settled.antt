-- Where no move leads from a mark to a lower one, each pair has the highest mark of its conjugates. Assumes nothing.
use Prim.Native.Nat.{ℕ, ◌*◌, ◌≤◌, ◌<◌}
use mathlib.Core.Path.{◌≡◌, sym, ◌∙◌, subst}
use mathlib.Core.Bool.{Bool, true, false}
use mathlib.Core.List.{List}
use native.Mathlib.Nat.{le_refl, le_trans, le_antisymm}
use native.Mathlib.Omega.{arith}
use native.Mathlib.Decide.{ℕ_discrete}
use Rattle.theory.specs.Rules.{Morphism, Lawful, AllReached}
use Rattle.theory.specs.Pairs.{Linked}
use Rattle.theory.proofs.Conjugacy.{conjugate_trans}
use Rattle.theory.proofs.BestConjugates.{Attained, of_conjugate, of_none, BestSoFar}
use Rattle.conjugacy_moves.specs.Moves.{LetterElement, LeftEquivalent, turned}
use Rattle.conjugacy_moves.specs.Tables.{Walked}
use Rattle.conjugacy_moves.proofs.Chains.{letters_generate}
use Rattle.conjugacy_moves.proofs.Returns.{same_left_refl, turned_same, returns_conjugate}
use Rattle.conjugacy_moves.proofs.FirstMoves.{first_left, first_move, first_left_representatives, first_moves}
use Rattle.conjugacy_moves.proofs.Tables.{rep_linked, rep_conjugate, walked_so_far}
use Rattle.mark_raising.specs.Tables.{first_table, second_table, highest_mark, Kept}
use Rattle.mark_raising.specs.Raising.{Raised, RaiseAnswer, LetterSettled, RoundSettled, RoundsAnswer}
use Rattle.mark_raising.proofs.Tables.{kept_both}

module _ {m : Morphism} {bytes : List ℕ} (law : Lawful m) (reached : AllReached m) (r : Raised m bytes) (k : RoundSettled m bytes) where
  -- both ways between an idempotent and the first of its left class
  to_first : {s e : ℕ} → Linked m s e → second_table bytes s e ≤ second_table bytes s (first_left m e)
  to_first {s} {e} l = by (ℕ_discrete (first_left m e) e)
    where
      by : Dec (first_left m e ≡ e) → second_table bytes s e ≤ second_table bytes s (first_left m e)
      by (yes q) = subst (λ (x : ℕ). second_table bytes s e ≤ second_table bytes s x) (sym q) (le_refl (second_table bytes s e))
      by (no d) =
          subst (λ (x : ℕ). second_table bytes s e ≤ second_table bytes x (first_left m e)) l.stays
          ((((k.cycles.each e l.idempotent.inside).by_left l.idempotent d).0.starts.each s l.inside).no_lower l.stays)

  from_first : {s e : ℕ} → Linked m s e → second_table bytes s (first_left m e) ≤ second_table bytes s e
  from_first {s} {e} l = by (ℕ_discrete (first_left m e) e)
    where
      first : Linked m s (first_left m e)
      first = rep_linked (first_left_representatives law) law l

      by : Dec (first_left m e ≡ e) → second_table bytes s (first_left m e) ≤ second_table bytes s e
      by (yes q) = subst (λ (x : ℕ). second_table bytes s x ≤ second_table bytes s e) (sym q) (le_refl (second_table bytes s e))
      by (no d) =
          subst (λ (x : ℕ). second_table bytes s (first_left m e) ≤ second_table bytes x e) first.stays
          ((((k.cycles.each e l.idempotent.inside).by_left l.idempotent d).1.starts.each s l.inside).no_lower first.stays)

  -- along the table's moves
  along_table : (s e g : ℕ) → Linked m s e → first_left m e ≡ e → LetterElement m g → first_move m e g < m.size
      → second_table bytes s e ≤ second_table bytes (m.product s g) (first_move m e g)
  along_table s e g l q h there =
      let gen = letters_generate law reached in
      let hg = gen.inside g h in
      let entry = (first_moves law gen.inside).laid e g l.idempotent q h there in
      let letter : LetterSettled m e g bytes =
      subst (λ (x : ℕ). LetterSettled m e x bytes) h.image (((k.cycles.each e l.idempotent.inside).by_letters l.idempotent q).letters.each h.letter h.is_letter) in
      let found = letter.some_way entry.way entry.returns in
      let step = found.1 in
      let linked : Linked m (m.product s g) found.0 =
      subst (Linked m (m.product s g)) step.cycle (returns_conjugate law l hg step.returns).right_linked in
      let same : LeftEquivalent m found.0 (turned m e g entry.way) =
      subst (λ (a : ℕ). LeftEquivalent m a (turned m e g entry.way)) step.cycle (turned_same law (same_left_refl l.idempotent) hg step.returns entry.returns) in
      subst (λ (x : ℕ). second_table bytes s e ≤ second_table bytes (m.product s g) x) ((first_left_representatives law).one found.0 (turned m e g entry.way) same ∙ sym entry.is_cycle)
      (le_trans ((found.2.starts.each s l.inside).no_lower l.stays) (to_first linked))

  attained_first : (s e : ℕ) → Linked m s e → Attained m highest_mark (first_table bytes) s e (second_table bytes s (first_left m e))
  attained_first s e l = from (r.so_far.marks.cells s (first_left m e) l.inside (rep_linked (first_left_representatives law) law l).idempotent.inside).attained
    where
      from : Attained m highest_mark (first_table bytes) s (first_left m e) (second_table bytes s (first_left m e)) → Attained m highest_mark (first_table bytes) s e (second_table bytes s (first_left m e))
      from (of_conjugate c q) = of_conjugate (conjugate_trans law (rep_conjugate (first_left_representatives law) law l) c) q
      from (of_none z) = of_none z

  -- a pair that is not linked has no mark
  unlinked : (s e : ℕ) → (Linked m s e → ⊥) → Attained m highest_mark (first_table bytes) s e (second_table bytes s e) → second_table bytes s e ≡ 0
  unlinked s e none (of_conjugate c q) = absurd (none c.left_linked)
  unlinked s e none (of_none z) = z

  walked : Walked m highest_mark (LetterElement m) (first_left m) (first_move m) (first_table bytes) (second_table bytes)
  walked = record {
    above = λ s e l. le_trans (r.above s e l.inside l.idempotent.inside) (to_first l);
    along = along_table;
    attained = attained_first;
  }

  pub settled_best : BestSoFar m highest_mark (first_table bytes) (m.size * m.size) (second_table bytes)
  settled_best =
      walked_so_far law (letters_generate law reached) (first_moves law (letters_generate law reached).inside) walked (m.size * m.size)
      (λ s e l. le_antisymm (to_first l) (from_first l))
      (λ s e hs he none. unlinked s e none (r.so_far.marks.cells s e hs he).attained)

-- rounds in a row: the last raised no mark, or there may be no more
pub rounds_settled : {m : Morphism} {entry now next : List ℕ} {answer : Bool} → Lawful m → AllReached m → Kept m.size entry now
    → RaiseAnswer m (RoundSettled m) false now next answer → answer ≡ false → RoundsAnswer m entry next true
rounds_settled {m} law reached k a e =
    let w = a.unraised e in
    record {
      kept = kept_both k a.kept;
      raised = a.raised;
      settled = λ z. settled_best law reached a.raised (subst (RoundSettled m) (sym w.1) w.2);
    }

pub rounds_out : {m : Morphism} {entry now : List ℕ} → Kept m.size entry now → Raised m now → RoundsAnswer m entry now false
rounds_out k r = record { kept = k; raised = r; settled = λ e. absurd (let z : ◌≡◌ {A = ℕ} 0 1 = cc in omega arith) }
