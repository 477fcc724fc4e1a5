-- Lists of matrices that grow: a step after a step is a step, and the bytes of the transitions are kept. Assumes nothing.
use Prim.Native.Nat.{ℕ, ◌<◌}
use mathlib.Core.Path.{sym, ◌∙◌}
use mathlib.Core.List.{List}
use native.Mathlib.Omega.{arith}
use Rattle.buchi.specs.Automata.{Automaton}
use Rattle.buchi.specs.Matrices.{Matrix, SameEntries, OtherEntry}
use Rattle.buchi.proofs.Products.{same_trans, same_sym, same_refl}
use Rattle.buchi.proofs.MatrixLists.{Among}
use Rattle.automaton_matrices.specs.Bytes.{letter_entry}
use Rattle.automaton_matrices.proofs.Letters.{SameSteps, letter_kept, stands_kept}
use Rattle.scratch.proofs.Unchanged.{unchanged_none, unchanged_both}
use Rattle.automaton_matrix_search.specs.Lists.{ListNeeds, StandsHere, MatrixList, Kept}
use Rattle.automaton_matrix_search.specs.Steps.{Grown}

-- ---- entries

pub other_same : {n : ℕ} {M M' N N' : Matrix} → SameEntries n M M' → SameEntries n N N' → OtherEntry n M N → OtherEntry n M' N'
other_same e f d = record {
  row = d.row;
  column = d.column;
  row_inside = d.row_inside;
  column_inside = d.column_inside;
  other = λ g.
      d.other
      (e.same d.row d.column d.row_inside d.column_inside ∙ g ∙ sym (f.same d.row d.column d.row_inside d.column_inside));
}

pub other_sym : {n : ℕ} {M N : Matrix} → OtherEntry n M N → OtherEntry n N M
other_sym d = record { row = d.row; column = d.column; row_inside = d.row_inside; column_inside = d.column_inside; other = λ g. d.other (sym g) }

pub among_same : {n c : ℕ} {matrix : ℕ → Matrix} {M N : Matrix} → SameEntries n M N → Among n c matrix M → Among n c matrix N
among_same e a = record { at = a.at; below = a.below; same = same_trans (same_sym e) a.same }

-- ---- bytes

pub kept_steps : {a b : List ℕ} → Kept a b → SameSteps a b
kept_steps k = record { same_length = k.same_length; same = λ i h. k.before i (omega arith) }

pub here_kept : {t : Automaton} {kinds : List ℕ} {n k : ℕ} {a b : List ℕ} → Kept a b → StandsHere t kinds n k a → StandsHere t kinds n k b
here_kept h s = record { stands = stands_kept (kept_steps h) s.stands; states = s.states; letters = s.letters }

pub place_kept : {kinds : List ℕ} {n k : ℕ} {a b : List ℕ} → Kept a b → ListNeeds kinds n k a → ListNeeds kinds n k b
place_kept h p = record { few_states = p.few_states; few_letters = p.few_letters; kinds_long = p.kinds_long; room = rw h.same_length p.room }

-- ---- lists

pub grown_refl : {n count : ℕ} {scratch : List ℕ} → MatrixList n scratch count → Grown n scratch count scratch count
grown_refl l = record { list = l; more = omega arith; same = λ i h. same_refl; kept = unchanged_none _ _ _ }

pub grown_trans : {n i j k : ℕ} {a b c : List ℕ} → Grown n a i b j → Grown n b j c k → Grown n a i c k
grown_trans g h =
    let l = g.more in
    let r = h.more in
    record { list = h.list; more = omega arith; same = λ x b. same_trans (g.same x b) (h.same x (omega arith)); kept = unchanged_both g.kept h.kept }

module _ {n count total : ℕ} {entry exit : List ℕ} (g : Grown n entry count exit total) where
  -- the letters' matrices are as they were
  pub letter_grown : (kinds : List ℕ) (x : ℕ) → x < 16 → SameEntries n (letter_entry kinds entry x) (letter_entry kinds exit x)
  letter_grown kinds x h = letter_kept (kept_steps g.kept) kinds n x g.list.few_states h
