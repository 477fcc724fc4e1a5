-- A table of matrices whose list stands in the order of a search in breadth is numbered by first words. Assumes nothing.
use Prim.Native.Nat.{ℕ, zero, suc, ◌≤◌, ◌<◌}
use mathlib.Core.Path.{◌≡◌, refl, sym, ap, ◌∙◌, subst}
use native.Mathlib.Omega.{arith}
use Rattle.finite.proofs.Explore.{sooner_le}
use Rattle.finite.proofs.Discovery.{Discovery}
use Rattle.theory.specs.Rules.{Morphism, element, join}
use Rattle.buchi.specs.Automata.{Automaton}
use Rattle.buchi.specs.Matrices.{Matrix, SameEntries}
use Rattle.buchi.proofs.Products.{product_same, same_refl, same_sym, same_trans, equal_numbers}
use Rattle.buchi.proofs.MatrixLists.{Among, step_matrix, FoundInOrder}
use Rattle.buchi.proofs.MatrixTables.{TableOf, table_lawful}
use Rattle.rule_reach.specs.Reach.{word_step}
use Rattle.formats.specs.FirstWords.{ByFirstWords}
use Rattle.rule_first_words.proofs.Ordered.{entry, found_by_first_words}

-- what a letter makes of an entry: an element, with the matrix of that step
record Stepped (a : Automaton) (m : Morphism) (matrix : ℕ → Matrix) (p x : ℕ) : Type 0 where
  the : ℕ
  inside : the < m.size
  is : word_step m x (entry p) ≡ element the
  same : SameEntries a.states (step_matrix a matrix p x) (matrix the)

module _ {a : Automaton} {m : Morphism} {matrix : ℕ → Matrix} (table : TableOf a m matrix) (order : FoundInOrder a m.size matrix) where
  stepped : (p x : ℕ) → p ≤ m.size → x < m.letters → Stepped a m matrix p x
  unfolding word_step entry step_matrix join
  stepped zero x h l = record { the = m.image x; inside = table.images x l; is = refl; same = table.letters x l }
  stepped (suc i) x h l =
      let b = table.images x l in
      record {
        the = m.product i (m.image x);
        inside = table.closed i (m.image x) (omega arith) b;
        is = refl;
        same = same_trans (product_same same_refl (table.letters x l)) (table.products i (m.image x) (omega arith) b);
      }

  -- an element with the matrix of a step is what the step leads to
  leads : {p x i : ℕ} (s : Stepped a m matrix p x) → i < m.size → SameEntries a.states (step_matrix a matrix p x) (matrix i) → entry (suc i) ≡ word_step m x (entry p)
  unfolding entry
  leads {i = i} s h e =
      ap element (sym (equal_numbers (table.apart s.the i s.inside h) (same_trans (same_sym s.same) e))) ∙ sym s.is

  a_letter : (x : ℕ) → x < a.letters → x < m.letters
  a_letter x h = subst (λ c. x < c) (sym table.same_letters) h

  discovery : (j : ℕ) → 0 < j → j < suc m.size → Discovery (word_step m) m.letters entry j
  discovery zero h l = absurd (omega arith)
  discovery (suc j) h l =
      let f = order.found j (omega arith) in
      let d = f.found in
      let x = a_letter f.letter d.letter_lt in
      let b = d.parent_before in
      record {
        parent = f.parent;
        letter = f.letter;
        found = record {
          parent_lt = omega arith;
          letter_lt = x;
          step = leads (stepped f.parent f.letter (omega arith) x) (omega arith) d.same;
          sooner = λ q y e r.
              let n : Among a.states j matrix (step_matrix a matrix q y) = d.sooner q y e (subst (λ c. y < c) table.same_letters r) in
              let g = n.below in
              record {
                at = suc n.at;
                below = omega arith;
                same = leads (stepped q y (omega (arith, sooner_le e)) r) (omega arith) n.same;
              };
        };
      }

  pub table_by_first_words : ByFirstWords m
  table_by_first_words = found_by_first_words (table_lawful table) discovery
