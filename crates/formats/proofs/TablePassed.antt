-- What the checks of a table mean once they pass: every triple associates, and every element is some word's value. Assumes nothing.
use Prim.Native.Nat.{ℕ, ◌<◌}
use mathlib.Core.Logic.{⊎_elim, by_cases}
use native.Mathlib.Decide.{ℕ_discrete}
use Rattle.answer.specs.Checks.{passed, FirstFailure}
use Rattle.answer.proofs.Order.{passes_head, passes_tail}
use Rattle.finite.proofs.Numbers.{strong_induction}
use Rattle.theory.specs.Rules.{Morphism, Lawful, AllReached}
use Rattle.theory.proofs.ShortWords.{unreached_or_all, word_of_dec}
use Rattle.formats.specs.TableChecks.{Associates, TripleBefore, by_a, by_b, by_c}
use Rattle.formats.proofs.Tables.{AllAssociate, FirstTriple, first_triple_place}
use Rattle.formats.specs.RuleChecks.{table_checks}

-- where no triple is the first that does not associate, each associates if those before it do
module _ {m : Morphism} (none : (a b c : ℕ) → FirstTriple m a b c → ⊥) where
  associates_next : (a b c : ℕ) → a < m.size → b < m.size → c < m.size
      → ((a' b' c' : ℕ) → a' < m.size → b' < m.size → c' < m.size → TripleBefore a' b' c' a b c → Associates m a' b' c') → Associates m a b c
  associates_next a b c ha hb hc earlier =
      by_cases (ℕ_discrete (m.product (m.product a b) c) (m.product a (m.product b c))) (λ e. e)
      (λ d. absurd (none a b c (record { a_inside = ha; b_inside = hb; c_inside = hc; differs = d; first = earlier })))

  -- so all do
  pub none_first_all : AllAssociate m
  none_first_all = record { associate = λ a b c ha hb hc. rows a ha b c hb hc }
    where
      before : (a b c : ℕ) → ((x : ℕ) → x < a → x < m.size → (y z : ℕ) → y < m.size → z < m.size → Associates m x y z)
          → ((y : ℕ) → y < b → y < m.size → (z : ℕ) → z < m.size → Associates m a y z) → ((z : ℕ) → z < c → z < m.size → Associates m a b z)
          → (x y z : ℕ) → x < m.size → y < m.size → z < m.size → TripleBefore x y z a b c → Associates m x y z
      before a b c above row here x y z hx hy hz (by_a h) = above x h hx y z hy hz
      before a b c above row here x y z hx hy hz (by_b e h) = rw e (row y h hy z hz)
      before a b c above row here x y z hx hy hz (by_c e f h) = rw (e, f) (here z h hz)

      rows : (a : ℕ) → a < m.size → (b c : ℕ) → b < m.size → c < m.size → Associates m a b c
      rows =
          strong_induction (λ a. a < m.size → (b c : ℕ) → b < m.size → c < m.size → Associates m a b c)
          (λ a above ha b c hb. strong_induction (λ b. b < m.size → (c : ℕ) → c < m.size → Associates m a b c)
          (λ b row hb c. strong_induction (λ c. c < m.size → Associates m a b c)
          (λ c here hc. associates_next a b c ha hb hc (before a b c above row here)) c) b hb c)

module _ {m : Morphism} {input : ℕ} (all : FirstFailure (table_checks input m) passed) where
  -- 5 passes: the table associates
  pub table_associates : AllAssociate m
  table_associates = none_first_all (λ a b c f. (passes_head all).nowhere _ (first_triple_place f))

  -- 6 passes: every element is some word's value
  pub table_reached : Lawful m → AllReached m
  table_reached law =
      ⊎_elim
      (λ f. absurd ((passes_head (passes_tail all)).nowhere f.at
      (record { inside = f.below; no_word = f.holds; least = λ s h. by_cases (word_of_dec law s) (λ w. w) (λ g. absurd (f.first s h g)) })))
      (λ r. r) (unreached_or_all law)
