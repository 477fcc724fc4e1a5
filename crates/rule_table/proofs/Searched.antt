-- How far the search for a triple that does not associate has come: the invariant of its three loops, and what it gives
-- where the search ends. Assumes nothing.
use Prim.Native.Nat.{ℕ, ◌+◌, ◌≤◌, ◌<◌}
use mathlib.Core.Path.{◌≡◌}
use mathlib.Core.List.{List}
use native.Mathlib.Omega.{arith}
use borrow.Author.Count.{below_more}
use Rattle.formats.specs.Table.{product_at, morphism_at}
use Rattle.formats.specs.TableChecks.{Associates, TripleBefore, by_a, by_b, by_c}
use Rattle.formats.proofs.Tables.{AllAssociate, Table, FirstTriple}

-- every triple before (a, b, c) associates: those of the rows before a; in the row a, those with y before b; at a and b,
-- those with z before c
pub record Searched (bytes : List ℕ) (n k a b c : ℕ) : Type 0 where
  pub table : Table bytes n k
  pub rows : (x : ℕ) → x < a → (y z : ℕ) → y < n → z < n → Associates (morphism_at bytes n k) x y z
  pub row : (y : ℕ) → y < b → (z : ℕ) → z < n → Associates (morphism_at bytes n k) a y z
  pub here : (z : ℕ) → z < c → Associates (morphism_at bytes n k) a b z

module _ {bytes : List ℕ} {n k : ℕ} where
  -- no triple was passed
  pub searched_start : Table bytes n k → Searched bytes n k 0 0 0
  searched_start t = record {
    table = t;
    rows = λ x h. absurd (omega arith);
    row = λ y h. absurd (omega arith);
    here = λ z h. absurd (omega arith);
  }

  -- all z were passed
  pub next_b : {a b c : ℕ} → Searched bytes n k a b c → n ≤ c → Searched bytes n k a (b + 1) 0
  next_b {a} {b} s h = record {
    table = s.table;
    rows = s.rows;
    row = below_more (λ y. (z : ℕ) → z < n → Associates (morphism_at bytes n k) a y z) b s.row (λ z l. s.here z (omega arith));
    here = λ z l. absurd (omega arith);
  }

  -- all y were passed
  pub next_a : {a b c : ℕ} → Searched bytes n k a b c → n ≤ b → Searched bytes n k (a + 1) 0 0
  next_a {a} s h = record {
    table = s.table;
    rows = below_more (λ x. (y z : ℕ) → y < n → z < n → Associates (morphism_at bytes n k) x y z) a s.rows
        (λ y z l r. s.row y (omega arith) z r);
    row = λ y l. absurd (omega arith);
    here = λ z l. absurd (omega arith);
  }

  -- all rows were passed
  pub searched_all : {a b c : ℕ} → Searched bytes n k a b c → n ≤ a → AllAssociate (morphism_at bytes n k)
  searched_all s h = record { associate = λ x y z p q r. s.rows x (omega arith) y z q r }

  -- a triple before (a, b, c) associates
  earlier : {a b c : ℕ} → Searched bytes n k a b c → (x y z : ℕ) → y < n → z < n → TripleBefore x y z a b c
      → Associates (morphism_at bytes n k) x y z
  earlier s x y z q r (by_a h) = s.rows x h y z q r
  earlier s x y z q r (by_b e h) = rw e (s.row y h z r)
  earlier s x y z q r (by_c e f h) = rw (e, f) (s.here z h)

-- the search stands at (a, b, c), with the four products that the code computes there: `left` and `right` are the two sides
module _ {bytes : List ℕ} {n k a b c ab bc left right : ℕ} (s : Searched bytes n k a b c)
    (first_two : ab ≡ product_at bytes n a b) (last-two : bc ≡ product_at bytes n b c)
    (left_is : left ≡ product_at bytes n ab c) (right_is : right ≡ product_at bytes n a bc) where
  -- the sides agree: the triple is passed
  pub next_c : left ≡ right → Searched bytes n k a b (c + 1)
  next_c e = record {
    table = s.table;
    rows = s.rows;
    row = s.row;
    here = below_more (λ z. Associates (morphism_at bytes n k) a b z) c s.here (cc);
  }

  -- the sides differ: the triple is the first that does not associate
  pub searched_found : a < n → b < n → c < n → (left ≡ right → ⊥) → FirstTriple (morphism_at bytes n k) a b c
  searched_found ha hb hc d = record {
    a_inside = ha;
    b_inside = hb;
    c_inside = hc;
    differs = λ e. d (cc);
    first = λ x y z p q r. earlier s x y z q r;
  }
