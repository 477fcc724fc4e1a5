-- Two tables of marks in one list of bytes: where a pair's byte stands, what it says, and tables that are kept. Assumes nothing.
use Prim.Native.Nat.{ℕ, ◌+◌, ◌*◌, ◌≤◌, ◌<◌}
use mathlib.Core.Path.{◌≡◌, refl, ap, ◌∙◌}
use mathlib.Core.List.{List}
use native.Mathlib.Omega.{arith}
use lib.ListN.{get_or}
use lib.Dec.{T, ltb}
use mir.Facts.{ltb_yes, yes_ltb}
use Rattle.theory.specs.Rules.{level}
use Rattle.scratch.specs.Map.{marks_from}
use Rattle.mark_raising.specs.Tables.{place, first_table, Kept}

-- a place tells the pair
pub place_same : (s e s' e' : ℕ) → e < 64 → e' < 64 → place s e ≡ place s' e' → (s ≡ s') × (e ≡ e')
place_same s e s' e' he he' p = (omega arith, omega arith)

-- a pair is in a table exactly if its byte is not 0
pub pair_in : (bytes : List ℕ) (base s e : ℕ) → 0 < get_or bytes (base + (s * 64 + e)) 0 → T (level 1 (marks_from bytes base) s e)
unfolding level marks_from
pair_in bytes base s e h = yes_ltb h

pub pair_byte : (bytes : List ℕ) (base s e : ℕ) → T (level 1 (marks_from bytes base) s e) → 0 < get_or bytes (base + (s * 64 + e)) 0
unfolding level marks_from
pair_byte bytes base s e t = ltb_yes t

-- a byte that is as it was says what it said
pub pair_kept : (now next : List ℕ) (base s e : ℕ) → get_or next (base + (s * 64 + e)) 0 ≡ get_or now (base + (s * 64 + e)) 0
    → level 1 (marks_from next base) s e ≡ level 1 (marks_from now base) s e
unfolding level marks_from
pair_kept now next base s e p = ap (ltb 0) p

pub kept_none : (n : ℕ) (l : List ℕ) → Kept n l l
kept_none n l = record { same_length = refl; kept = λ i h. refl }

pub kept_both : {n : ℕ} {a b c : List ℕ} → Kept n a b → Kept n b c → Kept n a c
kept_both p q = record { same_length = q.same_length ∙ p.same_length; kept = λ i h. q.kept i h ∙ p.kept i h }

module _ {n : ℕ} {entry exit : List ℕ} (small : n ≤ 64) (k : Kept n entry exit) where
  -- no pair's byte of the second table stands before it or after it
  pub kept_before : (i : ℕ) → i < 4096 → get_or exit i 0 ≡ get_or entry i 0
  kept_before i h = k.kept i (λ s e hs he q. omega arith)

  pub kept_after : (i : ℕ) → 8192 ≤ i → get_or exit i 0 ≡ get_or entry i 0
  kept_after i h = k.kept i (λ s e hs he q. omega arith)

  -- the first table is as it was
  pub kept_first : (s e : ℕ) → s < n → e < n → first_table exit s e ≡ first_table entry s e
  kept_first s e hs he = kept_before (s * 64 + e) (omega arith)
