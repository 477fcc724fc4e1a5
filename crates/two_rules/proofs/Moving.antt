-- Two tables moved byte by byte: what each turn of the loop leaves. Assumes nothing.
use Prim.Native.Nat.{ℕ, ◌+◌, ◌≤◌, ◌<◌}
use mathlib.Core.Path.{◌≡◌, refl, sym, ◌∙◌, subst}
use mathlib.Core.Logic.{◌≢◌}
use mathlib.Core.List.{List}
use native.Mathlib.Omega.{arith}
use native.Mathlib.Decide.{ℕ_discrete}
use lib.ListN.{length, get_or, set, length-set}
use lib.Seq.{get_or-set_same, get_or-set_other}
use Rattle.formats.specs.RuleChecks.{scratch_size}
use Rattle.scratch.specs.Map.{mark_table_size, second_base, search_end}
use Rattle.two_rules.specs.Deciding.{TablesMoved}

-- the first bytes were moved, and those that are still to be read are as they were
pub record Moving (count : ℕ) (entry now : List ℕ) : Type 0 where
  pub moved : TablesMoved count entry now
  pub small : count ≤ mark_table_size
  pub room : scratch_size ≤ length entry
  pub marks : (i : ℕ) → count ≤ i → get_or now (search_end + i) 0 ≡ get_or entry (search_end + i) 0
  pub closure : (i : ℕ) → i < mark_table_size → get_or now (second_base + i) 0 ≡ get_or entry (second_base + i) 0

pub moving_start : {entry : List ℕ} → scratch_size ≤ length entry → Moving 0 entry entry
moving_start h = record {
  moved = record { same_length = refl; front = λ i l. absurd (let z : ⊥ = omega arith in z); behind = λ i l. absurd (let z : ⊥ = omega arith in z) };
  small = omega arith;
  room = h;
  marks = λ i l. refl;
  closure = λ i l. refl;
}

-- the last place of a turn lies within the bytes
pub moving_inside : {count : ℕ} {entry now : List ℕ} → Moving count entry now → count < mark_table_size → search_end + count < length now
moving_inside m h = omega (arith, m.room, m.moved.same_length)

-- one byte of each more
pub moving_next : {count : ℕ} {entry now : List ℕ} → Moving count entry now → count < mark_table_size
    → Moving (count + 1) entry (set (set now count (get_or now (search_end + count) 0)) (search_end + count) (get_or now (second_base + count) 0))
moving_next {count} {entry} {now} m h = record {
  moved = record {
    same_length = length-set fronted (search_end + count) closed ∙ length-set now count marked ∙ m.moved.same_length;
    front = λ i l. front i l (ℕ_discrete i count);
    behind = λ i l. behind i l (ℕ_discrete i count);
  };
  small = omega arith;
  room = m.room;
  marks = λ i l. other (search_end + i) (λ e. omega arith) (λ e. omega arith) ∙ m.marks i (omega arith);
  closure = λ i l. other (second_base + i) (λ e. omega arith) (λ e. omega arith) ∙ m.closure i l;
}
  where
    marked : ℕ
    marked = get_or now (search_end + count) 0

    closed : ℕ
    closed = get_or now (second_base + count) 0

    fronted : List ℕ
    fronted = set now count marked

    next : List ℕ
    next = set fronted (search_end + count) closed

    long : search_end + count < length now
    long = moving_inside m h

    other : (i : ℕ) → (i ≡ count → ⊥) → (i ≡ search_end + count → ⊥) → get_or next i 0 ≡ get_or now i 0
    other i g k = get_or-set_other fronted (search_end + count) i closed 0 k ∙ get_or-set_other now count i marked 0 g

    front : (i : ℕ) → i < count + 1 → Dec (i ≡ count) → get_or next i 0 ≡ get_or entry (search_end + i) 0
    front i l (yes e) =
        subst (λ (x : ℕ). get_or next x 0 ≡ get_or entry (search_end + x) 0) (sym e)
        (get_or-set_other fronted (search_end + count) count closed 0 (λ q. omega arith) ∙ get_or-set_same now count marked 0 (omega (arith, long)) ∙ m.marks count (omega arith))
    front i l (no g) =
        let d : i ≢ count = g in
        other i g (λ e. omega arith) ∙ m.moved.front i (omega arith)

    behind : (i : ℕ) → i < count + 1 → Dec (i ≡ count) → get_or next (search_end + i) 0 ≡ get_or entry (second_base + i) 0
    behind i l (yes e) =
        subst (λ (x : ℕ). get_or next (search_end + x) 0 ≡ get_or entry (second_base + x) 0) (sym e)
        (get_or-set_same fronted (search_end + count) closed 0 (omega (arith, long, length-set now count marked)) ∙ m.closure count h)
    behind i l (no g) =
        let d : i ≢ count = g in
        other (search_end + i) (λ e. omega arith) (λ e. omega arith) ∙ m.moved.behind i (omega arith)

-- all
pub moving_all : {count : ℕ} {entry now : List ℕ} → Moving count entry now → mark_table_size ≤ count → TablesMoved mark_table_size entry now
moving_all {count} {entry} {now} m h = subst (λ (x : ℕ). TablesMoved x entry now) (let e : count ≡ mark_table_size = omega (arith, m.small) in e) m.moved
