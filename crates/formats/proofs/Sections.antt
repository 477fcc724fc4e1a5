-- One section that passes its checks, and that each of them fails at one place at most. Assumes nothing.
use Prim.Native.Nat.{ℕ, ◌+◌, ◌≤◌, ◌<◌, zero, suc}
use mathlib.Core.Path.{◌≡◌, refl, subst}
use mathlib.Core.List.{List}
use lib.ListN.{length, get_or}
use mathlib.Core.Logic.{◌⊎◌, inl, inr, ⊎_elim}
use native.Mathlib.Omega.{arith}
use native.Mathlib.Decide.{dec_lt}
use borrow.Author.Count.{below_more}
use Rattle.formats.specs.Sections.{CountWidth, count_at, count_bytes, Section, InRange, TruncatedAt, CountOutAt, EntryOutAt, count_checks, entry_checks, section_checks}
use Rattle.answer.specs.declared.Refusal.TheVariants.{Truncated, CountOutOfRange, EntryOutOfRange}
use Rattle.answer.specs.Checks.{Verdict, passed, numbered, refused, FirstFailure}
use Rattle.answer.proofs.Order.{first_passes, first_fails, none_left, refused_before, passed_before, passes_head, passes_tail, AllSingle, single_nil, single_at, single_cons}

-- the first of `count` bytes from `from` on that is not in its range
pub record FirstOut (bytes : List ℕ) (from count : ℕ) (floor bound : ℕ → ℕ) (index : ℕ) : Type 0 where
  pub below : index < count
  pub outside : (get_or bytes (from + index) 0 < floor index) ⊎ (bound index ≤ get_or bytes (from + index) 0)
  pub first : (i : ℕ) → i < index → InRange (floor i) (bound i) (get_or bytes (from + i) 0)

-- each of them is in its range
pub record AllInRange (bytes : List ℕ) (from count : ℕ) (floor bound : ℕ → ℕ) : Type 0 where
  pub each : (i : ℕ) → i < count → InRange (floor i) (bound i) (get_or bytes (from + i) 0)

-- the count is there and in its range
pub record CountGood (width : CountWidth) (low high : ℕ) (rest : List ℕ) (count : ℕ) : Type 0 where
  pub present : count_bytes width ≤ length rest
  pub is_count : count ≡ count_at width rest
  pub above : low ≤ count
  pub within : count ≤ high

-- the entries are there and each is in its range
pub record EntriesGood (from size : ℕ) (floor bound : ℕ → ℕ) (rest : List ℕ) : Type 0 where
  pub present : from + size ≤ length rest
  pub entries : AllInRange rest from size floor bound

-- a byte in its range is not outside
pub not_outside : {floor bound byte : ℕ} → InRange floor bound byte → (byte < floor) ⊎ (bound ≤ byte) → ⊥
not_outside r o = ⊎_elim (λ l. omega (arith, r.above)) (λ l. omega (arith, r.below)) o

-- enough bytes
pub long_passes : {needed : ℕ} {rest : List ℕ} → needed ≤ length rest → (at : ℕ) (place : ℕ) → TruncatedAt needed at rest place → ⊥
long_passes h at place t = omega (arith, t.short)

-- and the other way round
not_cut : {needed at : ℕ} {rest : List ℕ} → ((place : ℕ) → TruncatedAt needed at rest place → ⊥) → needed ≤ length rest
not_cut {needed} {at} {rest} f =
    let g : length rest < needed → ⊥ = λ l. f (at + length rest) (record { short = l; is_place = refl }) in
    omega arith

module _ (width : CountWidth) (low high input at : ℕ) (rest : List ℕ) where
  -- no count
  pub count_cut : length rest < count_bytes width → FirstFailure (count_checks width low high input at rest) (refused Truncated input (at + length rest))
  count_cut h = first_fails (record { refusal = Truncated; input = input; Fails = TruncatedAt (count_bytes width) at rest }) (record { short = h; is_place = refl })

  -- a count out of its range
  pub count_out : count_bytes width ≤ length rest → (count_at width rest < low) ⊎ (high < count_at width rest)
      → FirstFailure (count_checks width low high input at rest) (refused CountOutOfRange input at)
  count_out h o =
      first_passes (record { nowhere = long_passes h at })
      (first_fails (record { refusal = CountOutOfRange; input = input; Fails = CountOutAt (count_at width rest) low high at }) (record { outside = o; is_place = refl }))

  -- a good count
  pub count_passes : {count : ℕ} → CountGood width low high rest count → FirstFailure (count_checks width low high input at rest) passed
  count_passes g =
      first_passes (record { nowhere = long_passes g.present at })
      (first_passes (record { nowhere = λ place o. ⊎_elim (λ l. omega (arith, g.is_count, g.above)) (λ l. omega (arith, g.is_count, g.within)) o.outside }) none_left)

module _ (from size : ℕ) (floor bound : ℕ → ℕ) (input at : ℕ) (rest : List ℕ) where
  -- entries missing
  pub entries_cut : length rest < from + size → FirstFailure (entry_checks from size floor bound input at rest) (refused Truncated input (at + length rest))
  entries_cut h = first_fails (record { refusal = Truncated; input = input; Fails = TruncatedAt (from + size) at rest }) (record { short = h; is_place = refl })

  -- an entry out of its range
  pub entries_out : {index : ℕ} → from + size ≤ length rest → FirstOut rest from size floor bound index
      → FirstFailure (entry_checks from size floor bound input at rest) (refused EntryOutOfRange input (at + (from + index)))
  entries_out {index} h o =
      first_passes (record { nowhere = long_passes h at })
      (first_fails (record { refusal = EntryOutOfRange; input = input; Fails = EntryOutAt rest from size floor bound at })
      (record { index = index; below = o.below; outside = o.outside; first = o.first; is_place = refl }))

  -- good entries
  pub entries_pass : EntriesGood from size floor bound rest → FirstFailure (entry_checks from size floor bound input at rest) passed
  entries_pass g =
      first_passes (record { nowhere = long_passes g.present at })
      (first_passes (record { nowhere = λ place o. not_outside (g.entries.each o.index o.below) o.outside }) none_left)

-- a byte is in its range or outside
range_dec : (floor bound byte : ℕ) → InRange floor bound byte ⊎ ((byte < floor) ⊎ (bound ≤ byte))
range_dec floor bound byte = go (dec_lt byte floor) (dec_lt byte bound)
  where
    go : Dec (byte < floor) → Dec (byte < bound) → InRange floor bound byte ⊎ ((byte < floor) ⊎ (bound ≤ byte))
    go (yes l) d = inr (inl l)
    go (no f) (yes l) = inl (record { above = omega arith; below = l })
    go (no f) (no g) = inr (inr (omega arith))

module _ (rest : List ℕ) (from size : ℕ) (floor bound : ℕ → ℕ) (at : ℕ) where
  -- no entry is the first out of its range
  abbrev NoFirst : Type 0
  NoFirst = (place : ℕ) → EntryOutAt rest from size floor bound at place → ⊥

  abbrev Good : ℕ → Type 0
  Good i = InRange (floor i) (bound i) (get_or rest (from + i) 0)

  -- then one more entry is in its range where all before it are
  next_good : NoFirst → (n : ℕ) → n < size → ((i : ℕ) → i < n → Good i) → Good n
  next_good nowhere n l earlier =
      ⊎_elim (λ g. g)
      (λ o. absurd (nowhere (at + (from + n)) (record { index = n; below = l; outside = o; first = earlier; is_place = refl })))
      (range_dec (floor n) (bound n) (get_or rest (from + n) 0))

  -- and so all are
  none_first : NoFirst → (n : ℕ) → n ≤ size → (i : ℕ) → i < n → Good i
  none_first nowhere zero l i h = absurd (let z : ⊥ = omega arith in z)
  none_first nowhere (suc n) l i h =
      let earlier : (j : ℕ) → j < n → Good j = none_first nowhere n (omega arith) in
      below_more Good n earlier (next_good nowhere n l earlier) i (omega arith)

  -- one entry only is the first out of its range
  entry_place : (p q : ℕ) → EntryOutAt rest from size floor bound at p → EntryOutAt rest from size floor bound at q → p ≡ q
  entry_place p q a b =
      let f : a.index < b.index → ⊥ = λ h. not_outside (b.first a.index h) a.outside in
      let g : b.index < a.index → ⊥ = λ h. not_outside (a.first b.index h) b.outside in
      omega arith

-- a section as it should be: its count there and in its range, its entries there and each in its range
pub record SectionGood (s : Section) (rest : List ℕ) : Type 0 where
  pub count_present : count_bytes s.width ≤ length rest
  pub above : s.low ≤ count_at s.width rest
  pub within : count_at s.width rest ≤ s.high
  pub entries_present : count_bytes s.width + s.entries (count_at s.width rest) ≤ length rest
  pub entries_good : (i : ℕ) → i < s.entries (count_at s.width rest)
      → InRange (s.floor (count_at s.width rest) i) (s.bound (count_at s.width rest) i) (get_or rest (count_bytes s.width + i) 0)

module _ (s : Section) (input at : ℕ) (rest : List ℕ) where
  -- a refusal of the count refuses the section
  pub section_count_refused : {number p : ℕ} → FirstFailure (count_checks s.width s.low s.high input at rest) (numbered number input p)
      → FirstFailure (section_checks s input at rest) (numbered number input p)
  unfolding section_checks
  section_count_refused f = refused_before _ _ f

  -- after a good count the entries decide
  pub section_entries_decide : {count : ℕ} {v : Verdict} → CountGood s.width s.low s.high rest count
      → FirstFailure (entry_checks (count_bytes s.width) (s.entries count) (s.floor count) (s.bound count) input at rest) v
      → FirstFailure (section_checks s input at rest) v
  unfolding section_checks
  section_entries_decide {count} {v} g f =
      passed_before _ _ (count_passes s.width s.low s.high input at rest g)
      (subst (λ (n : ℕ). FirstFailure (entry_checks (count_bytes s.width) (s.entries n) (s.floor n) (s.bound n) input at rest) v) g.is_count f)

  -- good entries pass it
  pub section_passes : {count : ℕ} → CountGood s.width s.low s.high rest count
      → EntriesGood (count_bytes s.width) (s.entries count) (s.floor count) (s.bound count) rest → FirstFailure (section_checks s input at rest) passed
  section_passes g f = section_entries_decide g (entries_pass _ _ _ _ input at rest f)

  -- a section that passes is as it should be
  pub passed_good : FirstFailure (section_checks s input at rest) passed → SectionGood s rest
  unfolding section_checks
  passed_good f =
      let there = (passes_head f).nowhere in
      let range = (passes_head (passes_tail f)).nowhere in
      let full = (passes_head (passes_tail (passes_tail f))).nowhere in
      let first = (passes_head (passes_tail (passes_tail (passes_tail f)))).nowhere in
      record {
        count_present = not_cut there;
        above = let h : count_at s.width rest < s.low → ⊥ = λ l. range at (record { outside = inl l; is_place = refl }) in omega arith;
        within = let h : s.high < count_at s.width rest → ⊥ = λ l. range at (record { outside = inr l; is_place = refl }) in omega arith;
        entries_present = not_cut full;
        entries_good =
            none_first rest (count_bytes s.width) (s.entries (count_at s.width rest)) (s.floor (count_at s.width rest))
            (s.bound (count_at s.width rest)) at first _ (omega arith);
      }

  -- and a section that is as it should be passes
  pub good_passes : SectionGood s rest → FirstFailure (section_checks s input at rest) passed
  good_passes g =
      section_passes
      (record { present = g.count_present; is_count = refl; above = g.above; within = g.within })
      (record { present = g.entries_present; entries = record { each = g.entries_good } })

  -- each check fails at one place at most
  pub section_single : AllSingle (section_checks s input at rest)
  unfolding section_checks
  section_single =
      single_cons (single_at (λ place (a : TruncatedAt _ _ _ place). a.is_place))
      (single_cons (single_at (λ place (a : CountOutAt _ _ _ _ place). a.is_place))
      (single_cons (single_at (λ place (a : TruncatedAt _ _ _ place). a.is_place))
      (single_cons (record { one_place = entry_place rest _ _ _ _ at }) single_nil)))
