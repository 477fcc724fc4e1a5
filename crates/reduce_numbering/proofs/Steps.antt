-- One entry of the worklist after the other: an element's number is stored, and the leader of a new block. Assumes nothing.
use Prim.Native.Nat.{ℕ, ◌+◌, ◌-◌, ◌≤◌, ◌<◌}
use mathlib.Core.Path.{◌≡◌, refl, sym, ap, subst, ◌∙◌}
use mathlib.Core.Logic.{◌≢◌}
use mathlib.Core.List.{List}
use native.Mathlib.Omega.{arith}
use native.Mathlib.Decide.{ℕ_discrete}
use lib.ListN.{length, get_or, set, take, drop, length-set}
use Rattle.std.proofs.lemmas.Grind.{common_steps}
use lib.Seq.{get_or-set_same, get_or-set_other}
use Rattle.scratch.specs.Map.{blocks_base, leaders_base, leaders_end, numbers_base}
use Rattle.rule_reach.specs.Reach.{place_at}
use Rattle.scratch.proofs.Unchanged.{unchanged_none, unchanged_both, unchanged_set}
use Rattle.reduce_numbering.specs.Steps.{block_at, number_at, leader_at, Sought, Taken, taken_old, taken_new, Entries, Numbered}
use Rattle.formats.specs.RuleChecks.{scratch_size}

-- the search among the leaders: none of the first j is in one block with s
pub record NoneSo (scratch : List ℕ) (s j : ℕ) : Type 0 where
  pub none : (l : ℕ) → l < j → block_at scratch (leader_at scratch l) ≡ block_at scratch s → ⊥

module _ {scratch : List ℕ} {s : ℕ} where
  pub none_start : NoneSo scratch s 0
  none_start = record { none = λ l h. absurd (omega arith) }

  pub none_next : {j : ℕ} → NoneSo scratch s j → (block_at scratch (leader_at scratch j) ≡ block_at scratch s → ⊥) → NoneSo scratch s (j + 1)
  none_next {j} w g = record { none = λ l h. at l h (ℕ_discrete l j) }
    where
      at : (l : ℕ) → l < j + 1 → Dec (l ≡ j) → block_at scratch (leader_at scratch l) ≡ block_at scratch s → ⊥
      at l h (yes e) = rw e g
      at l h (no f) = let d : l ≢ j = f in w.none l (omega arith)

  pub sought_found : {c j : ℕ} → j < c → NoneSo scratch s j → block_at scratch (leader_at scratch j) ≡ block_at scratch s → Sought scratch c s j
  sought_found h w e = record { at_most = omega arith; found = λ l. e; first = w.none }

  pub sought_none : {c j : ℕ} → c ≤ j → NoneSo scratch s j → Sought scratch c s c
  sought_none h w = record { at_most = omega arith; found = λ l. absurd (omega arith); first = λ j l. w.none j (omega arith) }

-- the bytes of a part, and the entries as the front of the worklist
module _ (l : List ℕ) (base c : ℕ) (room : base + c ≤ length l) where
  pub part_many : length (take (base + c - base) (drop base l)) ≡ c
  part_many = grind (arith, common_steps)

  pub part_item : (j : ℕ) → j < c → get_or (take (base + c - base) (drop base l)) j 0 ≡ get_or l (base + j) 0
  part_item j h = grind (arith, common_steps)

module _ (queue : List ℕ) (count : ℕ) (room : count ≤ length queue) where
  pub entries_many : length (take count queue) ≡ count
  entries_many = grind (arith, common_steps)

  pub entry_item : (i : ℕ) → i < count → get_or (take count queue) i 0 ≡ get_or queue i 0
  entry_item i h = grind (arith, common_steps)

-- no leader was found: s becomes one
pub taken_next : {entry exit : List ℕ} {c s j : ℕ} → Sought entry c s j → c ≤ j → exit ≡ set (set entry (numbers_base + s) j) (leaders_base + c) s → Taken entry exit c s (c + 1)
taken_next {entry} {exit} {c} {s} {j} f h e =
    let q : j ≡ c = omega (arith, f.at_most) in
    taken_new (rw q at f) (e ∙ ap (λ (x : ℕ). set (set entry (numbers_base + s) x) (leaders_base + c) s) q)

-- nothing gone through yet
pub numbered_none : (queue : List ℕ) (n : ℕ) (l : List ℕ) → Numbered queue n 0 0 l l
numbered_none queue n l = record {
  few = omega arith;
  some = λ h. h;
  leader_inside = λ j h. absurd (omega arith);
  leader_passed = λ j h. absurd (omega arith);
  leader_number = λ j h. absurd (omega arith);
  increasing = λ j l g h. absurd (omega arith);
  apart = λ j l g h. absurd (omega arith);
  number_below = λ t h. absurd (omega arith);
  number_block = λ t h. absurd (omega arith);
  number_first = λ t h. absurd (omega arith);
  kept = unchanged_none numbers_base leaders_end l;
}

-- one entry more
module _ {queue : List ℕ} {n count i c : ℕ} {entry now : List ℕ} (e : Entries queue n count) (hi : i < count)
    (room : scratch_size ≤ length now) (w : Numbered queue n i c entry now) where
  -- its element
  abbrev s : ℕ
  s = get_or queue i 0

  s_small : s < 64
  s_small = omega (arith, e.inside i hi, e.small)

  s_place : place_at queue s ≡ i + 1
  s_place = e.places.of_entry i hi

  -- the blocks are those of the beginning
  same_block : (t : ℕ) → t < 64 → block_at now t ≡ block_at entry t
  same_block t h = w.kept.before (blocks_base + t) (omega arith)

  leader_small : (j : ℕ) → j < c → leader_at now j < 64
  leader_small j h = omega (arith, w.leader_inside j h, e.small)

  -- entries and leaders that were gone through are other elements
  other_entry : (t : ℕ) → t < i → get_or queue t 0 ≢ s
  other_entry t h q =
      let p : t + 1 ≡ i + 1 = sym (e.places.of_entry t (omega arith)) ∙ ap (place_at queue) q ∙ s_place in
      omega arith

  other_leader : (j : ℕ) → j < c → leader_at now j ≢ s
  other_leader j h q =
      let p : place_at queue (leader_at now j) ≡ i + 1 = ap (place_at queue) q ∙ s_place in
      omega (arith, w.leader_passed j h)

  -- after a store of the number of s
  module _ (v : ℕ) where
    stored : number_at (set now (numbers_base + s) v) s ≡ v
    stored = get_or-set_same now (numbers_base + s) v 0 (omega (arith, s_small))

    leader_stays : (j : ℕ) → leader_at (set now (numbers_base + s) v) j ≡ leader_at now j
    leader_stays j = get_or-set_other now (numbers_base + s) (leaders_base + j) v 0 (λ q. omega (arith, s_small))

    number_stays : (t : ℕ) → t ≢ s → number_at (set now (numbers_base + s) v) t ≡ number_at now t
    number_stays t g = get_or-set_other now (numbers_base + s) (numbers_base + t) v 0 (λ q. g (omega arith))

  -- s is in a block that has a number
  module _ (j : ℕ) (hj : j < c) (f : Sought now c s j) where
    block_of : block_at entry (leader_at now j) ≡ block_at entry s
    block_of = sym (same_block (leader_at now j) (leader_small j hj)) ∙ f.found hj ∙ same_block s s_small

    old_below : (t : ℕ) → Dec (t ≡ i) → t < i + 1 → number_at (set now (numbers_base + s) j) (get_or queue t 0) < c
    old_below t (yes q) h = rw (q, stored j) hj
    old_below t (no g) h =
        let l : t < i = (let d : t ≢ i = g in omega arith) in
        rw (number_stays j (get_or queue t 0) (other_entry t l)) (w.number_below t l)

    old_block : (t : ℕ) → Dec (t ≡ i) → t < i + 1
        → block_at entry (leader_at (set now (numbers_base + s) j) (number_at (set now (numbers_base + s) j) (get_or queue t 0))) ≡ block_at entry (get_or queue t 0)
    old_block t (yes q) h = rw (q, stored j, leader_stays j j) block_of
    old_block t (no g) h =
        let l : t < i = (let d : t ≢ i = g in omega arith) in
        rw (number_stays j (get_or queue t 0) (other_entry t l), leader_stays j (number_at now (get_or queue t 0))) (w.number_block t l)

    old_first : (t : ℕ) → Dec (t ≡ i) → t < i + 1
        → place_at queue (leader_at (set now (numbers_base + s) j) (number_at (set now (numbers_base + s) j) (get_or queue t 0))) ≤ t + 1
    old_first t (yes q) h = rw (q, stored j, leader_stays j j) (omega (arith, w.leader_passed j hj))
    old_first t (no g) h =
        let l : t < i = (let d : t ≢ i = g in omega arith) in
        rw (number_stays j (get_or queue t 0) (other_entry t l), leader_stays j (number_at now (get_or queue t 0))) (w.number_first t l)

    pub numbered_old : Numbered queue n (i + 1) c entry (set now (numbers_base + s) j)
    numbered_old = record {
      few = omega (arith, w.few);
      some = λ h. omega arith;
      leader_inside = λ l h. rw (leader_stays j l) (w.leader_inside l h);
      leader_passed = λ l h. rw (leader_stays j l) (omega (arith, w.leader_passed l h));
      leader_number = λ l h. rw (leader_stays j l, number_stays j (leader_at now l) (other_leader l h)) (w.leader_number l h);
      increasing = λ a b g h. rw (leader_stays j a, leader_stays j b) (w.increasing a b g h);
      apart = λ a b g h. rw (leader_stays j a, leader_stays j b) (w.apart a b g h);
      number_below = λ t h. old_below t (ℕ_discrete t i) h;
      number_block = λ t h. old_block t (ℕ_discrete t i) h;
      number_first = λ t h. old_first t (ℕ_discrete t i) h;
      kept = unchanged_both w.kept (unchanged_set now (numbers_base + s) j (omega arith) (omega (arith, s_small)));
    }

  -- the block of s gets the next number
  module _ (f : Sought now c s c) where
    abbrev next : List ℕ
    next = set (set now (numbers_base + s) c) (leaders_base + c) s

    c_small : c < 64
    c_small = omega (arith, w.few, e.few, e.small)

    new_number : number_at next s ≡ c
    new_number = get_or-set_other (set now (numbers_base + s) c) (leaders_base + c) (numbers_base + s) s 0 (λ q. omega (arith, s_small)) ∙ stored c

    new_leader : leader_at next c ≡ s
    new_leader = get_or-set_same (set now (numbers_base + s) c) (leaders_base + c) s 0 (omega (arith, c_small, length-set now (numbers_base + s) c))

    leader_kept : (j : ℕ) → j < c → leader_at next j ≡ leader_at now j
    leader_kept j h = get_or-set_other (set now (numbers_base + s) c) (leaders_base + c) (leaders_base + j) s 0 (λ q. omega arith) ∙ leader_stays c j

    number_kept : (t : ℕ) → t < 64 → t ≢ s → number_at next t ≡ number_at now t
    number_kept t h g = get_or-set_other (set now (numbers_base + s) c) (leaders_base + c) (numbers_base + t) s 0 (λ q. omega arith) ∙ number_stays c t g

    -- what holds of the leaders before, and of s, holds of all
    each_leader : (P : ℕ → ℕ → Type 0) → ((j : ℕ) → j < c → P j (leader_at now j)) → P c s → (j : ℕ) → j < c + 1 → P j (leader_at next j)
    each_leader P old new j h = go (ℕ_discrete j c)
      where
        go : Dec (j ≡ c) → P j (leader_at next j)
        go (yes q) = rw (q, new_leader) new
        go (no g) = let l : j < c = (let d : j ≢ c = g in omega arith) in rw (leader_kept j l) (old j l)

    entry_small : (t : ℕ) → t < i → get_or queue t 0 < 64
    entry_small t h = omega (arith, e.inside t (omega arith), e.small)

    -- the blocks of the leaders before are not that of s
    block_new : (j : ℕ) → j < c → block_at entry (leader_at now j) ≡ block_at entry s → ⊥
    block_new j h q = f.first j h (same_block (leader_at now j) (leader_small j h) ∙ q ∙ sym (same_block s s_small))

    new_increasing : (a b : ℕ) → a < b → b < c + 1 → place_at queue (leader_at next a) < place_at queue (leader_at next b)
    new_increasing a b g h = go (ℕ_discrete b c)
      where
        go : Dec (b ≡ c) → place_at queue (leader_at next a) < place_at queue (leader_at next b)
        go (yes q) = rw (q, new_leader, leader_kept a (omega arith)) (omega (arith, w.leader_passed a (omega arith), s_place))
        go (no d) = let l : b < c = (let d' : b ≢ c = d in omega arith) in rw (leader_kept a (omega arith), leader_kept b l) (w.increasing a b g l)

    new_apart : (a b : ℕ) → a < b → b < c + 1 → block_at entry (leader_at next a) ≡ block_at entry (leader_at next b) → ⊥
    new_apart a b g h = go (ℕ_discrete b c)
      where
        go : Dec (b ≡ c) → block_at entry (leader_at next a) ≡ block_at entry (leader_at next b) → ⊥
        go (yes q) = rw (q, new_leader, leader_kept a (omega arith)) (block_new a (omega arith))
        go (no d) = let l : b < c = (let d' : b ≢ c = d in omega arith) in rw (leader_kept a (omega arith), leader_kept b l) (w.apart a b g l)

    new_below : (t : ℕ) → Dec (t ≡ i) → t < i + 1 → number_at next (get_or queue t 0) < c + 1
    new_below t (yes q) h = rw (q, new_number) (omega arith)
    new_below t (no g) h =
        let l : t < i = (let d : t ≢ i = g in omega arith) in
        rw (number_kept (get_or queue t 0) (entry_small t l) (other_entry t l)) (omega (arith, w.number_below t l))

    new_block : (t : ℕ) → Dec (t ≡ i) → t < i + 1 → block_at entry (leader_at next (number_at next (get_or queue t 0))) ≡ block_at entry (get_or queue t 0)
    new_block t (yes q) h = rw (q, new_number, new_leader) refl
    new_block t (no g) h =
        let l : t < i = (let d : t ≢ i = g in omega arith) in
        rw (number_kept (get_or queue t 0) (entry_small t l) (other_entry t l), leader_kept (number_at now (get_or queue t 0)) (w.number_below t l)) (w.number_block t l)

    new_first : (t : ℕ) → Dec (t ≡ i) → t < i + 1 → place_at queue (leader_at next (number_at next (get_or queue t 0))) ≤ t + 1
    new_first t (yes q) h = rw (q, new_number, new_leader) (omega (arith, s_place))
    new_first t (no g) h =
        let l : t < i = (let d : t ≢ i = g in omega arith) in
        rw (number_kept (get_or queue t 0) (entry_small t l) (other_entry t l), leader_kept (number_at now (get_or queue t 0)) (w.number_below t l)) (w.number_first t l)

    pub numbered_new : Numbered queue n (i + 1) (c + 1) entry next
    numbered_new = record {
      few = omega (arith, w.few);
      some = λ h. omega arith;
      leader_inside = each_leader (λ j x. x < n) w.leader_inside (e.inside i hi);
      leader_passed = each_leader (λ j x. place_at queue x ≤ i + 1) (λ j h. omega (arith, w.leader_passed j h)) (omega (arith, s_place));
      leader_number = each_leader (λ j x. number_at next x ≡ j)
          (λ j h. number_kept (leader_at now j) (leader_small j h) (other_leader j h) ∙ w.leader_number j h) new_number;
      increasing = new_increasing;
      apart = new_apart;
      number_below = λ t h. new_below t (ℕ_discrete t i) h;
      number_block = λ t h. new_block t (ℕ_discrete t i) h;
      number_first = λ t h. new_first t (ℕ_discrete t i) h;
      kept = unchanged_both w.kept (unchanged_both (unchanged_set now (numbers_base + s) c (omega arith) (omega (arith, s_small)))
          (unchanged_set (set now (numbers_base + s) c) (leaders_base + c) s (omega arith) (omega (arith, c_small))));
    }

  pub numbered_more : {exit : List ℕ} {r : ℕ} → Taken now exit c s r → Numbered queue n (i + 1) r entry exit
  numbered_more (taken_old j h f q) = rw q (numbered_old j h f)
  numbered_more (taken_new f q) = rw q (numbered_new f)

-- all entries
pub numbered_all : {queue : List ℕ} {n i count c : ℕ} {entry exit : List ℕ} → i ≤ count → count ≤ i → Numbered queue n i c entry exit → Numbered queue n count c entry exit
numbered_all {queue} {n} {i} {count} {c} {entry} {exit} g h w =
    let q : i ≡ count = omega arith in
    subst (λ (x : ℕ). Numbered queue n x c entry exit) q w
