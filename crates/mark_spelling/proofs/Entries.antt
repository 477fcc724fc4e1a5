-- The entries of a worklist that a search of words left: which entry and which letter an entry was found by, how its word is
-- made of theirs. Assumes nothing.
use Prim.Native.Nat.{ℕ, zero, suc, ◌+◌, ◌-◌, ◌≤◌, ◌<◌}
use mathlib.Core.Path.{◌≡◌}
use mathlib.Core.List.{List, []}
use native.Mathlib.Omega.{arith}
use native.Mathlib.Numerals.{sub-one}
use lib.ListN.{length, get_or}
use Rattle.finite.proofs.Shortlex.{snoc}
use Rattle.finite.proofs.FirstWords.{word_zero, word_step_lem, word_short}
use Rattle.rule_reach.specs.Reach.{parent_at, letter_at, place_at, WordOrder}
use Rattle.rule_reach.proofs.Words.{word_at}
use Rattle.mark_spelling.specs.Spelling.{EntryNeeds, SpellNeeds}

-- an entry was found from an entry before it, by a letter: its word is that entry's and then the letter
pub record FoundFrom (queue : List ℕ) (at parent letter : ℕ) : Type 0 where
  pub earlier : parent < at
  pub parent_place : EntryNeeds queue parent
  pub spelled : word_at queue at ≡ snoc (word_at queue parent) letter

module _ {queue : List ℕ} {at : ℕ} (p : EntryNeeds queue at) where
  -- there are at most 64 entries besides the first
  pub entry_small : at ≤ 64
  entry_small = omega (arith, p.within, p.words.order.few, p.words.small)

  -- a word has no more letters than the number of its entry
  pub entry_short : length (word_at queue at) ≤ at
  entry_short = word_short p.words.order.order at (omega (arith, p.within))

  -- the first entry has the empty word
  pub entry_first : at ≡ 0 → word_at queue at ≡ []
  entry_first e = rw e (word_zero p.words.order.order)

  -- another entry was found from the one that its bytes name, by the letter that they name
  pub entry_step : 0 < at → FoundFrom queue at (get_or queue (64 + (at - 1)) 0) (get_or queue (128 + (at - 1)) 0)
  unfolding parent_at letter_at
  entry_step h = go at h p.within
    where
      go : (i : ℕ) → 0 < i → i ≤ p.words.count → FoundFrom queue i (get_or queue (64 + (i - 1)) 0) (get_or queue (128 + (i - 1)) 0)
      go zero h l = absurd (omega arith)
      go (suc i) h l =
          let e = p.words.order.order.parent_lt (suc i) h (omega arith) in
          rw sub-one (record {
            earlier = e;
            parent_place = record { size = p.size; words = p.words; within = omega arith };
            spelled = word_step_lem p.words.order.order (suc i) h (omega arith);
          })

module _ {queue : List ℕ} {n s : ℕ} {out : List ℕ} (p : SpellNeeds queue n s out) where
  -- the entry of an element that was found
  pub spell_entry : EntryNeeds queue (place_at queue s)
  spell_entry = record { size = n; words = p.words; within = (p.words.order.places.of_element s p.inside p.found).0 }

  -- there is room for its word
  pub spell_room : length (word_at queue (place_at queue s)) ≤ length out
  spell_room =
      omega (arith, entry_short spell_entry, (p.words.order.places.of_element s p.inside p.found).0, p.words.order.few, p.long)

-- an element that a search of words found may be spelled
pub spell_place : {bytes : List ℕ} {n k : ℕ} {before queue : List ℕ} {count s : ℕ} {out : List ℕ} → WordOrder bytes n k before queue count
    → 256 ≤ length queue → n ≤ 64 → s < n → 0 < place_at queue s → n ≤ length out → SpellNeeds queue n s out
spell_place order room small inside found long = record {
  words = record { bytes = _; letters = _; before = _; count = _; order = order; small = small; room = room };
  inside = inside;
  found = found;
  long = long;
}
