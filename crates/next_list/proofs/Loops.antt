-- The loops over the letters of an entry and over the entries. Assumes nothing.
use Rattle.std.proofs.Common.{Option, Some, None}
use Prim.Native.Nat.{ℕ, ◌+◌, ◌≤◌, ◌<◌}
use native.Mathlib.Omega.{arith}
use mathlib.Core.Path.{◌≡◌, subst}
use mathlib.Core.List.{List}
use lib.ListN.{length}
use Rattle.theory.specs.Rules.{Morphism}
use Rattle.temporal.specs.Nexts.{MoreNextClasses}
use Rattle.scratch.proofs.Unchanged.{unchanged_none, unchanged_both}
use Rattle.formats.specs.RuleChecks.{scratch_size}
use Rattle.word_steps.proofs.Searching.{search_start, search_next, search_end_lem}
use Rattle.next_list.specs.Pairs.{Listing}
use Rattle.next_list.specs.Adding.{ListKept}
use Rattle.next_list.specs.Following.{Grown, GrownAnswer, Followed, EntryFollowed, NextListed}

-- ---- the letters of an entry

-- the letters before x were followed from entry p
pub record Following (m : Morphism) (entry : List ℕ) (count p : ℕ) (now : List ℕ) (total x : ℕ) : Type 0 where
  pub kept : ListKept entry now
  pub grown : Grown m now count p x total
  pub inside : p ≤ count
  pub within : x ≤ m.letters

pub following_start : {m : Morphism} {entry : List ℕ} {count p : ℕ} → Listing m entry count p 0 → p ≤ count → Following m entry count p entry count 0
following_start {entry = entry} l h = record {
  kept = unchanged_none _ _ entry;
  grown = record { listing = l; more = omega arith };
  inside = h;
  within = omega arith;
}

module _ {m : Morphism} {entry now : List ℕ} {count p total x : ℕ} (f : Following m entry count p now total x) where
  pub following_inside : p ≤ total
  following_inside = omega (arith, f.inside, f.grown.more)

  module _ {exit : List ℕ} {answer : Option ℕ} (s : Followed m now exit total p x answer) where
    pub following_next : {c : ℕ} → answer ≡ Some c → x < m.letters → Following m entry count p exit c (x + 1)
    following_next {c} e h =
        let g : Grown m exit total p (x + 1) c = subst (GrownAnswer m exit total p (x + 1)) e s.says in
        record {
          kept = unchanged_both f.kept s.kept;
          grown = record { listing = g.listing; more = omega (arith, f.grown.more, g.more) };
          inside = f.inside;
          within = omega arith;
        }

    pub following_full : answer ≡ None → EntryFollowed m entry exit count p None
    following_full e =
        let more : MoreNextClasses m 64 = subst (GrownAnswer m exit total p (x + 1)) e s.says in
        record { kept = unchanged_both f.kept s.kept; says = more }

  pub following_done : m.letters ≤ x → EntryFollowed m entry now count p (Some total)
  following_done h =
      let e : x ≡ m.letters = omega (arith, f.within) in
      record { kept = f.kept; says = subst (λ (y : ℕ). Grown m now count p y total) e f.grown }

-- ---- the entries

-- the entries before p were followed
pub record Entries (m : Morphism) (entry now : List ℕ) (count p : ℕ) : Type 0 where
  pub kept : ListKept entry now
  pub listing : Listing m now count p 0

pub entries_start : {m : Morphism} (entry : List ℕ) → m.letters ≤ 16 → scratch_size ≤ length entry → Entries m entry entry 0 0
entries_start entry small room = record {
  kept = unchanged_none _ _ entry;
  listing = record { search = search_start entry small; pairs = λ j h. absurd (omega arith); room = room };
}

module _ {m : Morphism} {entry now : List ℕ} {count p : ℕ} (f : Entries m entry now count p) where
  pub entries_few : count ≤ 64
  entries_few = f.listing.search.few

  module _ {exit : List ℕ} {answer : Option ℕ} (s : EntryFollowed m now exit count p answer) where
    pub entries_next : {c : ℕ} → answer ≡ Some c → Entries m entry exit c (p + 1)
    entries_next {c} e =
        let g : Grown m exit count p m.letters c = subst (GrownAnswer m exit count p m.letters) e s.says in
        record {
          kept = unchanged_both f.kept s.kept;
          listing = record { search = search_next g.listing.search (omega arith); pairs = g.listing.pairs; room = g.listing.room };
        }

    pub entries_full : answer ≡ None → NextListed m entry exit None
    entries_full e =
        let more : MoreNextClasses m 64 = subst (GrownAnswer m exit count p m.letters) e s.says in
        record { kept = unchanged_both f.kept s.kept; says = more }

  pub entries_done : count < p → NextListed m entry now (Some count)
  entries_done h = record { kept = f.kept; says = record { search = search_end_lem f.listing.search h; pairs = f.listing.pairs; room = f.listing.room } }
