-- The search for the least element that is related to another, the blocks while they are written, and blocks of relations that
-- agree. Assumes nothing.
use Rattle.std.specs.Prelude.{Option, Some, None}
use Rattle.std.specs.Bool.{⊤}
use Rattle.std.specs.Fn.{CalledAt}
use Rattle.std.specs.Iterator.{YieldsThen}
use Rattle.std.specs.List.{FoldsTo}
use Rattle.std.specs.Option.{MatchOption, unwrap_or}
use Rattle.std.specs.declared.ops.Range.{Range}
use Rattle.std.proofs.iter.Yields.{nat_range_steps}
use Rattle.std.proofs.lemmas.Iterator.{first_from_Range}
use denote.Param.Members.{Mut}
use denote.Ref.{Bor}
use Prim.Native.Nat.{ℕ, ◌+◌, ◌≤◌, ◌<◌}
use mathlib.Core.Path.{◌≡◌, refl, sym, ap, subst, ◌∙◌}
use mathlib.Core.Bool.{Bool, true, false}
use mathlib.Core.Logic.{◌≢◌, ◌↔◌}
use mathlib.Core.List.{List}
use native.Mathlib.Omega.{arith}
use native.Mathlib.Decide.{ℕ_discrete}
use lib.ListN.{length, get_or, set}
use lib.Seq.{get_or-set_same, get_or-set_other}
use Rattle.finite.proofs.Numbers.{Compared, lesser, level, greater, compared_numbers}
use Rattle.minimality.proofs.Blocks.{tab_from, length_tab, get_d_tab, equal_related, related_equal}
use Rattle.theory.specs.Rounds.{IsBlocks}
use Rattle.reduce_first_round.specs.Map.{BlocksAt}
use Rattle.finite.specs.Tells.{Tells}
use Rattle.reduce_first_round.specs.Steps.{LeastRelated, BlocksWritten}
use Rattle.scratch.proofs.Unchanged.{unchanged_none, unchanged_both, unchanged_set}

-- what a search over the elements below s finds, or s itself where it finds none, if the answer of the closure tells of each whether it is related to s
pub least_found : {F : Type 0} {g : Mut F (Bor ℕ × Unit {0}) Bool} {R : ℕ → ℕ → Type 0} {s : ℕ} {from : Range ℕ} (left : Range ℕ) (f : F) (found : Option ℕ)
    → from ≡ record { start = 0; end = s }
    → (xs : List ℕ) × (j : F) × YieldsThen nat_range_steps from xs found left × FoldsTo (λ p x q. CalledAt g p x false q) f xs j
    × MatchOption found ⊤ (λ x. (h : F) × CalledAt g j x true h)
    → ((x : ℕ) (b : Bool) (q : F) → CalledAt g f x b q → (q ≡ f) × Tells (R x s) b) → R s s → {r : ℕ} → r ≡ unwrap_or found s → LeastRelated R s r
least_found {R = R} {s} {from} left f found e ran told itself said =
    subst (LeastRelated R s) (sym said) (go found (first_from_Range from left f found (λ t. R t s) (λ t. R t s → ⊥) ran (λ x q k. (told x true q k).1.holds refl) (λ x q k. let t = told x false q k in (t.0, t.1.fails refl))))
  where
    starts : from.start ≡ 0
    starts = ap (λ (r : Range ℕ). r.start) e

    ends : from.end ≡ s
    ends = ap (λ (r : Range ℕ). r.end) e

    go : (found : Option ℕ)
        → MatchOption found ((k : ℕ) → from.start ≤ k → k < from.end → R k s → ⊥) (λ i. (from.start ≤ i) × (i < from.end) × R i s × ((k : ℕ) → from.start ≤ k → k < i → R k s → ⊥))
        → LeastRelated R s (unwrap_or found s)
    go (Some t) a = record { at_most = let h = a.1 in omega (arith, ends); related = a.2; least = λ u h. a.3 u (omega (arith, starts)) h }
    go None a = record { at_most = omega arith; related = itself; least = λ u h. a u (omega (arith, starts)) (omega (arith, ends)) }

-- relations that agree have the same least element
pub least_carry : {R S : ℕ → ℕ → Type 0} {s r : ℕ} → ((t : ℕ) → t ≤ s → R t s ↔ S t s) → LeastRelated R s r → LeastRelated S s r
least_carry {r = r} f l = record {
  at_most = l.at_most;
  related = (f r l.at_most).0 l.related;
  least = λ t h q. l.least t h ((f t (omega (arith, l.at_most))).1 q);
}

-- there is one least element
pub least_unique : {R : ℕ → ℕ → Type 0} {s r q : ℕ} → LeastRelated R s r → LeastRelated R s q → r ≡ q
least_unique {r = r} {q = q} l k = go (compared_numbers r q)
  where
    go : Compared r q → r ≡ q
    go (lesser h) = absurd (k.least r h l.related)
    go (level e) = e
    go (greater h) = absurd (l.least q h k.related)

-- the blocks, element by element
pub least_at : {n : ℕ} {R : ℕ → ℕ → Type 0} {l : List ℕ} {base : ℕ} → BlocksAt n R l base → (s : ℕ) → s < n → LeastRelated R s (get_or l (base + s) 0)
least_at b s h = record { at_most = b.at_most s h; related = b.related s h; least = λ t. b.least s t h }

pub blocks_of : {n : ℕ} {R : ℕ → ℕ → Type 0} {l : List ℕ} {base : ℕ} → ((s : ℕ) → s < n → LeastRelated R s (get_or l (base + s) 0)) → BlocksAt n R l base
blocks_of f = record { at_most = λ s h. (f s h).at_most; related = λ s h. (f s h).related; least = λ s t h. (f s h).least t }

-- blocks of a relation that agrees
pub blocks_carry : {n : ℕ} {R S : ℕ → ℕ → Type 0} {l : List ℕ} {base : ℕ} → ((t s : ℕ) → t < n → s < n → R t s ↔ S t s)
    → BlocksAt n R l base → BlocksAt n S l base
blocks_carry f b = blocks_of (λ s h. least_carry (λ t q. f t s (omega arith) h) (least_at b s h))

-- the same bytes elsewhere
pub blocks_moved : {n : ℕ} {R : ℕ → ℕ → Type 0} {l now : List ℕ} {base to : ℕ} → ((s : ℕ) → s < n → get_or now (to + s) 0 ≡ get_or l (base + s) 0)
    → BlocksAt n R l base → BlocksAt n R now to
blocks_moved same b = blocks_of (λ s h. rw (same s h) (least_at b s h))

-- no block is written
pub written_none : {R : ℕ → ℕ → Type 0} (base : ℕ) (l : List ℕ) → BlocksWritten 0 R base l l
written_none base l = record {
  blocks = record { at_most = λ s h. absurd (omega arith); related = λ s h. absurd (omega arith); least = λ s t h. absurd (omega arith) };
  kept = unchanged_none base (base + 64) l;
}

-- one block more
pub written_more : {R : ℕ → ℕ → Type 0} {base s r : ℕ} {entry now : List ℕ} → s < 64 → base + 64 ≤ length entry → BlocksWritten s R base entry now
    → LeastRelated R s r → BlocksWritten (s + 1) R base entry (set now (base + s) r)
written_more {R} {base} {s} {r} {entry} {now} hs room w l = record {
  blocks = blocks_of (λ t h. block t h (ℕ_discrete t s));
  kept = unchanged_both w.kept (unchanged_set now (base + s) r (omega arith) (omega arith));
}
  where
    block : (t : ℕ) → t < s + 1 → Dec (t ≡ s) → LeastRelated R t (get_or (set now (base + s) r) (base + t) 0)
    block t h (yes e) = rw (e, get_or-set_same now (base + s) r 0 (omega (arith, w.kept.same_length))) l
    block t h (no g) =
        let d : t ≢ s = g in
        rw (get_or-set_other now (base + s) (base + t) r 0 (λ e. omega arith)) (least_at w.blocks t (omega arith))

-- all blocks
pub written_all : {n s : ℕ} {R : ℕ → ℕ → Type 0} {base : ℕ} {entry now : List ℕ} → n ≤ s → BlocksWritten s R base entry now → BlocksWritten n R base entry now
written_all h w = record { blocks = blocks_of (λ t l. least_at w.blocks t (omega arith)); kept = w.kept }

-- the bytes of an equivalence's blocks are equal exactly for related elements
module _ {n : ℕ} {R : ℕ → ℕ → Type 0} {l : List ℕ} {base : ℕ} (b : BlocksAt n R l base)
    (symmetric : (s t : ℕ) → R s t → R t s) (transitive : (s t u : ℕ) → R s t → R t u → R s u) where
  listed : (s : ℕ) → s < n → get_or (tab_from n 0 (λ s. get_or l (base + s) 0)) s 0 ≡ get_or l (base + s) 0
  listed s h = get_d_tab n 0 (λ s. get_or l (base + s) 0) s h ∙ ap (λ (t : ℕ). get_or l (base + t) 0) (omega arith)

  as_list : IsBlocks n R (tab_from n 0 (λ s. get_or l (base + s) 0))
  as_list = record {
    count = length_tab n 0 (λ s. get_or l (base + s) 0);
    at_most = λ s h. rw (listed s h) (b.at_most s h);
    related = λ s h. rw (listed s h) (b.related s h);
    least = λ s t h q. b.least s t h (rw (listed s h) at q);
  }

  pub bytes_related : (s t : ℕ) → s < n → t < n → get_or l (base + s) 0 ≡ get_or l (base + t) 0 → R s t
  bytes_related s t hs ht e = equal_related as_list symmetric transitive s t hs ht (listed s hs ∙ e ∙ sym (listed t ht))

  pub related_bytes : (s t : ℕ) → s < n → t < n → R s t → get_or l (base + s) 0 ≡ get_or l (base + t) 0
  related_bytes s t hs ht r = sym (listed s hs) ∙ related_equal as_list symmetric transitive s t hs ht r ∙ listed t ht
