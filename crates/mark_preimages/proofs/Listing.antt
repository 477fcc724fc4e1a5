-- The lists of values while they are written: the two stores of one value, one value more in the lists of a letter, and one
-- letter more. Assumes nothing.
use Prim.Native.Nat.{ℕ, ◌+◌, ◌*◌, ◌≤◌, ◌<◌}
use mathlib.Core.Path.{◌≡◌, refl, sym, ◌∙◌}
use mathlib.Core.Logic.{◌≢◌}
use mathlib.Core.List.{List}
use native.Mathlib.Omega.{arith}
use native.Mathlib.Decide.{ℕ_discrete}
use lib.ListN.{length, get_or, set, length-set}
use lib.Seq.{get_or-set_same, get_or-set_other}
use Rattle.theory.specs.Rules.{Morphism}
use Rattle.scratch.specs.Preimages.{after_letter, LastBelow, first_at, next_at, LetterPreimages, PreimagesRoom, PreimagesListed}
use Rattle.mark_preimages.specs.Listing.{ValueNeeds, ValueListed, LetterRoom, OthersKept, LetterListed, LettersListed}
use Rattle.mark_preimages.proofs.LastBelow.{last_none, last_found, last_kept}
use Rattle.scratch.specs.Map.{first_preimages_base, next_preimages_base, search_end}
use Rattle.scratch.proofs.Unchanged.{unchanged_none, unchanged_both}

-- the two stores of a value
pub value_listed : {l : List ℕ} {a c x : ℕ} → ValueNeeds l a c x
    → ValueListed l (set (set l (next_preimages_base + (a * 65 + c)) (get_or l (first_preimages_base + (a * 65 + x)) 0)) (first_preimages_base + (a * 65 + x)) (c + 1)) a c x
unfolding first_at next_at
value_listed {l} {a} {c} {x} p =
    let between = set l (next_preimages_base + (a * 65 + c)) (get_or l (first_preimages_base + (a * 65 + x)) 0) in
    record {
      same_length = simp length-set;
      first = get_or-set_same between (first_preimages_base + (a * 65 + x)) (c + 1) 0 (simp length-set (omega (arith, p)));
      next =
          get_or-set_other between (first_preimages_base + (a * 65 + x)) (next_preimages_base + (a * 65 + c)) (c + 1) 0 (λ e. omega (arith, p))
          ∙ get_or-set_same l (next_preimages_base + (a * 65 + c)) (get_or l (first_preimages_base + (a * 65 + x)) 0) 0 (omega (arith, p));
      others = λ i f g.
          get_or-set_other between (first_preimages_base + (a * 65 + x)) i (c + 1) 0 f ∙ get_or-set_other l (next_preimages_base + (a * 65 + c)) i (get_or l (first_preimages_base + (a * 65 + x)) 0) 0 g;
    }

-- one value more
module _ {a c x : ℕ} {entry exit : List ℕ} (s : ValueListed entry exit a c x) (ha : a < 16) (hc : c < 65) (hx : x < 65) where
  -- another list of the letter begins as it did
  first_other : (y : ℕ) → y < 65 → (y ≡ x → ⊥) → first_at exit a y ≡ first_at entry a y
  unfolding first_at
  first_other y hy f = let g : y ≢ x = f in s.others (first_preimages_base + (a * 65 + y)) (λ e. omega arith) (λ e. omega arith)

  -- and goes on after another value as it did
  next_other : (d : ℕ) → d < 65 → (d ≡ c → ⊥) → next_at exit a d ≡ next_at entry a d
  unfolding next_at
  next_other d hd f = let g : d ≢ c = f in s.others (next_preimages_base + (a * 65 + d)) (λ e. omega arith) (λ e. omega arith)

  -- the lists of other letters and what stands outside the lists are as they were
  value_others : OthersKept a entry exit
  unfolding first_at next_at
  value_others = record {
    firsts = λ b y f hb hy. let g : b ≢ a = f in s.others (first_preimages_base + (b * 65 + y)) (λ e. omega arith) (λ e. omega arith);
    nexts = λ b d f hb hd. let g : b ≢ a = f in s.others (next_preimages_base + (b * 65 + d)) (λ e. omega arith) (λ e. omega arith);
    kept = record {
      same_length = s.same_length;
      before = λ i h. s.others i (λ e. omega arith) (λ e. omega arith);
      after = λ i h. s.others i (λ e. omega arith) (λ e. omega arith);
    };
  }

  -- the value stands in the list of the element that the letter takes it to
  value_more : {m : Morphism} → m.size ≤ 64 → x < m.size → x ≡ after_letter m a c → LetterPreimages m a c entry → LetterPreimages m a (c + 1) exit
  value_more {m} small inside e l = record {
    firsts = λ y h. first_case y h (ℕ_discrete y x);
    nexts = λ d h. next_case d h (ℕ_discrete d c);
  }
    where
      first_case : (y : ℕ) → y < m.size → Dec (y ≡ x) → LastBelow (λ d. after_letter m a d ≡ y) (c + 1) (first_at exit a y)
      first_case y h (yes p) = rw (p, s.first) (last_found c (sym e))
      first_case y h (no f) = rw (first_other y (omega arith) f) (last_kept (l.firsts y h) (λ p. f (sym p ∙ sym e)))

      next_case : (d : ℕ) → d < c + 1 → Dec (d ≡ c) → LastBelow (λ i. after_letter m a i ≡ after_letter m a d) d (next_at exit a d)
      next_case d h (yes p) = rw (p, s.next, ← e) (l.firsts x inside)
      next_case d h (no f) = let g : d ≢ c = f in rw (next_other d (omega arith) f) (l.nexts d (omega arith))

-- no value of the letter is listed
pub letter_none : {m : Morphism} {a : ℕ} {l : List ℕ} → m.size ≤ 64 → LetterRoom l a → LetterListed m a 0 l l
letter_none {m} {a} {l} small room = record {
  listed = record { firsts = λ x h. rw (room.blank x (omega arith)) last_none; nexts = λ c h. absurd (omega arith) };
  others = record { firsts = λ b x f hb hx. refl; nexts = λ b c f hb hc. refl; kept = unchanged_none first_preimages_base search_end l };
}

-- one value more of the letter is listed
pub letter_more : {m : Morphism} {a c x : ℕ} {entry now next : List ℕ} → m.size ≤ 64 → a < 16 → c ≤ m.size → x < m.size → x ≡ after_letter m a c
    → LetterListed m a c entry now → ValueListed now next a c x → LetterListed m a (c + 1) entry next
letter_more small ha hc hx e l s =
    let k = value_others s ha (omega arith) (omega arith) in
    record {
      listed = value_more s ha (omega arith) (omega arith) small hx e l.listed;
      others = record {
        firsts = λ b y f hb hy. k.firsts b y f hb hy ∙ l.others.firsts b y f hb hy;
        nexts = λ b d f hb hd. k.nexts b d f hb hd ∙ l.others.nexts b d f hb hd;
        kept = unchanged_both l.others.kept k.kept;
      };
    }

-- no letter's values are listed
pub letters_none : {m : Morphism} {l : List ℕ} → m.letters ≤ 16 → PreimagesRoom l → LettersListed m 0 l l
unfolding first_at
letters_none {m} {l} few room = record {
  listed = λ b h. absurd (omega arith);
  blank = λ b x h hb hx. room.blank (first_preimages_base + (b * 65 + x)) (omega arith) (omega arith);
  kept = unchanged_none first_preimages_base search_end l;
}

module _ {m : Morphism} {a : ℕ} {entry now : List ℕ} (l : LettersListed m a entry now) where
  -- the next letter's values are not listed yet
  pub letters_room : search_end ≤ length entry → a < m.letters → LetterRoom now a
  letters_room h la = record { room = omega (arith, l.kept.same_length); blank = λ x hx. l.blank a x (omega arith) la hx }

  -- one letter more
  pub letters_more : {next : List ℕ} → m.size ≤ 64 → m.letters ≤ 16 → a < m.letters → LetterListed m a (m.size + 1) now next
      → LettersListed m (a + 1) entry next
  letters_more {next} small few la s = record {
    listed = λ b h. letter_case b h (ℕ_discrete b a);
    blank = λ b x h hb hx. s.others.firsts b x (λ e. omega arith) (omega arith) hx ∙ l.blank b x (omega arith) hb hx;
    kept = unchanged_both l.kept s.others.kept;
  }
    where
      letter_case : (b : ℕ) → b < a + 1 → Dec (b ≡ a) → LetterPreimages m b (m.size + 1) next
      letter_case b h (yes e) = rw e s.listed
      letter_case b h (no f) =
          let g : b ≢ a = f in
          let o = l.listed b (omega arith) in
          record {
            firsts = λ x hx. rw (s.others.firsts b x f (omega arith) (omega arith)) (o.firsts x hx);
            nexts = λ c hc. rw (s.others.nexts b c f (omega arith) (omega arith)) (o.nexts c hc);
          }

  -- every letter's values are listed
  pub letters_all : m.letters ≤ a → PreimagesListed m entry now
  letters_all h = record { preimages = record { listed = λ b hb. l.listed b (omega arith) }; kept = l.kept }
