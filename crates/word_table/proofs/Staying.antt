-- What does not change while bytes behind the records do: the records, the words, and where the words lead. Assumes nothing.
use Prim.Native.Nat.{ℕ, zero, suc, ◌+◌, ◌≤◌, ◌<◌}
use mathlib.Core.Path.{◌≡◌, sym, ap, ap₂, ◌∙◌}
use mathlib.Core.List.{List}
use native.Mathlib.Omega.{arith}
use Rattle.finite.proofs.Numbers.{strong_induction}
use Rattle.finite.proofs.FirstWords.{after, after_snoc}
use Rattle.scratch.specs.Bytes.{UnchangedOutside}
use Rattle.scratch.specs.Map.{laid_products_base, laid_end}
use Rattle.word_steps.specs.Records.{step_place, parent_place, letter_place, next_at, parent_at, letter_at, word_at, RecordsKept}
use Rattle.word_steps.proofs.Words.{word_empty, word_step_lem}
use Rattle.word_table.specs.Laying.{step_from, TableNeeds, AlongWord}
use Rattle.word_table.proofs.Numbers.{needs_rooted}

-- bytes behind the records changed at most
abbrev pub LaidBehind : List ℕ → List ℕ → Type 0
LaidBehind entry now = UnchangedOutside laid_products_base laid_end entry now

pub behind_kept : {a b : List ℕ} → LaidBehind a b → RecordsKept a b
behind_kept k = record { same = λ i h l. k.before i l }

module _ {a b : List ℕ} (kept : LaidBehind a b) where
  pub step_stays : (p x : ℕ) → p ≤ 64 → x < 16 → next_at b p x ≡ next_at a p x
  step_stays p x h l = kept.before (step_place p x) (omega arith)

  pub parent_stays : (j : ℕ) → j < 64 → parent_at b j ≡ parent_at a j
  parent_stays j h = kept.before (parent_place j) (omega arith)

  pub letter_stays : (j : ℕ) → j < 64 → letter_at b j ≡ letter_at a j
  letter_stays j h = kept.before (letter_place j) (omega arith)

  pub needs_stay : {count : ℕ} → TableNeeds a count → TableNeeds b count
  needs_stay l =
      let few = l.few in
      record {
        few = few;
        room = rw kept.same_length l.room;
        parents = λ j h. rw (parent_stays j (omega arith)) (l.parents j h);
        letters = λ j h. rw (letter_stays j (omega arith)) (l.letters j h);
        steps = λ i j hi hj.
            let small = l.letters j hj in
            rw (letter_stays j (omega arith), step_stays (i + 1) _ (omega arith) small) (l.steps i j hi hj);
      }

-- where the word of an entry leads from class i: to a class, and to the same one
record LeadsAlike (a b : List ℕ) (count i e : ℕ) : Type 0 where
  below : after (step_from a) i (word_at a e) < count
  same : after (step_from b) i (word_at b e) ≡ after (step_from a) i (word_at a e)

module _ {a b : List ℕ} {count i : ℕ} (kept : LaidBehind a b) (l : TableNeeds a count) (hi : i < count) where
  -- the word of a class, and where it leads, from the entry that it was found from
  leads_from : {c : List ℕ} → TableNeeds c count → (j : ℕ) → j < count
      → after (step_from c) i (word_at c (suc j)) ≡ next_at c (after (step_from c) i (word_at c (parent_at c j)) + 1) (letter_at c j)
  leads_from {c} n j h = ap (after (step_from c) i) (word_step_lem (needs_rooted n) j h) ∙ after_snoc (step_from c) i (word_at c (parent_at c j)) (letter_at c j)

  leads_alike : (e : ℕ) → e ≤ count → LeadsAlike a b count i e
  unfolding after
  leads_alike = strong_induction (λ e. e ≤ count → LeadsAlike a b count i e) go
    where
      nothing : (c : List ℕ) → after (step_from c) i (word_at c 0) ≡ i
      nothing c = ap (after (step_from c) i) (word_empty c)

      go : (e : ℕ) → ((f : ℕ) → f < e → f ≤ count → LeadsAlike a b count i f) → e ≤ count → LeadsAlike a b count i e
      go zero before h = record { below = rw (nothing a) hi; same = nothing b ∙ sym (nothing a) }
      go (suc j) before h =
          let g : j < count = omega arith in
          let few = l.few in
          let p = l.parents j g in
          let q = before (parent_at a j) (omega arith) (omega arith) in
          let below = q.below in
          let small = l.letters j g in
          record {
            below = rw (leads_from l j g) (l.steps _ j below g);
            same =
                leads_from (needs_stay kept l) j g
                ∙ ap₂ (λ (y x : ℕ). next_at b (after (step_from b) i (word_at b y) + 1) x) (parent_stays kept j (omega arith)) (letter_stays kept j (omega arith))
                ∙ ap (λ (y : ℕ). next_at b (y + 1) (letter_at a j)) q.same
                ∙ step_stays kept (after (step_from a) i (word_at a (parent_at a j)) + 1) (letter_at a j) (omega arith) small
                ∙ sym (leads_from l j g);
          }

  pub along_stays : {j r : ℕ} → j < count → AlongWord count a i j r → AlongWord count b i j r
  along_stays {j} hj t = record { below = t.below; along = t.along ∙ sym (leads_alike (suc j) (omega arith)).same }
