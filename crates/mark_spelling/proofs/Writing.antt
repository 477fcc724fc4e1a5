-- A word that is written to the front of a buffer from its last letter back to its first, and then turned round: how far the
-- writing has come, for any word, and for that of an entry. Assumes nothing.
use Rattle.std.proofs.Common.{◌≡◌, ℕ, suc, ◌+◌, ◌-◌, ◌<◌, ◌≤◌, List, [], ◌∷◌, ◌++◌, length, get_or, set, take, drop, reverse, refl, sym, ap, ◌∙◌, append_assoc, length-append, arith}
use Rattle.std.proofs.lemmas.Grind.{reverse_onto}
use Rattle.std.proofs.lemmas.List.{reverse-reverse, length-reverse, append-nil}
use Rattle.std.proofs.Math.ListN.{length-set}
use Rattle.std.proofs.Math.Seq.{drop-cons, set-append_seam, take-append_seam, drop-append_seam}
use Rattle.finite.proofs.Shortlex.{snoc, length_snoc}
use Rattle.rule_reach.proofs.Words.{word_at}
use Rattle.mark_spelling.specs.Spelling.{EntryNeeds}
use Rattle.formats.specs.Front.{AtFront}
use Rattle.mark_spelling.proofs.Entries.{entry_first, entry_step}

-- a letter written behind others that are turned round
written_more : (rest entry : List ℕ) (a : ℕ) → length rest < length entry
    → set (reverse rest ++ drop (length rest) entry) (length rest) a ≡ reverse (a ∷ rest) ++ drop (suc (length rest)) entry
written_more rest entry a h = go (length rest) (length-reverse rest) h
  where
    go : (k : ℕ) → length (reverse rest) ≡ k → k < length entry → set (reverse rest ++ drop k entry) k a ≡ reverse (a ∷ rest) ++ drop (suc k) entry
    go k e l = rw (drop-cons entry k 0 l, reverse_onto rest a [], append_assoc, ← e) (set-append_seam (reverse rest) _ _ a)

-- two lists at the seam between them
seam : (xs ys : List ℕ) (k : ℕ) → length xs ≡ k → (take k (xs ++ ys) ≡ xs) × (drop k (xs ++ ys) ≡ ys)
seam xs ys k e = rw (← e) (take-append_seam xs ys, drop-append_seam xs ys)

-- the word is its front and the rest, which was written from its last letter to its first
pub record RestWritten (word front entry now : List ℕ) (letters : ℕ) : Type 0 where
  pub rest : List ℕ
  pub whole : word ≡ front ++ rest
  pub counts : letters ≡ length rest
  pub written : now ≡ reverse rest ++ drop (length rest) entry

-- nothing was written
pub rest_none : {word entry : List ℕ} → RestWritten word word entry entry 0
rest_none {word} {entry} = record { rest = []; whole = sym (append-nil word); counts = refl; written = refl }

module _ {word front entry now : List ℕ} {letters : ℕ} (w : RestWritten word front entry now letters) where
  -- the last letter of the front
  pub rest_more : (less : List ℕ) (a : ℕ) → front ≡ snoc less a → letters < length entry → RestWritten word less entry (set now letters a) (letters + 1)
  rest_more less a e h =
      let counts = w.counts in
      let written = w.written in
      let more = written_more w.rest entry a (omega arith) in
      record {
        rest = a ∷ w.rest;
        whole = w.whole ∙ ap (λ (f : List ℕ). f ++ w.rest) e ∙ append_assoc less (a ∷ []) w.rest;
        counts = omega arith;
        written = cc;
      }

  -- the whole word was written, and is turned round
  pub rest_all : front ≡ [] → AtFront word entry (reverse (take letters now) ++ drop letters now) letters
  rest_all e =
      let whole : word ≡ w.rest = w.whole ∙ ap (λ (f : List ℕ). f ++ w.rest) e in
      let counts = w.counts in
      let parts = seam (reverse w.rest) (drop (length w.rest) entry) letters (length-reverse w.rest ∙ sym counts) in
      let written = w.written in
      let turned = reverse-reverse w.rest in
      record {
        holds =
            ap (λ (l : List ℕ). reverse l ++ drop letters now) (ap (take letters) written ∙ parts.0)
            ∙ ap (λ (l : List ℕ). reverse (reverse w.rest) ++ l) (ap (drop letters) written ∙ parts.1)
            ∙ ap (λ (l : List ℕ). l ++ drop (length w.rest) entry) turned
            ∙ ap (λ (l : List ℕ). l ++ drop (length l) entry) (sym whole);
        counts = counts ∙ ap length (sym whole);
      }

-- the letters that lead from entry `place` to that of the word were written
pub record Spelling (queue : List ℕ) (word : List ℕ) (place : ℕ) (entry now : List ℕ) (letters : ℕ) : Type 0 where
  pub here : EntryNeeds queue place
  pub rest_written : RestWritten word (word_at queue place) entry now letters
  pub long : length word ≤ length entry
  pub same_length : length now ≡ length entry

-- no letter was written
pub spelling_none : {queue : List ℕ} {at : ℕ} {entry : List ℕ} → EntryNeeds queue at → length (word_at queue at) ≤ length entry
    → Spelling queue (word_at queue at) at entry entry 0
spelling_none p h = record {
  here = p;
  rest_written = rest_none;
  long = h;
  same_length = refl;
}

module _ {queue word : List ℕ} {place : ℕ} {entry now : List ℕ} {letters : ℕ} (s : Spelling queue word place entry now letters) where
  -- there is room for a letter at an entry other than the first
  pub spelling_room : 0 < place → letters < length word
  spelling_room h =
      omega (
        arith,
        s.rest_written.counts,
        ap length s.rest_written.whole,
        length-append (word_at queue place) s.rest_written.rest,
        ap length (entry_step s.here h).spelled,
        length_snoc (word_at queue (get_or queue (64 + (place - 1)) 0)) (get_or queue (128 + (place - 1)) 0),
      )

  -- one letter more
  pub spelling_more : 0 < place
      → Spelling queue word (get_or queue (64 + (place - 1)) 0) entry (set now letters (get_or queue (128 + (place - 1)) 0)) (letters + 1)
  spelling_more h =
      let t = entry_step s.here h in
      record {
        here = t.parent_place;
        rest_written = rest_more s.rest_written _ _ t.spelled (omega (arith, spelling_room h, s.long));
        long = s.long;
        same_length = length-set now letters _ ∙ s.same_length;
      }

  -- all letters were written, and are turned round
  pub spelling_all : place ≤ 0 → AtFront word entry (reverse (take letters now) ++ drop letters now) letters
  spelling_all h = rest_all s.rest_written (entry_first s.here (omega arith))
