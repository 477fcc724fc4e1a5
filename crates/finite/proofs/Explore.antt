-- A search in breadth that runs: from a list of starts and a list of next states for each letter it computes the states
-- that are reached, each once, in the order of the parent's place, the letter, and the place in the list of next states.
-- Here is the search and what it keeps true; Explored reads the results. Assumes nothing.
use mathlib.Core.Path.{◌≡◌, refl, sym, subst, subst₂}
use mathlib.Core.Bool.{Bool, true, false, ◌||◌}
use mathlib.Core.Logic.{◌⊎◌, inl, inr, ⊎_elim}
use mathlib.Core.Option.{none, some}
use mathlib.Core.List.Memᴰ
use mathlib.Core.List.{List, [], ◌∷◌, ◌++◌, Memᴰ}
use Prim.Native.Nat.{ℕ, zero, suc, ◌+◌, ◌≤◌, ◌<◌}
use native.Mathlib.Nat.{le_refl}
use native.Mathlib.Omega.{arith}
use lib.Dec.{T}
use lib.ListN.{length, get_elem?}
use Rattle.finite.proofs.Tests.{T_dec, T_true, T_false, T_or_left, T_or_right, T_or_cases, decide, decide_intro, decide_elim}
use Rattle.finite.proofs.Numbers.{below_cases}
use Rattle.finite.proofs.Places.{At, Among, Extends, at_below, at_mem, at_same, at_cast, mem_among, at_last, at_front, at_snoc_cases, extends_refl, extends_more, extends_trans, extends_length, extends_at, extends_front, extends_among, Read, read_none, read_some, read_place}
use Rattle.finite.proofs.FirstWords.{Sooner, sooner_parent, sooner_letter}

-- `same` tests equality
pub record Equality {A : Type 0} (same : A → A → Bool) : Type 0 where
  pub sound : (x y : A) → T (same x y) → x ≡ y
  pub complete : (x y : A) → x ≡ y → T (same x y)

pub discrete_equality : {A : Type 0} (d : Discrete A) → Equality (λ x y. decide (d x y))
discrete_equality d = record { sound = λ x y t. decide_elim (d x y) t; complete = λ x y e. decide_intro (d x y) e }

-- x is in the list
unfoldable pub member : {A : Type 0} → (A → A → Bool) → A → List A → Bool
member same x [] = false
member same x (y ∷ l) =
    let rest = member same x l in
    same x y || rest

-- the list l and behind it those of the second list that are new
unfoldable pub add : {A : Type 0} → (A → A → Bool) → List A → List A → List A
add same l [] = l
add same l (y ∷ ys) = elim (member same y l) [ true ↦ add same l ys | false ↦ add same (l ++ (y ∷ [])) ys ]

-- with the next states of x for the m letters from a on
unfoldable pub expand : {A : Type 0} → (A → A → Bool) → (ℕ → A → List A) → ℕ → ℕ → A → List A → List A
expand same next zero a x l = l
expand same next (suc m) a x l = expand same next m (suc a) x (add same l (next a x))

-- with the next states of every entry from place i on, at most f entries
unfoldable pub walk : {A : Type 0} → (A → A → Bool) → (ℕ → A → List A) → ℕ → ℕ → ℕ → List A → List A
walk same next k zero i l = l
walk same next k (suc f) i l = elim (get_elem? l i) [ none ↦ l | some x ↦ walk same next k f (suc i) (expand same next k 0 x l) ]

-- the states that are reached from the starts by k letters
unfoldable pub explore : {A : Type 0} → (A → A → Bool) → List A → (ℕ → A → List A) → ℕ → ℕ → List A
explore same starts next k fuel = walk same next k fuel 0 (add same [] starts)

-- what is found before (p, a) stands before place j
pub record Known {A : Type 0} (next : ℕ → A → List A) (k : ℕ) (l : List A) (j p a : ℕ) : Type 0 where
  pub known : (p' b : ℕ) (x z : A) → Sooner p' b p a → b < k → At x l p' → Memᴰ z (next b x) → Among z l j

-- y, at place j, is a start, or was found first from an earlier place p by the letter a
pub data Source {A : Type 0} (starts : List A) (next : ℕ → A → List A) (k : ℕ) (l : List A) (j : ℕ) (y : A) : Type 0 where
  source_start : Memᴰ y starts → Source starts next k l j y
  source_step : (p a : ℕ) (x : A) → p < j → At x l p → a < k → Memᴰ y (next a x) → Known next k l j p a → Source starts next k l j y

-- the entries are different and each has a source
pub record Grown {A : Type 0} (starts : List A) (next : ℕ → A → List A) (k : ℕ) (l : List A) : Type 0 where
  pub distinct : (i j : ℕ) (x : A) → i < j → At x l i → At x l j → ⊥
  pub source : (j : ℕ) (y : A) → At y l j → Source starts next k l j y

pub sooner_le : {p' b p a : ℕ} → Sooner p' b p a → p' ≤ p
sooner_le (sooner_parent h) = omega arith
sooner_le (sooner_letter e h) = omega arith

-- nothing is found before the first letter of the first place
pub known_start : {A : Type 0} {next : ℕ → A → List A} {k : ℕ} {l : List A} {j : ℕ} → Known next k l j 0 0
known_start {A} {next} {k} {l} {j} = record { known = λ p b x z s h q m. absurd (never s) }
  where
    never : {p b : ℕ} → Sooner p b 0 0 → ⊥
    never (sooner_parent h) = omega arith
    never (sooner_letter e h) = omega arith

known_extends : {A : Type 0} {next : ℕ → A → List A} {k : ℕ} {l l' : List A} {j j' p a : ℕ} → Extends l l' → j ≤ j' → p < length l → Known next k l j p a → Known next k l' j' p a
known_extends {p = p} e h g n = record {
  known = λ p' b x z s r q m.
      extends_among e h (n.known p' b x z s r (extends_front e (omega (arith, sooner_le s)) q) m);
}

module _ {A : Type 0} {starts : List A} {next : ℕ → A → List A} {k : ℕ} where
  source_extends : {l l' : List A} {j : ℕ} {y : A} → Extends l l' → j ≤ length l → Source starts next k l j y → Source starts next k l' j y
  source_extends e h (source_start m) = source_start m
  source_extends {j = j} e h (source_step p a x g q r m n) =
      source_step p a x g (extends_at e q) r m (known_extends e (le_refl j) (omega arith) n)

  pub grown_none : Grown starts next k []
  grown_none = record { distinct = λ i j x h p q. omega (arith, at_below q); source = λ j y p. absurd (omega (arith, at_below p)) }

  -- a new entry with a source
  grown_more : {l : List A} {y : A} → Grown starts next k l → ¬ Memᴰ y l → Source starts next k l (length l) y → Grown starts next k (l ++ (y ∷ []))
  grown_more {l} {y} g new s = record {
    distinct = λ i j x h p q. apart i j x h p (at_snoc_cases l q);
    source = λ j z q. origin j z (at_snoc_cases l q);
  }
    where
      apart : (i j : ℕ) (x : A) → i < j → At x (l ++ (y ∷ [])) i → At x l j ⊎ ((j ≡ length l) × (x ≡ y)) → ⊥
      apart i j x h p (inl q) = g.distinct i j x h (at_front l (y ∷ []) (omega (arith, at_below q)) p) q
      apart i j x h p (inr e) = new (Memᴰ.cast (sym e.1) (at_mem (at_front l (y ∷ []) (omega (arith, e.0)) p)))

      origin : (j : ℕ) (z : A) → At z l j ⊎ ((j ≡ length l) × (z ≡ y)) → Source starts next k (l ++ (y ∷ [])) j z
      origin j z (inl q) = source_extends (extends_more l (y ∷ [])) (omega (arith, at_below q)) (g.source j z q)
      origin j z (inr e) = rw (e.0, e.1) (source_extends (extends_more l (y ∷ [])) (le_refl (length l)) s)

-- the test finds exactly the members
module _ {A : Type 0} {same : A → A → Bool} (eq : Equality same) where
  pub member_elim : (x : A) (l : List A) → T (member same x l) → Memᴰ x l
  unfolding member
  member_elim x [] t = absurd t
  member_elim x (y ∷ l) t =
      ⊎_elim (λ s. Memᴰ.head (eq.sound x y s)) (λ s. Memᴰ.tail (member_elim x l s))
      (T_or_cases (same x y) (member same x l) t)

  pub member_intro : {x : A} {l : List A} → Memᴰ x l → T (member same x l)
  unfolding member
  member_intro {x} (Memᴰ.head {x = y} {xs = l} e) = T_or_left (same x y) (member same x l) (eq.complete x y e)
  member_intro {x} (Memᴰ.tail {x = y} {xs = l} m) = T_or_right (same x y) (member same x l) (member_intro m)

-- the steps of the search
module _ {A : Type 0} (same : A → A → Bool) where
  add_old : (y : A) (ys l : List A) → T (member same y l) → add same l (y ∷ ys) ≡ add same l ys
  unfolding add
  add_old y ys l t = rw (T_true (member same y l) t, add)

  add_new : (y : A) (ys l : List A) → ¬ T (member same y l) → add same l (y ∷ ys) ≡ add same (l ++ (y ∷ [])) ys
  unfolding add
  add_new y ys l t = rw (T_false (member same y l) t, add)

  walk_none : (next : ℕ → A → List A) (k f i : ℕ) (l : List A) → get_elem? l i ≡ none → walk same next k (suc f) i l ≡ l
  unfolding walk
  walk_none next k f i l e = rw (e, walk)

  walk_some : (next : ℕ → A → List A) (k f i : ℕ) (l : List A) (x : A) → get_elem? l i ≡ some x → walk same next k (suc f) i l ≡ walk same next k f (suc i) (expand same next k 0 x l)
  unfolding walk
  walk_some next k f i l x e = rw (e, walk)

-- l' is l with the entries of ys
pub record Added {A : Type 0} (starts : List A) (next : ℕ → A → List A) (k : ℕ) (l ys l' : List A) : Type 0 where
  pub grown : Grown starts next k l'
  pub extends : Extends l l'
  pub holds : (y : A) → Memᴰ y ys → Among y l' (length l')

-- l' is l with all next states of the entry at place i
pub record Expanded {A : Type 0} (starts : List A) (next : ℕ → A → List A) (k : ℕ) (l : List A) (i : ℕ) (l' : List A) : Type 0 where
  pub grown : Grown starts next k l'
  pub extends : Extends l l'
  pub known : Known next k l' (length l') (suc i) 0

-- l' is l with all next states of its entries
pub record Walked {A : Type 0} (starts : List A) (next : ℕ → A → List A) (k : ℕ) (l l' : List A) : Type 0 where
  pub grown : Grown starts next k l'
  pub extends : Extends l l'
  pub known : Known next k l' (length l') (length l') 0

module _ {A : Type 0} {same : A → A → Bool} (eq : Equality same) (starts : List A) (next : ℕ → A → List A) (k : ℕ) where
  pub explore_added : (ys l : List A) → Grown starts next k l → ((l' : List A) → Extends l l' → (y : A) → Memᴰ y ys → Source starts next k l' (length l') y) → Added starts next k l ys (add same l ys)
  unfolding add
  explore_added [] l g ready = record { grown = g; extends = extends_refl l; holds = λ y m. absurd (Memᴰ.not-nil m) }
  explore_added (y ∷ ys) l g ready =
      ⊎_elim (λ t. rw (add_old same y ys l t) (old (member_elim eq y l t) (explore_added ys l g (λ l' e z m. ready l' e z (Memᴰ.tail m)))))
      (λ t.
      rw (add_new same y ys l t)
      (new (explore_added ys (l ++ (y ∷ [])) (grown_more g (λ m. t (member_intro eq m)) (ready l (extends_refl l) y (Memᴰ.head refl)))
      (λ l' e z m. ready l' (extends_trans (extends_more l (y ∷ [])) e) z (Memᴰ.tail m)))))
      (T_dec (member same y l))
    where
      reach : {l' l'' : List A} {n : ℕ} → Added starts next k l' ys l'' → At y l' n → (z : A) → (z ≡ y) ⊎ Memᴰ z ys → Among z l'' (length l'')
      reach r p z (inl e) = record { at = _; below = at_below (extends_at r.extends p); stands = at_cast e (extends_at r.extends p) }
      reach r p z (inr m) = r.holds z m

      old : {l'' : List A} → Memᴰ y l → Added starts next k l ys l'' → Added starts next k l (y ∷ ys) l''
      old m r = record {
        grown = r.grown;
        extends = r.extends;
        holds = λ z h. reach r (mem_among m).stands z (Memᴰ.cases_cons h);
      }

      new : {l'' : List A} → Added starts next k (l ++ (y ∷ [])) ys l'' → Added starts next k l (y ∷ ys) l''
      new r = record {
        grown = r.grown;
        extends = extends_trans (extends_more l (y ∷ [])) r.extends;
        holds = λ z h. reach r (at_last l y) z (Memᴰ.cases_cons h);
      }

  -- one letter's next states are known, so the next letter is due
  letter_known : {l l' : List A} {i a : ℕ} {x : A} → At x l i → Known next k l (length l) i a → Added starts next k l (next a x) l' → Known next k l' (length l') i (suc a)
  letter_known {l} {l'} {i} {a} {x} p n r = record { known = go }
    where
      before : Known next k l' (length l') i a
      before = known_extends r.extends (extends_length r.extends) (at_below p) n

      go : (p' b : ℕ) (y z : A) → Sooner p' b i (suc a) → b < k → At y l' p' → Memᴰ z (next b y) → Among z l' (length l')
      go p' b y z (sooner_parent h) c q m = before.known p' b y z (sooner_parent h) c q m
      go p' b y z (sooner_letter e h) c q m =
          ⊎_elim (λ f. r.holds z (subst₂ (λ c v. Memᴰ z (next c v)) f (at_same (subst (At y l') e q) (extends_at r.extends p)) m))
          (λ f. before.known p' b y z (sooner_letter e f) c q m)
          (below_cases h)

  expanded : (m a i : ℕ) (x : A) (l : List A) → a + m ≡ k → At x l i → Grown starts next k l → Known next k l (length l) i a → Expanded starts next k l i (expand same next m a x l)
  unfolding expand
  expanded zero a i x l h p g n = record { grown = g; extends = extends_refl l; known = record { known = go } }
    where
      go : (p' b : ℕ) (y z : A) → Sooner p' b (suc i) 0 → b < k → At y l p' → Memᴰ z (next b y) → Among z l (length l)
      go p' b y z (sooner_parent s) c q m =
          ⊎_elim (λ e. n.known p' b y z (sooner_letter e (omega arith)) c q m)
          (λ s. n.known p' b y z (sooner_parent s) c q m)
          (below_cases s)
      go p' b y z (sooner_letter e s) c q m = absurd (omega arith)
  expanded (suc m) a i x l h p g n =
      let r : Added starts next k l (next a x) (add same l (next a x)) = explore_added (next a x) l g ready in
      go r
      (expanded m (suc a) i x (add same l (next a x)) (omega arith) (extends_at r.extends p) r.grown (letter_known p n r))
    where
      ready : (l' : List A) → Extends l l' → (y : A) → Memᴰ y (next a x) → Source starts next k l' (length l') y
      ready l' e y q =
          source_step i a x (at_below (extends_at e p)) (extends_at e p) (omega arith) q
          (known_extends e (extends_length e) (at_below p) n)

      go : {l' l'' : List A} → Added starts next k l (next a x) l' → Expanded starts next k l' i l'' → Expanded starts next k l i l''
      go r s = record { grown = s.grown; extends = extends_trans r.extends s.extends; known = s.known }

  finished : {l : List A} {i : ℕ} → length l ≤ i → Grown starts next k l → Known next k l (length l) i 0 → Walked starts next k l l
  finished {l} {i} h g n = record {
    grown = g;
    extends = extends_refl l;
    known = record { known = λ p b x z s c q m. n.known p b x z (sooner_parent (omega (arith, at_below q))) c q m };
  }

  -- with room for every entry the walk ends when all entries are done
  pub explore_walked : (N : ℕ) → ((l : List A) → Grown starts next k l → length l ≤ N) → (f i : ℕ) (l : List A) → N ≤ f + i → Grown starts next k l → Known next k l (length l) i 0 → Walked starts next k l (walk same next k f i l)
  unfolding walk
  explore_walked N bound zero i l h g n = finished (omega (arith, bound l g)) g n
  explore_walked N bound (suc f) i l h g n = go (read_place l i) (λ x p. expanded k 0 i x l (omega arith) p g n) (λ l' s. explore_walked N bound f (suc i) l' (omega arith) s.grown s.known)
    where
      go : Read l i → ((x : A) → At x l i → Expanded starts next k l i (expand same next k 0 x l)) → ((l' : List A) → Expanded starts next k l i l' → Walked starts next k l' (walk same next k f (suc i) l')) → Walked starts next k l (walk same next k (suc f) i l)
      go (read_none e r) one rest = rw (walk_none same next k f i l r) (finished e g n)
      go (read_some x p r) one rest =
          let s : Expanded starts next k l i (expand same next k 0 x l) = one x p in
          let t : Walked starts next k (expand same next k 0 x l) (walk same next k f (suc i) (expand same next k 0 x l)) = rest (expand same next k 0 x l) s in
          rw (walk_some same next k f i l x r)
          (record { grown = t.grown; extends = extends_trans s.extends t.extends; known = t.known })
