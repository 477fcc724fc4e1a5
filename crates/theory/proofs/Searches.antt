-- A search in breadth that looks for a state that passes a test: where the reached states have different codes below N, it
-- finds one exactly if one is reached, and by a word of less than N letters. Assumes nothing.
use Prim.Native.Nat.{ℕ, ◌≤◌, ◌<◌}
use mathlib.Core.Path.{◌≡◌, refl, sym, ap, ◌∙◌, subst}
use mathlib.Core.Bool.{Bool, false, ◌||◌}
use mathlib.Core.Logic.{⊎_elim}
use mathlib.Core.List.{List, [], ◌∷◌, Memᴰ}
use native.Mathlib.Omega.{arith}
use lib.ListN.{length}
use lib.Dec.{T}
use Rattle.finite.proofs.Tests.{T_or_left, T_or_right, T_or_cases}
use Rattle.finite.proofs.Places.{mem_among}
use Rattle.finite.proofs.Worklist.{Reached, begin, onward, Reachable, Coding, entry_spelled, worklist_le}
use Rattle.finite.proofs.Explore.{Equality, explore}
use Rattle.finite.proofs.Explored.{NextIn, among_entry, explore_worklist, member_iff_reached}

-- some entry of the list passes p
unfoldable pub some_in : {A : Type 0} → (A → Bool) → List A → Bool
some_in p [] = false
some_in p (x ∷ l) =
    let rest = some_in p l in
    p x || rest

-- an entry that passes
pub record Passing {A : Type 0} (p : A → Bool) (l : List A) : Type 0 where
  pub state : A
  pub member : Memᴰ state l
  pub passes : T (p state)

pub some_in_intro : {A : Type 0} (p : A → Bool) {x : A} {l : List A} → Memᴰ x l → T (p x) → T (some_in p l)
unfolding some_in
some_in_intro p (Memᴰ.head {x = y} {xs = l} e) t = T_or_left (p y) (some_in p l) (subst (λ z. T (p z)) e t)
some_in_intro p (Memᴰ.tail {x = y} {xs = l} m) t = T_or_right (p y) (some_in p l) (some_in_intro p m t)

pub some_in_elim : {A : Type 0} (p : A → Bool) (l : List A) → T (some_in p l) → Passing p l
unfolding some_in
some_in_elim p [] t = absurd t
some_in_elim {A} p (x ∷ l) t =
    ⊎_elim (λ h. record { state = x; member = Memᴰ.head refl; passes = h }) (λ h. later (some_in_elim p l h)) (T_or_cases (p x) (some_in p l) t)
  where
    later : Passing p l → Passing p (x ∷ l)
    later f = record { state = f.state; member = Memᴰ.tail f.member; passes = f.passes }

-- more starts and more steps reach no less
pub reached_map : {A : Type 0} {Start Start' : A → Type 0} {Step Step' : ℕ → A → A → Type 0} {w : List ℕ} {x : A}
    → ((y : A) → Start y → Start' y) → ((a : ℕ) (y z : A) → Step a y z → Step' a y z) → Reached Start Step w x → Reached Start' Step' w x
reached_map f g (begin s) = begin (f _ s)
reached_map f g (onward a r s) = onward a (reached_map f g r) (g a _ _ s)

-- a reached state that passes p, with a word of less than N letters
pub record Hit {A : Type 0} (Start : A → Type 0) (Step : ℕ → A → A → Type 0) (p : A → Bool) (N : ℕ) : Type 0 where
  pub state : A
  pub word : List ℕ
  pub reached : Reached Start Step word state
  pub passes : T (p state)
  pub short : length word < N

-- codes that can be read back are different
pub coding_of : {A : Type 0} {Start : A → Type 0} {Step : ℕ → A → A → Type 0} {code : A → ℕ} {N : ℕ} (decode : ℕ → A)
    → ((x : A) → Reachable Start Step x → code x < N) → ((x : A) → Reachable Start Step x → decode (code x) ≡ x) → Coding Start Step code N
coding_of decode below back = record { below = below; apart = λ x y r q e. sym (back x r) ∙ ap decode e ∙ back y q }

module _ {A : Type 0} {same : A → A → Bool} (eq : Equality same) {starts : List A} {next : ℕ → A → List A} {k : ℕ} {code : A → ℕ} {N : ℕ}
    (c : Coding (λ x. Memᴰ x starts) (NextIn next k) code N) (fuel : ℕ) (enough : N ≤ fuel) (p : A → Bool) where
  -- what the search finds is reached by a short word
  pub hit_elim : T (some_in p (explore same starts next k fuel)) → Hit (λ x. Memᴰ x starts) (NextIn next k) p N
  hit_elim t = go (some_in_elim p (explore same starts next k fuel) t)
    where
      go : Passing p (explore same starts next k fuel) → Hit (λ x. Memᴰ x starts) (NextIn next k) p N
      go f =
          let l = explore_worklist eq c fuel enough f.state in
          let e = among_entry f.state (mem_among f.member) in
          let s = entry_spelled l e.at e.below in
          record {
            state = f.state;
            word = s.word;
            reached = subst (Reached (λ x. Memᴰ x starts) (NextIn next k) s.word) e.same s.reached;
            passes = f.passes;
            short = omega (arith, s.short, e.below, worklist_le c l);
          }

  -- and a reached state that passes is found
  pub hit_intro : {w : List ℕ} {x : A} → Reached (λ x. Memᴰ x starts) (NextIn next k) w x → T (p x) → T (some_in p (explore same starts next k fuel))
  hit_intro {w} {x} r t = some_in_intro p ((member_iff_reached eq c fuel enough x).1 (record { word = w; reached = r })) t
