-- The definition of what a list stands for counts enough words: more of them add nothing. Assumes nothing.
use Prim.Native.Nat.{ℕ, zero, suc, ◌≤◌}
use mathlib.Core.Path.{◌≡◌, refl, sym, ap, ◌∙◌}
use mathlib.Core.Logic.{by_cases}
use mathlib.Core.List.{List, [], ◌∷◌, ◌++◌}
use native.Mathlib.Omega.{arith}
use native.Mathlib.Decide.{ℕ_discrete}
use borrow.Author.Tests.{eq-eqb, ne_eqb}
use lib.ListN.{length}
use Rattle.example_parts.specs.Parts.{up_to, after}
use Rattle.example_lists.specs.Lists.{word_bytes, space, words_bytes, list_bytes}

after_mark : {byte mark : ℕ} (text : List ℕ) → byte ≡ mark → after mark (byte ∷ text) ≡ text
unfolding after
after_mark {byte} {mark} text e = simp (eq-eqb byte mark e)

after_other : {byte mark : ℕ} (text : List ℕ) → (byte ≡ mark → ⊥) → after mark (byte ∷ text) ≡ after mark text
unfolding after
after_other {byte} {mark} text n = simp (ne_eqb byte mark n)

-- what stands after the first mark is no longer than the text, and has lost a byte of one that is not empty
one_less : (mark byte : ℕ) (text : List ℕ) → length (after mark text) ≤ length text → length (after mark (byte ∷ text)) ≤ length text
one_less mark byte text h =
    by_cases (ℕ_discrete byte mark)
    (λ e. omega (arith, ap length (after_mark text e)))
    (λ n. omega (arith, ap length (after_other text n)))

no_longer : (mark : ℕ) (text : List ℕ) → length (after mark text) ≤ length text
unfolding after
no_longer mark [] = omega arith
no_longer mark (byte ∷ text) = omega (arith, one_less mark byte text (no_longer mark text))

shorter : (mark byte : ℕ) (text : List ℕ) → length (after mark (byte ∷ text)) ≤ length text
shorter mark byte text = one_less mark byte text (no_longer mark text)

-- nothing more comes of an empty list
none : (n : ℕ) → words_bytes n [] ≡ []
unfolding words_bytes word_bytes up_to after
none zero = refl
none (suc n) = none n

-- any two counts that are large enough
enough : (n m : ℕ) (list : List ℕ) → length list ≤ n → length list ≤ m → words_bytes n list ≡ words_bytes m list
unfolding words_bytes
enough zero m [] h k = sym (none m)
enough zero m (byte ∷ list) h k = absurd (let z : ⊥ = omega arith in z)
enough (suc n) m [] h k = none (suc n) ∙ sym (none m)
enough (suc n) zero (byte ∷ list) h k = absurd (let z : ⊥ = omega arith in z)
enough (suc n) (suc m) (byte ∷ list) h k =
    ap (λ (l : List ℕ). word_bytes (up_to space (byte ∷ list)) ++ l)
    (enough n m (after space (byte ∷ list)) (omega (arith, shorter space byte list)) (omega (arith, shorter space byte list)))

pub words_enough : (n : ℕ) (list : List ℕ) → length list ≤ n → words_bytes n list ≡ list_bytes list
unfolding list_bytes
words_enough n list h = enough n (length list) list h (omega arith)
