-- Two answers of the call for the same rule and buffers are one, write the same bytes and leave scratch alike. Assumes nothing.
use Prim.Native.Nat.{ℕ, zero, suc, ◌+◌, ◌*◌, ◌/◌, ◌%◌, ◌≤◌, ◌<◌}
use native.Mathlib.Omega.{arith}
use native.Mathlib.Nat.{mod-lt, div-lt_iff_lt-mul, div-add-mod'}
use mathlib.Core.Path.{◌≡◌, refl, sym, ap, ◌∙◌, subst}
use mathlib.Core.Logic.{⊎_elim}
use mathlib.Core.List.{List}
use lib.ListN.{get_or}
use lib.Seq.{ext_get_or}
use Rattle.finite.proofs.Numbers.{le_or_lt}
use Rattle.answer.proofs.Order.{AllSingle, one_verdict}
use Rattle.answer.proofs.Verdicts.{same_refusal, not_passed}
use Rattle.theory.specs.Rules.{Morphism}
use Rattle.theory.proofs.TableTests.{counts_same}
use Rattle.formats.specs.Sections.{two_bytes}
use Rattle.formats.specs.RuleFile.{morphism_of}
use Rattle.formats.proofs.Buffers.{buffer_single}
use Rattle.formats.proofs.OneVerdict.{checked_single}
use Rattle.promises.specs.declared.Listed.{Listed}
use Rattle.promises.specs.declared.Listed.TheVariants.{Counts, Refused}
use Rattle.promises.specs.Classes.{ClassNumber, least_conjugate, not_linked, class_place, ClassesWritten, list_checks, listed_verdict, ListedAnswer, ListPromise}

-- a pair has one class number
class_same : {m : Morphism} {s e x y : ℕ} → ClassNumber m s e x → ClassNumber m s e y → x ≡ y
class_same (least_conjugate {t} {f} a) (least_conjugate {t = t'} {f = f'} b) = omega (arith, a.least t' f' b.conjugate, b.least t f a.conjugate)
class_same (least_conjugate a) (not_linked g) = absurd (g a.conjugate.left_linked)
class_same (not_linked g) (least_conjugate a) = absurd (g a.conjugate.left_linked)
class_same (not_linked g) (not_linked h) = refl

-- two bytes are known by their number
pub record SameTwo (a b : List ℕ) (at : ℕ) : Type 0 where
  pub low : get_or a at 0 ≡ get_or b at 0
  pub high : get_or a (at + 1) 0 ≡ get_or b (at + 1) 0

two_same : {a b : List ℕ} {at : ℕ} → two_bytes a at ≡ two_bytes b at → get_or a at 0 < 256 → get_or b at 0 < 256 → SameTwo a b at
unfolding two_bytes
two_same e ha hb = record { low = omega arith; high = omega arith }

-- a square that is not 0 has a side that is not
side_some : (n : ℕ) → 0 < n * n → 0 < n
side_some zero h = h
side_some (suc n) h = omega arith

module _ (m : Morphism) {entry a b : List ℕ} (p : ClassesWritten m entry a) (q : ClassesWritten m entry b) where
  -- the class of the pair with a number
  cell_same : (c : ℕ) → c < m.size * m.size → SameTwo a b (2 * c)
  unfolding class_place
  cell_same c h =
      let some : 0 < m.size = side_some m.size (omega arith) in
      let s_inside : c / m.size < m.size = (div-lt_iff_lt-mul some).1 h in
      let e_inside : c % m.size < m.size = mod-lt c some in
      let there : 2 * (c / m.size * m.size + c % m.size) ≡ 2 * c = ap (λ (x : ℕ). 2 * x) (div-add-mod' c m.size) in
      two_same
      (subst (λ (x : ℕ). two_bytes a x ≡ two_bytes b x) there
      (class_same (p.classes (c / m.size) (c % m.size) s_inside e_inside) (q.classes (c / m.size) (c % m.size) s_inside e_inside)))
      (p.bytes (2 * c) (omega arith)) (q.bytes (2 * c) (omega arith))

  written_byte : (i : ℕ) → i < 2 * (m.size * m.size) → get_or a i 0 ≡ get_or b i 0
  written_byte i h =
      let half : i / 2 * 2 + i % 2 ≡ i = div-add-mod' i 2 in
      let bit : i % 2 < 2 = mod-lt i (omega arith) in
      let k = cell_same (i / 2) ((div-lt_iff_lt-mul (omega arith)).1 (omega arith)) in
      ⊎_elim (λ (l : 1 ≤ i % 2). let e : 2 * (i / 2) + 1 ≡ i = omega arith in subst (λ (x : ℕ). get_or a x 0 ≡ get_or b x 0) e k.high)
      (λ (l : i % 2 < 1). let e : 2 * (i / 2) ≡ i = omega arith in subst (λ (x : ℕ). get_or a x 0 ≡ get_or b x 0) e k.low)
      (le_or_lt 1 (i % 2))

  -- the classes are written in one way
  pub written_same : a ≡ b
  written_same =
      ext_get_or 0 a b (p.same_length ∙ sym q.same_length)
      (λ i h. ⊎_elim (λ l. p.kept i l ∙ sym (q.kept i l)) (λ l. written_byte i l) (le_or_lt (2 * (m.size * m.size)) i))

list_single : (bytes out scratch : List ℕ) → AllSingle (list_checks bytes out scratch)
list_single bytes out scratch = buffer_single (checked_single 1 bytes scratch)

module _ {bytes out-entry out-exit out-exit' entry exit exit' : List ℕ} where
  pub one_answer : (answer answer' : Listed) → ListPromise bytes out-entry out-exit entry exit answer → ListPromise bytes out-entry out-exit' entry exit' answer' → answer ≡ answer'
  one_answer answer answer' p q = same answer answer' p.answered q.answered (one_verdict (list_single bytes out-entry entry) p.refusal q.refusal)
    where
      same : (a b : Listed) → ListedAnswer bytes out-entry out-exit a → ListedAnswer bytes out-entry out-exit' b → listed_verdict a ≡ listed_verdict b → a ≡ b
      same (Counts l c j) (Counts l' c' j') p q e =
          let s = counts_same p.1 q.1 in
          cc (s.0, s.1, s.2)
      same (Counts l c j) (Refused r i place) p q e = absurd (not_passed (sym e))
      same (Refused r i place) (Counts l c j) p q e = absurd (not_passed e)
      same (Refused r i place) (Refused r' i' place') p q e = same_refusal Refused r r' i i' place place' e

  pub one_output : (answer answer' : Listed) → ListPromise bytes out-entry out-exit entry exit answer → ListPromise bytes out-entry out-exit' entry exit' answer' → out-exit ≡ out-exit'
  one_output answer answer' p q = same answer answer' p.answered q.answered (one_verdict (list_single bytes out-entry entry) p.refusal q.refusal)
    where
      same : (a b : Listed) → ListedAnswer bytes out-entry out-exit a → ListedAnswer bytes out-entry out-exit' b → listed_verdict a ≡ listed_verdict b → out-exit ≡ out-exit'
      same (Counts l c j) (Counts l' c' j') p q e = written_same (morphism_of bytes) p.0 q.0
      same (Counts l c j) (Refused r i place) p q e = absurd (not_passed (sym e))
      same (Refused r i place) (Counts l c j) p q e = absurd (not_passed e)
      same (Refused r i place) (Refused r' i' place') p q e = p ∙ sym q

  pub one_scratch : {answer answer' : Listed} → ListPromise bytes out-entry out-exit entry exit answer → ListPromise bytes out-entry out-exit' entry exit' answer' → exit ≡ exit'
  one_scratch p q = p.scratch ∙ sym q.scratch
