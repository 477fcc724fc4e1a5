-- Digits that are added to a number one by one. Assumes nothing.
use Prim.Native.Nat.{ℕ, ◌+◌, ◌*◌, ◌-◌, ◌≤◌, ◌<◌}
use mathlib.Core.Path.{◌≡◌, refl, sym, ap, ◌∙◌}
use mathlib.Core.Bool.{true, false}
use mathlib.Core.Logic.{by_cases}
use mathlib.Core.List.{List, [], ◌∷◌}
use native.Mathlib.Omega.{arith}
use native.Mathlib.Decide.{dec_lt}
use native.Mathlib.Numerals.{add-one}
use borrow.Author.Tests.{lt-ltb, le-ltb}
use lib.ListN.{length, get_or, drop, drop_of_length-le}
use lib.Seq.{drop-cons}
use Rattle.std.specs.Char.{is_ascii_digit}
use Rattle.std.proofs.lemmas.Bool.Decides.{nat_tests}
use Rattle.example_parts.specs.Digits.{with_digits, saturated, decimal_of, DigitAdded}

one_by_one : (n byte : ℕ) (text : List ℕ) → with_digits n (byte ∷ text) ≡ with_digits (with_digits n (byte ∷ [])) text
unfolding with_digits
one_by_one n byte text = refl

-- a byte that is no digit
no_digit : (n byte : ℕ) → is_ascii_digit byte ≡ false → with_digits n (byte ∷ []) ≡ n
unfolding with_digits
no_digit n byte h = simp h

digit : (n byte : ℕ) → is_ascii_digit byte ≡ true → with_digits n (byte ∷ []) ≡ n * 10 + (byte - 48)
unfolding with_digits
digit n byte h = simp h

digit_value : (byte : ℕ) → is_ascii_digit byte ≡ true → byte - 48 ≤ 9
digit_value byte h = grind (arith, nat_tests)

saturated_low : (n : ℕ) → n < 18446744073709551610 → saturated n ≡ n
unfolding saturated
saturated_low n h = simp (lt-ltb n 18446744073709551610 h)

saturated_high : (n : ℕ) → 18446744073709551610 ≤ n → saturated n ≡ 18446744073709551615
unfolding saturated
saturated_high n h = simp (le-ltb n 18446744073709551610 h)

pub digit_none : {n byte : ℕ} → is_ascii_digit byte ≡ false → DigitAdded n byte n
digit_none h = record { stands = λ value e. e ∙ ap saturated (sym (no_digit value _ h)) }

module _ {n byte : ℕ} (h : is_ascii_digit byte ≡ true) where
  -- there is room for a digit
  pub digit_fits : n < 1844674407370955161 → DigitAdded n byte (n * 10 + (byte - 48))
  digit_fits s = record {
    stands = λ value e. by_cases (dec_lt value 18446744073709551610)
        (λ low.
        let q : n ≡ value = e ∙ saturated_low value low in
        ap (λ (m : ℕ). m * 10 + (byte - 48)) q
        ∙ sym (saturated_low (value * 10 + (byte - 48)) (omega (arith, digit_value byte h)))
        ∙ ap saturated (sym (digit value _ h)))
        (λ high. absurd (let z : ⊥ = omega (arith, e, saturated_high value (let g : 18446744073709551610 ≤ value = omega arith in g)) in z));
  }

  -- there is none
  pub digit_full : 1844674407370955161 ≤ n → DigitAdded n byte 18446744073709551615
  digit_full s = record {
    stands = λ value e.
        let large : 1844674407370955161 ≤ value = by_cases (dec_lt value 18446744073709551610)
        (λ low. omega (arith, e, saturated_low value low))
        (λ high. omega arith) in
        sym (saturated_high (value * 10 + (byte - 48)) (omega arith)) ∙ ap saturated (sym (digit value _ h));
  }

-- n stands for the number that the first i bytes say
pub record ReadSoFar (text : List ℕ) (i n : ℕ) : Type 0 where
  pub value : ℕ
  pub stands : n ≡ saturated value
  pub rest : with_digits value (drop i text) ≡ with_digits 0 text

pub read_none : (text : List ℕ) → ReadSoFar text 0 0
read_none text = record { value = 0; stands = sym (saturated_low 0 (omega arith)); rest = refl }

module _ {text : List ℕ} {i n : ℕ} (r : ReadSoFar text i n) where
  pub read_more : i < length text → {m : ℕ} → DigitAdded n (get_or text i 0) m → ReadSoFar text (i + 1) m
  read_more h d = record {
    value = with_digits r.value (get_or text i 0 ∷ []);
    stands = d.stands r.value r.stands;
    rest =
        sym (one_by_one r.value (get_or text i 0) (drop (i + 1) text))
        ∙ ap (with_digits r.value) (let q : get_or text i 0 ∷ drop (i + 1) text ≡ drop i text = rw (add-one, drop-cons text i 0 h) in q)
        ∙ r.rest;
  }

  pub read_all : length text ≤ i → n ≡ decimal_of text
  unfolding decimal_of with_digits
  read_all h =
      r.stands
      ∙ ap saturated (ap (with_digits r.value) (sym (drop_of_length-le text h)) ∙ r.rest)

-- the number of a part
pub part_number : {part read : List ℕ} {n : ℕ} → read ≡ part → n ≡ decimal_of read → n ≡ decimal_of part
part_number p e = e ∙ ap decimal_of p
