-- A packed number is read back as what it was made of, where that is within the limits of packing. Assumes nothing.
use Prim.Native.Nat.{ℕ, ◌+◌, ◌*◌, ◌/◌, ◌%◌, ◌≤◌, ◌<◌}
use mathlib.Core.Path.{◌≡◌, refl, ap, ◌∙◌}
use native.Mathlib.Omega.{arith}
use native.Mathlib.Nat.{mod-eq_of_lt}
use lib.Arith.{digits_div, digits_mod}
use borrow.Author.Tests.{eq-eqb, ne_eqb}
use Rattle.packing.specs.Packing.{pack_refusal, pack_fields, Contents, fields, refusal_at, pack, unpack}

-- the limits on a refusal: byte 0 is 0 for a result
pub record RefusalFits (number input place : ℕ) : Type 0 where
  pub number_some : 1 ≤ number
  pub number_small : number < 256
  pub input_small : input < 256
  pub place_small : place < 281474976710656

-- the limits on the fields of a result
pub record FieldsFit (a b c : ℕ) : Type 0 where
  pub first : a < 65536
  pub second : b < 65536
  pub third : c < 65536

-- what a number can hold
abbrev pub Fits : Contents → Type 0
Fits (fields a b c) = FieldsFit a b c
Fits (refusal_at number input place) = RefusalFits number input place

-- the last digit of a number, and what stands before it
last_digit : {m r t : ℕ} (q : ℕ) → t < m → r ≡ q * m + t → r % m ≡ t
last_digit {m} q h e = ap (λ (x : ℕ). x % m) e ∙ digits_mod q h

digits_before : {m r t : ℕ} (q : ℕ) → t < m → r ≡ q * m + t → r / m ≡ q
digits_before {m} q h e = ap (λ (x : ℕ). x / m) e ∙ digits_div q h

fields_read : {a b c : ℕ} (r : ℕ) → FieldsFit a b c → r ≡ pack_fields a b c → unpack r ≡ fields a b c
unfolding unpack pack_fields
fields_read {a} {b} {c} r f e =
    let first = mod-eq_of_lt f.first in
    let second = mod-eq_of_lt f.second in
    let third = mod-eq_of_lt f.third in
    let from_first : r / 65536 ≡ (b + c * 65536) * 65536 + a = digits_before _ (let h : 0 < 65536 = omega arith in h) (omega arith) in
    let from_second : r / 4294967296 ≡ c * 65536 + b = digits_before {t = 65536 * a} _ (omega arith) (omega arith) in
    let from_third : r / 281474976710656 ≡ 0 * 65536 + c = digits_before {t = 65536 * a + 4294967296 * b} _ (omega arith) (omega arith) in
    simp (eq-eqb (r % 256) 0 (omega arith), last_digit (b + c * 65536) f.first from_first, last_digit c f.second from_second, last_digit 0 f.third from_third)

refusal_read : {number input place : ℕ} (r : ℕ) → RefusalFits number input place → r ≡ pack_refusal number input place
    → unpack r ≡ refusal_at number input place
unfolding unpack pack_refusal
refusal_read {number} {input} {place} r f e =
    let input-whole = mod-eq_of_lt f.input_small in
    let place-whole = mod-eq_of_lt f.place_small in
    let byte : r % 256 ≡ number = last_digit (input + 256 * place) f.number_small (omega arith) in
    let from_second : r / 256 ≡ place * 256 + input = digits_before _ f.number_small (omega arith) in
    let from_third : r / 65536 ≡ place = digits_before {t = number + 256 * input} _ (omega arith) (omega arith) in
    simp (byte, ne_eqb number 0 (λ z. omega arith), last_digit place f.input_small from_second, from_third)

-- a number is read back as what it was made of
pub read_back : (t : Contents) → Fits t → unpack (pack t) ≡ t
read_back (fields a b c) f = fields_read _ f refl
read_back (refusal_at number input place) f = refusal_read _ f refl
