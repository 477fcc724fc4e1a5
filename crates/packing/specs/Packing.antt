-- Answers packed into one number of 64 bits, for callers in other languages. Assumes nothing.
--
-- Byte 0 is 0 for a result, else document 01's number of the refusal. Of a refusal byte 1 is the input, and its place stands from
-- bit 16 on. A result has three fields of 16 bits, from bits 16, 32 and 48 on; what they hold is said at each answer
-- (`packing_counts`, `packing_decisions`, `packing_monitors`). Nothing that a call answers reaches these limits, so `unpack` reads every
-- exported number back: `unpacking/proofs/NothingLost`.
use Rattle.std.specs.Prelude.{ℕ, ◌+◌, ◌*◌, ◌/◌, ◌%◌, cond, eqb}

-- a refusal: its number, its input, its place
unfoldable pub pack_refusal : ℕ → ℕ → ℕ → ℕ
pack_refusal number input place = number + (256 * (input % 256) + 65536 * (place % 281474976710656))

-- three fields of a result
unfoldable pub pack_fields : ℕ → ℕ → ℕ → ℕ
pack_fields a b c = 65536 * (a % 65536) + (4294967296 * (b % 65536) + 281474976710656 * (c % 65536))

-- what a number holds: three fields, or a refusal's number, input and place
pub data Contents : Type 0 where
  fields : ℕ → ℕ → ℕ → Contents
  refusal_at : ℕ → ℕ → ℕ → Contents

abbrev pub pack : Contents → ℕ
pack (fields a b c) = pack_fields a b c
pack (refusal_at number input place) = pack_refusal number input place

-- how a caller reads a number, as the functions of include/duknavet.h do
unfoldable pub unpack : ℕ → Contents
unpack r =
    cond (eqb (r % 256) 0) (fields (r / 65536 % 65536) (r / 4294967296 % 65536) (r / 281474976710656 % 65536))
    (refusal_at (r % 256) (r / 256 % 256) (r / 65536))
