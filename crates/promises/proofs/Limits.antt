-- The numbers of the calls, each by what stands just within its limit and what just outside, and where a part begins and ends. Assumes nothing.
use Prim.Native.Nat.{ℕ}
use mathlib.Core.Path.{◌≡◌, refl}
use mathlib.Core.List.{List, [], ◌∷◌}
use native.Mathlib.Omega.{arith}
use lib.ListN.{length}
use Rattle.theory.specs.Rules.{Morphism}
use Rattle.theory.specs.Pairs.{Linked}
use Rattle.formats.specs.Sections.{two_bytes}
use Rattle.formats.specs.RuleFile.{letters_at, letters_of, marks_at, marks_of, rule_end}
use Rattle.formats.proofs.Limits.{Asks, section_asks}
use Rattle.promises.specs.Classes.{classes_size, ClassNumber, not_linked}
use Rattle.promises.specs.EventWords.{LogTooLongAt}
use Rattle.promises.specs.FilePart.{file_part}
use Rattle.promises.specs.Inclusion.{start_size, cycle_size}
use Rattle.promises.specs.Points.{points_size}
use Rattle.promises.specs.Reduce.{map_size}
use Rattle.promises.specs.Rounds.{blocks_size, LimitOutOfRangeAt}
use Rattle.promises.specs.RuleAutomaton.{successors_size}
use Rattle.promises.specs.Stretch.{unread, stretch_of, unread_place, stretch_place}

-- ---- the lengths of buffers

classes_buffer : Asks classes_size 8192
classes_buffer = section_asks refl

u_buffer : Asks start_size 64
u_buffer = section_asks refl

v_buffer : Asks cycle_size 4224
v_buffer = section_asks refl

points_buffer : Asks points_size 24
points_buffer = section_asks refl

map_buffer : Asks map_size 64
map_buffer = section_asks refl

blocks_buffer : Asks blocks_size 64
blocks_buffer = section_asks refl

successors_buffer : Asks successors_size 65
successors_buffer = section_asks refl

-- ---- limits

rounds_65 : LimitOutOfRangeAt 65 0
rounds_65 = record { above = omega arith; is_place = refl }

rounds_64 : {place : ℕ} → ¬ LimitOutOfRangeAt 64 place
rounds_64 a = omega (arith, a.above)

log_16777217 : {w : List ℕ} → length w ≡ 16777217 → LogTooLongAt w 0
log_16777217 e = record { above = omega arith; is_place = refl }

log_16777216 : {w : List ℕ} {place : ℕ} → length w ≡ 16777216 → ¬ LogTooLongAt w place
log_16777216 e a = omega (arith, a.above)

-- what stands for a pair that is not linked
unlinked_number : {m : Morphism} {s e : ℕ} → ¬ Linked m s e → ClassNumber m s e 65535
unlinked_number f = not_linked f

-- ---- parts

-- a file of one element, one letter and no mark has six bytes, whatever follows
six_bytes : file_part (1 ∷ 0 ∷ 1 ∷ 0 ∷ 0 ∷ 0 ∷ 9 ∷ 9 ∷ []) ≡ 1 ∷ 0 ∷ 1 ∷ 0 ∷ 0 ∷ 0 ∷ []
unfolding rule_end letters_at letters_of marks_at marks_of two_bytes
six_bytes = refl

-- a position in u: the rest of u from there on
rest_of_u : stretch_of (0 ∷ 1 ∷ 2 ∷ []) (3 ∷ []) 1 ≡ 1 ∷ 2 ∷ []
unfolding stretch_of unread
rest_of_u = refl

-- it begins a byte behind the beginning of u
place_in_u : stretch_place (7, 100) (8, 200) (0 ∷ 1 ∷ 2 ∷ []) (3 ∷ []) 1 ≡ (7, 101)
unfolding stretch_place unread_place
place_in_u = refl

-- past u the part is one of v
place_in_v : stretch_place (7, 100) (8, 200) (0 ∷ 1 ∷ 2 ∷ []) (3 ∷ 4 ∷ []) 4 ≡ (8, 201)
unfolding stretch_place unread_place
place_in_v = refl

-- a v of no letters has the empty part of u
place_of_none : stretch_place (7, 100) (8, 200) (0 ∷ []) [] 0 ≡ (7, 100)
unfolding stretch_place unread_place
place_of_none = refl
