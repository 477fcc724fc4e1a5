-- The parts of a text are those that a split at each mark gives. Assumes nothing.
use Prim.Native.Nat.{ℕ, suc, zero}
use mathlib.Core.Path.{◌≡◌, refl, ap, ◌∙◌}
use mathlib.Core.Logic.{by_cases}
use mathlib.Core.List.{List, [], ◌∷◌}
use native.Mathlib.Decide.{ℕ_discrete}
use borrow.Author.Tests.{eq-eqb, ne_eqb}
use lib.Dec.{eqb}
use lib.ListN.{get_or}
use denote.Ref.{Bor}
use Rattle.std.specs.List.{slice_split, onto_first, slice_get}
use Rattle.std.specs.Option.{option_map, unwrap_or}
use Rattle.std.specs.Prelude.{Option, None, Some}
use Rattle.std.proofs.lemmas.Option.{unwrap_or-slice_get}
use Rattle.example_parts.specs.Parts.{up_to, after, part_of}

-- an empty text has only empty parts
none_left : (mark k : ℕ) → [] ≡ part_of mark k []
unfolding part_of up_to after
none_left mark zero = refl
none_left mark (suc k) = none_left mark k

-- one more byte goes to the front of the first part
first_part : (byte : ℕ) (parts : List (List ℕ)) → get_or (onto_first byte parts) 0 [] ≡ byte ∷ get_or parts 0 []
first_part byte [] = refl
first_part byte (part ∷ parts) = refl

other_parts : (byte k : ℕ) (parts : List (List ℕ)) → get_or (onto_first byte parts) (suc k) [] ≡ get_or parts (suc k) []
other_parts byte k [] = refl
other_parts byte k (part ∷ parts) = refl

pub split_part : (mark k : ℕ) (text : List ℕ) → get_or (slice_split (λ b. eqb b mark) text) k [] ≡ part_of mark k text
unfolding part_of up_to after
split_part mark zero [] = refl
split_part mark (suc k) [] = none_left mark k
split_part mark zero (byte ∷ text) =
    by_cases (ℕ_discrete byte mark)
    (λ e. simp (eq-eqb byte mark e))
    (λ n. simp (ne_eqb byte mark n) (first_part byte _ ∙ ap (λ (t : List ℕ). byte ∷ t) (split_part mark zero text)))
split_part mark (suc k) (byte ∷ text) =
    by_cases (ℕ_discrete byte mark)
    (λ e. simp (eq-eqb byte mark e) (split_part mark k text))
    (λ n. simp (ne_eqb byte mark n) (other_parts byte k _ ∙ split_part mark (suc k) text))

-- a part that is there, or an empty one
pub or_empty : (found : Option (Bor (List ℕ))) (empty : Bor (List ℕ)) (parts : List (List ℕ)) (k : ℕ) → empty.now ≡ []
    → option_map (λ (t : Bor (List ℕ)). t.now) found ≡ slice_get parts k → (unwrap_or found empty).now ≡ get_or parts k []
or_empty None empty parts k e f = e ∙ ap (λ (o : Option (List ℕ)). unwrap_or o []) f ∙ unwrap_or-slice_get parts k []
or_empty (Some t) empty parts k e f = ap (λ (o : Option (List ℕ)). unwrap_or o []) f ∙ unwrap_or-slice_get parts k []
