-- A step recorded: three bytes, each within its part of scratch. Assumes nothing.
use Prim.Native.Nat.{ℕ, ◌<◌}
use mathlib.Core.Path.{◌∙◌}
use mathlib.Core.List.{List}
use native.Mathlib.Omega.{arith}
use lib.ListN.{length, set, length-set}
use lib.Seq.{get_or-set_same, get_or-set_other}
use Rattle.word_steps.specs.Records.{step_place, parent_place, letter_place, RecordNeeds, StepRecorded}

module _ {scratch : List ℕ} {p x number next : ℕ} (place : RecordNeeds scratch p x number next) where
  one : List ℕ
  one = set scratch (step_place p x) number

  two : List ℕ
  two = set one (parent_place next) p

  step_inside : step_place p x < length scratch
  step_inside = omega (arith, place.entry_small, place.letter_small, place.room)

  pub parent_inside : parent_place next < length (set scratch (step_place p x) number)
  parent_inside = simp length-set (omega (arith, place.next_small, place.room))

  pub letter_inside : letter_place next < length (set (set scratch (step_place p x) number) (parent_place next) p)
  letter_inside = simp length-set (omega (arith, place.next_small, place.room))

  pub step_recorded : StepRecorded scratch (set (set (set scratch (step_place p x) number) (parent_place next) p) (letter_place next) x) p x number next
  unfolding one two
  step_recorded =
      let h = place.entry_small in
      let l = place.letter_small in
      let g = place.next_small in
      record {
        same_length = simp length-set;
        step =
            get_or-set_other two (letter_place next) (step_place p x) x 0 (omega arith) ∙ get_or-set_other one (parent_place next) (step_place p x) p 0 (omega arith)
            ∙ get_or-set_same scratch (step_place p x) number 0 step_inside;
        parent = get_or-set_other two (letter_place next) (parent_place next) x 0 (omega arith) ∙ get_or-set_same one (parent_place next) p 0 parent_inside;
        letter = get_or-set_same two (letter_place next) x 0 letter_inside;
        others = λ i a b c.
            get_or-set_other two (letter_place next) i x 0 c ∙ get_or-set_other one (parent_place next) i p 0 b ∙ get_or-set_other scratch (step_place p x) i number 0 a;
      }
