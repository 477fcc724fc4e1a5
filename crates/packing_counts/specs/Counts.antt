-- What the number holds for an answer that counts what was written. Assumes nothing.
use Rattle.std.specs.Prelude.{ℕ, Bool, cond}
use Rattle.answer.specs.Refusals.{number_of}
use Rattle.promises.specs.declared.Inspected.{Inspected}
use Rattle.promises.specs.declared.Inspected.TheVariants.{Rule as Inspected-rule, Refused as Inspected-refused}
use Rattle.promises.specs.declared.Listed.{Listed}
use Rattle.promises.specs.declared.StretchPlace.{StretchPlace}
use Rattle.promises.specs.declared.Listed.TheVariants.{Counts, Refused as Not-listed}
use Rattle.promises.specs.declared.Partition.{Partition}
use Rattle.promises.specs.declared.Partition.TheVariants.{Blocks, Refused as Not-partitioned}
use Rattle.promises.specs.declared.SuccessorList.{SuccessorList}
use Rattle.promises.specs.declared.SuccessorList.TheVariants.{Listed as Successors, Refused as No-successors}
use Rattle.promises.specs.declared.Written.{Written}
use Rattle.promises.specs.declared.Written.TheVariants.{Rule, Refused as Not-written}
use Rattle.packing.specs.Packing.{Contents, fields, refusal_at, pack}

-- the elements, the letters, the marks
abbrev pub inspected_contents : Inspected → Contents
inspected_contents (Inspected-rule elements letters marks) = fields elements letters marks
inspected_contents (Inspected-refused refusal input place) = refusal_at (number_of refusal) input place

abbrev pub pack_inspected : Inspected → ℕ
pack_inspected answer = pack (inspected_contents answer)

-- the linked pairs, the classes, the joins
abbrev pub listed_contents : Listed → Contents
listed_contents (Counts linked classes joins) = fields linked classes joins
listed_contents (Not-listed refusal input place) = refusal_at (number_of refusal) input place

abbrev pub pack_listed : Listed → ℕ
pack_listed answer = pack (listed_contents answer)

-- how many bytes were written
abbrev pub written_contents : Written → Contents
written_contents (Rule end) = fields end 0 0
written_contents (Not-written refusal input place) = refusal_at (number_of refusal) input place

abbrev pub pack_written : Written → ℕ
pack_written answer = pack (written_contents answer)

-- the rounds done, and 1 where they are finished
abbrev pub bit : Bool → ℕ
bit b = cond b 1 0

abbrev pub partition_contents : Partition → Contents
partition_contents (Blocks rounds finished) = fields rounds (bit finished) 0
partition_contents (Not-partitioned refusal input place) = refusal_at (number_of refusal) input place

abbrev pub pack_partition : Partition → ℕ
pack_partition answer = pack (partition_contents answer)

-- how many states a letter leads to
abbrev pub successors_contents : SuccessorList → Contents
successors_contents (Successors count) = fields count 0 0
successors_contents (No-successors refusal input place) = refusal_at (number_of refusal) input place

abbrev pub pack_successors : SuccessorList → ℕ
pack_successors answer = pack (successors_contents answer)

-- the word, where the part begins in it, and its letters
abbrev pub stretch_contents : StretchPlace → Contents
stretch_contents place = fields place.word place.from place.letters

abbrev pub pack_stretch : StretchPlace → ℕ
pack_stretch place = pack (stretch_contents place)
