-- What a number holds tells the answer: two answers that hold the same are one. Assumes nothing.
use Prim.Native.Nat.{ℕ}
use mathlib.Core.Path.{◌≡◌, refl, ap₂}
use mathlib.Core.Bool.{Bool, true, false}
use native.Mathlib.Omega.{arith}
use Rattle.answer.proofs.Verdicts.{same_refusal}
use Rattle.promises.specs.declared.Inspected.{Inspected}
use Rattle.promises.specs.declared.Inspected.TheVariants.{Rule as Inspected-rule, Refused as Inspected-refused}
use Rattle.promises.specs.declared.Listed.{Listed}
use Rattle.promises.specs.declared.Listed.TheVariants.{Counts, Refused as Not-listed}
use Rattle.promises.specs.declared.Partition.{Partition}
use Rattle.promises.specs.declared.Partition.TheVariants.{Blocks, Refused as Not-partitioned}
use Rattle.promises.specs.declared.SuccessorList.{SuccessorList}
use Rattle.promises.specs.declared.SuccessorList.TheVariants.{Listed as Successors, Refused as No-successors}
use Rattle.promises.specs.declared.Written.{Written}
use Rattle.promises.specs.declared.Written.TheVariants.{Rule, Refused as Not-written}
use Rattle.packing.proofs.Contents.{verdict_of_lem}
use Rattle.packing_counts.specs.Counts.{inspected_contents, listed_contents, written_contents, bit, partition_contents, successors_contents}

pub inspected_told : (x y : Inspected) → inspected_contents x ≡ inspected_contents y → x ≡ y
inspected_told (Inspected-rule a b c) (Inspected-rule a' b' c') e = cc
inspected_told (Inspected-rule a b c) (Inspected-refused r' i' p') e = cc
inspected_told (Inspected-refused r i p) (Inspected-rule a' b' c') e = cc
inspected_told (Inspected-refused r i p) (Inspected-refused r' i' p') e = same_refusal Inspected-refused r r' i i' p p' (verdict_of_lem e)

pub listed_told : (x y : Listed) → listed_contents x ≡ listed_contents y → x ≡ y
listed_told (Counts a b c) (Counts a' b' c') e = cc
listed_told (Counts a b c) (Not-listed r' i' p') e = cc
listed_told (Not-listed r i p) (Counts a' b' c') e = cc
listed_told (Not-listed r i p) (Not-listed r' i' p') e = same_refusal Not-listed r r' i i' p p' (verdict_of_lem e)

pub written_told : (x y : Written) → written_contents x ≡ written_contents y → x ≡ y
written_told (Rule a) (Rule a') e = cc
written_told (Rule a) (Not-written r' i' p') e = cc
written_told (Not-written r i p) (Rule a') e = cc
written_told (Not-written r i p) (Not-written r' i' p') e = same_refusal Not-written r r' i i' p p' (verdict_of_lem e)

bit_told : (x y : Bool) → bit x ≡ bit y → x ≡ y
bit_told false false e = refl
bit_told false true e = absurd (let z : ◌≡◌ {A = ℕ} 0 1 = e in omega arith)
bit_told true false e = absurd (let z : ◌≡◌ {A = ℕ} 1 0 = e in omega arith)
bit_told true true e = refl

pub partition_told : (x y : Partition) → partition_contents x ≡ partition_contents y → x ≡ y
partition_told (Blocks a f) (Blocks a' f') e =
    let rounds : a ≡ a' = cc in
    let finished : bit f ≡ bit f' = cc in
    ap₂ Blocks rounds (bit_told f f' finished)
partition_told (Blocks a f) (Not-partitioned r' i' p') e = cc
partition_told (Not-partitioned r i p) (Blocks a' f') e = cc
partition_told (Not-partitioned r i p) (Not-partitioned r' i' p') e = same_refusal Not-partitioned r r' i i' p p' (verdict_of_lem e)

pub successors_told : (x y : SuccessorList) → successors_contents x ≡ successors_contents y → x ≡ y
successors_told (Successors a) (Successors a') e = cc
successors_told (Successors a) (No-successors r' i' p') e = cc
successors_told (No-successors r i p) (Successors a') e = cc
successors_told (No-successors r i p) (No-successors r' i' p') e = same_refusal No-successors r r' i i' p p' (verdict_of_lem e)
