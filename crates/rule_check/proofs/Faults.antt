-- What each way through the checks of a rule file shows. Assumes nothing.
use Prim.Native.Nat.{ℕ, ◌+◌, ◌*◌, ◌≤◌, ◌<◌}
use mathlib.Core.Path.{◌≡◌, subst}
use mathlib.Core.List.{List, ◌++◌}
use mathlib.Core.Bool.{Bool, true}
use native.Mathlib.Omega.{arith}
use lib.ListN.{length, drop, replicate, length-drop, length-replicate, get_or-replicate}
use Rattle.answer.specs.declared.Refusal.TheVariants.{NotAssociative, Unreachable, TrailingBytes}
use Rattle.answer.specs.Checks.{Verdict, passed, numbered, refused, FirstFailure}
use Rattle.answer.proofs.Order.{first_passes, first_fails, none_left, refused_before, passed_before}
use Rattle.std.specs.Prelude.{Result, Ok, Err}
use Rattle.answer.specs.declared.Fault.{Fault}
use Rattle.theory.specs.Rules.{Morphism}
use Rattle.formats.specs.Table.{morphism_at}
use Rattle.formats.specs.TableChecks.{NotAssociativeAt, UnreachedAt}
use Rattle.formats.proofs.Tables.{AllAssociate, all_associate_none, Table, FirstTriple, first_triple_place, table_lawful}
use Rattle.rule_reach.specs.Reach.{Empty, WordOrder, FirstWithout, NoneWithout, place_at}
use Rattle.rule_reach.proofs.Words.{first_unreached, none_without_absurd}
use Rattle.rule_letter_columns.specs.Columns.{AllFound}
use Rattle.rule_associating.specs.Tests.{AssociatesAnswer}
use Rattle.formats.specs.RuleFile.{marks_at, marks_of, rule_end, morphism_of}
use Rattle.formats.specs.RuleChecks.{trailing_check, table_checks, mark_checks, content_checks}
use Rattle.rule_marks.specs.Faults.{FaultAnswer}
use Rattle.rule_check.specs.Answers.{reach_checks}

-- a fresh queue has nothing found
pub blank_queue : Empty (replicate 256 0)
unfolding place_at
blank_queue = record { room = omega (arith, length-replicate {A = ℕ} 256 0); none_found = λ s h. get_or-replicate 256 (192 + s) 0 0 (omega arith) }

module _ (bytes : List ℕ) (n k : ℕ) (t : Table bytes n k) (all : AllAssociate (morphism_at bytes n k)) {entry exit : List ℕ} {count : ℕ}
    (order : WordOrder bytes n k entry exit count) where
  -- an element that no word reaches
  pub fault_unreached : {s : ℕ} → FirstWithout exit n s → (input : ℕ) → FirstFailure (reach_checks input (morphism_at bytes n k)) (refused Unreachable input s)
  fault_unreached f input =
      first_fails (record { refusal = Unreachable; input = input; Fails = UnreachedAt (morphism_at bytes n k) })
      (first_unreached order (table_lawful t all) f)

  -- every element is reached
  pub all_reached : NoneWithout exit n → (input : ℕ) → FirstFailure (reach_checks input (morphism_at bytes n k)) passed
  all_reached f input =
      first_passes (record { nowhere = λ place u. none_without_absurd order (table_lawful t all) f u }) none_left

-- a triple that does not associate
pub not_associative : {m : Morphism} {a b c : ℕ} → FirstTriple m a b c → (input : ℕ) → FirstFailure (table_checks input m) (refused NotAssociative input (a * 4096 + b * 64 + c))
not_associative {m} f input =
    first_fails (record { refusal = NotAssociative; input = input; Fails = NotAssociativeAt m }) (first_triple_place f)

-- after an associative table the reached elements decide
pub fault_associative : (m : Morphism) (answer : Result (Unit {0}) Fault) → AllAssociate m → FaultAnswer (λ input. reach_checks input m) answer → FaultAnswer (λ input. table_checks input m) answer
fault_associative m (Ok u) all f = λ input. first_passes (record { nowhere = λ place w. all_associate_none all w }) (f input)
fault_associative m (Err r) all f = λ input. first_passes (record { nowhere = λ place w. all_associate_none all w }) (f input)

-- the checks after the sections
module _ (bytes : List ℕ) where
  pub fault_trailing : {end : ℕ} → end ≡ rule_end bytes → 0 < length (drop end bytes) → (input : ℕ) → FirstFailure (content_checks input bytes) (refused TrailingBytes input end)
  fault_trailing {end} e h input =
      first_fails (trailing_check input (rule_end bytes) bytes) (record { longer = omega (arith, length-drop end bytes, e); is_place = e })

  module _ {end : ℕ} (e : end ≡ rule_end bytes) (h : length (drop end bytes) ≤ 0) where
    nothing_follows : (input : ℕ) {v : Verdict} → FirstFailure (table_checks input (morphism_of bytes) ++ mark_checks input (morphism_of bytes) bytes (marks_at bytes) 0 (marks_of bytes)) v
        → FirstFailure (content_checks input bytes) v
    nothing_follows input f =
        first_passes (record { nowhere = λ place t. omega (arith, length-drop end bytes, e, t.longer) }) f

    pub table_refuses : {number place : ℕ} → ((input : ℕ) → FirstFailure (table_checks input (morphism_of bytes)) (numbered number input place))
        → (input : ℕ) → FirstFailure (content_checks input bytes) (numbered number input place)
    table_refuses f input = nothing_follows input (refused_before _ _ (f input))

    module _ (table : (input : ℕ) → FirstFailure (table_checks input (morphism_of bytes)) passed) where
      pub marks_decide : {v : ℕ → Verdict} → ((input : ℕ) → FirstFailure (mark_checks input (morphism_of bytes) bytes (marks_at bytes) 0 (marks_of bytes)) (v input))
          → (input : ℕ) → FirstFailure (content_checks input bytes) (v input)
      marks_decide f input = nothing_follows input (passed_before _ _ (table input) (f input))

-- words find every element
pub all_found : {bytes : List ℕ} {n k : ℕ} {entry exit : List ℕ} {count : ℕ} → 256 ≤ length entry → WordOrder bytes n k entry exit count
    → NoneWithout exit n → AllFound bytes n k exit count
all_found room order f = record {
  room = omega (arith, order.same_length);
  order = order.order;
  few = order.few;
  inside = order.inside;
  places = order.places;
  have = f.have;
}

-- and tests with letters tell that the table associates: 5 and 6 pass
pub letters_pass : (bytes : List ℕ) (n k : ℕ) → Table bytes n k → {entry exit : List ℕ} {count : ℕ} → WordOrder bytes n k entry exit count
    → NoneWithout exit n → (r : Bool) → AssociatesAnswer (morphism_at bytes n k) r → r ≡ true
    → (input : ℕ) → FirstFailure (table_checks input (morphism_at bytes n k)) passed
letters_pass bytes n k t order f r a h input =
    let all : AllAssociate (morphism_at bytes n k) = subst (AssociatesAnswer (morphism_at bytes n k)) h a in
    fault_associative (morphism_at bytes n k) (Ok tt) all (all_reached bytes n k t all order f) input
