-- What `list_classes` promises: two bytes for each pair, and the counts. Document 01, "Classes". Assumes nothing.
use Rattle.std.specs.Prelude.{ℕ, ◌+◌, ◌*◌, ◌<◌, ◌≤◌, ◌≡◌, List, ◌∷◌, length, get_or}
use Rattle.theory.specs.Rules.{Morphism}
use Rattle.theory.specs.Pairs.{Linked, LeastConjugate, pair_number, ClassCounts}
use Rattle.formats.specs.Sections.{two_bytes}
use Rattle.answer.specs.Checks.{Check, Verdict, passed, refused, FirstFailure}
use Rattle.formats.specs.RuleFile.{morphism_of}
use Rattle.formats.specs.RuleChecks.{buffer_check}
use Rattle.formats.specs.Calls.{checked_checks, scratch_left}
use Rattle.promises.specs.declared.Listed.{Listed}
use Rattle.promises.specs.declared.Listed.TheVariants.{Counts, Refused}

-- "65,535 where it isn't linked"
abbrev pub no_class : ℕ
no_class = 65535

-- "the least t·n+f conjugate to it, or 65,535 where it isn't linked"
pub data ClassNumber (m : Morphism) (s e : ℕ) : ℕ → Type 0 where
  least_conjugate : {t f : ℕ} → LeastConjugate m s e t f → ClassNumber m s e (pair_number m t f)
  not_linked : (Linked m s e → ⊥) → ClassNumber m s e no_class

-- "two bytes for each pair (s, e), from byte 2·(s·n+e) on"
unfoldable pub class_place : ℕ → ℕ → ℕ → ℕ
class_place n s e = 2 * (s * n + e)

-- the classes of a table, and "bytes past the result keep what they had"
pub record ClassesWritten (m : Morphism) (entry exit : List ℕ) : Type 0 where
  pub same_length : length exit ≡ length entry
  pub classes : (s e : ℕ) → s < m.size → e < m.size → ClassNumber m s e (two_bytes exit (class_place m.size s e))
  pub bytes : (i : ℕ) → i < 2 * (m.size * m.size) → get_or exit i 0 < 256
  pub kept : (i : ℕ) → 2 * (m.size * m.size) ≤ i → get_or exit i 0 ≡ get_or entry i 0

-- "Buffers: .. classes 8,192"
abbrev pub classes_size : ℕ
classes_size = 8192

-- "First 13", of both buffers, and then the rule's own checks
abbrev pub list_checks : List ℕ → List ℕ → List ℕ → List Check
list_checks bytes out scratch = buffer_check classes_size out ∷ checked_checks 1 bytes scratch

-- document 01's number, input and place of an answer
abbrev pub listed_verdict : Listed → Verdict
listed_verdict (Counts linked classes joins) = passed
listed_verdict (Refused refusal input place) = refused refusal input place

-- a refusal keeps every byte of out
abbrev pub ListedAnswer : List ℕ → List ℕ → List ℕ → Listed → Type 0
ListedAnswer bytes entry exit (Counts linked classes joins) = ClassesWritten (morphism_of bytes) entry exit × ClassCounts (morphism_of bytes) linked classes joins
ListedAnswer bytes entry exit (Refused refusal input place) = exit ≡ entry

-- scratch as every call leaves it
pub record ListPromise (bytes out-entry out-exit entry exit : List ℕ) (answer : Listed) : Type 0 where
  pub refusal : FirstFailure (list_checks bytes out-entry entry) (listed_verdict answer)
  pub answered : ListedAnswer bytes out-entry out-exit answer
  pub scratch : exit ≡ scratch_left classes_size out-entry entry
