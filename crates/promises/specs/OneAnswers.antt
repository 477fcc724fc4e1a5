-- The theorem that each promise leaves one answer and one of every lent byte: for the same inputs and the same bytes lent, whatever two programs keep the
-- promise, they answer alike and leave the same. Only the lasso of `included` is open. Assumes nothing.
use Rattle.std.specs.Prelude.{ℕ, ◌≡◌, List}
use Rattle.promises.specs.declared.Inspected.{Inspected}
use Rattle.promises.specs.declared.LassoVerdict.{LassoVerdict}
use Rattle.promises.specs.declared.Listed.{Listed}
use Rattle.promises.specs.declared.Strength.{Strength}
use Rattle.promises.specs.declared.Written.{Written}
use Rattle.promises.specs.declared.Inclusion.{Inclusion}
use Rattle.promises.specs.declared.Inclusion.TheVariants.{NotIncluded}
use Rattle.promises.specs.declared.Confirmation.{Confirmation}
use Rattle.promises.specs.declared.Operation.{Operation}
use Rattle.promises.specs.declared.Partition.{Partition}
use Rattle.promises.specs.declared.StateKind.{StateKind}
use Rattle.promises.specs.declared.SuccessorList.{SuccessorList}
use Rattle.promises.specs.declared.Monitor.{Monitor}
use Rattle.promises.specs.declared.Moved.{Moved}
use Rattle.promises.specs.declared.InPlaceAnswer.{InPlaceAnswer}
use Rattle.promises.specs.declared.Step.{Step}
use Rattle.promises.specs.declared.Advanced.{Advanced}
use Rattle.promises.specs.declared.Summary.{Summary}
use Rattle.promises.specs.Inspect.{InspectPromise}
use Rattle.promises.specs.Member.{MemberPromise}
use Rattle.promises.specs.Classes.{ListPromise}
use Rattle.promises.specs.Strong.{StrongPromise}
use Rattle.promises.specs.Complement.{ComplementPromise}
use Rattle.promises.specs.Inclusion.{InclusionPromise}
use Rattle.promises.specs.Reduce.{ReducePromise}
use Rattle.promises.specs.Confirm.{ConfirmPromise}
use Rattle.promises.specs.Combine.{CombinePromise}
use Rattle.promises.specs.Rounds.{RoundsPromise}
use Rattle.promises.specs.Automaton.{RulePromise}
use Rattle.promises.specs.RuleAutomaton.{KindPromise, SuccessorsPromise}
use Rattle.promises.specs.Moves.{EventPromise, MarkPromise}
use Rattle.promises.specs.InPlace.{EventInPlace}
use Rattle.promises.specs.Points.{KeepPromise, ReturnPromise}
use Rattle.promises.specs.Verdict.{VerdictPromise}
use Rattle.promises.specs.Advance.{AdvancePromise, AdvanceWordPromise}
use Rattle.promises.specs.Feed.{FeedPromise}
use Rattle.promises.specs.Summary.{SummaryPromise}

-- one answer, and one of what is left, by a promise of what is left and the answer
pub record OneAnswer {Left Answer : Type 0} (Promise : Left → Answer → Type 0) : Type 0 where
  pub one : (left left' : Left) (answer answer' : Answer) → Promise left answer → Promise left' answer' → (answer ≡ answer') × (left ≡ left')

-- two answers of `included` with the bytes that u and v are left with: equal, or a lasso each
pub data Agree (u-exit u-exit' v-exit v-exit' : List ℕ) : Inclusion → Inclusion → Type 0 where
  agree : {answer answer' : Inclusion} → answer ≡ answer' → u-exit ≡ u-exit' → v-exit ≡ v-exit' → Agree u-exit u-exit' v-exit v-exit' answer answer'
  both_apart : {u v u' v' : ℕ} → Agree u-exit u-exit' v-exit v-exit' (NotIncluded u v) (NotIncluded u' v')

-- what two lent buffers, or a lent monitor and a buffer, are left as
abbrev TwoLists : Type 0
TwoLists = List ℕ × List ℕ

-- for each call
pub record OneAnswers : Type 0 where
  pub inspect : (bytes entry : List ℕ) → OneAnswer (λ (exit : List ℕ) (answer : Inspected). InspectPromise bytes entry exit answer)
  pub member : (bytes u v entry : List ℕ) → OneAnswer (λ (exit : List ℕ) (answer : LassoVerdict). MemberPromise bytes u v entry exit answer)
  pub list_classes : (bytes out entry : List ℕ) → OneAnswer (λ (left : TwoLists) (answer : Listed). ListPromise bytes out left.0 entry left.1 answer)
  pub strong : (bytes entry : List ℕ) → OneAnswer (λ (exit : List ℕ) (answer : Strength). StrongPromise bytes entry exit answer)
  pub complement : (bytes out entry : List ℕ) → OneAnswer (λ (left : TwoLists) (answer : Written). ComplementPromise bytes out left.0 entry left.1 answer)
  pub included : (bytes second u u-exit u-exit' v v-exit v-exit' entry exit exit' : List ℕ) (answer answer' : Inclusion)
      → InclusionPromise bytes second u u-exit v v-exit entry exit answer → InclusionPromise bytes second u u-exit' v v-exit' entry exit' answer'
      → Agree u-exit u-exit' v-exit v-exit' answer answer' × (exit ≡ exit')
  pub reduce : (bytes out map entry : List ℕ)
      → OneAnswer (λ (left : List ℕ × TwoLists) (answer : Written). ReducePromise bytes out left.0 map left.1.0 entry left.1.1 answer)
  pub confirm : (first second map entry : List ℕ) → OneAnswer (λ (exit : List ℕ) (answer : Confirmation). ConfirmPromise first second map entry exit answer)
  pub combine : (first second : List ℕ) (operation : Operation) (out entry : List ℕ)
      → OneAnswer (λ (left : TwoLists) (answer : Written). CombinePromise first second operation out left.0 entry left.1 answer)
  pub reduce_rounds : (bytes : List ℕ) (limit : ℕ) (blocks entry : List ℕ)
      → OneAnswer (λ (left : TwoLists) (answer : Partition). RoundsPromise bytes limit blocks left.0 entry left.1 answer)
  pub automaton_rule : (bytes out entry : List ℕ) → OneAnswer (λ (left : TwoLists) (answer : Written). RulePromise bytes out left.0 entry left.1 answer)
  pub state_kind : (bytes : List ℕ) (s e least : ℕ) (entry : List ℕ) → OneAnswer (λ (exit : List ℕ) (answer : StateKind). KindPromise bytes s e least entry exit answer)
  pub successors : (bytes : List ℕ) (s e letter : ℕ) (out entry : List ℕ)
      → OneAnswer (λ (left : TwoLists) (answer : SuccessorList). SuccessorsPromise bytes s e letter out left.0 entry left.1 answer)
  pub event : (bytes : List ℕ) (f : Monitor) (letter : ℕ) (entry : List ℕ) → OneAnswer (λ (exit : List ℕ) (answer : Moved). EventPromise bytes f letter entry exit answer)
  pub mark : (bytes : List ℕ) (f : Monitor) (entry : List ℕ) → OneAnswer (λ (exit : List ℕ) (answer : Moved). MarkPromise bytes f entry exit answer)
  pub event_in_place : (bytes : List ℕ) (f : Monitor) (letter : ℕ) (entry : List ℕ)
      → OneAnswer (λ (left : Monitor × List ℕ) (answer : InPlaceAnswer). EventInPlace bytes f letter entry left.1 left.0 answer)
  pub keep : (bytes : List ℕ) (f : Monitor) (name : ℕ) (points entry : List ℕ)
      → OneAnswer (λ (left : TwoLists) (answer : Moved). KeepPromise bytes f name points left.0 entry left.1 answer)
  pub return_to : (bytes : List ℕ) (f : Monitor) (name : ℕ) (points entry : List ℕ)
      → OneAnswer (λ (exit : List ℕ) (answer : Moved). ReturnPromise bytes f name points entry exit answer)
  pub verdict : (bytes : List ℕ) (f : Monitor) (entry : List ℕ) → OneAnswer (λ (exit : List ℕ) (answer : LassoVerdict). VerdictPromise bytes f entry exit answer)
  pub advance : (input : ℕ) (bytes : List ℕ) (f : Monitor) (step : Step) (entry : List ℕ)
      → OneAnswer (λ (exit : List ℕ) (answer : Advanced). AdvancePromise input bytes f step entry exit answer)
  pub advance_word : (input : ℕ) (bytes : List ℕ) (f : Monitor) (w entry : List ℕ)
      → OneAnswer (λ (exit : List ℕ) (answer : Advanced). AdvanceWordPromise input bytes f w entry exit answer)
  pub feed : (bytes : List ℕ) (f : Monitor) (w entry : List ℕ) → OneAnswer (λ (exit : List ℕ) (answer : Moved). FeedPromise bytes f w entry exit answer)
  pub summarize : (bytes work entry : List ℕ) → OneAnswer (λ (left : TwoLists) (answer : Summary). SummaryPromise bytes work left.0 entry left.1 answer)
