-- Each promise leaves one answer and one of every lent byte, call by call. Assumes nothing.
use mathlib.Core.Path.{◌≡◌}
use Rattle.promises.specs.OneAnswers.{OneAnswers}
use Rattle.promises.proofs.OneInspection as inspection
use Rattle.promises.proofs.OneMembership as membership
use Rattle.promises.proofs.OneListing as listing
use Rattle.promises.proofs.OneStrength as strength
use Rattle.promises.proofs.OneComplement as complement
use Rattle.promises.proofs.OneInclusion as inclusion
use Rattle.promises.proofs.OneReduction as reduction
use Rattle.promises.proofs.OneConfirmation as confirmation
use Rattle.promises.proofs.OneCombine as combination
use Rattle.promises.proofs.OneRounds as rounds
use Rattle.promises.proofs.OneTranslation as translation
use Rattle.promises.proofs.OneRuleAutomaton as rule-automaton
use Rattle.promises.proofs.OneMove as moves
use Rattle.promises.proofs.OneMoveInPlace as in_place
use Rattle.promises.proofs.OnePoint as named
use Rattle.promises.proofs.OneVerdict as verdicts
use Rattle.promises.proofs.OneAdvance as advances
use Rattle.promises.proofs.OneFeed as feeds
use Rattle.promises.proofs.OneSummary as summaries

both : {A B : Type 0} {a a' : A} {b b' : B} → a ≡ a' → b ≡ b' → ◌≡◌ {A = A × B} (a, b) (a', b')
both e f = λ i. (e i, f i)

pub one_answers : OneAnswers
one_answers = record {
  inspect = λ bytes entry. record { one = λ x y a b p q. (inspection.one_inspection a b p q, inspection.one_scratch p q) };
  member = λ bytes u v entry. record { one = λ x y a b p q. (membership.one_answer a b p q, membership.one_scratch p q) };
  list_classes = λ bytes out entry. record { one = λ x y a b p q. (listing.one_answer a b p q, both (listing.one_output a b p q) (listing.one_scratch p q)) };
  strong = λ bytes entry. record { one = λ x y a b p q. (strength.one_answer a b p q, strength.one_scratch p q) };
  complement = λ bytes out entry. record {
    one = λ x y a b p q. let same = complement.one_answer a b p q in (same.0, both same.1 (complement.one_scratch p q));
  };
  included = λ bytes second u u' u'' v v' v'' entry exit exit' a b p q. (inclusion.one_answer a b p q, inclusion.one_scratch p q);
  reduce = λ bytes out map entry. record {
    one = λ x y a b p q. let same = reduction.one_answer a b p q in (same.answers, both same.outs (both same.maps (reduction.one_scratch p q)));
  };
  confirm = λ first second map entry. record { one = λ x y a b p q. (confirmation.one_answer a b p q, confirmation.one_scratch p q) };
  combine = λ first second operation out entry. record {
    one = λ x y a b p q. let same = combination.one_answer a b p q in (same.0, both same.1 (combination.one_scratch p q));
  };
  reduce_rounds = λ bytes limit blocks entry. record {
    one = λ x y a b p q. let same = rounds.one_answer a b p q in (same.0, both same.1 (rounds.one_scratch p q));
  };
  automaton_rule = λ bytes out entry. record {
    one = λ x y a b p q. let same = translation.one_answer a b p q in (same.0, both same.1 (translation.one_scratch p q));
  };
  state_kind = λ bytes s e least entry. record { one = λ x y a b p q. (rule-automaton.one_kind a b p q, rule-automaton.one_kind_scratch p q) };
  successors = λ bytes s e letter out entry. record {
    one = λ x y a b p q. let same = rule-automaton.one_list a b p q in (same.0, both same.1 (rule-automaton.one_list_scratch p q));
  };
  event = λ bytes f letter entry. record { one = λ x y a b p q. (moves.one_event p q, moves.one_event_scratch p q) };
  mark = λ bytes f entry. record { one = λ x y a b p q. (moves.one_mark p q, moves.one_mark_scratch p q) };
  event_in_place = λ bytes f letter entry. record { one = λ x y a b p q. (in_place.one_told p q, both (in_place.one_left p q) (in_place.one_told_scratch p q)) };
  keep = λ bytes f name points entry. record { one = λ x y a b p q. (named.one_keep p q, both (named.one_keep_points p q) (named.one_keep_scratch p q)) };
  return_to = λ bytes f name points entry. record { one = λ x y a b p q. (named.one_return p q, named.one_return_scratch p q) };
  verdict = λ bytes f entry. record { one = λ x y a b p q. (verdicts.one_answer a b p q, verdicts.one_scratch p q) };
  advance = λ input bytes f step entry. record { one = λ x y a b p q. (advances.one_answer a b p q, advances.one_scratch p q) };
  advance_word = λ input bytes f w entry. record { one = λ x y a b p q. (advances.one_word_answer a b p q, advances.one_word_scratch p q) };
  feed = λ bytes f w entry. record { one = λ x y a b p q. (feeds.one_feed p q, feeds.one_feed_scratch p q) };
  summarize = λ bytes work entry. record { one = λ x y a b p q. (summaries.one_answer a b p q, both (summaries.one_work a b p q) (summaries.one_scratch p q)) };
}
