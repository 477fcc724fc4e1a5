-- Each promise leaves one answer and one of every lent byte, call by call. Assumes nothing.
use mathlib.Core.Path.{◌≡◌}
use Rattle.temporal_promises.specs.OneAnswers.{TemporalOneAnswers}
use Rattle.temporal_promises.proofs.OneFirstLetter.{one_first_letter, one_constant}
use Rattle.temporal_promises.proofs.OneNext as nexts
use Rattle.temporal_promises.proofs.OneUntil as untils

both : {A B : Type 0} {a a' : A} {b b' : B} → a ≡ a' → b ≡ b' → ◌≡◌ {A = A × B} (a, b) (a', b')
both e f = λ i. (e i, f i)

pub temporal_one_answers : TemporalOneAnswers
temporal_one_answers = record {
  of_first_letter = λ letters set grade out. record { one = λ x y a b p q. one_first_letter a b p q };
  constant = λ letters grade out. record { one = λ x y a b p q. one_constant a b p q };
  next = λ bytes out entry. record {
    one = λ x y a b p q. let same = nexts.one_answer a b p q in (same.0, both same.1 (nexts.one_scratch p q));
  };
  until = λ first second out classes entry. record {
    one = λ x y a b p q. let same = untils.one_answer a b p q in (same.0, both same.1 (both (untils.one_classes p q) (untils.one_scratch p q)));
  };
}
