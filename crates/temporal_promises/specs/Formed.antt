-- What the calls that make a rule of a temporal formula have in common: a rule is written, or out is kept. Assumes nothing.
use Rattle.std.specs.Prelude.{ℕ, List}
use Rattle.theory.specs.Rules.{Rule}
use Rattle.formats.specs.ReadBack.{WrittenRule}
use Rattle.promises.specs.declared.Written.{Written}
use Rattle.promises.specs.Answers.{WrittenAnswer}

-- a rule that is what the call makes was written, whole: its file passes our own check and means the rule
pub record WrittenAs (Makes : Rule → Type 0) (before after : List ℕ) (end : ℕ) : Type 0 where
  pub rule : Rule
  pub makes : Makes rule
  pub written : WrittenRule rule.morphism rule.marks before after end

-- a refusal keeps every byte of out
abbrev pub FormedAnswer : (Rule → Type 0) → List ℕ → List ℕ → Written → Type 0
FormedAnswer Makes before after = WrittenAnswer (WrittenAs Makes before after) before after
