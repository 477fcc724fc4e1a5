-- `example_lists::entry` meets its contract: each arm is one case of the definition. Assumes nothing.
use Rattle.std.proofs.Common.{arith}
use Rattle.example_lists.proofs.Listing.{entry_sum, entry_union, entry_word, entry_mark, entry_other}
use Rattle.example_lists.proofs.entry.Goals as goal

pub returns-in-115 : goal.returns-in-115
returns-in-115 c = entry_sum _ _ _ _ c.in-115.is c.store.ensures

pub returns-in-117 : goal.returns-in-117
returns-in-117 c = entry_union _ _ _ _ c.in-117.is c.store-in-117.ensures

pub returns-in-119 : goal.returns-in-119
returns-in-119 c =
    entry_word _ _ _ _ c.in-119.is c.word_pair.ensures
    c.store-in-119.ensures

pub returns-in-109 : goal.returns-in-109
returns-in-109 c = entry_mark _ _ _ _ c.in-109.is c.store_mark.ensures

pub returns-in_default : goal.returns-in_default
returns-in_default c =
    entry_other _ _ _ _ (λ e. omega arith) (λ e. omega arith) (λ e. omega arith) (λ e. omega arith) c.store-in_default.ensures
