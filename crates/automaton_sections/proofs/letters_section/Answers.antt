-- `automaton_sections::letters_section` meets its contract: the count alone decides. Assumes nothing.
use mathlib.Core.Path.{refl}
use Rattle.formats.specs.AutomatonFile.{automaton_letters_section}
use Rattle.sections.proofs.Sectioned.{by_count}
use Rattle.automaton_sections.proofs.letters_section.Goals as goal

pub returns : goal.returns
returns c = by_count automaton_letters_section c.args.at c.args.rest.now (λ k. refl) c.byte_count.result c.byte_count.ensures
