use Rattle.translation_laws.proofs.Computed.{first_unmapped_is_named, all_mapped}
use Rattle.translation_laws.proofs.examples.unmapped_examples.Goals as goal

pub returns-clause-named : goal.returns-clause-named
returns-clause-named c = first_unmapped_is_named

pub returns-clause-none : goal.returns-clause-none
returns-clause-none c = all_mapped
