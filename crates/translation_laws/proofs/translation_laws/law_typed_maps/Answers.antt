use Rattle.translation_laws.proofs.Typed.{defined_constants_keep_values, constants_have_images}
use Rattle.translation_laws.proofs.translation_laws.law_typed_maps.Goals as goal

pub returns-clause-values : goal.returns-clause-values
returns-clause-values c = defined_constants_keep_values

pub returns-clause-images : goal.returns-clause-images
returns-clause-images c = constants_have_images
