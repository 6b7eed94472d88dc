use Rattle.judged_laws.proofs.Computed.{generator, generator_with_workers, images_are_counted}
use Rattle.judged_laws.proofs.examples.generator.Goals as goal

pub returns-clause-generator : goal.returns-clause-generator
returns-clause-generator c = generator

pub returns-clause-generator_with_workers : goal.returns-clause-generator_with_workers
returns-clause-generator_with_workers c = generator_with_workers

pub returns-clause-images_are_counted : goal.returns-clause-images_are_counted
returns-clause-images_are_counted c = images_are_counted
