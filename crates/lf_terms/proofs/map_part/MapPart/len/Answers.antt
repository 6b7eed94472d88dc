use Rattle.std.specs.Map.{keys_of}
use Rattle.lf_meaning.specs.Signatures.{same_constant}
use Rattle.term_trees.specs.Readings.{read_constant}
use Rattle.lf_terms.proofs.Lookup.{distinct_images}
use Rattle.lf_terms.proofs.map_part.MapPart.len.Goals as goal

pub returns-clause-distinct : goal.returns-clause-distinct
returns-clause-distinct c = rw (← c.self.view_is) (distinct_images read_constant same_constant (keys_of c.self.inside.images.entries) c.len.ensures.unique)
