use Rattle.std.proofs.Common.{ap}
use Rattle.name_meaning.specs.Names.{is_among}
use Rattle.library_meaning.specs.Closure.{sees}
use Rattle.library_meaning.specs.Faces.{includes_of}
use Rattle.morphism_words.proofs.inclusions.includes.Goals as goal

pub returns-in-None : goal.returns-in-None
unfolding is_among
returns-in-None c = ap (λ o. sees (includes_of o) c.args.other.now) c.in-None.ensures.meaning
