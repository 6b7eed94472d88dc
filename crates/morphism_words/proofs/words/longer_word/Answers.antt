use Rattle.std.proofs.Common.{Bor, ap}
use Rattle.std.specs.Option.{option_map}
use Rattle.mmt_interface.specs.Readings.{environment_of, read_theory}
use Rattle.mmt_interface.specs.declared.face.TheoryFace.{TheoryFace}
use Rattle.morphism_words.proofs.CoherentLinks.{structures_here}
use Rattle.morphism_words.proofs.words.longer_word.Goals as goal

pub structures_word-requires-clause-structures : goal.structures_word-requires-clause-structures
structures_word-requires-clause-structures c =
    structures_here (environment_of c.args.faces.now) (option_map (λ (face : Bor TheoryFace). read_theory face.now) c.args.here) c.requires.here (read_theory c.in-Some.theory.now)
    (ap (option_map (λ (face : Bor TheoryFace). read_theory face.now)) c.in-Some.is)
