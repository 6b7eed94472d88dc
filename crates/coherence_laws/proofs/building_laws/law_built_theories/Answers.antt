use Rattle.coherence_laws.proofs.BuildingHolds.{built_scopes_hold, built_theories_hold, empty_is_built, inclusions_keep_built, constants_keep_built, structures_keep_built, declarations_keep_built, all_declarations_keep_built}
use Rattle.coherence_laws.proofs.building_laws.law_built_theories.Goals as goal

pub returns-clause-scope : goal.returns-clause-scope
returns-clause-scope c = built_scopes_hold

pub returns-clause-words : goal.returns-clause-words
returns-clause-words c = built_theories_hold

pub returns-clause-empty : goal.returns-clause-empty
returns-clause-empty c = empty_is_built

pub returns-clause-inclusion : goal.returns-clause-inclusion
returns-clause-inclusion c = inclusions_keep_built

pub returns-clause-constant : goal.returns-clause-constant
returns-clause-constant c = constants_keep_built

pub returns-clause-structure : goal.returns-clause-structure
returns-clause-structure c = structures_keep_built

pub returns-clause-declaration : goal.returns-clause-declaration
returns-clause-declaration c = declarations_keep_built

pub returns-clause-declarations : goal.returns-clause-declarations
returns-clause-declarations c = all_declarations_keep_built
