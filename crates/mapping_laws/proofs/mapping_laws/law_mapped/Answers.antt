use Rattle.mapping_laws.proofs.Mapped.{names_have_images, object_mapped, family_mapped, class_mapped, value_mapped, map_mapped}
use Rattle.mapping_laws.proofs.mapping_laws.law_mapped.Goals as goal

pub returns-clause-names : goal.returns-clause-names
returns-clause-names c = names_have_images

pub returns-clause-object : goal.returns-clause-object
returns-clause-object c = λ from along v m has h. object_mapped from along has m v h

pub returns-clause-family : goal.returns-clause-family
returns-clause-family c = λ from along v a has h. family_mapped from along has a v h

pub returns-clause-class : goal.returns-clause-class
returns-clause-class c = λ from along class has h. class_mapped from along has class h

pub returns-clause-value : goal.returns-clause-value
returns-clause-value c = λ from along class value has h. value_mapped from along has class value h

pub returns-clause-map : goal.returns-clause-map
returns-clause-map c = λ from first along has h. map_mapped from along has first h
