use Rattle.lf_typing.proofs.Faultless.{object_sound, object_complete, synthesised_sound, synthesised_complete, synthesised_kind_sound, synthesised_kind_complete, family_sound, family_complete, kind_sound, kind_complete, class_sound, class_complete, value_sound, value_complete, declaration_sound, declaration_complete, signature_sound, signature_complete}
use Rattle.lf_typing.proofs.FirstBadDeclaration.{first_bad, bad_is_first}
use Rattle.lf_typing.proofs.fault_laws.law_faultless.Goals as goal

pub returns-clause-object : goal.returns-clause-object
returns-clause-object c = λ sig context m a. (object_sound sig context m a, object_complete sig context m a)

pub returns-clause-synthesis : goal.returns-clause-synthesis
returns-clause-synthesis c = λ sig context r a. (synthesised_sound sig context r a, synthesised_complete sig context r a)

pub returns-clause-kind_synthesis : goal.returns-clause-kind_synthesis
returns-clause-kind_synthesis c = λ sig context p k. (synthesised_kind_sound sig context p k, synthesised_kind_complete sig context p k)

pub returns-clause-family : goal.returns-clause-family
returns-clause-family c = λ sig context a. (family_sound sig context a, family_complete sig context a)

pub returns-clause-kind : goal.returns-clause-kind
returns-clause-kind c = λ sig context k. (kind_sound sig context k, kind_complete sig context k)

pub returns-clause-class : goal.returns-clause-class
returns-clause-class c = λ sig k. (class_sound sig k, class_complete sig k)

pub returns-clause-value : goal.returns-clause-value
returns-clause-value c = λ sig v k. (value_sound sig v k, value_complete sig v k)

pub returns-clause-declaration : goal.returns-clause-declaration
returns-clause-declaration c = λ sig d. (declaration_sound sig d, declaration_complete sig d)

pub returns-clause-signature : goal.returns-clause-signature
returns-clause-signature c = λ sig. (signature_sound sig, signature_complete sig)

pub returns-clause-first : goal.returns-clause-first
returns-clause-first c = λ sig bad. (first_bad sig bad, bad_is_first sig bad)
