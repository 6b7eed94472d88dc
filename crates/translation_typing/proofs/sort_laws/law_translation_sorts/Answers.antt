use Rattle.std.proofs.Common.{sym, ap, ◌∙◌}
use Rattle.translation_typing.proofs.Bases.{renamed, erase_translated, atomic_translated}
use Rattle.translation_typing.proofs.sort_laws.law_translation_sorts.Goals as goal

pub returns-clause-simple : goal.returns-clause-simple
returns-clause-simple c = λ along first second atomic same. erase_translated along atomic first ∙ ap (renamed along) same ∙ sym (erase_translated along atomic second)

pub returns-clause-atomic : goal.returns-clause-atomic
returns-clause-atomic c = λ along family atomic. atomic_translated along atomic family
