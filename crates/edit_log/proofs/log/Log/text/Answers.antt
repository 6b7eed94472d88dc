use Rattle.std.proofs.Common.{◌≡◌, Some, sym, ap, ◌∙◌}
use Rattle.edit_log_meaning.specs.Log.{library_of, text_of}
use Rattle.edit_log.proofs.Tables.{text_read}
use Rattle.edit_log.proofs.Texts.{texts_short}
use Rattle.edit_log.proofs.log.Log.text.Goals as goal
use Rattle.edit_log.proofs.log.Log.text.Goals.{After-as_slice}

found : (c : After-as_slice) → Some c.as_slice.result.now ≡ text_of (library_of c.args.self.now) c.args.name.now
found c =
    rw (← c.self.view_is) (ap Some (c.as_slice.ensures ∙ c.get-in-Some.ensures) ∙ c.in-Some.ensures.value
    ∙ sym (text_read c.self.inside.texts c.args.name.now) ∙ ap (λ library. text_of library c.args.name.now) c.self.invariant.library)

pub returns-in-Some-clause-text : goal.returns-in-Some-clause-text
returns-in-Some-clause-text c = found c

pub returns-in-Some-clause-short : goal.returns-in-Some-clause-short
returns-in-Some-clause-short c = texts_short c.args.self.now c.args.name.now c.as_slice.result.now (rw (← c.self.view_is) c.self.invariant.limits.texts) (sym (found c))

pub returns-in-None-clause-text : goal.returns-in-None-clause-text
returns-in-None-clause-text c =
    rw (← c.self.view_is) (c.in-None.ensures.value ∙ sym (text_read c.self.inside.texts c.args.name.now) ∙ ap (λ library. text_of library c.args.name.now) c.self.invariant.library)
