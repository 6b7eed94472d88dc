use Rattle.std.proofs.Common.{Some, sym, ap, ◌∙◌}
use Rattle.edit_log_meaning.specs.Log.{text_of}
use Rattle.edit_log.proofs.Tables.{text_read}
use Rattle.edit_log.proofs.Texts.{texts_short}
use Rattle.edit_log.proofs.log.Log.share_text.Goals as goal

pub returns-in_ok-share-in-Some-clause-text : goal.returns-in_ok-share-in-Some-clause-text
returns-in_ok-share-in-Some-clause-text c =
    rw (← c.self.view_is) (ap Some c.in_ok-share-in-Some.ensures ∙ c.in-Some.ensures.value
    ∙ sym (text_read c.self.inside.texts c.args.name.now) ∙ ap (λ library. text_of library c.args.name.now) c.self.invariant.library)

pub returns-in_ok-share-in-Some-clause-short : goal.returns-in_ok-share-in-Some-clause-short
returns-in_ok-share-in-Some-clause-short c =
    texts_short c.args.self.now c.args.name.now c.in_ok-share-in-Some.field-0 (rw (← c.self.view_is) c.self.invariant.limits.texts)
    (rw (← c.self.view_is) (sym (ap Some c.in_ok-share-in-Some.ensures ∙ c.in-Some.ensures.value
    ∙ sym (text_read c.self.inside.texts c.args.name.now) ∙ ap (λ library. text_of library c.args.name.now) c.self.invariant.library)))

pub returns-in-None-clause-text : goal.returns-in-None-clause-text
returns-in-None-clause-text c =
    rw (← c.self.view_is) (c.in-None.ensures.value ∙ sym (text_read c.self.inside.texts c.args.name.now) ∙ ap (λ library. text_of library c.args.name.now) c.self.invariant.library)
