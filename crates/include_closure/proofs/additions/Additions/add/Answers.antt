use Rattle.std.proofs.Common.{◌∙◌, refl, sym}
use Rattle.include_closure.proofs.Adding.{added_new, added_old}
use Rattle.include_closure.proofs.additions.Additions.add.Goals as goal

pub returns-in_ok-push : goal.returns-in_ok-push
returns-in_ok-push c front whole e =
    added_new c.args.self.now _ front whole c.args.name.now c.in_ok-copy.field-0 c.in_ok-copy-2.field-0 c.in_ok-copy.ensures c.in_ok-copy-2.ensures
    (sym c.in_ok-insert.ensures.added ∙ c.if-branch.true) c.in_ok-insert.ensures.keys c.in_ok-push.ensures.items e

pub returns-else-branch : goal.returns-else-branch
returns-else-branch c front whole e =
    added_old c.args.self.now _ front whole c.args.name.now c.in_ok-copy.field-0 c.in_ok-copy.ensures
    (sym c.in_ok-insert.ensures.added ∙ c.if-branch.false) c.in_ok-insert.ensures.keys refl e
