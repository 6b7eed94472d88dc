use Rattle.std.proofs.Common.{sym, ◌∙◌}
use Rattle.elaborate.proofs.KindSteps.{ends_ty, ends_pi, ends_arrow, ends_back, ends_name, ends_app, ends_lambda}
use Rattle.elaborate.proofs.kinds.+ends_in_type.Goals as goal

pub returns-in-Ty : goal.returns-in-Ty
returns-in-Ty t c = sym (ends_ty c.args.expr.now c.in-Ty.is)

pub returns-in-Pi : goal.returns-in-Pi
returns-in-Pi t c = c.ends_in_type.ensures ∙ sym (ends_pi c.args.expr.now _ _ _ _ c.in-Pi.is c.deref.ensures)

pub returns-in-Arrow : goal.returns-in-Arrow
returns-in-Arrow t c = c.ends_in_type-in-Arrow.ensures ∙ sym (ends_arrow c.args.expr.now _ _ _ c.in-Arrow.is c.deref-in-Arrow.ensures)

pub returns-in-Back : goal.returns-in-Back
returns-in-Back t c = c.ends_in_type-in-Back.ensures ∙ sym (ends_back c.args.expr.now _ _ _ c.in-Back.is c.deref-in-Back.ensures)

pub returns-in-Name : goal.returns-in-Name
returns-in-Name t c = sym (ends_name c.args.expr.now _ c.in-Name.is)

pub returns-in-App : goal.returns-in-App
returns-in-App t c = sym (ends_app c.args.expr.now _ _ c.in-App.is)

pub returns-in-Lam : goal.returns-in-Lam
returns-in-Lam t c = sym (ends_lambda c.args.expr.now _ _ _ c.in-Lam.is)
