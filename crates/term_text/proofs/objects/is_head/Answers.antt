use Rattle.std.specs.Prelude.{nat_eq}
use Rattle.std.proofs.Common.{ap, ◌∙◌}
use Rattle.term_text.proofs.Written.{bare_head}
use Rattle.term_text.proofs.objects.is_head.Goals as goal

pub returns-in-At : goal.returns-in-At
returns-in-At c = ap (λ n. nat_eq n 0) c.len.ensures ∙ bare_head c.args.object.now c.in-At.head c.in-At.spine c.in-At.is
