use Rattle.std.proofs.Common.{sym, ap, ◌∙◌}
use Rattle.std.specs.Option.{option_copied}
use Rattle.list_laws.proofs.Options.{none_of}
use Rattle.lf_terms.proofs.head_map.HeadMap.push.Goals as goal

pub append-requires : goal.append-requires
append-requires c = sym c.get.ensures.image ∙ ap option_copied (none_of c.get.result (sym c.is_some.ensures ∙ c.if-is_some.false))
