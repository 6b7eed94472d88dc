use Rattle.std.proofs.Common.{ap, ◌∙◌, arith}
use Rattle.std.specs.Prelude.{Err}
use Rattle.script_reader.proofs.GeneratedNames.{never_refused}
use Rattle.script_reader.proofs.generated.module_name.Goals as goal

pub unreachable-requires : goal.unreachable-requires
unreachable-requires c =
    never_refused c.as_str.result.now c.args.index (omega arith) (c.as_str.ensures.value ∙ c.in_ok-text.ensures)
    (c.new.ensures.not_a_name.0 (c.in-Err-NotAName.is ∙ ap (λ fault. Err fault) c.in-Err-NotAName.field-0-is))
