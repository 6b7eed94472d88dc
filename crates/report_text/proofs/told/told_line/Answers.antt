use Rattle.std.specs.Prelude.{IfOk}
use Rattle.std.specs.Option.{option_copied}
use Rattle.std.proofs.Common.{◌≡◌, sym, subst}
use Rattle.report_text.specs.ToldLines.{shown_place, text_or_none, told_text, Counts}
use Rattle.report_text.proofs.told.told_line.Goals as goal

pub returns-in-Verdict : goal.returns-in-Verdict
returns-in-Verdict c environment counts =
    let place = shown_place (option_copied c.args.origin) (text_or_none (option_copied c.args.text)) in
    subst (λ told. IfOk c.verdict_line.result (λ line. line ≡ told_text environment c.args.name.now place told)) (sym c.in-Verdict.is)
    (c.verdict_line.ensures environment (subst (Counts environment) c.in-Verdict.is counts))
