use Rattle.std.proofs.Common.{subst}
use Rattle.text_meaning.specs.Reading.{ModuleText}
use Rattle.twelf_expressions.proofs.Outlines.{passing_stopped}
use Rattle.twelf_reader.proofs.Readings.{no_text_fails}
use Rattle.twelf_reader.proofs.AddedNames.{IsOfRead, fault_depends, ok_depends, only_depends}
use Rattle.twelf_reader.proofs.dependencies.read_dependencies.Goals as goal

pub returns-in_err-text : goal.returns-in_err-text
returns-in_err-text c =
    let text = c.args.text.now in
    let r = c.from_residual.result in
    let passes = passing_stopped r _ _ _ c.from_residual.ensures.1 (no_text_fails ModuleText text _ c.in_err-text.ensures.fault) in
    record { ok = ok_depends text r passes; fault = fault_depends text r passes; only = only_depends text r passes }

pub returns : goal.returns
returns c =
    let text = c.args.text.now in
    let r = c.dependencies.result in
    let passes = subst (λ t. IsOfRead t r) c.in_ok-text.ensures.ok c.dependencies.ensures in
    record { ok = ok_depends text r passes; fault = fault_depends text r passes; only = only_depends text r passes }
