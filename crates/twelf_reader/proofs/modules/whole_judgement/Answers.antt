use Rattle.std.proofs.Common.{◌∙◌}
use Rattle.text_meaning.specs.Tokens.{ColonSign}
use Rattle.text_meaning.specs.Parsing.{Ends, FamilyOf, ObjectOf, at_expr}
use Rattle.mmt_syntax.specs.Readings.{read_expr}
use Rattle.twelf_expressions.proofs.Moves.{failed, with_expected}
use Rattle.twelf_reader.proofs.modules.whole_judgement.Goals as goal

pub returns-in-Err : goal.returns-in-Err
returns-in-Err c =
    let o = read_expr c.in_ok-obj.obj in
    let family = at_expr 1 (Ends (FamilyOf o)) in
    failed c.in-Err.fault (c.in_ok-obj.ensures.goes ObjectOf ∙ with_expected c.expr.new.self ColonSign family) (c.in-Err.ensures o)

pub returns-in-Ok : goal.returns-in-Ok
returns-in-Ok c =
    let o = read_expr c.in_ok-obj.obj in
    let family = at_expr 1 (Ends (FamilyOf o)) in
    c.in_ok-obj.ensures.goes ObjectOf ∙ with_expected c.expr.new.self ColonSign family ∙ c.in-Ok.ensures o
