use Rattle.std.proofs.Common.{◌∷◌, [], ◌++◌, take, flat_map, sym, ap, ◌∙◌}
use Rattle.std.proofs.lemmas.List.{take_more}
use Rattle.name_meaning.specs.Names.{Name}
use Rattle.library_meaning.specs.Faces.{own_part}
use Rattle.printing_meaning.specs.PrintedTables.{declaration_line}
use Rattle.mmt_interface.specs.Readings.{environment_of}
use Rattle.term_text.specs.Readings.{read_seen}
use Rattle.report_text.proofs.Lines.{line_more, lines_all, lines_in_parts}
use Rattle.report_text.proofs.declarations.included_declarations.Goals as goal

pub loop-theory-preserved : goal.loop-theory-preserved
loop-theory-preserved c =
    let names = c.args.theories.now in
    let i = c.loop-theory.theory-index in
    let name = c.theory-item.result in
    let lines = λ (theory : Name). flat_map (declaration_line (read_seen c.args.seen.now)) (own_part (environment_of c.args.faces.now) theory) in
    let more = take_more names i name c.loop-theory-test.true ∙ ap (λ z. take i names ++ z ∷ []) (sym c.theory-item.is) in
    line_more lines c.args.out.now c.loop-theory.out c.own_declarations.new.out names i name more c.loop-theory.invariant c.in_ok-own_declarations.ensures

pub returns : goal.returns
returns c =
    let names = c.args.theories.now in
    let line = declaration_line (read_seen c.args.seen.now) in
    let own = own_part (environment_of c.args.faces.now) in
    let lines = λ (theory : Name). flat_map line (own theory) in
    lines_all lines c.args.out.now c.loop-theory.out names c.loop-theory.theory-index c.loop-theory-test.false c.loop-theory.invariant
    ∙ ap (λ z. c.args.out.now ++ z) (sym (lines_in_parts line own names))
