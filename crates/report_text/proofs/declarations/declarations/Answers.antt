use Rattle.std.proofs.Common.{◌≡◌, suc, ◌+◌, ◌≤◌, length, take, refl, sym, ap, ◌∙◌, arith}
use Rattle.std.proofs.lemmas.List.{length-map}
use Rattle.list_laws.proofs.Places.{take_more}
use Rattle.printing_meaning.specs.PrintedTables.{declaration_line}
use Rattle.term_trees.specs.Readings.{read_declaration, read_signature}
use Rattle.term_text.specs.Readings.{read_seen}
use Rattle.report_text.proofs.Lines.{line_more, lines_all}
use Rattle.report_text.proofs.declarations.declarations.Goals as goal
use Rattle.report_text.proofs.declarations.declarations.Goals.{in-Some+in_ok-declaration, in_default}

pub loop-index-preserved : goal.loop-index-preserved
loop-index-preserved c =
    let own = read_signature c.args.own.now in
    let line = declaration_line (read_seen c.args.seen.now) in
    let i = c.loop-index.index in
    let plus : suc i ≡ i + 1 = omega arith in
    elim c.match-at.branch [
      | in-Some+in_ok-declaration w ↦
          let d = read_declaration w.in-Some.decl.now in
          let more = ap (λ j. take j own) (sym plus) ∙ take_more own i d (sym w.in-Some.ensures.meaning) in
          w.out-is ∙ line_more line c.args.out.now c.loop-index.out w.declaration.new.out own i d more c.loop-index.invariant w.in_ok-declaration.ensures
      | in_default w ↦ absurd (omega (arith, c.len-index-end.ensures.len, w.in_default.ensures.none.0 refl))
    ]

pub returns : goal.returns
returns c =
    let own = read_signature c.args.own.now in
    let line = declaration_line (read_seen c.args.seen.now) in
    let past : length own ≤ c.loop-index.index = omega (arith, length-map c.args.own.now read_declaration, c.len-index-end.ensures.len, c.loop-index-test.false) in
    lines_all line c.args.out.now c.loop-index.out own c.loop-index.index past c.loop-index.invariant
