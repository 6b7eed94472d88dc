use Rattle.std.proofs.Common.{◌≡◌, suc, ◌+◌, ◌≤◌, length, take, refl, sym, ap, ◌∙◌, arith}
use Rattle.std.proofs.lemmas.List.{length-map}
use Rattle.list_laws.proofs.Places.{take_more}
use Rattle.printing_meaning.specs.PrintedTables.{mapping_line}
use Rattle.term_trees.specs.Readings.{read_map, read_mapping}
use Rattle.term_text.specs.Readings.{read_seen}
use Rattle.report_text.proofs.Lines.{line_more, lines_all}
use Rattle.report_text.proofs.declarations.mappings.Goals as goal
use Rattle.report_text.proofs.declarations.mappings.Goals.{in-Some+in_ok-mapping, in_default}

pub loop-index-preserved : goal.loop-index-preserved
loop-index-preserved c =
    let mappings = read_map c.args.map.now in
    let line = mapping_line (read_seen c.args.domain.now) (read_seen c.args.codomain.now) in
    let i = c.loop-index.index in
    let plus : suc i ≡ i + 1 = omega arith in
    elim c.match-at.branch [
      | in-Some+in_ok-mapping w ↦
          let m = read_mapping (w.in-Some.name.now, w.in-Some.image.now) in
          let more = ap (λ j. take j mappings) (sym plus) ∙ take_more mappings i m (sym w.in-Some.ensures.meaning) in
          w.out-is ∙ line_more line c.args.out.now c.loop-index.out w.mapping.new.out mappings i m more c.loop-index.invariant w.in_ok-mapping.ensures
      | in_default w ↦ absurd (omega (arith, c.len-index-end.ensures.len, w.in_default.ensures.none.0 refl))
    ]

pub returns : goal.returns
returns c =
    let mappings = read_map c.args.map.now in
    let line = mapping_line (read_seen c.args.domain.now) (read_seen c.args.codomain.now) in
    let past : length mappings ≤ c.loop-index.index = omega (arith, length-map c.args.map.now read_mapping, c.len-index-end.ensures.len, c.loop-index-test.false) in
    lines_all line c.args.out.now c.loop-index.out mappings c.loop-index.index past c.loop-index.invariant
