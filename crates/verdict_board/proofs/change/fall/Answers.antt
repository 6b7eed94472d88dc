use Rattle.std.proofs.Common.{◌≡◌, ◌+◌, suc, length, slice_get, refl, sym, ap, ◌∙◌, arith}
use Rattle.std.proofs.lemmas.List.{length-map}
use Rattle.name_meaning.specs.Names.{Name}
use Rattle.name_meaning.specs.Rows.{row_names, with_row}
use Rattle.name_laws.proofs.Rows.{row_at}
use Rattle.verdict_board.specs.declared.stage.Stage.{Stage}
use Rattle.verdict_board.specs.declared.stage.Stage.TheVariants.{Waiting}
use Rattle.verdict_board.proofs.Falls.{fallen_here, fallen_long, fallen_all, fallen_names, fallen_same, fallen_next}
use Rattle.verdict_board.proofs.change.fall.Goals as goal
use Rattle.verdict_board.proofs.change.fall.Goals.{then-falls, else-falls}

pub loop-place-init : goal.loop-place-init
loop-place-init g c = record { stages = refl; kept = c.requires.kept }

pub row_at-requires : goal.row_at-requires
row_at-requires g c =
    let long = fallen_long c.args.edited.now c.loop-place.place c.args.stages.now in
    let same = ap length c.loop-place.invariant.stages in
    let named = ap length c.requires.kept.names in
    let stages = length-map c.args.stages.now (λ (r : Name × Stage g.row.A.Denot). r.0) in
    let rows = length-map c.args.graph.now (λ r. r.0) in
    let len = c.len-place-end.ensures.len in
    let test = c.loop-place-test.true in
    omega (arith, long, same, named, stages, rows, len, test)

pub falls-requires : goal.falls-requires
falls-requires g c =
    let here = sym (fallen_here c.args.edited.now c.loop-place.place c.args.stages.now) ∙ ap (λ stages. slice_get stages c.loop-place.place) (sym c.loop-place.invariant.stages) ∙ c.row_at.ensures in
    record {
      sorted = c.requires.sorted c.row_at.result.0.now c.row_at.result.1.now (row_at c.row_at.result.0.now c.row_at.result.1.now c.args.stages.now c.loop-place.place c.requires.kept.table here);
      bit = c.bit_of-bit.ensures.bit;
    }

pub wait_at-requires : goal.wait_at-requires
wait_at-requires g c = record {
  named = ap (λ stages. slice_get (row_names stages) c.loop-place.place) c.loop-place.invariant.stages
      ∙ ap (λ names. slice_get names c.loop-place.place) (fallen_names c.args.edited.now c.loop-place.place c.args.stages.now ∙ c.requires.kept.names) ∙ c.name_at.ensures;
  kept = (c.args.graph.now, c.loop-place.invariant.kept);
}

pub loop-place-preserved : goal.loop-place-preserved
loop-place-preserved g c =
    let one : c.loop-place.place + 1 ≡ suc c.loop-place.place = omega arith in
    let here = sym (fallen_here c.args.edited.now c.loop-place.place c.args.stages.now) ∙ ap (λ stages. slice_get stages c.loop-place.place) (sym c.loop-place.invariant.stages) ∙ c.row_at.ensures in
    rw one (elim c.if-falls.branch [
      | then-falls w ↦ record {
        stages = w.stages-is ∙ w.wait_at.ensures.stages ∙ ap (with_row w.name_at.result.now Waiting) c.loop-place.invariant.stages
            ∙ fallen_next c.args.edited.now c.loop-place.place c.args.stages.now w.name_at.result.now c.row_at.result.0.now c.row_at.result.1.now c.requires.kept.table
            (ap (λ names. slice_get names c.loop-place.place) c.requires.kept.names ∙ w.name_at.ensures) here (sym c.falls.ensures ∙ w.if-falls.true);
        kept = rw (w.stages-is, w.candidates-is) (w.wait_at.ensures.kept c.args.graph.now c.loop-place.invariant.kept);
      }
      | else-falls w ↦ record {
        stages = w.stages-is ∙ c.loop-place.invariant.stages ∙ fallen_same c.args.edited.now c.loop-place.place c.args.stages.now c.row_at.result.0.now c.row_at.result.1.now here (sym c.falls.ensures ∙ w.if-falls.false);
        kept = rw (w.stages-is, w.candidates-is) c.loop-place.invariant.kept;
      }
    ])

pub returns : goal.returns
returns g c =
    let named = ap length c.requires.kept.names in
    let stages = length-map c.args.stages.now (λ (r : Name × Stage g.row.A.Denot). r.0) in
    let rows = length-map c.args.graph.now (λ r. r.0) in
    let len = c.len-place-end.ensures.len in
    let test = c.loop-place-test.false in
    record {
      stages = c.loop-place.invariant.stages ∙ fallen_all c.args.edited.now c.loop-place.place c.args.stages.now (omega (arith, named, stages, rows, len, test));
      kept = c.loop-place.invariant.kept;
    }
