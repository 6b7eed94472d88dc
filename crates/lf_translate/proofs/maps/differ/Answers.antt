use Rattle.std.proofs.Common.{◌≡◌, ◌≤◌, length, Some, refl, sym, ◌∙◌, arith}
use Rattle.std.specs.Prelude.{slice_get}
use Rattle.std.proofs.lemmas.List.{length-map}
use Rattle.term_trees.specs.Readings.{read_declaration, read_map, read_signature}
use Rattle.lf_translate.proofs.ListsLeft.{differ_here, differ_later, differ_nowhere}
use Rattle.lf_translate.proofs.maps.differ.Goals as goal
use Rattle.lf_translate.proofs.maps.differ.Goals.{in-Some+else-not-agree_on, in_default}

pub returns-then-not-agree_on : goal.returns-then-not-agree_on
returns-then-not-agree_on c =
    let names = read_signature c.args.names.now in
    let decl = read_declaration c.in-Some.decl.now in
    let there : slice_get names c.loop-i.i ≡ Some decl = sym c.in-Some.ensures.meaning in
    sym (differ_here (read_map c.args.first.now) (read_map c.args.second.now) names c.loop-i.i decl there (cc)) ∙ c.loop-i.invariant

pub loop-i-preserved : goal.loop-i-preserved
loop-i-preserved c =
    let names = read_signature c.args.names.now in
    elim c.match-at.branch [
      | in-Some+else-not-agree_on w ↦
          let decl = read_declaration w.in-Some.decl.now in
          let there : slice_get names c.loop-i.i ≡ Some decl = sym w.in-Some.ensures.meaning in
          sym (differ_later (read_map c.args.first.now) (read_map c.args.second.now) names c.loop-i.i decl there (cc)) ∙ c.loop-i.invariant
      | in_default w ↦ absurd (omega (arith, c.len-i-end.ensures.len, w.in_default.ensures.none.0 refl))
    ]

pub returns : goal.returns
returns c =
    let names = read_signature c.args.names.now in
    let past : length names ≤ c.loop-i.i = omega (arith, length-map c.args.names.now read_declaration, c.len-i-end.ensures.len) in
    sym (differ_nowhere (read_map c.args.first.now) (read_map c.args.second.now) names c.loop-i.i past) ∙ c.loop-i.invariant
