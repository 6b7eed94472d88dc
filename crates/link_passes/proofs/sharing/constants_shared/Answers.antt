use Rattle.std.proofs.Common.{◌≡◌, suc, ◌+◌, ◌&&◌, true, false, drop, Some, refl, sym, ap, ◌∙◌, arith}
use Rattle.std.specs.Prelude.{slice_get}
use Rattle.link_meaning.specs.Passes.{shares}
use Rattle.term_trees.specs.Readings.{read_declaration, read_map, read_signature}
use Rattle.link_setting.specs.Below.Readings.{read_link}
use Rattle.link_passes.specs.Steps.{share}
use Rattle.link_passes.proofs.SharedParts.{share_constant}
use Rattle.link_passes.proofs.sharing.constants_shared.Goals as goal
use Rattle.link_passes.proofs.sharing.constants_shared.Goals.{in-Some+in_ok-constant_shared+else-not-branch, in_default}

pub returns-then-not-branch : goal.returns-then-not-branch
returns-then-not-branch c =
    let along = read_map c.args.along.now in
    let structure = read_link c.args.structure.now in
    let by = read_link c.args.by.now in
    let own = read_signature c.args.own.now in
    let i = c.loop-index.index in
    let d = read_declaration c.in-Some.decl.now in
    let there : slice_get own i ≡ Some d = sym c.in-Some.ensures.meaning in
    let apart : shares along structure by d ≡ false = sym c.in_ok-constant_shared.ensures ∙ c.if-not-branch.true in
    sym (ap (λ b. b && share along structure by (drop (suc i) own)) apart) ∙ sym (share_constant along structure by own i d there) ∙ c.loop-index.invariant

pub loop-index-preserved : goal.loop-index-preserved
loop-index-preserved c =
    let along = read_map c.args.along.now in
    let structure = read_link c.args.structure.now in
    let by = read_link c.args.by.now in
    let own = read_signature c.args.own.now in
    let i = c.loop-index.index in
    let plus : i + 1 ≡ suc i = omega arith in
    elim c.match-at.branch [
      | in-Some+in_ok-constant_shared+else-not-branch w ↦
          let d = read_declaration w.in-Some.decl.now in
          let there : slice_get own i ≡ Some d = sym w.in-Some.ensures.meaning in
          let same : shares along structure by d ≡ true = sym w.in_ok-constant_shared.ensures ∙ w.if-not-branch.false in
          ap (λ j. share along structure by (drop j own)) plus
          ∙ sym (ap (λ b. b && share along structure by (drop (suc i) own)) same) ∙ sym (share_constant along structure by own i d there) ∙ c.loop-index.invariant
      | in_default w ↦ absurd (omega (arith, w.in_default.ensures.none.0 refl))
    ]
