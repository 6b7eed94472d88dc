use Rattle.std.proofs.Common.{◌≡◌, ◌≤◌, ◌∙◌, length, Some, is_some, refl, sym, ap, arith}
use Rattle.std.specs.Prelude.{slice_get}
use Rattle.std.proofs.lemmas.List.{length-map}
use Rattle.library_meaning.specs.Words.{identity_map}
use Rattle.term_trees.specs.Readings.{read_declaration, read_map, read_signature}
use Rattle.lf_translate.proofs.ListsLeft.{differ_here, differ_later, differ_nowhere}
use Rattle.covering_pass.proofs.Identities.{agrees_with_identity}
use Rattle.covering_pass.proofs.covering.differs_from_identity.Goals as goal
use Rattle.covering_pass.proofs.covering.differs_from_identity.Goals.{in-Some+else-not-keeps, in_default}

pub returns-then-not-keeps : goal.returns-then-not-keeps
returns-then-not-keeps c =
    let own = read_signature c.args.own.now in
    let along = read_map c.args.map.now in
    let decl = read_declaration c.in-Some.decl.now in
    let there : slice_get own c.loop-i.i ≡ Some decl = sym c.in-Some.ensures.meaning in
    let same = agrees_with_identity c.args.own.now c.loop-i.i decl along c.len-i-end.ensures.distinct there in
    ap is_some (sym (differ_here (identity_map own) along own c.loop-i.i decl there (cc)) ∙ c.loop-i.invariant)

pub loop-i-preserved : goal.loop-i-preserved
loop-i-preserved c =
    let own = read_signature c.args.own.now in
    let along = read_map c.args.map.now in
    elim c.match-at.branch [
      | in-Some+else-not-keeps w ↦
          let decl = read_declaration w.in-Some.decl.now in
          let there : slice_get own c.loop-i.i ≡ Some decl = sym w.in-Some.ensures.meaning in
          let same = agrees_with_identity c.args.own.now c.loop-i.i decl along c.len-i-end.ensures.distinct there in
          sym (differ_later (identity_map own) along own c.loop-i.i decl there (cc)) ∙ c.loop-i.invariant
      | in_default w ↦ absurd (omega (arith, c.len-i-end.ensures.len, w.in_default.ensures.none.0 refl))
    ]

pub returns : goal.returns
returns c =
    let own = read_signature c.args.own.now in
    let past : length own ≤ c.loop-i.i = omega (arith, length-map c.args.own.now read_declaration, c.len-i-end.ensures.len) in
    ap is_some (sym (differ_nowhere (identity_map own) (read_map c.args.map.now) own c.loop-i.i past) ∙ c.loop-i.invariant)
