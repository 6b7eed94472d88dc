use Rattle.std.proofs.Common.{◌∙◌, ◌+◌, ◌&&◌, ◌||◌, Bool, List, drop, sym, ap, ap₂}
use Rattle.std.proofs.lemmas.List.{drop_all}
use Rattle.name_meaning.specs.Names.{Name}
use Rattle.library_meaning.specs.Closure.{sees}
use Rattle.library_meaning.specs.Faces.{includes_of, theory_of}
use Rattle.covering_pass.specs.CoverTables.{assigned_of, is_below_identity, setting_of}
use Rattle.covering_pass.proofs.AllCovered.{next_item}
use Rattle.covering_pass.proofs.identity.is_below.Goals as goal
use Rattle.covering_pass.proofs.identity.is_below.Goals.{else-identity_covers-via-then-identity_covers+else-includes, else-identity_covers-via-else-identity_covers}

pub returns-then-includes : goal.returns-then-includes
returns-then-includes c =
    let setting = setting_of c.args.covers.now in
    let assigned = assigned_of c.args.covers.now in
    let others = c.args.others.now in
    let theory : Name = c.args.theory.now in
    let i = c.loop-other.other-index in
    let other = c.other-item.result in
    let below : List Name → Bool = λ (names : List Name). is_below_identity setting assigned names theory in
    ap₂ (λ a b. (a && b) || below (drop (i + 1) others)) (sym (sym c.identity_covers.ensures ∙ c.if-identity_covers.true)) (sym (sym c.includes.ensures ∙ c.if-includes.true))
    ∙ sym (next_item below others i other c.loop-other-test.true c.other-item.is)
    ∙ c.loop-other.invariant

pub loop-other-preserved : goal.loop-other-preserved
loop-other-preserved c =
    let setting = setting_of c.args.covers.now in
    let assigned = assigned_of c.args.covers.now in
    let others = c.args.others.now in
    let theory : Name = c.args.theory.now in
    let i = c.loop-other.other-index in
    let other = c.other-item.result in
    let below : List Name → Bool = λ (names : List Name). is_below_identity setting assigned names theory in
    let next = next_item below others i other c.loop-other-test.true c.other-item.is in
    elim c.else-identity_covers.branch [
      | else-identity_covers-via-then-identity_covers+else-includes w ↦
          ap₂ (λ a b. (a && b) || below (drop (i + 1) others)) (sym (sym c.identity_covers.ensures ∙ w.if-identity_covers.true)) (sym (sym w.includes.ensures ∙ w.if-includes.false))
          ∙ sym next
          ∙ c.loop-other.invariant
      | else-identity_covers-via-else-identity_covers w ↦
          ap (λ a. (a && sees (includes_of (theory_of setting.environment other)) theory) || below (drop (i + 1) others)) (sym (sym c.identity_covers.ensures ∙ w.if-identity_covers.false))
          ∙ sym next
          ∙ c.loop-other.invariant
    ]

pub returns : goal.returns
returns c =
    let below : List Name → Bool = λ (names : List Name). is_below_identity (setting_of c.args.covers.now) (assigned_of c.args.covers.now) names c.args.theory.now in
    sym (ap below (drop_all c.loop-other.other-index c.args.others.now c.loop-other-test.false)) ∙ c.loop-other.invariant
