use Rattle.std.proofs.Common.{◌≡◌, ◌∙◌, ◌||◌, ◌&&◌, Bool, true, false, List, take, sym, ap}
use Rattle.std.proofs.Math.Bool.{or-false}
use Rattle.std.proofs.lemmas.List.{take_all}
use Rattle.name_meaning.specs.Names.{Name}
use Rattle.library_meaning.specs.Closure.{sees}
use Rattle.library_meaning.specs.Faces.{includes_of, theory_of}
use Rattle.link_meaning.specs.Coverings.{identity_covers}
use Rattle.covering_pass.specs.CoverTables.{assigned_of, is_below_identity, setting_of}
use Rattle.covering_pass.proofs.NameTables.{none_among}
use Rattle.covering_pass.proofs.AllCovered.{below_more}
use Rattle.covering_pass.proofs.identity.below_identity.Goals as goal
use Rattle.covering_pass.proofs.identity.below_identity.Goals.{then-identity_covers+in_ok-add_includes, else-identity_covers}

pub loop-theory-init : goal.loop-theory-init
loop-theory-init c = λ theory. ap (λ (ks : List Name). sees ks theory) c.new-below.ensures.empty ∙ none_among theory

pub loop-theory-preserved : goal.loop-theory-preserved
loop-theory-preserved c = λ theory.
    let setting = setting_of c.args.covers.now in
    let assigned = assigned_of c.args.covers.now in
    let theories = c.args.theories.now in
    let i = c.loop-theory.theory-index in
    let other = c.theory-item.result in
    let before : Bool = is_below_identity setting assigned (take i theories) theory in
    let within : Bool = sees (includes_of (theory_of setting.environment other)) theory in
    let more = below_more setting assigned theories i other theory c.loop-theory-test.true c.theory-item.is in
    elim c.if-identity_covers.branch [
      | then-identity_covers+in_ok-add_includes w ↦
          let covered : identity_covers setting assigned other ≡ true = sym c.identity_covers.ensures ∙ w.if-identity_covers.true in
          ap (λ z. sees z.keys theory) w.below-is
          ∙ w.in_ok-add_includes.ensures theory
          ∙ ap (λ b. b || within) (c.loop-theory.invariant theory)
          ∙ ap (λ b. before || (b && within)) (sym covered)
          ∙ sym more
      | else-identity_covers w ↦
          let not_covered : identity_covers setting assigned other ≡ false = sym c.identity_covers.ensures ∙ w.if-identity_covers.false in
          ap (λ z. sees z.keys theory) w.below-is
          ∙ c.loop-theory.invariant theory
          ∙ sym (or-false before)
          ∙ ap (λ b. before || (b && within)) (sym not_covered)
          ∙ sym more
    ]

pub returns : goal.returns
returns c = λ theory.
    c.loop-theory.invariant theory
    ∙ ap (λ (theories : List Name). is_below_identity (setting_of c.args.covers.now) (assigned_of c.args.covers.now) theories theory) (take_all c.loop-theory.theory-index c.args.theories.now c.loop-theory-test.false)
