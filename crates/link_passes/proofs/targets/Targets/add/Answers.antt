use Rattle.std.proofs.Common.{◌∷◌, ◌++◌, [], refl, sym, subst}
use Rattle.link_setting.specs.PathTrees.{steps_of}
use Rattle.link_setting.specs.Readings.{read_assigned}
use Rattle.link_setting.specs.declared.assigned.Assigned as code
use Rattle.link_passes.specs.declared.targets.Targets.{Targets}
use Rattle.link_passes.specs.Targets.{gives_at, shares_at, AreNumbered}
use Rattle.link_passes.proofs.NumberedTargets.{numbers_noted, numbers_stay}
use Rattle.link_passes.proofs.targets.Targets.add.Goals as goal

pub returns-in-Covering : goal.returns-in-Covering
returns-in-Covering c = λ items counted numbered.
    let steps = steps_of c.args.self.now.tree in
    subst (λ (assigned : code.Assigned). AreNumbered c.args.self.now (items ++ read_assigned assigned ∷ [])) (sym c.in-Covering.is) (record {
      shared = numbers_stay steps steps c.args.self.now.shared.entries shares_at items _ (λ path place e. e) (λ path. refl) numbered.shared;
      given = numbers_stay steps steps c.args.self.now.given.entries gives_at items _ (λ path place e. e) (λ path. refl) numbered.given;
    })

pub returns-in_ok-note-in-Sharing : goal.returns-in_ok-note-in-Sharing
returns-in_ok-note-in-Sharing c = λ items counted numbered.
    let old = steps_of c.args.self.now.tree in
    let new : Targets = record { tree = c.add.new.self; shared = c.note.new.numbers; given = c.args.self.now.given } in
    let stay = c.in_ok-place-in-Sharing.ensures.stay in
    subst (λ (assigned : code.Assigned). AreNumbered new (items ++ read_assigned assigned ∷ [])) (sym c.in-Sharing.is) (record {
      shared = numbers_noted old (steps_of new.tree) c.args.self.now.shared.entries new.shared.entries shares_at items _ c.in-Sharing.target.now c.in_ok-place-in-Sharing.place c.args.number counted stay c.in_ok-place-in-Sharing.ensures.place
          c.in_ok-note-in-Sharing.ensures (λ path. refl) numbered.shared;
      given = numbers_stay old (steps_of new.tree) c.args.self.now.given.entries gives_at items _ stay (λ path. refl) numbered.given;
    })

pub returns-in_ok-note-in-Giving : goal.returns-in_ok-note-in-Giving
returns-in_ok-note-in-Giving c = λ items counted numbered.
    let old = steps_of c.args.self.now.tree in
    let new : Targets = record { tree = c.add-in-Giving.new.self; shared = c.args.self.now.shared; given = c.note-in-Giving.new.numbers } in
    let stay = c.in_ok-place-in-Giving.ensures.stay in
    subst (λ (assigned : code.Assigned). AreNumbered new (items ++ read_assigned assigned ∷ [])) (sym c.in-Giving.is) (record {
      shared = numbers_stay old (steps_of new.tree) c.args.self.now.shared.entries shares_at items _ stay (λ path. refl) numbered.shared;
      given = numbers_noted old (steps_of new.tree) c.args.self.now.given.entries new.given.entries gives_at items _ c.in-Giving.target.now c.in_ok-place-in-Giving.place c.args.number counted stay c.in_ok-place-in-Giving.ensures.place
          c.in_ok-note-in-Giving.ensures (λ path. refl) numbered.given;
    })
