use Rattle.std.proofs.Common.{◌≡◌, ◌-◌, ◌≤◌, suc, length, refl, ap, ◌∙◌, arith}
use Rattle.lf_meaning.specs.Terms.{AtomicFamily, Family}
use Rattle.term_trees.specs.Readings.{read_family, read_kind, read_objects}
use Rattle.lf_translate.proofs.TranslatedFamilies.{Taken, filled_past, filled_binder, filled_nothing, filled_whole}
use Rattle.lf_translate.proofs.families.filled.Goals as goal
use Rattle.lf_translate.proofs.families.filled.Goals.{then-left-eq0+in_ok-family-2, else-left-eq0+in-Pi+in_ok-family-in-Pi, else-left-eq0+in-Ty}

pub loop-argument-preserved : goal.loop-argument-preserved
loop-argument-preserved c =
    let items = c.as_slice-argument-items.result.now in
    let i = c.loop-argument.argument-index in
    let item = c.argument-item.result in
    let whole : AtomicFamily → Family = Taken c.args.binders (read_family c.args.body.now) (read_kind c.args.kind.now) (read_objects items) in
    let f = c.loop-argument.family in
    let k = c.loop-argument.domains.now in
    elim c.if-left-eq0.branch [
      | then-left-eq0+in_ok-family-2 w ↦
          let none : c.loop-argument.left ≡ 0 = grind (arith, w.if-left-eq0.true) in
          rw (w.family-is, w.left-is, w.domains-is) (filled_past items i whole c.loop-argument.left f w.in_ok-family-2.family k c.loop-argument.invariant item c.loop-argument-test.true c.argument-item.is item none w.in_ok-family-2.ensures refl)
      | else-left-eq0+in-Pi+in_ok-family-in-Pi w ↦
          let more : c.loop-argument.left ≡ suc (c.loop-argument.left - 1) = grind (arith, w.if-left-eq0.false) in
          rw (w.family-is, w.left-is, w.domains-is, w.deref-domains.ensures) (filled_binder items i whole c.loop-argument.left f w.in_ok-family-in-Pi.family k c.loop-argument.invariant item c.loop-argument-test.true c.argument-item.is (c.loop-argument.left - 1) w.in-Pi.domain w.in-Pi.further w.deref.result.now more w.in-Pi.is w.deref.ensures w.in_ok-family-in-Pi.ensures)
      | else-left-eq0+in-Ty w ↦
          let more : c.loop-argument.left ≡ suc (c.loop-argument.left - 1) = grind (arith, w.if-left-eq0.false) in
          rw (w.family-is, w.left-is, w.domains-is) (filled_nothing items i whole c.loop-argument.left f f k c.loop-argument.invariant item c.loop-argument-test.true c.argument-item.is (c.loop-argument.left - 1) more w.in-Ty.is)
    ]

pub returns : goal.returns
returns c p =
    let items = c.as_slice-argument-items.result.now in
    let i = c.loop-argument.argument-index in
    let past : length items ≤ i = omega arith in
    let whole : AtomicFamily → Family = Taken c.args.binders (read_family c.args.body.now) (read_kind c.args.kind.now) (read_objects items) in
    let f = c.loop-argument.family in
    filled_whole items i whole c.loop-argument.left f f c.loop-argument.domains.now c.loop-argument.invariant past p
    ∙ ap (λ xs. Taken c.args.binders (read_family c.args.body.now) (read_kind c.args.kind.now) (read_objects xs) p) c.as_slice-argument-items.ensures
