use Rattle.std.proofs.Common.{◌∙◌, ◌+◌, drop, sym, ap}
use Rattle.link_meaning.specs.Coverings.{first_map}
use Rattle.covering_pass.proofs.CoverLists.{next_cover, no_cover, covers_here, covers_later}
use Rattle.covering_pass.proofs.cover_tables.Covers.first_map.Goals as goal

pub returns-then-has : goal.returns-then-has
returns-then-has c =
    let theory = c.args.theory.now in
    let covers = c.args.self.now.covers.items in
    let i = c.loop-cover.cover-index in
    let cover = c.cover-item.result in
    let next = next_cover theory c.deref-cover-items.result.now covers i c.deref-cover-items.ensures.value cover c.loop-cover-test.true c.cover-item.is in
    let here = covers_here theory cover (drop (i + 1) covers) (sym c.has.ensures ∙ c.if-has.true) in
    ap first_map (sym (next ∙ here)) ∙ c.loop-cover.invariant ∙ ap first_map (c.requires.covers_are theory)

pub loop-cover-preserved : goal.loop-cover-preserved
loop-cover-preserved c =
    let theory = c.args.theory.now in
    let covers = c.args.self.now.covers.items in
    let i = c.loop-cover.cover-index in
    let cover = c.cover-item.result in
    let next = next_cover theory c.deref-cover-items.result.now covers i c.deref-cover-items.ensures.value cover c.loop-cover-test.true c.cover-item.is in
    let later = covers_later theory cover (drop (i + 1) covers) (sym c.has.ensures ∙ c.if-has.false) in
    ap first_map (sym (next ∙ later)) ∙ c.loop-cover.invariant

pub returns : goal.returns
returns c =
    let theory = c.args.theory.now in
    let none = no_cover theory c.deref-cover-items.result.now c.args.self.now.covers.items c.loop-cover.cover-index c.deref-cover-items.ensures.value c.loop-cover-test.false in
    ap first_map (sym none) ∙ c.loop-cover.invariant ∙ ap first_map (c.requires.covers_are theory)
