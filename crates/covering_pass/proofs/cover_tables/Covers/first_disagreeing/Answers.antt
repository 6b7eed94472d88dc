use Rattle.std.proofs.Common.{◌≡◌, ◌∙◌, ◌+◌, Bool, true, false, Some, cond, drop, find, is_some, sym, ap}
use Rattle.std.specs.Option.{option_copied, option_map}
use Rattle.translation_meaning.specs.Differ.{differ}
use Rattle.link_meaning.specs.Coverings.{Cover, disagrees}
use Rattle.term_trees.specs.Readings.{read_map}
use Rattle.covering_pass.specs.CoverTables.{covers_in, read_covering, read_own, setting_of}
use Rattle.covering_pass.proofs.CoverLists.{read_cover, next_cover, no_cover, covers_here, covers_later}
use Rattle.covering_pass.proofs.cover_tables.Covers.first_disagreeing.Goals as goal
use Rattle.covering_pass.proofs.cover_tables.Covers.first_disagreeing.Goals.{else-has-via-then-has+else-differs, else-has-via-else-has}

pub returns-then-differs : goal.returns-then-differs
returns-then-differs c =
    let theory = c.args.theory.now in
    let along = read_covering (read_own (option_copied c.args.own)) c.args.covering in
    let test : Cover → Bool = disagrees (setting_of c.args.self.now) theory along in
    let covers = c.args.self.now.covers.items in
    let i = c.loop-cover.cover-index in
    let cover = c.cover-item.result in
    let rest = covers_in (drop (i + 1) covers) theory in
    let next = next_cover theory c.deref-cover-items.result.now covers i c.deref-cover-items.ensures.value cover c.loop-cover-test.true c.cover-item.is in
    let here = covers_here theory cover (drop (i + 1) covers) (sym c.has.ensures ∙ c.if-has.true) in
    let fails : test (read_cover cover) ≡ true = ap (λ own. is_some (differ along (read_map cover.map.now) own)) (sym c.requires.own) ∙ sym c.differs.ensures ∙ c.if-differs.true in
    ap (option_map (λ (x : Cover). x.first))
    (ap (λ b. cond b (Some (read_cover cover)) (find test rest)) (sym fails) ∙ ap (find test) (sym (next ∙ here)) ∙ c.loop-cover.invariant ∙ ap (find test) (c.requires.covers.covers_are theory))

pub loop-cover-preserved : goal.loop-cover-preserved
loop-cover-preserved c =
    let theory = c.args.theory.now in
    let along = read_covering (read_own (option_copied c.args.own)) c.args.covering in
    let test : Cover → Bool = disagrees (setting_of c.args.self.now) theory along in
    let covers = c.args.self.now.covers.items in
    let i = c.loop-cover.cover-index in
    let cover = c.cover-item.result in
    let rest = covers_in (drop (i + 1) covers) theory in
    let next = next_cover theory c.deref-cover-items.result.now covers i c.deref-cover-items.ensures.value cover c.loop-cover-test.true c.cover-item.is in
    elim c.else-has.branch [
      | else-has-via-then-has+else-differs w ↦
          let here = covers_here theory cover (drop (i + 1) covers) (sym c.has.ensures ∙ w.if-has.true) in
          let passes : test (read_cover cover) ≡ false = ap (λ own. is_some (differ along (read_map cover.map.now) own)) (sym c.requires.own) ∙ sym w.differs.ensures ∙ w.if-differs.false in
          ap (λ b. cond b (Some (read_cover cover)) (find test rest)) (sym passes) ∙ ap (find test) (sym (next ∙ here)) ∙ c.loop-cover.invariant
      | else-has-via-else-has w ↦
          let later = covers_later theory cover (drop (i + 1) covers) (sym c.has.ensures ∙ w.if-has.false) in
          ap (find test) (sym (next ∙ later)) ∙ c.loop-cover.invariant
    ]

pub returns : goal.returns
returns c =
    let theory = c.args.theory.now in
    let along = read_covering (read_own (option_copied c.args.own)) c.args.covering in
    let test : Cover → Bool = disagrees (setting_of c.args.self.now) theory along in
    let none = no_cover theory c.deref-cover-items.result.now c.args.self.now.covers.items c.loop-cover.cover-index c.deref-cover-items.ensures.value c.loop-cover-test.false in
    ap (option_map (λ (x : Cover). x.first)) (ap (find test) (sym none) ∙ c.loop-cover.invariant ∙ ap (find test) (c.requires.covers.covers_are theory))
