use Rattle.std.proofs.Common.{sym, subst, ap₂}
use Rattle.link_meaning.specs.CoveringMaps.{covering_map}
use Rattle.link_meaning.specs.LinkMaps.{IsSettled}
use Rattle.term_trees.specs.Readings.{read_map}
use Rattle.covering_pass.specs.CoverTables.{assigned_of, setting_of}
use Rattle.link_setting.proofs.Refusing.{links_same}
use Rattle.covering_pass.proofs.coverings.covering_map.Goals as goal

pub returns : goal.returns
returns c =
    let setting = setting_of c.in_ok-coverings.coverings.covers in
    let assigned = assigned_of c.in_ok-coverings.coverings.covers in
    links_same read_map c.tested_images-map.result (covering_map setting assigned) _ (ap₂ covering_map c.in_ok-coverings.ensures.setting c.in_ok-coverings.ensures.assigned) c.tested_images-map.ensures

pub tested_images-map-requires-clause-settled : goal.tested_images-map-requires-clause-settled
tested_images-map-requires-clause-settled c = subst IsSettled (sym c.in_ok-coverings.ensures.setting) c.requires
