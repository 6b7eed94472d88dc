use Rattle.std.proofs.Common.{◌≡◌, ◌++◌, Some, None, sym, ap, ◌∙◌}
use Rattle.std.specs.Option.{option_copied, option_map, option_or}
use Rattle.term_trees.specs.Readings.{read_image}
use Rattle.lf_terms.specs.Parts.{image_in_part, pairs_of}
use Rattle.lf_terms.specs.Tables.{image_of}
use Rattle.lf_terms.proofs.Lookup.{copied_read, mapped_read}
use Rattle.lf_terms.proofs.head_map.HeadMap.get.Goals as goal

pub returns-in-Some-clause-meaning : goal.returns-in-Some-clause-meaning
returns-in-Some-clause-meaning c =
    let parts = c.self.inside.parts.entries in
    let own = c.self.inside.own.entries in
    let name = c.args.name.now in
    let here : image_in_part parts name ≡ Some c.in-Some.image.now = sym c.image_in_part.ensures ∙ ap option_copied c.in-Some.is in
    let found : Some c.in-Some.image.now ≡ image_of (pairs_of parts ++ own) name = sym (c.self.invariant.found name ∙ ap (λ o. option_or o (image_of own name)) here) in
    rw (← c.self.view_is) (ap (option_map read_image) found ∙ mapped_read (pairs_of parts ++ own) name)

pub returns-in-None-clause-meaning : goal.returns-in-None-clause-meaning
returns-in-None-clause-meaning c =
    let parts = c.self.inside.parts.entries in
    let own = c.self.inside.own.entries in
    let name = c.args.name.now in
    let none : image_in_part parts name ≡ None = sym c.image_in_part.ensures ∙ ap option_copied c.in-None.is in
    let found : image_of own name ≡ image_of (pairs_of parts ++ own) name = sym (c.self.invariant.found name ∙ ap (λ o. option_or o (image_of own name)) none) in
    rw (← c.self.view_is) (copied_read read_image c.get.result ∙ ap (option_map read_image) (c.get.ensures.value ∙ found) ∙ mapped_read (pairs_of parts ++ own) name)
