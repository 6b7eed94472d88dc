use Rattle.std.proofs.Common.{Some, None, sym, ap₂, ◌∙◌}
use Rattle.std.proofs.lemmas.Slice.Eq.{bytes_eq-Decides, strip_prefix_is}
use Rattle.link_meaning.specs.Passes.{rest_behind}
use Rattle.link_passes.proofs.Reaching.{none_behind, rest_read, rest_empty}
use Rattle.link_passes.proofs.reached.rest_behind.Goals as goal

pub returns-in_err-strip_prefix : goal.returns-in_err-strip_prefix
returns-in_err-strip_prefix c =
    let path = c.as_slice.result.now in
    let beginning = c.as_slice-2.result.now in
    let apart = strip_prefix_is bytes_eq-Decides path beginning None c.in_err-strip_prefix.ensures.cases in
    rw c.from_residual.ensures (sym (none_behind beginning path apart) ∙ ap₂ rest_behind c.as_slice-2.ensures.names c.as_slice.ensures.names)

pub returns-in-empty : goal.returns-in-empty
returns-in-empty c =
    let path = c.as_slice.result.now in
    let beginning = c.as_slice-2.result.now in
    let parts = strip_prefix_is bytes_eq-Decides path beginning (Some c.in_ok-strip_prefix.field-0) c.in_ok-strip_prefix.ensures.cases in
    rest_empty beginning path c.in_ok-strip_prefix.field-0.now parts c.in-empty.len_below ∙ ap₂ rest_behind c.as_slice-2.ensures.names c.as_slice.ensures.names

pub returns-in-len1-up : goal.returns-in-len1-up
returns-in-len1-up c =
    let path = c.as_slice.result.now in
    let beginning = c.as_slice-2.result.now in
    let parts = strip_prefix_is bytes_eq-Decides path beginning (Some c.in_ok-strip_prefix.field-0) c.in_ok-strip_prefix.ensures.cases in
    rest_read beginning path c.in_ok-strip_prefix.field-0.now c.first-item.result parts c.in-len1-up.len_at_least c.first-item.is ∙ ap₂ rest_behind c.as_slice-2.ensures.names c.as_slice.ensures.names
