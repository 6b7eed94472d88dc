use Rattle.std.proofs.Common.{not, ◌&&◌, map, sym, ap, ◌∙◌}
use Rattle.std.specs.List.{list_any}
use Rattle.std.specs.Str.{bytes_eq}
use Rattle.std.specs.String.{string_bytes}
use Rattle.mmt_outside.proofs.Folders.{any_mapped}
use Rattle.mmt_outside.proofs.memory_folder.is_further.Goals as goal

pub returns-then-eq : goal.returns-then-eq
returns-then-eq c =
    let name = string_bytes c.args.file.now.1 in
    let names = c.args.names.now in
    let own = c.has_name.ensures ∙ ap (λ n. list_any (λ o. bytes_eq (string_bytes o) n) names) c.as_str-then-eq.ensures.value in
    let any = own ∙ sym (any_mapped string_bytes (λ o. bytes_eq o name) names) in
    let here = sym c.if-eq.true ∙ c.eq.ensures ∙ ap (λ f. bytes_eq f c.args.folder.now) c.as_str.ensures.value in
    ap (λ b. not b) any ∙ ap (λ b. b && not (list_any (λ o. bytes_eq o name) (map string_bytes names))) here
