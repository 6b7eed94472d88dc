use Rattle.std.proofs.Common.{◌≡◌, List, ◌∷◌, ◌++◌, [], Bool, true, false, cond, Result, Ok, Err, ap, ◌∙◌}
use Rattle.std.specs.Result.{IfOk}
use Rattle.std.proofs.lemmas.List.{map-append}
use Rattle.lf_meaning.specs.HeadMaps.{Mapping}
use Rattle.library_meaning.specs.Words.{identity_mapping}
use Rattle.base_types.specs.declared.qname.QName.{QName}
use Rattle.base_types.specs.declared.memory.Memory.{Memory}
use Rattle.term_trees.specs.declared.flat_decl.Image.{Image}
use Rattle.term_trees.specs.Readings.{read_constant, read_declaration, read_map, read_mapping}
use Rattle.lf_terms.proofs.flat_sig.push_own.Goals as goal

pushed : (r : Result Bool Memory) (old new : List (QName × Image)) (pair : QName × Image) (mapping : Mapping) → read_mapping pair ≡ mapping
    → IfOk r (λ added. new ≡ cond added (old ++ pair ∷ []) old) → IfOk r (λ added. added ≡ true → read_map new ≡ read_map old ++ mapping ∷ [])
pushed (Ok true) old new pair mapping e h = λ t. ap read_map h ∙ map-append read_mapping old (pair ∷ []) ∙ ap (λ m. read_map old ++ m ∷ []) e
pushed (Ok false) old new pair mapping e h = λ t. absurd (cc)
pushed (Err fault) old new pair mapping e h = tt

pub returns : goal.returns
returns c =
    let decl = c.args.decl.now in
    let pair : QName × Image = (c.in_ok-name.name, c.in_ok-image.image) in
    let is : read_mapping pair ≡ identity_mapping (read_declaration decl) =
    (λ i. record { name = read_constant (c.in_ok-name.ensures i); image = c.in_ok-image.ensures i }) in
    pushed c.push.result c.args.part.now c.push.new.self pair (identity_mapping (read_declaration decl)) is c.push.ensures
