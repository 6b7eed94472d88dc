use Rattle.std.proofs.Common.{◌≡◌, ◌∷◌, ◌++◌, [], false, None, cond, is_some, sym, ap, ◌∙◌}
use Rattle.std.specs.Map.{lookup}
use Rattle.indexmap.proofs.CallerLemmas.{insert_entry-new}
use Rattle.list_laws.proofs.Options.{none_of}
use Rattle.lf_terms.specs.Tables.{same_path}
use Rattle.lf_terms.proofs.flat_sig.note_place.Goals as goal

pub returns : goal.returns
returns c =
    let places = c.args.places.now in
    let path = c.args.path.now in
    let missing : is_some (lookup (same_path path) places.entries) ≡ false = sym c.contains_key.ensures ∙ c.if-contains_key.false in
    let absent : lookup (same_path c.in_ok-key.key) places.entries ≡ None = ap (λ p. lookup (same_path p) places.entries) c.in_ok-key.ensures ∙ none_of (lookup (same_path path) places.entries) missing in
    c.in_ok-insert.ensures.entries ∙ insert_entry-new same_path places c.in_ok-key.key c.args.index absent
    ∙ ap (λ p. places.entries ++ (p, c.args.index) ∷ []) c.in_ok-key.ensures
    ∙ sym (ap (λ b. cond b places.entries (places.entries ++ (path, c.args.index) ∷ [])) missing)
