use Rattle.std.proofs.Common.{◌≡◌, ◌∷◌, ◌++◌, [], None, ◌∙◌, arith}
use Rattle.std.specs.Map.{lookup}
use Rattle.indexmap.proofs.CallerLemmas.{insert_entry-new}
use Rattle.list_laws.proofs.Answers.{at_ok}
use Rattle.lf_terms.specs.Tables.{same_path}
use Rattle.lf_terms.proofs.flat_sig.insert_first.Goals as goal

pub returns-clause-ok_path : goal.returns-clause-ok_path
returns-clause-ok_path c =
    let table = c.reserve.new.self in
    let room = c.in-Ok-reserve.ensures.ok in
    let absent : lookup (same_path c.in-Ok.path) table.entries ≡ None = (λ i. lookup (same_path (c.in-Ok.ensures i)) (c.reserve.ensures.entries i)) ∙ c.requires.path in
    at_ok c.insert-2.result _ (c.insert-2.ensures.succeeds (omega (arith, room))) c.insert-2.ensures.entries
    ∙ insert_entry-new same_path table c.in-Ok.path c.len-index.result absent
    ∙ (λ i. c.reserve.ensures.entries i ++ (c.in-Ok.ensures i, c.len-index.ensures.len i) ∷ [])
