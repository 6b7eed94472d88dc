use Rattle.std.proofs.Common.{◌∷◌, ◌++◌, [], length, sym, ◌∙◌}
use Rattle.lf_terms.specs.Tables.{HasFirstPlaces}
use Rattle.lf_terms.proofs.FirstPlaces.{table_grows, table_stays}
use Rattle.lf_terms.proofs.FlatTables.{either_way, one_way}
use Rattle.lf_terms.proofs.flat_sig.insert_in_both.Goals as goal

pub returns-then-contains_key-clause-tables : goal.returns-then-contains_key-clause-tables
returns-then-contains_key-clause-tables c =
    let decls = c.args.decls.now.keys in
    let places = c.args.places.now.entries in
    let d = c.args.decl in
    let there = sym c.contains_key.ensures ∙ c.if-contains_key.true in
    one_way (λ ds ps. HasFirstPlaces ps ds) c.insert.result decls (decls ++ d ∷ []) c.insert.new.decls.keys places
    c.insert.ensures.ok c.insert.ensures.err (table_stays places decls d c.requires.tables there) c.requires.tables

pub returns-else-contains_key-clause-tables : goal.returns-else-contains_key-clause-tables
returns-else-contains_key-clause-tables c =
    let decls = c.args.decls.now.keys in
    let places = c.args.places.now.entries in
    let d = c.args.decl in
    either_way (λ ds ps. HasFirstPlaces ps ds) c.insert_first.result decls (decls ++ d ∷ []) c.insert_first.new.decls.keys
    places (places ++ (d.name.path, length decls) ∷ []) c.insert_first.new.by_path.entries
    c.insert_first.ensures.ok c.insert_first.ensures.ok_path c.insert_first.ensures.err c.insert_first.ensures.err_path
    (table_grows places decls d c.requires.tables) c.requires.tables
