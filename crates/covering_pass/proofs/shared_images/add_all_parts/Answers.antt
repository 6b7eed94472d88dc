use Rattle.std.proofs.Common.{◌≡◌, ◌∙◌, ℕ, ◌+◌, ◌<◌, List, [], ◌∷◌, ◌++◌, take, drop, get_or, length, true, Ok, sym, ap, subst}
use Rattle.std.specs.Option.{option_copied}
use Rattle.std.proofs.lemmas.List.{drop_all, take_more}
use Rattle.std.proofs.lemmas.Result.{err_from_is_err_and}
use Rattle.list_laws.proofs.Places.{take_drop}
use Rattle.name_meaning.specs.Names.{Name}
use Rattle.lf_meaning.specs.Signatures.{Signature}
use Rattle.library_meaning.specs.Faces.{own_part, own_parts}
use Rattle.library_meaning.specs.Words.{identity_map}
use Rattle.link_meaning.specs.Coverings.{is_identity_covering}
use Rattle.link_meaning.specs.CoveringMaps.{cover_all}
use Rattle.mapping_laws.specs.NextImages.{StandsBefore}
use Rattle.morphism_words_typing.proofs.SharedParts.{Keeps, keeps_none, keeps_more, shared_part}
use Rattle.term_trees.specs.Readings.{read_map, read_signature}
use Rattle.covering_pass.specs.CoverTables.{assigned_of, read_own, setting_of}
use Rattle.link_setting.proofs.Refusing.{refuses_first}
use Rattle.covering_pass.proofs.AllCovered.{next_item, covers_both, covers_none, part_covered}
use Rattle.covering_pass.proofs.NextImages.{part_next}
use Rattle.covering_pass.proofs.shared_images.add_all_parts.Goals as goal
use Rattle.covering_pass.proofs.shared_images.add_all_parts.Goals.{in-Some+in_ok-add_part, in_default}

-- The list around one of its items.
around : (names : List Name) (i : ℕ) (name : Name) → i < length names → name ≡ get_or names i name → names ≡ take i names ++ name ∷ drop (i + 1) names
around names i name within there = sym (take_drop names i) ∙ ap (λ z. take i names ++ z) (next_item (λ (xs : List Name). xs) names i name within there)

one_more : (names : List Name) (i : ℕ) (name : Name) → i < length names → name ≡ get_or names i name → take (i + 1) names ≡ take i names ++ name ∷ []
one_more names i name within there = take_more names i name within ∙ ap (λ x. take i names ++ x ∷ []) (sym there)

pub loop-theory-init : goal.loop-theory-init
loop-theory-init c =
    let setting = setting_of c.args.coverings.now.covers in
    let assigned = assigned_of c.args.coverings.now.covers in
    record {
      left = ap (λ z. cover_all setting assigned (read_map z) (own_parts setting.environment c.args.theories.now)) c.requires.nothing;
      kept = subst (Keeps setting assigned []) (sym (ap read_map c.requires.nothing)) (keeps_none setting assigned);
    }

pub add_part-requires-clause-identity : goal.add_part-requires-clause-identity
add_part-requires-clause-identity c = λ e.
    let setting = setting_of c.args.coverings.now.covers in
    let assigned = assigned_of c.args.coverings.now.covers in
    let theories = c.args.theories.now in
    let so_far = read_map c.loop-theory.so_far in
    let i = c.loop-theory.theory-index in
    let theory = c.theory-item.result in
    let own = read_signature c.in-Some.own.now in
    let here = sym c.requires.theories ∙ around theories i theory c.loop-theory-test.true c.theory-item.is in
    let part : own ≡ own_part setting.environment theory =
    sym (ap (λ o. read_own (option_copied o)) c.in-Some.is) ∙ c.chosen-chosen.ensures.chosen.own_is ∙ ap (own_part setting.environment) c.chosen-chosen.ensures.theory in
    let covered : is_identity_covering setting assigned theory ≡ true = sym (ap (is_identity_covering setting assigned) c.chosen-chosen.ensures.theory) ∙ e in
    subst (λ (z : Signature). cover_all setting assigned so_far z ≡ Ok (so_far ++ identity_map z)) (sym part)
    (shared_part setting assigned c.requires.settled (take i theories) (drop (i + 1) theories) theory here so_far c.loop-theory.invariant.kept covered)

pub add_part-requires-clause-before : goal.add_part-requires-clause-before
add_part-requires-clause-before c =
    let setting = setting_of c.args.coverings.now.covers in
    let theories = c.args.theories.now in
    let so_far = read_map c.loop-theory.so_far in
    let i = c.loop-theory.theory-index in
    let theory = c.theory-item.result in
    let own = read_signature c.in-Some.own.now in
    let here = sym c.requires.theories ∙ around theories i theory c.loop-theory-test.true c.theory-item.is in
    let part : own ≡ own_part setting.environment theory =
    sym (ap (λ o. read_own (option_copied o)) c.in-Some.is) ∙ c.chosen-chosen.ensures.chosen.own_is ∙ ap (own_part setting.environment) c.chosen-chosen.ensures.theory in
    subst (StandsBefore so_far) (sym part) (part_next setting c.requires.settled (take i theories) (drop (i + 1) theories) theory so_far here c.loop-theory.invariant.kept.names)

pub returns-in_err-add_part : goal.returns-in_err-add_part
returns-in_err-add_part c =
    let setting = setting_of c.args.coverings.now.covers in
    let assigned = assigned_of c.args.coverings.now.covers in
    let theories = c.args.theories.now in
    let so_far = read_map c.loop-theory.so_far in
    let i = c.loop-theory.theory-index in
    let theory = c.theory-item.result in
    let own = read_signature c.in-Some.own.now in
    let rest : Signature = own_parts setting.environment (drop (i + 1) theories) in
    let next = next_item (own_parts setting.environment) theories i theory c.loop-theory-test.true c.theory-item.is in
    let part : own ≡ own_part setting.environment theory =
    sym (ap (λ o. read_own (option_copied o)) c.in-Some.is) ∙ c.chosen-chosen.ensures.chosen.own_is ∙ ap (own_part setting.environment) c.chosen-chosen.ensures.theory in
    let whole =
    sym (covers_both setting assigned so_far own rest) ∙ ap (λ xs. cover_all setting assigned so_far (xs ++ rest)) part ∙ ap (cover_all setting assigned so_far) (sym next) ∙ c.loop-theory.invariant.left in
    let p = err_from_is_err_and c.from_residual.result c.from_residual.ensures.1 in
    rw (p.1, p.2) (refuses_first c.in_err-add_part.field-0.0 (cover_all setting assigned so_far own) _ _ whole c.in_err-add_part.ensures)

pub loop-theory-preserved : goal.loop-theory-preserved
loop-theory-preserved c =
    let setting = setting_of c.args.coverings.now.covers in
    let assigned = assigned_of c.args.coverings.now.covers in
    let theories = c.args.theories.now in
    let so_far = read_map c.loop-theory.so_far in
    let i = c.loop-theory.theory-index in
    let theory = c.theory-item.result in
    let rest : Signature = own_parts setting.environment (drop (i + 1) theories) in
    let here = sym c.requires.theories ∙ around theories i theory c.loop-theory-test.true c.theory-item.is in
    let next = next_item (own_parts setting.environment) theories i theory c.loop-theory-test.true c.theory-item.is in
    let part = c.chosen-chosen.ensures.chosen.own_is ∙ ap (own_part setting.environment) c.chosen-chosen.ensures.theory in
    let more = one_more theories i theory c.loop-theory-test.true c.theory-item.is in
    let keeps = keeps_more setting assigned c.requires.settled (take i theories) (drop (i + 1) theories) theory here so_far c.loop-theory.invariant.kept in
    elim c.match-chosen.branch [
      | in-Some+in_ok-add_part w ↦
          let own = read_signature w.in-Some.own.now in
          let own_is : own ≡ own_part setting.environment theory = sym (ap (λ o. read_own (option_copied o)) w.in-Some.is) ∙ part in
          let added = read_map w.add_part.new.so_far in
          record {
            left = ap (λ z. cover_all setting assigned (read_map z) rest) w.so_far-is
                ∙ part_covered setting assigned so_far added own rest w.in_ok-add_part.ensures
                ∙ ap (λ xs. cover_all setting assigned so_far (xs ++ rest)) own_is
                ∙ ap (cover_all setting assigned so_far) (sym next)
                ∙ c.loop-theory.invariant.left;
            kept = subst (λ z. Keeps setting assigned z (read_map c.match-chosen.so_far)) (sym more)
                (subst (λ z. Keeps setting assigned (take i theories ++ theory ∷ []) (read_map z)) (sym w.so_far-is)
                (keeps added (ap (cover_all setting assigned so_far) (sym own_is) ∙ w.in_ok-add_part.ensures)));
          }
      | in_default w ↦
          let none : [] ≡ own_part setting.environment theory = sym (ap (λ o. read_own (option_copied o)) w.in_default.is) ∙ part in
          record {
            left = ap (λ z. cover_all setting assigned (read_map z) rest) w.so_far-is
                ∙ ap (λ xs. cover_all setting assigned so_far (xs ++ rest)) none
                ∙ ap (cover_all setting assigned so_far) (sym next)
                ∙ c.loop-theory.invariant.left;
            kept = subst (λ z. Keeps setting assigned z (read_map c.match-chosen.so_far)) (sym more)
                (subst (λ z. Keeps setting assigned (take i theories ++ theory ∷ []) (read_map z)) (sym w.so_far-is)
                (keeps so_far (covers_none setting assigned so_far (own_part setting.environment theory) (sym none))));
          }
    ]

pub returns : goal.returns
returns c =
    let setting = setting_of c.args.coverings.now.covers in
    let assigned = assigned_of c.args.coverings.now.covers in
    let left : Signature = own_parts setting.environment (drop c.loop-theory.theory-index c.args.theories.now) in
    sym c.loop-theory.invariant.left
    ∙ covers_none setting assigned (read_map c.loop-theory.so_far) left (ap (own_parts setting.environment) (drop_all c.loop-theory.theory-index c.args.theories.now c.loop-theory-test.false))
