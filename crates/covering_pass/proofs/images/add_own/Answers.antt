use Rattle.std.proofs.Common.{◌≡◌, ℕ, ◌≤◌, ◌∙◌, ◌+◌, length, drop, Some, refl, sym, ap, subst, arith}
use Rattle.std.specs.Prelude.{slice_get}
use Rattle.std.proofs.lemmas.List.{length-map, drop_all}
use Rattle.std.proofs.lemmas.Result.{err_from_is_err_and}
use Rattle.lf_meaning.specs.Signatures.{Declaration, Signature}
use Rattle.lf_meaning.specs.HeadMaps.{HeadMap}
use Rattle.link_meaning.specs.Coverings.{covering_value}
use Rattle.link_meaning.specs.CoveringMaps.{cover_all}
use Rattle.link_meaning.specs.Passes.{mapping_to}
use Rattle.mapping_laws.specs.NextImages.{IsNext, StandsBefore}
use Rattle.mapping_laws.proofs.NextMapped.{next_is_mapped, next_stands_before}
use Rattle.term_trees.specs.Readings.{read_declaration, read_map, read_signature, read_value}
use Rattle.covering_pass.specs.CoverTables.{assigned_of, setting_of}
use Rattle.link_setting.proofs.Refusing.{refuses_first}
use Rattle.covering_pass.proofs.AllCovered.{next_there, covers_one, covers_first, covers_none}
use Rattle.covering_pass.proofs.images.add_own.Goals as goal
use Rattle.covering_pass.proofs.images.add_own.Goals.{in-Some+in_ok-value+in_ok-add_image, in_default}

-- The constant at this place comes next.
next_own : (so_far : HeadMap) (own : Signature) (i : ℕ) (d : Declaration) → StandsBefore so_far (drop i own) → Some d ≡ slice_get own i → IsNext so_far d
next_own so_far own i d before there =
    next_is_mapped so_far d (drop (i + 1) own) (subst (StandsBefore so_far) (next_there (λ (ds : Signature). ds) own i d (sym there)) before)

pub loop-i-init : goal.loop-i-init
loop-i-init c = record { left = refl; before = c.requires.before }

pub returns-in_err-value : goal.returns-in_err-value
returns-in_err-value c =
    let setting = setting_of c.args.coverings.now.covers in
    let assigned = assigned_of c.args.coverings.now.covers in
    let own = read_signature c.args.own.now in
    let so_far = read_map c.loop-i.so_far in
    let i = c.loop-i.i in
    let decl = read_declaration c.in-Some.decl.now in
    let there : slice_get own i ≡ Some decl = sym c.in-Some.ensures.meaning in
    let whole = covers_first setting assigned so_far decl (drop (i + 1) own) ∙ sym (next_there (cover_all setting assigned so_far) own i decl there) ∙ c.loop-i.invariant.left in
    let p = err_from_is_err_and c.from_residual.result c.from_residual.ensures.1 in
    rw (p.1, p.2) (refuses_first c.in_err-value.field-0.0 (covering_value setting assigned decl) _ _ whole c.in_err-value.ensures)

pub add_image-requires-clause-class : goal.add_image-requires-clause-class
add_image-requires-clause-class c =
    (next_own (read_map c.loop-i.so_far) (read_signature c.args.own.now) c.loop-i.i (read_declaration c.in-Some.decl.now) c.loop-i.invariant.before c.in-Some.ensures.meaning).class

pub add_image-requires-clause-fresh : goal.add_image-requires-clause-fresh
add_image-requires-clause-fresh c =
    (next_own (read_map c.loop-i.so_far) (read_signature c.args.own.now) c.loop-i.i (read_declaration c.in-Some.decl.now) c.loop-i.invariant.before c.in-Some.ensures.meaning).fresh

pub loop-i-preserved : goal.loop-i-preserved
loop-i-preserved c =
    let setting = setting_of c.args.coverings.now.covers in
    let assigned = assigned_of c.args.coverings.now.covers in
    let own = read_signature c.args.own.now in
    let so_far = read_map c.loop-i.so_far in
    let i = c.loop-i.i in
    elim c.match-at.branch [
      | in-Some+in_ok-value+in_ok-add_image w ↦
          let decl = read_declaration w.in-Some.decl.now in
          let there : slice_get own i ≡ Some decl = sym w.in-Some.ensures.meaning in
          let value = read_value w.in_ok-value.value in
          let added = ap read_map w.so_far-is ∙ w.in_ok-add_image.ensures in
          let before = subst (StandsBefore so_far) (next_there (λ (ds : Signature). ds) own i decl there) c.loop-i.invariant.before in
          record {
            left = ap (λ along. cover_all setting assigned along (drop (i + 1) own)) added
                ∙ sym (covers_one setting assigned so_far decl (drop (i + 1) own) value w.in_ok-value.ensures)
                ∙ sym (next_there (cover_all setting assigned so_far) own i decl there)
                ∙ c.loop-i.invariant.left;
            before = subst (λ along. StandsBefore along (drop (i + 1) own)) (sym added) (next_stands_before so_far decl (drop (i + 1) own) (mapping_to so_far decl value) before refl);
          }
      | in_default w ↦ absurd (omega (arith, c.len-i-end.ensures.len, w.in_default.ensures.none.0 refl))
    ]

pub returns : goal.returns
returns c =
    let setting = setting_of c.args.coverings.now.covers in
    let assigned = assigned_of c.args.coverings.now.covers in
    let own = read_signature c.args.own.now in
    let past : length own ≤ c.loop-i.i = omega (arith, length-map c.args.own.now read_declaration, c.len-i-end.ensures.len) in
    sym c.loop-i.invariant.left ∙ covers_none setting assigned (read_map c.loop-i.so_far) (drop c.loop-i.i own) (drop_all c.loop-i.i own past)
