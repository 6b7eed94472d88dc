-- A theory that is being built is coherent at each time.
use Rattle.std.proofs.Common.{◌≡◌, false, List, [], ◌∷◌, ◌++◌, Ok, not, refl, ap, ◌∙◌, subst}
use Rattle.name_meaning.specs.Names.{Name}
use Rattle.library_meaning.specs.Faces.{TheoryFace, flat_of}
use Rattle.lf_meaning.specs.Signatures.{Signature}
use Rattle.lf_meaning.specs.HeadMaps.{HeadMap}
use Rattle.link_meaning.specs.Assignments.{Setting, Assigned, read_assigns}
use Rattle.link_meaning.specs.Passes.{map_all}
use Rattle.constant_laws.specs.ExpansionHolds.{scope_signature}
use Rattle.link_laws.proofs.Reading.{assigns_sound}
use Rattle.link_laws.proofs.Onces.{once_names, hold_append, after_declarations}
use Rattle.link_laws.proofs.ImagesHold.{SettingHolds}
use Rattle.link_laws.proofs.AssignedHold.{items_hold}
use Rattle.link_laws.proofs.LinksHold.{front_holds, added_all}
use Rattle.text_meaning.specs.Trees.{Assign, first_name}
use Rattle.verdict_meaning.specs.Modules.{is_used, structure_setting, view_setting, declare, declare_all}
use Rattle.coherence_laws.specs.BuildingLaws.{IsBuiltOver, BuiltScopesHold, BuiltTheoriesHold, EmptyIsBuilt, InclusionsKeepBuilt, ConstantsKeepBuilt, StructuresKeepBuilt, DeclarationsKeepBuilt, AllDeclarationsKeepBuilt, ViewsAreCoherent}
use Rattle.coherence_laws.specs.LinksSoFar.{MapHoldsSoFar, StructuresHoldSoFar, ViewsHoldSoFar}
use Rattle.coherence_laws.proofs.TheoriesHold.{inclusion_step, constant_step}
use Rattle.coherence_laws.proofs.ModulesHold.{here_ok, scope_ok, Unused, unused_where, setting_ok, structure_next, declare_holds, empty_holds, view_ok, view_next}
use Rattle.link_laws.proofs.Covered.{good_same}
use Rattle.list_laws.proofs.Answers.{came_by}

pub built_scopes_hold : BuiltScopesHold
built_scopes_hold environment here b = scope_ok environment b.known here b.so_far b.absent

pub built_theories_hold : BuiltTheoriesHold
built_theories_hold environment here b = here_ok environment b.known here b.so_far b.absent

pub empty_is_built : EmptyIsBuilt
empty_is_built environment name k a = record { known = k; absent = a; so_far = empty_holds environment k name }

pub inclusions_keep_built : InclusionsKeepBuilt
inclusions_keep_built environment here theory b s =
    record { known = b.known; absent = b.absent; so_far = inclusion_step environment b.known here b.so_far b.absent theory s }

unused : (here : TheoryFace) (name : Name) → is_used here name ≡ false → Unused here name
unused here name h = unused_where here name (ap not h)

pub constants_keep_built : ConstantsKeepBuilt
constants_keep_built environment here name class value b u h g =
    let n = unused here name u in
    record { known = b.known; absent = b.absent; so_far = constant_step environment b.known here b.so_far b.absent name class value n.constant n.structure h g }

pub structures_keep_built : StructuresKeepBuilt
structures_keep_built environment here written domain assigns along b s u l =
    record {
      known = b.known;
      absent = b.absent;
      so_far = (structure_next environment b.known here b.so_far b.absent written domain assigns along s (unused here (first_name written.path) u) l).is;
    }

pub declarations_keep_built : DeclarationsKeepBuilt
declarations_keep_built environment here next decl b h =
    let n = declare_holds environment b.known here b.so_far b.absent decl next h in
    (record { known = b.known; absent = ap environment n.named ∙ b.absent; so_far = n.is }, n.named)

pub all_declarations_keep_built : AllDeclarationsKeepBuilt
unfolding declare_all
all_declarations_keep_built environment here next [] b h = subst (λ (z : TheoryFace). IsBuiltOver environment z × (z.name ≡ here.name)) (good_same h) (b, refl)
all_declarations_keep_built environment here next (decl ∷ decls) b h =
    let d = came_by (declare environment here decl) _ next h in
    let n = declarations_keep_built environment here d.item decl b d.came in
    let m = all_declarations_keep_built environment d.item next decls n.0 d.goes in
    (m.0, m.1 ∙ n.1)

pub views_are_coherent : ViewsAreCoherent
views_are_coherent environment written domain codomain target assigns along k s t l = view_next environment k written domain codomain target assigns along s t l

-- ---- the map of a link while it is made

front_so_far : (setting : Setting) (ok : SettingHolds setting) (assigns : List Assign) (assigned : List Assigned) (met later : Signature) (along : HeadMap) → read_assigns setting [] assigns ≡ Ok assigned
    → flat_of setting.environment setting.domain ≡ met ++ later → map_all setting assigned [] met ≡ Ok along → MapHoldsSoFar setting met along
front_so_far setting ok assigns assigned met later along r e h =
    let f = front_holds setting ok assigned (items_hold setting ok [] assigns assigned (assigns_sound setting [] assigns assigned r)) met later along e h in
    record {
      induced = added_all setting met along;
      declarations = after_declarations (scope_signature setting.scope ++ added_all setting met along) (hold_append [] (scope_signature setting.scope) (added_all setting met along) ok.holds f.holds);
      once = once_names (scope_signature setting.scope ++ added_all setting met along) f.once;
      map_is = f.map_is;
    }

pub structures_hold_so_far : StructuresHoldSoFar
structures_hold_so_far environment here written domain assigns assigned met later along b s u r e h =
    front_so_far (structure_setting environment here written domain) (setting_ok environment b.known here b.so_far b.absent written domain s (unused here (first_name written.path) u).structure)
    assigns assigned met later along r e h

pub views_hold_so_far : ViewsHoldSoFar
views_hold_so_far environment written domain codomain target assigns assigned met later along k s t r e h =
    front_so_far (view_setting environment written domain target codomain) (view_ok environment k written domain target codomain s t) assigns assigned met later along r e h
