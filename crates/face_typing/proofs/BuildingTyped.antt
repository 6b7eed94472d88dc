-- A theory that is being built is well typed at each time.
use Rattle.std.proofs.Common.{[], ◌∷◌, subst}
use Rattle.verdict_meaning.specs.Modules.{declare, declare_all}
use Rattle.link_laws.proofs.Covered.{good_same}
use Rattle.face_typing.proofs.LinkInterface.{LinksAreTyped}
use Rattle.coherence_laws.proofs.BuildingHolds.{inclusions_keep_built, declarations_keep_built}
use Rattle.face_typing.specs.BuildingTyping.{IsTypedOver, BuiltScopesAreTyped, BuiltTheoriesAreTyped, EmptyIsTyped, InclusionsKeepTyped, ConstantsKeepTyped, StructuresKeepTyped, DeclarationsKeepTyped, AllDeclarationsKeepTyped, ViewsAreTyped}
use Rattle.face_typing.proofs.TheoriesTyped.{inclusion_typed, constant_typed}
use Rattle.face_typing.proofs.ModulesTyped.{here_typed, scope_typed, structure_is_typed, declare_typed, empty_typed, view_next}
use Rattle.list_laws.proofs.Answers.{came_by}

pub inclusions_keep_typed : InclusionsKeepTyped
inclusions_keep_typed environment here theory t s =
    inclusion_typed environment t.built.known t.known here t.built.absent t.so_far theory (inclusions_keep_built environment here theory t.built s).so_far

pub constants_keep_typed : ConstantsKeepTyped
constants_keep_typed environment here name class value t k v = constant_typed environment t.built.known t.known here t.built.absent t.so_far name class value k v

module _ (links : LinksAreTyped) where
  pub built_scopes_are_typed : BuiltScopesAreTyped
  built_scopes_are_typed environment here t = scope_typed links environment t.built.known t.known here t.built.so_far t.built.absent t.so_far

  pub built_theories_are_typed : BuiltTheoriesAreTyped
  built_theories_are_typed environment here t = here_typed links environment t.built.known t.known here t.built.so_far t.built.absent t.so_far

  pub empty_is_typed : EmptyIsTyped
  empty_is_typed environment name t b = record { built = b; known = t; so_far = empty_typed links environment b.known t name }

  pub structures_keep_typed : StructuresKeepTyped
  structures_keep_typed environment here written domain assigns along t s v l =
      structure_is_typed links environment t.built.known t.known here t.built.so_far t.built.absent t.so_far written domain assigns along s v l

  pub declarations_keep_typed : DeclarationsKeepTyped
  declarations_keep_typed environment here next decl t h =
      record {
        built = (declarations_keep_built environment here next decl t.built h).0;
        known = t.known;
        so_far = declare_typed links environment t.built.known t.known here t.built.so_far t.built.absent t.so_far decl next h;
      }

  pub all_declarations_keep_typed : AllDeclarationsKeepTyped
  unfolding declare_all
  all_declarations_keep_typed environment here next [] t h = subst (IsTypedOver environment) (good_same h) t
  all_declarations_keep_typed environment here next (decl ∷ decls) t h =
      let d = came_by (declare environment here decl) _ next h in
      all_declarations_keep_typed environment d.item next decls (declarations_keep_typed environment here d.item decl t d.came) d.goes

  pub views_are_typed : ViewsAreTyped
  views_are_typed environment written domain codomain target assigns along k t s e l = view_next links environment k t written domain codomain target assigns along s e l
