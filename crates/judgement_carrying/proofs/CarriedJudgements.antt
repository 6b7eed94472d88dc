-- What carrying a judgement comes to, by the steps that the code takes.
use Rattle.std.proofs.Common.{◌≡◌, [], ◌++◌, Some, None, Result, Ok, Err, IfOk, is_some, sym, ap, ◌∙◌, subst, true≢false}
use Rattle.std.proofs.lemmas.Option.{same_Some}
use Rattle.name_meaning.specs.Names.{Name, Text}
use Rattle.name_meaning.specs.Rows.{Rows, row_names}
use Rattle.edit_log_meaning.specs.Log.{Library}
use Rattle.lf_meaning.specs.Terms.{Object, Family}
use Rattle.text_meaning.specs.Trees.{Judgement}
use Rattle.text_meaning.specs.Reading.{JudgementText, JudgementTree, Answer, Read}
use Rattle.text_meaning.specs.TextAnswers.{read}
use Rattle.library_meaning.specs.Faces as faces
use Rattle.library_meaning.specs.Faces.{Known, IsAbsent, IsRefused, IsTheory, IsView, view_face, Environment, theory_of, view_of, includes_of, own_of, own_parts, flat_signature, flat_of}
use Rattle.library_meaning.specs.Coherence.{IsCoherentMap, IsCoherentView}
use Rattle.elaborate_meaning.specs.Answers as answers
use Rattle.elaborate_meaning.specs.Expansion.{expand_object, expand_family}
use Rattle.elaborate_laws.proofs.Sound.{object_sound, family_sound}
use Rattle.constant_laws.specs.ExpansionHolds.{ScopeHolds}
use Rattle.constant_laws.proofs.Expanding.{standing_object_holds, standing_family_holds}
use Rattle.constant_laws.proofs.Translating.{coherent_maps_into}
use Rattle.library_meaning.specs.Holding.{FamilyHolds}
use Rattle.link_laws.proofs.Scopes.{theory_scopes_hold}
use Rattle.verdict_meaning.specs.Modules.{scope_in}
use Rattle.translation_meaning.specs.Unmapped.{unmapped_object, unmapped_family}
use Rattle.judged_meaning.specs.Carrying.{NoSuchView, carried_object, carried_family, carried_over, carried_text, carried_along, carry}
use Rattle.carried_typing.specs.CarriedTyping.{IsCarried}
use Rattle.carried_typing.proofs.CarriedInReach.{faces_carry_typing}
use Rattle.term_trees.specs.Readings.{read_map, read_object, read_family}
use Rattle.mmt_interface.specs.Carriages.{IsCarriage, IsCarryFault}
use Rattle.mmt_interface.specs.CoherentFaces.{AreCoherent}
use Rattle.mmt_interface.specs.Readings.{environment_of, read_theory, read_view}
use Rattle.mmt_interface.specs.declared.carried.Carried.{Carried}
use Rattle.mmt_interface.specs.declared.carried.CarryFault.{CarryFault}
use Rattle.mmt_interface.specs.declared.carried.CarryFault.TheVariants.{NoView, Ill, Memory}
use Rattle.mmt_interface.specs.declared.face.TheoryFace.{TheoryFace}
use Rattle.mmt_interface.specs.declared.face.ViewFace.{ViewFace}
use Rattle.mmt_interface.specs.declared.verdict.Verdict.{Verdict}
use Rattle.elaborate.specs.Answers.{IsFirstFault}
use Rattle.elaborate.specs.declared.fault.ElabFault.{ElabFault}
use Rattle.elaborate.specs.declared.fault.ElabFault.TheVariants as expansion
use Rattle.judgement_carrying.specs.Expanded.{IsFirstIll, ill_of}
use Rattle.judgement_carrying.specs.OneLibrary.{HoldReachOf}
use Rattle.mapping_laws.proofs.Mapped.{object_mapped, family_mapped}
use Rattle.judgement_carrying.proofs.OneLibraryKnown.{known_alone}

-- ---- the view, and the theory that it is from

pub no_view : (environment : Environment) (name : Name) (text : Text) → None ≡ view_of environment name → carry environment name text ≡ NoSuchView
unfolding carry
no_view environment name text h = ap (λ o. carried_along environment o text) (sym h)

known_view : (known : Known) (face : faces.ViewFace) → Some face ≡ view_face known → known ≡ IsView face
known_view IsAbsent face h = absurd (cc)
known_view IsRefused face h = absurd (cc)
known_view (IsTheory found) face h = absurd (cc)
known_view (IsView found) face h = ap IsView (sym (same_Some _ _ h))

module _ (rows : Rows Verdict) (name : Name) (view : ViewFace) (coherent : AreCoherent rows) (found : Some (read_view view) ≡ view_of (environment_of rows) name) where
  view_coherent : IsCoherentView (environment_of rows) name (read_view view)
  view_coherent = coherent.known.views name (read_view view) (known_view (environment_of rows name) (read_view view) found)

  pub domain_there : None ≡ theory_of (environment_of rows) view.domain → ⊥
  domain_there h = true≢false (sym view_coherent.domain ∙ ap is_some (sym h))

  module _ (source : TheoryFace) (from : Some (read_theory source) ≡ theory_of (environment_of rows) view.domain) where
    pub source_scope : ScopeHolds (scope_in (environment_of rows) (read_theory source))
    source_scope =
        subst (λ o. ScopeHolds (record { own = own_of o; includes = includes_of o; environment = environment_of rows })) (sym from)
        (theory_scopes_hold (environment_of rows) view.domain coherent.known view_coherent.domain)

    pub source_map : IsCoherentMap (flat_signature (environment_of rows) (read_theory source)) (flat_of (environment_of rows) view.codomain) (read_map view.map)
    source_map =
        subst (λ o. IsCoherentMap (own_parts (environment_of rows) (includes_of o) ++ own_of o) (flat_of (environment_of rows) view.codomain) (read_map view.map)) (sym from)
        view_coherent.map_is

    pub along_text : (text : Text) (answer : Answer) → read JudgementText text ≡ answer → carried_text (environment_of rows) (read_view view) answer ≡ carry (environment_of rows) name text
    unfolding carry
    along_text text answer h = ap (carried_text (environment_of rows) (read_view view)) (sym h) ∙ ap (λ o. carried_along (environment_of rows) o text) found

    pub along_judgement : (text : Text) (judgement : Judgement) → read JudgementText text ≡ Read (JudgementTree judgement)
        → carried_over (environment_of rows) (read_view view) judgement (Some (read_theory source)) ≡ carry (environment_of rows) name text
    along_judgement text judgement h =
        ap (carried_over (environment_of rows) (read_view view) judgement) from ∙ along_text text (Read (JudgementTree judgement)) h

-- ---- faults of expressions

pub ill_stays : {B : Type 0} (fault : ElabFault) (answer : answers.Answer B) → IsFirstFault fault answer → IsFirstIll (ill_of fault) answer
ill_stays (expansion.Broken span rule) answer h = h
ill_stays expansion.Memory answer h = tt

module _ (environment : Environment) (view : faces.ViewFace) (source : faces.TheoryFace) (judgement : Judgement) where
  pub family_ill : (fault : CarryFault) → IsFirstIll fault (expand_family (scope_in environment source) [] judgement.family)
      → IsCarryFault fault (carried_over environment view judgement (Some source))
  family_ill NoView h = absurd h
  family_ill (Ill span rule) h = ap (carried_family view.map (scope_in environment source) judgement) h
  family_ill Memory h = tt

  module _ (family : Family) (stands : expand_family (scope_in environment source) [] judgement.family ≡ Ok family) where
    by_object : carried_over environment view judgement (Some source) ≡ carried_object view.map family (expand_object (scope_in environment source) [] judgement.object family)
    by_object = ap (carried_family view.map (scope_in environment source) judgement) stands

    pub object_ill : (fault : CarryFault) → IsFirstIll fault (expand_object (scope_in environment source) [] judgement.object family)
        → IsCarryFault fault (carried_over environment view judgement (Some source))
    object_ill NoView h = absurd h
    object_ill (Ill span rule) h = by_object ∙ ap (carried_object view.map family) h
    object_ill Memory h = tt

    pub object_carried : (object : Object) → expand_object (scope_in environment source) [] judgement.object family ≡ Ok object
        → carried_over environment view judgement (Some source) ≡ carried_object view.map family (Ok object)
    object_carried object h = by_object ∙ ap (carried_object view.map family) h

    -- ---- what stands over the whole domain is mapped

    module _ (scope : ScopeHolds (scope_in environment source)) (map : IsCoherentMap (flat_signature environment source) (flat_of environment view.codomain) view.map) where
      family_stands_holds : FamilyHolds (flat_signature environment source) 0 family
      family_stands_holds =
          standing_family_holds (scope_in environment source) [] judgement.family family scope tt (family_sound judgement.family (scope_in environment source) [] family stands)

      pub family_images : unmapped_family view.map family ≡ None
      family_images =
          family_mapped (flat_signature environment source) view.map
          (λ c class there. ap is_some (coherent_maps_into (flat_signature environment source) (flat_of environment view.codomain) view.map map c class there).is) family 0 family_stands_holds

      pub object_images : (object : Object) → expand_object (scope_in environment source) [] judgement.object family ≡ Ok object → unmapped_object view.map object ≡ None
      object_images object h =
          object_mapped (flat_signature environment source) view.map
          (λ c class there. ap is_some (coherent_maps_into (flat_signature environment source) (flat_of environment view.codomain) view.map map c class there).is) object 0
          (standing_object_holds (scope_in environment source) [] judgement.object family object scope tt family_stands_holds
          (object_sound judgement.object (scope_in environment source) [] family object h))

-- ---- a typing judgement

-- What is carried over verdicts of one library is a typing judgement, where with the view they have its reach.
pub carried_typed : (library : Library) (rows : Rows Verdict) (name : Name) (text : Text) (result : Result Carried CarryFault) → HoldReachOf library rows name
    → IsCarriage result (carry (environment_of rows) name text) → IfOk result (λ carried. IsCarried (environment_of rows) name text (read_object carried.obj) (read_family carried.fam))
carried_typed library rows name text (Ok carried) held h =
    let alone = known_alone library rows held.verdicts in
    subst (λ z. IsCarried z name text (read_object carried.obj) (read_family carried.fam)) (sym alone)
    (faces_carry_typing library (row_names rows) name text (read_object carried.obj) (read_family carried.fam) held.reach
    (ap (λ z. carry z name text) (sym alone) ∙ h))
carried_typed library rows name text (Err fault) held h = tt
