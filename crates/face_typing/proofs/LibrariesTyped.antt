-- The faces of all accepted modules of a library are well typed, and so flat signatures, views and structures.
use Rattle.std.proofs.Common.{List, ◌≡◌, ℕ, zero, suc, Bool, true, false, ◌++◌, length, Option, Some, None, Ok, Err, refl, sym, ◌∙◌, subst}
use Rattle.std.specs.Prelude.{⊤}
use Rattle.lf_meaning.specs.Judgements.{IsSignature}
use Rattle.name_meaning.specs.Names.{same_name as same_bytes, Name, Text, is_among}
use Rattle.lf_typing.proofs.Growing.{empty_signature}
use Rattle.edit_log_meaning.specs.Log.{Library, text_of}
use Rattle.translation_typing.proofs.Laws.{typing_is_carried}
use Rattle.library_meaning.specs.Faces.{TheoryFace, ViewFace, IsAbsent, IsTheory, IsView, Environment, theory_of, includes_of, own_of, own_parts, flat_signature, flat_of}
use Rattle.library_meaning.specs.Coherence.{IsCoherent}
use Rattle.text_meaning.specs.Trees.{Module, SigModule, ViewModule, first_name}
use Rattle.text_meaning.specs.Reading.{ModuleText, ModuleTree, JudgementTree, Answer, Read, Syntax, TooDeep, Unsupported}
use Rattle.text_meaning.specs.TextAnswers.{read}
use Rattle.elaborate_meaning.specs.Rules.{Rule}
use Rattle.link_meaning.specs.Refusals.{Outcome, demand}
use Rattle.link_laws.proofs.Covered.{good_same}
use Rattle.link_laws.proofs.Valued.{demand_holds}
use Rattle.link_laws.proofs.Linked.{known_theory}
use Rattle.text_meaning.specs.Dependencies.{dependencies}
use Rattle.verdict_meaning.specs.Modules.{empty_theory, declare_all, checked_view}
use Rattle.verdict_meaning.specs.Verdicts.{Interface, Theory, View, Verdict, Accepted, Refused, verdict_by, known_by, written_name, checked, judge_tree, judge_answer, judge}
use Rattle.verdict_meaning.specs.Rounds.{others_reached, verdict_of, known_of, verdicts, told_by, known_to}
use Rattle.verdict_laws.proofs.Shortness.{Short, short_reached}
use Rattle.verdict_laws.proofs.Rounds.{in_others}
use Rattle.verdict_laws.proofs.Verdicts.{verdict_is_judged}
use Rattle.coherence_laws.specs.CoherenceLaws.{AreClosed}
use Rattle.coherence_laws.proofs.ModulesHold.{empty_holds}
use Rattle.coherence_laws.proofs.LibrariesHold.{cycle_refuses, absent_reach, others_not, extends_to, itself_absent, told, theory_shown, view_shown, Sound, verdict_text, verdict_reached, sound, tells_more, accepted_theory, accepted_view, library_coherent, listed, closed_extends, grounded_short}
use Rattle.face_typing.specs.Below.TypedFaces.{IsTypedTheory, IsTypedView, IsTypedEnvironment}
use Rattle.face_typing.specs.FaceTypingLaws.{FacesAreTyped, TheoriesFlatten, ViewsCarryTyping, StructuresCarryTyping, GroundedKnowTyped, ClosedAreTyped, KnownViewsTranslate, KnownStructuresTranslate, KnownViewsCarryTyping, KnownStructuresCarryTyping}
use Rattle.face_typing.specs.JudgedTyping.{JudgedTheoriesAreTyped, JudgedViewsAreTyped}
use Rattle.face_typing.proofs.LinkInterface.{LinksAreTyped}
use Rattle.face_typing.proofs.ModulesTyped.{declare_all_typed, empty_typed, view_typed}
use Rattle.face_typing.proofs.TypingTransfers.{theory_typing_transfers, view_typing_transfers}
use Rattle.face_typing.proofs.Below.ProperImages.{images_proper}
use Rattle.std.proofs.lemmas.Option.{same_Some}
use Rattle.name_laws.proofs.Order.{same_sound}
use Rattle.list_laws.proofs.Answers.{came_by}
use Rattle.module_graph_meaning.specs.Walks.{ungrounded_names}
use Rattle.translation_typing.proofs.Proper.{proper_atomic_over}

-- ---- one module

-- what an accepted module shows is well typed
abbrev pub ShowsTyped : Environment → Interface → Type 0
ShowsTyped environment (Theory face size) = IsTypedTheory environment face
ShowsTyped environment (View face) = IsTypedView environment face

abbrev pub HoldsTyped : Environment → Verdict → Type 0
HoldsTyped environment (Accepted interface) = ShowsTyped environment interface
HoldsTyped environment (Refused refusal) = ⊤

module _ (links : LinksAreTyped) (environment : Environment) (coherent : IsCoherent environment) (typed : IsTypedEnvironment environment) (name : Name) (absent : environment name ≡ IsAbsent) where
  checked_typed : (tree : Module) (interface : Interface) → first_name (written_name tree).path ≡ name → checked environment tree ≡ Ok interface → ShowsTyped environment interface
  checked_typed (SigModule written decls) interface e h =
      let d = came_by (declare_all environment (empty_theory (first_name written.path)) decls) _ interface h in
      subst (ShowsTyped environment) (good_same d.goes)
      (declare_all_typed links environment coherent typed decls name (empty_theory (first_name written.path)) d.item e absent (empty_holds environment coherent (first_name written.path)) (empty_typed links environment coherent typed (first_name written.path)) d.came)
  checked_typed (ViewModule written domain codomain assigns) interface e h =
      let d = came_by (checked_view environment written domain codomain assigns) _ interface h in
      subst (ShowsTyped environment) (good_same d.goes) (view_typed links environment coherent typed written domain codomain assigns d.item d.came)

  tree_typed : (ungrounded : Name → Bool) (tree : Module) (b : Bool) (interface : Interface) → judge_tree environment ungrounded name tree b ≡ Ok interface → ShowsTyped environment interface
  tree_typed ungrounded tree true interface h = absurd (cycle_refuses name _ interface h)
  tree_typed ungrounded tree false interface h =
      let n = came_by (demand (same_bytes (first_name (written_name tree).path) name) (written_name tree).span Rule.WrongName (written_name tree).path) _ interface h in
      checked_typed tree interface (same_sound (first_name (written_name tree).path) name (demand_holds (same_bytes (first_name (written_name tree).path) name) (written_name tree).span Rule.WrongName (written_name tree).path n.item n.came)) n.goes

  answer_typed : (ungrounded : Name → Bool) (answer : Answer) (interface : Interface) → judge_answer environment ungrounded name answer ≡ Ok interface → ShowsTyped environment interface
  answer_typed ungrounded (Read (ModuleTree tree)) interface h = tree_typed ungrounded tree (ungrounded name) interface h
  answer_typed ungrounded (Read (JudgementTree tree)) interface h = absurd (cc)
  answer_typed ungrounded (Syntax at) interface h = absurd (cc)
  answer_typed ungrounded (TooDeep at) interface h = absurd (cc)
  answer_typed ungrounded (Unsupported at) interface h = absurd (cc)

  outcome_typed : (outcome : Outcome Interface) → ((interface : Interface) → outcome ≡ Ok interface → ShowsTyped environment interface) → HoldsTyped environment (verdict_by outcome)
  outcome_typed (Ok interface) f = f interface refl
  outcome_typed (Err refusal) f = tt

  pub judge_typed : (ungrounded : Name → Bool) (text : Text) → HoldsTyped environment (judge environment ungrounded name text)
  unfolding judge
  judge_typed ungrounded text = outcome_typed (judge_answer environment ungrounded name (read ModuleText text)) (answer_typed ungrounded (read ModuleText text))

pub judged_theories_are_typed : LinksAreTyped → JudgedTheoriesAreTyped
judged_theories_are_typed links environment name ungrounded text face size coherent typed absent h =
    subst (HoldsTyped environment) h (judge_typed links environment coherent typed name absent ungrounded text)

pub judged_views_are_typed : LinksAreTyped → JudgedViewsAreTyped
judged_views_are_typed links environment name ungrounded text face coherent typed absent h =
    subst (HoldsTyped environment) h (judge_typed links environment coherent typed name absent ungrounded text)

-- ---- a library

theory_shown_typed : (environment : Environment) (verdict : Verdict) (face : TheoryFace) → known_by verdict ≡ IsTheory face → HoldsTyped environment verdict → IsTypedTheory environment face
theory_shown_typed environment (Accepted (Theory found size)) face e h = subst (IsTypedTheory environment) (same e) h
  where
    same : {x y : TheoryFace} → IsTheory x ≡ IsTheory y → x ≡ y
    same q = cc
theory_shown_typed environment (Accepted (View found)) face e h = absurd (cc)
theory_shown_typed environment (Refused refusal) face e h = absurd (cc)

view_shown_typed : (environment : Environment) (verdict : Verdict) (face : ViewFace) → known_by verdict ≡ IsView face → HoldsTyped environment verdict → IsTypedView environment face
view_shown_typed environment (Accepted (Theory found size)) face e h = absurd (cc)
view_shown_typed environment (Accepted (View found)) face e h = subst (IsTypedView environment) (same e) h
  where
    same : {x y : ViewFace} → IsView x ≡ IsView y → x ≡ y
    same q = cc
view_shown_typed environment (Refused refusal) face e h = absurd (cc)

module _ (links : LinksAreTyped) (library : Library) where
  record TypedSound (name : Name) : Type 0 where
    sound : Sound library name
    typed : IsTypedEnvironment (known_to library name)
    holds : (verdict : Verdict) → verdict_of library name ≡ Some verdict → HoldsTyped (known_to library name) verdict

  typed_sound_by : (name : Name) → Sound library name → IsTypedEnvironment (known_to library name) → TypedSound name
  typed_sound_by name s t =
      record {
        sound = s;
        typed = t;
        holds = λ verdict h. (let text = verdict_text library name (text_of library name) verdict refl h in
            subst (HoldsTyped (known_to library name)) (same_Some _ _ (sym (verdict_is_judged library name text.0 text.1) ∙ h)) (judge_typed links (known_to library name) s.coherent t name (itself_absent library name) (is_among (ungrounded_names dependencies library)) text.0));
      }

  -- from the names that a name reaches
  typed_by : (n : ℕ) (name : Name) → Short dependencies library n name → ((x : Name) → is_among (others_reached library name) x ≡ true → TypedSound x) → IsTypedEnvironment (known_to library name)
  typed_by n name s f =
      record {
        theories = λ x face e. (let r = verdict_reached library name x (IsTheory face) e (λ q. absurd (cc)) in
            let v = r.1 in
            let d = f x r.0 in
            theory_typing_transfers (known_to library x) (known_to library name) d.sound.coherent (extends_to library n name x s r.0) x face (theory_shown library (known_to library x) x v.verdict face v.known_is (d.sound.holds v.verdict v.is))
            (theory_shown_typed (known_to library x) v.verdict face v.known_is (d.holds v.verdict v.is)));
        views = λ x face e. (let r = verdict_reached library name x (IsView face) e (λ q. absurd (cc)) in
            let v = r.1 in
            let d = f x r.0 in
            view_typing_transfers (known_to library x) (known_to library name) d.sound.coherent (extends_to library n name x s r.0) x face (view_shown library (known_to library x) x v.verdict face v.known_is (d.sound.holds v.verdict v.is))
            (view_shown_typed (known_to library x) v.verdict face v.known_is (d.holds v.verdict v.is)));
      }

  typed_sound : (n : ℕ) (name : Name) → Short dependencies library n name → TypedSound name
  typed_sound zero name s =
      typed_sound_by name (sound library zero name s) (typed_by zero name s (λ x p. absurd (
      let r = in_others library name x p in others_not library name x r.1 (absent_reach library name x s r.0))))
  typed_sound (suc n) name s =
      typed_sound_by name (sound library (suc n) name s) (typed_by (suc n) name s (λ x p. (let r = in_others library name x p in typed_sound n x (short_reached dependencies library n name x s r.0 r.1))))

  library_typed : IsTypedEnvironment (told_by library)
  library_typed =
      record {
        theories = λ name face e. (let v = told library (verdict_of library name) (IsTheory face) e (λ q. absurd (cc)) in
            let d = typed_sound (length library) name (accepted_theory library name v.verdict face v.is v.known_is) in
            theory_typing_transfers (known_to library name) (told_by library) d.sound.coherent (tells_more library name) name face (theory_shown library (known_to library name) name v.verdict face v.known_is (d.sound.holds v.verdict v.is))
            (theory_shown_typed (known_to library name) v.verdict face v.known_is (d.holds v.verdict v.is)));
        views = λ name face e. (let v = told library (verdict_of library name) (IsView face) e (λ q. absurd (cc)) in
            let d = typed_sound (length library) name (accepted_view library name v.verdict face v.is v.known_is) in
            view_typing_transfers (known_to library name) (told_by library) d.sound.coherent (tells_more library name) name face (view_shown library (known_to library name) name v.verdict face v.known_is (d.sound.holds v.verdict v.is))
            (view_shown_typed (known_to library name) v.verdict face v.known_is (d.holds v.verdict v.is)));
      }

  closed_typed : (names : List Name) → AreClosed library names → IsTypedEnvironment (known_of names (verdicts library))
  closed_typed names closed =
      record {
        theories = λ name face e. (let r = listed library names name (IsTheory face) e (λ q. absurd (cc)) in
            let v = r.1 in
            let d = typed_sound (length library) name (accepted_theory library name v.verdict face v.is v.known_is) in
            theory_typing_transfers (known_to library name) (known_of names (verdicts library)) d.sound.coherent (closed_extends library names closed name r.0) name face (theory_shown library (known_to library name) name v.verdict face v.known_is (d.sound.holds v.verdict v.is))
            (theory_shown_typed (known_to library name) v.verdict face v.known_is (d.holds v.verdict v.is)));
        views = λ name face e. (let r = listed library names name (IsView face) e (λ q. absurd (cc)) in
            let v = r.1 in
            let d = typed_sound (length library) name (accepted_view library name v.verdict face v.is v.known_is) in
            view_typing_transfers (known_to library name) (known_of names (verdicts library)) d.sound.coherent (closed_extends library names closed name r.0) name face (view_shown library (known_to library name) name v.verdict face v.known_is (d.sound.holds v.verdict v.is))
            (view_shown_typed (known_to library name) v.verdict face v.known_is (d.holds v.verdict v.is)));
      }

pub faces_are_typed : LinksAreTyped → FacesAreTyped
faces_are_typed links library = library_typed links library

pub grounded_know_typed : LinksAreTyped → GroundedKnowTyped
grounded_know_typed links library name g = (typed_sound links library (length library) name (grounded_short library name g)).typed

pub closed_are_typed : LinksAreTyped → ClosedAreTyped
closed_are_typed links library names closed = closed_typed links library names closed

-- ---- what follows of flat signatures, views and structures

pub flat_typed : (environment : Environment) → IsTypedEnvironment environment → (name : Name) → IsSignature (flat_of environment name)
flat_typed environment typed name = by (theory_of environment name) refl
  where
    by : (o : Option TheoryFace) → theory_of environment name ≡ o → IsSignature (own_parts environment (includes_of o) ++ own_of o)
    by None e = empty_signature
    by (Some face) e = (typed.theories name face (known_theory (environment name) face e)).signature

pub theories_flatten : FacesAreTyped → TheoriesFlatten
theories_flatten typed library name face e = ((typed library).theories name face e).signature

pub known_views_translate : KnownViewsTranslate
known_views_translate environment name face coherent typed e =
    let p = images_proper (flat_of environment face.domain) (flat_of environment face.codomain) face.map (coherent.views name face e).map_is in (
      record { source = flat_typed environment typed face.domain; target = flat_typed environment typed face.codomain; typed = typed.views name face e; atomic = proper_atomic_over (flat_of environment face.domain) face.map p },
      p,
    )

pub known_structures_translate : KnownStructuresTranslate
known_structures_translate environment name face i structure coherent typed e p =
    let t = typed.theories name face e in
    let q = images_proper (flat_of environment structure.domain) (flat_signature environment face) structure.map ((coherent.theories name face e).maps i structure p) in (
      record { source = flat_typed environment typed structure.domain; target = t.signature; typed = t.maps i structure p; atomic = proper_atomic_over (flat_of environment structure.domain) structure.map q },
      q,
    )

pub known_views_carry : KnownViewsCarryTyping
known_views_carry environment name face context object family coherent typed e h =
    typing_is_carried (flat_of environment face.domain) (flat_of environment face.codomain) face.map context object family (known_views_translate environment name face coherent typed e).0 h

pub known_structures_carry : KnownStructuresCarryTyping
known_structures_carry environment name face i structure context object family coherent typed e p h =
    typing_is_carried (flat_of environment structure.domain) (flat_signature environment face) structure.map context object family
    (known_structures_translate environment name face i structure coherent typed e p).0 h

pub views_carry_typing : FacesAreTyped → ViewsCarryTyping
views_carry_typing typed library name face context object family e h = known_views_carry (told_by library) name face context object family (library_coherent library) (typed library) e h

pub structures_carry_typing : FacesAreTyped → StructuresCarryTyping
structures_carry_typing typed library name face i structure context object family e p h = known_structures_carry (told_by library) name face i structure context object family (library_coherent library) (typed library) e p h
