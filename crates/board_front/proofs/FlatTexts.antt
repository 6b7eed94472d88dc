-- Flat texts and carried judgements over the faces of a reach are those that the rules give over the whole library.
use Rattle.std.proofs.Common.{◌≡◌, ℕ, Bool, true, false, [], Option, Some, None, is_some, option_map, refl, sym, ap, ◌∙◌, subst, true≢false}
use Rattle.name_meaning.specs.Names.{Name, Text}
use Rattle.name_meaning.specs.Rows.{Rows, row_of}
use Rattle.edit_log_meaning.specs.Log.{Log, Library, library_of, version_of, text_of}
use Rattle.module_graph_meaning.specs.Reach.{reach}
use Rattle.lf_meaning.specs.Terms.{Object, Family}
use Rattle.library_meaning.specs.Faces.{ViewFace, Known, IsAbsent, IsRefused, IsTheory, IsView, Environment, view_face, view_of}
use Rattle.library_meaning.specs.Environments.{known_or_absent}
use Rattle.text_meaning.specs.Dependencies.{dependencies}
use Rattle.verdict_meaning.specs.Verdicts as verdicts
use Rattle.verdict_meaning.specs.Verdicts.{known_by}
use Rattle.verdict_meaning.specs.Rounds.{known_if, told_by, verdict_of}
use Rattle.verdict_laws.proofs.Verdicts.{verdict_exactly}
use Rattle.printing_meaning.specs.VerdictLines.{judged_line, place_text}
use Rattle.printing_meaning.specs.CarriedLines.{carried_line, Carries}
use Rattle.printing_meaning.specs.PrintedTables.{seen_from, theory_text, view_text}
use Rattle.run_meaning.specs.Judging as judging
use Rattle.run_meaning.specs.Judging.{codomain_of, seen_along}
use Rattle.run_meaning.specs.ScriptOutput.{flat_by, flat_by_judged, flat_text, report_text, verdict_by}
use Rattle.judged_meaning.specs.Carrying.{Carriage, CarriedTo, NoSuchView, IllBy, carried_along, carry}
use Rattle.judged_meaning.specs.JudgingByRules.{judged_by, judged_if, printed_carriage, rules}
use Rattle.reach_printing_laws.specs.Below.CarriedTyping.{HaveReachOf}
use Rattle.reach_printing_laws.proofs.PrintedInReach.{faces_print_theories, faces_print_views}
use Rattle.reach_printing_laws.proofs.CarriedAlike.{faces_carry_the_same, view_known}
use Rattle.mmt_interface.specs.CoherentFaces.{AreCoherent}
use Rattle.mmt_interface.specs.Readings.{environment_of, read_theory, read_verdict, read_view}
use Rattle.mmt_interface.specs.declared.verdict.Interface.TheVariants.{Theory, View}
use Rattle.mmt_interface.specs.declared.verdict.Verdict as brought
use Rattle.mmt_interface.specs.declared.verdict.Verdict.TheVariants.{Accepted, Refused}
use Rattle.mmt_interface.proofs.Known.{known_is, told}
use Rattle.report_text.specs.FlatTexts.{IsAccepted, known_text}
use Rattle.board_front.specs.Faces.{AreFacesOf, accepted_in}
use Rattle.board_front.specs.Told.{IsToldOf, unaccepted}
use Rattle.board_front.proofs.Printed.{rules_tell}
use Rattle.verdict_board.specs.declared.replies.Told as told_by_board
use Rattle.verdict_board.specs.declared.replies.Told.TheVariants as replies

-- What is carried is carried along a view.
pub carried_view : (environment : Environment) (name : Name) (text : Text) (object : Object) (family : Family) → carry environment name text ≡ CarriedTo object family
    → (face : ViewFace) × (environment name ≡ IsView face)
unfolding carry
carried_view environment name text object family h = by (view_of environment name) refl h
  where
    by : (o : Option ViewFace) → view_of environment name ≡ o → carried_along environment o text ≡ CarriedTo object family → (face : ViewFace) × (environment name ≡ IsView face)
    by None e g = absurd (cc)
    by (Some face) e g = (face, view_known (environment name) face e)

is_refused : verdicts.Verdict → Bool
is_refused (verdicts.Accepted interface) = false
is_refused (verdicts.Refused refusal) = true

-- ---- an accepted module

module _ (library : Library) (name : Name) (verdict : brought.Verdict) (faces : Rows brought.Verdict) (own : verdict_of library name ≡ Some (read_verdict verdict)) (are : AreFacesOf library name verdict faces) where
  known_here : environment_of faces name ≡ known_by (read_verdict verdict)
  known_here = known_is faces name ∙ ap (λ o. known_or_absent (option_map told o)) are.own

  told_here : told_by library name ≡ known_by (read_verdict verdict)
  told_here = ap known_if own

  have : HaveReachOf library (reach dependencies library name) name
  have other r p = r

  accepted_by : (v : brought.Verdict) → is_some (accepted_in v) ≡ true → IsAccepted (known_by (read_verdict v))
  accepted_by (Accepted (Theory face size)) h = tt
  accepted_by (Accepted (View face)) h = tt
  accepted_by (Refused refusal) h = absurd (true≢false (sym h))

  pub accepted_there : is_some (accepted_in verdict) ≡ true → IsAccepted (environment_of faces name)
  accepted_there h = subst IsAccepted (sym known_here) (accepted_by verdict h)

  text_by : (v : brought.Verdict) (version : ℕ) → is_some (accepted_in v) ≡ true → told_by library name ≡ known_by (read_verdict v) → (text : Text)
      → known_text (environment_of faces) name version (known_by (read_verdict v)) ≡ flat_by_judged (judging.environment_of rules library) version name text (judged_by (read_verdict v))
  text_by (Accepted (Theory face size)) version h t text =
      ap (λ (z : Environment). theory_text z name version (read_theory face)) are.told
      ∙ (faces_print_theories library (reach dependencies library name) name (read_theory face) have t).text version
      ∙ ap (λ (z : Environment). theory_text z name version (read_theory face)) (sym (rules_tell library))
  text_by (Accepted (View face)) version h t text =
      ap (λ (z : Environment). view_text z name version (read_view face)) are.told
      ∙ (faces_print_views library (reach dependencies library name) name (read_view face) have t).text version
      ∙ ap (λ (z : Environment). view_text z name version (read_view face)) (sym (rules_tell library))
  text_by (Refused refusal) version h t text = absurd (true≢false (sym h))

  flat_here : (version : ℕ) (o : Option Text) → is_some (accepted_in verdict) ≡ true → text_of library name ≡ o
      → known_text (environment_of faces) name version (known_by (read_verdict verdict)) ≡ flat_by rules library version name o
  flat_here version None h e = absurd (true≢false (sym (ap is_some own) ∙ verdict_exactly library name ∙ ap is_some e))
  flat_here version (Some text) h e =
      text_by verdict version h told_here text
      ∙ ap (λ o. flat_by_judged (judging.environment_of rules library) version name text (judged_if o)) (sym own)

  -- The flat text over these faces.
  pub flat_printed : (version : ℕ) → is_some (accepted_in verdict) ≡ true → known_text (environment_of faces) name version (environment_of faces name) ≡ flat_by rules library version name (text_of library name)
  flat_printed version h = ap (known_text (environment_of faces) name version) known_here ∙ flat_here version (text_of library name) h refl

  -- ---- carrying along it

  carried_alike : (text : Text) → carry (environment_of faces) name text ≡ carry (told_by library) name text
  carried_alike text = ap (λ (z : Environment). carry z name text) are.told ∙ faces_carry_the_same library (reach dependencies library name) name text have

  seen_alike : (face : ViewFace) → told_by library name ≡ IsView face → seen_along (environment_of faces) name ≡ seen_along (judging.environment_of rules library) name
  seen_alike face t =
      ap (λ k. seen_from (environment_of faces) (codomain_of name k)) (known_here ∙ sym told_here ∙ t)
      ∙ ap (λ (z : Environment). seen_from z face.codomain) are.told
      ∙ (faces_print_views library (reach dependencies library name) name face have t).seen
      ∙ ap (λ k. seen_from (told_by library) (codomain_of name k)) (sym t)
      ∙ ap (λ (z : Environment). seen_along z name) (sym (rules_tell library))

  line_by : (version : ℕ) (text : Text) (c : Carriage) → carry (told_by library) name text ≡ c
      → carried_line name version (seen_along (environment_of faces) name) (printed_carriage c) ≡ carried_line name version (seen_along (judging.environment_of rules library) name) (printed_carriage c)
  line_by version text (CarriedTo object family) e =
      let q = carried_view (told_by library) name text object family e in
      ap (λ seen. carried_line name version seen (Carries object family)) (seen_alike q.0 q.1)
  line_by version text NoSuchView e = refl
  line_by version text (IllBy fault) e = refl

  -- The line of what carrying a text comes to.
  pub carry_printed : (version : ℕ) (text : Text)
      → carried_line name version (seen_along (environment_of faces) name) (printed_carriage (carry (environment_of faces) name text))
      ≡ carried_line name version (seen_along (judging.environment_of rules library) name) (printed_carriage (carry (told_by library) name text))
  carry_printed version text =
      ap (λ c. carried_line name version (seen_along (environment_of faces) name) (printed_carriage c)) (carried_alike text) ∙ line_by version text (carry (told_by library) name text) refl

-- ---- a module that is not accepted

no_view : (known : Known) → ((face : ViewFace) → known ≡ IsView face → ⊥) → view_face known ≡ None
no_view IsAbsent h = refl
no_view IsRefused h = refl
no_view (IsTheory face) h = refl
no_view (IsView face) h = absurd (h face refl)

-- Nothing is carried along what is no view.
pub nothing_carried : (environment : Environment) (name : Name) (text : Text) → ((face : ViewFace) → environment name ≡ IsView face → ⊥) → carry environment name text ≡ NoSuchView
unfolding carry
nothing_carried environment name text h = ap (λ o. carried_along environment o text) (no_view (environment name) h)

nothing_known : (name : Name) → environment_of [] name ≡ IsAbsent
unfolding row_of
nothing_known name = refl

-- No faces are coherent.
pub none_coherent : AreCoherent []
unfolding row_of
none_coherent = record { known = record { theories = λ name face e. absurd (cc); views = λ name face e. absurd (cc) }; sizes = λ name face size e. absurd (cc) }

module _ (log : Log) (name : Name) where
  not_view : (told : told_by_board.Told brought.Verdict) → IsToldOf log name told → unaccepted told ≡ true → (face : ViewFace) → told_by (library_of log) name ≡ IsView face → ⊥
  not_view (replies.Verdict (Accepted interface) version) t h face e = true≢false (sym h)
  not_view (replies.Verdict (Refused refusal) version) t h face e = let q : IsRefused ≡ IsView face = sym (ap known_if t.0) ∙ e in cc
  not_view (replies.Pending version) t h face e = t
  not_view (replies.Absent version) t h face e = by (verdict_of (library_of log) name) refl
    where
      by : (o : Option verdicts.Verdict) → verdict_of (library_of log) name ≡ o → ⊥
      by None f = let q : IsAbsent ≡ IsView face = sym (ap known_if f) ∙ e in cc
      by (Some own) f = true≢false (sym (ap is_some f) ∙ verdict_exactly (library_of log) name ∙ t.0)

  -- The line of what carrying along it comes to.
  pub none_carried : (told : told_by_board.Told brought.Verdict) (version : ℕ) (text : Text) → IsToldOf log name told → unaccepted told ≡ true
      → carried_line name version (seen_along (environment_of []) name) (printed_carriage (carry (environment_of []) name text))
      ≡ carried_line name version (seen_along (judging.environment_of rules (library_of log)) name) (printed_carriage (carry (told_by (library_of log)) name text))
  none_carried told version text t h =
      ap (λ c. carried_line name version (seen_along (environment_of []) name) (printed_carriage c)) (nothing_carried (environment_of []) name text (λ face e. absent_view face (sym (nothing_known name) ∙ e)))
      ∙ ap (λ c. carried_line name version (seen_along (judging.environment_of rules (library_of log)) name) (printed_carriage c)) (sym (nothing_carried (told_by (library_of log)) name text (not_view told t h)))
    where
      absent_view : (face : ViewFace) → IsAbsent ≡ IsView face → ⊥
      absent_view face e = cc

  flat_refused : (o : Option Text) (refusal : verdicts.Verdict) (version : ℕ) → is_refused refusal ≡ true → verdict_of (library_of log) name ≡ Some refusal
      → verdict_by rules (library_of log) version name o ≡ flat_by rules (library_of log) version name o
  unfolding is_refused
  flat_refused None refusal version r e = refl
  flat_refused (Some text) refusal version r e =
      ap (λ z. judged_line (judging.environment_of rules (library_of log)) name version (place_text text) (judged_if z)) e ∙ by refusal r
      ∙ ap (λ z. flat_by_judged (judging.environment_of rules (library_of log)) version name text (judged_if z)) (sym e)
    where
      by : (v : verdicts.Verdict) → is_refused v ≡ true
          → judged_line (judging.environment_of rules (library_of log)) name version (place_text text) (judged_by v) ≡ flat_by_judged (judging.environment_of rules (library_of log)) version name text (judged_by v)
      by (verdicts.Refused refusal) h = refl
      by (verdicts.Accepted interface) h = absurd (true≢false (sym h))

  flat_absent : (o : Option Text) (version : ℕ) → is_some o ≡ false → verdict_by rules (library_of log) version name o ≡ flat_by rules (library_of log) version name o
  flat_absent None version h = refl
  flat_absent (Some text) version h = absurd (true≢false h)

  -- Its flat text is its verdict line.
  pub unaccepted_flat : (told : told_by_board.Told brought.Verdict) → IsToldOf log name told → unaccepted told ≡ true → report_text rules log name ≡ flat_text rules log name
  unfolding report_text flat_text is_refused
  unaccepted_flat (replies.Verdict (Accepted interface) version) t h = absurd (true≢false (sym h))
  unaccepted_flat (replies.Verdict (Refused refusal) version) t h = flat_refused (text_of (library_of log) name) _ (version_of log) refl t.0
  unaccepted_flat (replies.Pending version) t h = absurd t
  unaccepted_flat (replies.Absent version) t h = flat_absent (text_of (library_of log) name) (version_of log) t.0
