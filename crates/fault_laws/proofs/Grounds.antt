-- Cycles are the refusals of ungrounded modules, and what this says of two libraries.
use Rattle.std.proofs.Common.{◌≡◌, Bool, true, false, Option, Some, None, is_some, not, refl, sym, ap, ◌∙◌, subst, true≢false}
use Rattle.std.proofs.lemmas.Option.{same_Some}
use Rattle.std.proofs.lemmas.Bool.{and_from, and_parts}
use Rattle.name_meaning.specs.Names.{Name, Text, same_name, is_among}
use Rattle.name_laws.proofs.Order.{among_member, member_among, same_sound}
use Rattle.list_laws.proofs.Members.{Member, filter_in}
use Rattle.edit_log_meaning.specs.Log.{Library, text_of, is_present}
use Rattle.module_graph_meaning.specs.Walks.{direct, ungrounded_names, is_ungrounded, is_grounded}
use Rattle.module_graph_meaning.specs.Reach.{reach}
use Rattle.module_graph_laws.proofs.Walking.{ungrounded_dependency, grounded_dependency}
use Rattle.module_graph_laws.proofs.Reaching.{reach_closed, reach_first}
use Rattle.module_graph_laws.proofs.Agreement.{direct_same}
use Rattle.module_graph_laws.proofs.Graphs.{left_ungrounded}
use Rattle.text_meaning.specs.Dependencies.{dependencies}
use Rattle.elaborate_meaning.specs.Rules.{Rule}
use Rattle.link_meaning.specs.Refusals.{Refusal}
use Rattle.verdict_meaning.specs.Verdicts.{Verdict, Refused, judge}
use Rattle.verdict_meaning.specs.Rounds.{others_reached, verdict_of, known_to}
use Rattle.verdict_laws.specs.VerdictLaws.{IsCycle}
use Rattle.verdict_laws.proofs.Verdicts.{not_ungrounded, among_ungrounded, ungrounded_among, verdict_exactly, verdict_is_judged, ungrounded_is_cycle}
use Rattle.fault_laws.specs.RulesBroken.{IsOneOf, grounded_rules}
use Rattle.fault_laws.specs.FaultLaws.{VerdictsStandInTexts, CyclesAreUngrounded, VerdictsDecideGrounds}
use Rattle.fault_laws.proofs.ModuleFaults.{refused_within, grounded_breaks}
use Rattle.list_laws.proofs.Options.{some_of}

-- ---- the verdict on a text

judged_here : (library : Library) (name : Name) (text : Text) (verdict : Verdict) → text_of library name ≡ Some text → verdict_of library name ≡ Some verdict → judge (known_to library name) (is_among (ungrounded_names dependencies library)) name text ≡ verdict
judged_here library name text verdict e h = same_Some _ _ (sym (verdict_is_judged library name text e) ∙ h)

pub verdicts_stand_in_texts : VerdictsStandInTexts
verdicts_stand_in_texts library name text refusal e h =
    refused_within (known_to library name) (is_among (ungrounded_names dependencies library)) name text refusal (judged_here library name text (Refused refusal) e h)

-- ---- cycles

cycle_grounds : (library : Library) (name : Name) (text : Text) (refusal : Refusal) → text_of library name ≡ Some text → verdict_of library name ≡ Some (Refused refusal) → refusal.rule ≡ Rule.Cycle → is_ungrounded dependencies library name ≡ true
cycle_grounds library name text refusal e h c = by (is_among (ungrounded_names dependencies library) name) refl
  where
    by : (b : Bool) → is_among (ungrounded_names dependencies library) name ≡ b → is_ungrounded dependencies library name ≡ true
    by true g = ungrounded_among library name g
    by false g = absurd (true≢false (sym (subst (IsOneOf grounded_rules) c (grounded_breaks (known_to library name) (is_among (ungrounded_names dependencies library)) name text refusal g (judged_here library name text (Refused refusal) e h)))))

has_text : (library : Library) (name : Name) (verdict : Verdict) → verdict_of library name ≡ Some verdict → is_present library name ≡ true
has_text library name verdict h = sym (verdict_exactly library name) ∙ ap is_some h

refused_grounds : (library : Library) (name : Name) (refusal : Refusal) → verdict_of library name ≡ Some (Refused refusal) → refusal.rule ≡ Rule.Cycle → is_ungrounded dependencies library name ≡ true
refused_grounds library name refusal h c =
    let t = some_of (text_of library name) (has_text library name (Refused refusal) h) in
    cycle_grounds library name t.0 refusal t.1 h c

cycle_told : (library : Library) (name : Name) → IsCycle library name → (refusal : Refusal) × (verdict_of library name ≡ Some (Refused refusal)) × (refusal.rule ≡ Rule.Cycle)
cycle_told library name c = (record { span = c.dependency.span; rule = Rule.Cycle; label = c.dependency.label }, c.refused, refl)

pub cycles_are_ungrounded : CyclesAreUngrounded
cycles_are_ungrounded library name = ((λ h. refused_grounds library name h.0 h.1 h.2), (λ u. cycle_told library name (ungrounded_is_cycle library name u)))

-- ---- two libraries

not_itself : (library : Library) (name : Name) → is_grounded dependencies library name ≡ true → Member name (direct dependencies library name) → ⊥
not_itself library name g m = true≢false (sym g ∙ left_ungrounded dependencies library (λ n. n ≡ name) depends name refl)
  where
    depends : (n : Name) → n ≡ name → (is_present library n ≡ true) × ((d : Name) × Member d (direct dependencies library n) × (d ≡ name))
    depends n e =
        subst (λ z. (is_present library z ≡ true) × ((d : Name) × Member d (direct dependencies library z) × (d ≡ name))) (sym e)
        ((and_parts (is_present library name) (not (is_ungrounded dependencies library name)) g).0, (name, m, refl))

pub verdicts_decide_grounds : VerdictsDecideGrounds
unfolding others_reached
verdicts_decide_grounds library other name text e f g agree = and_from (is_present other name) (not (is_ungrounded dependencies other name)) (ap is_some f) (by (is_ungrounded dependencies other name) refl)
  where
    clash : (d : Name) → Member d (direct dependencies library name) → is_ungrounded dependencies other d ≡ true → ⊥
    clash d m u =
        let c = cycle_told other d (ungrounded_is_cycle other d u) in
        let v : verdict_of library d ≡ Some (Refused c.0) = agree d (reached d m) ∙ c.1 in
        let h = grounded_dependency dependencies library name d g (member_among (direct dependencies library name) d m) (has_text library d (Refused c.0) v) in
        true≢false (sym (among_ungrounded library d (refused_grounds library d c.0 v c.2)) ∙ not_ungrounded library d h)
      where
        differs : (d : Name) → Member d (direct dependencies library name) → (b : Bool) → same_name name d ≡ b → not b ≡ true
        differs d m true q = absurd (not_itself library name g (subst (λ z. Member z (direct dependencies library name)) (sym (same_sound name d q)) m))
        differs d m false q = refl

        reached : (d : Name) → Member d (direct dependencies library name) → is_among (others_reached library name) d ≡ true
        reached d m =
            member_among (others_reached library name) d
            (filter_in (λ (z : Name). not (same_name name z)) (reach dependencies library name) d (reach_closed dependencies library name name d (reach_first dependencies library name) m) (differs d m (same_name name d) refl))

    by : (b : Bool) → is_ungrounded dependencies other name ≡ b → not b ≡ true
    by true u =
        let d = ungrounded_dependency dependencies other name u in
        absurd (clash d.0 (subst (Member d.0) (direct_same dependencies other library name (f ∙ sym e)) (among_member (direct dependencies other name) d.0 d.1)) d.2)
    by false u = refl
