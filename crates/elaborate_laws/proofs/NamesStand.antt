-- What a name begins as is what the function answers, at its level.
use Rattle.std.proofs.Common.{◌≡◌, ℕ, zero, suc, true, Option, Some, None, Ok, refl, sym, ap, ◌∙◌, subst}
use Rattle.name_meaning.specs.Names.{Path}
use Rattle.lf_meaning.specs.Terms.{Object, At, Var, Family, Pi, AtFamily, Kind, Ty, PiKind}
use Rattle.translation_meaning.specs.Heads.{Head, ObjectHead, FamilyHead, head_takes, family_head_takes, family_head_keeps}
use Rattle.library_meaning.specs.Resolution.{Scope, Resolved, Variable, Declared, Unknown, Ambiguous, resolve}
use Rattle.library_laws.proofs.Resolving.{resolution_stands}
use Rattle.text_meaning.specs.Tokens.{Span}
use Rattle.elaborate_meaning.specs.Rules.{Rule}
use Rattle.elaborate_meaning.specs.Answers.{must}
use Rattle.answer_meaning.specs.Answers.{◌>>=◌}
use Rattle.elaborate_meaning.specs.Locals.{Locals, variables_of, family_at}
use Rattle.elaborate_meaning.specs.NameHeads.{Level, Objects, Families, level_of, same_level, variable_head, resolved_head, name_head}
use Rattle.elaborate_meaning.specs.Stands.{BeginsAs, NameStands}
use Rattle.elaborate_laws.proofs.Binding.{must_holds, must_by}
use Rattle.std.proofs.lemmas.Option.{same_Some}
use Rattle.list_laws.proofs.Answers.{came_by, goes_by, ok_same}

pub same_level_sound : (level other : Level) → same_level level other ≡ true → level ≡ other
same_level_sound Objects Objects h = refl
same_level_sound Objects Families h = absurd (cc)
same_level_sound Families Objects h = absurd (cc)
same_level_sound Families Families h = refl

pub same_level_itself : (level : Level) → same_level level level ≡ true
same_level_itself Objects = refl
same_level_itself Families = refl

-- a head keeps its level
binders_level : (binders : ℕ) (family domain : Family) (kind : Kind) (argument : Object) → level_of (family_head_takes binders family domain kind argument) ≡ Families
binders_level zero family domain kind argument = refl
binders_level (suc binders) family domain kind argument = refl

kept_level : (binders : ℕ) (family : Family) (argument : Object) → level_of (family_head_keeps binders family argument) ≡ Families
kept_level zero family argument = refl
kept_level (suc binders) family argument = refl

pub level_kept : (head : Head) (argument : Object) → level_of (head_takes head argument) ≡ level_of head
level_kept (ObjectHead object (Pi domain body)) argument = refl
level_kept (ObjectHead object (AtFamily p)) argument = refl
level_kept (FamilyHead binders family (PiKind domain kind)) argument = binders_level binders family domain kind argument
level_kept (FamilyHead binders family Ty) argument = kept_level binders family argument

variable_begins : (locals : Locals) (index : ℕ) (span : Span) (head : Head) (o : Option Family) → family_at locals index ≡ o → variable_head index o span ≡ Ok head → BeginsAs locals (Variable index) head
variable_begins locals index span head None e h = absurd (cc)
variable_begins locals index span head (Some family) e h = (family, e, sym (ok_same h))

resolved_begins : (locals : Locals) (span : Span) (resolved : Resolved) (head : Head) → resolved_head locals span resolved ≡ Ok head → BeginsAs locals resolved head
resolved_begins locals span (Variable index) head h = variable_begins locals index span head (family_at locals index) refl h
resolved_begins locals span (Declared declaration) head h = sym (ok_same h)
resolved_begins locals span Unknown head h = absurd (cc)
resolved_begins locals span Ambiguous head h = absurd (cc)

begins_resolved : (locals : Locals) (span : Span) (resolved : Resolved) (head : Head) → BeginsAs locals resolved head → resolved_head locals span resolved ≡ Ok head
begins_resolved locals span (Variable index) head b = ap (λ o. variable_head index o span) b.1 ∙ ap Ok (sym b.2)
begins_resolved locals span (Declared declaration) head b = ap Ok (sym b)
begins_resolved locals span Unknown head b = absurd b
begins_resolved locals span Ambiguous head b = absurd b

pub name_sound : (level : Level) (scope : Scope) (locals : Locals) (span : Span) (path : Path) (head : Head) → name_head level scope locals span path ≡ Ok head → NameStands scope locals path head × (level_of head ≡ level)
unfolding name_head
name_sound level scope locals span path head h =
    let c = came_by (resolved_head locals span (resolve scope (variables_of locals) path)) _ head h in
    let d = came_by (must (same_level (level_of c.item) level) span Rule.Level) (λ _. Ok c.item) head c.goes in
    let e : c.item ≡ head = ok_same d.goes in (
      record {
        resolved = resolve scope (variables_of locals) path;
        stands = (resolution_stands scope (variables_of locals) path).0;
        begins = subst (BeginsAs locals (resolve scope (variables_of locals) path)) e (resolved_begins locals span (resolve scope (variables_of locals) path) c.item c.came);
      },
      ap level_of (sym e) ∙ same_level_sound (level_of c.item) level (must_holds (same_level (level_of c.item) level) span Rule.Level d.item d.came),
    )

pub name_complete : (level : Level) (scope : Scope) (locals : Locals) (span : Span) (path : Path) (head : Head) → NameStands scope locals path head → level_of head ≡ level → name_head level scope locals span path ≡ Ok head
unfolding name_head
name_complete level scope locals span path head n l =
    goes_by (resolved_head locals span (resolve scope (variables_of locals) path)) (λ first. must (same_level (level_of first) level) span Rule.Level >>= λ _. Ok first) head head
    (ap (resolved_head locals span) (sym ((resolution_stands scope (variables_of locals) path).1 n.resolved n.stands)) ∙ begins_resolved locals span n.resolved head n.begins)
    (goes_by (must (same_level (level_of head) level) span Rule.Level) (λ _. Ok head) tt head (must_by (same_level (level_of head) level) span Rule.Level (ap (λ z. same_level z level) l ∙ same_level_itself level)) refl)

-- a name begins as one head, of whichever level
begins_once : (locals : Locals) (resolved : Resolved) (head other : Head) → BeginsAs locals resolved head → BeginsAs locals resolved other → head ≡ other
begins_once locals (Variable index) head other b c = b.2 ∙ ap (ObjectHead (At (Var index))) (same_Some _ _ (sym b.1 ∙ c.1)) ∙ sym c.2
begins_once locals (Declared declaration) head other b c = b ∙ sym c
begins_once locals Unknown head other b c = absurd b
begins_once locals Ambiguous head other b c = absurd b

pub one_name : (scope : Scope) (locals : Locals) (path : Path) (head other : Head) → NameStands scope locals path head → NameStands scope locals path other → head ≡ other
one_name scope locals path head other n m =
    let only = (resolution_stands scope (variables_of locals) path).1 in
    begins_once locals n.resolved head other n.begins (subst (λ resolved. BeginsAs locals resolved other) (only m.resolved m.stands ∙ sym (only n.resolved n.stands)) m.begins)
