-- The value of a constant is answered exactly where it is due.
use Rattle.std.proofs.Common.{◌≡◌, Bool, true, false, Option, Some, None, Ok, Err, refl, sym, ap, ◌∙◌, subst}
use Rattle.std.specs.Prelude.{⊤}
use Rattle.name_meaning.specs.Names.{Name, Path}
use Rattle.lf_meaning.specs.Signatures.{Class, Value, Declaration}
use Rattle.lf_meaning.specs.Equality.{same_value}
use Rattle.lf_term_laws.proofs.Equality.{same_value_sound, same_value_itself}
use Rattle.translation_meaning.specs.Differ.{value_in}
use Rattle.text_meaning.specs.Tokens.{Span}
use Rattle.elaborate_meaning.specs.Rules.{Rule}
use Rattle.elaborate_meaning.specs.Answers.{Answer}
use Rattle.elaborate_meaning.specs.Expansion.{span_of}
use Rattle.elaborate_meaning.specs.Values.{expand_value}
use Rattle.elaborate_meaning.specs.Stands.{StandsValue}
use Rattle.elaborate_laws.proofs.ValuesStand.{value_sound, value_complete}
use Rattle.link_meaning.specs.Refusals.{labelled, demand, or_refused}
use Rattle.link_meaning.specs.Assignments.{Setting, label_along}
use Rattle.link_meaning.specs.Passes.{Reached, ByNone, ByValue, ByStructure, is_definition, copied_value, unassigned_value, constant_in, own_image}
use Rattle.link_meaning.specs.Equations.{IsDefinition, IsCopied, IsUnassigned, OwnHasValue}
use Rattle.link_laws.proofs.Covered.{good_same, there_refused}
use Rattle.list_laws.proofs.Answers.{came_by, goes_by}

pub label_came : {A : Type 0} (label : Path) (a : Answer A) (value : A) → labelled label a ≡ Ok value → a ≡ Ok value
label_came label (Ok x) value h = ap Ok (good_same h)
label_came label (Err fault) value h = absurd (cc)

pub demand_holds : (test : Bool) (span : Span) (rule : Rule) (label : Path) (done : ⊤) → demand test span rule label ≡ Ok done → test ≡ true
demand_holds true span rule label done h = refl
demand_holds false span rule label done h = absurd (cc)

pub demand_by : (test : Bool) (span : Span) (rule : Rule) (label : Path) → test ≡ true → demand test span rule label ≡ Ok tt
demand_by test span rule label h = ap (λ b. demand b span rule label) h

definition_sound : (definition : Option Value) (value : Value) → is_definition definition value ≡ true → IsDefinition definition value
definition_sound None value h = tt
definition_sound (Some v) value h = same_value_sound value v h

definition_complete : (definition : Option Value) (value : Value) → IsDefinition definition value → is_definition definition value ≡ true
definition_complete None value h = refl
definition_complete (Some v) value h = ap (λ z. same_value z v) h ∙ same_value_itself v

module _ (setting : Setting) where
  copied_sound : (structure : Option Name) (d : Declaration) (value : Value) → copied_value setting structure d ≡ Ok value → IsCopied setting structure d value
  copied_sound None d value h = absurd (cc)
  copied_sound (Some structure) d value h = sym (good_same h)

  copied_complete : (structure : Option Name) (d : Declaration) (value : Value) → IsCopied setting structure d value → copied_value setting structure d ≡ Ok value
  copied_complete None d value h = absurd h
  copied_complete (Some structure) d value h = ap Ok (sym h)

  unassigned_sound : (definition : Option Value) (d : Declaration) (value : Value) → unassigned_value setting definition d ≡ Ok value → IsUnassigned setting definition d value
  unassigned_sound None d value h = copied_sound setting.structure d value h
  unassigned_sound (Some v) d value h = sym (good_same h)

  unassigned_complete : (definition : Option Value) (d : Declaration) (value : Value) → IsUnassigned setting definition d value → unassigned_value setting definition d ≡ Ok value
  unassigned_complete None d value h = copied_complete setting.structure d value h
  unassigned_complete (Some v) d value h = ap Ok (sym h)

  pub own_sound : (reached : Reached) (class : Class) (definition : Option Value) (d : Declaration) (value : Value) → own_image setting reached class definition d ≡ Ok value → OwnHasValue setting reached class definition d value
  own_sound ByNone class definition d value h = unassigned_sound definition d value h
  own_sound (ByValue target expression) class definition d value h =
      let c = came_by (labelled (label_along setting target) (expand_value setting.scope expression class)) _ value h in
      let m = came_by (demand (is_definition definition c.item) (span_of expression) Rule.DefinitionClash (label_along setting target)) _ value c.goes in
      let e : c.item ≡ value = good_same m.goes in (
        subst (StandsValue setting.scope expression class) e (value_sound setting.scope expression class c.item (label_came (label_along setting target) (expand_value setting.scope expression class) c.item c.came)),
        subst (IsDefinition definition) e (definition_sound definition c.item (demand_holds (is_definition definition c.item) (span_of expression) Rule.DefinitionClash (label_along setting target) m.item m.came)),
      )
  own_sound (ByStructure target rest structure first by) class definition d value h =
      let c = came_by (or_refused (value_in by.map (constant_in structure rest)) first Rule.MorphismsDisagree (label_along setting target)) _ value h in
      let m = came_by (demand (is_definition definition c.item) first Rule.MorphismsDisagree (label_along setting target)) _ value c.goes in
      let e : c.item ≡ value = good_same m.goes in (
        there_refused (value_in by.map (constant_in structure rest)) first Rule.MorphismsDisagree (label_along setting target) c.item c.came ∙ ap Some e,
        subst (IsDefinition definition) e (definition_sound definition c.item (demand_holds (is_definition definition c.item) first Rule.MorphismsDisagree (label_along setting target) m.item m.came)),
      )

  pub own_complete : (reached : Reached) (class : Class) (definition : Option Value) (d : Declaration) (value : Value) → OwnHasValue setting reached class definition d value → own_image setting reached class definition d ≡ Ok value
  own_complete ByNone class definition d value h = unassigned_complete definition d value h
  own_complete (ByValue target expression) class definition d value h =
      goes_by (labelled (label_along setting target) (expand_value setting.scope expression class)) _ value value (ap (labelled (label_along setting target)) (value_complete setting.scope expression class value h.0))
      (goes_by (demand (is_definition definition value) (span_of expression) Rule.DefinitionClash (label_along setting target)) _ tt value
      (demand_by (is_definition definition value) (span_of expression) Rule.DefinitionClash (label_along setting target) (definition_complete definition value h.1)) refl)
  own_complete (ByStructure target rest structure first by) class definition d value h =
      goes_by (or_refused (value_in by.map (constant_in structure rest)) first Rule.MorphismsDisagree (label_along setting target)) _ value value (ap (λ o. or_refused o first Rule.MorphismsDisagree (label_along setting target)) h.0)
      (goes_by (demand (is_definition definition value) first Rule.MorphismsDisagree (label_along setting target)) _ tt value
      (demand_by (is_definition definition value) first Rule.MorphismsDisagree (label_along setting target) (definition_complete definition value h.1)) refl)
