-- The laws of expansion.
use Rattle.std.proofs.Common.{◌≡◌, sym, ◌∙◌, subst}
use Rattle.translation_meaning.specs.Heads.{Head}
use Rattle.library_meaning.specs.Resolution.{Scope}
use Rattle.text_meaning.specs.Trees.{Expr, TypeExpr, NameExpr, AppExpr, PiExpr, LamExpr, TypedLamExpr, ArrowExpr, BackExpr}
use Rattle.elaborate_meaning.specs.Locals.{Locals}
use Rattle.elaborate_meaning.specs.Stands.{StandsHead, StandsArguments}
use Rattle.elaborate_laws.specs.ExpansionLaws.{ObjectsStand, HeadsStand, ArgumentsStand, FamiliesStand, KindsStand, ClassesStand, FamilyValuesStand, ValuesStand, OneObject, OneHead, OneHeadTaken, OneFamily, OneKind, OneClass, OneFamilyValue, OneValue}
use Rattle.elaborate_laws.proofs.NamesStand.{one_name}
use Rattle.elaborate_laws.proofs.Sound.{object_sound, head_sound, arguments_sound, family_sound, kind_sound}
use Rattle.elaborate_laws.proofs.Complete.{object_complete, head_complete, arguments_complete, family_complete, kind_complete}
use Rattle.elaborate_laws.proofs.ValuesStand.{class_sound, class_complete, family_value_sound, family_value_complete, value_sound, value_complete}
use Rattle.list_laws.proofs.Answers.{ok_same}

pub objects_stand : ObjectsStand
objects_stand scope locals e family object = (object_sound e scope locals family object, object_complete e scope locals family object)

pub heads_stand : HeadsStand
heads_stand level scope locals e head = (head_sound e level scope locals head, λ s. head_complete e level scope locals head s.0 s.1)

pub arguments_stand : ArgumentsStand
arguments_stand scope locals xs first head = (arguments_sound xs scope locals first head, arguments_complete xs scope locals first head)

pub families_stand : FamiliesStand
families_stand scope locals e family = (family_sound e scope locals family, family_complete e scope locals family)

pub kinds_stand : KindsStand
kinds_stand scope locals e kind = (kind_sound e scope locals kind, kind_complete e scope locals kind)

pub classes_stand : ClassesStand
classes_stand scope e class = (class_sound scope e class, class_complete scope e class)

pub family_values_stand : FamilyValuesStand
family_values_stand scope locals e kind body = (family_value_sound e scope locals kind body, family_value_complete e scope locals kind body)

pub values_stand : ValuesStand
values_stand scope e class value = (value_sound scope e class value, value_complete scope e class value)

pub one_object : OneObject
one_object scope locals e family m n s t = ok_same (sym (object_complete e scope locals family m s) ∙ object_complete e scope locals family n t)

pub one_head_taken : OneHeadTaken
one_head_taken scope locals xs first head other s t = ok_same (sym (arguments_complete xs scope locals first head s) ∙ arguments_complete xs scope locals first other t)

-- the two are not known to be of one level, at which the function would answer both, before they are known to be one
head_by : (expression : Expr) (scope : Scope) (locals : Locals) (head other : Head) → StandsHead scope locals expression head → StandsHead scope locals expression other → head ≡ other
head_by (NameExpr span path) scope locals head other s t = one_name scope locals path head other s t
head_by (AppExpr span function arguments) scope locals head other s t =
    let e : t.first ≡ s.first = head_by function scope locals t.first s.first t.begins s.begins in
    one_head_taken scope locals arguments s.first head other s.takes (subst (λ first. StandsArguments scope locals arguments first other) e t.takes)
head_by (LamExpr span binder body) scope locals head other s t = absurd s
head_by (TypedLamExpr span binder domain body) scope locals head other s t = absurd s
head_by (TypeExpr span) scope locals head other s t = absurd s
head_by (PiExpr span binder domain body) scope locals head other s t = absurd s
head_by (ArrowExpr span domain body) scope locals head other s t = absurd s
head_by (BackExpr span body domain) scope locals head other s t = absurd s

pub one_head : OneHead
one_head scope locals e head other s t = head_by e scope locals head other s t

pub one_family : OneFamily
one_family scope locals e a b s t = ok_same (sym (family_complete e scope locals a s) ∙ family_complete e scope locals b t)

pub one_kind : OneKind
one_kind scope locals e k l s t = ok_same (sym (kind_complete e scope locals k s) ∙ kind_complete e scope locals l t)

pub one_class : OneClass
one_class scope e k l s t = ok_same (sym (class_complete scope e k s) ∙ class_complete scope e l t)

pub one_family_value : OneFamilyValue
one_family_value scope locals e kind a b s t = ok_same (sym (family_value_complete e scope locals kind a s) ∙ family_value_complete e scope locals kind b t)

pub one_value : OneValue
one_value scope e class v w s t = ok_same (sym (value_complete scope e class v s) ∙ value_complete scope e class w t)
