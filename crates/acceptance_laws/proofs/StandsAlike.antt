-- What stands in a scope stands in another one in which each path stands for the same.
use Rattle.std.proofs.Common.{[], None}
use Rattle.name_meaning.specs.Names.{Path}
use Rattle.lf_meaning.specs.Terms.{Object, Family, Kind, Ty}
use Rattle.lf_meaning.specs.Signatures.{Class, FamilyClass, KindClass, Value}
use Rattle.translation_meaning.specs.Heads.{Head, ObjectHead, FamilyHead}
use Rattle.library_meaning.specs.Resolution.{Scope, Variables, Resolved, Declared}
use Rattle.library_meaning.specs.StandsFor.{StandsFor}
use Rattle.text_meaning.specs.Trees.{Expr, TypeExpr, NameExpr, AppExpr, PiExpr, LamExpr, TypedLamExpr, ArrowExpr, BackExpr, Exprs, NoArgs, ThenArg}
use Rattle.elaborate_meaning.specs.Locals.{Locals, with_local, variables_of}
use Rattle.elaborate_meaning.specs.Stands.{NameStands, StandsObject, StandsHead, StandsArguments, StandsFamily, StandsKind, StandsClass, StandsFamilyValue, BuildsValue, StandsValue}

module _ (one two : Scope) (goes : (variables : Variables) (path : Path) (resolved : Resolved) → StandsFor one variables path resolved → StandsFor two variables path resolved) where
  name_alike : (locals : Locals) (path : Path) (head : Head) → NameStands one locals path head → NameStands two locals path head
  name_alike locals path head s = record { resolved = s.resolved; stands = goes (variables_of locals) path s.resolved s.stands; begins = s.begins }

  mutual
    pub object_alike : (expression : Expr) (locals : Locals) (family : Family) (object : Object) → StandsObject one locals expression family object → StandsObject two locals expression family object
    object_alike (TypeExpr span) locals family object s = absurd s
    object_alike (PiExpr span binder domain body) locals family object s = absurd s
    object_alike (ArrowExpr span domain body) locals family object s = absurd s
    object_alike (BackExpr span body domain) locals family object s = absurd s
    object_alike (LamExpr span binder body) locals family object s =
        record {
          domain = s.domain;
          codomain = s.codomain;
          body = s.body;
          family_is = s.family_is;
          object_is = s.object_is;
          domain_stands = tt;
          stands = object_alike body (with_local binder s.domain locals) s.codomain s.body s.stands;
        }
    object_alike (TypedLamExpr span binder domain body) locals family object s =
        record {
          domain = s.domain;
          codomain = s.codomain;
          body = s.body;
          family_is = s.family_is;
          object_is = s.object_is;
          domain_stands = family_alike domain locals s.domain s.domain_stands;
          stands = object_alike body (with_local binder s.domain locals) s.codomain s.body s.stands;
        }
    object_alike (NameExpr span path) locals family object s = record { outcome = s.outcome; stands = name_alike locals path (ObjectHead s.outcome family) s.stands; is = s.is }
    object_alike (AppExpr span function arguments) locals family object s =
        let a = s.stands in
        record {
          outcome = s.outcome;
          stands = record { first = a.first; begins = head_alike function locals a.first a.begins; takes = arguments_alike arguments locals a.first (ObjectHead s.outcome family) a.takes };
          is = s.is;
        }

    head_alike : (expression : Expr) (locals : Locals) (head : Head) → StandsHead one locals expression head → StandsHead two locals expression head
    head_alike (NameExpr span path) locals head s = name_alike locals path head s
    head_alike (AppExpr span function arguments) locals head s =
        record { first = s.first; begins = head_alike function locals s.first s.begins; takes = arguments_alike arguments locals s.first head s.takes }
    head_alike (LamExpr span binder body) locals head s = absurd s
    head_alike (TypedLamExpr span binder domain body) locals head s = absurd s
    head_alike (TypeExpr span) locals head s = absurd s
    head_alike (PiExpr span binder domain body) locals head s = absurd s
    head_alike (ArrowExpr span domain body) locals head s = absurd s
    head_alike (BackExpr span body domain) locals head s = absurd s

    arguments_alike : (arguments : Exprs) (locals : Locals) (first head : Head) → StandsArguments one locals arguments first head → StandsArguments two locals arguments first head
    arguments_alike NoArgs locals first head s = s
    arguments_alike (ThenArg arguments argument) locals first head s =
        record {
          head = s.head;
          domain = s.domain;
          object = s.object;
          is_before = arguments_alike arguments locals first s.head s.is_before;
          takes = s.takes;
          stands = object_alike argument locals s.domain s.object s.stands;
          is = s.is;
        }

    pub family_alike : (expression : Expr) (locals : Locals) (family : Family) → StandsFamily one locals expression family → StandsFamily two locals expression family
    family_alike (PiExpr span binder domain body) locals family s =
        record {
          domain = s.domain;
          codomain = s.codomain;
          is = s.is;
          first = family_alike domain locals s.domain s.first;
          second = family_alike body (with_local binder s.domain locals) s.codomain s.second;
        }
    family_alike (ArrowExpr span domain body) locals family s =
        record {
          domain = s.domain;
          codomain = s.codomain;
          is = s.is;
          first = family_alike domain locals s.domain s.first;
          second = family_alike body (with_local None s.domain locals) s.codomain s.second;
        }
    family_alike (BackExpr span body domain) locals family s =
        record {
          domain = s.domain;
          codomain = s.codomain;
          is = s.is;
          first = family_alike domain locals s.domain s.first;
          second = family_alike body (with_local None s.domain locals) s.codomain s.second;
        }
    family_alike (TypeExpr span) locals family s = absurd s
    family_alike (LamExpr span binder body) locals family s = absurd s
    family_alike (TypedLamExpr span binder domain body) locals family s = absurd s
    family_alike (NameExpr span path) locals family s = (s.0, name_alike locals path (FamilyHead s.0 family Ty) s.1)
    family_alike (AppExpr span function arguments) locals family s =
        let a = s.1 in
        (s.0, record { first = a.first; begins = head_alike function locals a.first a.begins; takes = arguments_alike arguments locals a.first (FamilyHead s.0 family Ty) a.takes })

  kind_alike : (expression : Expr) (locals : Locals) (kind : Kind) → StandsKind one locals expression kind → StandsKind two locals expression kind
  kind_alike (TypeExpr span) locals kind s = s
  kind_alike (PiExpr span binder domain body) locals kind s =
      record { domain = s.domain; rest = s.rest; is = s.is; first = family_alike domain locals s.domain s.first; second = kind_alike body (with_local binder s.domain locals) s.rest s.second }
  kind_alike (ArrowExpr span domain body) locals kind s =
      record { domain = s.domain; rest = s.rest; is = s.is; first = family_alike domain locals s.domain s.first; second = kind_alike body (with_local None s.domain locals) s.rest s.second }
  kind_alike (BackExpr span body domain) locals kind s =
      record { domain = s.domain; rest = s.rest; is = s.is; first = family_alike domain locals s.domain s.first; second = kind_alike body (with_local None s.domain locals) s.rest s.second }
  kind_alike (NameExpr span path) locals kind s = absurd s
  kind_alike (AppExpr span function arguments) locals kind s = absurd s
  kind_alike (LamExpr span binder body) locals kind s = absurd s
  kind_alike (TypedLamExpr span binder domain body) locals kind s = absurd s

  pub class_alike : (expression : Expr) (class : Class) → StandsClass one expression class → StandsClass two expression class
  class_alike expression (KindClass kind) s = (s.0, kind_alike expression [] kind s.1)
  class_alike expression (FamilyClass family) s = (s.0, family_alike expression [] family s.1)

  family_value_alike : (expression : Expr) (locals : Locals) (kind : Kind) (family : Family) → StandsFamilyValue one locals expression kind family → StandsFamilyValue two locals expression kind family
  family_value_alike (LamExpr span binder body) locals kind family s =
      record { domain = s.domain; rest = s.rest; kind_is = s.kind_is; domain_stands = tt; stands = family_value_alike body (with_local binder s.domain locals) s.rest family s.stands }
  family_value_alike (TypedLamExpr span binder domain body) locals kind family s =
      record {
        domain = s.domain;
        rest = s.rest;
        kind_is = s.kind_is;
        domain_stands = family_alike domain locals s.domain s.domain_stands;
        stands = family_value_alike body (with_local binder s.domain locals) s.rest family s.stands;
      }
  family_value_alike (NameExpr span path) locals kind family s =
      record { binders = s.binders; outcome = s.outcome; stands = name_alike locals path (FamilyHead s.binders s.outcome kind) s.stands; is = s.is }
  family_value_alike (AppExpr span function arguments) locals kind family s =
      let a = s.stands in
      record {
        binders = s.binders;
        outcome = s.outcome;
        stands = record { first = a.first; begins = head_alike function locals a.first a.begins; takes = arguments_alike arguments locals a.first (FamilyHead s.binders s.outcome kind) a.takes };
        is = s.is;
      }
  family_value_alike (TypeExpr span) locals kind family s = absurd s
  family_value_alike (PiExpr span binder domain body) locals kind family s = absurd s
  family_value_alike (ArrowExpr span domain body) locals kind family s = absurd s
  family_value_alike (BackExpr span body domain) locals kind family s = absurd s

  built_alike : (expression : Expr) (class : Class) (value : Value) → BuildsValue one expression class value → BuildsValue two expression class value
  built_alike expression (FamilyClass family) value s = (s.0, object_alike expression [] family s.0 s.1, s.2)
  built_alike expression (KindClass kind) value s = (s.0, family_value_alike expression [] kind s.0 s.1, s.2)

  pub value_alike : (expression : Expr) (class : Class) (value : Value) → StandsValue one expression class value → StandsValue two expression class value
  value_alike (NameExpr span path) class value s = record { declaration = s.declaration; stands = goes [] path (Declared s.declaration) s.stands; class_is = s.class_is; is = s.is }
  value_alike (TypeExpr span) class value s = built_alike (TypeExpr span) class value s
  value_alike (AppExpr span function arguments) class value s = built_alike (AppExpr span function arguments) class value s
  value_alike (PiExpr span binder domain body) class value s = built_alike (PiExpr span binder domain body) class value s
  value_alike (LamExpr span binder body) class value s = built_alike (LamExpr span binder body) class value s
  value_alike (TypedLamExpr span binder domain body) class value s = built_alike (TypedLamExpr span binder domain body) class value s
  value_alike (ArrowExpr span domain body) class value s = built_alike (ArrowExpr span domain body) class value s
  value_alike (BackExpr span body domain) class value s = built_alike (BackExpr span body domain) class value s
