-- What the values of this crate stand for: the terms of Canonical LF, read off them. A head with a spine
-- stands for the head applied to the arguments from left to right (Harper and Licata 2007, section 2).
use Rattle.std.specs.Prelude.{List, [], Option, Some, None, map, reverse}
use Rattle.std.specs.Option.{option_map}
use Rattle.std.specs.declared.alloc.Global.{Global}
use Rattle.std.specs.declared.sync.Arc.{Arc}
use Rattle.lf_meaning.specs.Terms as terms
use Rattle.lf_meaning.specs.Signatures as signatures
use Rattle.lf_meaning.specs.HeadMaps as maps
use Rattle.base_types.specs.declared.qname.QName.{QName}
use Rattle.term_trees.specs.declared.simple.Simple.{Simple}
use Rattle.term_trees.specs.declared.simple.Simple.TheOpen as simple
use Rattle.term_trees.specs.declared.simple.Simple.TheFolds.{fold-Simple}
use Rattle.term_trees.specs.declared.obj.Head.{Head}
use Rattle.term_trees.specs.declared.obj.Head.TheVariants as head
use Rattle.term_trees.specs.declared.obj.Obj.{Obj}
use Rattle.term_trees.specs.declared.obj.Obj.TheOpen as obj
use Rattle.term_trees.specs.declared.obj.Obj.TheFolds.{fold-Obj}
use Rattle.term_trees.specs.declared.obj.Spine.{Spine, out-Spine}
use Rattle.term_trees.specs.declared.obj.Row.{Row}
use Rattle.term_trees.specs.declared.fam.Fam.{Fam}
use Rattle.term_trees.specs.declared.fam.Fam.TheOpen as fam
use Rattle.term_trees.specs.declared.fam.Fam.TheFolds.{fold-Fam}
use Rattle.term_trees.specs.declared.kind.Kind.{Kind}
use Rattle.term_trees.specs.declared.kind.Kind.TheOpen as kind
use Rattle.term_trees.specs.declared.kind.Kind.TheFolds.{fold-Kind}
use Rattle.term_trees.specs.declared.class.Class.{Class}
use Rattle.term_trees.specs.declared.class.Class.TheVariants as class
use Rattle.term_trees.specs.declared.class.Value.{Value}
use Rattle.term_trees.specs.declared.class.Value.TheVariants as value
use Rattle.term_trees.specs.declared.flat_decl.FlatDecl.{FlatDecl}
use Rattle.term_trees.specs.declared.flat_decl.Image.{Image}

-- A constant.
abbrev pub read_constant : QName → terms.Constant
read_constant q = record { theory = q.theory; path = q.path }

-- A simple type, given what its parts stand for.
abbrev pub read_simple_layer : simple.Simple-F terms.Simple → terms.Simple
read_simple_layer (simple.Base q) = terms.Base (read_constant q)
read_simple_layer (simple.Arrow s t) = terms.Arrow s.value t.value

abbrev pub read_simple : Simple → terms.Simple
read_simple = fold-Simple terms.Simple read_simple_layer

-- A head without arguments.
abbrev pub read_head : Head → terms.Atomic
read_head (head.Var i) = terms.Var i
read_head (head.Con q) = terms.Con (read_constant q)

-- What a row stands for that may be there and is shared: nothing where there is none.
abbrev pub read_shared : Option (Arc (List terms.Object) Global) → List terms.Object
read_shared None = []
read_shared (Some row) = row.value

-- An object, and the arguments of a row and of a spine, given what their parts stand for.
abbrev pub read_object_layer : obj.Obj-F terms.Object (List terms.Object) (List terms.Object) → terms.Object
read_object_layer (obj.Lam m) = terms.Lam m.value
read_object_layer (obj.At h ms) = terms.At (terms.apply_all (read_head h) ms)

abbrev pub read_row_layer : obj.Row-F terms.Object (List terms.Object) (List terms.Object) → List terms.Object
read_row_layer r = r.items.items

abbrev pub read_spine_layer : obj.Spine-F terms.Object (List terms.Object) (List terms.Object) → List terms.Object
read_spine_layer s = read_shared s.row

abbrev pub read_object : Obj → terms.Object
read_object = fold-Obj terms.Object (List terms.Object) (List terms.Object) read_object_layer read_row_layer read_spine_layer

-- Several objects, as those of a spine.
abbrev pub read_objects : List Obj → List terms.Object
read_objects = map read_object

-- The arguments of a row that may be there, and those of a spine, from left to right.
abbrev pub row_arguments : Option (Arc Row Global) → List Obj
row_arguments None = []
row_arguments (Some row) = row.value.items.items

abbrev pub arguments_of : Spine → List Obj
arguments_of s = row_arguments (out-Spine s).row

abbrev pub read_arguments : Spine → List terms.Object
read_arguments s = read_objects (arguments_of s)

-- A family, given what its parts stand for.
abbrev pub read_family_layer : fam.Fam-F terms.Family → terms.Family
read_family_layer (fam.Pi a b) = terms.Pi a.value b.value
read_family_layer (fam.At q s) = terms.AtFamily (terms.family_apply_all (terms.FamilyCon (read_constant q)) (read_arguments s))

abbrev pub read_family : Fam → terms.Family
read_family = fold-Fam terms.Family read_family_layer

-- A kind, given what its parts stand for.
abbrev pub read_kind_layer : kind.Kind-F terms.Kind → terms.Kind
read_kind_layer kind.Ty = terms.Ty
read_kind_layer (kind.Pi a k) = terms.PiKind (read_family a.value) k.value

abbrev pub read_kind : Kind → terms.Kind
read_kind = fold-Kind terms.Kind read_kind_layer

abbrev pub read_class : Class → signatures.Class
read_class (class.Kind k) = signatures.KindClass (read_kind k)
read_class (class.Fam a) = signatures.FamilyClass (read_family a)

abbrev pub read_value : Value → signatures.Value
read_value (value.Same q) = signatures.SameAs (read_constant q)
read_value (value.Term m) = signatures.TermValue (read_object m)
read_value (value.Fam n a) = signatures.FamilyValue n (read_family a)

abbrev pub read_declaration : FlatDecl → signatures.Declaration
read_declaration d = record { name = read_constant d.name; class = read_class d.class; value = option_map read_value d.value }

-- The declarations of a flat signature, in order.
abbrev pub read_signature : List FlatDecl → signatures.Signature
read_signature = map read_declaration

abbrev pub read_image : Image → maps.Image
read_image i = record { class = read_class i.class; value = read_value i.value }

abbrev pub read_mapping : QName × Image → maps.Mapping
read_mapping m = record { name = read_constant m.0; image = read_image m.1 }

-- The mappings of a map, in order.
abbrev pub read_map : List (QName × Image) → maps.HeadMap
read_map = map read_mapping

-- The context of families that grows at its end: the innermost family is the last, and is read first.
abbrev pub read_context : List Fam → terms.Context
read_context families = reverse (map read_family families)
