-- The equations of the readings, of a value that is made.
use Rattle.std.proofs.Common.{◌≡◌, List, [], ◌∷◌, ◌++◌, refl, sym, ap, ◌∙◌}
use Rattle.std.specs.declared.boxed.Box.{Box}
use Rattle.std.specs.Prelude.{Option, Some, None}
use Rattle.std.specs.declared.alloc.Global.{Global}
use Rattle.std.specs.declared.sync.Arc.{Arc}
use Rattle.lf_meaning.specs.Terms as terms
use Rattle.term_trees.specs.Readings.{read_constant, read_simple, read_simple_layer, read_head, read_object, read_object_layer, read_objects, read_spine_layer, read_row_layer, row_arguments, read_arguments, read_family, read_family_layer, read_kind, read_kind_layer}
use Rattle.base_types.specs.declared.qname.QName.{QName}
use Rattle.term_trees.specs.declared.simple.Simple.{Simple}
use Rattle.term_trees.specs.declared.simple.Simple.TheOpen as simple
use Rattle.term_trees.specs.declared.simple.Simple.TheVariants as simples
use Rattle.term_trees.specs.declared.simple.Simple.TheFolds.{fold-roll-Simple}
use Rattle.term_trees.specs.declared.obj.Head.{Head}
use Rattle.term_trees.specs.declared.obj.Obj.{Obj}
use Rattle.term_trees.specs.declared.obj.Obj.TheOpen as obj
use Rattle.term_trees.specs.declared.obj.Obj.TheVariants as objs
use Rattle.term_trees.specs.declared.obj.Obj.TheFolds.{map-Spine, fold-Row, fold-Spine, fold-roll-Obj, fold_out-Row, fold_out-Spine}
use Rattle.term_trees.specs.declared.obj.Spine.{Spine, out-Spine}
use Rattle.term_trees.specs.declared.obj.Row.{Row}
use Rattle.term_trees.specs.declared.fam.Fam.{Fam}
use Rattle.term_trees.specs.declared.fam.Fam.TheOpen as fam
use Rattle.term_trees.specs.declared.fam.Fam.TheVariants as fams
use Rattle.term_trees.specs.declared.fam.Fam.TheFolds.{fold-roll-Fam}
use Rattle.term_trees.specs.declared.kind.Kind.{Kind}
use Rattle.term_trees.specs.declared.kind.Kind.TheOpen as kind
use Rattle.term_trees.specs.declared.kind.Kind.TheVariants as kinds
use Rattle.term_trees.specs.declared.kind.Kind.TheFolds.{fold-roll-Kind}

pub read_simple_base : (q : QName) → read_simple (simples.Base q) ≡ terms.Base (read_constant q)
read_simple_base q = ap read_simple (sym (simples.rolls-Base q)) ∙ fold-roll-Simple terms.Simple read_simple_layer (simple.Base q)

pub read_simple_arrow : (s t : Box Simple Global) → read_simple (simples.Arrow s t) ≡ terms.Arrow (read_simple s.value) (read_simple t.value)
read_simple_arrow s t = ap read_simple (sym (simples.rolls-Arrow s t)) ∙ fold-roll-Simple terms.Simple read_simple_layer (simple.Arrow s t)

-- What the fold of objects gives of a row, and of a spine, are the arguments.
abbrev read_row : Row → List terms.Object
read_row = fold-Row terms.Object (List terms.Object) (List terms.Object) read_object_layer read_row_layer read_spine_layer

read_row_is : (r : Row) → read_row r ≡ read_objects r.items.items
read_row_is r = fold_out-Row terms.Object (List terms.Object) (List terms.Object) read_object_layer read_row_layer read_spine_layer r

abbrev read_spine : Spine → List terms.Object
read_spine = fold-Spine terms.Object (List terms.Object) (List terms.Object) read_object_layer read_row_layer read_spine_layer

spine_layer_is : (row : Option (Arc Row Global)) (alloc : Global)
    → read_spine_layer (map-Spine Obj Row Spine terms.Object (List terms.Object) (List terms.Object) read_object read_row read_spine (record { row = row; alloc = alloc })) ≡ read_objects (row_arguments row)
spine_layer_is None alloc = refl
spine_layer_is (Some row) alloc = read_row_is row.value

read_spine_is : (s : Spine) → read_spine s ≡ read_arguments s
read_spine_is s =
    fold_out-Spine terms.Object (List terms.Object) (List terms.Object) read_object_layer read_row_layer read_spine_layer s
    ∙ spine_layer_is (out-Spine s).row (out-Spine s).alloc

pub read_object_lam : (m : Box Obj Global) → read_object (objs.Lam m) ≡ terms.Lam (read_object m.value)
read_object_lam m = ap read_object (sym (objs.rolls-Lam m)) ∙ fold-roll-Obj terms.Object (List terms.Object) (List terms.Object) read_object_layer read_row_layer read_spine_layer (obj.Lam m)

pub read_object_at : (h : Head) (s : Spine) → read_object (objs.At h s) ≡ terms.At (terms.apply_all (read_head h) (read_arguments s))
read_object_at h s = ap read_object (sym (objs.rolls-At h s)) ∙ fold-roll-Obj terms.Object (List terms.Object) (List terms.Object) read_object_layer read_row_layer read_spine_layer (obj.At h s) ∙ ap (λ ms. terms.At (terms.apply_all (read_head h) ms)) (read_spine_is s)

pub read_family_pi : (a b : Box Fam Global) → read_family (fams.Pi a b) ≡ terms.Pi (read_family a.value) (read_family b.value)
read_family_pi a b = ap read_family (sym (fams.rolls-Pi a b)) ∙ fold-roll-Fam terms.Family read_family_layer (fam.Pi a b)

pub read_family_at : (q : QName) (s : Spine) → read_family (fams.At q s) ≡ terms.AtFamily (terms.family_apply_all (terms.FamilyCon (read_constant q)) (read_arguments s))
read_family_at q s = ap read_family (sym (fams.rolls-At q s)) ∙ fold-roll-Fam terms.Family read_family_layer (fam.At q s)

pub read_kind_ty : read_kind kinds.Ty ≡ terms.Ty
read_kind_ty = ap read_kind (sym kinds.rolls-Ty) ∙ fold-roll-Kind terms.Kind read_kind_layer kind.Ty

pub read_kind_pi : (a : Box Fam Global) (k : Box Kind Global) → read_kind (kinds.Pi a k) ≡ terms.PiKind (read_family a.value) (read_kind k.value)
read_kind_pi a k = ap read_kind (sym (kinds.rolls-Pi a k)) ∙ fold-roll-Kind terms.Kind read_kind_layer (kind.Pi a k)

-- All of them, for a tactic.
pub ruleset reading_equations = (read_simple_base, read_simple_arrow, read_object_lam, read_object_at, read_family_pi, read_family_at, read_kind_ty, read_kind_pi)

-- objects in a row, one list behind another
pub read_objects_joined : (xs ys : List Obj) → read_objects (xs ++ ys) ≡ read_objects xs ++ read_objects ys
read_objects_joined [] ys = refl
read_objects_joined (x ∷ xs) ys = ap (λ (zs : List terms.Object). read_object x ∷ zs) (read_objects_joined xs ys)
