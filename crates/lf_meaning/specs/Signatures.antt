-- Flat signatures: declarations of constants, in order (Harper and Licata 2007, section 2;
-- definitions as in Rabe and Kohlhase 2013, section 3).
use Rattle.name_meaning.specs.Names.{same_name}
use Rattle.std.specs.Prelude.{ℕ, List, [], ◌∷◌, Option, Some, None, Bool, ◌&&◌, if◌then◌else◌}
use lib.Pointwise.{pointwise}
use Rattle.lf_meaning.specs.Terms.{Constant, Object, Family, Kind}

-- The classifier of a constant.
pub data Class : Type 0 where
  FamilyClass : (family : Family) → Class
  KindClass : (kind : Kind) → Class

-- The value of a defined constant: the same as a constant, an object, or a family with so
-- many binders.
pub data Value : Type 0 where
  SameAs : (constant : Constant) → Value
  TermValue : (object : Object) → Value
  FamilyValue : (binders : ℕ) (body : Family) → Value

pub record Declaration : Type 0 where
  pub name : Constant
  pub class : Class
  pub value : Option Value

-- Declarations in order. Where two of them have one name, the first counts.
abbrev pub Signature : Type 0
Signature = List Declaration

-- Whether two constants are the same.
abbrev pub same_constant : Constant → Constant → Bool
same_constant c d = same_name c.theory d.theory && pointwise same_name c.path d.path

-- The declaration of that name, the first if there were more.
abbrev pub declaration_of : Signature → Constant → Option Declaration
declaration_of [] c = None
declaration_of (d ∷ ds) c = if same_constant d.name c then Some d else declaration_of ds c

-- The classifier that a declaration gives to its constant: none where it is defined.
abbrev pub undefined_class : Option Value → Class → Option Class
undefined_class None class = Some class
undefined_class (Some v) class = None

abbrev pub declared_class : Option Declaration → Option Class
declared_class None = None
declared_class (Some d) = undefined_class d.value d.class

-- The classifier of a constant. The undefined declarations alone are constants.
abbrev pub class_of : Signature → Constant → Option Class
class_of sig c = declared_class (declaration_of sig c)
