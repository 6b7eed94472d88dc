-- How terms are printed, seen from a theory (this profile). A binder's number is 1 more than the number of binders whose
-- bodies hold it; so under so many binders the variable of the innermost one has their number.
use Rattle.std.specs.Prelude.{ℕ, zero, suc, Bool, true, false, List, [], ◌++◌, ◌-◌, ◌||◌, nat_eq, if◌then◌else◌, codes}
use Rattle.lf_meaning.specs.Terms.{Object, Lam, At, Atomic, Var, Con, App, Family, Pi, AtFamily, AtomicFamily, FamilyCon, FamilyApp, Kind, Ty, PiKind}
use Rattle.lf_meaning.specs.Signatures.{Class, FamilyClass, KindClass, Value, SameAs, TermValue, FamilyValue}
use Rattle.printing_meaning.specs.Constants.{Seen, constant_text, variable_text}

-- The variable stands in the term. Under a binder it is one more.
unfoldable mutual
  pub object_uses : ℕ → Object → Bool
  object_uses variable (Lam body) = object_uses (suc variable) body
  object_uses variable (At atomic) = atomic_uses variable atomic

  pub atomic_uses : ℕ → Atomic → Bool
  atomic_uses variable (Var index) = nat_eq variable index
  atomic_uses variable (Con constant) = false
  atomic_uses variable (App head argument) = atomic_uses variable head || object_uses variable argument

unfoldable mutual
  pub family_uses : ℕ → Family → Bool
  family_uses variable (Pi domain body) = family_uses variable domain || family_uses (suc variable) body
  family_uses variable (AtFamily atomic) = atomic_family_uses variable atomic

  pub atomic_family_uses : ℕ → AtomicFamily → Bool
  atomic_family_uses variable (FamilyCon constant) = false
  atomic_family_uses variable (FamilyApp head argument) = atomic_family_uses variable head || object_uses variable argument

unfoldable pub kind_uses : ℕ → Kind → Bool
kind_uses variable Ty = false
kind_uses variable (PiKind domain body) = family_uses variable domain || kind_uses (suc variable) body

-- The text, in parentheses where that is asked.
abbrev pub parenthesized : Bool → List ℕ → List ℕ
parenthesized true text = codes "(" ++ text ++ codes ")"
parenthesized false text = text

-- The object is a head alone.
abbrev pub is_head : Object → Bool
is_head (Lam body) = false
is_head (At (Var index)) = true
is_head (At (Con constant)) = true
is_head (At (App head argument)) = false

-- `M` as an argument: in parentheses unless it is a head alone.
abbrev pub needs_parentheses : Object → Bool
needs_parentheses argument = if is_head argument then false else true

-- A λ prints `[v] M`; an application prints its head and its arguments, parted by one space.
unfoldable mutual
  pub object_text : Seen → ℕ → Object → List ℕ
  object_text seen depth (Lam body) = codes "[" ++ variable_text seen (suc depth) ++ codes "] " ++ object_text seen (suc depth) body
  object_text seen depth (At atomic) = atomic_text seen depth atomic

  pub atomic_text : Seen → ℕ → Atomic → List ℕ
  atomic_text seen depth (Var index) = variable_text seen (depth - index)
  atomic_text seen depth (Con constant) = constant_text seen constant
  atomic_text seen depth (App head argument) =
      atomic_text seen depth head ++ codes " " ++ parenthesized (needs_parentheses argument) (object_text seen depth argument)

unfoldable pub atomic_family_text : Seen → ℕ → AtomicFamily → List ℕ
atomic_family_text seen depth (FamilyCon constant) = constant_text seen constant
atomic_family_text seen depth (FamilyApp head argument) =
    atomic_family_text seen depth head ++ codes " " ++ parenthesized (needs_parentheses argument) (object_text seen depth argument)

abbrev pub is_product : Family → Bool
is_product (Pi domain body) = true
is_product (AtFamily atomic) = false

-- A Π whose body uses its variable prints `{v:A} B`; another prints `A -> B`, with A in parentheses where it is a Π.
abbrev pub product_text : Bool → List ℕ → Bool → List ℕ → List ℕ → List ℕ
product_text true variable bracketed domain body = codes "{" ++ variable ++ codes ":" ++ domain ++ codes "} " ++ body
product_text false variable bracketed domain body = parenthesized bracketed domain ++ codes " -> " ++ body

unfoldable pub family_text : Seen → ℕ → Family → List ℕ
family_text seen depth (Pi domain body) =
    product_text (family_uses 0 body) (variable_text seen (suc depth)) (is_product domain) (family_text seen depth domain) (family_text seen (suc depth) body)
family_text seen depth (AtFamily atomic) = atomic_family_text seen depth atomic

unfoldable pub kind_text : Seen → ℕ → Kind → List ℕ
kind_text seen depth Ty = codes "type"
kind_text seen depth (PiKind domain body) =
    product_text (kind_uses 0 body) (variable_text seen (suc depth)) (is_product domain) (family_text seen depth domain) (kind_text seen (suc depth) body)

abbrev pub class_text : Seen → Class → List ℕ
class_text seen (FamilyClass family) = family_text seen 0 family
class_text seen (KindClass kind) = kind_text seen 0 kind

-- `[v] ` for each of so many binders, the first of which has the number that follows this depth.
unfoldable pub binders_text : Seen → ℕ → ℕ → List ℕ
binders_text seen depth zero = []
binders_text seen depth (suc binders) = codes "[" ++ variable_text seen (suc depth) ++ codes "] " ++ binders_text seen (suc depth) binders

-- The value of a constant. A family value prints its binders, and then its body.
abbrev pub value_text : Seen → Value → List ℕ
value_text seen (SameAs constant) = constant_text seen constant
value_text seen (TermValue object) = object_text seen 0 object
value_text seen (FamilyValue binders body) = binders_text seen 0 binders ++ family_text seen binders body
