-- The classifiers of constants are closed: raising and substitution leave them.
use Rattle.std.proofs.Common.{◌≡◌, ℕ, [], ◌++◌, Some, sym, subst, arith}
use Rattle.lf_meaning.specs.Terms.{Constant, Object, Family, Kind, Simple}
use Rattle.lf_meaning.specs.Raising.{raise_family, raise_kind}
use Rattle.lf_meaning.specs.Substitution.{substitute_family, substitute_kind}
use Rattle.lf_meaning.specs.Signatures.{Class, FamilyClass, KindClass, Signature, class_of}
use Rattle.lf_meaning.specs.Judgements.{IsFamily, IsKind, IsClass, IsSignature}
use Rattle.lf_meaning.specs.Sorts.{IsSortedFamily, IsSortedKind, sorts_of}
use Rattle.lf_substitution_laws.proofs.Past.{raise_family_past, raise_kind_past, substitute_family_past, substitute_kind_past}
use Rattle.lf_typing.proofs.Declared.{ClassIn, class_in, class_more}
use Rattle.lf_typing.proofs.Typed.{family_sorted, kind_sorted, more_family, more_kind}

-- In a well-typed signature the classifiers of constants are well typed and well sorted, in no
-- context.
module _ (sig : Signature) (typed : IsSignature sig) where
  pub class_more_in : (before after : Signature) → sig ≡ before ++ after → (c : Constant) (k : Class) → class_of before c ≡ Some k → class_of sig c ≡ Some k
  class_more_in before after e c k h = subst (λ s. class_of s c ≡ Some k) (sym e) (class_more before after c k h)

  pub class_is_family : (c : Constant) (a : Family) → class_of sig c ≡ Some (FamilyClass a) → IsFamily sig [] a
  class_is_family c a h =
      let f : ClassIn sig (FamilyClass a) = class_in sig typed c (FamilyClass a) h in
      more_family f.before sig (class_more_in f.before f.after f.split) [] [] a f.class_is

  pub class_is_kind : (c : Constant) (k : Kind) → class_of sig c ≡ Some (KindClass k) → IsKind sig [] k
  class_is_kind c k h =
      let f : ClassIn sig (KindClass k) = class_in sig typed c (KindClass k) h in
      more_kind f.before sig (class_more_in f.before f.after f.split) [] [] k f.class_is

  pub class_sorted_family : (c : Constant) (a : Family) → class_of sig c ≡ Some (FamilyClass a) → IsSortedFamily (sorts_of sig) [] a
  class_sorted_family c a h = family_sorted sig [] a (class_is_family c a h)

  pub class_sorted_kind : (c : Constant) (k : Kind) → class_of sig c ≡ Some (KindClass k) → IsSortedKind (sorts_of sig) [] k
  class_sorted_kind c k h = kind_sorted sig [] k (class_is_kind c k h)

  pub class_is_class : (c : Constant) (k : Class) → class_of sig c ≡ Some k → IsClass sig k
  class_is_class c (FamilyClass a) h = class_is_family c a h
  class_is_class c (KindClass k) h = class_is_kind c k h

  -- raising and substitution leave them
  pub raise_class_family : (c : Constant) (a : Family) → class_of sig c ≡ Some (FamilyClass a) → (k n : ℕ) → raise_family k n a ≡ a
  raise_class_family c a h k n = raise_family_past (sorts_of sig) k [] n a (omega arith) (class_sorted_family c a h)

  pub raise_class_kind : (c : Constant) (b : Kind) → class_of sig c ≡ Some (KindClass b) → (k n : ℕ) → raise_kind k n b ≡ b
  raise_class_kind c b h k n = raise_kind_past (sorts_of sig) k [] n b (omega arith) (class_sorted_kind c b h)

  pub substitute_class_family : (c : Constant) (a : Family) → class_of sig c ≡ Some (FamilyClass a) → (v : Object) (t : Simple) (n : ℕ) → substitute_family v t n a ≡ a
  substitute_class_family c a h v t n = substitute_family_past (sorts_of sig) v t [] n a (omega arith) (class_sorted_family c a h)

  pub substitute_class_kind : (c : Constant) (b : Kind) → class_of sig c ≡ Some (KindClass b) → (v : Object) (t : Simple) (n : ℕ) → substitute_kind v t n b ≡ b
  substitute_class_kind c b h v t n = substitute_kind_past (sorts_of sig) v t [] n b (omega arith) (class_sorted_kind c b h)
