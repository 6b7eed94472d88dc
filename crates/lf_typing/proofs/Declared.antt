-- Look-up of declarations in a signature.
use Rattle.std.proofs.Common.{◌≡◌, [], ◌∷◌, ◌++◌, Option, Some, None, Bool, true, false, cond, refl, ap, subst, ◌∙◌}
use Rattle.lf_meaning.specs.Terms.{Constant}
use Rattle.lf_meaning.specs.Signatures.{Class, Declaration, Signature, same_constant, declaration_of, undefined_class, declared_class, class_of}
use Rattle.lf_meaning.specs.Judgements.{IsClass, IsSignature}
use Rattle.lf_substitution_laws.proofs.Below.Declarations.{undefined_is, declaration_front}

keep_found : (b : Bool) (d e : Declaration) (x y : Option Declaration) → (x ≡ Some e → y ≡ Some e) → cond b (Some d) x ≡ Some e → cond b (Some d) y ≡ Some e
keep_found true d e x y f h = h
keep_found false d e x y f h = f h

-- a found declaration with what stands before and behind it
pub record FoundIn (sig : Signature) (d : Declaration) : Type 0 where
  pub before : Signature
  pub after : Signature
  pub split : sig ≡ before ++ (d ∷ after)

found_later : (e d : Declaration) (sig : Signature) → FoundIn sig d → FoundIn (e ∷ sig) d
found_later e d sig f = record { before = e ∷ f.before; after = f.after; split = ap (λ x. e ∷ x) f.split }

found_by : (b : Bool) (e d : Declaration) (sig : Signature) (x : Option Declaration) → (x ≡ Some d → FoundIn sig d) → cond b (Some e) x ≡ Some d → FoundIn (e ∷ sig) d
found_by true e d sig x f h = let same : e ≡ d = cc in record { before = []; after = sig; split = ap (λ y. y ∷ sig) same }
found_by false e d sig x f h = found_later e d sig (f h)

pub found_in : (sig : Signature) (c : Constant) (d : Declaration) → declaration_of sig c ≡ Some d → FoundIn sig d
found_in [] c d h = absurd (cc)
found_in (e ∷ sig) c d h = found_by (same_constant e.name c) e d sig (declaration_of sig c) (found_in sig c d) h

-- a constant's declaration
pub record DeclaredAs (sig : Signature) (c : Constant) (k : Class) : Type 0 where
  pub declaration : Declaration
  pub found : declaration_of sig c ≡ Some declaration
  pub classified : undefined_class declaration.value declaration.class ≡ Some k

declared_by : (sig : Signature) (c : Constant) (k : Class) (o : Option Declaration) → declaration_of sig c ≡ o → declared_class o ≡ Some k → DeclaredAs sig c k
declared_by sig c k None e h = absurd (cc)
declared_by sig c k (Some d) e h = record { declaration = d; found = e; classified = h }

pub declared_as : (sig : Signature) (c : Constant) (k : Class) → class_of sig c ≡ Some k → DeclaredAs sig c k
declared_as sig c k h = declared_by sig c k (declaration_of sig c) refl h

-- a constant keeps its classifier where more declarations are behind
pub class_more : (sig more : Signature) (c : Constant) (k : Class) → class_of sig c ≡ Some k → class_of (sig ++ more) c ≡ Some k
class_more sig more c k h =
    let d : DeclaredAs sig c k = declared_as sig c k h in
    ap declared_class (declaration_front sig more c d.declaration d.found) ∙ d.classified

-- In a well-typed signature the classifier of a constant is one over declarations that come first.
pub record ClassIn (sig : Signature) (k : Class) : Type 0 where
  pub before : Signature
  pub after : Signature
  pub split : sig ≡ before ++ after
  pub class_is : IsClass before k

pub class_in : (sig : Signature) → IsSignature sig → (c : Constant) (k : Class) → class_of sig c ≡ Some k → ClassIn sig k
class_in sig typed c k h =
    let d : DeclaredAs sig c k = declared_as sig c k h in
    let f : FoundIn sig d.declaration = found_in sig c d.declaration d.found in
    record { before = f.before; after = d.declaration ∷ f.after; split = f.split; class_is = subst (IsClass f.before) (undefined_is d.declaration.value d.declaration.class k d.classified) (typed f.before d.declaration f.after f.split).class_is }
