-- Two maps that give the same values to the constants of two signatures translate what both have alike.
use Rattle.std.proofs.Common.{◌≡◌, ℕ, zero, suc, ◌+◌, ◌≤◌, [], ◌∷◌, ◌++◌, length, length-append, Bool, true, false, cond, Option, Some, None, is_some, refl, sym, ap, ap₂, ◌∙◌, subst, arith}
use Rattle.lf_meaning.specs.Terms.{Constant}
use Rattle.lf_meaning.specs.Signatures.{Class, Value, Signature, same_constant, class_of}
use Rattle.lf_meaning.specs.Judgements.{IsClass, Fits, IsDeclaration, IsSignature}
use Rattle.lf_typing.proofs.Declared.{declared_as, found_in, class_more}
use Rattle.lf_typing.proofs.Closed.{class_is_class}
use Rattle.lf_typing.proofs.Growing.{signature_shrinks}
use Rattle.lf_meaning.specs.HeadMaps.{Image, HeadMap, image_of}
use Rattle.translation_meaning.specs.Translation.{translate_class, translate_value}
use Rattle.translation_typing.proofs.Agreeing.{class_agrees, value_agrees}
use Rattle.translation_typing.proofs.Restricted.{restrict, restricted, restricted_there}
use Rattle.lf_term_laws.proofs.Declarations.{undefined_is, image_front, AgreeOn}

-- both maps have an image of the constant, of its class by their own translation, and of one value
pub record SameAt (first second : HeadMap) (c : Constant) (class : Class) : Type 0 where
  pub one : Image
  pub other : Image
  pub one_is : image_of first c ≡ Some one
  pub other_is : image_of second c ≡ Some other
  pub one_class : one.class ≡ translate_class first class
  pub other_class : other.class ≡ translate_class second class
  pub value : one.value ≡ other.value

-- the images of the second map where the signature has the constant, and else those of the first
abbrev patched : Signature → HeadMap → HeadMap → HeadMap
patched sig second first = restrict sig second ++ first

front_image_by : (b : Bool) (x image : Image) (o : Option Image) (more : Option Image) → (o ≡ Some image → more ≡ Some image) → cond b (Some x) o ≡ Some image → cond b (Some x) more ≡ Some image
front_image_by true x image o more f h = h
front_image_by false x image o more f h = f h

back_image_by : (b : Bool) (x : Image) (o more rest : Option Image) → (o ≡ None → more ≡ rest) → cond b (Some x) o ≡ None → cond b (Some x) more ≡ rest
back_image_by true x o more rest f h = absurd (cc)
back_image_by false x o more rest f h = f h

-- what has no image in front is found behind
pub back_image : (xs ys : HeadMap) (c : Constant) → image_of xs c ≡ None → image_of (xs ++ ys) c ≡ image_of ys c
unfolding image_of
back_image [] ys c h = refl
back_image (m ∷ xs) ys c h = back_image_by (same_constant m.name c) m.image (image_of xs c) (image_of (xs ++ ys) c) (image_of ys c) (back_image xs ys c) h

-- where the signature has the constant, and where not
patched_there : (sig : Signature) (first second : HeadMap) (c : Constant) (class : Class) (image : Image) → class_of sig c ≡ Some class → image_of second c ≡ Some image → image_of (patched sig second first) c ≡ Some image
patched_there sig first second c class image e h = image_front (restrict sig second) first c image (restricted_there sig c second class e ∙ h)

patched_not : (sig : Signature) (first second : HeadMap) (c : Constant) → class_of sig c ≡ None → image_of (patched sig second first) c ≡ image_of first c
patched_not sig first second c e = back_image (restrict sig second) first c (restricted sig c second ∙ ap (λ o. cond (is_some o) (image_of second c) None) e)

-- ---- the classes of a signature are over what stands before

pub record ClassBefore (sig : Signature) (class : Class) : Type 0 where
  pub before : Signature
  pub shorter : suc (length before) ≤ length sig
  pub typed : IsSignature before
  pub is : IsClass before class
  pub more : (c : Constant) (k : Class) → class_of before c ≡ Some k → class_of sig c ≡ Some k

pub class_before : (sig : Signature) → IsSignature sig → (c : Constant) (class : Class) → class_of sig c ≡ Some class → ClassBefore sig class
class_before sig typed c class h =
    let d = declared_as sig c class h in
    let f = found_in sig c d.declaration d.found in
    let is : IsDeclaration f.before d.declaration = typed f.before d.declaration f.after f.split in
    let count : length sig ≡ length f.before + suc (length f.after) = ap length f.split ∙ length-append f.before (d.declaration ∷ f.after) in
    record {
      before = f.before;
      shorter = omega (arith, count);
      typed = signature_shrinks f.before (d.declaration ∷ f.after) (subst IsSignature f.split typed);
      is = subst (IsClass f.before) (undefined_is d.declaration.value d.declaration.class class d.classified) is.class_is;
      more = λ x k e. subst (λ z. class_of z x ≡ Some k) (sym f.split) (class_more f.before (d.declaration ∷ f.after) x k e);
    }

-- ---- two maps

module _ (other : Signature) (other_typed : IsSignature other) (first second : HeadMap) where
  abbrev both : HeadMap
  both = patched other second first

  abbrev SameOn : Signature → Type 0
  SameOn sig = (c : Constant) (class found : Class) → class_of sig c ≡ Some class → class_of other c ≡ Some found → (class ≡ found) × SameAt first second c class

  abbrev Imaged : Type 0
  Imaged = (c : Constant) (class : Class) → class_of other c ≡ Some class → (image : Image) × (image_of second c ≡ Some image)

  other_agrees : Imaged → AgreeOn other both second
  other_agrees f c class e = let i = f c class e in patched_there other first second c class i.0 e i.1 ∙ sym i.1

  abbrev image_with : Class → Value → Image
  image_with k v = record { class = k; value = v }

  agree_at : (sig : Signature) → SameOn sig → Imaged → (c : Constant) (class : Class) → class_of sig c ≡ Some class → (before : Signature) → IsClass before class → AgreeOn before first both → (o : Option Class) → class_of other c ≡ o → image_of first c ≡ image_of both c
  agree_at sig same imaged c class h before is within None e = sym (patched_not other first second c e)
  agree_at sig same imaged c class h before is within (Some found) e =
      let s = same c class found h e in
      let t = s.1 in
      let over : IsClass other class = subst (IsClass other) (sym s.0) (class_is_class other other_typed c found e) in
      let classes : translate_class first class ≡ translate_class second class = class_agrees before first both within class is ∙ class_agrees other both second (other_agrees imaged) class over in
      t.one_is ∙ ap Some (ap₂ image_with (t.one_class ∙ classes ∙ sym t.other_class) t.value) ∙ sym (patched_there other first second c found t.other e t.other_is)

  -- by the number of declarations
  agree_by : (n : ℕ) (sig : Signature) → length sig ≤ n → IsSignature sig → SameOn sig → Imaged → AgreeOn sig first both
  agree_by zero [] low typed same imaged c class h = absurd (cc)
  agree_by zero (d ∷ sig) low typed same imaged c class h = absurd (omega (arith, low))
  agree_by (suc n) sig low typed same imaged c class h =
      let b = class_before sig typed c class h in
      agree_at sig same imaged c class h b.before b.is (agree_by n b.before (omega (arith, low, b.shorter)) b.typed (λ x k l e g. same x k l (b.more x k e) g) imaged) (class_of other c) refl

  module _ (sig : Signature) (typed : IsSignature sig) (same : SameOn sig) (imaged : Imaged) where
    pub classes_same : (class : Class) → IsClass sig class → IsClass other class → translate_class first class ≡ translate_class second class
    classes_same class h g = class_agrees sig first both (agree_by (length sig) sig (omega arith) typed same imaged) class h ∙ class_agrees other both second (other_agrees imaged) class g

    pub values_same : (class : Class) (value : Value) → Fits sig value class → Fits other value class → translate_value first value ≡ translate_value second value
    values_same class value h g = value_agrees sig first both (agree_by (length sig) sig (omega arith) typed same imaged) class value h ∙ value_agrees other both second (other_agrees imaged) class value g
