-- Options and lists that are mapped.
use Rattle.std.proofs.Common.{◌≡◌, ℕ, ◌<◌, List, length, map, get_or, slice_get, Option, Some, None, IfSome, refl, sym, ap, ◌∙◌, subst}
use Rattle.std.proofs.lemmas.Option.{slice_get-map, slice_get-get_or}
use Rattle.std.specs.Option.{option_map}

pub mapped_some : {A B : Type 0} (f : A → B) (o : Option A) (y : B) → option_map f o ≡ Some y → (x : A) × (o ≡ Some x) × (y ≡ f x)
mapped_some f None y h = absurd (cc)
mapped_some f (Some x) y h = (x, refl, cc)

-- the item of a list that is read off another
pub item_there : {A B : Type 0} (f : A → B) (xs : List A) (i : ℕ) (x : A) → i < length xs → x ≡ get_or xs i x → slice_get (map f xs) i ≡ Some (f x)
item_there f xs i x below is = slice_get-map f xs i ∙ ap (option_map f) (slice_get-get_or xs i x below ∙ ap Some (sym is))

-- what follows of a value that is there
pub if_some : {A : Type 0} (o : Option A) (P Q : A → Type 0) → ((x : A) → P x → Q x) → IfSome o P → IfSome o Q
if_some None P Q f h = h
if_some (Some x) P Q f h = f x h

pub at_some : {A : Type 0} (o : Option A) (P : A → Type 0) (x : A) → o ≡ Some x → IfSome o P → P x
at_some None P x e h = absurd (cc)
at_some (Some y) P x e h = let same : y ≡ x = cc in subst P same h

pub both_if_some : {A : Type 0} (o : Option A) (P Q R : A → Type 0) → ((x : A) → P x → Q x → R x) → IfSome o P → IfSome o Q → IfSome o R
both_if_some None P Q R f h k = h
both_if_some (Some x) P Q R f h k = f x h k
