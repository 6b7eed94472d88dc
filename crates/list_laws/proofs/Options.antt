-- Options that hold something or nothing.
use Rattle.std.proofs.Common.{◌≡◌, Bool, true, false, cond, Option, Some, None, Bor, is_some, refl, sym, true≢false}
use Rattle.std.specs.Prelude.{option_map}
use Rattle.std.specs.Option.{option_copied}

pub none_of : {A : Type 0} (o : Option A) → is_some o ≡ false → o ≡ None
none_of None h = refl
none_of (Some x) h = absurd (cc)

pub some_of : {A : Type 0} (o : Option A) → is_some o ≡ true → (x : A) × (o ≡ Some x)
some_of None h = absurd (true≢false (sym h))
some_of (Some x) h = (x, refl)

pub clash : {A : Type 0} {x : A} (o : Option A) → o ≡ None → o ≡ Some x → ⊥
clash o h g = absurd (cc)

pub mapped_by : {A B : Type 0} (f : A → B) (b : Bool) (x : A) (o : Option A) (q : Option B) → q ≡ option_map f o → cond b (Some (f x)) q ≡ option_map f (cond b (Some x) o)
mapped_by f true x o q e = refl
mapped_by f false x o q e = e

pub mapped_none : {A B : Type 0} (f : A → B) (o : Option A) → option_map f o ≡ None → o ≡ None
mapped_none f None h = refl
mapped_none f (Some x) h = absurd (cc)

pub some_mapped : {A B : Type 0} (f : A → B) (o : Option A) → is_some (option_map f o) ≡ is_some o
some_mapped f None = refl
some_mapped f (Some x) = refl

pub copied_some : {X : Type 0} (found : Option (Bor X)) → is_some (option_copied found) ≡ is_some found
copied_some None = refl
copied_some (Some b) = refl
