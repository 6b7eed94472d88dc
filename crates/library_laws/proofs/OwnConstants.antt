-- Look-up of own constants by name and by path.
use Rattle.std.proofs.Common.{◌≡◌, Bool, true, false, cond, ◌&&◌, List, [], ◌∷◌, Option, Some, None, inl, inr, refl, sym, ap, ◌∙◌}
use lib.Pointwise.{pointwise}
use Rattle.name_meaning.specs.Names.{Name, Path, same_name}
use Rattle.name_laws.proofs.Order.{same_itself}
use Rattle.lf_meaning.specs.Signatures.{Declaration, Signature, declaration_of}
use Rattle.list_laws.proofs.Members.{Member}
use Rattle.library_meaning.specs.Resolution.{own_at, same_path, has_path}

-- in an own part, where all names have the theory's name, a constant is found by its path
pub own_found : (own : Signature) (theory : Name) (path : Path) → ((d : Declaration) → Member d own → d.name.theory ≡ theory) → declaration_of own (record { theory = theory; path = path }) ≡ own_at own path
own_found [] theory path named = refl
own_found (d ∷ ds) theory path named =
    by (same_name d.name.theory theory) (same_path d.name.path path) (ap (λ t. same_name t theory) (named d (inl refl)) ∙ same_itself theory) (own_found ds theory path (λ e m. named e (inr m)))
  where
    by : (a b : Bool) → a ≡ true → declaration_of ds (record { theory = theory; path = path }) ≡ own_at ds path
        → cond (a && b) (Some d) (declaration_of ds (record { theory = theory; path = path })) ≡ cond b (Some d) (own_at ds path)
    by true true e rest = refl
    by true false e rest = rest
    by false b e rest = absurd (cc)
