-- Rows with different digests are different.
use Rattle.std.proofs.Common.{◌≡◌, ◌⊎◌, ◌≢◌, ℕ, List, Bool, true, false, nat_eq, inl, inr, ap, sym, ◌∙◌, refl}
use Rattle.std.specs.Bool.{Decides}
use Rattle.std.proofs.lemmas.Bool.Decides.{eqb_tells}
use Rattle.base_types.specs.Digests.{digest_of}

unequal : (first second : ℕ) → (first ≡ second → ⊥) → ((nat_eq first second ≡ true) × (first ≡ second)) ⊎ ((nat_eq first second ≡ false) × (first ≢ second)) → nat_eq first second ≡ false
unequal first second n (inl p) = absurd (n p.1)
unequal first second n (inr p) = p.0

-- Where digests differ, whatever decides that the rows are equal says no.
pub differ : (first second : ℕ) (b : Bool) (xs ys : List (List ℕ)) → Decides b (xs ≡ ys) → first ≡ digest_of xs → second ≡ digest_of ys → (first ≡ second → ⊥) → nat_eq first second ≡ b
differ first second false xs ys d p q n = unequal first second n (eqb_tells first second)
differ first second true xs ys d p q n = absurd (n (p ∙ ap digest_of (d.0 refl) ∙ sym q))
