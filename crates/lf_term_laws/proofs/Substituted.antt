-- What stands in place of each variable in a substitution, by where it stands to the substituted one.
use Rattle.std.proofs.Common.{◌≡◌, ℕ, suc, ◌<◌, ◌≤◌, arith}
use Rattle.std.proofs.lemmas.Bool.Decides.{nat_tests}
use Rattle.lf_meaning.specs.Terms.{Object, Var}
use Rattle.lf_meaning.specs.Raising.{raise}
use Rattle.lf_meaning.specs.Replacement.{Action, Kept, Replaced}
use Rattle.lf_meaning.specs.Substitution.{substituted}

module _ (v : Object) (a : Action) where
  pub substituted_below : (n i : ℕ) → i < n → substituted v a n i ≡ Kept (Var i)
  substituted_below n i h = grind (arith, nat_tests)

  pub substituted_at : (n : ℕ) → substituted v a n n ≡ Replaced (raise n 0 v) a
  substituted_at n = grind (arith, nat_tests)

  pub substituted_above : (n i : ℕ) → n ≤ i → substituted v a n (suc i) ≡ Kept (Var i)
  substituted_above n i h = grind (arith, nat_tests)
