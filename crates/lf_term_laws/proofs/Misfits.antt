-- What is a misfit, and what an erasure tells.
use Rattle.std.proofs.Common.{◌≡◌, ℕ, ap}
use Rattle.lf_meaning.specs.Terms.{Constant, Object, Lam, At, Atomic, Simple, Base, Arrow}
use Rattle.lf_meaning.specs.Replacement.{Action, Stay, Step, Kept, Replaced}
use Rattle.lf_meaning.specs.Misfits.{in_atomic, head_kept, goes_on}
use Rattle.lf_term_laws.specs.Application.{ErasureTellsHeads, ErasureTellsProducts, LambdaAtBaseIsMisfit, AtomicValueIsMisfit}

replaced_is_not_kept : {v : Object} {a : Action} {r : Atomic} → Replaced v a ≡ Kept r → ⊥
replaced_is_not_kept e = absurd (cc)

staying_is_no_step : {v w : Object} {s : Object → ℕ → Object → Object} {a : Action} → Replaced v Stay ≡ Replaced w (Step s a) → ⊥
staying_is_no_step e = absurd (cc)

atomic_is_no_lambda : {r : Atomic} {m : Object} {a b : Action} → Replaced (At r) a ≡ Replaced (Lam m) b → ⊥
atomic_is_no_lambda e = absurd (cc)

pub lambda_at_base_is_misfit : LambdaAtBaseIsMisfit
lambda_at_base_is_misfit body m c (in_atomic (head_kept hr hm e)) = replaced_is_not_kept e
lambda_at_base_is_misfit body m c (in_atomic (goes_on codomain hr hm e hb)) = staying_is_no_step e

pub atomic_value_is_misfit : AtomicValueIsMisfit
atomic_value_is_misfit r t m (in_atomic (head_kept hr hm e)) = replaced_is_not_kept e
atomic_value_is_misfit r t m (in_atomic (goes_on codomain hr hm e hb)) = atomic_is_no_lambda e

base_is : {c d : Constant} → Base c ≡ Base d → c ≡ d
base_is e = cc

arrow_is_no_base : {s t : Simple} {c : Constant} → Arrow s t ≡ Base c → ⊥
arrow_is_no_base e = absurd (cc)

pub erasure_tells_heads : ErasureTellsHeads
erasure_tells_heads p q = ((λ e. base_is e), (λ e. ap Base e))

pub erasure_tells_products : ErasureTellsProducts
erasure_tells_products a b p e = arrow_is_no_base e
