-- What a replacement makes of a long form: the long form of the atomic object that it keeps, or the value that it puts in its place.
use Rattle.std.proofs.Common.{◌≡◌, ℕ, refl, ap, ◌∙◌}
use Rattle.lf_meaning.specs.Terms.{Object, Atomic, Simple, SimpleContext}
use Rattle.lf_meaning.specs.Replacement.{Headed, Kept, Replaced, Replacement, replace, replace_head}
use Rattle.lf_meaning.specs.Sorts.{Sorts}
use Rattle.lf_substitution_laws.specs.Uniform.{IsUniform}
use Rattle.lf_substitution_laws.proofs.Commutation.{Anything}
use Rattle.lf_substitution_laws.proofs.Sorting.{HeadedFits}
use Rattle.eta_meaning.specs.LongTerms.{eta}
use Rattle.eta_laws.proofs.LongTerms.{replace_kept_eta}
use Rattle.eta_laws.proofs.Identity.{value_takes_place}

-- the object that a headed result stands for at a simple type
abbrev pub headed_eta : Simple → Headed → Object
headed_eta t (Kept r) = eta t r
headed_eta t (Replaced value action) = value

module _ (sorts : Sorts) (by : Replacement) (uniform : IsUniform by) (D : SimpleContext) (n : ℕ) (t : Simple) (r : Atomic) where
  replace_eta_at : (h : Headed) → replace_head by n r ≡ h → HeadedFits Anything sorts D h t → replace by n (eta t r) ≡ headed_eta t h
  replace_eta_at (Kept kept) e f = replace_kept_eta by uniform t n r kept e
  replace_eta_at (Replaced value action) e f = value_takes_place sorts t by uniform D n r value f.1 (e ∙ ap (Replaced value) f.0)

  pub replace_eta : HeadedFits Anything sorts D (replace_head by n r) t → replace by n (eta t r) ≡ headed_eta t (replace_head by n r)
  replace_eta = replace_eta_at (replace_head by n r) refl
