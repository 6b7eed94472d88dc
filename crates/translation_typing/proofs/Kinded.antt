-- Families whose arguments have the simple types of the domains of their kinds. What is typed is such.
use Rattle.std.proofs.Common.{◌≡◌, ◌∷◌, sym, ap, ◌∙◌, subst}
use Rattle.lf_meaning.specs.Terms.{AtomicFamily, FamilyCon, FamilyApp, Family, Pi, AtFamily, Kind, Ty, PiKind, Context}
use Rattle.lf_meaning.specs.Erasure.{erase, erase_context}
use Rattle.lf_meaning.specs.Substitution.{substitute}
use Rattle.lf_meaning.specs.Signatures.{Signature}
use Rattle.lf_meaning.specs.Judgements.{SynthesisesKind, IsFamily, IsKind}
use Rattle.lf_typing.proofs.Typed.{checks_sort}
use Rattle.translation_typing.proofs.KindDomains.{domains_of_map}
use Rattle.translation_typing.specs.KindedFamilies.{class_domains, domains_of, HasDomains, IsKinded, IsKindedKind}

module _ (sig : Signature) where
  pub kind_has_domains : (context : Context) (p : AtomicFamily) (k : Kind) → SynthesisesKind sig context p k → HasDomains sig (erase_context context) p (domains_of k)
  kind_has_domains context (FamilyCon c) k h = ap class_domains h
  kind_has_domains context (FamilyApp p m) k h =
      let rest : domains_of k ≡ domains_of h.body = ap domains_of h.is ∙ domains_of_map (substitute m (erase h.domain)) 0 h.body in
      subst (HasDomains sig (erase_context context) (FamilyApp p m)) (sym rest)
      (record { domain = erase h.domain; head_has = kind_has_domains context p (PiKind h.domain h.body) h.head_has; argument_has = checks_sort sig context m h.domain h.argument_has })

  pub family_kinded : (context : Context) (a : Family) → IsFamily sig context a → IsKinded sig (erase_context context) a
  family_kinded context (Pi a b) h = (family_kinded context a h.0, family_kinded (a ∷ context) b h.1)
  family_kinded context (AtFamily p) h = kind_has_domains context p Ty h

  pub kind_kinded : (context : Context) (k : Kind) → IsKind sig context k → IsKindedKind sig (erase_context context) k
  kind_kinded context Ty h = tt
  kind_kinded context (PiKind a k) h = (family_kinded context a h.0, kind_kinded (a ∷ context) k h.1)
