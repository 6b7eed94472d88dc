-- The form in which values come out.
use Rattle.std.proofs.Common.{◌≡◌, ℕ, zero, suc, ◌<◌, refl, sym, ap, ◌∙◌, arith}
use Rattle.lf_meaning.specs.Terms.{Constant, Object, Lam, At, Var, Con, App, AtFamily, AtomicFamily, FamilyCon, FamilyApp}
use Rattle.lf_meaning.specs.Signatures.{SameAs}
use Rattle.translation_laws.specs.ValueLaws.{ObjectsComeOut, FamiliesComeOut}

pub objects_come_out : ObjectsComeOut
objects_come_out (Lam body) = record { proper = tt; bare = λ c e. absurd (cc); other = λ h. refl }
objects_come_out (At (Var index)) = record { proper = tt; bare = λ c e. absurd (cc); other = λ h. refl }
objects_come_out (At (Con constant)) = record { proper = tt; bare = λ c e. (let q : constant ≡ c = cc in ap SameAs q); other = λ h. absurd h }
objects_come_out (At (App r argument)) = record { proper = tt; bare = λ c e. absurd (cc); other = λ h. refl }

pub families_come_out : FamiliesComeOut
families_come_out zero (FamilyCon constant) = record { proper = tt; bare = λ c z e. (let q : constant ≡ c = cc in ap SameAs q); other = λ h. absurd (omega (arith, h)) }
families_come_out zero (FamilyApp p argument) = record { proper = tt; bare = λ c z e. absurd (cc); other = λ h. refl }
families_come_out (suc binders) (FamilyCon constant) = record { proper = omega arith; bare = λ c z e. absurd (omega (arith, z)); other = λ h. refl }
families_come_out (suc binders) (FamilyApp p argument) = record { proper = tt; bare = λ c z e. absurd (omega (arith, z)); other = λ h. refl }
