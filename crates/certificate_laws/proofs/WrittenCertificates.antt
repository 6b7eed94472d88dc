-- A derivation written below lines, premises first, and a certificate of a well-typed signature, one declaration after the other.
use Rattle.std.proofs.Common.{◌≡◌, List, [], ◌∷◌, ◌++◌, inl, inr, Option, Some, None, refl, sym, ap, subst, ◌∙◌, append-nil, append_assoc}
use Rattle.lf_meaning.specs.Terms.{Kind, Ty, PiKind, Context, with_domains}
use Rattle.lf_meaning.specs.Signatures.{Class, FamilyClass, KindClass, Value, SameAs, TermValue, FamilyValue, Declaration, Signature, declaration_of}
use Rattle.lf_meaning.specs.Judgements.{IsKind, IsClass, ValueFits, IsSignature}
use Rattle.lf_meaning.specs.Sorts.{sorts_of}
use Rattle.lf_typing.proofs.Growing.{signature_shrinks}
use Rattle.lf_typing.proofs.Typed.{family_sorted}
use Rattle.lf_typing.proofs.Regular.{IsSortedContext}
use Rattle.certificate_meaning.specs.Statements.{Statement, KindIn, FamilyIn, ChecksIn}
use Rattle.certificate_meaning.specs.Steps.{Follows, class_statement, Declares, declares_undefined, declares_same, declares_term, declares_family, IsNoConstantFamily}
use Rattle.certificate_meaning.specs.Certificates.{Line, StepLine, DeclarationLine, signature_of, Holds, HoldsAll, IsCertificate, IsCertificateOf}
use Rattle.certificate_laws.specs.CertificateLaws.{NamesAreDistinct, IsNormal, ValuesAreNormal, TypedIsCertified}
use Rattle.certificate_laws.proofs.Derivations.{Derivable, by, AllDerivable, none, also}
use Rattle.certificate_laws.proofs.DerivedTyping.{derives_is_family, derives_is_kind, derives_checks}

-- lines that go on from those given, without declarations, and hold all of the statements
record Written (lines : List Line) (ss : List Statement) : Type 0 where
  after : List Line
  certificate : IsCertificate after
  signature : signature_of after ≡ signature_of lines
  keeps : (e : Line) → Holds lines e → Holds after e
  has : HoldsAll after ss

has_later : (x : Line) (lines : List Line) (e : Line) → Holds lines e → Holds (x ∷ lines) e
has_later x lines e h = inr h

step_below : (sig : Signature) (lines : List Line) (s : Statement) (premises : List Statement) → signature_of lines ≡ sig → Follows sig s premises → Written lines premises → Written lines (s ∷ [])
step_below sig lines s premises e f w =
    let over : signature_of w.after ≡ sig = w.signature ∙ e in
    record {
      after = StepLine s ∷ w.after;
      certificate = (w.certificate, record { premises = premises; are_above = w.has; follows = subst (λ g. Follows g s premises) (sym over) f });
      signature = w.signature;
      keeps = λ x h. has_later (StepLine s) w.after x (w.keeps x h);
      has = (inl refl, tt);
    }

both : (lines : List Line) (s : Statement) (ss : List Statement) (w : Written lines (s ∷ [])) → Written w.after ss → Written lines (s ∷ ss)
both lines s ss w u = record { after = u.after; certificate = u.certificate; signature = u.signature ∙ w.signature; keeps = λ x h. u.keeps x (w.keeps x h); has = (u.keeps (StepLine s) w.has.0, u.has) }

mutual
  write : {sig : Signature} {s : Statement} → Derivable sig s → (lines : List Line) → IsCertificate lines → signature_of lines ≡ sig → Written lines (s ∷ [])
  write (by {sig} {s} {premises} f ds) lines h e = step_below sig lines s premises e f (write_all ds lines h e)

  write_all : {sig : Signature} {ss : List Statement} → AllDerivable sig ss → (lines : List Line) → IsCertificate lines → signature_of lines ≡ sig → Written lines ss
  write_all none lines h e = record { after = lines; certificate = h; signature = refl; keeps = λ x g. g; has = tt }
  write_all (also {s} {ss} d ds) lines h e =
      let w = write d lines h e in
      both lines s ss w (write_all ds w.after w.certificate (w.signature ∙ e))

-- premises that show a declaration, with their derivations
record Needs (sig : Signature) (value : Option Value) (class : Class) : Type 0 where
  premises : List Statement
  derivable : AllDerivable sig premises
  declares : Declares sig value class premises

derives_class : (sig : Signature) → IsSignature sig → (class : Class) → IsClass sig class → Derivable sig (class_statement class)
derives_class sig typed (FamilyClass a) h = derives_is_family sig typed [] a tt h
derives_class sig typed (KindClass k) h = derives_is_kind sig typed [] k tt h

domains_sorted : (sig : Signature) (k : Kind) (g : Context) → IsSortedContext (sorts_of sig) g → IsKind sig g k → IsSortedContext (sorts_of sig) (with_domains k g)
domains_sorted sig Ty g hg h = hg
domains_sorted sig (PiKind a k) g hg h = domains_sorted sig k (a ∷ g) (hg, family_sorted sig g a h.0) h.1

needs : (sig : Signature) → IsSignature sig → (value : Option Value) (class : Class) → IsNormal value → IsClass sig class → ValueFits sig value class → Needs sig value class
needs sig typed None class n h v = record { premises = class_statement class ∷ []; derivable = also (derives_class sig typed class h) none; declares = declares_undefined }
needs sig typed (Some (SameAs d)) class n h v = record { premises = class_statement class ∷ []; derivable = also (derives_class sig typed class h) none; declares = declares_same v }
needs sig typed (Some (TermValue m)) (FamilyClass a) n h v = record { premises = FamilyIn [] a ∷ ChecksIn [] m a ∷ []; derivable = also (derives_is_family sig typed [] a tt h) (also (derives_checks sig typed [] m a tt (family_sorted sig [] a h) v) none); declares = declares_term n }
needs sig typed (Some (TermValue m)) (KindClass k) n h v = absurd v
needs sig typed (Some (FamilyValue i a)) (FamilyClass b) n h v = absurd v
needs sig typed (Some (FamilyValue i a)) (KindClass k) n h v = record {
  premises = KindIn [] k ∷ FamilyIn (with_domains k []) a ∷ [];
  derivable = also (derives_is_kind sig typed [] k tt h) (also (derives_is_family sig typed (with_domains k []) a (domains_sorted sig k [] tt h) v.1) none);
  declares = subst (λ j. Declares sig (Some (FamilyValue j a)) (KindClass k) (KindIn [] k ∷ FamilyIn (with_domains k []) a ∷ [])) (sym v.0) (declares_family (subst (λ j. IsNoConstantFamily j a) v.0 n));
}

abbrev HasCertificate : Signature → Type 0
HasCertificate sig = (lines : List Line) × IsCertificateOf sig lines

declared : (before : Signature) (d : Declaration) → declaration_of before d.name ≡ None → Needs before d.value d.class → HasCertificate before → HasCertificate (before ++ (d ∷ []))
declared before d new n (lines, c) =
    let w = write_all n.derivable lines c.certificate c.signature in
    let over : signature_of w.after ≡ before = w.signature ∙ c.signature in (
      DeclarationLine d ∷ w.after,
      record {
        certificate = (w.certificate, record { is_new = subst (λ g. declaration_of g d.name ≡ None) (sym over) new; premises = n.premises; are_above = w.has; declares = subst (λ g. Declares g d.value d.class n.premises) (sym over) n.declares });
        signature = ap (λ g. g ++ (d ∷ [])) over;
      },
    )

exported : (sig before after : Signature) → sig ≡ before ++ after → IsSignature sig → NamesAreDistinct sig → ValuesAreNormal sig → HasCertificate before → HasCertificate sig
exported sig before [] e typed new normal c = subst HasCertificate (sym (e ∙ append-nil before)) c
exported sig before (d ∷ after) e typed new normal c =
    let h = typed before d after e in
    let n = needs before (signature_shrinks before (d ∷ after) (subst IsSignature e typed)) d.value d.class (normal before d after e) h.class_is h.value_fits in
    exported sig (before ++ (d ∷ [])) after (e ∙ sym (append_assoc before (d ∷ []) after)) typed new normal (declared before d (new before d after e) n c)

pub certificates_exist : TypedIsCertified
certificates_exist sig typed new normal = exported sig [] sig refl typed new normal ([], record { certificate = tt; signature = refl })
