-- What a certificate shows: its steps, the typing of its signature, and that names are distinct and values normal.
use Rattle.std.proofs.Common.{◌≡◌, List, [], ◌∷◌, ◌++◌, ◌⊎◌, inl, inr, ⊎_elim, Option, None, refl, sym, ap, ap₂, subst, ◌∙◌, append-nil}
use Rattle.lf_meaning.specs.Signatures.{Class, FamilyClass, KindClass, Value, Declaration, Signature, declaration_of}
use Rattle.lf_meaning.specs.Judgements.{Checks, Synthesises, SynthesisesKind, IsFamily, IsKind, IsClass, ValueFits, IsSignature}
use Rattle.lf_typing.proofs.Typed.{more_checks, more_synthesises, more_synthesises_kind, more_family, more_kind}
use Rattle.lf_typing.proofs.Declared.{class_more}
use Rattle.lf_typing.proofs.Growing.{empty_signature, signature_grows}
use Rattle.certificate_meaning.specs.Statements.{Statement, Raises, Erases, Substitutes, SubstitutesAtHead, Applies, KindIn, FamilyIn, SynthesisesKindIn, ChecksIn, SynthesisesIn, IsTrueOver, AllTrueOver}
use Rattle.certificate_meaning.specs.Steps.{class_statement, Declares, declares_undefined, declares_same, declares_term, declares_family}
use Rattle.certificate_meaning.specs.Certificates.{Line, TermLine, StepLine, DeclarationLine, signature_of, Holds, HoldsAll, StandsBelow, IsCertificate, IsCertificateOf}
use Rattle.certificate_laws.proofs.SoundSteps.{sound}
use Rattle.certificate_laws.specs.CertificateLaws.{IsNormal}

-- more declarations keep a true statement
true_more : (sig more : Signature) (s : Statement) → IsTrueOver sig s → IsTrueOver (sig ++ more) s
true_more sig more (Raises by from x y) h = h
true_more sig more (Erases a s) h = h
true_more sig more (Substitutes v t n x y) h = h
true_more sig more (SubstitutesAtHead v t n r w left) h = h
true_more sig more (Applies t v m w left) h = h
true_more sig more (KindIn g k) h = subst (λ c. IsKind (sig ++ more) c k) (append-nil g) (more_kind sig (sig ++ more) (class_more sig more) g [] k h)
true_more sig more (FamilyIn g a) h = subst (λ c. IsFamily (sig ++ more) c a) (append-nil g) (more_family sig (sig ++ more) (class_more sig more) g [] a h)
true_more sig more (SynthesisesKindIn g p k) h = subst (λ c. SynthesisesKind (sig ++ more) c p k) (append-nil g) (more_synthesises_kind sig (sig ++ more) (class_more sig more) g [] p k h)
true_more sig more (ChecksIn g m a) h = subst (λ c. Checks (sig ++ more) c m a) (append-nil g) (more_checks sig (sig ++ more) (class_more sig more) g [] m a h)
true_more sig more (SynthesisesIn g r a) h = subst (λ c. Synthesises (sig ++ more) c r a) (append-nil g) (more_synthesises sig (sig ++ more) (class_more sig more) g [] r a h)

-- a true statement stays true over one line more
later : (e : Line) (above : List Line) (s : Statement) → IsTrueOver (signature_of above) s → IsTrueOver (signature_of (e ∷ above)) s
later (TermLine t) above s h = h
later (StepLine p) above s h = h
later (DeclarationLine d) above s h = true_more (signature_of above) (d ∷ []) s h

premises_true : (above : List Line) → ((s : Statement) → Holds above (StepLine s) → IsTrueOver (signature_of above) s) → (ps : List Statement) → HoldsAll above ps → AllTrueOver (signature_of above) ps
premises_true above all [] h = tt
premises_true above all (p ∷ ps) h = (all p h.0, premises_true above all ps h.1)

-- the newest line, where it is that step
this_step : (e : Line) (above : List Line) → StandsBelow above e → ((s : Statement) → Holds above (StepLine s) → IsTrueOver (signature_of above) s) → (s : Statement) → e ≡ StepLine s → IsTrueOver (signature_of (e ∷ above)) s
this_step (TermLine t) above h all s e = absurd (cc)
this_step (StepLine p) above h all s e =
    let same : p ≡ s = cc in
    subst (IsTrueOver (signature_of above)) same (sound (signature_of above) h.follows (premises_true above all h.premises h.are_above))
this_step (DeclarationLine d) above h all s e = absurd (cc)

steps_true : (lines : List Line) → IsCertificate lines → (s : Statement) → Holds lines (StepLine s) → IsTrueOver (signature_of lines) s
steps_true [] h s has = absurd has
steps_true (e ∷ above) h s (inl same) = this_step e above h.1 (steps_true above h.0) s same
steps_true (e ∷ above) h s (inr has) = later e above s (steps_true above h.0 s has)

class_true : (sig : Signature) (class : Class) → IsTrueOver sig (class_statement class) → IsClass sig class
class_true sig (FamilyClass a) h = h
class_true sig (KindClass k) h = h

declared_true : (sig : Signature) {value : Option Value} {class : Class} {ps : List Statement} → Declares sig value class ps → AllTrueOver sig ps → IsClass sig class × ValueFits sig value class
declared_true sig (declares_undefined {class}) h = (class_true sig class h.0, tt)
declared_true sig (declares_same {class} found) h = (class_true sig class h.0, found)
declared_true sig (declares_term normal) h = (h.0, h.1.0)
declared_true sig (declares_family normal) h = (h.0, (refl, h.1.0))

line_typed : (e : Line) (above : List Line) → IsSignature (signature_of above) → StandsBelow above e → ((s : Statement) → Holds above (StepLine s) → IsTrueOver (signature_of above) s) → IsSignature (signature_of (e ∷ above))
line_typed (TermLine t) above typed h all = typed
line_typed (StepLine p) above typed h all = typed
line_typed (DeclarationLine d) above typed h all =
    let parts = declared_true (signature_of above) h.declares (premises_true above all h.premises h.are_above) in
    signature_grows (signature_of above) d typed (record { class_is = parts.0; value_fits = parts.1 })

pub signature_typed : (lines : List Line) → IsCertificate lines → IsSignature (signature_of lines)
signature_typed [] h = empty_signature
signature_typed (e ∷ above) h = line_typed e above (signature_typed above h.0) h.1 (steps_true above h.0)

lines_above : (below rest : List Line) → IsCertificate (below ++ rest) → IsCertificate rest
lines_above [] rest h = h
lines_above (b ∷ below) rest h = lines_above below rest h.0

pub step_true : (lines : List Line) → IsCertificate lines → (below above : List Line) (s : Statement) → lines ≡ below ++ (StepLine s ∷ above) → IsTrueOver (signature_of above) s
step_true lines h below above s e =
    let here = lines_above below (StepLine s ∷ above) (subst IsCertificate e h) in
    sound (signature_of above) here.1.follows (premises_true above (steps_true above here.0) here.1.premises here.1.are_above)

pub certified_typed : (sig : Signature) (lines : List Line) → IsCertificateOf sig lines → IsSignature sig
certified_typed sig lines h = subst IsSignature h.signature (signature_typed lines h.certificate)

pub certified_unique : (first second : Signature) (lines : List Line) → IsCertificateOf first lines → IsCertificateOf second lines → first ≡ second
certified_unique first second lines h g = sym h.signature ∙ g.signature

-- each declaration of the signature has the property over those before it
abbrev pub Everywhere : (Signature → Declaration → Type 0) → Signature → Type 0
Everywhere P sig = (before : Signature) (d : Declaration) (after : Signature) → sig ≡ before ++ (d ∷ after) → P before d

not_empty : (before after : Signature) (d : Declaration) → [] ≡ before ++ (d ∷ after) → ⊥
not_empty [] after d e = cc
not_empty (b ∷ before) after d e = cc

both_same : (x y : Declaration) (xs ys : Signature) → x ≡ y → xs ≡ ys → x ∷ xs ≡ y ∷ ys
both_same x y xs ys e f = ap₂ (λ z zs. z ∷ zs) e f

-- a declaration of a signature with one more at the end is that one, or one of the signature
last_or_before : (sig before after : Signature) (d e : Declaration) → sig ++ (d ∷ []) ≡ before ++ (e ∷ after) → ((before ≡ sig) × (e ≡ d)) ⊎ ((rest : Signature) × (sig ≡ before ++ (e ∷ rest)))
last_or_before [] [] after d e h = let same : d ≡ e = cc in inl (refl, sym same)
last_or_before [] (b ∷ before) after d e h = let tail : [] ≡ before ++ (e ∷ after) = cc in absurd (not_empty before after e tail)
last_or_before (x ∷ sig) [] after d e h = let same : x ≡ e = cc in inr (sig, ap (λ y. y ∷ sig) same)
last_or_before (x ∷ sig) (b ∷ before) after d e h =
    let same : x ≡ b = cc in
    let tail : sig ++ (d ∷ []) ≡ before ++ (e ∷ after) = cc in
    ⊎_elim (λ p. inl (both_same b x before sig (sym same) p.0, p.1)) (λ p. inr (p.0, both_same x b sig (before ++ (e ∷ p.0)) same p.1)) (last_or_before sig before after d e tail)

-- it has the property everywhere, with one declaration more that has it
everywhere_grows : (P : Signature → Declaration → Type 0) (sig : Signature) (d : Declaration) → Everywhere P sig → P sig d → Everywhere P (sig ++ (d ∷ []))
everywhere_grows P sig d h g before e after s =
    ⊎_elim (λ p. subst (λ x. P x e) (sym p.0) (subst (P sig) (sym p.1) g)) (λ p. h before e p.0 p.1) (last_or_before sig before after d e s)

-- and so has the signature of lines whose declarations have it
lines_everywhere : (P : Signature → Declaration → Type 0) → ((above : List Line) (d : Declaration) → StandsBelow above (DeclarationLine d) → P (signature_of above) d) → (lines : List Line) → IsCertificate lines → Everywhere P (signature_of lines)
lines_everywhere P one [] h = λ before d after e. absurd (not_empty before after d e)
lines_everywhere P one (TermLine t ∷ above) h = lines_everywhere P one above h.0
lines_everywhere P one (StepLine s ∷ above) h = lines_everywhere P one above h.0
lines_everywhere P one (DeclarationLine d ∷ above) h = everywhere_grows P (signature_of above) d (lines_everywhere P one above h.0) (one above d h.1)

abbrev pub IsNew : Signature → Declaration → Type 0
IsNew before d = declaration_of before d.name ≡ None

abbrev pub HasNormal : Signature → Declaration → Type 0
HasNormal before d = IsNormal d.value

declared_normal : (sig : Signature) {value : Option Value} {class : Class} {ps : List Statement} → Declares sig value class ps → IsNormal value
declared_normal sig declares_undefined = tt
declared_normal sig (declares_same found) = tt
declared_normal sig (declares_term normal) = normal
declared_normal sig (declares_family normal) = normal

pub certified_distinct : (sig : Signature) (lines : List Line) → IsCertificateOf sig lines → Everywhere IsNew sig
certified_distinct sig lines h = subst (Everywhere IsNew) h.signature (lines_everywhere IsNew (λ above d g. g.is_new) lines h.certificate)

pub certified_normal : (sig : Signature) (lines : List Line) → IsCertificateOf sig lines → Everywhere HasNormal sig
certified_normal sig lines h = subst (Everywhere HasNormal) h.signature (lines_everywhere HasNormal (λ above d g. declared_normal (signature_of above) g.declares) lines h.certificate)
