-- A signature's fault is that of its first bad declaration.
use Rattle.std.proofs.Common.{◌≡◌, [], ◌∷◌, ◌++◌, length, Option, Some, None, refl, sym, ap, subst, ◌∙◌, append_assoc, append-nil}
use Rattle.lf_meaning.specs.Signatures.{Declaration, Signature}
use Rattle.lf_meaning.specs.Judgements.{IsDeclaration, IsSignature}
use Rattle.lf_meaning.specs.Faults.{Fault, declaration_fault, BadDeclaration, bad_at, signature_fault_after, signature_fault}
use Rattle.lf_typing.specs.FaultLaws.{FirstBad}
use Rattle.lf_typing.proofs.Growing.{empty_signature, signature_grows}
use Rattle.lf_typing.proofs.Faultless.{declaration_sound, declaration_complete}

first_here : (before rest : Signature) (d : Declaration) (fault : Fault) (bad : BadDeclaration) → IsSignature before → declaration_fault before d ≡ Some fault → Some (record { index = length before; fault = fault }) ≡ Some bad → FirstBad (before ++ (d ∷ rest)) bad
first_here before rest d fault bad typed h e =
    let same : record { index = length before; fault = fault } ≡ bad = cc in
    subst (FirstBad (before ++ (d ∷ rest))) same (record { before = before; declaration = d; after = rest; split = refl; index_is = refl; before_is = typed; fault_is = h })

bad_cases : (before rest : Signature) (d : Declaration) (o : Option Fault) (bad : BadDeclaration) → IsSignature before → declaration_fault before d ≡ o → bad_at (length before) o (signature_fault_after (before ++ (d ∷ [])) rest) ≡ Some bad → (signature_fault_after (before ++ (d ∷ [])) rest ≡ Some bad → IsSignature (before ++ (d ∷ [])) → FirstBad ((before ++ (d ∷ [])) ++ rest) bad) → FirstBad (before ++ (d ∷ rest)) bad
bad_cases before rest d None bad typed h e later = subst (λ s. FirstBad s bad) (append_assoc before (d ∷ []) rest) (later e (signature_grows before d typed (declaration_sound before d h)))
bad_cases before rest d (Some fault) bad typed h e later = first_here before rest d fault bad typed h e

first_bad_after : (before rest : Signature) (bad : BadDeclaration) → IsSignature before → signature_fault_after before rest ≡ Some bad → FirstBad (before ++ rest) bad
first_bad_after before [] bad typed e = absurd (cc)
first_bad_after before (d ∷ rest) bad typed e = bad_cases before rest d (declaration_fault before d) bad typed refl e (λ f t. first_bad_after (before ++ (d ∷ [])) rest bad t f)

pub first_bad : (sig : Signature) (bad : BadDeclaration) → signature_fault sig ≡ Some bad → FirstBad sig bad
first_bad sig bad e = first_bad_after [] sig bad empty_signature e

-- the other way: declarations that hold are passed
passes_good : (before middle rest : Signature) (bad : BadDeclaration) → ((m : Signature) (d : Declaration) (after : Signature) → middle ≡ m ++ (d ∷ after) → IsDeclaration (before ++ m) d) → signature_fault_after (before ++ middle) rest ≡ Some bad → signature_fault_after before (middle ++ rest) ≡ Some bad
passes_good before [] rest bad good e = subst (λ s. signature_fault_after s rest ≡ Some bad) (append-nil before) e
passes_good before (d ∷ middle) rest bad good e =
    let none : declaration_fault before d ≡ None = declaration_complete before d (subst (λ s. IsDeclaration s d) (append-nil before) (good [] d middle refl)) in
    ap (λ o. bad_at (length before) o (signature_fault_after (before ++ (d ∷ [])) (middle ++ rest))) none ∙ passes_good (before ++ (d ∷ [])) middle rest bad (λ m c after s. subst (λ t. IsDeclaration t c) (sym (append_assoc before (d ∷ []) m)) (good (d ∷ m) c after (ap (λ x. d ∷ x) s))) (subst (λ s. signature_fault_after s rest ≡ Some bad) (sym (append_assoc before (d ∷ []) middle)) e)

pub bad_is_first : (sig : Signature) (bad : BadDeclaration) → FirstBad sig bad → signature_fault sig ≡ Some bad
bad_is_first sig bad f =
    let here : signature_fault_after f.before (f.declaration ∷ f.after) ≡ Some bad = ap (λ o. bad_at (length f.before) o (signature_fault_after (f.before ++ (f.declaration ∷ [])) f.after)) f.fault_is ∙ ap (λ i. Some (record { index = i; fault = bad.fault })) (sym f.index_is) in
    subst (λ s. signature_fault s ≡ Some bad) (sym f.split) (passes_good [] f.before (f.declaration ∷ f.after) bad f.before_is here)
