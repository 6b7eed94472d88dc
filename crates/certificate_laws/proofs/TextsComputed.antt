-- The worked texts.
use Rattle.std.proofs.Common.{ℕ, ◌<◌, List, [], ◌∷◌, length, inl, inr, None, codes, refl, ap, arith, length-append}
use Rattle.std.specs.Fmt.{digits}
use Rattle.std.specs.Str.{is_utf8, chars}
use Rattle.lf_meaning.specs.Terms.{AtFamily, FamilyCon, Ty}
use Rattle.lf_meaning.specs.Signatures.{FamilyClass, KindClass}
use Rattle.certificate_meaning.specs.Statements.{KindTerm, FamilyTerm, ContextTerm, KindIn, FamilyIn, SynthesisesKindIn}
use Rattle.certificate_meaning.specs.Steps.{kind_type, family_atomic, constant_kind, declares_undefined}
use Rattle.certificate_meaning.specs.Certificates.{Line, TermLine, StepLine, DeclarationLine, Holds}
use Rattle.certificate_meaning.specs.Texts.{IsWritable, writes_type, writes_no_context, writes_family_constant, writes_kind, writes_family, writes_kind_synthesis, writes_undefined, writes_nothing, writes_more, term_is_written, step_is_written, declaration_is_written, first_line, Begins, bad_first}
use Rattle.certificate_laws.specs.TextExamples as example
use Rattle.certificate_laws.specs.TextExamples.{in_theory}

abbrev type_line : Line
type_line = TermLine (KindTerm Ty)

abbrev empty_line : Line
empty_line = TermLine (ContextTerm [])

abbrev family_line : Line
family_line = TermLine (FamilyTerm (AtFamily (FamilyCon (in_theory (codes "a")))))

abbrev first_declared : Line
first_declared = DeclarationLine (record { name = in_theory (codes "a"); class = KindClass Ty; value = None })

abbrev second_declared : Line
second_declared = DeclarationLine (record { name = in_theory (codes "c"); class = FamilyClass (AtFamily (FamilyCon (in_theory (codes "a")))); value = None })

abbrev five_lines : List Line
five_lines = first_declared ∷ StepLine (KindIn [] Ty) ∷ empty_line ∷ type_line ∷ []

abbrev eight_lines : List Line
eight_lines = StepLine (FamilyIn [] (AtFamily (FamilyCon (in_theory (codes "a"))))) ∷ StepLine (SynthesisesKindIn [] (FamilyCon (in_theory (codes "a"))) Ty) ∷ family_line ∷ five_lines

empty_is_new : Holds (type_line ∷ []) empty_line → ⊥
empty_is_new (inl e) = cc
empty_is_new (inr h) = absurd h

family_is_new : Holds five_lines family_line → ⊥
family_is_new (inl e) = cc
family_is_new (inr (inl e)) = cc
family_is_new (inr (inr (inl e))) = cc
family_is_new (inr (inr (inr (inl e)))) = cc
family_is_new (inr (inr (inr (inr h)))) = absurd h

a_is_writable : IsWritable (in_theory (codes "a"))
unfolding is_utf8 chars lib.Utf8.encode
a_is_writable = record { identifiers = refl; in_utf8 = refl; has_path = λ e. cc }

c_is_writable : IsWritable (in_theory (codes "c"))
unfolding is_utf8 chars lib.Utf8.encode
c_is_writable = record { identifiers = refl; in_utf8 = refl; has_path = λ e. cc }

pub nine_lines : example.NineLines
unfolding digits
nine_lines =
    let none_behind = writes_more writes_nothing (term_is_written (λ h. absurd h) writes_type) in
    let three = writes_more none_behind (term_is_written empty_is_new writes_no_context) in
    let four = writes_more three (step_is_written {s = KindIn [] Ty} [] [] (writes_kind 3 2 (inl (refl, refl)) (inr (inl (refl, refl)))) tt kind_type) in
    let five = writes_more four (declaration_is_written (KindIn [] Ty ∷ []) (4 ∷ []) (writes_undefined {class = KindClass Ty} 2 a_is_writable (inr (inr (inl (refl, refl))))) refl (inl (refl, refl), tt) declares_undefined) in
    let six = writes_more five (term_is_written family_is_new (writes_family_constant a_is_writable)) in
    let seven = writes_more six (step_is_written {s = SynthesisesKindIn [] (FamilyCon (in_theory (codes "a"))) Ty} [] [] (writes_kind_synthesis 3 6 2 (inr (inr (inr (inl (refl, refl))))) (inl (refl, refl)) (inr (inr (inr (inr (inl (refl, refl))))))) tt (constant_kind refl)) in
    let eight = writes_more seven (step_is_written (SynthesisesKindIn [] (FamilyCon (in_theory (codes "a"))) Ty ∷ []) (7 ∷ []) (writes_family 3 6 (inr (inr (inr (inr (inl (refl, refl)))))) (inr (inl (refl, refl)))) (inl (refl, refl), tt) family_atomic) in
    let nine = writes_more eight (declaration_is_written (FamilyIn [] (AtFamily (FamilyCon (in_theory (codes "a")))) ∷ []) (8 ∷ []) (writes_undefined {class = FamilyClass (AtFamily (FamilyCon (in_theory (codes "a"))))} 6 c_is_writable (inr (inr (inl (refl, refl))))) refl (inl (refl, refl), tt) declares_undefined) in
    record { lines = second_declared ∷ eight_lines; writes = nine; signature = refl }

pub first_line_alone : example.FirstLineAlone
first_line_alone = record { lines = []; writes = writes_nothing; signature = refl }

-- a text that is shorter than the first line does not begin with it
too_short : (text : List ℕ) → length text < 9 → Begins text → ⊥
too_short text h b = omega (arith, h, ap length b.text_is, length-append first_line b.behind)

pub empty_text : example.EmptyText
empty_text = bad_first (too_short [] (omega arith))

pub text_without_line_feed : example.TextWithoutLineFeed
text_without_line_feed = bad_first (too_short (codes "mmt-cert") (omega arith))
