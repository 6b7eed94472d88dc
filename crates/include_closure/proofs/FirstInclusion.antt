-- The first inclusion: where each name comes once, adding them to no name is copying them.
use Rattle.std.proofs.Common.{◌≡◌, ℕ, Bool, true, false, cond, List, [], ◌∷◌, ◌++◌, append-nil, append_assoc, length, slice_get, fold, Some, refl, sym, ap, ◌∙◌, arith}
use Rattle.std.proofs.lemmas.List.Sums.{fold-append}
use Rattle.list_laws.proofs.Members.{member_place}
use Rattle.list_laws.proofs.Places.{get_behind, get_front, place_within}
use Rattle.name_meaning.specs.Names.{Name, is_among}
use Rattle.name_laws.proofs.Order.{among_member}
use Rattle.library_meaning.specs.Faces.{Known, IsAbsent, IsRefused, IsTheory, IsView, Environment, theory_of, includes_of, theory_face}
use Rattle.library_meaning.specs.Closure.{brought, sees, with_once, with_all, with_inclusion}
use Rattle.library_meaning.specs.Coherence.{IsCoherent}

-- Names that are not there, each of them once, come behind what is there.
all_new : (front names : List Name) → ((before : List Name) (name : Name) (after : List Name) → names ≡ before ++ name ∷ after → sees (front ++ before) name ≡ false)
    → fold with_once front names ≡ front ++ names
all_new front [] new = sym (append-nil front)
all_new front (name ∷ names) new =
    ap (λ f. fold with_once f names) (one (sees front name) (ap (λ f. sees f name) (sym (append-nil front)) ∙ new [] name names refl))
    ∙ all_new (front ++ name ∷ []) names (λ before other after e. ap (λ f. sees f other) (append_assoc front (name ∷ []) before) ∙ new (name ∷ before) other after (ap (λ ns. name ∷ ns) e))
    ∙ append_assoc front (name ∷ []) names
  where
    one : (b : Bool) → b ≡ false → cond b front (front ++ name ∷ []) ≡ front ++ name ∷ []
    one true e = absurd (cc)
    one false e = refl

-- Names each of which stands at one place alone are not among those before them.
not_before : (names before : List Name) (name : Name) (after : List Name) → ((i j : ℕ) (other : Name) → slice_get names i ≡ Some other → slice_get names j ≡ Some other → i ≡ j)
    → names ≡ before ++ name ∷ after → sees before name ≡ false
not_before names before name after once e = by (sees before name) refl
  where
    by : (b : Bool) → sees before name ≡ b → b ≡ false
    by false h = refl
    by true h =
        let place = member_place before name (among_member before name h) in
        let within = place_within before place.0 name place.1 in
        let first : slice_get names place.0 ≡ Some name = ap (λ ns. slice_get ns place.0) e ∙ get_front before (name ∷ after) place.0 within ∙ place.1 in
        let second : slice_get names (length before) ≡ Some name = ap (λ ns. slice_get ns (length before)) e ∙ get_behind before (name ∷ after) 0 (length before) (omega arith) in
        let same = once place.0 (length before) name first second in
        absurd (omega (arith, within, same))

pub closure_alone : (names : List Name) → ((i j : ℕ) (name : Name) → slice_get names i ≡ Some name → slice_get names j ≡ Some name → i ≡ j) → with_all [] names ≡ names
unfolding with_all
closure_alone names once = all_new [] names (λ before name after. not_before names before name after once)

-- What an inclusion brings to no names.
pub first_inclusion : (environment : Environment) (theory : Name) → IsCoherent environment → with_inclusion environment [] theory ≡ brought environment theory
unfolding with_all with_inclusion is_among
first_inclusion environment theory coherent = fold-append with_once [] (includes_of (theory_of environment theory)) (theory ∷ []) ∙ by (environment theory) refl
  where
    by : (known : Known) → environment theory ≡ known
        → with_once (fold with_once [] (includes_of (theory_face known))) theory ≡ includes_of (theory_face known) ++ theory ∷ []
    by IsAbsent e = refl
    by IsRefused e = refl
    by (IsView face) e = refl
    by (IsTheory face) e =
        let holds = coherent.theories theory face e in
        ap (λ names. with_once names theory) (closure_alone face.includes holds.includes_closure.once) ∙ other (sees face.includes theory) refl (λ h. holds.includes_others theory h refl)
      where
        other : (b : Bool) → sees face.includes theory ≡ b → (sees face.includes theory ≡ true → ⊥) → cond b face.includes (face.includes ++ theory ∷ []) ≡ face.includes ++ theory ∷ []
        other true h apart = absurd (apart h)
        other false h apart = refl
