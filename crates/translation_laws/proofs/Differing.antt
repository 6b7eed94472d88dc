-- Where two maps differ.
use Rattle.std.proofs.Common.{◌≡◌, ℕ, zero, suc, ◌+◌, ◌<◌, Bool, true, false, cond, [], ◌∷◌, slice_get, Option, Some, None, refl, sym, ap, ◌∙◌, subst, arith}
use Rattle.lf_meaning.specs.Signatures.{Value, Declaration, Signature}
use Rattle.lf_term_laws.proofs.Equality.{same_value_sound, same_value_itself}
use Rattle.lf_meaning.specs.HeadMaps.{HeadMap}
use Rattle.translation_meaning.specs.Differ.{value_in, agree, agree_on, differ_from, differ}
use Rattle.translation_laws.specs.TranslationLaws.{IsFirstDifference, IsDifference, DifferenceIsFirst, AgreeIsOneValue}
use Rattle.std.proofs.lemmas.Option.{same_Some}

module _ (first second : HeadMap) where
  -- the answer, with places counted from one on
  abbrev From : ℕ → Signature → Option ℕ → Type 0
  From start names None = IsDifference first second names None
  From start names (Some place) = (p : ℕ) × (place ≡ start + p) × IsFirstDifference first second names p

  one_more : (start : ℕ) (d : Declaration) (names : Signature) (o : Option ℕ) → agree_on first second d ≡ true → From (suc start) names o → From start (d ∷ names) o
  one_more start d names None e h = all
    where
      all : (i : ℕ) (x : Declaration) → slice_get (d ∷ names) i ≡ Some x → agree_on first second x ≡ true
      all zero x q = ap (agree_on first second) (same_Some _ _ (sym q)) ∙ e
      all (suc i) x q = h i x q
  one_more start d names (Some place) e h =
      let q = h.1 in
      (suc h.0, omega (arith, q), record { declaration = (h.2).declaration; found = (h.2).found; differs = (h.2).differs; before = earlier })
    where
      earlier : (i : ℕ) (x : Declaration) → i < suc h.0 → slice_get (d ∷ names) i ≡ Some x → agree_on first second x ≡ true
      earlier zero x l q = ap (agree_on first second) (same_Some _ _ (sym q)) ∙ e
      earlier (suc i) x l q = (h.2).before i x (omega (arith, l)) q

  step : (b : Bool) (start : ℕ) (d : Declaration) (names : Signature) (o : Option ℕ) → agree_on first second d ≡ b → From (suc start) names o → From start (d ∷ names) (cond b o (Some start))
  step true start d names o e h = one_more start d names o e h
  step false start d names o e h = (zero, omega arith, record { declaration = d; found = refl; differs = e; before = λ i x l q. absurd (omega (arith, l)) })

  from : (names : Signature) (start : ℕ) → From start names (differ_from start first second names)
  unfolding differ_from
  from [] start = λ i x q. absurd (cc)
  from (d ∷ names) start = step (agree_on first second d) start d names (differ_from (suc start) first second names) refl (from names (suc start))

  at_start : (names : Signature) (o : Option ℕ) → From zero names o → IsDifference first second names o
  at_start names None h = h
  at_start names (Some place) h = subst (IsFirstDifference first second names) (let q = h.1 in omega (arith, q)) h.2

pub difference_is_first : DifferenceIsFirst
difference_is_first first second names = at_start first second names (differ first second names) (from first second names zero)

agree_sound : (o p : Option Value) → agree o p ≡ true → (value : Value) × (o ≡ Some value) × (p ≡ Some value)
agree_sound None p h = absurd (cc)
agree_sound (Some v) None h = absurd (cc)
agree_sound (Some v) (Some w) h = (w, ap Some (same_value_sound v w h), refl)

pub agree_is_one_value : AgreeIsOneValue
agree_is_one_value first second d = (
  agree_sound (value_in first d.name) (value_in second d.name),
  λ h. ap (λ o. agree o (value_in second d.name)) h.1 ∙ ap (agree (Some h.0)) h.2 ∙ same_value_itself h.0,
)
