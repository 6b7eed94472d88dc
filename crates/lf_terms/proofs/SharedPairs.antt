-- Maps whose first pairs stand in parts, as pairs and parts come at the end.
use Rattle.std.proofs.Common.{◌≡◌, ℕ, ◌+◌, Bool, true, false, cond, ◌&&◌, ◌||◌, List, [], ◌∷◌, ◌++◌, length, Option, Some, None, refl, sym, ap, subst, ◌∙◌, append_assoc, append-nil, arith}
use Rattle.std.specs.List.{list_any, AllByRecursion, IsDistinct}
use Rattle.std.specs.Map.{lookup}
use Rattle.std.specs.Option.{option_and_then, option_or}
use Rattle.std.proofs.lemmas.List.{length-append}
use Rattle.std.proofs.lemmas.List.Concat.{flat_map-append}
use Rattle.std.proofs.lemmas.Map.Keys.{IsDistinct-push}
use Rattle.name_meaning.specs.Names.{Name, same_name}
use Rattle.lf_meaning.specs.Signatures.{same_constant}
use Rattle.term_trees.proofs.Below.Equality.{pointwise_sound}
use Rattle.base_types.specs.declared.qname.QName.{QName}
use Rattle.term_trees.specs.declared.flat_decl.Image.{Image}
use Rattle.term_trees.specs.Readings.{read_constant}
use Rattle.std.specs.Prelude.{nat_eq}
use Rattle.std.proofs.lemmas.Bool.{eqb-true}
use Rattle.lf_terms.specs.Tables.{heads_of, image_of, same_path, HasDistinctHeads}
use Rattle.lf_terms.specs.Parts.{image_in_part, pairs_of, AreOfTheory, HasParts, Parts}
use Rattle.lf_terms.proofs.SameName.{same_qname, same_constant_equiv}

abbrev Pair : Type 0
Pair = QName × Image

-- ---- look-up in joined lists

pub found_joined : {K X : Type 0} (test : K → Bool) (es fs : List (K × X)) → lookup test (es ++ fs) ≡ option_or (lookup test es) (lookup test fs)
found_joined test [] fs = refl
found_joined test (e ∷ es) fs = by (test e.0) (found_joined test es fs)
  where
    by : (b : Bool) → lookup test (es ++ fs) ≡ option_or (lookup test es) (lookup test fs)
        → cond b (Some e.1) (lookup test (es ++ fs)) ≡ option_or (cond b (Some e.1) (lookup test es)) (lookup test fs)
    by true h = refl
    by false h = h

or_none : {A : Type 0} (o : Option A) → option_or o None ≡ o
or_none None = refl
or_none (Some x) = refl

or_again : {A : Type 0} (a b c : Option A) → option_or (option_or a b) c ≡ option_or a (option_or b c)
or_again None b c = refl
or_again (Some x) b c = refl

pub behind_none : {A : Type 0} (a b : Option A) → option_or a b ≡ None → b ≡ None
behind_none None b h = h
behind_none (Some x) b h = absurd (cc)

-- ---- distinct constants

heads_joined : (es fs : List Pair) → heads_of (es ++ fs) ≡ heads_of es ++ heads_of fs
heads_joined [] fs = refl
heads_joined (e ∷ es) fs = ap (λ heads. read_constant e.0 ∷ heads) (heads_joined es fs)

-- a constant without an image is none of those that have one
absent_head : (es : List Pair) (name : QName) → image_of es name ≡ None → list_any (same_constant (read_constant name)) (heads_of es) ≡ false
absent_head [] name h = refl
absent_head (e ∷ es) name h = by (same_constant (read_constant name) (read_constant e.0)) h (absent_head es name)
  where
    by : (b : Bool) → cond b (Some e.1) (image_of es name) ≡ None → (image_of es name ≡ None → list_any (same_constant (read_constant name)) (heads_of es) ≡ false)
        → (b || list_any (same_constant (read_constant name)) (heads_of es)) ≡ false
    by true g f = absurd (cc)
    by false g f = f g

distinct_pushed : (es : List Pair) (e : Pair) → HasDistinctHeads es → image_of es e.0 ≡ None → HasDistinctHeads (es ++ e ∷ [])
distinct_pushed es e h absent =
    subst (IsDistinct same_constant) (sym (heads_joined es (e ∷ []))) (IsDistinct-push same_constant_equiv (heads_of es) (read_constant e.0) h (absent_head es e.0 absent))

-- none of these has an image already
abbrev Apart : List Pair → List Pair → Type 0
Apart es [] = Unit {0}
Apart es (f ∷ fs) = (image_of es f.0 ≡ None) × Apart es fs

apart_pushed : (es : List Pair) (e : Pair) (fs : List Pair) → AllByRecursion (λ head. same_constant (read_constant e.0) head ≡ false) (heads_of fs) → Apart es fs → Apart (es ++ e ∷ []) fs
apart_pushed es e [] other apart = tt
apart_pushed es e (f ∷ fs) other apart =
    let turned : same_qname f.0 e.0 ≡ false = same_constant_equiv.symm (read_constant f.0) (read_constant e.0) ∙ other.0 in
    (found_joined (same_qname f.0) es (e ∷ []) ∙ ap (λ o. option_or o (cond (same_qname f.0 e.0) (Some e.1) None)) apart.0 ∙ ap (λ b. cond b (Some e.1) None) turned, apart_pushed es e fs other.1 apart.1)

distinct_joined : (es fs : List Pair) → HasDistinctHeads es → HasDistinctHeads fs → Apart es fs → HasDistinctHeads (es ++ fs)
unfolding IsDistinct
distinct_joined es [] h g apart = subst HasDistinctHeads (sym (append-nil es)) h
distinct_joined es (f ∷ fs) h g apart =
    subst HasDistinctHeads (append_assoc es (f ∷ []) fs) (distinct_joined (es ++ f ∷ []) fs (distinct_pushed es f h apart.0) g.1 (apart_pushed es f fs g.0 apart.1))

-- ---- one pair more

module _ (parts : Parts) (own : List Pair) (count : ℕ) (h : HasParts parts own count) (e : Pair) (absent : image_of (pairs_of parts ++ own) e.0 ≡ None) where
  pub own_pushed : HasParts parts (own ++ e ∷ []) (count + 1)
  own_pushed =
      record {
        found = λ name.
            ap (λ es. image_of es name) (sym (append_assoc (pairs_of parts) own (e ∷ [])))
            ∙ found_joined (same_qname name) (pairs_of parts ++ own) (e ∷ [])
            ∙ ap (λ o. option_or o (image_of (e ∷ []) name)) (h.found name)
            ∙ or_again (image_in_part parts name) (image_of own name) (image_of (e ∷ []) name)
            ∙ ap (option_or (image_in_part parts name)) (sym (found_joined (same_qname name) own (e ∷ [])));
        distinct = subst HasDistinctHeads (append_assoc (pairs_of parts) own (e ∷ [])) (distinct_pushed (pairs_of parts ++ own) e h.distinct absent);
        counted =
            let before = length-append (pairs_of parts) own in
            let after = length-append (pairs_of parts) (own ++ e ∷ []) in
            let more = length-append own (e ∷ []) in
            let counted = h.counted in
            omega (arith, before, after, more, counted);
      }

-- ---- one part more

-- a constant of another theory has no image there
pub other_theory : (theory : Name) (es : List Pair) (name : QName) → AreOfTheory theory es → same_name name.theory theory ≡ false → image_of es name ≡ None
other_theory theory [] name h other = refl
other_theory theory (e ∷ es) name h other =
    ap (λ t. cond (same_name name.theory t && same_path name.path e.0.path) (Some e.1) (image_of es name)) h.0
    ∙ ap (λ b. cond (b && same_path name.path e.0.path) (Some e.1) (image_of es name)) other
    ∙ other_theory theory es name h.1 other

module _ (parts : Parts) (own : List Pair) (count : ℕ) (h : HasParts parts own count) (none : own ≡ []) (theory : Name) (es : List Pair) (named : AreOfTheory theory es) (new : lookup (same_name theory) parts ≡ None) (distinct : HasDistinctHeads es) where
  abbrev pub all_parts : Parts
  all_parts = parts ++ (theory, es) ∷ []

  -- the images so far
  in_parts : (name : QName) → image_of (pairs_of parts) name ≡ image_in_part parts name
  in_parts name =
      ap (λ z. image_of z name) (sym (ap (λ z. pairs_of parts ++ z) none ∙ append-nil (pairs_of parts))) ∙ h.found name
      ∙ ap (λ z. option_or (image_in_part parts name) (image_of z name)) none ∙ or_none (image_in_part parts name)

  apart : (fs : List Pair) → AreOfTheory theory fs → Apart (pairs_of parts) fs
  apart [] n = tt
  apart (f ∷ fs) n =
      (in_parts f.0 ∙ ap (λ t. option_and_then (λ (images : List Pair). image_of images f.0) (lookup (same_name t) parts)) n.0 ∙ ap (option_and_then (λ (images : List Pair). image_of images f.0)) new, apart fs n.1)

  pairs_more : pairs_of all_parts ++ own ≡ pairs_of parts ++ es
  pairs_more =
      ap (λ z. pairs_of all_parts ++ z) none ∙ append-nil (pairs_of all_parts)
      ∙ flat_map-append (λ (part : Name × List Pair). part.1) parts ((theory, es) ∷ []) ∙ ap (λ z. pairs_of parts ++ z) (append-nil es)

  found_more : (name : QName) → image_of (pairs_of parts ++ es) name ≡ image_in_part all_parts name
  found_more name =
      found_joined (same_qname name) (pairs_of parts) es ∙ ap (λ o. option_or o (image_of es name)) (in_parts name)
      ∙ by (same_name name.theory theory) refl
      ∙ ap (option_and_then look) (sym (found_joined (same_name name.theory) parts ((theory, es) ∷ [])))
    where
      look : List Pair → Option Image
      look images = image_of images name

      theirs : Option (List Pair)
      theirs = lookup (same_name name.theory) parts

      behind : (o : Option (List Pair)) → o ≡ None → option_or (option_and_then look o) (look es) ≡ option_and_then look (option_or o (Some es))
      behind None g = refl
      behind (Some x) g = absurd (cc)

      by : (b : Bool) → same_name name.theory theory ≡ b → option_or (option_and_then look theirs) (look es) ≡ option_and_then look (option_or theirs (cond b (Some es) None))
      by true e = behind theirs (ap (λ t. lookup (same_name t) parts) (pointwise_sound nat_eq eqb-true name.theory theory e) ∙ new)
      by false e = ap (option_or (option_and_then look theirs)) (other_theory theory es name named e) ∙ or_none (option_and_then look theirs) ∙ ap (option_and_then look) (sym (or_none theirs))

  pub part_pushed : HasParts all_parts own (count + length es)
  part_pushed =
      record {
        found = λ name.
            ap (λ z. image_of z name) pairs_more ∙ found_more name
            ∙ sym (ap (λ z. option_or (image_in_part all_parts name) (image_of z name)) none ∙ or_none (image_in_part all_parts name));
        distinct = subst HasDistinctHeads (sym pairs_more) (distinct_joined (pairs_of parts) es (subst HasDistinctHeads (ap (λ z. pairs_of parts ++ z) none ∙ append-nil (pairs_of parts)) h.distinct) distinct (apart es named));
        counted =
            let before = ap (λ z. length (pairs_of parts ++ z)) none ∙ ap length (append-nil (pairs_of parts)) in
            let after = ap length pairs_more ∙ length-append (pairs_of parts) es in
            let counted = h.counted in
            omega (arith, before, after, counted);
      }

  -- what such a map is seen as
  pub seen_more : pairs_of all_parts ++ own ≡ (pairs_of parts ++ own) ++ es
  seen_more = pairs_more ∙ ap (λ z. z ++ es) (sym (ap (λ z. pairs_of parts ++ z) none ∙ append-nil (pairs_of parts)))

-- ---- no pairs

pub nothing_shared : HasParts [] [] 0
unfolding IsDistinct
nothing_shared = record { found = λ name. refl; distinct = tt; counted = refl }

-- ---- a part

pub of_theory_pushed : (theory : Name) (es : List Pair) (e : Pair) → AreOfTheory theory es → e.0.theory ≡ theory → AreOfTheory theory (es ++ e ∷ [])
of_theory_pushed theory [] e h named = (named, tt)
of_theory_pushed theory (f ∷ es) e h named = (h.0, of_theory_pushed theory es e h.1 named)
