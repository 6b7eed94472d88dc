-- The next constant of a domain, while images are made one after another.
use Rattle.std.proofs.Common.{◌≡◌, ◌≢◌, Bool, true, false, cond, [], ◌∷◌, ◌++◌, Option, Some, None, inl, inr, refl, sym, ap, ◌∙◌, subst, append_assoc, append-nil}
use Rattle.lf_meaning.specs.Terms.{Constant}
use Rattle.lf_meaning.specs.Signatures.{Class, Value, Declaration, Signature, same_constant}
use Rattle.lf_meaning.specs.HeadMaps.{Mapping, HeadMap, image_of}
use Rattle.lf_term_laws.proofs.Equality.{same_constant_sound}
use Rattle.list_laws.proofs.Answers.{came_by, ok_same}
use Rattle.list_laws.proofs.Lists.{first_same, rest_same, map_last}
use Rattle.list_laws.proofs.Members.{Member}
use Rattle.library_meaning.specs.Holding.{OptionalValueHolds}
use Rattle.library_meaning.specs.Faces.{flat_of}
use Rattle.library_meaning.specs.Coherence.{declared_names, mapped_names, DeclarationsHold}
use Rattle.constant_laws.specs.ExpansionHolds.{NamesOnce}
use Rattle.link_meaning.specs.Coverings.{covering_value}
use Rattle.link_meaning.specs.CoveringMaps.{cover_all}
use Rattle.link_meaning.specs.Passes.{mapping_to}
use Rattle.link_laws.proofs.Linked.{declarations_hold}
use Rattle.link_laws.proofs.Listing.{names_last}
use Rattle.link_laws.proofs.Onces.{names_once, once_names, once_left, once_apart, declarations_from, after_declarations, HoldAfter}
use Rattle.link_laws.proofs.WordsHold.{flat_once}
use Rattle.mapping_laws.specs.NextImages.{unmapped_definition, StandsBefore, NextIsMapped, NextStandsBefore, DomainsStandBefore, CoveringsHaveNames}
use Rattle.mapping_laws.specs.MappedWhole.{HasImages}
use Rattle.mapping_laws.proofs.Mapped.{names_have_images, class_mapped, value_mapped}

-- A constant under whose name nothing is declared has no image.
absent_image : (along : HeadMap) (before : Signature) → mapped_names along ≡ declared_names before → (c : Constant) → ((d : Declaration) → Member d before → d.name ≢ c) → image_of along c ≡ None
unfolding image_of
absent_image [] before e c f = refl
absent_image (m ∷ ms) [] e c f = absurd (cc)
absent_image (m ∷ ms) (d ∷ ds) e c f = by (same_constant m.name c) refl (absent_image ms ds (rest_same e) c (λ x n. f x (inr n)))
  where
    by : (b : Bool) → same_constant m.name c ≡ b → image_of ms c ≡ None → cond b (Some m.image) (image_of ms c) ≡ None
    by true g h = absurd (f d (inl refl) (sym (first_same e) ∙ same_constant_sound m.name c g))
    by false g h = h

definition_mapped : (from : Signature) (along : HeadMap) → HasImages from along → (class : Class) (value : Option Value) → OptionalValueHolds from class value → unmapped_definition along value ≡ None
definition_mapped from along has class None h = refl
definition_mapped from along has class (Some value) h = value_mapped from along has class value h

pub next_is_mapped : NextIsMapped
next_is_mapped along d ds s =
    let has = names_have_images s.before along s.names in
    let hold : HoldAfter s.before (d ∷ ds) = declarations_from s.before (d ∷ ds) s.holds in
    let apart = once_apart s.before (d ∷ ds) (names_once (s.before ++ d ∷ ds) s.once) in
    record {
      class = class_mapped s.before along has d.class hold.0;
      definition = definition_mapped s.before along has d.class d.value hold.1;
      fresh = absent_image along s.before s.names d.name (λ x m. apart x d m (inl refl));
    }

pub next_stands_before : NextStandsBefore
next_stands_before along d ds m s e =
    let whole : (s.before ++ d ∷ []) ++ ds ≡ s.before ++ d ∷ ds = append_assoc s.before (d ∷ []) ds in
    record {
      before = s.before ++ d ∷ [];
      names = names_last along m s.before d s.names e;
      holds = subst DeclarationsHold (sym whole) s.holds;
      once = subst NamesOnce (sym whole) s.once;
    }

pub domains_stand_before : DomainsStandBefore
domains_stand_before environment theory coherent known =
    record {
      before = [];
      names = refl;
      holds = declarations_hold environment coherent theory known;
      once = once_names (flat_of environment theory) (flat_once environment coherent theory);
    }

declared_both : (xs ys : Signature) → declared_names (xs ++ ys) ≡ declared_names xs ++ declared_names ys
declared_both [] ys = refl
declared_both (x ∷ xs) ys = ap (λ z. x.name ∷ z) (declared_both xs ys)

-- Behind a part whose names the map has taken up it stands before the rest.
pub stands_behind : (along more : HeadMap) (xs ys : Signature) → StandsBefore along (xs ++ ys) → mapped_names more ≡ mapped_names along ++ declared_names xs → StandsBefore more ys
stands_behind along more xs ys s e =
    let whole : (s.before ++ xs) ++ ys ≡ s.before ++ (xs ++ ys) = append_assoc s.before xs ys in
    record {
      before = s.before ++ xs;
      names = e ∙ ap (λ z. z ++ declared_names xs) s.names ∙ sym (declared_both s.before xs);
      holds = subst DeclarationsHold (sym whole) s.holds;
      once = subst NamesOnce (sym whole) s.once;
    }

hold_front : (before xs ys : Signature) → HoldAfter before (xs ++ ys) → HoldAfter before xs
hold_front before [] ys h = tt
hold_front before (x ∷ xs) ys h = (h.0, h.1, hold_front (before ++ x ∷ []) xs ys h.2)

-- It stands before each beginning of what it stands before.
pub stands_in_front : (along : HeadMap) (xs ys : Signature) → StandsBefore along (xs ++ ys) → StandsBefore along xs
stands_in_front along xs ys s =
    let whole : (s.before ++ xs) ++ ys ≡ s.before ++ (xs ++ ys) = append_assoc s.before xs ys in
    record {
      before = s.before;
      names = s.names;
      holds = after_declarations (s.before ++ xs) (hold_front [] (s.before ++ xs) ys (declarations_from [] ((s.before ++ xs) ++ ys) (subst DeclarationsHold (sym whole) s.holds)));
      once = once_names (s.before ++ xs) (once_left (s.before ++ xs) ys (names_once ((s.before ++ xs) ++ ys) (subst NamesOnce (sym whole) s.once)));
    }

pub coverings_have_names : CoveringsHaveNames
unfolding cover_all
coverings_have_names setting assigned so_far along [] h = ap mapped_names (sym (ok_same h)) ∙ sym (append-nil (mapped_names so_far))
coverings_have_names setting assigned so_far along (d ∷ ds) h =
    let c = came_by (covering_value setting assigned d) _ along h in
    let m : Mapping = mapping_to so_far d c.item in
    coverings_have_names setting assigned (so_far ++ m ∷ []) along ds c.goes
    ∙ ap (λ z. z ++ declared_names ds) (map_last (λ (z : Mapping). z.name) so_far m)
    ∙ append_assoc (mapped_names so_far) (d.name ∷ []) (declared_names ds)
