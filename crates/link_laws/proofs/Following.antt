-- The walk over the constants of a domain: what it answers is a map that each constant's image follows from.
use Rattle.std.proofs.Common.{◌≡◌, ℕ, zero, suc, List, [], ◌∷◌, ◌++◌, take, length, slice_get, Some, Ok, refl, sym, ap, ap₂, ◌∙◌, subst, append_assoc, append-nil, arith}
use Rattle.lf_meaning.specs.Terms.{Constant}
use Rattle.lf_meaning.specs.Signatures.{Class, Value, Declaration, Signature}
use Rattle.list_laws.proofs.Places.{take_front, take_length}
use Rattle.lf_meaning.specs.HeadMaps.{Mapping, HeadMap}
use Rattle.translation_meaning.specs.Translation.{translate_class}
use Rattle.library_meaning.specs.Coherence.{declared_names, mapped_names, DeclarationsHold}
use Rattle.link_meaning.specs.Assignments.{Setting, Assigned}
use Rattle.link_meaning.specs.Passes.{is_own, image_by, image_value, mapping_to, map_all}
use Rattle.link_laws.proofs.Agreeing.{classes_alike, definitions_alike}
use Rattle.link_laws.proofs.Listing.{images_stay, names_last, first_name_same, rest_names_same}
use Rattle.std.proofs.lemmas.Option.{same_Some}
use Rattle.list_laws.proofs.Answers.{came_by, goes_by, ok_same}
use Rattle.lf_term_laws.proofs.Declarations.{AgreeOn}

module _ (setting : Setting) (assigned : List Assigned) where
  -- the images `rest` follow, one after another, from the map so far
  pub record Next (more_follow : HeadMap → HeadMap → Type 0) (so_far : HeadMap) (d : Declaration) (rest : HeadMap) : Type 0 where
    pub value : Value
    pub more : HeadMap
    pub parts : rest ≡ mapping_to so_far d value ∷ more
    pub is : image_value setting assigned so_far d ≡ Ok value
    pub follow : more_follow (so_far ++ mapping_to so_far d value ∷ []) more

  abbrev pub Follows : Signature → HeadMap → HeadMap → Type 0
  Follows [] so_far rest = rest ≡ []
  Follows (d ∷ ds) so_far rest = Next (Follows ds) so_far d rest

  pub walk_follows : (ds : Signature) (so_far along : HeadMap) → map_all setting assigned so_far ds ≡ Ok along → (rest : HeadMap) × (along ≡ so_far ++ rest) × Follows ds so_far rest
  unfolding map_all
  walk_follows [] so_far along h = ([], sym (ok_same h) ∙ sym (append-nil so_far), refl)
  walk_follows (d ∷ ds) so_far along h =
      let c = came_by (image_value setting assigned so_far d) _ along h in
      let w = walk_follows ds (so_far ++ mapping_to so_far d c.item ∷ []) along c.goes in (
        mapping_to so_far d c.item ∷ w.0,
        w.1 ∙ append_assoc so_far (mapping_to so_far d c.item ∷ []) w.0,
        record { value = c.item; more = w.0; parts = refl; is = c.came; follow = w.2 },
      )

  pub follows_walk : (ds : Signature) (so_far rest : HeadMap) → Follows ds so_far rest → map_all setting assigned so_far ds ≡ Ok (so_far ++ rest)
  unfolding map_all
  follows_walk [] so_far rest f = ap Ok (sym (ap (λ z. so_far ++ z) f ∙ append-nil so_far))
  follows_walk (d ∷ ds) so_far rest f =
      goes_by (image_value setting assigned so_far d) _ f.value (so_far ++ rest) f.is
      (follows_walk ds (so_far ++ mapping_to so_far d f.value ∷ []) f.more f.follow ∙ ap Ok (append_assoc so_far (mapping_to so_far d f.value ∷ []) f.more ∙ ap (λ z. so_far ++ z) (sym f.parts)))

  -- by place, over the whole map
  pub record Meets (along : HeadMap) (ds : Signature) (rest : HeadMap) : Type 0 where
    pub names : mapped_names rest ≡ declared_names ds
    pub classes : (i : ℕ) (m : Mapping) (d : Declaration) → slice_get rest i ≡ Some m → slice_get ds i ≡ Some d → m.image.class ≡ translate_class along d.class
    pub values : (i : ℕ) (m : Mapping) (d : Declaration) → slice_get rest i ≡ Some m → slice_get ds i ≡ Some d → image_value setting assigned along d ≡ Ok m.image.value

  -- a constant sees only the images of those before it
  record Local (so_far along : HeadMap) (d : Declaration) : Type 0 where
    pub class : translate_class so_far d.class ≡ translate_class along d.class
    pub value : image_value setting assigned so_far d ≡ image_value setting assigned along d

  local_by : (done ds : Signature) (d : Declaration) (so_far rest : HeadMap) → DeclarationsHold (done ++ d ∷ ds) → mapped_names so_far ≡ declared_names done → Local so_far (so_far ++ rest) d
  local_by done ds d so_far rest hold e =
      let there : slice_get (done ++ d ∷ ds) (length done) ≡ Some d = at done in
      let front : take (length done) (done ++ d ∷ ds) ≡ done = take_front done (d ∷ ds) (length done) (omega arith) ∙ take_length done in
      let h = hold (length done) d there in
      let c = classes_alike (take (length done) (done ++ d ∷ ds)) so_far (so_far ++ rest) (same front) d.class h.0 in
      let v = definitions_alike (take (length done) (done ++ d ∷ ds)) so_far (so_far ++ rest) (same front) d.class d.value h.1 in
      record { class = c; value = ap₂ (λ k o. image_by setting assigned (is_own setting d) k o d) c v }
    where
      at : (xs : Signature) → slice_get (xs ++ d ∷ ds) (length xs) ≡ Some d
      at [] = refl
      at (y ∷ xs) = at xs

      same : take (length done) (done ++ d ∷ ds) ≡ done → AgreeOn (take (length done) (done ++ d ∷ ds)) so_far (so_far ++ rest)
      same front = subst (λ z. AgreeOn z so_far (so_far ++ rest)) (sym front) (images_stay done so_far rest e)

  pub follows_meets : (ds done : Signature) (so_far rest : HeadMap) → DeclarationsHold (done ++ ds) → mapped_names so_far ≡ declared_names done → Follows ds so_far rest → Meets (so_far ++ rest) ds rest
  follows_meets [] done so_far rest hold e f =
      record { names = ap mapped_names f; classes = λ i m d h g. absurd (cc); values = λ i m d h g. absurd (cc) }
  follows_meets (d ∷ ds) done so_far rest hold e f =
      let m : Mapping = mapping_to so_far d f.value in
      let whole : (so_far ++ m ∷ []) ++ f.more ≡ so_far ++ rest = append_assoc so_far (m ∷ []) f.more ∙ ap (λ z. so_far ++ z) (sym f.parts) in
      let l = local_by done ds d so_far rest hold e in
      let i = subst (λ z. Meets z ds f.more) whole
      (follows_meets ds (done ++ d ∷ []) (so_far ++ m ∷ []) f.more (subst DeclarationsHold (sym (append_assoc done (d ∷ []) ds)) hold) (names_last so_far m done d e refl) f.follow) in
      record {
        names = ap mapped_names f.parts ∙ ap (λ z. d.name ∷ z) i.names;
        classes = λ j x c h g. classes_at f.value f.more l i j x c (sym (ap (λ z. slice_get z j) f.parts) ∙ h) g;
        values = λ j x c h g. values_at f.value f.more f.is l i j x c (sym (ap (λ z. slice_get z j) f.parts) ∙ h) g;
      }
    where
      classes_at : (value : Value) (more : HeadMap) → Local so_far (so_far ++ rest) d → Meets (so_far ++ rest) ds more → (j : ℕ) (x : Mapping) (c : Declaration)
          → slice_get (mapping_to so_far d value ∷ more) j ≡ Some x → slice_get (d ∷ ds) j ≡ Some c → x.image.class ≡ translate_class (so_far ++ rest) c.class
      classes_at value more l i zero x c h g = ap (λ z. z.image.class) (sym (same_Some _ _ h)) ∙ l.class ∙ ap (λ z. translate_class (so_far ++ rest) z.class) (same_Some _ _ g)
      classes_at value more l i (suc j) x c h g = i.classes j x c h g

      values_at : (value : Value) (more : HeadMap) → image_value setting assigned so_far d ≡ Ok value → Local so_far (so_far ++ rest) d → Meets (so_far ++ rest) ds more → (j : ℕ) (x : Mapping) (c : Declaration)
          → slice_get (mapping_to so_far d value ∷ more) j ≡ Some x → slice_get (d ∷ ds) j ≡ Some c → image_value setting assigned (so_far ++ rest) c ≡ Ok x.image.value
      values_at value more is l i zero x c h g =
          ap (image_value setting assigned (so_far ++ rest)) (sym (same_Some _ _ g)) ∙ sym l.value ∙ is ∙ ap (λ z. Ok z.image.value) (same_Some _ _ h)
      values_at value more is l i (suc j) x c h g = i.values j x c h g

  pub meets_follows : (ds done : Signature) (so_far rest : HeadMap) → DeclarationsHold (done ++ ds) → mapped_names so_far ≡ declared_names done → Meets (so_far ++ rest) ds rest → Follows ds so_far rest
  meets_follows [] done so_far [] hold e m = refl
  meets_follows [] done so_far (x ∷ rest) hold e m = let n = m.names in absurd (cc)
  meets_follows (d ∷ ds) done so_far [] hold e m = let n = m.names in absurd (cc)
  meets_follows (d ∷ ds) done so_far (x ∷ rest) hold e m =
      let n : x.name ≡ d.name = first_name_same x rest d ds m.names in
      let l = local_by done ds d so_far (x ∷ rest) hold e in
      let c : x.image.class ≡ translate_class so_far d.class = m.classes 0 x d refl refl ∙ sym l.class in
      let is_mapping : x ≡ mapping_to so_far d x.image.value = ap₂ (λ y k. made y k x.image.value) n c in
      record {
        value = x.image.value;
        more = rest;
        parts = ap (λ z. z ∷ rest) is_mapping;
        is = l.value ∙ m.values 0 x d refl refl;
        follow = subst (λ z. Follows ds (so_far ++ z ∷ []) rest) is_mapping
            (meets_follows ds (done ++ d ∷ []) (so_far ++ x ∷ []) rest (subst DeclarationsHold (sym (append_assoc done (d ∷ []) ds)) hold) (names_last so_far x done d e n)
            (subst (λ z. Meets z ds rest) (sym (append_assoc so_far (x ∷ []) rest))
            (record { names = rest_names_same x rest d ds m.names; classes = λ i y b h g. m.classes (suc i) y b h g; values = λ i y b h g. m.values (suc i) y b h g })));
      }
    where
      made : Constant → Class → Value → Mapping
      made name class value = record { name = name; image = record { class = class; value = value } }
