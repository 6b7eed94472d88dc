-- A theory that the identity covers gets the images of the identity, so that links can share them.
use Rattle.std.proofs.Common.{◌≡◌, ℕ, zero, suc, Bool, true, false, cond, ◌&&◌, ◌||◌, List, [], ◌∷◌, ◌++◌, length, take, slice_get, Option, Some, None, is_some, option_map, Ok, inl, inr, ⊎_elim, refl, sym, ap, ap₂, ◌∙◌, subst, append_assoc, append-nil, arith}
use Rattle.std.proofs.lemmas.Bool.{or_cases, and_parts}
use Rattle.std.proofs.lemmas.List.{map-append}
use Rattle.name_meaning.specs.Names.{Name}
use Rattle.lf_meaning.specs.Terms.{Constant}
use Rattle.lf_meaning.specs.Signatures.{Class, Value, SameAs, Declaration, Signature, same_constant, declaration_of, undefined_class}
use Rattle.lf_meaning.specs.HeadMaps.{Image, Mapping, HeadMap, image_of}
use Rattle.lf_term_laws.proofs.Declarations.{declared_some, image_front}
use Rattle.translation_meaning.specs.Differ.{value_in}
use Rattle.list_laws.proofs.Members.{Member, any_found, any_of, in_append, append_left, append_right, in_flat_map, flat_map_in, member_place}
use Rattle.list_laws.proofs.Lists.{first_same, rest_same}
use Rattle.list_laws.proofs.Answers.{came_by, goes_by, ok_same}
use Rattle.name_laws.proofs.Order.{among_member, member_among}
use Rattle.library_meaning.specs.Faces.{theory_of, includes_of, own_part, own_parts}
use Rattle.library_meaning.specs.Closure.{sees}
use Rattle.library_meaning.specs.Coherence.{IsClosure, IsCoherent, declared_names, mapped_names}
use Rattle.library_meaning.specs.Words.{own_value, identity_mapping, identity_map}
use Rattle.elaborate_meaning.specs.Rules.{Rule}
use Rattle.link_meaning.specs.Refusals.{or_refused}
use Rattle.link_meaning.specs.Assignments.{Setting, included_theories, Assigned}
use Rattle.link_meaning.specs.Coverings.{identity_covers, is_identity_covering, covering_by, value_by, covering_value}
use Rattle.link_meaning.specs.CoveringMaps.{cover_all}
use Rattle.link_meaning.specs.LinkMaps.{IsSettled}
use Rattle.link_meaning.specs.Passes.{mapping_to}
use Rattle.link_laws.proofs.Linked.{own_named, declarations_hold}
use Rattle.link_laws.proofs.Onces.{parts_joined, declaration_member, member_declared, own_is_once, once_left, declarations_from, HoldAfter, Once}
use Rattle.link_laws.proofs.WordsHold.{includes_closed, includes_theories}
use Rattle.morphism_words_typing.proofs.Identity.{held_class_same, identity_image, undefined_is, IsIdentityOn}
use Rattle.morphism_words_typing.proofs.SameValues.{back_image}

-- ---- maps with the names of declarations

absent_by : (b : Bool) (x : Declaration) (image : Image) (o : Option Declaration) (p : Option Image) → cond b (Some x) o ≡ None → (o ≡ None → p ≡ None) → cond b (Some image) p ≡ None
absent_by true x image o p h f = absurd (cc)
absent_by false x image o p h f = f h

-- what is not declared has no image
absent_image : (along : HeadMap) (ds : Signature) → mapped_names along ≡ declared_names ds → (c : Constant) → declaration_of ds c ≡ None → image_of along c ≡ None
unfolding image_of
absent_image [] ds e c h = refl
absent_image (m ∷ ms) [] e c h = absurd (cc)
absent_image (m ∷ ms) (d ∷ ds) e c h =
    let same : same_constant d.name c ≡ same_constant m.name c = ap (λ z. same_constant z c) (sym (first_same e)) in
    absent_by (same_constant m.name c) d m.image (declaration_of ds c) (image_of ms c) (ap (λ b. cond b (Some d) (declaration_of ds c)) (sym same) ∙ h) (absent_image ms ds (rest_same e) c)

abbrev itself : Declaration → Image
itself d = record { class = d.class; value = SameAs d.name }

undefined_image : (d : Declaration) → d.value ≡ None → (identity_mapping d).image ≡ itself d
undefined_image d h = ap (λ o. made (own_value d o)) h
  where
    made : Value → Image
    made v = record { class = d.class; value = v }

-- ---- what the identity covers

module _ (setting : Setting) (coherent : IsCoherent setting.environment) (assigned : List Assigned) where
  taken : {A : Type 0} (i : ℕ) (xs : List A) (x : A) → Member x (take i xs) → Member x xs
  taken zero xs x n = absurd n
  taken (suc i) [] x n = absurd n
  taken (suc i) (y ∷ ys) x (inl e) = inl e
  taken (suc i) (y ∷ ys) x (inr n) = inr (taken i ys x n)

  pub sees_through : (top theory other : Name) → sees (includes_of (theory_of setting.environment top)) theory ≡ true → sees (includes_of (theory_of setting.environment theory)) other ≡ true → sees (includes_of (theory_of setting.environment top)) other ≡ true
  sees_through top theory other s t =
      let names : List Name = includes_of (theory_of setting.environment top) in
      let p = member_place (includes_of (theory_of setting.environment top)) theory (among_member (includes_of (theory_of setting.environment top)) theory s) in
      let b = (includes_closed setting.environment coherent top).behind p.0 theory other p.1 t in
      member_among (includes_of (theory_of setting.environment top)) other (taken p.0 (includes_of (theory_of setting.environment top)) other (among_member (take p.0 (includes_of (theory_of setting.environment top))) other b))

  both_true : (a b : Bool) → a ≡ true → b ≡ true → (a && b) ≡ true
  both_true a b e f = ap₂ (λ x y. x && y) e f

  right_true : (a b : Bool) → b ≡ true → (a || b) ≡ true
  right_true true b e = refl
  right_true false b e = e

  -- a theory that an identity covers is covered with all that it includes
  pub spreads : (theory other : Name) → Member theory (included_theories setting) → sees (includes_of (theory_of setting.environment theory)) other ≡ true → is_identity_covering setting assigned theory ≡ true → is_identity_covering setting assigned other ≡ true
  spreads theory other k s i =
      right_true (identity_covers setting assigned other) _
      (⊎_elim
      (λ e. any_of (λ (x : Name). identity_covers setting assigned x && sees (includes_of (theory_of setting.environment x)) other) (included_theories setting) theory k (both_true (identity_covers setting assigned theory) (sees (includes_of (theory_of setting.environment theory)) other) e s))
      (λ e. let q = any_found (λ (x : Name). identity_covers setting assigned x && sees (includes_of (theory_of setting.environment x)) theory) (included_theories setting) e in
      let r = and_parts (identity_covers setting assigned q.0) (sees (includes_of (theory_of setting.environment q.0)) theory) q.2 in
      any_of (λ (x : Name). identity_covers setting assigned x && sees (includes_of (theory_of setting.environment x)) other) (included_theories setting) q.0 q.1 (both_true (identity_covers setting assigned q.0) (sees (includes_of (theory_of setting.environment q.0)) other) r.0 (sees_through q.0 theory other r.1 s)))
      (or_cases (identity_covers setting assigned theory) _ i))

-- ---- the images of a theory that it covers

module _ (setting : Setting) (assigned : List Assigned) where
  -- A map of these theories that keeps the undefined constants of those among them that the identity covers.
  pub record Keeps (before : List Name) (so_far : HeadMap) : Type 0 where
    pub names : mapped_names so_far ≡ declared_names (own_parts setting.environment before)
    pub keeps : (d : Declaration) → Member d (own_parts setting.environment before) → is_identity_covering setting assigned d.name.theory ≡ true → d.value ≡ None → image_of so_far d.name ≡ Some (record { class = d.class; value = SameAs d.name })

  pub keeps_none : Keeps [] []
  keeps_none = record { names = refl; keeps = λ d m e v. absurd m }

module _ (setting : Setting) (assigned : List Assigned) (settled : IsSettled setting) where
  abbrev parts : List Name → Signature
  parts = own_parts setting.environment

  abbrev part : Name → Signature
  part = own_part setting.environment

  -- the images of constants, one by one
  walked : (ds : Signature) (so_far along : HeadMap) → cover_all setting assigned so_far ds ≡ Ok along → (rest : HeadMap) × (along ≡ so_far ++ rest) × (mapped_names rest ≡ declared_names ds)
  unfolding cover_all
  walked [] so_far along h = ([], sym (ok_same h) ∙ sym (append-nil so_far), refl)
  walked (d ∷ ds) so_far along h =
      let c = came_by (covering_value setting assigned d) _ along h in
      let w = walked ds (so_far ++ mapping_to so_far d c.item ∷ []) along c.goes in
      (mapping_to so_far d c.item ∷ w.0, w.1 ∙ append_assoc so_far (mapping_to so_far d c.item ∷ []) w.0, ap (λ z. d.name ∷ z) w.2)

  -- ---- a theory behind those before it

  module _ (before after : List Name) (theory : Name) (here : included_theories setting ≡ before ++ theory ∷ after) where
    closed : IsClosure setting.environment (before ++ theory ∷ after)
    closed = subst (IsClosure setting.environment) here (includes_closed setting.environment settled.coherent setting.domain)

    placed : (xs ys : List Name) → slice_get (xs ++ theory ∷ ys) (length xs) ≡ Some theory
    placed [] ys = refl
    placed (x ∷ xs) ys = placed xs ys

    member_early : (xs ys : List Name) (i : ℕ) (x : Name) → slice_get xs i ≡ Some x → slice_get (xs ++ ys) i ≡ Some x
    member_early [] ys i x h = absurd (cc)
    member_early (y ∷ xs) ys zero x h = h
    member_early (y ∷ xs) ys (suc i) x h = member_early xs ys i x h

    early : (xs : List Name) (i : ℕ) (x : Name) → slice_get xs i ≡ Some x → i ≡ length xs → ⊥
    early [] i x h e = absurd (cc)
    early (y ∷ xs) zero x h e = absurd (cc)
    early (y ∷ xs) (suc i) x h e = early xs i x h (omega (arith, e))

    new : Member theory before → ⊥
    new m =
        let p = member_place before theory m in
        early before p.0 theory p.1 (closed.once p.0 (length before) theory (member_early before (theory ∷ after) p.0 theory p.1) (placed before after))

    front : (xs ys : List Name) → take (length xs) (xs ++ ys) ≡ xs
    front [] ys = refl
    front (x ∷ xs) ys = ap (λ z. x ∷ z) (front xs ys)

    -- what it includes stands before it
    includes_before : (other : Name) → sees (includes_of (theory_of setting.environment theory)) other ≡ true → Member other before
    includes_before other s =
        among_member before other (subst (λ z. sees z other ≡ true) (front before (theory ∷ after)) (closed.behind (length before) theory other (placed before after) s))

    undeclared : (o : Option Declaration) (d : Declaration) → Member d (part theory) → declaration_of (parts before) d.name ≡ o → o ≡ None
    undeclared None d m e = refl
    undeclared (Some x) d m e =
        let f = declaration_member (parts before) d.name x e in
        let q = in_flat_map part before x f.0 in
        let same : q.0 ≡ theory = sym (own_named setting.environment settled.coherent q.0 x q.2) ∙ ap (λ c. c.theory) f.1 ∙ own_named setting.environment settled.coherent theory d m in
        absurd (new (subst (λ t. Member t before) same q.1))

    module _ (so_far : HeadMap) (kept : Keeps setting assigned before so_far) where
      absent : (d : Declaration) → Member d (part theory) → image_of so_far d.name ≡ None
      absent d m = absent_image so_far (parts before) kept.names d.name (undeclared (declaration_of (parts before) d.name) d m refl)

      module _ (covered : is_identity_covering setting assigned theory ≡ true) where
        included : Signature
        included = parts (includes_of (theory_of setting.environment theory))

        covered_too : (other : Name) → sees (includes_of (theory_of setting.environment theory)) other ≡ true → is_identity_covering setting assigned other ≡ true
        covered_too other s =
            spreads setting settled.coherent assigned theory other (subst (Member theory) (sym here) (append_right before (theory ∷ after) theory (inl refl))) s covered

        -- the map so far, followed by the identity on the first own constants, keeps what these may hold
        kept_here : (xs ys : Signature) → part theory ≡ xs ++ ys → IsIdentityOn (included ++ xs) (so_far ++ identity_map xs)
        unfolding included
        kept_here xs ys e c class h =
            let d = declared_some (declaration_of (included ++ xs) c) class h in
            let m = declaration_member (included ++ xs) c d.0 d.1 in
            let u = undefined_is d.0.value d.0.class class (sym (ap declared d.1) ∙ h) in
            ap (image_of (so_far ++ identity_map xs)) (sym m.1)
            ∙ ⊎_elim (λ n. from_included d.0 n u.0) (λ n. from_own d.0 n u.0) (in_append included xs d.0 m.0)
            ∙ ap Some (ap₂ (λ (k : Class) (n : Constant). record { class = k; value = SameAs n }) u.1 m.1)
          where
            declared : Option Declaration → Option Class
            declared o = elim o [ None ↦ None | Some x ↦ undefined_class x.value x.class ]

            from_included : (d : Declaration) → Member d included → d.value ≡ None → image_of (so_far ++ identity_map xs) d.name ≡ Some (itself d)
            from_included d n v =
                let q = in_flat_map part (includes_of (theory_of setting.environment theory)) d n in
                let s = member_among (includes_of (theory_of setting.environment theory)) q.0 q.1 in
                let named = own_named setting.environment settled.coherent q.0 d q.2 in
                image_front so_far (identity_map xs) d.name (itself d)
                (kept.keeps d (flat_map_in part before q.0 d (includes_before q.0 s) q.2) (ap (is_identity_covering setting assigned) named ∙ covered_too q.0 s) v)

            from_own : (d : Declaration) → Member d xs → d.value ≡ None → image_of (so_far ++ identity_map xs) d.name ≡ Some (itself d)
            from_own d n v =
                let own : Member d (part theory) = subst (Member d) (sym e) (append_left xs ys d n) in
                let once : Once xs = once_left xs ys (subst Once e (own_is_once setting.environment settled.coherent theory)) in
                back_image so_far (identity_map xs) d.name (absent d own) ∙ identity_image xs d.name
                ∙ ap (option_map (λ (x : Declaration). (identity_mapping x).image)) (member_declared xs once d n) ∙ ap Some (undefined_image d v)

        -- each constant has its own value
        gives : (d : Declaration) → Member d (part theory) → covering_value setting assigned d ≡ Ok (own_value d d.value)
        gives d m =
            let named = own_named setting.environment settled.coherent theory d m in
            let first : covering_by setting assigned d.name.theory (is_identity_covering setting assigned d.name.theory) ≡ Some (identity_map (part theory)) =
            ap (λ t. covering_by setting assigned t (is_identity_covering setting assigned t)) named ∙ ap (covering_by setting assigned theory) covered in
            let value : value_in (identity_map (part theory)) d.name ≡ Some (own_value d d.value) =
            ap (option_map (λ (z : Image). z.value)) (identity_image (part theory) d.name
            ∙ ap (option_map (λ (x : Declaration). (identity_mapping x).image)) (member_declared (part theory) (own_is_once setting.environment settled.coherent theory) d m)) in
            ap (λ o. or_refused o setting.span Rule.IncludeNotCovered (d.name.theory ∷ [])) (ap (λ o. value_by o d.name) first ∙ value)

        shared : (xs ys : Signature) → part theory ≡ xs ++ ys → HoldAfter (included ++ xs) ys → cover_all setting assigned (so_far ++ identity_map xs) ys ≡ Ok ((so_far ++ identity_map xs) ++ identity_map ys)
        unfolding cover_all
        shared xs [] e h = ap Ok (sym (append-nil (so_far ++ identity_map xs)))
        shared xs (d ∷ ys) e h =
            let now : HeadMap = so_far ++ identity_map xs in
            let m : Member d (part theory) = subst (Member d) (sym e) (append_right xs (d ∷ ys) d (inl refl)) in
            let class = held_class_same (included ++ xs) now (kept_here xs (d ∷ ys) e) d.class h.0 in
            let next : mapping_to now d (own_value d d.value) ≡ identity_mapping d = ap (λ (k : Class). record { name = d.name; image = record { class = k; value = own_value d d.value } }) class in
            let grown : now ++ mapping_to now d (own_value d d.value) ∷ [] ≡ so_far ++ identity_map (xs ++ d ∷ []) =
            ap (λ z. now ++ z ∷ []) next ∙ append_assoc so_far (identity_map xs) (identity_mapping d ∷ []) ∙ ap (λ z. so_far ++ z) (sym (map-append identity_mapping xs (d ∷ []))) in
            goes_by (covering_value setting assigned d) _ (own_value d d.value) (now ++ identity_map (d ∷ ys)) (gives d m)
            (ap (λ z. cover_all setting assigned z ys) grown
            ∙ shared (xs ++ d ∷ []) ys (e ∙ sym (append_assoc xs (d ∷ []) ys)) (subst (λ z. HoldAfter z ys) (append_assoc included xs (d ∷ [])) h.2)
            ∙ ap (λ z. Ok (z ++ identity_map ys)) (sym grown)
            ∙ ap Ok (ap (λ z. (now ++ z ∷ []) ++ identity_map ys) next ∙ append_assoc now (identity_mapping d ∷ []) (identity_map ys)))

        -- the theory's constants get the images of the identity
        pub shared_part : cover_all setting assigned so_far (own_part setting.environment theory) ≡ Ok (so_far ++ identity_map (own_part setting.environment theory))
        unfolding included
        shared_part =
            let none : so_far ++ identity_map [] ≡ so_far = append-nil so_far in
            let holds = declarations_from included (part theory) (declarations_hold setting.environment settled.coherent theory there) in
            ap (λ z. cover_all setting assigned z (part theory)) (sym none)
            ∙ shared [] (part theory) refl (subst (λ z. HoldAfter z (part theory)) (sym (append-nil included)) holds)
            ∙ ap (λ z. Ok (z ++ identity_map (part theory))) none
          where
            there : is_some (theory_of setting.environment theory) ≡ true
            there = includes_theories setting.environment settled.coherent setting.domain theory (member_among (included_theories setting) theory (subst (Member theory) (sym here) (append_right before (theory ∷ after) theory (inl refl))))

      pub keeps_more : (along : HeadMap) → cover_all setting assigned so_far (own_part setting.environment theory) ≡ Ok along → Keeps setting assigned (before ++ theory ∷ []) along
      keeps_more along h =
          let w = walked (part theory) so_far along h in
          let joined : parts (before ++ theory ∷ []) ≡ parts before ++ part theory = parts_joined setting.environment settled.coherent before (theory ∷ []) ∙ ap (λ z. parts before ++ z) (append-nil (part theory)) in
          record {
            names = ap mapped_names w.1 ∙ map-append (λ (m : Mapping). m.name) so_far w.0 ∙ ap₂ (λ x y. x ++ y) kept.names w.2
                ∙ sym (map-append (λ (d : Declaration). d.name) (parts before) (part theory)) ∙ ap declared_names (sym joined);
            keeps = λ d m e v.
                ap (λ z. image_of z d.name) w.1
                ∙ ⊎_elim (λ n. image_front so_far w.0 d.name (itself d) (kept.keeps d n e v)) (λ n. from_own d n e v w.0 w.1) (in_append (parts before) (part theory) d (subst (Member d) joined m));
          }
        where
          from_own : (d : Declaration) → Member d (part theory) → is_identity_covering setting assigned d.name.theory ≡ true → d.value ≡ None → (rest : HeadMap) → along ≡ so_far ++ rest → image_of (so_far ++ rest) d.name ≡ Some (itself d)
          from_own d n e v rest w =
              let named = own_named setting.environment settled.coherent theory d n in
              let all : along ≡ so_far ++ identity_map (part theory) = ok_same (sym h ∙ shared_part (ap (is_identity_covering setting assigned) (sym named) ∙ e)) in
              ap (λ z. image_of z d.name) (sym w ∙ all) ∙ back_image so_far (identity_map (part theory)) d.name (absent d n) ∙ identity_image (part theory) d.name
              ∙ ap (option_map (λ (x : Declaration). (identity_mapping x).image)) (member_declared (part theory) (own_is_once setting.environment settled.coherent theory) d n) ∙ ap Some (undefined_image d v)
