-- The values that coverings and sharing links give hold only constants of the codomain.
use Rattle.std.proofs.Common.{◌≡◌, ℕ, ◌<◌, Bool, true, false, cond, List, [], ◌∷◌, ◌++◌, length, slice_get, Option, Some, None, is_some, option_map, ◌&&◌, ◌||◌, ◌⊎◌, inl, inr, ⊎_elim, refl, sym, ap, ◌∙◌, subst, true≢false, arith}
use Rattle.std.proofs.lemmas.Bool.{or_cases, and_parts}
use Rattle.std.proofs.lemmas.Option.{none-some, same_Some}
use Rattle.name_meaning.specs.Names.{Name, Path, same_name}
use Rattle.lf_meaning.specs.Terms.{Constant}
use Rattle.lf_meaning.specs.Signatures.{Class, FamilyClass, KindClass, Value, Declaration, Signature, same_constant, declaration_of, undefined_class, class_of}
use Rattle.list_laws.proofs.Members.{Member, any_found, in_append, append_left, append_right, in_flat_map, member_place}
use Rattle.name_laws.proofs.Order.{among_member, member_among, same_sound}
use Rattle.lf_meaning.specs.HeadMaps.{Image, HeadMap, image_of}
use Rattle.translation_meaning.specs.Differ.{value_in}
use Rattle.library_meaning.specs.Faces.{StructureFace, TheoryFace, Environment, theory_of, structure_of, includes_of, own_of, own_part, own_parts, flat_of}
use Rattle.library_meaning.specs.Closure.{sees}
use Rattle.library_meaning.specs.Resolution.{Scope}
use Rattle.library_meaning.specs.Holding.{ValueHolds, OptionalValueHolds, AlikeClasses}
use Rattle.library_meaning.specs.Coherence.{DeclarationsHold, IsCoherentMap, IsCoherent, IsInduced}
use Rattle.library_meaning.specs.Words.{Link, structure_link, behind_structure, structures_of, link_by, is_empty, structures_link, own_value, identity_mapping, identity_map}
use Rattle.text_meaning.specs.Tokens.{Span}
use Rattle.link_meaning.specs.Assignments.{Setting, is_or_includes, codomain_sees, included_theories, Assigned, Covering}
use Rattle.link_meaning.specs.Coverings.{identity_covers, is_identity_covering, is_none_of, covers_of}
use Rattle.link_meaning.specs.Equations.{IsCovering, ByIdentity, ByAssignment}
use Rattle.link_laws.proofs.Linked.{declarations_hold, own_named, includes_other}
use Rattle.constant_laws.specs.HoldingLaws.{Grows}
use Rattle.constant_laws.specs.ExpansionHolds.{scope_signature}
use Rattle.constant_laws.proofs.Growing.{value_grows}
use Rattle.constant_laws.proofs.Declared.{class_in, value_at}
use Rattle.constant_laws.proofs.Translating.{placed_in, alike_through}
use Rattle.link_laws.proofs.Onces.{Once, once_names, declaration_member, member_declared, HoldAfter, own_is_once, declarations_from}
use Rattle.link_laws.specs.LinkTargets.{target_of, HereHolds, LinkHolds}
use Rattle.link_laws.specs.BetweenTheories.{IsBetweenTheories}
use Rattle.link_laws.proofs.WordsHold.{theory_at, flat_once, included_grows, included_members, includes_closed, includes_theories, accepted_target, structure_member}

-- a value that holds, at a class alike to that of a declaration
pub record AlikeHolds (signature : Signature) (d : Declaration) (value : Value) : Type 0 where
  pub class : Class
  pub holds : ValueHolds signature class value
  pub alike : AlikeClasses class d.class

pub alike_itself : (class : Class) → AlikeClasses class class
alike_itself (FamilyClass a) = tt
alike_itself (KindClass k) = refl

-- what a declaration stands for as a value
pub undefined_value_holds : (signature : Signature) (d : Declaration) (class : Class) (value : Option Value) → class_of signature d.name ≡ undefined_class value class → OptionalValueHolds signature class value → ValueHolds signature class (own_value d value)
undefined_value_holds signature d (FamilyClass a) None e h = (a, e)
undefined_value_holds signature d (KindClass k) None e h = (k, e, refl)
undefined_value_holds signature d class (Some value) e h = h

-- the image of a declared constant
pub valued : (along : HeadMap) (c : Constant) (image : Image) (value : Value) → image_of along c ≡ Some image → value_in along c ≡ Some value → image.value ≡ value
valued along c image value e h = same_Some _ _ (sym (ap (option_map (λ (i : Image). i.value)) e) ∙ h)

pub image_holds : (from to : Signature) (along : HeadMap) (d : Declaration) (value : Value) → IsCoherentMap from to along → Once from → Member d from → value_in along d.name ≡ Some value → AlikeHolds to d value
image_holds from to along d value k o m h =
    let p = placed_in d.name d from along k.names (member_declared from o d m) in
    record {
      class = p.mapping.image.class;
      holds = subst (ValueHolds to p.mapping.image.class) (valued along d.name p.mapping.image value p.image h) (k.holds p.place p.mapping p.mapped).1;
      alike = k.alike p.place p.mapping d p.mapped p.declared;
    }

-- the identity gives a declared constant its own value
identity_by : (b : Bool) (x : Image) (o : Option Image) (value : Value) → option_map (λ (i : Image). i.value) (cond b (Some x) o) ≡ Some value → ((b ≡ true) × (x.value ≡ value)) ⊎ ((b ≡ false) × (option_map (λ (i : Image). i.value) o ≡ Some value))
identity_by true x o value h = inl (refl, same_Some _ _ h)
identity_by false x o value h = inr (refl, h)

identity_gives : (xs : Signature) (c : Constant) (value : Value) → value_in (identity_map xs) c ≡ Some value → (d : Declaration) × (declaration_of xs c ≡ Some d) × (value ≡ own_value d d.value)
unfolding image_of
identity_gives [] c value h = absurd (cc)
identity_gives (x ∷ xs) c value h = by (same_constant x.name c) refl (identity_by (same_constant x.name c) (identity_mapping x).image (image_of (identity_map xs) c) value h) (identity_gives xs c value)
  where
    by : (b : Bool) → same_constant x.name c ≡ b → ((b ≡ true) × (own_value x x.value ≡ value)) ⊎ ((b ≡ false) × (value_in (identity_map xs) c ≡ Some value))
        → (value_in (identity_map xs) c ≡ Some value → (d : Declaration) × (declaration_of xs c ≡ Some d) × (value ≡ own_value d d.value))
        → (d : Declaration) × (cond b (Some x) (declaration_of xs c) ≡ Some d) × (value ≡ own_value d d.value)
    by true e (inl q) f = (x, refl, sym q.1)
    by true e (inr q) f = absurd (true≢false q.0)
    by false e (inl q) f = absurd (true≢false (sym q.0))
    by false e (inr q) f = f q.1

module _ (environment : Environment) (coherent : IsCoherent environment) where
  -- what a declaration of a theory holds, over what has all of the theory
  pub declared_value_holds : (theory : Name) (signature : Signature) (d : Declaration) → is_some (theory_of environment theory) ≡ true → Grows (flat_of environment theory) signature → Member d (own_part environment theory) → ValueHolds signature d.class (own_value d d.value)
  declared_value_holds theory signature d s g m =
      let n : Member d (flat_of environment theory) = append_right (own_parts environment (includes_of (theory_of environment theory))) (own_part environment theory) d m in
      let p = member_place (flat_of environment theory) d n in
      value_grows (flat_of environment theory) signature g d.class (own_value d d.value)
      (undefined_value_holds (flat_of environment theory) d d.class d.value (class_in (flat_of environment theory) (once_names (flat_of environment theory) (flat_once environment coherent theory)) p.0 d p.1)
      (value_at (flat_of environment theory) (hold theory s) p.0 d p.1))
    where
      hold : (theory : Name) → is_some (theory_of environment theory) ≡ true → DeclarationsHold (flat_of environment theory)
      hold theory s = declarations_hold environment coherent theory s

  -- ---- structures of structures

  structure_named_by : (b : Bool) (x : StructureFace) (o : Option StructureFace) (name : Name) (structure : StructureFace) → same_name x.name name ≡ b → cond b (Some x) o ≡ Some structure → (o ≡ Some structure → structure.name ≡ name) → structure.name ≡ name
  structure_named_by true x o name structure e h f = ap (λ z. z.name) (same_Some _ _ (sym h)) ∙ same_sound x.name name e
  structure_named_by false x o name structure e h f = f h

  structure_named : (structures : List StructureFace) (name : Name) (structure : StructureFace) → structure_of structures name ≡ Some structure → structure.name ≡ name
  unfolding structure_of
  structure_named [] name structure h = absurd (cc)
  structure_named (x ∷ xs) name structure h = structure_named_by (same_name x.name name) x (structure_of xs name) name structure refl h (structure_named xs name structure)

  -- the own constant of a structure's domain from which one is induced
  pub record Source (theory : Name) (rest : Path) (d : Declaration) : Type 0 where
    pub source : Declaration
    pub own : Member source (own_part environment theory)
    pub named : source.name ≡ record { theory = theory; path = rest }
    pub alike : AlikeClasses d.class source.class

  declared_member : (xs : Signature) (c : Constant) (d : Declaration) → declaration_of xs c ≡ Some d → Member d xs × (d.name ≡ c)
  declared_member xs c d h = declaration_member xs c d h

  names_same : {x y : Name} {xs ys : Path} → x ∷ xs ≡ y ∷ ys → x ≡ y
  names_same h = cc

  rests_same : {x y : Name} {xs ys : Path} → x ∷ xs ≡ y ∷ ys → xs ≡ ys
  rests_same h = cc

  longer : (path rest : Path) (name : Name) (p : Path) → 0 < length rest → p ≡ name ∷ (path ++ rest) → 1 < length p
  longer path rest name p l e = subst (λ z. 1 < length z) (sym e) (more path)
    where
      more : (xs : Path) → 1 < length (name ∷ (xs ++ rest))
      more [] = omega (arith, l)
      more (x ∷ xs) = omega arith

  induced_from_first : (theory : Name) (face : TheoryFace) (d : Declaration) (name : Name) (structure : StructureFace) (tail : Path) → theory_of environment theory ≡ Some face → Member d face.own → d.name.path ≡ name ∷ tail → 1 < length d.name.path
      → structure_of face.structures name ≡ Some structure → Source structure.domain tail d
  induced_from_first theory face d name structure tail e m p l s =
      let c = theory_at environment coherent theory face e in
      let q = member_place face.own d m in
      let i : IsInduced environment face d = c.induced q.0 d q.1 l in
      let f = member_place face.structures structure (structure_member environment coherent face.structures name structure s) in
      let first : i.structure.name ≡ structure.name = names_same (sym i.path ∙ p) ∙ sym (structure_named face.structures name structure s) in
      let same : i.structure ≡ structure = same_Some _ _ (sym i.found ∙ ap (slice_get face.structures) (c.structures_once i.place f.0 i.structure structure i.found f.1 first) ∙ f.1) in
      let r : i.rest ≡ tail = rests_same (sym i.path ∙ p) in
      let k = declared_member (own_part environment i.structure.domain) (record { theory = i.structure.domain; path = i.rest }) i.source i.declared in
      subst (λ (z : StructureFace). Source z.domain tail d) same
      (record { source = i.source; own = k.0; named = k.1 ∙ ap (λ z. record { theory = i.structure.domain; path = z }) r; alike = i.alike })

  behind_domain : (outer : Link) (o : Option Link) (link : Link) → behind_structure o outer ≡ Some link → (inner : Link) × (o ≡ Some inner) × (inner.domain ≡ link.domain)
  behind_domain outer None link h = absurd (cc)
  behind_domain outer (Some inner) link h = (inner, refl, ap (λ z. z.domain) (same_Some _ _ h))

  source_step : (theory name : Name) (path rest : Path) (link : Link) (d : Declaration)
      → ((structure : StructureFace) (inner : Link) (source : Declaration) → structures_link environment structure.domain (structures_of (theory_of environment structure.domain)) path ≡ Some inner → Member source (own_part environment structure.domain) → source.name.path ≡ path ++ rest → Source inner.domain rest source)
      → (o : Option TheoryFace) → theory_of environment theory ≡ o → Member d (own_of o) → d.name.path ≡ name ∷ (path ++ rest) → 0 < length rest
      → (p : Option StructureFace) → structure_of (structures_of o) name ≡ p
      → link_by theory p (is_empty path) (λ (domain : Name). structures_link environment domain (structures_of (theory_of environment domain)) path) ≡ Some link → Source link.domain rest d
  source_step theory name path rest link d deeper None e m q l p f h = absurd m
  source_step theory name path rest link d deeper (Some face) e m q l None f h = absurd (cc)
  source_step theory name [] rest link d deeper (Some face) e m q l (Some structure) f h =
      subst (λ (z : Link). Source z.domain rest d) (same_Some _ _ h) (induced_from_first theory face d name structure rest e m q (longer [] rest name d.name.path l q) f)
  source_step theory name (next ∷ path) rest link d deeper (Some face) e m q l (Some structure) f h =
      let b = behind_domain (structure_link theory structure) (structures_link environment structure.domain (structures_of (theory_of environment structure.domain)) (next ∷ path)) link h in
      let s = induced_from_first theory face d name structure ((next ∷ path) ++ rest) e m q (longer (next ∷ path) rest name d.name.path l q) f in
      let t = deeper structure b.0 s.source b.1 s.own (ap (λ c. c.path) s.named) in
      subst (λ z. Source z rest d) b.2 (record { source = t.source; own = t.own; named = t.named; alike = alike_through d.class s.source.class t.source.class s.alike t.alike })

  pub source_of : (target : Path) (theory : Name) (link : Link) (rest : Path) (d : Declaration) → structures_link environment theory (structures_of (theory_of environment theory)) target ≡ Some link → Member d (own_part environment theory) → d.name.path ≡ target ++ rest → 0 < length rest → Source link.domain rest d
  unfolding structures_link
  source_of [] theory link rest d h m p l = absurd (cc)
  source_of (name ∷ path) theory link rest d h m p l =
      source_step theory name path rest link d (λ structure inner source g n q. source_of path structure.domain inner rest source g n q l)
      (theory_of environment theory) refl m p l (structure_of (structures_of (theory_of environment theory)) name) refl h

-- ---- a setting

pub record SettingHolds (setting : Setting) : Type 0 where
  pub coherent : IsCoherent setting.environment
  pub here : HereHolds setting.environment setting.here
  pub theory : is_some (theory_of setting.environment setting.domain) ≡ true
  pub once : Once (scope_signature setting.scope)
  pub holds : HoldAfter [] (scope_signature setting.scope)
  pub reaches : (name : Name) → codomain_sees setting name ≡ true → Grows (target_of setting.environment setting.here name) (scope_signature setting.scope)
  pub own_named : (d : Declaration) → Member d (scope_signature setting.scope) → d.name.theory ≡ setting.codomain → Member d setting.scope.own
  pub fresh : (structure : Name) → setting.structure ≡ Some structure → (d : Declaration) → Member d setting.scope.own → (rest : Path) → d.name.path ≡ structure ∷ rest → 0 < length rest → ⊥

-- a link between known theories has such a setting
module _ (setting : Setting) (coherent : IsCoherent setting.environment) (is : IsBetweenTheories setting) where
  abbrev whole : Signature
  whole = flat_of setting.environment setting.codomain

  pub whole_scope : scope_signature setting.scope ≡ whole
  whole_scope = ap scope_signature is.scope

  nothing_here : HereHolds setting.environment setting.here
  nothing_here = record { absent = λ face e. absurd (none-some face (sym is.here ∙ e)); structures = λ face e. absurd (none-some face (sym is.here ∙ e)) }

  reached : (name : Name) → (same_name setting.codomain name || sees (includes_of (theory_of setting.environment setting.codomain)) name) ≡ true → Grows (flat_of setting.environment name) whole
  reached name h =
      ⊎_elim (λ e. subst (λ z. Grows (flat_of setting.environment z) whole) (same_sound setting.codomain name e) (λ k class g. g)) (λ e. included_grows setting.environment coherent setting.codomain name e)
      (or_cases (same_name setting.codomain name) (sees (includes_of (theory_of setting.environment setting.codomain)) name) h)

  own_of_codomain : (d : Declaration) → Member d whole → d.name.theory ≡ setting.codomain → Member d (own_part setting.environment setting.codomain)
  own_of_codomain d m q =
      let includes : List Name = includes_of (theory_of setting.environment setting.codomain) in
      ⊎_elim (λ n. (let r = in_flat_map (own_part setting.environment) includes d n in
      absurd (includes_other setting.environment coherent setting.codomain r.0 (member_among includes r.0 r.1) (sym (own_named setting.environment coherent r.0 d r.2) ∙ q))))
      (λ n. n) (in_append (own_parts setting.environment includes) (own_part setting.environment setting.codomain) d m)

  pub between_holds : SettingHolds setting
  between_holds =
      record {
        coherent = coherent;
        here = nothing_here;
        theory = is.domain;
        once = subst Once (sym whole_scope) (flat_once setting.environment coherent setting.codomain);
        holds = subst (HoldAfter []) (sym whole_scope) (declarations_from [] whole (declarations_hold setting.environment coherent setting.codomain is.codomain));
        reaches = λ name h.
            subst (λ o. Grows (target_of setting.environment o name) (scope_signature setting.scope)) (sym is.here)
            (subst (Grows (flat_of setting.environment name)) (sym whole_scope)
            (reached name (ap (λ (s : Scope). same_name setting.codomain name || sees s.includes name) (sym is.scope) ∙ h)));
        own_named = λ d m q. subst (λ (s : Scope). Member d s.own) (sym is.scope) (own_of_codomain d (subst (Member d) whole_scope m) q);
        fresh = λ structure e. absurd (none-some structure (sym is.structure ∙ e));
      }

module _ (setting : Setting) (ok : SettingHolds setting) where
  -- what the codomain sees has all its constants there
  pub seen_grows : (theory : Name) → is_some (theory_of setting.environment theory) ≡ true → codomain_sees setting theory ≡ true → Grows (flat_of setting.environment theory) (scope_signature setting.scope)
  seen_grows theory s h = subst (λ z. Grows z (scope_signature setting.scope)) (accepted_target setting.environment ok.coherent setting.here ok.here theory s) (ok.reaches theory h)

  -- of a link into the codomain
  pub link_image_holds : (by : Link) (theory : Name) (d : Declaration) (value : Value) → LinkHolds setting.environment setting.here by → codomain_sees setting by.codomain ≡ true → is_or_includes setting.environment by.domain theory ≡ true → Member d (flat_of setting.environment theory)
      → value_in by.map d.name ≡ Some value → AlikeHolds (scope_signature setting.scope) d value
  link_image_holds by theory d value l c t m h =
      let a = image_holds (flat_of setting.environment by.domain) (target_of setting.environment setting.here by.codomain) by.map d value l.map_is (flat_once setting.environment ok.coherent by.domain) within h in
      record { class = a.class; holds = value_grows (target_of setting.environment setting.here by.codomain) (scope_signature setting.scope) (ok.reaches by.codomain c) a.class value a.holds; alike = a.alike }
    where
      within : Member d (flat_of setting.environment by.domain)
      within =
          ⊎_elim (λ e. subst (λ z. Member d (flat_of setting.environment z)) (sym (same_sound by.domain theory e)) m)
          (λ e. append_left (own_parts setting.environment (includes_of (theory_of setting.environment by.domain))) (own_part setting.environment by.domain) d
          (included_members setting.environment ok.coherent (includes_of (theory_of setting.environment by.domain)) (includes_closed setting.environment ok.coherent by.domain) theory (among_member (includes_of (theory_of setting.environment by.domain)) theory e) d m))
          (or_cases (same_name by.domain theory) (sees (includes_of (theory_of setting.environment by.domain)) theory) t)

  -- where the identity is a covering the codomain has the theory
  identity_sees : (assigned : List Assigned) (theory : Name) → is_some (theory_of setting.environment theory) ≡ true → identity_covers setting assigned theory ≡ true → codomain_sees setting theory ≡ true
  identity_sees assigned theory s h = (and_parts (is_none_of (covers_of setting assigned theory)) (codomain_sees setting theory) h).1

  pub identity_grows : (assigned : List Assigned) (theory : Name) → is_some (theory_of setting.environment theory) ≡ true → is_identity_covering setting assigned theory ≡ true → Grows (flat_of setting.environment theory) (scope_signature setting.scope)
  identity_grows assigned theory s h =
      ⊎_elim
      (λ e. seen_grows theory s (identity_sees assigned theory s e))
      (λ e. let q = any_found (λ (other : Name). identity_covers setting assigned other && sees (includes_of (theory_of setting.environment other)) theory) (included_theories setting) e in
      let r = and_parts (identity_covers setting assigned q.0) (sees (includes_of (theory_of setting.environment q.0)) theory) q.2 in
      let k = includes_theories setting.environment ok.coherent setting.domain q.0 (member_among (included_theories setting) q.0 q.1) in
      (λ c class g. seen_grows q.0 k (identity_sees assigned q.0 k r.0) c class (included_grows setting.environment ok.coherent q.0 theory r.1 c class g)))
      (or_cases (identity_covers setting assigned theory) _ h)

  pub covering_holds : (assigned : List Assigned) (theory : Name) (along : HeadMap) (d : Declaration) (value : Value)
      → ((place : ℕ) (first : Span) (by : Link) → slice_get assigned place ≡ Some (Covering first by) → LinkHolds setting.environment setting.here by × (codomain_sees setting by.codomain ≡ true))
      → is_some (theory_of setting.environment theory) ≡ true → IsCovering setting assigned theory along → Member d (own_part setting.environment theory) → value_in along d.name ≡ Some value → AlikeHolds (scope_signature setting.scope) d value
  covering_holds assigned theory along d value f s (ByIdentity i q) m h =
      let g = identity_gives (own_part setting.environment theory) d.name value (sym (ap (λ z. value_in z d.name) q) ∙ h) in
      let e : g.0 ≡ d = same_Some _ _ (sym g.1 ∙ member_declared (own_part setting.environment theory) (own_is_once setting.environment ok.coherent theory) d m) in
      let v : value ≡ own_value d d.value = g.2 ∙ ap (λ z. own_value z z.value) e in
      record {
        class = d.class;
        holds = subst (ValueHolds (scope_signature setting.scope) d.class) (sym v) (declared_value_holds setting.environment ok.coherent theory (scope_signature setting.scope) d s (identity_grows assigned theory s i) m);
        alike = alike_itself d.class;
      }
  covering_holds assigned theory along d value f s (ByAssignment place first by p t q) m h =
      let l = f place first by p in
      link_image_holds by theory d value l.0 l.1 t (append_right (own_parts setting.environment (includes_of (theory_of setting.environment theory))) (own_part setting.environment theory) d m) (sym (ap (λ z. value_in z d.name) q) ∙ h)
