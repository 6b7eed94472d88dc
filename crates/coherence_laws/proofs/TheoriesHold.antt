-- Each declaration leaves the theory that is being built coherent.
use Rattle.std.proofs.Common.{◌≡◌, ◌≢◌, ℕ, ◌<◌, Bool, true, false, cond, List, [], ◌∷◌, ◌++◌, length, slice_get, Option, Some, None, is_some, ◌⊎◌, inl, inr, ⊎_elim, refl, sym, ap, ◌∙◌, subst, true≢false, append_assoc, arith}
use lib.Pointwise.{pointwise}
use Rattle.std.proofs.lemmas.Bool.{and_from}
use Rattle.name_meaning.specs.Names.{Name, Path, same_name}
use Rattle.lf_meaning.specs.Terms.{Constant}
use Rattle.lf_meaning.specs.Signatures.{Class, Value, Declaration, Signature, declaration_of}
use Rattle.list_laws.proofs.Members.{Member, in_append, append_left, append_right, in_flat_map, flat_map_in, find_none, place_member, member_place}
use Rattle.name_laws.proofs.Order.{among_member, member_among, same_sound, same_itself}
use Rattle.list_laws.proofs.Places.{get_more, place_within, get_front, get_last}
use Rattle.lf_meaning.specs.HeadMaps.{HeadMap}
use Rattle.library_meaning.specs.Faces.{StructureFace, TheoryFace, IsAbsent, Environment, theory_of, structure_of, includes_of, own_part, own_parts, flat_signature, flat_of}
use Rattle.library_meaning.specs.Closure.{sees, with_inclusion}
use Rattle.library_meaning.specs.Resolution.{has_path, own_at}
use Rattle.library_meaning.specs.Holding.{ClassHolds, OptionalValueHolds}
use Rattle.library_meaning.specs.Coherence.{AreTheories, IsClosure, DeclarationsHold, IsCoherentMap, IsCoherentTheory, IsCoherent, IsInduced}
use Rattle.library_laws.proofs.ClosureMembers.{inclusion_member, inclusion_old}
use Rattle.library_laws.proofs.ClosureKept.{inclusion_keeps}
use Rattle.link_meaning.specs.Assignments.{Setting}
use Rattle.link_meaning.specs.Induced.{induced, with_structure}
use Rattle.link_laws.proofs.Linked.{own_named}
use Rattle.constant_laws.specs.HoldingLaws.{Grows}
use Rattle.constant_laws.proofs.Declared.{front_grows}
use Rattle.link_laws.proofs.Onces.{Once, once_append, once_names, names_once, once_right, member_grows, member_declared, HoldAfter, hold_append, hold_more, after_declarations, own_is_once, closure_once, closure_holds, declarations_from}
use Rattle.link_laws.proofs.WordsHold.{map_grows, includes_closed, includes_theories, paths_of_theory, absent_is_none}
use Rattle.link_laws.proofs.ImagesHold.{SettingHolds}
use Rattle.link_laws.proofs.InducedHold.{InducedFrom}
use Rattle.std.proofs.lemmas.Option.{same_Some}

same_path_itself : (path : Path) → pointwise same_name path path ≡ true
same_path_itself [] = refl
same_path_itself (name ∷ path) = and_from (same_name name name) (pointwise same_name path path) (same_itself name) (same_path_itself path)

-- a path that is not found is nobody's
pub not_at : (own : Signature) (path : Path) → own_at own path ≡ None → (d : Declaration) → Member d own → d.name.path ≡ path → ⊥
not_at own path h d m e = true≢false (sym (ap (λ z. pointwise same_name z path) e ∙ same_path_itself path) ∙ find_none (has_path path) own h d m)

structure_some_by : (b : Bool) (x : StructureFace) (o : Option StructureFace) → (b ≡ true) ⊎ (is_some o ≡ true) → is_some (cond b (Some x) o) ≡ true
structure_some_by true x o h = refl
structure_some_by false x o (inl h) = absurd (true≢false (sym h))
structure_some_by false x o (inr h) = h

structure_some : (structures : List StructureFace) (name : Name) (structure : StructureFace) → Member structure structures → structure.name ≡ name → is_some (structure_of structures name) ≡ true
unfolding structure_of
structure_some [] name structure m e = absurd m
structure_some (x ∷ xs) name structure (inl q) e = structure_some_by (same_name x.name name) x (structure_of xs name) (inl (ap (λ z. same_name z name) (ap (λ z. z.name) (sym q) ∙ e) ∙ same_itself name))
structure_some (x ∷ xs) name structure (inr m) e = structure_some_by (same_name x.name name) x (structure_of xs name) (inr (structure_some xs name structure m e))

pub no_structure : (structures : List StructureFace) (name : Name) → structure_of structures name ≡ None → (structure : StructureFace) → Member structure structures → structure.name ≡ name → ⊥
no_structure structures name h structure m e = true≢false (sym (structure_some structures name structure m e) ∙ ap is_some h)

-- a structure that is found is among them, and has the name
found_by : (b : Bool) (x : StructureFace) (xs : List StructureFace) (name : Name) (structure : StructureFace) → same_name x.name name ≡ b
    → (structure_of xs name ≡ Some structure → Member structure xs × (structure.name ≡ name)) → cond b (Some x) (structure_of xs name) ≡ Some structure → Member structure (x ∷ xs) × (structure.name ≡ name)
found_by true x xs name structure t f h = let e : structure ≡ x = sym (same_Some _ _ h) in (inl e, ap (λ (z : StructureFace). z.name) e ∙ same_sound x.name name t)
found_by false x xs name structure t f h = let q = f h in (inr q.0, q.1)

pub structure_found : (structures : List StructureFace) (name : Name) (structure : StructureFace) → structure_of structures name ≡ Some structure → Member structure structures × (structure.name ≡ name)
unfolding structure_of
structure_found [] name structure h = absurd (cc)
structure_found (x ∷ xs) name structure h = found_by (same_name x.name name) x xs name structure refl (structure_found xs name structure) h

module _ (environment : Environment) (coherent : IsCoherent environment) where
  -- an own constant is declared at its path
  pub declared_at : (theory : Name) (d : Declaration) → Member d (own_part environment theory) → declaration_of (own_part environment theory) (record { theory = theory; path = d.name.path }) ≡ Some d
  declared_at theory d m =
      ap (λ t. declaration_of (own_part environment theory) (record { theory = t; path = d.name.path })) (sym (own_named environment coherent theory d m))
      ∙ member_declared (own_part environment theory) (own_is_once environment coherent theory) d m

module _ (environment : Environment) (coherent : IsCoherent environment) where
  -- theories that are known are none that is not
  others_by : (names : List Name) (name : Name) → AreTheories environment names → environment name ≡ IsAbsent → (other : Name) → sees names other ≡ true → other ≢ name
  others_by names name t a other s e = absent_is_none (environment other) (ap environment e ∙ a) (t other s)

  parts_apart : (names : List Name) (own : Signature) (name : Name) → ((other : Name) → sees names other ≡ true → other ≢ name) → ((d : Declaration) → Member d own → d.name.theory ≡ name) → (d e : Declaration) → Member d (own_parts environment names) → Member e own → d.name ≢ e.name
  parts_apart names own name f g d e m n w =
      let q = in_flat_map (own_part environment) names d m in
      f q.0 (member_among names q.0 q.1) (sym (own_named environment coherent q.0 d q.2) ∙ ap (λ c. c.theory) w ∙ g e n)

  -- ---- what is known of a theory that is coherent so far

  module _ (here : TheoryFace) (c : IsCoherentTheory environment here.name here) (absent : environment here.name ≡ IsAbsent) where
    named_here : (d : Declaration) → Member d here.own → d.name.theory ≡ here.name
    named_here d m = let p = member_place here.own d m in c.own_named p.0 d p.1

    pub here_once : Once (flat_signature environment here)
    here_once = once_append (own_parts environment here.includes) here.own (closure_once environment coherent here.includes c.includes_closure) (names_once here.own c.own_once) (parts_apart here.includes here.own here.name c.includes_others named_here)

    pub here_holds : HoldAfter [] (flat_signature environment here)
    here_holds = declarations_from [] (flat_signature environment here) c.holds

    -- ---- an inclusion

    pub inclusion_step : (theory : Name) → is_some (theory_of environment theory) ≡ true → IsCoherentTheory environment here.name (record here { includes = with_inclusion environment here.includes theory })
    inclusion_step theory s =
        record {
          named = refl;
          own_named = c.own_named;
          own_paths = c.own_paths;
          own_once = c.own_once;
          includes = theories;
          includes_closure = closed;
          includes_others = others;
          domains = c.domains;
          maps = λ i x h. map_grows (flat_of environment x.domain) (flat_signature environment here) (own_parts environment names ++ here.own) x.map grown (c.maps i x h);
          holds = after_declarations (own_parts environment names ++ here.own)
              (hold_append [] (own_parts environment names) here.own (closure_holds environment coherent names closed)
              (hold_more (own_parts environment here.includes) (own_parts environment names) here.own once parts (declarations_from (own_parts environment here.includes) here.own c.holds)));
          structures_once = c.structures_once;
          structures_free = c.structures_free;
          induced = λ i d h l. (let k = c.induced i d h l in record { place = k.place; structure = k.structure; rest = k.rest; source = k.source; found = k.found; path = k.path; declared = k.declared; alike = k.alike });
        }
      where
        names : List Name
        names = with_inclusion environment here.includes theory

        theories : AreTheories environment (with_inclusion environment here.includes theory)
        theories other t =
            ⊎_elim (λ m. c.includes other (member_among here.includes other m))
            (λ m. ⊎_elim (λ k. includes_theories environment coherent theory other (member_among (includes_of (theory_of environment theory)) other k)) (λ e. ap (λ z. is_some (theory_of environment z)) e ∙ s) m)
            (inclusion_member environment here.includes theory other (among_member (with_inclusion environment here.includes theory) other t))

        closed : IsClosure environment (with_inclusion environment here.includes theory)
        closed = inclusion_keeps environment here.includes theory c.includes_closure (includes_closed environment coherent theory)

        others : (other : Name) → sees (with_inclusion environment here.includes theory) other ≡ true → other ≢ here.name
        others = others_by (with_inclusion environment here.includes theory) here.name theories absent

        once : Once (own_parts environment (with_inclusion environment here.includes theory) ++ here.own)
        once = once_append (own_parts environment (with_inclusion environment here.includes theory)) here.own (closure_once environment coherent (with_inclusion environment here.includes theory) closed) (names_once here.own c.own_once) (parts_apart (with_inclusion environment here.includes theory) here.own here.name others named_here)

        parts : (d : Declaration) → Member d (own_parts environment here.includes) → Member d (own_parts environment (with_inclusion environment here.includes theory))
        parts d m = let q = in_flat_map (own_part environment) here.includes d m in flat_map_in (own_part environment) (with_inclusion environment here.includes theory) q.0 d (inclusion_old environment here.includes theory q.0 q.1) q.2

        grown : Grows (flat_signature environment here) (own_parts environment (with_inclusion environment here.includes theory) ++ here.own)
        grown =
            member_grows (flat_signature environment here) (own_parts environment (with_inclusion environment here.includes theory) ++ here.own) once
            (λ d m. ⊎_elim (λ n. append_left (own_parts environment (with_inclusion environment here.includes theory)) here.own d (parts d n)) (λ n. append_right (own_parts environment (with_inclusion environment here.includes theory)) here.own d n) (in_append (own_parts environment here.includes) here.own d m))

    -- ---- a constant

    pub constant_step : (name : Name) (class : Class) (value : Option Value) → own_at here.own (name ∷ []) ≡ None → structure_of here.structures name ≡ None → ClassHolds (flat_signature environment here) class → OptionalValueHolds (flat_signature environment here) class value
        → IsCoherentTheory environment here.name (record here { own = here.own ++ record { name = record { theory = here.name; path = name ∷ [] }; class = class; value = value } ∷ [] })
    constant_step name class value u v h g =
        record {
          named = refl;
          own_named = λ i d p. ⊎_elim (λ q. c.own_named i d q) (λ q. ap (λ z. z.name.theory) (sym q.1)) (get_more here.own new d i p);
          own_paths = λ i d p. ⊎_elim (λ q. c.own_paths i d q) (λ q. subst (λ (z : Declaration). 0 < length z.name.path) q.1 (omega arith)) (get_more here.own new d i p);
          own_once = once_names (here.own ++ new ∷ []) once;
          includes = c.includes;
          includes_closure = c.includes_closure;
          includes_others = c.includes_others;
          domains = c.domains;
          maps = λ i x p. map_grows (flat_of environment x.domain) (flat_signature environment here) (own_parts environment here.includes ++ (here.own ++ new ∷ [])) x.map grown (c.maps i x p);
          holds = subst DeclarationsHold assoc (after_declarations (flat_signature environment here ++ new ∷ []) (hold_append [] (flat_signature environment here) (new ∷ []) here_holds (h, g, tt)));
          structures_once = c.structures_once;
          structures_free = λ i j x d p q. ⊎_elim (λ k. c.structures_free i j x d p k) (λ k e. no_structure here.structures name v x (place_member here.structures i x p) (one (sym e ∙ ap (λ z. z.name.path) (sym k.1)))) (get_more here.own new d j q);
          induced = λ i d p l. ⊎_elim
              (λ q. let k = c.induced i d q l in record { place = k.place; structure = k.structure; rest = k.rest; source = k.source; found = k.found; path = k.path; declared = k.declared; alike = k.alike })
              (λ q. absurd (short (subst (λ (z : Declaration). 1 < length z.name.path) (sym q.1) l))) (get_more here.own new d i p);
        }
      where
        new : Declaration
        new = record { name = record { theory = here.name; path = name ∷ [] }; class = class; value = value }

        one : {x y : Name} → x ∷ [] ≡ y ∷ [] → x ≡ y
        one e = cc

        short : 1 < length (name ∷ []) → ⊥
        short l = absurd (omega (arith, l))

        once : Once (here.own ++ new ∷ [])
        once = once_append here.own (new ∷ []) (names_once here.own c.own_once) ((λ e m. absurd m), tt) (λ d e m n w. ⊎_elim (λ k. not_at here.own (name ∷ []) u d m (ap (λ z. z.path) (w ∙ ap (λ z. z.name) k))) (λ k. absurd k) n)

        assoc : flat_signature environment here ++ new ∷ [] ≡ own_parts environment here.includes ++ (here.own ++ new ∷ [])
        assoc = append_assoc (own_parts environment here.includes) here.own (new ∷ [])

        grown : Grows (flat_signature environment here) (own_parts environment here.includes ++ (here.own ++ new ∷ []))
        grown = subst (Grows (flat_signature environment here)) assoc (front_grows (flat_signature environment here) (new ∷ []))

    -- ---- a structure

    pub structure_step : (setting : Setting) (ok : SettingHolds setting) (name : Name) (along : HeadMap) → setting.environment ≡ environment → setting.codomain ≡ here.name → own_at here.own (name ∷ []) ≡ None → structure_of here.structures name ≡ None
        → IsCoherentMap (flat_of environment setting.domain) (flat_signature environment here ++ induced setting name along) along
        → Once (flat_signature environment here ++ induced setting name along) → HoldAfter (flat_signature environment here) (induced setting name along)
        → is_some (theory_of environment setting.domain) ≡ true
        → ((e : Declaration) → Member e (induced setting name along) → InducedFrom setting ok name e)
        → IsCoherentTheory environment here.name (with_structure here setting name along)
    structure_step setting ok name along same codomain u v k once hold s from =
        record {
          named = refl;
          own_named = λ i d p. ⊎_elim (λ q. named_here d q) (λ q. (let f = from d q in ap (λ z. z.theory) f.named ∙ codomain)) (in_own i d p);
          own_paths = λ i d p. ⊎_elim (λ q. (let r = member_place here.own d q in c.own_paths r.0 d r.1)) (λ q. (let f = from d q in subst (λ (z : Constant). 0 < length z.path) (sym f.named) (omega arith))) (in_own i d p);
          own_once = once_names own (once_right (own_parts environment here.includes) own whole);
          includes = c.includes;
          includes_closure = c.includes_closure;
          includes_others = c.includes_others;
          domains = λ i x p. ⊎_elim (λ q. c.domains i x q) (λ q. subst (λ (z : StructureFace). is_some (theory_of environment z.domain) ≡ true) q.1 s) (get_more here.structures new x i p);
          maps = λ i x p. ⊎_elim (λ q. map_grows (flat_of environment x.domain) (flat_signature environment here) (own_parts environment here.includes ++ own) x.map grown (c.maps i x q))
              (λ q. subst (λ (z : StructureFace). IsCoherentMap (flat_of environment z.domain) (own_parts environment here.includes ++ own) z.map) q.1 (subst (λ z. IsCoherentMap (flat_of environment setting.domain) z along) assoc k)) (get_more here.structures new x i p);
          holds = subst DeclarationsHold assoc (after_declarations (flat_signature environment here ++ more) (hold_append [] (flat_signature environment here) more here_holds hold));
          structures_once = λ i j x y p q e. structures_once i j x y e (get_more here.structures new x i p) (get_more here.structures new y j q);
          structures_free = λ i j x d p q. free x d (get_more here.structures new x i p) (in_own j d q);
          induced = λ i d p l. induced_by d l (in_own i d p);
        }
      where
        more : Signature
        more = induced setting name along

        own : Signature
        own = here.own ++ induced setting name along

        new : StructureFace
        new = record { name = name; domain = setting.domain; map = along }

        in_own : (i : ℕ) (d : Declaration) → slice_get (here.own ++ induced setting name along) i ≡ Some d → Member d here.own ⊎ Member d (induced setting name along)
        in_own i d p = in_append here.own (induced setting name along) d (place_member (here.own ++ induced setting name along) i d p)

        assoc : flat_signature environment here ++ induced setting name along ≡ own_parts environment here.includes ++ (here.own ++ induced setting name along)
        assoc = append_assoc (own_parts environment here.includes) here.own (induced setting name along)

        whole : Once (own_parts environment here.includes ++ (here.own ++ induced setting name along))
        whole = subst Once assoc once

        grown : Grows (flat_signature environment here) (own_parts environment here.includes ++ (here.own ++ induced setting name along))
        grown = subst (Grows (flat_signature environment here)) assoc (front_grows (flat_signature environment here) (induced setting name along))

        structures_once : (i j : ℕ) (x y : StructureFace) → x.name ≡ y.name → (slice_get here.structures i ≡ Some x) ⊎ ((i ≡ length here.structures) × (new ≡ x)) → (slice_get here.structures j ≡ Some y) ⊎ ((j ≡ length here.structures) × (new ≡ y)) → i ≡ j
        structures_once i j x y e (inl p) (inl q) = c.structures_once i j x y p q e
        structures_once i j x y e (inl p) (inr q) = absurd (no_structure here.structures name v x (place_member here.structures i x p) (e ∙ ap (λ z. z.name) (sym q.1)))
        structures_once i j x y e (inr p) (inl q) = absurd (no_structure here.structures name v y (place_member here.structures j y q) (sym e ∙ ap (λ z. z.name) (sym p.1)))
        structures_once i j x y e (inr p) (inr q) = p.0 ∙ sym q.0

        source_path : (f : Declaration) → Member f (own_part setting.environment setting.domain) → 0 < length f.name.path
        source_path f m = paths_of_theory setting.environment ok.coherent setting.domain f m

        single : (f : Declaration) (p : Name) → Member f (own_part setting.environment setting.domain) → name ∷ f.name.path ≡ p ∷ [] → ⊥
        single f p m e = let l = source_path f m in let q : length f.name.path ≡ 0 = ap length (rests e) in absurd (omega (arith, l, q))
          where
            rests : {x y : Name} {xs ys : Path} → x ∷ xs ≡ y ∷ ys → xs ≡ ys
            rests h = cc

        free : {i : ℕ} (x : StructureFace) (d : Declaration) → (slice_get here.structures i ≡ Some x) ⊎ ((i ≡ length here.structures) × (new ≡ x)) → Member d here.own ⊎ Member d (induced setting name along) → d.name.path ≢ x.name ∷ []
        free x d (inl p) (inl q) = let r = member_place here.own d q in c.structures_free _ r.0 x d p r.1
        free x d (inr p) (inl q) = λ e. not_at here.own (name ∷ []) u d q (e ∙ ap (λ (z : StructureFace). z.name ∷ []) (sym p.1))
        free x d p (inr q) = λ e. (let f = from d q in single f.source x.name f.own (sym (ap (λ z. z.path) f.named) ∙ e))

        induced_by : (d : Declaration) → 1 < length d.name.path → Member d here.own ⊎ Member d (induced setting name along) → IsInduced environment (with_structure here setting name along) d
        induced_by d l (inl q) =
            let r = member_place here.own d q in
            let k = c.induced r.0 d r.1 l in
            record { place = k.place; structure = k.structure; rest = k.rest; source = k.source; found = get_front here.structures (new ∷ []) k.place (place_within here.structures k.place k.structure k.found) ∙ k.found; path = k.path; declared = k.declared; alike = k.alike }
        induced_by d l (inr q) =
            let f = from d q in
            record {
              place = length here.structures;
              structure = new;
              rest = f.source.name.path;
              source = f.source;
              found = get_last here.structures new;
              path = ap (λ z. z.path) f.named;
              declared = subst (λ z. declaration_of (own_part z setting.domain) (record { theory = setting.domain; path = f.source.name.path }) ≡ Some f.source) same (declared_at setting.environment ok.coherent setting.domain f.source f.own);
              alike = f.alike;
            }
