-- A face that is coherent over what is known stays so where more is known.
use Rattle.std.proofs.Common.{◌≡◌, true, List, [], ◌∷◌, ◌++◌, is_some, ◌⊎◌, inl, inr, ⊎_elim, refl, sym, ap, ap₂, ◌∙◌, subst, true≢false}
use Rattle.name_meaning.specs.Names.{Name}
use Rattle.lf_meaning.specs.Signatures.{declaration_of}
use Rattle.list_laws.proofs.Members.{Member, place_member}
use Rattle.name_laws.proofs.Order.{member_among}
use Rattle.library_meaning.specs.Faces.{TheoryFace, ViewFace, IsAbsent, theory_face, Environment, theory_of, includes_of, own_of, own_part, own_parts, flat_signature, flat_of}
use Rattle.library_meaning.specs.Closure.{sees}
use Rattle.library_meaning.specs.Coherence.{AreTheories, IsClosure, DeclarationsHold, IsCoherentMap, IsCoherentTheory, IsCoherentView, IsCoherent}
use Rattle.link_laws.proofs.WordsHold.{includes_theories}

-- what is known in the first is known in the second
abbrev pub Extends : Environment → Environment → Type 0
Extends environment more = (name : Name) → (environment name ≡ IsAbsent) ⊎ (more name ≡ environment name)

module _ (environment more : Environment) (coherent : IsCoherent environment) (extends : Extends environment more) where
  pub theory_same : (name : Name) → is_some (theory_of environment name) ≡ true → theory_of more name ≡ theory_of environment name
  theory_same name s = ⊎_elim (λ e. absurd (true≢false (sym s ∙ ap (λ k. is_some (theory_face k)) e))) (λ e. ap theory_face e) (extends name)

  parts_by : (names : List Name) → ((name : Name) → Member name names → is_some (theory_of environment name) ≡ true) → own_parts more names ≡ own_parts environment names
  parts_by [] h = refl
  parts_by (name ∷ names) h = ap₂ (λ x y. x ++ y) (ap own_of (theory_same name (h name (inl refl)))) (parts_by names (λ x m. h x (inr m)))

  pub parts_same : (names : List Name) → AreTheories environment names → own_parts more names ≡ own_parts environment names
  parts_same names t = parts_by names (λ x m. t x (member_among names x m))

  pub flat_same : (name : Name) → is_some (theory_of environment name) ≡ true → flat_of more name ≡ flat_of environment name
  flat_same name s =
      ap (λ o. own_parts more (includes_of o) ++ own_of o) (theory_same name s)
      ∙ ap (λ z. z ++ own_part environment name) (parts_same (includes_of (theory_of environment name)) (includes_theories environment coherent name))

  some_same : (name : Name) → is_some (theory_of environment name) ≡ true → is_some (theory_of more name) ≡ true
  some_same name s = ap is_some (theory_same name s) ∙ s

  pub theory_transfers : (name : Name) (face : TheoryFace) → IsCoherentTheory environment name face → IsCoherentTheory more name face
  theory_transfers name face c =
      record {
        named = c.named;
        own_named = c.own_named;
        own_paths = c.own_paths;
        own_once = c.own_once;
        includes = λ other s. some_same other (c.includes other s);
        includes_closure = record {
          once = k.once;
          behind = λ i x other h s. k.behind i x other h (subst (λ o. sees (includes_of o) other ≡ true) (theory_same x (c.includes x (member_among face.includes x (place_member face.includes i x h)))) s);
        };
        includes_others = c.includes_others;
        domains = λ i x h. some_same x.domain (c.domains i x h);
        maps = λ i x h. subst (λ z. IsCoherentMap z (flat_signature more face) x.map) (sym (flat_same x.domain (c.domains i x h))) (subst (λ z. IsCoherentMap (flat_of environment x.domain) z x.map) (sym signature) (c.maps i x h));
        holds = subst DeclarationsHold (sym signature) c.holds;
        structures_once = c.structures_once;
        structures_free = c.structures_free;
        induced = λ i d h l. (let q = c.induced i d h l in
            record {
              place = q.place;
              structure = q.structure;
              rest = q.rest;
              source = q.source;
              found = q.found;
              path = q.path;
              declared = ap (λ o. declaration_of (own_of o) (record { theory = q.structure.domain; path = q.rest })) (theory_same q.structure.domain (c.domains q.place q.structure q.found)) ∙ q.declared;
              alike = q.alike;
            });
      }
    where
      k : IsClosure environment face.includes
      k = c.includes_closure

      signature : flat_signature more face ≡ flat_signature environment face
      signature = ap (λ z. z ++ face.own) (parts_same face.includes c.includes)

  pub view_transfers : (name : Name) (face : ViewFace) → IsCoherentView environment name face → IsCoherentView more name face
  view_transfers name face c =
      record {
        named = c.named;
        domain = some_same face.domain c.domain;
        codomain = some_same face.codomain c.codomain;
        map_is = subst (λ z. IsCoherentMap z (flat_of more face.codomain) face.map) (sym (flat_same face.domain c.domain)) (subst (λ z. IsCoherentMap (flat_of environment face.domain) z face.map) (sym (flat_same face.codomain c.codomain)) c.map_is);
      }
