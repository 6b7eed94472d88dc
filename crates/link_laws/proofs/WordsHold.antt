-- Words of morphisms, and rows of them, have maps of each kind that composition keeps; so they have coherent ones.
use Rattle.std.proofs.Common.{◌≡◌, ℕ, zero, suc, ◌<◌, Bool, true, false, cond, List, [], ◌∷◌, ◌++◌, length, take, slice_get, Option, Some, None, is_some, ◌⊎◌, inl, inr, ⊎_elim, refl, sym, ap, ◌∙◌, subst, true≢false}
use Rattle.std.proofs.lemmas.Bool.{or_cases}
use Rattle.name_meaning.specs.Names.{Name, Path, same_name}
use Rattle.lf_meaning.specs.Signatures.{Declaration, Signature}
use Rattle.list_laws.proofs.Members.{Member, in_append, append_left, in_flat_map, flat_map_in, member_place}
use Rattle.name_laws.proofs.Order.{among_member, member_among, same_sound}
use Rattle.lf_meaning.specs.HeadMaps.{HeadMap}
use Rattle.translation_meaning.specs.Translation.{compose}
use Rattle.library_meaning.specs.Faces.{StructureFace, TheoryFace, ViewFace, Known, IsAbsent, IsRefused, IsTheory, IsView, theory_face, Environment, theory_of, structure_of, includes_of, own_of, own_part, own_parts, flat_signature, flat_of}
use Rattle.library_meaning.specs.Closure.{sees}
use Rattle.library_meaning.specs.Coherence.{AreTheories, IsClosure, IsCoherentMap, IsCoherentTheory, IsCoherent}
use Rattle.library_meaning.specs.Words.{Link, structure_link, followed_by, behind_structure, structures_of, link_by, is_empty, structures_link, Meaning, Means, Faulty, or_unknown, simple_word, longer_word, EndsApart, is_here, word_meaning, meets, RowMeaning, RowMeans, RowFaulty, next_by, row_from, first_by, row_meaning}
use Rattle.link_laws.proofs.Linked.{known_theory, own_named, includes_other}
use Rattle.constant_laws.specs.HoldingLaws.{Grows}
use Rattle.constant_laws.proofs.Growing.{class_grows, value_grows}
use Rattle.constant_laws.proofs.Translating.{composition_is_coherent}
use Rattle.link_laws.specs.LinkTargets.{target_of, StructuresHold, HereHolds, LinkHolds}
use Rattle.link_laws.proofs.Onces.{Once, once_append, member_grows, own_is_once, closure_once}
use Rattle.std.proofs.lemmas.Option.{same_Some}

pub map_grows : (from to more : Signature) (along : HeadMap) → Grows to more → IsCoherentMap from to along → IsCoherentMap from more along
map_grows from to more along g k =
    record { names = k.names; holds = λ i m h. (let q = k.holds i m h in (class_grows to more g m.image.class q.0, value_grows to more g m.image.class m.image.value q.1)); alike = k.alike }

-- composition keeps maps of this kind, also where the second is from a signature that has more
abbrev pub Composes : (Signature → Signature → HeadMap → Type 0) → Type 0
Composes IsMap =
    (from middle more to : Signature) (first second : HeadMap) → Grows middle more → IsMap from middle first → IsMap more to second → IsMap from to (compose first second)

coherent_composes : Composes IsCoherentMap
coherent_composes from middle more to first second g k l = composition_is_coherent from more to first second (map_grows from middle more first g k) l

pub absent_is_none : (known : Known) → known ≡ IsAbsent → is_some (theory_face known) ≡ true → ⊥
absent_is_none known e h = true≢false (sym h ∙ ap (λ k. is_some (theory_face k)) e)

module _ (environment : Environment) (coherent : IsCoherent environment) where
  pub theory_at : (name : Name) (face : TheoryFace) → theory_of environment name ≡ Some face → IsCoherentTheory environment name face
  theory_at name face e = coherent.theories name face (known_theory (environment name) face e)

  pub paths_of_theory : (theory : Name) (d : Declaration) → Member d (own_part environment theory) → 0 < length d.name.path
  paths_of_theory theory d m = by (theory_of environment theory) refl m
    where
      by : (o : Option TheoryFace) → theory_of environment theory ≡ o → Member d (own_of o) → 0 < length d.name.path
      by None e n = absurd n
      by (Some face) e n = let p = member_place face.own d n in (theory_at theory face e).own_paths p.0 d p.1

  -- ---- flat signatures

  pub includes_closed : (theory : Name) → IsClosure environment (includes_of (theory_of environment theory))
  includes_closed theory = by (theory_of environment theory) refl
    where
      by : (o : Option TheoryFace) → theory_of environment theory ≡ o → IsClosure environment (includes_of o)
      by None e = record { once = λ i j x h g. absurd (cc); behind = λ i x other h s. absurd (cc) }
      by (Some face) e = (theory_at theory face e).includes_closure

  pub includes_theories : (theory : Name) → AreTheories environment (includes_of (theory_of environment theory))
  includes_theories theory = by (theory_of environment theory) refl
    where
      by : (o : Option TheoryFace) → theory_of environment theory ≡ o → AreTheories environment (includes_of o)
      by None e = λ name s. absurd (among_member [] name s)
      by (Some face) e = (theory_at theory face e).includes

  pub flat_once : (theory : Name) → Once (flat_of environment theory)
  flat_once theory =
      once_append (own_parts environment (includes_of (theory_of environment theory))) (own_part environment theory) (closure_once environment coherent (includes_of (theory_of environment theory)) (includes_closed theory)) (own_is_once environment coherent theory)
      (λ d e m n w. let q = in_flat_map (own_part environment) (includes_of (theory_of environment theory)) d m in
      includes_other environment coherent theory q.0 (member_among (includes_of (theory_of environment theory)) q.0 q.1)
      (sym (own_named environment coherent q.0 d q.2) ∙ ap (λ c. c.theory) w ∙ own_named environment coherent theory e n))

  -- what is included brings all that it has, into any closure that sees it
  pub included_members : (names : List Name) → IsClosure environment names → (theory : Name) → Member theory names → (d : Declaration) → Member d (flat_of environment theory) → Member d (own_parts environment names)
  included_members names c theory m d k =
      ⊎_elim
      (λ n. let q = in_flat_map (own_part environment) (includes_of (theory_of environment theory)) d n in
      flat_map_in (own_part environment) names q.0 d (front (member_place names theory m) q.0 (member_among (includes_of (theory_of environment theory)) q.0 q.1)) q.2)
      (λ n. flat_map_in (own_part environment) names theory d m n)
      (in_append (own_parts environment (includes_of (theory_of environment theory))) (own_part environment theory) d k)
    where
      taken : (i : ℕ) (xs : List Name) (x : Name) → Member x (take i xs) → Member x xs
      taken zero xs x n = absurd n
      taken (suc i) [] x n = absurd n
      taken (suc i) (y ∷ ys) x (inl e) = inl e
      taken (suc i) (y ∷ ys) x (inr n) = inr (taken i ys x n)

      front : (i : ℕ) × (slice_get names i ≡ Some theory) → (other : Name) → sees (includes_of (theory_of environment theory)) other ≡ true → Member other names
      front p other s = taken p.0 names other (among_member (take p.0 names) other (c.behind p.0 theory other p.1 s))

  pub included_grows : (theory other : Name) → sees (includes_of (theory_of environment theory)) other ≡ true → Grows (flat_of environment other) (flat_of environment theory)
  included_grows theory other s =
      member_grows (flat_of environment other) (flat_of environment theory) (flat_once theory)
      (λ d m. append_left (own_parts environment (includes_of (theory_of environment theory))) (own_part environment theory) d
      (included_members (includes_of (theory_of environment theory)) (includes_closed theory) other (among_member (includes_of (theory_of environment theory)) other s) d m))

  -- ---- structures

  structure_found : (b : Bool) (x : StructureFace) (o : Option StructureFace) (structure : StructureFace) → cond b (Some x) o ≡ Some structure → (structure ≡ x) ⊎ (o ≡ Some structure)
  structure_found true x o structure h = inl (sym (same_Some _ _ h))
  structure_found false x o structure h = inr h

  pub structure_member : (structures : List StructureFace) (name : Name) (structure : StructureFace) → structure_of structures name ≡ Some structure → Member structure structures
  unfolding structure_of
  structure_member [] name structure h = absurd (cc)
  structure_member (x ∷ xs) name structure h = ⊎_elim (λ e. inl e) (λ e. inr (structure_member xs name structure e)) (structure_found (same_name x.name name) x (structure_of xs name) structure h)

  -- ---- what a word leads into

  module _ (here : Option TheoryFace) (holds : HereHolds environment here) where
    accepted_by : (o : Option TheoryFace) → here ≡ o → (name : Name) → is_some (theory_of environment name) ≡ true → target_of environment o name ≡ flat_of environment name
    accepted_by None e name s = refl
    accepted_by (Some face) e name s = by (same_name face.name name) refl
      where
        by : (b : Bool) → same_name face.name name ≡ b → cond b (flat_signature environment face) (flat_of environment name) ≡ flat_of environment name
        by true g = absurd (absent_is_none (environment name) (ap environment (sym (same_sound face.name name g)) ∙ holds.absent face e) s)
        by false g = refl

    -- an accepted theory is not the one that is being built
    pub accepted_target : (name : Name) → is_some (theory_of environment name) ≡ true → target_of environment here name ≡ flat_of environment name
    accepted_target name s = accepted_by here refl name s

    meets_grows : (so_far next : Link) → is_some (theory_of environment next.domain) ≡ true → meets environment so_far next ≡ true → Grows (target_of environment here so_far.codomain) (flat_of environment next.domain)
    meets_grows so_far next s h =
        ⊎_elim
        (λ e. let q : so_far.codomain ≡ next.domain = same_sound so_far.codomain next.domain e in
        subst (λ z. Grows z (flat_of environment next.domain)) (sym (ap (target_of environment here) q ∙ accepted_target next.domain s)) (λ c class g. g))
        (λ e. subst (λ z. Grows z (flat_of environment next.domain)) (sym (accepted_target so_far.codomain (includes_theories next.domain so_far.codomain e))) (included_grows next.domain so_far.codomain e))
        (or_cases (same_name so_far.codomain next.domain) (sees (includes_of (theory_of environment next.domain)) so_far.codomain) h)

  -- ---- maps of a kind that composition keeps

  module _ (IsMap : Signature → Signature → HeadMap → Type 0) where
    -- structures from known theories, with such maps into the signature
    abbrev pub AreStructures : List StructureFace → Signature → Type 0
    AreStructures structures target =
        (i : ℕ) (structure : StructureFace) → slice_get structures i ≡ Some structure → (is_some (theory_of environment structure.domain) ≡ true) × IsMap (flat_of environment structure.domain) target structure.map

    module _ (composes : Composes IsMap) (declared : (theory : Name) → AreStructures (structures_of (theory_of environment theory)) (flat_of environment theory)) where
      pub record ByStructures (theory : Name) (target : Signature) (link : Link) : Type 0 where
        pub domain : is_some (theory_of environment link.domain) ≡ true
        pub codomain : link.codomain ≡ theory
        pub map_is : IsMap (flat_of environment link.domain) target link.map

      behind_is : (theory : Name) (target : Signature) (structure : StructureFace) (o : Option Link) (link : Link) → IsMap (flat_of environment structure.domain) target structure.map
          → ((inner : Link) → o ≡ Some inner → ByStructures structure.domain (flat_of environment structure.domain) inner) → behind_structure o (structure_link theory structure) ≡ Some link → ByStructures theory target link
      behind_is theory target structure None link k f h = absurd (cc)
      behind_is theory target structure (Some inner) link k f h =
          let b = f inner refl in
          subst (ByStructures theory target) (same_Some _ _ h)
          (record { domain = b.domain; codomain = refl; map_is = composes (flat_of environment inner.domain) (flat_of environment structure.domain) (flat_of environment structure.domain) target inner.map structure.map (λ c class g. g) b.map_is k })

      link_by_is : (theory : Name) (target : Signature) (structures : List StructureFace) (o : Option StructureFace) (last : Bool) (inner : Name → Option Link) (link : Link) → AreStructures structures target
          → ((structure : StructureFace) → o ≡ Some structure → Member structure structures)
          → ((structure : StructureFace) (within : Link) → o ≡ Some structure → inner structure.domain ≡ Some within → ByStructures structure.domain (flat_of environment structure.domain) within)
          → link_by theory o last inner ≡ Some link → ByStructures theory target link
      link_by_is theory target structures None last inner link s m f h = absurd (cc)
      link_by_is theory target structures (Some structure) true inner link s m f h =
          let p = member_place structures structure (m structure refl) in
          let q = s p.0 structure p.1 in
          subst (ByStructures theory target) (same_Some _ _ h) (record { domain = q.0; codomain = refl; map_is = q.1 })
      link_by_is theory target structures (Some structure) false inner link s m f h =
          let p = member_place structures structure (m structure refl) in
          let q = s p.0 structure p.1 in
          behind_is theory target structure (inner structure.domain) link q.1 (λ within e. f structure within refl e) h

      pub structures_link_is : (path : Path) (theory : Name) (structures : List StructureFace) (target : Signature) (link : Link) → AreStructures structures target → structures_link environment theory structures path ≡ Some link → ByStructures theory target link
      unfolding structures_link
      structures_link_is [] theory structures target link s h = absurd (cc)
      structures_link_is (name ∷ path) theory structures target link s h =
          link_by_is theory target structures (structure_of structures name) (is_empty path) (λ (domain : Name). structures_link environment domain (structures_of (theory_of environment domain)) path) link s
          (λ structure e. structure_member structures name structure e)
          (λ structure within e g. structures_link_is path structure.domain (structures_of (theory_of environment structure.domain)) (flat_of environment structure.domain) within (declared structure.domain) g)
          h

      -- ---- words

      module _ (here : Option TheoryFace) (holds : HereHolds environment here) (own : (face : TheoryFace) → here ≡ Some face → AreStructures face.structures (flat_signature environment face)) (views : (name : Name) (view : ViewFace) → environment name ≡ IsView view → IsMap (flat_of environment view.domain) (flat_of environment view.codomain) view.map) where
        -- a link from a known theory, with such a map into its codomain
        pub record IsLink (link : Link) : Type 0 where
          pub domain : is_some (theory_of environment link.domain) ≡ true
          pub map_is : IsMap (flat_of environment link.domain) (target_of environment here link.codomain) link.map

        unknown_not : (o : Option Link) (link : Link) → or_unknown o ≡ Means link → o ≡ Some link
        unknown_not None link h = absurd (cc)
        unknown_not (Some found) link h = ap Some (means_same h)
          where
            means_same : {x y : Link} → Means x ≡ Means y → x ≡ y
            means_same e = cc

        simple_is : (name : Name) (known : Known) (link : Link) → environment name ≡ known → simple_word known ≡ Means link → IsLink link
        simple_is name IsAbsent link e h = absurd (cc)
        simple_is name IsRefused link e h = absurd (cc)
        simple_is name (IsTheory face) link e h = absurd (cc)
        simple_is name (IsView view) link e h =
            let v = coherent.views name view e in
            subst IsLink (means_same h)
            (record { domain = v.domain; map_is = subst (λ z. IsMap (flat_of environment view.domain) z view.map) (sym (accepted_target here holds view.codomain v.codomain)) (views name view e) })
          where
            means_same : {x y : Link} → Means x ≡ Means y → x ≡ y
            means_same e = cc

        longer_is : (name : Name) (known : Known) (path : Path) (link : Link) → environment name ≡ known → longer_word environment name known path ≡ Means link → IsLink link
        longer_is name IsAbsent path link e h = absurd (cc)
        longer_is name IsRefused path link e h = absurd (cc)
        longer_is name (IsView view) path link e h = absurd (cc)
        longer_is name (IsTheory face) path link e h =
            let s = unknown_not (structures_link environment name face.structures path) link h in
            let t : theory_of environment name ≡ Some face = ap theory_face e in
            let b = structures_link_is path name face.structures (flat_of environment name) link (subst (λ o. AreStructures (structures_of o) (flat_of environment name)) t (declared name)) s in
            record {
              domain = b.domain;
              map_is = subst (λ z. IsMap (flat_of environment link.domain) z link.map)
                  (sym (ap (target_of environment here) b.codomain ∙ accepted_target here holds name (ap is_some t))) b.map_is;
            }

        here_is : (o : Option TheoryFace) → here ≡ o → (name : Name) (path : Path) (link : Link) (b : Bool) → is_here o name ≡ b
            → cond b (or_unknown (structures_link environment name (structures_of o) path)) (longer_word environment name (environment name) path) ≡ Means link → IsLink link
        here_is None e name path link true g h = absurd (true≢false (sym g))
        here_is (Some face) e name path link true g h =
            let s = unknown_not (structures_link environment name face.structures path) link h in
            let b = structures_link_is path name face.structures (flat_signature environment face) link (own face e) s in
            record {
              domain = b.domain;
              map_is = subst (λ z. IsMap (flat_of environment link.domain) z link.map)
                  (sym (ap (λ o. target_of environment o link.codomain) e ∙ ap (λ n. cond (same_name face.name n) (flat_signature environment face) (flat_of environment n)) b.codomain ∙ ap (λ z. cond z (flat_signature environment face) (flat_of environment name)) g)) b.map_is;
            }
        here_is o e name path link false g h = longer_is name (environment name) path link refl h

        word_is : (word : Path) (link : Link) → word_meaning environment here word ≡ Means link → IsLink link
        word_is [] link h = absurd (cc)
        word_is (name ∷ []) link h = simple_is name (environment name) link refl h
        word_is (name ∷ next ∷ path) link h = here_is here refl name (next ∷ path) link (is_here here name) refl h

        -- ---- rows

        followed_is : (so_far next : Link) → IsLink so_far → IsLink next → meets environment so_far next ≡ true → IsLink (followed_by so_far next)
        followed_is so_far next a b h =
            record {
              domain = a.domain;
              map_is = composes (flat_of environment so_far.domain) (target_of environment here so_far.codomain) (flat_of environment next.domain) (target_of environment here next.codomain) so_far.map next.map
                  (meets_grows here holds so_far next b.domain h) a.map_is b.map_is;
            }

        next_is : (index : ℕ) (so_far : Link) (meaning : Meaning) (behind : Link → RowMeaning) (link : Link) → IsLink so_far → ((next : Link) → meaning ≡ Means next → IsLink next)
            → ((next : Link) → IsLink next → behind next ≡ RowMeans link → IsLink link) → next_by environment index so_far meaning behind ≡ RowMeans link → IsLink link
        next_is index so_far (Faulty fault) behind link a m f h = absurd (cc)
        next_is index so_far (Means next) behind link a m f h = by (meets environment so_far next) refl h
          where
            by : (b : Bool) → meets environment so_far next ≡ b → cond b (behind (followed_by so_far next)) (RowFaulty index EndsApart) ≡ RowMeans link → IsLink link
            by true e g = f (followed_by so_far next) (followed_is so_far next a (m next refl) e) g
            by false e g = absurd (cc)

        row_from_is : (words : List Path) (index : ℕ) (so_far link : Link) → IsLink so_far → row_from environment here index so_far words ≡ RowMeans link → IsLink link
        unfolding row_from
        row_from_is [] index so_far link a h = subst IsLink (row_same h) a
          where
            row_same : {x y : Link} → RowMeans x ≡ RowMeans y → x ≡ y
            row_same e = cc
        row_from_is (word ∷ words) index so_far link a h =
            next_is index so_far (word_meaning environment here word) (λ (next : Link). row_from environment here (suc index) next words) link a (λ next e. word_is word next e)
            (λ next b g. row_from_is words (suc index) next link b g) h

        first_is : (meaning : Meaning) (behind : Link → RowMeaning) (link : Link) → ((next : Link) → meaning ≡ Means next → behind next ≡ RowMeans link → IsLink link) → first_by meaning behind ≡ RowMeans link → IsLink link
        first_is (Faulty fault) behind link f h = absurd (cc)
        first_is (Means next) behind link f h = f next refl h

        pub row_is : (words : List Path) (link : Link) → row_meaning environment here words ≡ RowMeans link → IsLink link
        unfolding row_meaning
        row_is [] link h = absurd (cc)
        row_is (word ∷ words) link h =
            first_is (word_meaning environment here word) (λ (next : Link). row_from environment here 1 next words) link (λ next e g. row_from_is words 1 next link (word_is word next e) g) h

  -- ---- coherent maps

  known_structures : (theory : Name) → StructuresHold environment (structures_of (theory_of environment theory)) (flat_of environment theory)
  known_structures theory = by (theory_of environment theory) refl
    where
      by : (o : Option TheoryFace) → theory_of environment theory ≡ o → StructuresHold environment (structures_of o) (own_parts environment (includes_of o) ++ own_of o)
      by None e = λ i s h. absurd (cc)
      by (Some face) e = λ i s h. ((theory_at theory face e).domains i s h, (theory_at theory face e).maps i s h)

  -- a structure of an accepted theory, or of the domain of such a one
  pub structure_holds : (theory : Name) (path : Path) (link : Link) → structures_link environment theory (structures_of (theory_of environment theory)) path ≡ Some link
      → (is_some (theory_of environment link.domain) ≡ true) × IsCoherentMap (flat_of environment link.domain) (flat_of environment theory) link.map
  structure_holds theory path link h =
      let b = structures_link_is IsCoherentMap coherent_composes known_structures path theory (structures_of (theory_of environment theory)) (flat_of environment theory) link (known_structures theory) h in
      (b.domain, b.map_is)

  pub row_holds : (here : Option TheoryFace) → HereHolds environment here → (words : List Path) (link : Link) → row_meaning environment here words ≡ RowMeans link → LinkHolds environment here link
  row_holds here holds words link h =
      let b = row_is IsCoherentMap coherent_composes known_structures here holds holds.structures (λ name view e. (coherent.views name view e).map_is) words link h in
      record { domain = b.domain; map_is = b.map_is }
