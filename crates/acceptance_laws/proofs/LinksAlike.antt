-- The map of a link is the same over environments that agree on what it names.
use Rattle.std.proofs.Common.{◌≡◌, ℕ, Bool, true, false, List, [], ◌∷◌, ◌&&◌, ◌||◌, slice_get, Option, Some, None, IsSome, option_map, inl, inr, refl, sym, ap, ap₂, ◌∙◌, subst}
use Rattle.std.specs.Prelude.{⊤}
use Rattle.std.specs.List.{list_any, cons_option}
use Rattle.name_meaning.specs.Names.{Name, Path, same_name}
use Rattle.lf_meaning.specs.Signatures.{Class, Value, Declaration, Signature}
use Rattle.list_laws.proofs.Members.{Member, place_member}
use Rattle.name_laws.proofs.Order.{among_member}
use Rattle.lf_meaning.specs.HeadMaps.{HeadMap}
use Rattle.translation_meaning.specs.Translation.{translate_class, translate_value}
use Rattle.library_meaning.specs.Faces.{TheoryFace, Environment, theory_of, includes_of, flat_of}
use Rattle.library_meaning.specs.Closure.{sees}
use Rattle.library_meaning.specs.Resolution.{own_at}
use Rattle.library_meaning.specs.Coherence.{declared_names}
use Rattle.library_meaning.specs.Words.{structures_of, structures_link, identity_map}
use Rattle.text_meaning.specs.Tokens.{Span}
use Rattle.text_meaning.specs.Trees.{Assign, IncludeAssign, StructAssign, ConstAssign}
use Rattle.link_meaning.specs.Assignments.{Setting, is_or_includes, codomain_sees, included_theories, Assigned, Covering, Sharing, Giving, with_target}
use Rattle.link_meaning.specs.AssignmentsRead.{AssignReads, AssignsRead}
use Rattle.link_meaning.specs.Coverings.{cover_if, cover_by, covers_of, is_none_of, identity_covers, is_identity_covering}
use Rattle.link_meaning.specs.Passes.{Reached, ByNone, ByValue, ByStructure, reached_by, is_own}
use Rattle.link_meaning.specs.Equations.{IsCovering, ByIdentity, ByAssignment, CoveringsGive, IsCopied, IsUnassigned, OwnHasValue, HasValueBy, MeetsEquations}
use Rattle.link_meaning.specs.LinkMaps.{IsSettled, IsMapOfLink}
use Rattle.link_laws.proofs.Linked.{included_in}
use Rattle.acceptance_laws.proofs.Alike.{Alike, alike_back, scope_over, AllNamed, DomainsNamed, theory_alike, part_alike, includes_named, included_parts_alike, structures_named, flat_alike, stands_for_alike}
use Rattle.acceptance_laws.proofs.StandsAlike.{value_alike}
use Rattle.acceptance_laws.proofs.WordsAlike.{WordsNamed, links_alike, link_domain, row_alike, row_domain}

-- the words of an assignment are named
abbrev pub AssignNamed : (Name → Bool) → Option TheoryFace → Assign → Type 0
AssignNamed names here (ConstAssign target value) = ⊤
AssignNamed names here (IncludeAssign words) = WordsNamed names here words
AssignNamed names here (StructAssign target words) = WordsNamed names here words

-- links that cover, and structures that are shared, are from theories that are named
abbrev ItemNamed : (Name → Bool) → Assigned → Type 0
ItemNamed names (Covering first by) = names by.domain ≡ true
ItemNamed names (Sharing target structure first by) = names structure.domain ≡ true
ItemNamed names (Giving target value) = ⊤

abbrev ItemsNamed : (Name → Bool) → List Assigned → Type 0
ItemsNamed names assigned = (item : Assigned) → Member item assigned → ItemNamed names item

module _ (here : Option TheoryFace) (domain codomain : Name) (own : Signature) (includes : List Name) (structure : Option Name) (span : Span) (label : Path) where
  -- the link over this environment
  abbrev pub link_over : Environment → Setting
  link_over environment =
      record {
        environment = environment;
        here = here;
        domain = domain;
        codomain = codomain;
        scope = scope_over own includes environment;
        structure = structure;
        span = span;
        label = label;
      }

  -- what the link names itself
  pub record LinkNamed (names : Name → Bool) : Type 0 where
    pub domain_is : names domain ≡ true
    pub includes_are : AllNamed names includes
    pub structures_are : DomainsNamed names (structures_of here)

  module _ (names : Name → Bool) (first second : Environment) (alike : Alike names first second) (named : LinkNamed names) where
    is_or_alike : (x theory : Name) → names x ≡ true → is_or_includes first x theory ≡ is_or_includes second x theory
    is_or_alike x theory n = ap (λ o. same_name x theory || sees (includes_of o) theory) (theory_alike names first second alike x n)

    included_same : included_theories (link_over first) ≡ included_theories (link_over second)
    included_same = ap includes_of (theory_alike names first second alike domain named.domain_is)

    flat_same : flat_of first domain ≡ flat_of second domain
    flat_same = flat_alike names first second alike domain named.domain_is

    -- ---- the first pass

    assign_alike : (earlier : List Path) (assign : Assign) (assigned : Assigned) → AssignNamed names here assign → AssignReads (link_over first) earlier assign assigned → AssignReads (link_over second) earlier assign assigned
    assign_alike earlier (ConstAssign target value) assigned w r = (subst (λ s. IsSome (own_at s target.path)) (part_alike names first second alike domain named.domain_is) r.0, r.1, r.2)
    assign_alike earlier (IncludeAssign words) assigned w r = (
      r.0,
      sym (row_alike names first second alike here named.structures_are words w) ∙ r.1,
      sym (ap (λ l. codomain_sees (link_over second) (r.0).codomain && sees l (r.0).domain) included_same) ∙ r.2,
      r.3,
    )
    assign_alike earlier (StructAssign target words) assigned w r = (
      r.0,
      r.1,
      sym (links_alike names first second alike target.path domain (structures_of (theory_of first domain)) (structures_named names first second alike domain named.domain_is)
          ∙ ap (λ o. structures_link second domain (structures_of o) target.path) (theory_alike names first second alike domain named.domain_is)) ∙ r.2,
      r.3,
      sym (row_alike names first second alike here named.structures_are words w) ∙ r.4,
      sym (ap (λ b. codomain_sees (link_over second) (r.1).codomain && b) (is_or_alike (r.1).domain (r.0).domain (row_domain names first second alike here named.structures_are words r.1 w r.4))) ∙ r.5,
      r.6,
    )

    item_named : (earlier : List Path) (assign : Assign) (assigned : Assigned) → AssignNamed names here assign → AssignReads (link_over first) earlier assign assigned → ItemNamed names assigned
    item_named earlier (ConstAssign target value) assigned w r = subst (ItemNamed names) (sym r.2) tt
    item_named earlier (IncludeAssign words) assigned w r = subst (ItemNamed names) (sym r.3) (row_domain names first second alike here named.structures_are words r.0 w r.1)
    item_named earlier (StructAssign target words) assigned w r =
        subst (ItemNamed names) (sym r.6)
        (link_domain names first second alike target.path domain (structures_of (theory_of first domain)) r.0 (structures_named names first second alike domain named.domain_is) r.2)

    assigns_alike : (earlier : List Path) (assigns : List Assign) (assigned : List Assigned) → ((assign : Assign) → Member assign assigns → AssignNamed names here assign)
        → AssignsRead (link_over first) earlier assigns assigned → AssignsRead (link_over second) earlier assigns assigned
    assigns_alike earlier [] [] w r = tt
    assigns_alike earlier [] (item ∷ items) w r = absurd r
    assigns_alike earlier (assign ∷ assigns) [] w r = absurd r
    assigns_alike earlier (assign ∷ assigns) (item ∷ items) w r =
        (assign_alike earlier assign item (w assign (inl refl)) r.0, assigns_alike (with_target earlier assign) assigns items (λ x m. w x (inr m)) r.1)

    items_named : (earlier : List Path) (assigns : List Assign) (assigned : List Assigned) → ((assign : Assign) → Member assign assigns → AssignNamed names here assign) → AssignsRead (link_over first) earlier assigns assigned → ItemsNamed names assigned
    items_named earlier [] [] w r item m = absurd m
    items_named earlier [] (x ∷ items) w r item m = absurd r
    items_named earlier (assign ∷ assigns) [] w r item m = absurd r
    items_named earlier (assign ∷ assigns) (x ∷ items) w r item (inl e) = subst (ItemNamed names) (sym e) (item_named earlier assign x (w assign (inl refl)) r.0)
    items_named earlier (assign ∷ assigns) (x ∷ items) w r item (inr m) = items_named (with_target earlier assign) assigns items (λ y k. w y (inr k)) r.1 item m

    -- ---- coverings

    cover_alike : (theory : Name) (item : Assigned) → ItemNamed names item → cover_by first theory item ≡ cover_by second theory item
    cover_alike theory (Covering place by) n = ap (λ b. cover_if b place by.map) (is_or_alike by.domain theory n)
    cover_alike theory (Sharing target shared place by) n = refl
    cover_alike theory (Giving target value) n = refl

    covers_alike : (assigned : List Assigned) (theory : Name) → ItemsNamed names assigned → covers_of (link_over first) assigned theory ≡ covers_of (link_over second) assigned theory
    covers_alike [] theory n = refl
    covers_alike (item ∷ items) theory n = ap₂ cons_option (cover_alike theory item (n item (inl refl))) (covers_alike items theory (λ x m. n x (inr m)))

    module _ (assigned : List Assigned) (items : ItemsNamed names assigned) where
      identity_alike : (theory : Name) → identity_covers (link_over first) assigned theory ≡ identity_covers (link_over second) assigned theory
      identity_alike theory = ap (λ c. is_none_of c && codomain_sees (link_over second) theory) (covers_alike assigned theory items)

      any_alike : (theory : Name) (list : List Name) → AllNamed names list
          → list_any (λ (other : Name). identity_covers (link_over first) assigned other && sees (includes_of (theory_of first other)) theory) list
          ≡ list_any (λ (other : Name). identity_covers (link_over second) assigned other && sees (includes_of (theory_of second other)) theory) list
      any_alike theory [] n = refl
      any_alike theory (x ∷ xs) n =
          ap₂ (λ a b. a || b) (ap₂ (λ a o. a && sees (includes_of o) theory) (identity_alike x) (theory_alike names first second alike x (n x (inl refl)))) (any_alike theory xs (λ y m. n y (inr m)))

      identity_covering_alike : (theory : Name) → is_identity_covering (link_over first) assigned theory ≡ is_identity_covering (link_over second) assigned theory
      identity_covering_alike theory =
          ap₂ (λ a b. a || b) (identity_alike theory)
          (any_alike theory (included_theories (link_over first)) (includes_named names first second alike domain named.domain_is)
          ∙ ap (list_any (λ (other : Name). identity_covers (link_over second) assigned other && sees (includes_of (theory_of second other)) theory)) included_same)

      covering_alike : (theory : Name) (along : HeadMap) → names theory ≡ true → IsCovering (link_over first) assigned theory along → IsCovering (link_over second) assigned theory along
      covering_alike theory along n (ByIdentity i q) = ByIdentity (sym (identity_covering_alike theory) ∙ i) (q ∙ ap identity_map (part_alike names first second alike theory n))
      covering_alike theory along n (ByAssignment place at by s t q) =
          ByAssignment place at by s (sym (is_or_alike by.domain theory (items (Covering at by) (place_member assigned place (Covering at by) s))) ∙ t) q

  -- ---- the equations

  copied_alike : (first second : Environment) (o : Option Name) (d : Declaration) (value : Value) → IsCopied (link_over first) o d value → IsCopied (link_over second) o d value
  copied_alike first second None d value h = h
  copied_alike first second (Some name) d value h = h

  unassigned_alike : (first second : Environment) (definition : Option Value) (d : Declaration) (value : Value) → IsUnassigned (link_over first) definition d value → IsUnassigned (link_over second) definition d value
  unassigned_alike first second None d value h = copied_alike first second structure d value h
  unassigned_alike first second (Some found) d value h = h

  module _ (names : Name → Bool) (first second : Environment) (alike : Alike names first second) (named : LinkNamed names) (settled : IsSettled (link_over first)) where
    own_alike : (reached : Reached) (class : Class) (definition : Option Value) (d : Declaration) (value : Value) → OwnHasValue (link_over first) reached class definition d value → OwnHasValue (link_over second) reached class definition d value
    own_alike ByNone class definition d value h = unassigned_alike first second definition d value h
    own_alike (ByValue target expression) class definition d value h =
        (value_alike (scope_over own includes first) (scope_over own includes second) (stands_for_alike names first second alike own includes named.includes_are) expression class value h.0, h.1)
    own_alike (ByStructure target rest shared at by) class definition d value h = h

    module _ (assigned : List Assigned) (items : ItemsNamed names assigned) where
      give_alike : (d : Declaration) (value : Value) → names d.name.theory ≡ true → CoveringsGive (link_over first) assigned d value → CoveringsGive (link_over second) assigned d value
      give_alike d value n c =
          let k = c.covered in
          record {
            covered = (k.0, covering_alike names first second alike named assigned items d.name.theory k.0 n k.1);
            give = λ along q. c.give along (covering_alike names second first (alike_back names first second alike) named assigned items d.name.theory along n q);
          }

      due_alike : (b : Bool) (class : Class) (definition : Option Value) (d : Declaration) (value : Value) → is_own (link_over first) d ≡ b → Member d (flat_of first domain)
          → HasValueBy (link_over first) assigned b class definition d value → HasValueBy (link_over second) assigned b class definition d value
      due_alike true class definition d value e m h = own_alike (reached_by assigned d.name.path) class definition d value h
      due_alike false class definition d value e m h =
          give_alike d value (includes_named names first second alike domain named.domain_is d.name.theory (included_in (link_over first) assigned settled d m e).0) h

      equations_alike : (along : HeadMap) → MeetsEquations (link_over first) assigned along → MeetsEquations (link_over second) assigned along
      equations_alike along m =
          record {
            names = m.names ∙ ap declared_names flat;
            classes = λ i x d p q. m.classes i x d p (at i d q);
            values = λ i x d p q.
                due_alike (is_own (link_over first) d) (translate_class along d.class) (option_map (translate_value along) d.value) d x.image.value refl (place_member (flat_of first domain) i d (at i d q)) (m.values i x d p (at i d q));
            covered = λ theory s.
                let t : sees (included_theories (link_over first)) theory ≡ true = ap (λ l. sees l theory) (included_same names first second alike named) ∙ s in
                let c = m.covered theory t in
                (c.0, covering_alike names first second alike named assigned items theory c.0 (includes_named names first second alike domain named.domain_is theory (among_member (included_theories (link_over first)) theory t)) c.1);
            shared = λ i target shared place by p j d q.
                m.shared i target shared place by p j d
                (ap (λ z. slice_get z j) (included_parts_alike names first second alike shared.domain (items (Sharing target shared place by) (place_member assigned i (Sharing target shared place by) p))) ∙ q);
          }
        where
          flat : flat_of first domain ≡ flat_of second domain
          flat = flat_same names first second alike named

          at : (i : ℕ) (d : Declaration) → slice_get (flat_of second domain) i ≡ Some d → slice_get (flat_of first domain) i ≡ Some d
          at i d q = ap (λ z. slice_get z i) flat ∙ q

    pub map_alike : (assigns : List Assign) (along : HeadMap) → ((assign : Assign) → Member assign assigns → AssignNamed names here assign)
        → IsMapOfLink (link_over first) assigns along → IsMapOfLink (link_over second) assigns along
    map_alike assigns along w q = (
      q.0,
      assigns_alike names first second alike named [] assigns q.0 w q.1,
      equations_alike q.0 (items_named names first second alike named [] assigns q.0 w q.1) along q.2,
    )
