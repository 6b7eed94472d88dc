-- Declarations and views lead to the same over environments that agree on what they name.
use Rattle.std.proofs.Common.{◌≡◌, Bool, true, false, List, [], ◌∷◌, ◌++◌, flat_map, filter_map, Option, Some, None, is_some, inl, inr, ⊎_elim, refl, sym, ap, ◌∙◌, subst}
use Rattle.name_meaning.specs.Names.{Name, Path, same_name}
use Rattle.lf_meaning.specs.Signatures.{Class, Value}
use Rattle.list_laws.proofs.Members.{Member, in_append, append_left, append_right, flat_map_in}
use Rattle.lf_meaning.specs.HeadMaps.{HeadMap}
use Rattle.library_meaning.specs.Faces.{StructureFace, TheoryFace, Environment, theory_of, includes_of}
use Rattle.library_meaning.specs.Closure.{with_all, with_inclusion}
use Rattle.library_meaning.specs.Coherence.{IsCoherent}
use Rattle.library_meaning.specs.Words.{is_here}
use Rattle.library_laws.proofs.ClosureMembers.{inclusion_member}
use Rattle.text_meaning.specs.Tokens.{Span}
use Rattle.text_meaning.specs.Trees.{Expr, Written, Assign, IncludeAssign, StructAssign, ConstAssign, Decl, IncludeDecl, StructDecl, ConstDecl, first_name}
use Rattle.text_meaning.specs.Labels.{label_in}
use Rattle.link_meaning.specs.Induced.{induced_from, with_structure}
use Rattle.text_meaning.specs.Dependencies.{Dependency, is_own_word, unless_own, at_written, word_dependencies, assign_dependencies, decl_dependencies}
use Rattle.verdict_meaning.specs.Modules.{scope_in, structure_setting, empty_theory}
use Rattle.acceptance_laws.specs.ViewLaws.{IsViewBetween}
use Rattle.acceptance_laws.specs.Declares.{StandsIfWritten, Declares, DeclaresAll}
use Rattle.acceptance_laws.proofs.Alike.{Alike, AllNamed, DomainsNamed, theory_alike, part_alike, includes_named, stands_for_alike}
use Rattle.acceptance_laws.proofs.StandsAlike.{class_alike, value_alike}
use Rattle.acceptance_laws.proofs.WordsAlike.{WordNamed, WordsNamed}
use Rattle.acceptance_laws.proofs.LinksAlike.{AssignNamed, map_alike}

-- the dependencies have their names among these
abbrev pub DependenciesNamed : (Name → Bool) → List Dependency → Type 0
DependenciesNamed names list = (dependency : Dependency) → Member dependency list → names dependency.name ≡ true

-- ---- the words of assignments are dependencies, unless they are the theory's own

module _ (names : Name → Bool) (theory : Option Name) (here : Option TheoryFace) (own : (name next : Name) (path : Path) → is_here here name ≡ false → is_own_word theory (name ∷ next ∷ path) ≡ false) where
  alone : (b : Bool) (dependency : Dependency) → b ≡ false → DependenciesNamed names (unless_own b dependency) → names dependency.name ≡ true
  alone true dependency e f = absurd (cc)
  alone false dependency e f = f dependency (inl refl)

  word_by : (path : Path) (label : Path) (span : Span) → DependenciesNamed names (unless_own (is_own_word theory path) (record { span = span; name = first_name path; label = label })) → WordNamed names here path
  word_by [] label span f = tt
  word_by (name ∷ []) label span f = alone (is_own_word theory (name ∷ [])) (record { span = span; name = name; label = label }) (single theory) f
    where
      single : (o : Option Name) → is_own_word o (name ∷ []) ≡ false
      single None = refl
      single (Some x) = refl
  word_by (name ∷ next ∷ path) label span f = λ e. alone (is_own_word theory (name ∷ next ∷ path)) (record { span = span; name = name; label = label }) (own name next path e) f

  words_by : (label : Path) (words : List Written) → DependenciesNamed names (flat_map (word_dependencies theory label) words) → WordsNamed names here words
  words_by label words f word m = word_by word.path label word.span (λ d k. f d (flat_map_in (word_dependencies theory label) words word d m k))

  assign_by : (structure : Option Name) (label : Path) (assign : Assign) → DependenciesNamed names (assign_dependencies theory structure label assign) → AssignNamed names here assign
  assign_by structure label (ConstAssign target value) f = tt
  assign_by structure label (IncludeAssign words) f = words_by label words f
  assign_by structure label (StructAssign target words) f = words_by (label_in structure target.path) words f

  assigns_by : (structure : Option Name) (label : Path) (assigns : List Assign) → DependenciesNamed names (flat_map (assign_dependencies theory structure label) assigns)
      → (assign : Assign) → Member assign assigns → AssignNamed names here assign
  assigns_by structure label assigns f assign m = assign_by structure label assign (λ d k. f d (flat_map_in (assign_dependencies theory structure label) assigns assign d m k))

module _ (names : Name → Bool) (first second : Environment) (alike : Alike names first second) (coherent : IsCoherent first) where
  some_alike : (x : Name) → names x ≡ true → is_some (theory_of first x) ≡ true → is_some (theory_of second x) ≡ true
  some_alike x n s = sym (ap is_some (theory_alike names first second alike x n)) ∙ s

  -- ---- a view

  pub view_alike : (written domain codomain : Written) (assigns : List Assign) (along : HeadMap) → names (first_name domain.path) ≡ true → names (first_name codomain.path) ≡ true
      → DependenciesNamed names (flat_map (assign_dependencies None None written.path) assigns)
      → IsViewBetween first written domain codomain assigns along → IsViewBetween second written domain codomain assigns along
  view_alike written domain codomain assigns along n k w v =
      record {
        from = some_alike (first_name domain.path) n v.from;
        target = v.target;
        to = sym (theory_alike names first second alike (first_name codomain.path) k) ∙ v.to;
        map_is = map_alike None (first_name domain.path) (first_name codomain.path) v.target.own v.target.includes None written.span written.path names first second alike
            (record {
              domain_is = n;
              includes_are = λ x m. includes_named names first second alike (first_name codomain.path) k x (subst (λ o. Member x (includes_of o)) (sym v.to) m);
              structures_are = λ structure m. absurd m;
            })
            (record { coherent = coherent; theory = v.from }) assigns along
            (assigns_by names None None (λ name next path e. refl) None written.path assigns w) v.map_is;
      }

  -- ---- a theory

  module _ (theory : Name) where
    pub record HereNamed (here : TheoryFace) : Type 0 where
      pub named : here.name ≡ theory
      pub includes_are : AllNamed names here.includes
      pub structures_are : DomainsNamed names here.structures

    inclusion_alike : (list : List Name) (x : Name) → names x ≡ true → with_inclusion first list x ≡ with_inclusion second list x
    unfolding with_inclusion
    inclusion_alike list x n = ap (λ o. with_all list (includes_of o ++ x ∷ [])) (theory_alike names first second alike x n)

    inclusion_named : (here : TheoryFace) (x : Name) → names x ≡ true → HereNamed here → HereNamed (record here { includes = with_inclusion first here.includes x })
    inclusion_named here x n h =
        record {
          named = h.named;
          includes_are = λ y m. ⊎_elim (λ k. h.includes_are y k) (λ k. ⊎_elim (λ q. includes_named names first second alike x n y q) (λ e. ap names e ∙ n) k) (inclusion_member first here.includes x y m);
          structures_are = h.structures_are;
        }

    if_written_alike : (here : TheoryFace) (class : Class) (o : Option Expr) (value : Option Value) → HereNamed here → StandsIfWritten (scope_in first here) class o value → StandsIfWritten (scope_in second here) class o value
    if_written_alike here class None value h s = s
    if_written_alike here class (Some expression) value h s =
        (s.0, value_alike (scope_in first here) (scope_in second here) (stands_for_alike names first second alike here.own here.includes h.includes_are) expression class s.0 s.1, s.2)

    structure_same : (here : TheoryFace) (name : Written) (domain : Name) (along : HeadMap) → names domain ≡ true
        → with_structure here (structure_setting first here name domain) (first_name name.path) along ≡ with_structure here (structure_setting second here name domain) (first_name name.path) along
    structure_same here name domain along n =
        ap (λ p. record here { own = here.own ++ filter_map (induced_from (structure_setting first here name domain) (first_name name.path) along) p; structures = here.structures ++ record { name = first_name name.path; domain = domain; map = along } ∷ [] })
        (part_alike names first second alike domain n)

    structure_named : (here : TheoryFace) (name : Written) (domain : Name) (along : HeadMap) → names domain ≡ true → HereNamed here → HereNamed (with_structure here (structure_setting first here name domain) (first_name name.path) along)
    structure_named here name domain along n h =
        record {
          named = h.named;
          includes_are = h.includes_are;
          structures_are = λ x m. ⊎_elim (λ k. h.structures_are x k)
              (λ k. ⊎_elim (λ e. ap (λ (z : StructureFace). names z.domain) e ∙ n) (λ q. absurd q) k)
              (in_append here.structures (record { name = first_name name.path; domain = domain; map = along } ∷ []) x m);
        }

    -- the next theory is the same, and named too
    record NextAlike (here : TheoryFace) (decl : Decl) (next : TheoryFace) : Type 0 where
      declares : Declares second here decl next
      is : HereNamed next

    own_words : (here : TheoryFace) → here.name ≡ theory → (name next : Name) (path : Path) → is_here (Some here) name ≡ false → is_own_word (Some theory) (name ∷ next ∷ path) ≡ false
    own_words here n name next path e = ap (λ z. same_name z name) (sym n) ∙ e

    declare_alike : (here next : TheoryFace) (decl : Decl) → HereNamed here → DependenciesNamed names (decl_dependencies theory decl) → Declares first here decl next → NextAlike here decl next
    declare_alike here next (IncludeDecl included) h w d =
        let x : Name = first_name included.path in
        let n : names x ≡ true = w (at_written included.path included) (inl refl) in
        record {
          declares = record { from = some_alike x n d.from; is = d.is ∙ ap (λ l. record here { includes = l }) (inclusion_alike here.includes x n) };
          is = subst HereNamed (sym d.is) (inclusion_named here x n h);
        }
    declare_alike here next (ConstDecl name class value) h w d =
        record {
          declares = record {
            is_new = d.is_new;
            class = d.class;
            value = d.value;
            class_stands = class_alike (scope_in first here) (scope_in second here) (stands_for_alike names first second alike here.own here.includes h.includes_are) class d.class d.class_stands;
            value_stands = if_written_alike here d.class value d.value h d.value_stands;
            is = d.is;
          };
          is = subst HereNamed (sym d.is) (record { named = h.named; includes_are = h.includes_are; structures_are = h.structures_are });
        }
    declare_alike here next (StructDecl name domain assigns) h w d =
        let x : Name = first_name domain.path in
        let n : names x ≡ true = w (at_written name.path domain) (inl refl) in
        record {
          declares = record {
            is_new = d.is_new;
            from = some_alike x n d.from;
            along = d.along;
            map_is = map_alike (Some here) x here.name here.own here.includes (Some (first_name name.path)) name.span name.path names first second alike
                (record { domain_is = n; includes_are = h.includes_are; structures_are = h.structures_are })
                (record { coherent = coherent; theory = d.from }) assigns d.along
                (assigns_by names (Some theory) (Some here) (own_words here h.named) (Some (first_name name.path)) name.path assigns (λ k m. w k (inr m))) d.map_is;
            is = d.is ∙ structure_same here name x d.along n;
          };
          is = subst HereNamed (sym d.is) (structure_named here name x d.along n h);
        }

    pub declared_alike : (here face : TheoryFace) (decls : List Decl) → HereNamed here → DependenciesNamed names (flat_map (decl_dependencies theory) decls) → DeclaresAll first here decls face → DeclaresAll second here decls face
    declared_alike here face [] h w d = d
    declared_alike here face (decl ∷ decls) h w d =
        let n = declare_alike here d.0 decl h (λ k m. w k (append_left (decl_dependencies theory decl) (flat_map (decl_dependencies theory) decls) k m)) d.1 in
        (d.0, n.declares, declared_alike d.0 face decls n.is (λ k m. w k (append_right (decl_dependencies theory decl) (flat_map (decl_dependencies theory) decls) k m)) d.2)

    pub empty_named : HereNamed (empty_theory theory)
    empty_named = record { named = refl; includes_are = λ x m. absurd m; structures_are = λ x m. absurd m }
