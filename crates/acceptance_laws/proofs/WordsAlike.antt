-- Words and rows of them mean the same over environments that agree on what they name.
use Rattle.std.proofs.Common.{◌≡◌, ℕ, suc, Bool, true, false, cond, ◌||◌, List, [], ◌∷◌, Option, Some, None, inl, inr, refl, sym, ap, ◌∙◌, subst}
use Rattle.std.specs.Prelude.{⊤}
use Rattle.name_meaning.specs.Names.{Name, Path, same_name}
use Rattle.list_laws.proofs.Members.{Member}
use Rattle.library_meaning.specs.Faces.{StructureFace, TheoryFace, Known, IsAbsent, IsRefused, IsTheory, IsView, Environment, theory_of, structure_of, includes_of}
use Rattle.library_meaning.specs.Closure.{sees}
use Rattle.library_meaning.specs.Words.{Link, structure_link, followed_by, behind_structure, structures_of, link_by, is_empty, structures_link, Meaning, Means, Faulty, or_unknown, simple_word, longer_word, is_here, word_meaning, meets, RowMeaning, RowMeans, RowFaulty, EndsApart, next_by, row_from, first_by, row_meaning}
use Rattle.text_meaning.specs.Trees.{Written}
use Rattle.link_meaning.specs.Assignments.{paths_of}
use Rattle.acceptance_laws.proofs.Alike.{Alike, DomainsNamed, theory_alike, structures_named}
use Rattle.coherence_laws.proofs.TheoriesHold.{structure_found}
use Rattle.std.proofs.lemmas.Option.{same_Some}

-- the first name of a word is among these, unless the word is one of the theory's own
abbrev pub WordNamed : (Name → Bool) → Option TheoryFace → Path → Type 0
WordNamed names here [] = ⊤
WordNamed names here (name ∷ []) = names name ≡ true
WordNamed names here (name ∷ next ∷ path) = is_here here name ≡ false → names name ≡ true

abbrev pub WordsNamed : (Name → Bool) → Option TheoryFace → List Written → Type 0
WordsNamed names here words = (word : Written) → Member word words → WordNamed names here word.path

module _ (names : Name → Bool) (first second : Environment) (alike : Alike names first second) where
  -- ---- rows of structures

  link_alike_by : (theory : Name) (path : Path) (o : Option StructureFace)
      → ((structure : StructureFace) → o ≡ Some structure → structures_link first structure.domain (structures_of (theory_of first structure.domain)) path ≡ structures_link second structure.domain (structures_of (theory_of second structure.domain)) path)
      → link_by theory o (is_empty path) (λ (domain : Name). structures_link first domain (structures_of (theory_of first domain)) path)
      ≡ link_by theory o (is_empty path) (λ (domain : Name). structures_link second domain (structures_of (theory_of second domain)) path)
  link_alike_by theory path None f = refl
  link_alike_by theory path (Some structure) f = ap (λ inner. cond (is_empty path) (Some (structure_link theory structure)) (behind_structure inner (structure_link theory structure))) (f structure refl)

  pub links_alike : (path : Path) (theory : Name) (structures : List StructureFace) → DomainsNamed names structures → structures_link first theory structures path ≡ structures_link second theory structures path
  unfolding structures_link
  links_alike [] theory structures d = refl
  links_alike (name ∷ path) theory structures d =
      link_alike_by theory path (structure_of structures name)
      (λ structure e.
      let n = d structure (structure_found structures name structure e).0 in
      links_alike path structure.domain (structures_of (theory_of first structure.domain)) (structures_named names first second alike structure.domain n)
      ∙ ap (λ o. structures_link second structure.domain (structures_of o) path) (theory_alike names first second alike structure.domain n))

  behind_by : (o : Option Link) (outer link : Link) → behind_structure o outer ≡ Some link → (inner : Link) × (o ≡ Some inner) × (link.domain ≡ inner.domain)
  behind_by None outer link h = absurd (cc)
  behind_by (Some inner) outer link h = (inner, refl, ap (λ (z : Link). z.domain) (sym (same_Some _ _ h)))

  domain_by : (theory : Name) (o : Option StructureFace) (last : Bool) (inner : Name → Option Link) (link : Link) → ((structure : StructureFace) → o ≡ Some structure → names structure.domain ≡ true)
      → ((structure : StructureFace) (found : Link) → o ≡ Some structure → inner structure.domain ≡ Some found → names found.domain ≡ true)
      → link_by theory o last inner ≡ Some link → names link.domain ≡ true
  domain_by theory None last inner link f g h = absurd (cc)
  domain_by theory (Some structure) true inner link f g h = subst (λ (z : Link). names z.domain ≡ true) (same_Some _ _ h) (f structure refl)
  domain_by theory (Some structure) false inner link f g h =
      let b = behind_by (inner structure.domain) (structure_link theory structure) link h in
      ap names b.2 ∙ g structure b.0 refl b.1

  pub link_domain : (path : Path) (theory : Name) (structures : List StructureFace) (link : Link) → DomainsNamed names structures → structures_link first theory structures path ≡ Some link → names link.domain ≡ true
  unfolding structures_link
  link_domain [] theory structures link d h = absurd (cc)
  link_domain (name ∷ path) theory structures link d h =
      domain_by theory (structure_of structures name) (is_empty path) (λ (domain : Name). structures_link first domain (structures_of (theory_of first domain)) path) link
      (λ structure e. d structure (structure_found structures name structure e).0)
      (λ structure found e g.
      link_domain path structure.domain (structures_of (theory_of first structure.domain)) found
      (structures_named names first second alike structure.domain (d structure (structure_found structures name structure e).0)) g) h

  -- ---- one word

  unknown_by : (o : Option Link) (link : Link) → or_unknown o ≡ Means link → o ≡ Some link
  unknown_by None link h = absurd (cc)
  unknown_by (Some found) link h = ap Some (same h)
    where
      same : {x y : Link} → Means x ≡ Means y → x ≡ y
      same q = cc

  module _ (here : Option TheoryFace) (domains : DomainsNamed names (structures_of here)) where
    longer_alike : (name : Name) (path : Path) (known : Known) → names name ≡ true → first name ≡ known → longer_word first name known path ≡ longer_word second name known path
    longer_alike name path IsAbsent n e = refl
    longer_alike name path IsRefused n e = refl
    longer_alike name path (IsTheory face) n e = ap or_unknown (links_alike path name face.structures (λ structure m. alike.domains name face structure n e m))
    longer_alike name path (IsView view) n e = refl

    own_or_longer : (name next : Name) (path : Path) (b : Bool) → is_here here name ≡ b → (b ≡ false → names name ≡ true)
        → cond b (or_unknown (structures_link first name (structures_of here) (next ∷ path))) (longer_word first name (first name) (next ∷ path))
        ≡ cond b (or_unknown (structures_link second name (structures_of here) (next ∷ path))) (longer_word second name (second name) (next ∷ path))
    own_or_longer name next path true e n = ap or_unknown (links_alike (next ∷ path) name (structures_of here) domains)
    own_or_longer name next path false e n = longer_alike name (next ∷ path) (first name) (n refl) refl ∙ ap (λ k. longer_word second name k (next ∷ path)) (alike.same name (n refl))

    pub word_alike : (path : Path) → WordNamed names here path → word_meaning first here path ≡ word_meaning second here path
    word_alike [] w = refl
    word_alike (name ∷ []) w = ap simple_word (alike.same name w)
    word_alike (name ∷ next ∷ path) w = own_or_longer name next path (is_here here name) refl (λ e. w e)

    simple_domain : (name : Name) (known : Known) (link : Link) → names name ≡ true → first name ≡ known → simple_word known ≡ Means link → names link.domain ≡ true
    simple_domain name IsAbsent link n e h = absurd (cc)
    simple_domain name IsRefused link n e h = absurd (cc)
    simple_domain name (IsTheory face) link n e h = absurd (cc)
    simple_domain name (IsView view) link n e h = subst (λ (z : Link). names z.domain ≡ true) (same h) (alike.ends name view n e)
      where
        same : {x y : Link} → Means x ≡ Means y → x ≡ y
        same q = cc

    longer_domain : (name : Name) (path : Path) (known : Known) (link : Link) → names name ≡ true → first name ≡ known → longer_word first name known path ≡ Means link → names link.domain ≡ true
    longer_domain name path IsAbsent link n e h = absurd (cc)
    longer_domain name path IsRefused link n e h = absurd (cc)
    longer_domain name path (IsTheory face) link n e h =
        link_domain path name face.structures link (λ structure m. alike.domains name face structure n e m) (unknown_by (structures_link first name face.structures path) link h)
    longer_domain name path (IsView view) link n e h = absurd (cc)

    own_domain : (name next : Name) (path : Path) (link : Link) (b : Bool) → (b ≡ false → names name ≡ true)
        → cond b (or_unknown (structures_link first name (structures_of here) (next ∷ path))) (longer_word first name (first name) (next ∷ path)) ≡ Means link → names link.domain ≡ true
    own_domain name next path link true n h = link_domain (next ∷ path) name (structures_of here) link domains (unknown_by (structures_link first name (structures_of here) (next ∷ path)) link h)
    own_domain name next path link false n h = longer_domain name (next ∷ path) (first name) link (n refl) refl h

    pub word_domain : (path : Path) (link : Link) → WordNamed names here path → word_meaning first here path ≡ Means link → names link.domain ≡ true
    word_domain [] link w h = absurd (cc)
    word_domain (name ∷ []) link w h = simple_domain name (first name) link w refl h
    word_domain (name ∷ next ∷ path) link w h = own_domain name next path link (is_here here name) (λ e. w e) h

    -- ---- a row

    meets_alike : (so_far link : Link) → names link.domain ≡ true → meets first so_far link ≡ meets second so_far link
    meets_alike so_far link n = ap (λ o. same_name so_far.codomain link.domain || sees (includes_of o) so_far.codomain) (theory_alike names first second alike link.domain n)

    next_alike : (index : ℕ) (so_far : Link) (meaning : Meaning) (f g : Link → RowMeaning) → ((link : Link) → meaning ≡ Means link → names link.domain ≡ true) → ((link : Link) → f link ≡ g link)
        → next_by first index so_far meaning f ≡ next_by second index so_far meaning g
    next_alike index so_far (Faulty fault) f g d e = refl
    next_alike index so_far (Means link) f g d e =
        ap (λ b. cond b (f (followed_by so_far link)) (RowFaulty index EndsApart)) (meets_alike so_far link (d link refl))
        ∙ ap (λ r. cond (meets second so_far link) r (RowFaulty index EndsApart)) (e (followed_by so_far link))

    row_from_alike : (words : List Written) → WordsNamed names here words → (index : ℕ) (so_far : Link) → row_from first here index so_far (paths_of words) ≡ row_from second here index so_far (paths_of words)
    unfolding row_from
    row_from_alike [] w index so_far = refl
    row_from_alike (word ∷ words) w index so_far =
        next_alike index so_far (word_meaning first here word.path) (λ link. row_from first here (suc index) link (paths_of words)) (λ link. row_from second here (suc index) link (paths_of words))
        (λ link e. word_domain word.path link (w word (inl refl)) e) (λ link. row_from_alike words (λ x m. w x (inr m)) (suc index) link)
        ∙ ap (λ m. next_by second index so_far m (λ (link : Link). row_from second here (suc index) link (paths_of words))) (word_alike word.path (w word (inl refl)))

    first_alike : (meaning : Meaning) (f g : Link → RowMeaning) → ((link : Link) → f link ≡ g link) → first_by meaning f ≡ first_by meaning g
    first_alike (Faulty fault) f g e = refl
    first_alike (Means link) f g e = e link

    pub row_alike : (words : List Written) → WordsNamed names here words → row_meaning first here (paths_of words) ≡ row_meaning second here (paths_of words)
    unfolding row_meaning
    row_alike [] w = refl
    row_alike (word ∷ words) w =
        first_alike (word_meaning first here word.path) (λ link. row_from first here 1 link (paths_of words)) (λ link. row_from second here 1 link (paths_of words)) (λ link. row_from_alike words (λ x m. w x (inr m)) 1 link)
        ∙ ap (λ m. first_by m (λ (link : Link). row_from second here 1 link (paths_of words))) (word_alike word.path (w word (inl refl)))

    -- a row leads from where its first word does
    next_from : (index : ℕ) (so_far : Link) (meaning : Meaning) (f : Link → RowMeaning) (link : Link) → ((next : Link) → f next ≡ RowMeans link → link.domain ≡ next.domain) → next_by first index so_far meaning f ≡ RowMeans link → link.domain ≡ so_far.domain
    next_from index so_far (Faulty fault) f link g h = absurd (cc)
    next_from index so_far (Means next) f link g h = by (meets first so_far next) h
      where
        by : (b : Bool) → cond b (f (followed_by so_far next)) (RowFaulty index EndsApart) ≡ RowMeans link → link.domain ≡ so_far.domain
        by true q = g (followed_by so_far next) q
        by false q = absurd (cc)

    row_from_domain : (words : List Path) (index : ℕ) (so_far link : Link) → row_from first here index so_far words ≡ RowMeans link → link.domain ≡ so_far.domain
    unfolding row_from
    row_from_domain [] index so_far link h = ap (λ (z : Link). z.domain) (sym (rows_same h))
      where
        rows_same : {x y : Link} → RowMeans x ≡ RowMeans y → x ≡ y
        rows_same q = cc
    row_from_domain (word ∷ words) index so_far link h =
        next_from index so_far (word_meaning first here word) (λ next. row_from first here (suc index) next words) link (λ next q. row_from_domain words (suc index) next link q) h

    first_from : (meaning : Meaning) (f : Link → RowMeaning) (link : Link) → ((next : Link) → f next ≡ RowMeans link → link.domain ≡ next.domain) → first_by meaning f ≡ RowMeans link → (next : Link) × (meaning ≡ Means next) × (link.domain ≡ next.domain)
    first_from (Faulty fault) f link g h = absurd (cc)
    first_from (Means next) f link g h = (next, refl, g next h)

    pub row_domain : (words : List Written) (link : Link) → WordsNamed names here words → row_meaning first here (paths_of words) ≡ RowMeans link → names link.domain ≡ true
    unfolding row_meaning
    row_domain [] link w h = absurd (cc)
    row_domain (word ∷ words) link w h =
        let q = first_from (word_meaning first here word.path) (λ next. row_from first here 1 next (paths_of words)) link (λ next e. row_from_domain (paths_of words) 1 next link e) h in
        ap names q.2 ∙ word_domain word.path q.0 (w word (inl refl)) q.1
