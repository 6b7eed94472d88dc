-- What assignments give is typed; a constant behind the target of a sharing assignment is reached by that assignment alone.
use Rattle.std.proofs.Common.{◌≡◌, ◌<◌, Bool, true, false, List, [], ◌∷◌, ◌++◌, length, Option, Some, None, ◌&&◌, ◌||◌, inl, inr, refl, sym, ap, ap₂, ◌∙◌, subst, true≢false, arith}
use Rattle.std.specs.Prelude.{⊤}
use Rattle.std.specs.List.{list_any}
use Rattle.std.proofs.lemmas.Bool.{and_parts, not-true}
use Rattle.name_meaning.specs.Names.{Name, Path, same_name}
use Rattle.list_laws.proofs.Members.{Member, any_not}
use Rattle.library_meaning.specs.Faces.{flat_of}
use Rattle.library_meaning.specs.Closure.{sees}
use Rattle.library_meaning.specs.Words.{Link}
use Rattle.text_meaning.specs.Tokens.{Span}
use Rattle.text_meaning.specs.Trees.{Assign, IncludeAssign, StructAssign, ConstAssign}
use Rattle.link_meaning.specs.Assignments.{Setting, is_or_includes, codomain_sees, included_theories, structure_at, paths_of, Assigned, Covering, Sharing, Giving, is_beginning, overlap, is_free, with_target}
use Rattle.link_meaning.specs.AssignmentsRead.{AssignReads, AssignsRead}
use Rattle.link_meaning.specs.Passes.{rest_behind, Reached, ByStructure, by_rest, by_equal, equal_paths, reached_by}
use Rattle.link_laws.specs.LinkTargets.{target_of}
use Rattle.link_laws.proofs.ImagesHold.{SettingHolds}
use Rattle.link_laws.proofs.AssignedHold.{rest_splits}
use Rattle.face_typing.proofs.LinkInterface.{SettingTyped}
use Rattle.morphism_words_typing.proofs.WordsTyped.{IsProperTranslation, row_translates}
use Rattle.name_laws.proofs.Order.{same_sound, same_itself}

-- ---- beginnings

beginning_by : (b : Bool) (name other : Name) (rest path : Path) → same_name name other ≡ b → (is_beginning rest path ≡ true → (x : Path) × (path ≡ rest ++ x)) → (b && is_beginning rest path) ≡ true → (x : Path) × (other ∷ path ≡ (name ∷ rest) ++ x)
beginning_by true name other rest path e f h = let r = f h in (r.0, ap₂ (λ n p. n ∷ p) (sym (same_sound name other e)) r.1)
beginning_by false name other rest path e f h = absurd (true≢false (sym h))

pub beginning_is : (path other : Path) → is_beginning path other ≡ true → (x : Path) × (other ≡ path ++ x)
unfolding is_beginning
beginning_is [] other h = (other, refl)
beginning_is (name ∷ rest) [] h = absurd (true≢false (sym h))
beginning_is (name ∷ rest) (other ∷ path) h = beginning_by (same_name name other) name other rest path refl (beginning_is rest path) h

head_of : {x y : Name} {xs ys : Path} → x ∷ xs ≡ y ∷ ys → x ≡ y
head_of h = cc

tail_of : {x y : Name} {xs ys : Path} → x ∷ xs ≡ y ∷ ys → xs ≡ ys
tail_of h = cc

both_begin : (n o : Name) (a b : Path) → n ≡ o → (is_beginning a b || is_beginning b a) ≡ true → (is_beginning (n ∷ a) (o ∷ b) || is_beginning (o ∷ b) (n ∷ a)) ≡ true
unfolding is_beginning
both_begin n o a b e h =
    let one : same_name n o ≡ true = ap (λ z. same_name z o) e ∙ same_itself o in
    let two : same_name o n ≡ true = ap (same_name o) e ∙ same_itself o in
    ap₂ (λ x y. (x && is_beginning a b) || (y && is_beginning b a)) one two ∙ h

-- of two beginnings of one path one begins the other
pub two_beginnings : (a b x y : Path) → a ++ x ≡ b ++ y → (is_beginning a b || is_beginning b a) ≡ true
unfolding is_beginning
two_beginnings [] b x y e = refl
two_beginnings (n ∷ a) [] x y e = refl
two_beginnings (n ∷ a) (o ∷ b) x y e = both_begin n o a b (head_of e) (two_beginnings a b x y (tail_of e))

rest_by : (n : Name) (target rest : Path) → rest_behind target (target ++ rest) ≡ Some rest → rest_behind (n ∷ target) ((n ∷ target) ++ rest) ≡ Some rest
unfolding rest_behind
rest_by n target rest h = ap (λ b. elim b as (λ _. Option Path) [ true ↦ rest_behind target (target ++ rest) | false ↦ None ]) (same_itself n) ∙ h

pub rest_appended : (target rest : Path) → 0 < length rest → rest_behind target (target ++ rest) ≡ Some rest
unfolding rest_behind
rest_appended [] [] l = absurd (omega (arith, l))
rest_appended [] (name ∷ rest) l = refl
rest_appended (n ∷ target) rest l = rest_by n target rest (rest_appended target rest l)

-- ---- targets are free of earlier ones

abbrev pub TargetsFree : List Path → List Assigned → Type 0
TargetsFree earlier [] = ⊤
TargetsFree earlier (Covering first by ∷ assigned) = TargetsFree earlier assigned
TargetsFree earlier (Sharing target structure first by ∷ assigned) = (is_free earlier target ≡ true) × TargetsFree (target ∷ earlier) assigned
TargetsFree earlier (Giving target value ∷ assigned) = (is_free earlier target ≡ true) × TargetsFree (target ∷ earlier) assigned

-- a later target does not overlap an earlier one
later_free : (assigned : List Assigned) (earlier : List Path) (target other : Path) (structure : Link) (first : Span) (by : Link) → TargetsFree earlier assigned → Member (Sharing target structure first by) assigned → Member other earlier → overlap target other ≡ false
later_free [] earlier target other structure first by f m n = absurd m
later_free (Covering s l ∷ assigned) earlier target other structure first by f (inl e) n = absurd (cc)
later_free (Covering s l ∷ assigned) earlier target other structure first by f (inr m) n = later_free assigned earlier target other structure first by f m n
later_free (Giving t v ∷ assigned) earlier target other structure first by f (inl e) n = absurd (cc)
later_free (Giving t v ∷ assigned) earlier target other structure first by f (inr m) n = later_free assigned (t ∷ earlier) target other structure first by f.1 m (inr n)
later_free (Sharing t k s l ∷ assigned) earlier target other structure first by f (inl e) n =
    let same : target ≡ t = targets e in
    any_not (overlap target) earlier other (not-true (list_any (overlap target) earlier) (subst (λ z. is_free earlier z ≡ true) (sym same) f.0)) n
  where
    targets : Sharing target structure first by ≡ Sharing t k s l → target ≡ t
    targets q = cc
later_free (Sharing t k s l ∷ assigned) earlier target other structure first by f (inr m) n = later_free assigned (t ∷ earlier) target other structure first by f.1 m (inr n)

-- ---- what reaches a constant behind a target

apart : (target other rest x : Path) → overlap target other ≡ false → other ++ x ≡ target ++ rest → ⊥
apart target other rest x f e = true≢false (sym (two_beginnings target other rest x (sym e)) ∙ f)

rest_none : (target other rest : Path) (o : Option Path) → rest_behind other (target ++ rest) ≡ o → overlap target other ≡ false → o ≡ None
rest_none target other rest None e f = refl
rest_none target other rest (Some x) e f = absurd (apart target other rest x f (sym (rest_splits other (target ++ rest) x e).0))

equal_by : (b : Bool) (other path : Path) → is_beginning other path ≡ b → elim b as (λ _. Bool) [ true ↦ is_beginning path other | false ↦ false ] ≡ true → b ≡ true
equal_by true other path e h = refl
equal_by false other path e h = absurd (true≢false (sym h))

equal_false : (target other rest : Path) (b : Bool) → equal_paths other (target ++ rest) ≡ b → overlap target other ≡ false → b ≡ false
equal_false target other rest false e f = refl
equal_false target other rest true e f =
    let begins = equal_by (is_beginning other (target ++ rest)) other (target ++ rest) refl e in
    let r = beginning_is other (target ++ rest) begins in
    absurd (apart target other rest r.0 f (sym r.1))

pub reached_behind : (assigned : List Assigned) (earlier : List Path) (target rest : Path) (structure : Link) (first : Span) (by : Link) → TargetsFree earlier assigned → Member (Sharing target structure first by) assigned → 0 < length rest
    → reached_by assigned (target ++ rest) ≡ ByStructure target rest structure first by
unfolding reached_by
reached_behind [] earlier target rest structure first by f m l = absurd m
reached_behind (Covering s k ∷ assigned) earlier target rest structure first by f (inl e) l = absurd (cc)
reached_behind (Covering s k ∷ assigned) earlier target rest structure first by f (inr m) l = reached_behind assigned earlier target rest structure first by f m l
reached_behind (Giving t v ∷ assigned) earlier target rest structure first by f (inl e) l = absurd (cc)
reached_behind (Giving t v ∷ assigned) earlier target rest structure first by f (inr m) l =
    ap (λ b. by_equal b t v (reached_by assigned (target ++ rest))) (equal_false target t rest (equal_paths t (target ++ rest)) refl (later_free assigned (t ∷ earlier) target t structure first by f.1 m (inl refl)))
    ∙ reached_behind assigned (t ∷ earlier) target rest structure first by f.1 m l
reached_behind (Sharing t k s b ∷ assigned) earlier target rest structure first by f (inr m) l =
    ap (λ o. by_rest t k s b o (reached_by assigned (target ++ rest))) (rest_none target t rest (rest_behind t (target ++ rest)) refl (later_free assigned (t ∷ earlier) target t structure first by f.1 m (inl refl)))
    ∙ reached_behind assigned (t ∷ earlier) target rest structure first by f.1 m l
reached_behind (Sharing t k s b ∷ assigned) earlier target rest structure first by f (inl e) l =
    ap (λ z. reached_first z (reached_by assigned (target ++ rest))) (sym e) ∙ ap (λ o. by_rest target structure first by o (reached_by assigned (target ++ rest))) (rest_appended target rest l)
  where
    reached_first : Assigned → Reached → Reached
    reached_first (Covering x y) otherwise = otherwise
    reached_first (Sharing x y z w) otherwise = by_rest x y z w (rest_behind x (target ++ rest)) otherwise
    reached_first (Giving x y) otherwise = by_equal (equal_paths x (target ++ rest)) x y otherwise

-- ---- what is read

module _ (setting : Setting) (ok : SettingHolds setting) (typed : SettingTyped setting) where
  abbrev pub Translates : Link → Type 0
  Translates by = IsProperTranslation (flat_of setting.environment by.domain) (target_of setting.environment setting.here by.codomain) by.map

  abbrev pub ItemTyped : Assigned → Type 0
  ItemTyped (Covering first by) = Translates by × (codomain_sees setting by.codomain ≡ true) × (sees (included_theories setting) by.domain ≡ true)
  ItemTyped (Sharing target structure first by) =
      (structure_at setting target ≡ Some structure) × Translates by × (codomain_sees setting by.codomain ≡ true) × (is_or_includes setting.environment by.domain structure.domain ≡ true)
  ItemTyped (Giving target value) = ⊤

  item_typed : (earlier : List Path) (assign : Assign) (assigned : Assigned) → AssignReads setting earlier assign assigned → ItemTyped assigned
  item_typed earlier (ConstAssign target value) assigned r = subst ItemTyped (sym r.2) tt
  item_typed earlier (IncludeAssign words) assigned r =
      let e = and_parts (codomain_sees setting (r.0).codomain) (sees (included_theories setting) (r.0).domain) r.2 in
      subst ItemTyped (sym r.3) (row_translates setting.environment ok.coherent typed.environment setting.here ok.here typed.here (paths_of words) r.0 r.1, e.0, e.1)
  item_typed earlier (StructAssign target words) assigned r =
      let e = and_parts (codomain_sees setting (r.1).codomain) (is_or_includes setting.environment (r.1).domain (r.0).domain) r.5 in
      subst ItemTyped (sym r.6) (r.2, row_translates setting.environment ok.coherent typed.environment setting.here ok.here typed.here (paths_of words) r.1 r.4, e.0, e.1)

  pub items_typed : (earlier : List Path) (assigns : List Assign) (assigned : List Assigned) → AssignsRead setting earlier assigns assigned → (a : Assigned) → Member a assigned → ItemTyped a
  items_typed earlier [] [] r a m = absurd m
  items_typed earlier [] (first ∷ rest) r a m = absurd r
  items_typed earlier (assign ∷ assigns) [] r a m = absurd r
  items_typed earlier (assign ∷ assigns) (first ∷ rest) r a (inl e) = subst ItemTyped (sym e) (item_typed earlier assign first r.0)
  items_typed earlier (assign ∷ assigns) (first ∷ rest) r a (inr m) = items_typed (with_target earlier assign) assigns rest r.1 a m

  target_free : (earlier : List Path) (assign : Assign) (first : Assigned) (rest : List Assigned) → AssignReads setting earlier assign first → TargetsFree (with_target earlier assign) rest → TargetsFree earlier (first ∷ rest)
  target_free earlier (ConstAssign target value) first rest r f = subst (λ z. TargetsFree earlier (z ∷ rest)) (sym r.2) (r.1, f)
  target_free earlier (IncludeAssign words) first rest r f = subst (λ z. TargetsFree earlier (z ∷ rest)) (sym r.3) f
  target_free earlier (StructAssign target words) first rest r f = subst (λ z. TargetsFree earlier (z ∷ rest)) (sym r.6) (r.3, f)

  pub targets_free : (earlier : List Path) (assigns : List Assign) (assigned : List Assigned) → AssignsRead setting earlier assigns assigned → TargetsFree earlier assigned
  targets_free earlier [] [] r = tt
  targets_free earlier [] (first ∷ rest) r = absurd r
  targets_free earlier (assign ∷ assigns) [] r = absurd r
  targets_free earlier (assign ∷ assigns) (first ∷ rest) r = target_free earlier assign first rest r.0 (targets_free (with_target earlier assign) assigns rest r.1)
