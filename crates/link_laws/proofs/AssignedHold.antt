-- What assignments give holds, and so does the value that is due to a constant.
use Rattle.std.proofs.Common.{◌≡◌, ◌<◌, Bool, true, false, cond, List, [], ◌∷◌, ◌++◌, length, Option, Some, None, inl, inr, refl, sym, ap, ◌∙◌, subst, arith}
use Rattle.std.specs.Prelude.{⊤}
use Rattle.std.proofs.lemmas.Bool.{and_parts}
use Rattle.name_meaning.specs.Names.{Name, Path, same_name}
use Rattle.lf_meaning.specs.Signatures.{Class, Value, SameAs, Declaration, Signature}
use Rattle.list_laws.proofs.Members.{Member, append_right}
use Rattle.translation_meaning.specs.Differ.{value_in}
use Rattle.library_meaning.specs.Faces.{theory_of, includes_of, own_part, own_parts}
use Rattle.library_meaning.specs.Holding.{ClassHolds, ValueHolds, OptionalValueHolds, AlikeClasses}
use Rattle.library_meaning.specs.Words.{Link}
use Rattle.text_meaning.specs.Tokens.{Span}
use Rattle.text_meaning.specs.Trees.{Expr, Assign, IncludeAssign, StructAssign, ConstAssign}
use Rattle.link_meaning.specs.Assignments.{Setting, is_or_includes, codomain_sees, structure_at, paths_of, Assigned, Covering, Sharing, Giving, with_target}
use Rattle.link_meaning.specs.AssignmentsRead.{AssignReads, AssignsRead}
use Rattle.link_meaning.specs.Passes.{rest_behind, Reached, ByNone, ByValue, ByStructure, by_rest, by_equal, equal_paths, reached_by, induced_constant}
use Rattle.link_meaning.specs.Equations.{IsCopied, IsUnassigned, OwnHasValue}
use Rattle.constant_laws.specs.HoldingLaws.{Grows}
use Rattle.constant_laws.specs.ExpansionHolds.{scope_signature}
use Rattle.constant_laws.proofs.Growing.{value_grows}
use Rattle.constant_laws.proofs.Expanding.{DeclaredHolds, value_holds}
use Rattle.constant_laws.proofs.Translating.{alike_through, alike_back, value_at_alike}
use Rattle.link_laws.specs.LinkTargets.{LinkHolds}
use Rattle.link_laws.proofs.WordsHold.{row_holds}
use Rattle.link_laws.proofs.ImagesHold.{AlikeHolds, Source, source_of, SettingHolds, link_image_holds}
use Rattle.std.proofs.lemmas.Option.{same_Some}
use Rattle.name_laws.proofs.Order.{same_sound}

-- ---- paths

rest_by : (b : Bool) (beginning path : Path) (rest : Path) → (Rest : Option Path) → cond b Rest None ≡ Some rest → (b ≡ true) × (Rest ≡ Some rest)
rest_by true beginning path rest o h = (refl, h)
rest_by false beginning path rest o h = absurd (cc)

pub rest_splits : (beginning path rest : Path) → rest_behind beginning path ≡ Some rest → (path ≡ beginning ++ rest) × (0 < length rest)
unfolding rest_behind
rest_splits [] [] rest h = absurd (cc)
rest_splits [] (name ∷ path) rest h = (same_Some _ _ h, subst (λ z. 0 < length z) (same_Some _ _ h) (omega arith))
rest_splits (name ∷ beginning) [] rest h = absurd (cc)
rest_splits (name ∷ beginning) (other ∷ path) rest h = by (same_name name other) refl h (rest_splits beginning path rest)
  where
    by : (b : Bool) → same_name name other ≡ b → elim b as (λ _. Option Path) [ true ↦ rest_behind beginning path | false ↦ None ] ≡ Some rest
        → (rest_behind beginning path ≡ Some rest → (path ≡ beginning ++ rest) × (0 < length rest)) → (other ∷ path ≡ (name ∷ beginning) ++ rest) × (0 < length rest)
    by true e g f = let q = f g in ((λ i. sym (same_sound name other e) i ∷ q.0 i), q.1)
    by false e g f = absurd (cc)

-- ---- what is reached is assigned

abbrev pub ReachedHolds : List Assigned → Path → Reached → Type 0
ReachedHolds assigned path ByNone = ⊤
ReachedHolds assigned path (ByValue target expression) = ⊤
ReachedHolds assigned path (ByStructure target rest structure first by) = Member (Sharing target structure first by) assigned × (rest_behind target path ≡ Some rest)

reached_more : (a : Assigned) (assigned : List Assigned) (path : Path) (reached : Reached) → ReachedHolds assigned path reached → ReachedHolds (a ∷ assigned) path reached
reached_more a assigned path ByNone h = tt
reached_more a assigned path (ByValue target expression) h = tt
reached_more a assigned path (ByStructure target rest structure first by) h = (inr h.0, h.1)

reached_rest : (assigned : List Assigned) (path target : Path) (structure : Link) (first : Span) (by : Link) (o : Option Path) (otherwise : Reached) → rest_behind target path ≡ o → ReachedHolds assigned path otherwise
    → ReachedHolds (Sharing target structure first by ∷ assigned) path (by_rest target structure first by o otherwise)
reached_rest assigned path target structure first by None otherwise e h = reached_more (Sharing target structure first by) assigned path otherwise h
reached_rest assigned path target structure first by (Some rest) otherwise e h = (inl refl, e)

reached_equal : (assigned : List Assigned) (path target : Path) (expression : Expr) (b : Bool) (otherwise : Reached) → ReachedHolds assigned path otherwise → ReachedHolds (Giving target expression ∷ assigned) path (by_equal b target expression otherwise)
reached_equal assigned path target expression true otherwise h = tt
reached_equal assigned path target expression false otherwise h = reached_more (Giving target expression) assigned path otherwise h

pub reached_holds : (assigned : List Assigned) (path : Path) → ReachedHolds assigned path (reached_by assigned path)
unfolding reached_by
reached_holds [] path = tt
reached_holds (Covering first by ∷ assigned) path = reached_more (Covering first by) assigned path (reached_by assigned path) (reached_holds assigned path)
reached_holds (Sharing target structure first by ∷ assigned) path = reached_rest assigned path target structure first by (rest_behind target path) (reached_by assigned path) refl (reached_holds assigned path)
reached_holds (Giving target expression ∷ assigned) path = reached_equal assigned path target expression (equal_paths target path) (reached_by assigned path) (reached_holds assigned path)

module _ (setting : Setting) (ok : SettingHolds setting) where
  -- ---- what is read

  abbrev pub ItemHolds : Assigned → Type 0
  ItemHolds (Covering first by) = LinkHolds setting.environment setting.here by × (codomain_sees setting by.codomain ≡ true)
  ItemHolds (Sharing target structure first by) =
      (structure_at setting target ≡ Some structure) × LinkHolds setting.environment setting.here by × (codomain_sees setting by.codomain ≡ true) × (is_or_includes setting.environment by.domain structure.domain ≡ true)
  ItemHolds (Giving target value) = ⊤

  item_holds : (earlier : List Path) (assign : Assign) (assigned : Assigned) → AssignReads setting earlier assign assigned → ItemHolds assigned
  item_holds earlier (ConstAssign target value) assigned r = subst ItemHolds (sym r.2) tt
  item_holds earlier (IncludeAssign words) assigned r =
      let e = and_parts (codomain_sees setting (r.0).codomain) _ r.2 in
      subst ItemHolds (sym r.3) (row_holds setting.environment ok.coherent setting.here ok.here (paths_of words) r.0 r.1, e.0)
  item_holds earlier (StructAssign target words) assigned r =
      let e = and_parts (codomain_sees setting (r.1).codomain) (is_or_includes setting.environment (r.1).domain (r.0).domain) r.5 in
      subst ItemHolds (sym r.6) (r.2, row_holds setting.environment ok.coherent setting.here ok.here (paths_of words) r.1 r.4, e.0, e.1)

  pub items_hold : (earlier : List Path) (assigns : List Assign) (assigned : List Assigned) → AssignsRead setting earlier assigns assigned → (a : Assigned) → Member a assigned → ItemHolds a
  items_hold earlier [] [] r a m = absurd m
  items_hold earlier [] (first ∷ rest) r a m = absurd r
  items_hold earlier (assign ∷ assigns) [] r a m = absurd r
  items_hold earlier (assign ∷ assigns) (first ∷ rest) r a (inl e) = subst ItemHolds (sym e) (item_holds earlier assign first r.0)
  items_hold earlier (assign ∷ assigns) (first ∷ rest) r a (inr m) = items_hold (with_target earlier assign) assigns rest r.1 a m

  -- ---- what is due

  pub data Due (signature : Signature) (class : Class) (d : Declaration) (value : Value) : Type 0 where
    Held : ValueHolds signature class value → Due signature class d value
    Copied : (structure : Name) → setting.structure ≡ Some structure → value ≡ SameAs (induced_constant setting structure d.name) → Due signature class d value

  module _ (assigned : List Assigned) (items : (a : Assigned) → Member a assigned → ItemHolds a) (signature : Signature) (grown : Grows (scope_signature setting.scope) signature) (declared : (d : Declaration) → Member d (scope_signature setting.scope) → DeclaredHolds signature d) where
    copied_due : (class : Class) (d : Declaration) (value : Value) (o : Option Name) → setting.structure ≡ o → IsCopied setting o d value → Due signature class d value
    copied_due class d value None e h = absurd h
    copied_due class d value (Some structure) e h = Copied structure e h

    unassigned_due : (class : Class) (definition : Option Value) (d : Declaration) (value : Value) → OptionalValueHolds signature class definition → IsUnassigned setting definition d value → Due signature class d value
    unassigned_due class None d value h u = copied_due class d value setting.structure refl u
    unassigned_due class (Some v) d value h u = Held (subst (ValueHolds signature class) (sym u) h)

    -- an alike value holds at the class
    pub alike_due : (class : Class) (d other : Declaration) (value : Value) → AlikeClasses class d.class → AlikeClasses d.class other.class → AlikeHolds (scope_signature setting.scope) other value → Due signature class d value
    alike_due class d other value k l a =
        Held (value_at_alike signature a.class class value (alike_through a.class other.class class a.alike (alike_through other.class d.class class (alike_back d.class other.class l) (alike_back class d.class k)))
        (value_grows (scope_signature setting.scope) signature grown a.class value a.holds))

    pub own_due : (reached : Reached) (class : Class) (definition : Option Value) (d : Declaration) (value : Value) → ReachedHolds assigned d.name.path reached → ClassHolds signature class → OptionalValueHolds signature class definition → AlikeClasses class d.class → Member d (own_part setting.environment setting.domain)
        → OwnHasValue setting reached class definition d value → Due signature class d value
    own_due ByNone class definition d value r c h k m o = unassigned_due class definition d value h o
    own_due (ByValue target expression) class definition d value r c h k m o = Held (value_holds setting.scope signature declared expression class value c o.0)
    own_due (ByStructure target rest structure first by) class definition d value r c h k m o =
        let i = items (Sharing target structure first by) r.0 in
        let p = rest_splits target d.name.path rest r.1 in
        let s : Source setting.environment ok.coherent structure.domain rest d = source_of setting.environment ok.coherent target setting.domain structure rest d i.0 m p.0 p.1 in
        alike_due class d s.source value k s.alike
        (link_image_holds setting ok by structure.domain s.source value i.1 i.2 i.3 (append_right (own_parts setting.environment (includes_of (theory_of setting.environment structure.domain))) (own_part setting.environment structure.domain) s.source s.own)
        (ap (value_in by.map) s.named ∙ o.0))
