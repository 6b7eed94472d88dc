-- What a module that is ready reaches, by the reaches that are kept with standing verdicts.
use Rattle.std.proofs.Common.{◌≡◌, ℕ, suc, Bool, true, false, List, [], ◌∷◌, ◌++◌, take, slice_get, Option, Some, None, Bor, is_some, IfSome, MatchOption, ◌⊎◌, ◌||◌, inl, inr, refl, sym, ap, ◌∙◌, subst, true≢false}
use Rattle.std.specs.Option.{option_copied}
use Rattle.std.proofs.lemmas.Bool.{false_from_ne_true}
use Rattle.std.proofs.lemmas.Option.{same_Some}
use Rattle.name_meaning.specs.Names.{Name, same_name, is_among, is_ascending}
use Rattle.name_meaning.specs.Rows.{Rows, row_of}
use Rattle.edit_log_meaning.specs.Log.{Library, is_present}
use Rattle.module_graph_meaning.specs.Walks.{Dependencies, direct}
use Rattle.module_graph_meaning.specs.Reach.{reach}
use Rattle.module_graph_meaning.specs.Graphs.{Graph, HoldsDependencies}
use Rattle.module_graph_meaning.specs.Subject.{Subject}
use Rattle.list_laws.proofs.Members.{Member, place_member, append_left, append_right}
use Rattle.list_laws.proofs.Places.{take_more}
use Rattle.name_laws.proofs.Order.{among_member}
use Rattle.module_graph_laws.proofs.Reaching.{reach_ascending, reach_first}
use Rattle.module_graph_laws.proofs.Walking.{depends_present}
use Rattle.module_graph_laws.proofs.Graphs.{held_present}
use Rattle.board_meaning.specs.Events.{History, library_after}
use Rattle.board_meaning.specs.Standing.{stands}
use Rattle.board_meaning.specs.Legal.{IsLegal}
use Rattle.board_laws.proofs.Standings.{standing_grounded}
use Rattle.module_graph.specs.ReachParts.{IsReachAmong, AreParts}
use Rattle.module_graph.proofs.PartsOfReach.{bare_reach, parts_none, parts_add, parts_more}
use Rattle.verdict_board.specs.declared.stage.Stage.{Stage}
use Rattle.verdict_board.specs.Stages.{standing_in, AreStages}
use Rattle.verdict_board.proofs.Reports.{absent_row, inputs_reached}
use Rattle.verdict_board.proofs.Ready.{standing_told}
use Rattle.verdict_board.proofs.Transitions.{present_of}

module _ {Answer Meaning : Type 0} (subject : Subject Meaning) (meaning : Answer → Meaning) (H : History) (l : IsLegal subject.dependencies H) (stages : Rows (Stage Answer)) (k : AreStages subject meaning H stages) (n : Name) where
  abbrev D : Dependencies
  D = subject.dependencies

  abbrev L : Library
  L = library_after H

  pub absent_stands_not : row_of stages n ≡ None → stands D H n ≡ false
  absent_stands_not h =
      false_from_ne_true (stands D H n) (λ t. true≢false (sym (present_of D L n (standing_grounded D H l n t)) ∙ absent_row subject meaning H l stages k n h))

  -- a name that is absent reaches another one only where it is that one
  pub absent_reaches : row_of stages n ≡ None → (name : Name) → same_name name n ≡ is_among (reach D L n) name
  unfolding is_among
  absent_reaches h name =
      let bare = bare_reach D L n (λ d m. true≢false (sym (depends_present D L n d m) ∙ absent_row subject meaning H l stages k n h)) in
      one (same_name name n) ∙ ap (λ names. is_among names name) bare
    where
      one : (b : Bool) → b ≡ (b || false)
      one true = refl
      one false = refl

  -- what is kept with a stage
  pub kept_told : (stage : Stage Answer) (kept : Option (Bor (List Name))) → row_of stages n ≡ Some stage → option_copied kept ≡ standing_in stage
      → MatchOption kept (stands D H n ≡ false) (λ names. names.now ≡ reach D L n)
  kept_told stage None h e = standing_told subject meaning H l n stage (k.staged n stage h) ∙ ap is_some (sym e)
  kept_told stage (Some names) h e = inputs_reached subject meaning H l stages k n stage names.now h (sym e)

module _ (D : Dependencies) (H : History) (n : Name) where
  -- a name that is absent reaches itself alone
  pub absent_reach : (is_present (library_after H) n ≡ true → stands D H n ≡ true) → stands D H n ≡ false → n ∷ [] ≡ reach D (library_after H) n
  absent_reach f s = bare_reach D (library_after H) n (λ d m. true≢false (sym (f (depends_present D (library_after H) n d m)) ∙ s))

module _ (D : Dependencies) (L : Library) where
  -- the longer one of two is one of them
  pub longer_among : (names : List Name) (n : Name) (first second longer : Option (Bor (List Name))) (Q : Type 0) → Member n names → (longer ≡ first) ⊎ (longer ≡ second) → IfSome first (λ known. IsReachAmong D L names known.now)
      → MatchOption second Q (λ known. known.now ≡ reach D L n) → IfSome longer (λ known. IsReachAmong D L names known.now)
  longer_among names n first second longer Q m (inl e) f g = subst (λ (z : Option (Bor (List Name))). IfSome z (λ known. IsReachAmong D L names known.now)) (sym e) f
  longer_among names n first second longer Q m (inr e) f g = subst (λ (z : Option (Bor (List Name))). IfSome z (λ known. IsReachAmong D L names known.now)) (sym e) (by second Q g)
    where
      by : (second : Option (Bor (List Name))) (Q : Type 0) → MatchOption second Q (λ known. known.now ≡ reach D L n) → IfSome second (λ known. IsReachAmong D L names known.now)
      by None Q q = tt
      by (Some known) Q q = (n, m, q)

  pub among_ascending : (names list : List Name) → IsReachAmong D L names list → is_ascending list ≡ true
  among_ascending names list r = ap is_ascending r.2 ∙ reach_ascending D L r.0

  pub known_ascending : (names : List Name) (known : Option (Bor (List Name))) → IfSome known (λ list. IsReachAmong D L names list.now) → IfSome known (λ list. is_ascending list.now ≡ true)
  known_ascending names None r = tt
  known_ascending names (Some list) r = among_ascending names list.now r

  -- ---- the parts, one name after another

  pub record ArePartsTo (names : List Name) (known : Option (Bor (List Name))) (i : ℕ) (parts : List (List Name)) : Type 0 where
    pub are : AreParts D L names (take i names) parts
    pub first : IfSome known (λ list. Member list.now parts)

  module _ (names : List Name) (known : Option (Bor (List Name))) (r : IfSome known (λ list. IsReachAmong D L names list.now)) where
    pub parts_first : (parts : List (List Name)) → MatchOption known (parts ≡ []) (λ list. parts ≡ list.now ∷ []) → ArePartsTo names known 0 parts
    parts_first parts e = by known r e
      where
        by : (known : Option (Bor (List Name))) → IfSome known (λ list. IsReachAmong D L names list.now) → MatchOption known (parts ≡ []) (λ list. parts ≡ list.now ∷ []) → ArePartsTo names known 0 parts
        by None r e = record { are = subst (AreParts D L names []) (sym e) (parts_none D L names); first = tt }
        by (Some list) r e = record {
          are = subst (AreParts D L names []) (sym e) (parts_add D L names [] [] list.now (parts_none D L names) r);
          first = subst (Member list.now) (sym e) (inl refl);
        }

    module _ (i : ℕ) (parts : List (List Name)) (k : ArePartsTo names known i parts) (n : Name) (here : slice_get names i ≡ Some n) where
      -- the name is in what is known
      pub parts_skip : (b : Bool) → MatchOption known (b ≡ false) (λ list. b ≡ is_among list.now n) → b ≡ true → ArePartsTo names known (suc i) parts
      parts_skip b e t = by known e k.first
        where
          by : (o : Option (Bor (List Name))) → MatchOption o (b ≡ false) (λ list. b ≡ is_among list.now n) → IfSome o (λ list. Member list.now parts) → ArePartsTo names known (suc i) parts
          by None e f = absurd (true≢false (sym t ∙ e))
          by (Some list) e f = record {
            are = subst (λ done. AreParts D L names done parts) (sym (take_more names i n here)) (parts_more D L names (take i names) parts n k.are list.now f (among_member list.now n (sym e ∙ t)));
            first = k.first;
          }

      pub parts_next : (part : List Name) → part ≡ reach D L n → ArePartsTo names known (suc i) (parts ++ part ∷ [])
      parts_next part e = record {
        are = subst (λ done. AreParts D L names done (parts ++ part ∷ [])) (sym (take_more names i n here))
            (parts_more D L names (take i names) (parts ++ part ∷ []) n (parts_add D L names (take i names) parts part k.are (n, place_member names i n here, e))
            part (append_right parts (part ∷ []) part (inl refl)) (subst (Member n) (sym e) (reach_first D L n)));
        first = kept known k.first;
      }
        where
          kept : (o : Option (Bor (List Name))) → IfSome o (λ list. Member list.now parts) → IfSome o (λ list. Member list.now (parts ++ part ∷ []))
          kept None m = tt
          kept (Some list) m = append_left parts (part ∷ []) list.now m

-- ---- the row of a present name

module _ (graph : Graph) (D : Dependencies) (L : Library) (holds : HoldsDependencies graph D L) (n : Name) (p : is_present L n ≡ true) where
  pub row_not_missing : None ≡ row_of graph n → ⊥
  row_not_missing e = true≢false (sym p ∙ sym (held_present graph D L holds n) ∙ ap is_some (sym e))

  pub row_is : (row : List Name) → Some row ≡ row_of graph n → row ≡ direct D L n
  row_is row e = same_Some _ _ (e ∙ holds.rows n p)
