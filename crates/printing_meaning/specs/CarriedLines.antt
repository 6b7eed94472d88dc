-- The lines of carried judgements (this profile).
use Rattle.std.specs.Prelude.{ℕ, suc, List, ◌++◌, codes}
use Rattle.std.specs.Fmt.{decimal}
use Rattle.printing_meaning.specs.Printed.{end_of_line, named_at}
use Rattle.name_meaning.specs.Names.{Name}
use Rattle.lf_meaning.specs.Terms.{Object, Family}
use Rattle.printing_meaning.specs.Constants.{Seen}
use Rattle.printing_meaning.specs.PrintedTerms.{object_text, family_text}

-- A judgement is carried to this object and family; or the module is no accepted view; or the judgement breaks the
-- rule of this word at this place, counted in its text from 0.
pub data Carried : Type 0 where
  Carries : Object → Family → Carried
  NoView : Carried
  Ill : ℕ → List ℕ → Carried

-- `V @k carries M : A`, seen from the codomain; `V @k no-view`; or `V @k ill C RULE`, the column counted from 1.
abbrev pub carried_line : Name → ℕ → Seen → Carried → List ℕ
carried_line view version codomain (Carries object family) =
    named_at view version ++ codes " carries " ++ object_text codomain 0 object ++ codes " : " ++ family_text codomain 0 family ++ end_of_line
carried_line view version codomain NoView = named_at view version ++ codes " no-view" ++ end_of_line
carried_line view version codomain (Ill at rule) =
    named_at view version ++ codes " ill " ++ decimal (suc at) ++ codes " " ++ rule ++ end_of_line
