-- How a judgement is written with printed expressions: in one line, a colon between spaces (this profile).
use Rattle.std.specs.Prelude.{ℕ, List, ◌++◌, codes}
use Rattle.text_meaning.specs.Trees.{Judgement}
use Rattle.print_meaning.specs.PrintedModules.{expr_text}

-- the text of a judgement: the printed texts of its two expressions, and ` : ` between them
unfoldable pub judgement_text : Judgement → List ℕ
judgement_text j = expr_text j.object ++ (codes " : " ++ expr_text j.family)
