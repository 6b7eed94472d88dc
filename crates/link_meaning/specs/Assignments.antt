-- The first pass over a link: its assignments in the order of the text, each with what it gives (this profile).
use Rattle.text_meaning.specs.Labels.{label_in}
use Rattle.std.specs.Prelude.{ℕ, Bool, true, false, List, [], ◌∷◌, ◌&&◌, ◌||◌, not, map, slice_get, is_some, Option, Some, None, Ok}
use Rattle.std.specs.List.{list_any}
use Rattle.name_meaning.specs.Names.{Name, Path, same_name}
use Rattle.library_meaning.specs.Faces.{TheoryFace, Environment, theory_of, includes_of, own_part}
use Rattle.library_meaning.specs.Closure.{sees}
use Rattle.library_meaning.specs.Resolution.{Scope, own_at}
use Rattle.library_meaning.specs.Words.{Link, structures_of, structures_link, WordFault, UnknownModule, RefusedModule, WrongKind, UnknownStructure, EndsApart, RowMeaning, RowMeans, RowFaulty, row_meaning}
use Rattle.text_meaning.specs.Tokens.{Span}
use Rattle.text_meaning.specs.Trees.{Expr, Written, Assign, IncludeAssign, StructAssign, ConstAssign}
use Rattle.elaborate_meaning.specs.Rules.{Rule}
use Rattle.answer_meaning.specs.Answers.{◌>>=◌}
use Rattle.link_meaning.specs.Refusals.{Outcome, refused, demand, or_refused}

-- A link from a theory into another. The theory that is being built is there for words that begin with its name; for a
-- view there is none. Values stand in the scope, which has the own part and the closure of the codomain, so far. A structure
-- has a name. The link's own name stands at a place, and is its label.
pub record Setting : Type 0 where
  pub environment : Environment
  pub here : Option TheoryFace
  pub domain : Name
  pub codomain : Name
  pub scope : Scope
  pub structure : Option Name
  pub span : Span
  pub label : Path

-- The theory is the other, or includes it.
abbrev pub is_or_includes : Environment → Name → Name → Bool
is_or_includes environment theory other = same_name theory other || sees (includes_of (theory_of environment theory)) other

-- The codomain is this theory, or includes it so far.
abbrev pub codomain_sees : Setting → Name → Bool
codomain_sees setting theory = same_name setting.codomain theory || sees setting.scope.includes theory

-- The theories that the domain includes.
abbrev pub included_theories : Setting → List Name
included_theories setting = includes_of (theory_of setting.environment setting.domain)

-- What an assignment gives. An inclusion covers theories by a link. A structure of the domain, with its own link into
-- the domain, is shared by another link. A constant is given a value. The first word of a link has a place.
pub data Assigned : Type 0 where
  Covering : (first : Span) → (by : Link) → Assigned
  Sharing : (target : Path) → (structure : Link) → (first : Span) → (by : Link) → Assigned
  Giving : (target : Path) → (value : Expr) → Assigned

-- The label of an assignment of this link.
abbrev pub label_along : Setting → Path → Path
label_along setting path = label_in setting.structure path

-- The first path is a beginning of the second, or equal to it.
unfoldable pub is_beginning : Path → Path → Bool
is_beginning [] path = true
is_beginning (name ∷ rest) [] = false
is_beginning (name ∷ rest) (other ∷ path) = same_name name other && is_beginning rest path

-- One of the two is a beginning of the other.
abbrev pub overlap : Path → Path → Bool
overlap path other = is_beginning path other || is_beginning other path

-- The place of a word of a row; of the empty row, which is never written, the beginning of the text.
abbrev pub place_of : Option Written → Span
place_of None = record { from = 0; to = 0 }
place_of (Some word) = word.span

-- The place of the word with this number, counted from 0.
abbrev pub word_place : List Written → ℕ → Span
word_place words index = place_of (slice_get words index)

-- The rule that a bad word breaks.
abbrev pub rule_of : WordFault → Rule
rule_of UnknownModule = Rule.UnknownModule
rule_of RefusedModule = Rule.DependencyRefused
rule_of WrongKind = Rule.WrongModuleKind
rule_of UnknownStructure = Rule.UnknownName
rule_of EndsApart = Rule.MorphismEnds

-- The link of a row of words, or the rule that its first bad word breaks, at that word.
abbrev pub or_word_fault : List Written → Path → RowMeaning → Outcome Link
or_word_fault words label (RowMeans link) = Ok link
or_word_fault words label (RowFaulty index fault) = refused (word_place words index) (rule_of fault) label

-- The words, without their places.
abbrev pub paths_of : List Written → List Path
paths_of words = map (λ (word : Written). word.path) words

-- The link that these words mean.
abbrev pub link_of : Setting → Path → List Written → Outcome Link
link_of setting label words = or_word_fault words label (row_meaning setting.environment setting.here (paths_of words))

-- The own link of a structure of the domain, or of a structure of the domain of such a one, and so on.
abbrev pub structure_at : Setting → Path → Option Link
structure_at setting path = structures_link setting.environment setting.domain (structures_of (theory_of setting.environment setting.domain)) path

-- A covering link leads from a theory that the domain includes into the codomain, or what it includes.
abbrev pub covering_ends : Setting → Link → Bool
covering_ends setting by = codomain_sees setting by.codomain && sees (included_theories setting) by.domain

-- A sharing link leads into the codomain, or what it includes; from the structure's domain, or what includes it.
abbrev pub sharing_ends : Setting → Link → Link → Bool
sharing_ends setting structure by = codomain_sees setting by.codomain && is_or_includes setting.environment by.domain structure.domain

-- No earlier target overlaps this one.
abbrev pub is_free : List Path → Path → Bool
is_free earlier target = not (list_any (overlap target) earlier)

-- What one assignment gives, behind these targets.
abbrev pub read_assign : Setting → List Path → Assign → Outcome Assigned
read_assign setting earlier (ConstAssign target value) = do
  _ ← demand (is_some (own_at (own_part setting.environment setting.domain) target.path)) target.span Rule.UnknownTarget (label_along setting target.path)
  _ ← demand (is_free earlier target.path) target.span Rule.DoubleAssignment (label_along setting target.path)
  Ok (Giving target.path value)
read_assign setting earlier (IncludeAssign words) = do
  by ← link_of setting setting.label words
  _ ← demand (covering_ends setting by) (word_place words 0) Rule.MorphismEnds setting.label
  Ok (Covering (word_place words 0) by)
read_assign setting earlier (StructAssign target words) = do
  structure ← or_refused (structure_at setting target.path) target.span Rule.UnknownTarget (label_along setting target.path)
  _ ← demand (is_free earlier target.path) target.span Rule.DoubleAssignment (label_along setting target.path)
  by ← link_of setting (label_along setting target.path) words
  _ ← demand (sharing_ends setting structure by) (word_place words 0) Rule.MorphismEnds (label_along setting target.path)
  Ok (Sharing target.path structure (word_place words 0) by)

-- The targets with that of one more assignment, if it has one.
abbrev pub with_target : List Path → Assign → List Path
with_target earlier (ConstAssign target value) = target.path ∷ earlier
with_target earlier (IncludeAssign words) = earlier
with_target earlier (StructAssign target words) = target.path ∷ earlier

-- What the assignments give, in order.
unfoldable pub read_assigns : Setting → List Path → List Assign → Outcome (List Assigned)
read_assigns setting earlier [] = Ok []
read_assigns setting earlier (assign ∷ assigns) = do
  first ← read_assign setting earlier assign
  rest ← read_assigns setting (with_target earlier assign) assigns
  Ok (first ∷ rest)
