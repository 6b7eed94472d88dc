-- Steps of the third and the fourth pass in which the code is cut, by the definitions of the passes.
use Rattle.std.specs.Prelude.{◌≡◌, ℕ, Bool, true, List, [], ◌∷◌, ◌++◌, slice_get, Option, Some, option_map, Ok}
use Rattle.std.specs.List.{list_all}
use Rattle.name_meaning.specs.Names.{Path}
use Rattle.lf_meaning.specs.Signatures.{Class, Value, Declaration, Signature}
use Rattle.lf_meaning.specs.HeadMaps.{Image, HeadMap}
use Rattle.translation_meaning.specs.Translation.{translate_class, translate_value}
use Rattle.translation_meaning.specs.Differ.{value_in}
use Rattle.library_meaning.specs.Words.{Link}
use Rattle.text_meaning.specs.Tokens.{Span}
use Rattle.text_meaning.specs.Trees.{Expr}
use Rattle.answer_meaning.specs.Answers.{◌>>=◌}
use Rattle.elaborate_meaning.specs.Rules.{Rule}
use Rattle.elaborate_meaning.specs.Values.{expand_value}
use Rattle.link_meaning.specs.Refusals.{Outcome, labelled, demand, or_refused}
use Rattle.link_meaning.specs.Assignments.{Setting, Assigned, label_along}
use Rattle.link_meaning.specs.Passes.{Reached, reached_by, own_image, is_definition, is_own, constant_in, shares}

-- All of these are the domain's own.
abbrev pub AreOwn : Setting → Signature → Type 0
AreOwn setting declarations = (i : ℕ) (declaration : Declaration) → slice_get declarations i ≡ Some declaration → is_own setting declaration ≡ true

-- The definition of a constant, translated, if it has one.
abbrev pub translated_definition : HeadMap → Option Value → Option Value
translated_definition so_far definition = option_map (translate_value so_far) definition

-- The value of an own constant that is reached so, its class being translated.
abbrev pub value_reached : Setting → HeadMap → Reached → Class → Declaration → Outcome Value
value_reached setting so_far reached class declaration = own_image setting reached class (translated_definition so_far declaration.value) declaration

-- The image of an own constant over a map.
abbrev pub image_over : Setting → List Assigned → HeadMap → Declaration → Outcome Image
image_over setting assigned so_far declaration = do
  value ← value_reached setting so_far (reached_by assigned declaration.name.path) (translate_class so_far declaration.class) declaration
  Ok (record { class = translate_class so_far declaration.class; value = value })

-- The map so far, with the image of one more own constant.
abbrev pub with_own_image : Setting → List Assigned → HeadMap → Declaration → Outcome HeadMap
with_own_image setting assigned so_far declaration = do
  image ← image_over setting assigned so_far declaration
  Ok (so_far ++ record { name = declaration.name; image = image } ∷ [])

-- The value that is assigned, at its class.
abbrev pub assigned_value : Setting → Path → Expr → Class → Outcome Value
assigned_value setting target expression class = labelled (label_along setting target) (expand_value setting.scope expression class)

-- The value that the sharing link gives, where it gives one.
abbrev pub shared_value : Setting → Path → Path → Link → Span → Link → Outcome Value
shared_value setting target rest structure first by =
    or_refused (value_in by.map (constant_in structure rest)) first Rule.MorphismsDisagree (label_along setting target)

-- The value of a sharing link, which has to be the translated definition.
abbrev pub value_if_definition : Setting → HeadMap → Path → Span → Declaration → Value → Outcome Value
value_if_definition setting so_far target first declaration value = do
  _ ← demand (is_definition (translated_definition so_far declaration.value) value) first Rule.MorphismsDisagree (label_along setting target)
  Ok value

-- The shared structure and the sharing link agree on all of these.
abbrev pub share : HeadMap → Link → Link → Signature → Bool
share along structure by declarations = list_all (shares along structure by) declarations
