-- The arguments of a head, all at once (this profile).
use Rattle.std.specs.Prelude.{ℕ, Bool, List, ◌++◌, flat_map, codes}
use Rattle.std.specs.List.{list_any}
use Rattle.lf_meaning.specs.Terms.{Object}
use Rattle.printing_meaning.specs.Constants.{Seen}
use Rattle.printing_meaning.specs.PrintedTerms.{needs_parentheses, object_text, object_uses, parenthesized}

-- An argument behind its head: a space, and the argument, in parentheses unless it is a head alone.
abbrev pub argument_text : Seen → ℕ → Object → List ℕ
argument_text seen depth argument = codes " " ++ parenthesized (needs_parentheses argument) (object_text seen depth argument)

abbrev pub arguments_text : Seen → ℕ → List Object → List ℕ
arguments_text seen depth arguments = flat_map (argument_text seen depth) arguments

-- The variable stands in one of the arguments.
abbrev pub arguments_use : ℕ → List Object → Bool
arguments_use variable arguments = list_any (object_uses variable) arguments
