-- A small subject: the answer of a module is the size of its text (for tests).
use Rattle.std.specs.Prelude.{◌≡◌, ℕ, true, List, [], ◌∷◌, length, Option, Some, None, is_some}
use Rattle.std.specs.Option.{option_map}
use Rattle.std.proofs.Common.{refl, ap}
use Rattle.name_meaning.specs.Names.{Name, Text}
use Rattle.edit_log_meaning.specs.Log.{Library, text_of, is_present}
use Rattle.module_graph_meaning.specs.Walks.{Dependencies}
use Rattle.module_graph_meaning.specs.Reach.{reach, AgreesOn}
use Rattle.module_graph_meaning.specs.Subject.{Subject}
use Rattle.name_laws.proofs.Order.{member_among}
use Rattle.module_graph_laws.proofs.Reaching.{reach_first}
use Rattle.module_graph.specs.Subjects.{IsLawful}

-- A module with an empty text depends on nothing, and any other on itself.
abbrev pub own_dependencies : Dependencies
own_dependencies name [] = []
own_dependencies name (byte ∷ text) = name ∷ []

abbrev pub size_of : Library → Name → Option ℕ
size_of library name = option_map (λ (text : Text). length text) (text_of library name)

abbrev pub sizes : Subject ℕ
sizes = record { dependencies = own_dependencies; answer = size_of }

pub sizes_lawful : IsLawful sizes
sizes_lawful = record {
  present = λ library name ok. mapped (text_of library name);
  reach = λ library other name ok also grounded agrees. ap (option_map (λ (text : Text). length text))
      (agrees name (member_among (reach own_dependencies library name) name (reach_first own_dependencies library name)));
}
  where
    mapped : (text : Option Text) → is_some (option_map (λ (t : Text). length t) text) ≡ is_some text
    mapped None = refl
    mapped (Some t) = refl
