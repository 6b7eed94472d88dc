-- The map of a link, pass by pass.
use Rattle.std.proofs.Common.{◌≡◌, List, [], refl}
use Rattle.answer_meaning.specs.Answers.{◌>>=◌}
use Rattle.text_meaning.specs.Trees.{Assign}
use Rattle.link_meaning.specs.Assignments.{Setting, read_assigns}
use Rattle.link_meaning.specs.Passes.{assigned_map, link_map}

-- The map of a link is that of what its assignments give.
pub map_is : (setting : Setting) (assigns : List Assign) → link_map setting assigns ≡ read_assigns setting [] assigns >>= (λ assigned. assigned_map setting assigned)
unfolding link_map
map_is setting assigns = refl
