-- How a cut of a text goes on.
use Rattle.std.specs.Prelude.{◌≡◌, ℕ, ◌≤◌, ◌<◌, List, length, drop, IsCharBoundary}
use Rattle.text_meaning.specs.Tokens as tokens
use Rattle.text_meaning.specs.Cutting.{Between, ahead, cut_on}

-- From one place between tokens the cut comes to another, over these tokens.
pub record Advances (text : List ℕ) (at to : ℕ) (ts : List tokens.Token) : Type 0 where
  pub forward : at < to
  pub within : to ≤ length text
  pub boundary : IsCharBoundary text to
  pub cut : cut_on Between at (drop at text) ≡ ahead ts (cut_on Between to (drop to text))
