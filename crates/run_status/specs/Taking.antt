-- What a sink has taken, and then further bytes (this profile).
use Rattle.std.specs.Prelude.{◌≡◌, ℕ, List, Option, option_map}
use Rattle.mmt_outside.specs.Bytes.{Taken, appended}

-- What the sink has taken, flushed or not.
abbrev pub bytes_of : Option Taken → Option (List ℕ)
bytes_of taken = option_map (λ (t : Taken). t.bytes) taken

-- Behind the bytes that the sink had taken it took further ones, which may be none; where it told them, it still does.
pub record TookOn (before now : Option Taken) : Type 0 where
  pub piece : List ℕ
  pub took : bytes_of now ≡ bytes_of (appended before piece)
