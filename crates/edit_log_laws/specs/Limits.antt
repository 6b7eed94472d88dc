-- The limits, written out as numbers (this profile).
use Rattle.std.specs.Prelude.{◌≡◌}
use Rattle.name_meaning.specs.Limits.{text_limit, module_limit, edit_limit, total_limit, put_limit, file_limit, line_limit}

-- The limits of a log.
pub record LogLimits : Type 0 where
  pub text : text_limit ≡ 1048576
  pub modules : module_limit ≡ 4096
  pub edits : edit_limit ≡ 65536
  pub total : total_limit ≡ 268435456

-- The limits of what is read.
pub record InputLimits : Type 0 where
  pub put : put_limit ≡ 67108864
  pub file : file_limit ≡ 67108864
  pub line : line_limit ≡ 1024
