-- The limits of what is read and kept (this profile).
use Rattle.std.specs.Prelude.{ℕ, ◌^◌}

-- The greatest length of a text.
abbrev pub text_limit : ℕ
text_limit = 2 ^ 20

-- The greatest number of modules in a library.
abbrev pub module_limit : ℕ
module_limit = 4096

-- The greatest number of edits made.
abbrev pub edit_limit : ℕ
edit_limit = 2 ^ 16

-- The greatest sum of the lengths of all texts ever put.
abbrev pub total_limit : ℕ
total_limit = 2 ^ 28

-- The greatest number of bytes between a `put` line and its end line, or the end of the input.
abbrev pub put_limit : ℕ
put_limit = 2 ^ 26

-- The greatest length of a file.
abbrev pub file_limit : ℕ
file_limit = 2 ^ 26

-- The greatest length of a line outside the text of a `put`, its line end not counted.
abbrev pub line_limit : ℕ
line_limit = 1024
