-- Laws of counts of faults.
use Rattle.std.proofs.Common.{ℕ, ◌<◌, ◌≤◌, ◌-◌, ◌^◌, arith}
use Rattle.mmt_outside.specs.Faults.{Rose}

-- what rose after an earlier count rose since then
pub rose_later : (before middle now : ℕ) → before ≤ middle → Rose middle now → Rose before now
rose_later before middle now order rose = omega arith

-- what rose up to an earlier count rose up to now
pub rose_earlier : (before middle now : ℕ) → Rose before middle → middle ≤ now → Rose before now
rose_earlier before middle now rose order = omega arith

-- what stands still did not rise, unless it stands at the greatest number of 64 bits
pub no_rise : (count : ℕ) → count < 2 ^ 64 - 1 → Rose count count → ⊥
no_rise count small rose = omega arith
