use Rattle.std.proofs.Common.{◌≡◌, ◌+◌, ◌-◌, ℕ, List, length, take, drop}
use Rattle.std.specs.Prelude.{Some}
use Rattle.std.proofs.lemmas.List.{take_rest, drop-drop}
use Rattle.mmt_outside.specs.Bytes.{preceded}
use Rattle.mmt_outside.proofs.Bytes.{preceded-drop}
use Rattle.mmt_outside.proofs.memory_source.MemSourceSource.read.Goals as goal

read_at : (bytes into : List ℕ) (at count : ℕ) → take count into ≡ take count (take (length bytes - at) (drop at bytes)) → Some (drop at bytes) ≡ preceded (take count into) (Some (drop (at + count) bytes))
read_at bytes into at count front =
    let same = rw (take_rest bytes at) at front in
    rw (← drop-drop count at bytes) (preceded-drop count (drop at bytes) into same)

pub returns-clause-bytes : goal.returns-clause-bytes
returns-clause-bytes c =
    let front = rw c.as_slice.ensures at c.copy_front-count.ensures.front in
    rw (← c.self.view_is) (read_at _ _ c.self.inside.at c.copy_front-count.result front)
