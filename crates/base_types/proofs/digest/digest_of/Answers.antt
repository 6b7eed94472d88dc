use Rattle.std.proofs.Common.{rules}
use Rattle.base_types.specs.Digests.{digest_of}
use Rattle.base_types.proofs.digest.digest_of.Goals as goal

-- src/digest.rt:9:1
pub returns : goal.returns
unfolding digest_of
returns c = search rules
