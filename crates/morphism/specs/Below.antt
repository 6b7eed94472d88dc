-- What those above cite of the crates below, which they have from here.
pub use Rattle.link_passes.specs.Below.Answers
pub use Rattle.link_passes.specs.Below.LinkFault
