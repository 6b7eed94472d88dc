-- What those above cite of the crates below, which they have from here.
pub use Rattle.carried_typing.proofs.Below.LibrariesTyped
pub use Rattle.carried_typing.proofs.Below.LinksTyped
pub use Rattle.carried_typing.proofs.Below.MapsCarry
