-- What those above cite of the crates below, which they have from here.
pub use Rattle.acceptance_laws.proofs.Alike
pub use Rattle.face_typing.proofs.Below.LibrariesHold
pub use Rattle.face_typing.proofs.LibrariesTyped
pub use Rattle.face_typing.proofs.LinksTyped
pub use Rattle.face_typing.proofs.MapsCarry
