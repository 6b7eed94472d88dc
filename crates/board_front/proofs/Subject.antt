-- What those above cite of `Mmt`, the subject of a front, which they have from here.
pub use Rattle.module_check.proofs.Crossing.{verdict_row_send, verdict_row_sync}
