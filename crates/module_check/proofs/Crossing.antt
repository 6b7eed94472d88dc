-- That verdicts may cross threads, for those who take `Mmt` as their subject.
pub use Rattle.send_laws.proofs.Crossing.{verdict_row_send, verdict_row_sync}
