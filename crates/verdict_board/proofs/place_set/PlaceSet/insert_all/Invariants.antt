use Rattle.std.proofs.Common.{◌≡◌, length, take}
use Rattle.verdict_board.specs.Readiness.{AreMarked}
use Rattle.verdict_board.proofs.place_set.PlaceSet.insert_all.Given as goal

abbrev pub invariant-loop-place : goal.invariant-loop-place
invariant-loop-place l = record {
  long : length l.self ≡ length l.initial.self;
  marked : AreMarked l.initial.self l.self (take l.place-index l.places);
}
