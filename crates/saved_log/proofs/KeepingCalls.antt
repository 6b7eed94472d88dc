-- The record of the calls of a disk in memory: one more.
use Rattle.std.proofs.Common.{◌≡◌, ℕ, suc, ◌+◌, ◌*◌, List, [], ◌∷◌, ◌++◌, length, take, drop, fold, All, refl, ap, ◌∙◌, arith, length-append, length-drop}
use Rattle.std.proofs.lemmas.List.{take-append-le, drop-append-le, take_all, drop_at}
use Rattle.saved_log.specs.declared.call_record.Kept.{Kept}
use Rattle.saved_log.specs.declared.call_record.Kept.TheVariants as kept
use Rattle.saved_log.specs.MemDisks.{Call, Wrote, Recorded}
use Rattle.saved_log.specs.KeptCalls.{read_call, read_kept, IsAmong}

read_from : List ℕ → List Call → List Kept → List Call
read_from pieces read calls = fold (λ (read : List Call) (call : Kept). read_call pieces call ∷ read) read calls

call_more : (pieces more : List ℕ) (call : Kept) → IsAmong (length pieces) call → read_call (pieces ++ more) call ≡ read_call pieces call
call_more pieces more kept.Other among = refl
call_more pieces more (kept.Wrote at from count) among =
    let is : take count (drop from (pieces ++ more)) ≡ take count (drop from pieces) =
    ap (λ (l : List ℕ). take count l) (drop-append-le from pieces more (omega (arith, among))) ∙ take-append-le count (drop from pieces) more (omega (arith, among, length-drop from pieces)) in
    ap (λ (piece : List ℕ). Wrote at piece) is
call_more pieces more (kept.CutShort at count) among = refl
call_more pieces more kept.Synced among = refl

kept_more : (pieces more : List ℕ) (read : List Call) (calls : List Kept) → All (IsAmong (length pieces)) calls → read_from (pieces ++ more) read calls ≡ read_from pieces read calls
unfolding read_from
kept_more pieces more read [] among = refl
kept_more pieces more read (call ∷ calls) among =
    ap (λ (first : Call). read_from (pieces ++ more) (first ∷ read) calls) (call_more pieces more call (among 0 call (omega arith)))
    ∙ kept_more pieces more (read_call pieces call ∷ read) calls (λ k d h. among (suc k) d (omega (arith, h)))

kept_last : (pieces : List ℕ) (read : List Call) (calls : List Kept) (call : Kept) → read_from pieces read (calls ++ call ∷ []) ≡ read_call pieces call ∷ read_from pieces read calls
unfolding read_from
kept_last pieces read [] call = refl
kept_last pieces read (first ∷ calls) call = kept_last pieces (read_call pieces first ∷ read) calls call

new_piece : (pieces piece : List ℕ) → take (length piece) (drop (length pieces) (pieces ++ piece)) ≡ piece
new_piece pieces piece = ap (λ (l : List ℕ). take (length piece) l) (drop_at pieces piece (length pieces) refl) ∙ take_all (length piece) piece (omega arith)

pub write_kept : (pieces piece new_pieces : List ℕ) (calls new_calls : List Kept) (at from room : ℕ) → All (IsAmong (length pieces)) calls → new_pieces ≡ pieces ++ piece → from ≡ length pieces → new_calls ≡ calls ++ kept.Wrote at from (length piece) ∷ []
    → ◌≡◌ {A = Recorded} (record { kept = read_kept new_pieces new_calls; room = room; taken = 32 * length new_calls + length new_pieces })
    (record { kept = Wrote at piece ∷ read_kept pieces calls; room = room; taken = 32 * length calls + length pieces + 32 + length piece })
unfolding read_from
write_kept pieces piece new_pieces calls new_calls at from room among is_pieces is_from is_calls =
    let call = kept.Wrote at from (length piece) in
    let read : read_kept new_pieces new_calls ≡ Wrote at piece ∷ read_kept pieces calls =
    ap (λ (pieces : List ℕ). read_kept pieces new_calls) is_pieces
    ∙ ap (λ (calls : List Kept). read_kept (pieces ++ piece) calls) is_calls
    ∙ kept_last (pieces ++ piece) [] calls call
    ∙ ap (λ (place : ℕ). Wrote at (take (length piece) (drop place (pieces ++ piece))) ∷ read_kept (pieces ++ piece) calls) is_from
    ∙ ap (λ (l : List ℕ). Wrote at l ∷ read_kept (pieces ++ piece) calls) (new_piece pieces piece)
    ∙ ap (λ (read : List Call). Wrote at piece ∷ read) (kept_more pieces piece [] calls among) in
    let size : 32 * length new_calls + length new_pieces ≡ 32 * length calls + length pieces + 32 + length piece =
    omega (arith, ap length is_pieces, ap length is_calls, length-append pieces piece, length-append calls (call ∷ [])) in
    let with_read : List Call → Recorded = λ (read : List Call). record { kept = read; room = room; taken = 32 * length new_calls + length new_pieces } in
    let with_size : ℕ → Recorded = λ (taken : ℕ). record { kept = Wrote at piece ∷ read_kept pieces calls; room = room; taken = taken } in
    ap with_read read ∙ ap with_size size
