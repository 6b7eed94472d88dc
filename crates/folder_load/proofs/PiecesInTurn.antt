-- The pieces of a file, one after another.
use Rattle.std.proofs.Common.{◌≡◌, ℕ, suc, ◌≤◌, List, [], ◌∷◌, ◌++◌, length, map, take, drop, slice_get, Some, None, Err, refl, sym, ap, ◌∙◌}
use Rattle.std.proofs.lemmas.List.{drop_all, take_all, map-append}
use Rattle.std.proofs.lemmas.Simd.{map-map}
use Rattle.list_laws.proofs.Places.{take_more, drop_here}
use Rattle.edit_log_meaning.specs.Log.{Log}
use Rattle.edit_log_meaning.specs.Append.{appended}
use Rattle.text_meaning.specs.Splitting.{Piece}
use Rattle.printing_meaning.specs.FolderLines as lines
use Rattle.run_meaning.specs.Files as meant
use Rattle.run_meaning.specs.Files.{File, FileAnswer, Faulty, name_of, text_in, origin_of, piece_word, piece_fault, piece_answer, pieces_answer}
use Rattle.folder_load.specs.Shown.{shown_origin}
use Rattle.folder_load.specs.Ahead.{put_of, ahead, Follows, IsLoadedBy, IsPieceDamage, IsFileOutcome}
use Rattle.folder_load.specs.declared.following.Damage.{Damage}
use Rattle.folder_load.specs.declared.following.Damage.TheVariants.{Fault, Memory}
use Rattle.folder_load.specs.declared.following.Following.{Following}
use Rattle.folder_load.specs.declared.following.Modules.{Modules}
use Rattle.folder_load.proofs.FreshLogs.{passed, appended_is}

-- So many pieces of a file follow a log, and the answer goes on from there.
pub record Reached (modules : Modules) (file : File) (pieces : List Piece) (i : ℕ) (following : Following) : Type 0 where
  pub follows : Follows modules following
  pub origins : following.origins ≡ map (λ piece. shown_origin (origin_of file piece)) (take i pieces)
  pub goes : pieces_answer file modules.log [] pieces ≡ pieces_answer file (ahead modules following) (map (origin_of file) (take i pieces)) (drop i pieces)

-- where the answer goes on to, at a piece
at_piece : (file : File) (log : Log) (origins : List meant.Origin) (pieces : List Piece) (i : ℕ) (piece : Piece) → slice_get pieces i ≡ Some piece
    → pieces_answer file log origins (drop i pieces)
    ≡ piece_answer piece (piece_word log file piece) (pieces_answer file (appended log (put_of file piece)) (origins ++ origin_of file piece ∷ []) (drop (suc i) pieces))
unfolding pieces_answer
at_piece file log origins pieces i piece here = ap (pieces_answer file log origins) (drop_here pieces i piece here)

-- the answer where a piece is refused
pub stops : (modules : Modules) (file : File) (pieces : List Piece) (i : ℕ) (following : Following) (piece : Piece) (word : lines.FileWord)
    → Reached modules file pieces i following → slice_get pieces i ≡ Some piece → piece_word (ahead modules following) file piece ≡ Some word
    → pieces_answer file modules.log [] pieces ≡ Faulty (piece_fault piece word)
stops modules file pieces i following piece word r here refused =
    let log = ahead modules following in
    let origins = map (origin_of file) (take i pieces) in
    r.goes ∙ at_piece file log origins pieces i piece here
    ∙ ap (λ w. piece_answer piece w (pieces_answer file (appended log (put_of file piece)) (origins ++ origin_of file piece ∷ []) (drop (suc i) pieces))) refused

-- and where it passes
pub goes_on : (modules : Modules) (file : File) (pieces : List Piece) (i : ℕ) (old new : Following) (piece : Piece)
    → Reached modules file pieces i old → slice_get pieces i ≡ Some piece → piece_word (ahead modules old) file piece ≡ None
    → Follows modules new → ahead modules new ≡ ahead modules old ++ put_of file piece ∷ [] → new.origins ≡ old.origins ++ shown_origin (origin_of file piece) ∷ []
    → Reached modules file pieces (suc i) new
goes_on modules file pieces i old new piece r here passes follows edits origins =
    let log = ahead modules old in
    let first = take i pieces in
    let more = take_more pieces i piece here in
    record {
      follows = follows;
      origins =
          origins ∙ ap (λ os. os ++ shown_origin (origin_of file piece) ∷ []) r.origins
          ∙ sym (map-append (λ p. shown_origin (origin_of file p)) first (piece ∷ [])) ∙ sym (ap (map (λ p. shown_origin (origin_of file p))) more);
      goes =
          r.goes ∙ at_piece file log (map (origin_of file) first) pieces i piece here
          ∙ ap (λ w. piece_answer piece w (pieces_answer file (appended log (put_of file piece)) (map (origin_of file) first ++ origin_of file piece ∷ []) (drop (suc i) pieces))) passes
          ∙ ap (λ l. pieces_answer file l (map (origin_of file) first ++ origin_of file piece ∷ []) (drop (suc i) pieces))
          (appended_is log (name_of piece) (text_in file piece) (passed log (name_of piece) (text_in file piece) passes) ∙ sym edits)
          ∙ ap (λ os. pieces_answer file (ahead modules new) os (drop (suc i) pieces)) (sym (map-append (origin_of file) first (piece ∷ [])) ∙ sym (ap (map (origin_of file)) more));
    }

pub starts : (modules : Modules) (file : File) (pieces : List Piece) (following : Following) → Follows modules following → following.origins ≡ [] → ahead modules following ≡ modules.log
    → Reached modules file pieces 0 following
starts modules file pieces following follows origins same = record {
  follows = follows;
  origins = origins;
  goes = ap (λ log. pieces_answer file log [] pieces) (sym same);
}

none_left : (file : File) (log : Log) (origins : List meant.Origin) → pieces_answer file log origins [] ≡ meant.Loaded log origins
unfolding pieces_answer
none_left file log origins = refl

pub ends : (modules : Modules) (file : File) (pieces : List Piece) (i : ℕ) (following : Following) → Reached modules file pieces i following → length pieces ≤ i
    → IsLoadedBy modules following (pieces_answer file modules.log [] pieces)
ends modules file pieces i following r past =
    let all = take_all i pieces past in
    record {
      origins = map (origin_of file) pieces;
      is =
          r.goes ∙ ap (pieces_answer file (ahead modules following) (map (origin_of file) (take i pieces))) (drop_all i pieces past)
          ∙ none_left file (ahead modules following) (map (origin_of file) (take i pieces))
          ∙ ap (meant.Loaded (ahead modules following)) (ap (map (origin_of file)) all)
          ∙ ap (λ log. meant.Loaded log (map (origin_of file) pieces)) (sym r.follows.whole);
      shown = r.origins ∙ ap (map (λ piece. shown_origin (origin_of file piece))) all ∙ sym (map-map shown_origin (origin_of file) pieces);
    }

-- the outcome where a piece is not added
pub stopped : (modules : Modules) (file : File) (pieces : List Piece) (i : ℕ) (following : Following) (piece : Piece) (damage : Damage)
    → Reached modules file pieces i following → slice_get pieces i ≡ Some piece → IsPieceDamage (ahead modules following) file piece damage
    → IsFileOutcome modules file (Err damage) (pieces_answer file modules.log [] pieces)
stopped modules file pieces i following piece (Fault fault) r here (word, refused, shown) = (piece_fault piece word, stops modules file pieces i following piece word r here refused, shown)
stopped modules file pieces i following piece Memory r here d = tt
