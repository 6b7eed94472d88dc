-- What the files of a folder are loaded to: each edit is made, and each module came from its origin.
use Rattle.std.proofs.Common.{◌≡◌, ◌-◌, Bool, true, false, cond, List, [], ◌∷◌, ◌++◌, length, fold, nat_lt, Option, Some, None, refl, sym, subst, append_assoc, append-nil, arith}
use Rattle.edit_log_meaning.specs.Log.{Put, Log}
use Rattle.edit_log_meaning.specs.Append.{appended}
use Rattle.name_meaning.specs.Limits.{file_limit}
use Rattle.text_meaning.specs.Cutting.{lex}
use Rattle.text_meaning.specs.Splitting.{Piece, Division, Pieces, SyntaxFault, UnsupportedFault}
use Rattle.text_meaning.specs.Dividing.{divide}
use Rattle.file_laws.proofs.OneDivision.{one_division}
use Rattle.printing_meaning.specs.FolderLines.{FileWord, LongFile}
use Rattle.run_meaning.specs.Files.{File, FileAnswer, Loaded, Faulty, Loading, Origin, bare_fault, division_answer, file_answer, load, load_file, loaded_by, module_files, name_of, origin_of, piece_answer, piece_word, pieces_answer, text_in}
use Rattle.folder_load.specs.Ahead.{PiecesStand}
use Rattle.folder_load.proofs.FreshLogs.{appended_is, passed}
use Rattle.folder_load.proofs.PlacesOfPieces.{DivisionStands, division_stands}
use Rattle.folder_front.proofs.MadeLogs.{AreMade, made_more}
use Rattle.folder_front.proofs.FoundOrigins.{AreOrigins, no_origins, one_origin}

pub record AreLoaded (log : Log) (origins : List Origin) : Type 0 where
  pub made : AreMade [] log
  pub origins_are : AreOrigins log origins

-- One module more, of a piece that is not refused.
one_piece : (log : Log) (origins : List Origin) (file : File) (piece : Piece) → PiecesStand (length file.bytes) (piece ∷ []) → AreLoaded log origins → piece_word log file piece ≡ None
    → AreLoaded (log ++ Put (name_of piece) (text_in file piece) ∷ []) (origins ++ origin_of file piece ∷ [])
one_piece log origins file piece stands are passes =
    let p = passed log (name_of piece) (text_in file piece) passes in
    record {
      made = made_more [] log (Put (name_of piece) (text_in file piece)) are.made (appended_is log (name_of piece) (text_in file piece) p);
      origins_are = one_origin log origins (name_of piece) file piece.span.from (piece.span.to - piece.span.from) are.origins_are p.absent
          (let forward = stands.0.forward in let within = stands.0.within in omega (arith, forward, within));
    }

-- The answer to a file, behind these origins.
abbrev IsLoading : List Origin → FileAnswer → Type 0
IsLoading before (Loaded log origins) = AreLoaded log (before ++ origins)
IsLoading before (Faulty fault) = Unit {0}

module _ (before : List Origin) (file : File) where
  pieces_loading : (log : Log) (origins : List Origin) (pieces : List Piece) → PiecesStand (length file.bytes) pieces → AreLoaded log (before ++ origins)
      → IsLoading before (pieces_answer file log origins pieces)
  unfolding pieces_answer
  pieces_loading log origins [] stands are = are
  pieces_loading log origins (piece ∷ pieces) stands are =
      by (piece_word log file piece) refl (pieces_loading (log ++ Put (name_of piece) (text_in file piece) ∷ []) (origins ++ origin_of file piece ∷ []) pieces stands.1)
    where
      Rest : Log → Type 0
      Rest l = IsLoading before (pieces_answer file l (origins ++ origin_of file piece ∷ []) pieces)

      by : (word : Option FileWord) → piece_word log file piece ≡ word
          → (AreLoaded (log ++ Put (name_of piece) (text_in file piece) ∷ []) (before ++ (origins ++ origin_of file piece ∷ [])) → Rest (log ++ Put (name_of piece) (text_in file piece) ∷ []))
          → IsLoading before (piece_answer piece word (pieces_answer file (appended log (Put (name_of piece) (text_in file piece))) (origins ++ origin_of file piece ∷ []) pieces))
      by (Some word) e rest = tt
      by None e rest =
          subst Rest (sym (appended_is log (name_of piece) (text_in file piece) (passed log (name_of piece) (text_in file piece) e)))
          (rest
          (subst (AreLoaded (log ++ Put (name_of piece) (text_in file piece) ∷ [])) (append_assoc before origins (origin_of file piece ∷ []))
          (one_piece log (before ++ origins) file piece (stands.0, tt) are e)))

  division_loading : (log : Log) (division : Division) → DivisionStands (length file.bytes) division → AreLoaded log before → IsLoading before (division_answer file log division)
  division_loading log (Pieces pieces) stands are = pieces_loading log [] pieces stands (subst (AreLoaded log) (sym (append-nil before)) are)
  division_loading log (SyntaxFault at) stands are = tt
  division_loading log (UnsupportedFault at) stands are = tt

  file_loading : (log : Log) → AreLoaded log before → IsLoading before (file_answer log file)
  unfolding file_answer
  file_loading log are = by (nat_lt file_limit (length file.bytes))
    where
      by : (long : Bool) → IsLoading before (cond long (bare_fault 0 LongFile) (division_answer file log (divide (lex file.bytes))))
      by true = tt
      by false = division_loading log (divide (lex file.bytes)) (division_stands file.bytes (divide (lex file.bytes)) (one_division file.bytes).divides) are

one_file : (loading : Loading) (file : File) → AreLoaded loading.log loading.origins → AreLoaded (load_file loading file).log (load_file loading file).origins
one_file loading file are = by (file_answer loading.log file) (file_loading loading.origins file loading.log are)
  where
    by : (answer : FileAnswer) → IsLoading loading.origins answer → AreLoaded (loaded_by loading file answer).log (loaded_by loading file answer).origins
    by (Loaded log origins) h = h
    by (Faulty fault) h = are

all_files : (loading : Loading) (files : List File) → AreLoaded loading.log loading.origins → AreLoaded (fold load_file loading files).log (fold load_file loading files).origins
all_files loading [] are = are
all_files loading (file ∷ files) are = all_files (load_file loading file) files (one_file loading file are)

pub are_loaded : (files : List File) → AreLoaded (load files).log (load files).origins
unfolding load
are_loaded files = all_files (record { log = []; origins = []; damaged = [] }) (module_files files) (record { made = tt; origins_are = no_origins })
