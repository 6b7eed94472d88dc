-- Each list of words begins the one run that it asks for, or is answered by the usage line.
use Rattle.std.proofs.Common.{◌≡◌, ◌⊎◌, inl, inr, ℕ, List, refl, ap}
use Rattle.std.specs.Prelude.{Option, Some, None}
use Rattle.command_words_meaning.specs.WordLists.{Run, run_of}
use Rattle.command_words_meaning.specs.WordAnswers.{Asks, outcome_of, words_outcome}
use Rattle.command_words_laws.specs.WordLaws.{IsBegun, IsAnsweredByUsage}
use Rattle.command_words_laws.proofs.WordsAsked.{asks_once, accepted_asks, refused_asks_none, asked_is_accepted}

pub words_are_answered : (words : List (List ℕ)) → IsBegun words ⊎ IsAnsweredByUsage words
unfolding words_outcome
words_are_answered words = by_run (run_of words) refl
  where
    by_run : (found : Option Run) → run_of words ≡ found → IsBegun words ⊎ IsAnsweredByUsage words
    by_run None h = inr (record { none = refused_asks_none words h; ends = ap outcome_of h })
    by_run (Some run) h =
        let asks = accepted_asks words run h in
        inl (record { run = run; asks = asks; only = λ other x. asks_once words other run x asks; begins = ap outcome_of h })

pub runs_are_asked : (words : List (List ℕ)) (run : Run) → (run_of words ≡ Some run → Asks words run) × (Asks words run → run_of words ≡ Some run)
runs_are_asked words run = (accepted_asks words run, asked_is_accepted words run)
