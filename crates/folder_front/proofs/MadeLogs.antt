-- Logs of which each edit was made over those before it.
use Rattle.std.proofs.Common.{◌≡◌, List, [], ◌∷◌, ◌++◌, sym, ap, ◌∙◌, subst, append_assoc, append-nil}
use Rattle.edit_log_meaning.specs.Log.{Edit, Log}
use Rattle.edit_log_meaning.specs.Append.{appended, appended_all}

-- Each of these edits is made over the log and the edits before it.
abbrev pub AreMade : Log → List Edit → Type 0
AreMade log [] = Unit {0}
AreMade log (edit ∷ edits) = (appended log edit ≡ log ++ edit ∷ []) × AreMade (log ++ edit ∷ []) edits

-- One edit more.
pub made_more : (log : Log) (edits : List Edit) (edit : Edit) → AreMade log edits → appended (log ++ edits) edit ≡ (log ++ edits) ++ edit ∷ [] → AreMade log (edits ++ edit ∷ [])
made_more log [] edit made one = (subst (λ (l : Log). appended l edit ≡ l ++ edit ∷ []) (append-nil log) one, tt)
made_more log (first ∷ edits) edit made one =
    (made.0, made_more (log ++ first ∷ []) edits edit made.1 (subst (λ (l : Log). appended l edit ≡ l ++ edit ∷ []) (sym (append_assoc log (first ∷ []) edits)) one))

-- The first of them leave the log with them behind it.
pub made_front : (log : Log) (front behind : List Edit) → AreMade log (front ++ behind) → appended_all log front ≡ log ++ front
unfolding appended_all
made_front log [] behind made = sym (append-nil log)
made_front log (edit ∷ front) behind made =
    ap (λ (l : Log). appended_all l front) made.0 ∙ made_front (log ++ edit ∷ []) front behind made.1 ∙ append_assoc log (edit ∷ []) front

pub made_whole : (log : Log) → AreMade [] log → appended_all [] log ≡ log
made_whole log made = made_front [] log [] (subst (AreMade []) (sym (append-nil log)) made)
