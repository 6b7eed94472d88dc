-- Parts that are written one after another.
use Rattle.std.proofs.Common.{◌≡◌, ℕ, List, [], ◌∷◌, ◌++◌, refl, sym, ap, ◌∙◌, subst, append_assoc, append-nil}
use Rattle.std.specs.Prelude.{Option}
use Rattle.std.proofs.lemmas.Grind.{flat_map-append}
use Rattle.mmt_outside.specs.Bytes.{Taken, appended, flushed, TookPrefix}
use Rattle.mmt_outside.proofs.Bytes.{appended-appended, appended-nil, TookPrefix-after, TookPrefix-none}
use Rattle.text_meaning.specs.Dependencies.{dependencies}
use Rattle.board_meaning.specs.Events.{History}
use Rattle.run_meaning.specs.Parts.{Part, parts_text, parts_told}
use Rattle.run_meaning.specs.Backing.{AreBacked}
use Rattle.install_laws.proofs.Tellings.{stay_backed}
use Rattle.board_front.specs.Staying.{Stays}
use Rattle.folder_front.specs.Written.{WroteAll, WroteSome}
use Rattle.folder_front.proofs.Told.{both_backed, none_backed}

text_append : (front behind : List Part) → parts_text (front ++ behind) ≡ parts_text front ++ parts_text behind
text_append front behind = flat_map-append (λ (part : Part). part.text) front behind

backed_later : (first second : History) (parts : List Part) → Stays first second → AreBacked dependencies first (parts_told parts) → AreBacked dependencies second (parts_told parts)
backed_later first second parts stays backed =
    subst (λ (h : History). AreBacked dependencies h (parts_told parts)) (sym stays.begins) (stay_backed dependencies first stays.later (parts_told parts) backed)

pub wrote_none : (before : Option Taken) (history : History) → WroteAll before before [] history
wrote_none before history = record { took = sym (appended-nil before); backed = none_backed history }

pub some_none : (before : Option Taken) (parts : List Part) (history : History) → WroteSome before before parts history
some_none before parts history = record { front = []; behind = parts; whole = refl; took = TookPrefix-none before []; backed = none_backed history }

module _ (before now : Option Taken) (part : Part) (history : History) (backed : AreBacked dependencies history (parts_told (part ∷ []))) where
  pub wrote_one : now ≡ appended before part.text → WroteAll before now (part ∷ []) history
  wrote_one took = record { took = took ∙ ap (appended before) (sym (append-nil part.text)); backed = backed }

  pub some_one : TookPrefix before now part.text → WroteSome before now (part ∷ []) history
  some_one took = record { front = part ∷ []; behind = []; whole = refl; took = subst (TookPrefix before now) (sym (append-nil part.text)) took; backed = backed }

-- A first part that ends within these parts ends within these and more.
pub some_more : (before now : Option Taken) (parts more : List Part) (history : History) → WroteSome before now parts history → WroteSome before now (parts ++ more) history
some_more before now parts more history some = record {
  front = some.front;
  behind = some.behind ++ more;
  whole = ap (λ (z : List Part). z ++ more) some.whole ∙ append_assoc some.front some.behind more;
  took = some.took;
  backed = some.backed;
}

pub some_later : (before now : Option Taken) (parts : List Part) (first second : History) → Stays first second → WroteSome before now parts first → WroteSome before now parts second
some_later before now parts first second stays some = record { front = some.front; behind = some.behind; whole = some.whole; took = some.took; backed = backed_later first second some.front stays some.backed }

-- More is written behind these parts, or a first part of more.
module _ (before now : Option Taken) (parts more : List Part) (history : History) (all : WroteAll before now parts history) where
  pub add_all : (new : Option Taken) → WroteAll now new more history → WroteAll before new (parts ++ more) history
  add_all new next = record {
    took = next.took ∙ ap (λ (t : Option Taken). appended t (parts_text more)) all.took ∙ appended-appended before (parts_text parts) (parts_text more)
        ∙ ap (appended before) (sym (text_append parts more));
    backed = both_backed history parts more all.backed next.backed;
  }

  pub add_some : (new : Option Taken) → WroteSome now new more history → WroteSome before new (parts ++ more) history
  add_some new next = record {
    front = parts ++ next.front;
    behind = next.behind;
    whole = ap (λ (z : List Part). parts ++ z) next.whole ∙ sym (append_assoc parts next.front next.behind);
    took = subst (TookPrefix before new) (sym (text_append parts next.front))
        (TookPrefix-after before new (parts_text parts) (parts_text next.front) (subst (λ (t : Option Taken). TookPrefix t new (parts_text next.front)) all.took next.took));
    backed = both_backed history parts next.front all.backed next.backed;
  }

module _ (before now : Option Taken) (parts more : List Part) (first second : History) (stays : Stays first second) (all : WroteAll before now parts first) where
  still : WroteAll before now parts second
  still = record { took = all.took; backed = backed_later first second parts stays all.backed }

  -- More was written behind these parts, over a history that goes on.
  pub wrote_more : (new : Option Taken) → WroteAll now new more second → WroteAll before new (parts ++ more) second
  wrote_more = add_all before now parts more second still

  -- A first part of more was.
  pub some_behind : (new : Option Taken) → WroteSome now new more second → WroteSome before new (parts ++ more) second
  some_behind = add_some before now parts more second still

  -- Nothing more was.
  pub some_here : WroteSome before now (parts ++ more) second
  some_here = some_behind now (some_none now more second)

-- The last part was written, and all was flushed.
pub wrote_last : (before now new : Option Taken) (parts : List Part) (part : Part) (history : History) → WroteAll before now parts history → new ≡ flushed (appended now part.text)
    → new ≡ flushed (appended before (parts_text (parts ++ part ∷ [])))
wrote_last before now new parts part history all took =
    took ∙ ap (λ (t : Option Taken). flushed (appended t part.text)) all.took
    ∙ ap (λ (t : Option Taken). flushed t) (appended-appended before (parts_text parts) part.text)
    ∙ ap (λ (text : List ℕ). flushed (appended before text)) (ap (λ (text : List ℕ). parts_text parts ++ text) (sym (append-nil part.text)) ∙ sym (text_append parts (part ∷ [])))
