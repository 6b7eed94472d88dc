-- Worked case of the board over modules: a text is put again, and put back, between a claim and its install.
use Rattle.std.specs.Prelude.{◌≡◌, true, List, [], ◌∷◌, Some, None, codes}
use Rattle.name_meaning.specs.Names.{Name}
use Rattle.lf_meaning.specs.Terms.{Pi, Ty}
use Rattle.lf_meaning.specs.Signatures.{FamilyClass, KindClass}
use Rattle.edit_log_meaning.specs.Log.{Edit, Put}
use Rattle.edit_log_meaning.specs.Append.{Made}
use Rattle.board_meaning.specs.Events.{EditMade, Claim, Install, Stale, History}
use Rattle.board_meaning.specs.Machine.{edit_reply, claim_reply, IsInstalled, IsStale, install_reply, IsVerdict, IsPending, report_reply, EditCall, ClaimCall, InstallCall}
use Rattle.board_meaning.specs.Legal.{PassCall, after_calls, may_make_all}
use Rattle.board_laws.specs.Examples.{by_front, input}
use Rattle.text_meaning.specs.Dependencies.{dependencies}
use Rattle.verdict_meaning.specs.Verdicts.{Verdict, Accepted, Theory}
use Rattle.verdict_meaning.specs.Rounds.{modules}
use Rattle.verdict_examples.specs.ExampleTexts.{text_Nat, text_Nat_misspelled}
use Rattle.verdict_examples.specs.Examples.{atomic_of, nat_of}

abbrev pub Nat : Name
Nat = codes "Nat"

-- The natural numbers are put, and the same with a misspelled name.
abbrev pub nat_put : Edit
nat_put = Put Nat text_Nat

abbrev pub misspelled_put : Edit
misspelled_put = Put Nat text_Nat_misspelled

-- The history of a board over modules after these calls, from the beginning.
abbrev pub over_modules : List PassCall → History
over_modules calls = after_calls dependencies [] calls

-- The natural numbers are put and claimed.
abbrev pub nat_claimed : List PassCall
nat_claimed = by_front (EditCall nat_put) ∷ by_front ClaimCall ∷ []

-- Then the misspelled text is put.
abbrev pub nat_misspelled : List PassCall
nat_misspelled = by_front (EditCall nat_put) ∷ by_front ClaimCall ∷ by_front (EditCall misspelled_put) ∷ []

-- Then the first text is put back.
abbrev pub nat_put_back : List PassCall
nat_put_back =
    by_front (EditCall nat_put) ∷ by_front ClaimCall ∷ by_front (EditCall misspelled_put) ∷ by_front (EditCall nat_put) ∷ []

-- Then the first claim is to be installed, and is stale.
abbrev pub nat_stale : List PassCall
nat_stale =
    by_front (EditCall nat_put) ∷ by_front ClaimCall ∷ by_front (EditCall misspelled_put) ∷ by_front (EditCall nat_put) ∷ by_front (InstallCall 1) ∷ []

-- Then it is claimed again.
abbrev pub nat_claimed_again : List PassCall
nat_claimed_again =
    by_front (EditCall nat_put) ∷ by_front ClaimCall ∷ by_front (EditCall misspelled_put) ∷ by_front (EditCall nat_put) ∷ by_front (InstallCall 1) ∷ by_front ClaimCall ∷ []

-- Then the second claim is installed.
abbrev pub nat_installed : List PassCall
nat_installed =
    by_front (EditCall nat_put) ∷ by_front ClaimCall ∷ by_front (EditCall misspelled_put) ∷ by_front (EditCall nat_put) ∷ by_front (InstallCall 1) ∷ by_front ClaimCall ∷ by_front (InstallCall 5) ∷ []

-- Each of these calls may be made.
abbrev pub NatCallsMayBeMade : Type 0
NatCallsMayBeMade = may_make_all dependencies [] nat_installed ≡ true

-- Each edit is made, with the next version.
abbrev pub NatEditsAreMade : Type 0
NatEditsAreMade =
    edit_reply [] nat_put ∷ edit_reply (over_modules nat_claimed) misspelled_put ∷ edit_reply (over_modules nat_misspelled) nat_put ∷ []
    ≡ Made 1 ∷ Made 2 ∷ Made 3 ∷ []

-- The job has the text and its stamp.
abbrev pub NatIsClaimed : Type 0
NatIsClaimed =
    claim_reply modules (over_modules (by_front (EditCall nat_put) ∷ []))
    ≡ Some (record { claim = 1; name = Nat; text = text_Nat; inputs = input Nat 1 ∷ []; answers = [] })

-- Behind the misspelled text the install is stale, with the stamp of that text.
abbrev pub MisspelledNatIsStale : Type 0
MisspelledNatIsStale = install_reply dependencies (over_modules nat_misspelled) 1 ≡ IsStale Nat 2

-- Where the first text is put back, it is stale with the present stamp, though the text is the claimed one.
abbrev pub NatPutBackIsStale : Type 0
NatPutBackIsStale = install_reply dependencies (over_modules nat_put_back) 1 ≡ IsStale Nat 3

-- Then the verdict is to come.
abbrev pub NatIsPending : Type 0
NatIsPending = report_reply modules (over_modules nat_stale) Nat ≡ IsPending 3

-- Then it is claimed with the present stamp.
abbrev pub NatIsClaimedAgain : Type 0
NatIsClaimedAgain =
    claim_reply modules (over_modules nat_stale)
    ≡ Some (record { claim = 5; name = Nat; text = text_Nat; inputs = input Nat 3 ∷ []; answers = [] })

-- That claim is installed.
abbrev pub NatIsInstalled : Type 0
NatIsInstalled = install_reply dependencies (over_modules nat_claimed_again) 5 ≡ IsInstalled

-- Then nothing is ready.
abbrev pub NothingButNat : Type 0
NothingButNat = claim_reply modules (over_modules nat_installed) ≡ None

-- The verdict on the natural numbers: an accepted theory of three declarations.
abbrev pub nat_verdict : Verdict
nat_verdict =
    Accepted (Theory (record {
      name = Nat;
      own = record { name = nat_of (codes "nat" ∷ []); class = KindClass Ty; value = None }
          ∷ record { name = nat_of (codes "z" ∷ []); class = FamilyClass (atomic_of (nat_of (codes "nat" ∷ []))); value = None }
          ∷ record { name = nat_of (codes "s" ∷ []); class = FamilyClass (Pi (atomic_of (nat_of (codes "nat" ∷ []))) (atomic_of (nat_of (codes "nat" ∷ [])))); value = None }
          ∷ [];
      includes = [];
      structures = [];
    }) 3)

-- Then a report tells the verdict.
abbrev pub NatIsTold : Type 0
NatIsTold = report_reply modules (over_modules nat_installed) Nat ≡ IsVerdict nat_verdict 3

-- The calls leave one entry each.
abbrev pub HistoryOfNat : Type 0
HistoryOfNat =
    over_modules nat_installed
    ≡ record { pass = 0; version = 1; event = EditMade nat_put }
    ∷ record { pass = 0; version = 1; event = Claim Nat }
    ∷ record { pass = 0; version = 2; event = EditMade misspelled_put }
    ∷ record { pass = 0; version = 3; event = EditMade nat_put }
    ∷ record { pass = 0; version = 3; event = Stale 1 Nat 3 }
    ∷ record { pass = 0; version = 3; event = Claim Nat }
    ∷ record { pass = 0; version = 3; event = Install 5 }
    ∷ []
