-- What is told where every grounded name stands.
use Rattle.std.proofs.Common.{◌≡◌, Bool, true, false, cond, List, ◌++◌, Some, None, refl, subst}
use Rattle.name_meaning.specs.Names.{Name}
use Rattle.edit_log_meaning.specs.Log.{names_of}
use Rattle.module_graph_meaning.specs.Walks.{Dependencies, is_grounded}
use Rattle.list_laws.proofs.Members.{place_member}
use Rattle.board_meaning.specs.Events.{History, log_of, library_after, version_after}
use Rattle.board_meaning.specs.Standing.{IsBacked}
use Rattle.board_laws.proofs.Standings.{in_filter_map}
use Rattle.board_laws.proofs.Backing.{standing_backed, stays_backed}
use Rattle.run_meaning.specs.Parts.{Telling, telling_of, told_of_all}
use Rattle.run_meaning.specs.Backing.{AreBacked}
use Rattle.install_laws.specs.InstallLaws.{AllStand}

pub checks_are_backed : (dependencies : Dependencies) (H : History) → AllStand dependencies H → AreBacked dependencies H (told_of_all dependencies (log_of H))
checks_are_backed dependencies H all place t s =
    let q = in_filter_map (telling_of dependencies (log_of H)) (names_of (library_after H)) t (place_member (told_of_all dependencies (log_of H)) place t s) in
    by q.1 (is_grounded dependencies (library_after H) q.1) refl q.3
  where
    by : (n : Name) (b : Bool) → is_grounded dependencies (library_after H) n ≡ b → cond b (Some (record { name = n; version = version_after H })) None ≡ Some t → IsBacked dependencies H t.name t.version
    by n true g e =
        let own : record { name = n; version = version_after H } ≡ t = cc in
        subst (λ (z : Telling). IsBacked dependencies H z.name z.version) own (standing_backed dependencies H n (all n g))
    by n false g e = absurd (cc)

pub stay_backed : (dependencies : Dependencies) (H later : History) (tellings : List Telling) → AreBacked dependencies H tellings → AreBacked dependencies (H ++ later) tellings
stay_backed dependencies H later tellings f place t s = stays_backed dependencies H later t.name t.version (f place t s)
