use Rattle.std.proofs.Common.{◌≡◌, List, [], ◌∷◌, ◌++◌, map, reverse, ap, ◌∙◌}
use Rattle.std.specs.Borrow.{Bor}
use Rattle.std.proofs.lemmas.List.{map-append, reverse-append}
use Rattle.name_meaning.specs.Names.{Path}
use Rattle.assignment_pass.proofs.MarkedTargets.{tabled_more}
use Rattle.assignment_pass.proofs.targets.Targets.add_path.Goals as goal

-- The paths with one more at their end, the last one first.
one_more : (paths items : List (Bor Path)) (path : Bor Path) → items ≡ paths ++ path ∷ [] → reverse (map (λ (p : Bor Path). p.now) items) ≡ path.now ∷ reverse (map (λ (p : Bor Path). p.now) paths)
one_more paths items path same =
    ap (λ ps. reverse (map (λ (p : Bor Path). p.now) ps)) same ∙ ap reverse (map-append (λ (p : Bor Path). p.now) paths (path ∷ []))
    ∙ reverse-append (map (λ (p : Bor Path). p.now) paths) (path.now ∷ [])

pub returns-clause-tabled : goal.returns-clause-tabled
returns-clause-tabled c = λ tabled.
    let targets = c.args.self.now in
    tabled_more targets _ c.args.path.now c.in_ok-place.place (one_more targets.paths.items _ c.args.path c.in_ok-push.ensures.items) c.in_ok-insert.ensures.keys
    c.in_ok-place.ensures.place c.in_ok-place.ensures.stay c.in_ok-place.ensures.begun tabled
