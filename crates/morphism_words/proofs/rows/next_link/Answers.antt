use Rattle.std.proofs.Common.{Ok, true, false, [], sym, ap, ◌∙◌, subst}
use Rattle.std.specs.Option.{option_map}
use Rattle.mmt_syntax.specs.Readings.{read_written}
use Rattle.mmt_interface.specs.Readings.{environment_of, read_theory}
use Rattle.morphism_words.specs.LentLinks.{read_lent}
use Rattle.link_laws.specs.LinkTargets.{LinkHolds}
use Rattle.mapping_laws.proofs.Followed.{words_are_followed}
use Rattle.morphism_words.proofs.CoherentLinks.{meant_holds}
use Rattle.morphism_words.proofs.RowsOfWords.{word_met}
use Rattle.morphism_words.proofs.rows.next_link.Goals as goal

pub returns-then-not-meets-clause-answer : goal.returns-then-not-meets-clause-answer
returns-then-not-meets-clause-answer c = λ label.
    word_met (environment_of c.args.faces.now) (option_map (λ face. read_theory face.now) c.args.here) label (read_lent c.args.so_far.now) (read_written c.args.word.now) (read_lent c.in_ok-next.next) false
    (c.in_ok-next.ensures label) (sym c.meets.ensures ∙ c.if-not-meets.true)

pub returns-clause-answer : goal.returns-clause-answer
returns-clause-answer c = λ label.
    word_met (environment_of c.args.faces.now) (option_map (λ face. read_theory face.now) c.args.here) label (read_lent c.args.so_far.now) (read_written c.args.word.now) (read_lent c.in_ok-next.next) true
    (c.in_ok-next.ensures label) (sym c.meets.ensures ∙ c.if-not-meets.false) ∙ ap Ok (sym c.in_ok-link.ensures)

pub followed_by-link-requires : goal.followed_by-link-requires
followed_by-link-requires c =
    let environment = environment_of c.args.faces.now in
    let here = option_map (λ face. read_theory face.now) c.args.here in
    let word = read_written c.args.word.now in
    let next = read_lent c.in_ok-next.next in
    let means = meant_holds environment here c.requires.coherent c.requires.here word.path word.span [] next (c.in_ok-next.ensures []) in
    (words_are_followed environment here (read_lent c.args.so_far.now) next word.path c.requires.coherent c.requires.here c.requires.so_far means.0 (sym c.meets.ensures ∙ c.if-not-meets.false)).images

pub returns-clause-holds : goal.returns-clause-holds
returns-clause-holds c =
    let environment = environment_of c.args.faces.now in
    let here = option_map (λ face. read_theory face.now) c.args.here in
    let word = read_written c.args.word.now in
    let next = read_lent c.in_ok-next.next in
    let means = meant_holds environment here c.requires.coherent c.requires.here word.path word.span [] next (c.in_ok-next.ensures []) in
    subst (LinkHolds environment here) (sym c.in_ok-link.ensures)
    (words_are_followed environment here (read_lent c.args.so_far.now) next word.path c.requires.coherent c.requires.here c.requires.so_far means.0 (sym c.meets.ensures ∙ c.if-not-meets.false)).followed
