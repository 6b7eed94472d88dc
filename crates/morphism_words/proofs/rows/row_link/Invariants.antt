use Rattle.std.proofs.Common.{◌≡◌, drop}
use Rattle.std.specs.Option.{option_map}
use Rattle.name_meaning.specs.Names.{Path}
use Rattle.link_laws.specs.LinkTargets.{LinkHolds}
use Rattle.mmt_syntax.specs.Readings.{read_words}
use Rattle.mmt_interface.specs.Readings.{environment_of, read_theory}
use Rattle.morphism_words.specs.LentLinks.{read_lent}
use Rattle.morphism_words.specs.Steps.{row_answer}
use Rattle.morphism_words.proofs.rows.row_link.Given as goal

-- The link so far, which has a coherent map, is to be followed by the words that are left.
abbrev pub invariant-loop-word : goal.invariant-loop-word
invariant-loop-word l = record {
  holds : LinkHolds (environment_of l.faces) (option_map (λ face. read_theory face.now) l.here) (read_lent l.link);
  left : (label : Path) →
      row_answer (environment_of l.faces) (option_map (λ face. read_theory face.now) l.here) label (read_lent l.fn.so_far) (read_words l.words)
      ≡ row_answer (environment_of l.faces) (option_map (λ face. read_theory face.now) l.here) label (read_lent l.link) (read_words (drop l.word-index l.words));
}
