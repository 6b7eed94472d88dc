-- What the values of this crate stand for.
use Rattle.term_trees.specs.Readings.{read_map}
use Rattle.library_meaning.specs.Words as words
use Rattle.morphism_words.specs.declared.link.Link.{Link}

abbrev pub read_link : Link → words.Link
read_link l = record { domain = l.domain; codomain = l.codomain; map = read_map l.map }
