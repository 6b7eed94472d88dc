-- What links with borrowed parts stand for.
use Rattle.std.specs.Prelude.{List}
use Rattle.base_types.specs.declared.qname.QName.{QName}
use Rattle.term_trees.specs.Readings.{read_map}
use Rattle.term_trees.specs.declared.flat_decl.Image.{Image}
use Rattle.library_meaning.specs.Words as words
use Rattle.morphism_words.specs.declared.lent.LentMap.{LentMap}
use Rattle.morphism_words.specs.declared.lent.LentMap.TheVariants.{Borrowed, Made}
use Rattle.morphism_words.specs.declared.lent.LentLink.{LentLink}

-- The map, as its constants with their images.
abbrev pub map_in : LentMap → List (QName × Image)
map_in (Borrowed map) = map.now
map_in (Made map) = map

abbrev pub read_lent : LentLink → words.Link
read_lent l = record { domain = l.domain.now; codomain = l.codomain.now; map = read_map (map_in l.map) }
