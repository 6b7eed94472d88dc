-- From where terms are seen.
use Rattle.printing_meaning.specs.Constants as constants
use Rattle.term_text.specs.declared.seen.Seen.{Seen}

abbrev pub read_seen : Seen → constants.Seen
read_seen s = record { theory = s.theory.now; prefix = s.prefix.items }
