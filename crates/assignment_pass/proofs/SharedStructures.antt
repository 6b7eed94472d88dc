-- A shared structure whose link has other ends.
use Rattle.std.proofs.Common.{◌≡◌, false, List, Ok, Err, sym, ap, ◌∙◌}
use Rattle.name_meaning.specs.Names.{Path}
use Rattle.text_meaning.specs.Tokens.{Span}
use Rattle.text_meaning.specs.Trees.{StructAssign, Written}
use Rattle.answer_meaning.specs.Answers.{◌>>=◌}
use Rattle.elaborate_meaning.specs.Rules.{Rule}
use Rattle.library_meaning.specs.Words.{Link}
use Rattle.link_meaning.specs.Refusals.{Outcome, demand, or_refused, refused}
use Rattle.link_meaning.specs.Assignments.{Setting, Assigned, Sharing, is_free, label_along, link_of, read_assign, sharing_ends, structure_at, word_place}
use Rattle.link_setting.specs.Answers.{IsFirstRefusal}
use Rattle.link_setting.specs.Labels.{IsRefused}
use Rattle.link_setting.specs.declared.fault.LinkFault.{LinkFault}
use Rattle.link_setting.specs.declared.fault.LinkFault.TheVariants.{Broken, Memory}

-- What is refused by this rule at this place.
refused_there : {A : Type 0} (fault : LinkFault) (span : Span) (rule : Rule) (label : Path) (whole : Outcome A) → whole ≡ refused span rule label → IsRefused fault span rule label → IsFirstRefusal fault whole
refused_there (Broken refusal) span rule label whole e h = e ∙ sym (ap Err h)
refused_there Memory span rule label whole e h = tt

module _ (setting : Setting) (earlier : List Path) (target : Written) (words : List Written) (structure by : Link) where
  abbrev label : Path
  label = label_along setting target.path

  abbrev with_ends : Link → Link → Outcome Assigned
  with_ends s b = demand (sharing_ends setting s b) (word_place words 0) Rule.MorphismEnds label >>= (λ _. Ok (Sharing target.path s (word_place words 0) b))

  abbrev with_words : Link → Outcome Assigned
  with_words s = link_of setting label words >>= with_ends s

  abbrev with_structure : Link → Outcome Assigned
  with_structure s = demand (is_free earlier target.path) target.span Rule.DoubleAssignment label >>= (λ _. with_words s)

  pub ends_refused : (fault : LinkFault) (first : Span)
      → or_refused (structure_at setting target.path) target.span Rule.UnknownTarget label ≡ Ok structure
      → demand (is_free earlier target.path) target.span Rule.DoubleAssignment label ≡ Ok tt
      → link_of setting label words ≡ Ok by
      → sharing_ends setting structure by ≡ false → first ≡ word_place words 0
      → IsRefused fault first Rule.MorphismEnds label
      → IsFirstRefusal fault (read_assign setting earlier (StructAssign target words))
  ends_refused fault first known free means apart at broken =
      refused_there fault first Rule.MorphismEnds label (read_assign setting earlier (StructAssign target words))
      (ap (λ o. o >>= with_structure) known ∙ ap (λ o. o >>= (λ _. with_words structure)) free ∙ ap (λ o. o >>= with_ends structure) means
      ∙ ap (λ ends. demand ends (word_place words 0) Rule.MorphismEnds label >>= (λ _. Ok (Sharing target.path structure (word_place words 0) by))) apart
      ∙ ap (λ place. refused place Rule.MorphismEnds label) (sym at)) broken
