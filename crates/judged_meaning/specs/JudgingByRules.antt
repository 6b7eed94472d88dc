-- The judging of the rules: that of the verdict of each module over its library (this profile).
use Rattle.std.specs.Prelude.{[], Option, Some, None}
use Rattle.name_meaning.specs.Names.{Name, Text}
use Rattle.edit_log_meaning.specs.Log.{Library}
use Rattle.verdict_meaning.specs.Below.Refusals as refusals
use Rattle.verdict_meaning.specs.Below.Rules.{word_of}
use Rattle.text_meaning.specs.Dependencies.{dependencies}
use Rattle.verdict_meaning.specs.Verdicts as verdicts
use Rattle.verdict_meaning.specs.Rounds.{verdict_of, told_by}
use Rattle.run_meaning.specs.Below.VerdictLines.{Refusal, Judged, Refused, AcceptedTheory, AcceptedView}
use Rattle.run_meaning.specs.Judging.{Judging}
use Rattle.run_meaning.specs.Below.CarriedLines.{Carried, Carries, NoView, Ill}
use Rattle.judged_meaning.specs.Carrying.{Carriage, CarriedTo, NoSuchView, IllBy, carry}

-- A refusal, as it is printed: the place where it begins, the rule's word and the label.
abbrev pub printed_refusal : refusals.Refusal → Refusal
printed_refusal refusal = record { at = refusal.span.from; rule = word_of refusal.rule; label = refusal.label }

abbrev pub judged_by : verdicts.Verdict → Judged
judged_by (verdicts.Accepted (verdicts.Theory face size)) = AcceptedTheory face
judged_by (verdicts.Accepted (verdicts.View face)) = AcceptedView face
judged_by (verdicts.Refused refusal) = Refused (printed_refusal refusal)

-- What is judged of a name by its verdict. A present name has one; for an absent one nothing is asked.
abbrev pub judged_if : Option verdicts.Verdict → Judged
judged_if None = Refused (record { at = 0; rule = []; label = [] })
judged_if (Some verdict) = judged_by verdict

-- What carrying comes to, as it is printed: a broken rule with the place where it begins, and the rule's word.
abbrev pub printed_carriage : Carriage → Carried
printed_carriage (CarriedTo object family) = Carries object family
printed_carriage NoSuchView = NoView
printed_carriage (IllBy fault) = Ill fault.span.from (word_of fault.rule)

-- The judging of the rules.
abbrev pub rules : Judging
rules = record {
  dependencies = dependencies;
  judged = λ (library : Library) (name : Name). judged_if (verdict_of library name);
  carried = λ (library : Library) (view : Name) (text : Text). printed_carriage (carry (told_by library) view text);
}
