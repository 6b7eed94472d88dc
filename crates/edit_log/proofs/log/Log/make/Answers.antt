use Rattle.std.proofs.Common.{◌≡◌, ◌+◌, ◌++◌, ◌∷◌, [], suc, cond, Some, map, length, sym, ap, ◌∙◌, arith, rules}
use Rattle.std.proofs.lemmas.List.{map-append, length-map}
use Rattle.std.specs.Map.{lookup}
use Rattle.name_meaning.specs.Names.{same_name}
use Rattle.list_laws.proofs.Answers.{at_ok}
use Rattle.edit_log_meaning.specs.Log.{Log, Edit, edited, version_of}
use Rattle.edit_log_meaning.specs.Append.{Made, total_size, append_answer}
use Rattle.edit_log_laws.proofs.Libraries.{library_last}
use Rattle.edit_log.specs.Readings.{read_edit}
use Rattle.edit_log.proofs.Answering.{made_fits}
use Rattle.edit_log.proofs.Keeping.{kept_by}
use Rattle.edit_log.proofs.Tables.{stamps_after}
use Rattle.edit_log.proofs.log.Log.make.Goals as goal
use Rattle.edit_log_laws.proofs.Limits.{total_last, made_within}

pub overflow_add-self : goal.overflow_add-self
overflow_add-self c =
    let fits = (made_fits c.args.self.now _ _ c.requires).0 in
    let size = c.self.invariant.size ∙ ap total_size c.self.view_is in
    let more = c.size.ensures in
    omega (arith, fits, size, more)

pub invariant_of-self-2 : goal.invariant_of-self-2
invariant_of-self-2 c =
    let log : Log = map read_edit c.self.inside.edits.items in
    let e : Edit = read_edit c.args.edit in
    let made : append_answer log e ≡ Made (suc (version_of log)) = rw c.self.view_is c.requires in
    let updated = at_ok c.insert.result _ (c.insert.ensures.succeeds (let room = c.in_ok-reserve-2.ensures.ok in omega (arith, room))) c.insert.ensures.updates in
    let named = c.in_ok-name.ensures ∙ c.name.ensures in
    let counted : c.len.result ≡ length c.reserve.new.self.items = search rules in
    let long : c.len.result ≡ version_of log = counted ∙ ap length c.reserve.ensures.items ∙ sym (length-map c.self.inside.edits.items read_edit) in
    let versioned : c.len.result + 1 ≡ suc (version_of log) = omega (arith, long) in
    kept_by _ (log ++ e ∷ [])
    (ap (map read_edit) (c.push_reserved.ensures.items ∙ ap (λ xs. xs ++ c.args.edit ∷ []) c.reserve.ensures.items) ∙ map-append read_edit c.self.inside.edits.items (c.args.edit ∷ []))
    (c.in_ok-change_text.ensures.ok ∙ ap (λ l. edited l e) c.self.invariant.library ∙ sym (library_last log e))
    (stamps_after log e c.self.inside.stamps.entries _ c.self.invariant.stamps (λ n. updated.0 n ∙ (λ i. cond (same_name (named i) n) (Some (versioned i)) (lookup (same_name n) (c.reserve-2.ensures.entries i)))))
    (ap (λ k. k + c.size.result) c.self.invariant.size ∙ ap (λ k. total_size log + k) c.size.ensures ∙ sym (total_last log e))
    (made_within log e _ made c.self.invariant.limits)
