use Rattle.std.proofs.Common.{rules}
use Rattle.std.specs.String.{string_bytes}
use Rattle.std.proofs.lemmas.Fn.{filter_same}
use Rattle.folder_load.specs.Loads.{is_module_name}
use Rattle.folder_load.proofs.SortedTexts.{are_in_order}
use Rattle.folder_load.proofs.folder.in_order.Goals as goal

pub returns : goal.returns
returns c =
    are_in_order c.args.names.items c.retain.new.self.items c.sort_unstable.new.self.items
    (filter_same _ (λ x. is_module_name (string_bytes x)) _ (λ x b f' k. search rules) _ _ c.retain.ensures.filtered) c.sort_unstable.ensures.permutation c.sort_unstable.ensures.sorted
