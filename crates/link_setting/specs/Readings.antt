-- What the values of this crate stand for: the setting of a link, and what assignments give.
use Rattle.std.specs.Prelude.{List, map}
use Rattle.std.specs.Option.{option_map}
use Rattle.link_meaning.specs.Assignments as assignments
use Rattle.mmt_syntax.specs.Readings.{read_span, read_expr}
use Rattle.mmt_interface.specs.Readings.{environment_of, read_theory}
use Rattle.names.specs.Readings.{read_scope}
use Rattle.morphism_words.specs.Readings.{read_link}
use Rattle.link_setting.specs.declared.setting.Setting.{Setting}
use Rattle.link_setting.specs.declared.assigned.Assigned.{Assigned}
use Rattle.link_setting.specs.declared.assigned.Assigned.TheVariants.{Covering, Sharing, Giving}

abbrev pub read_setting : Setting → assignments.Setting
read_setting s =
    record {
      environment = environment_of s.scope.faces.now;
      here = option_map (λ face. read_theory face.now) s.here;
      domain = s.domain.now;
      codomain = s.codomain.now;
      scope = read_scope s.scope;
      structure = option_map (λ name. name.now) s.structure;
      span = read_span s.at.now.span;
      label = s.at.now.path;
    }

abbrev pub read_assigned : Assigned → assignments.Assigned
read_assigned (Covering first by) = assignments.Covering (read_span first) (read_link by)
read_assigned (Sharing target structure first by) = assignments.Sharing target.now (read_link structure) (read_span first) (read_link by)
read_assigned (Giving target value) = assignments.Giving target.now (read_expr value.now)

abbrev pub read_all_assigned : List Assigned → List assignments.Assigned
read_all_assigned = map read_assigned
