-- The labels of a field whose parts agree are lawful spaces.
use Rattle.std.specs.Prelude.{ℤ, Option, length}
use Rattle.label_space.specs.Laws.{IsLawful}
use Rattle.label_rules.specs.Labels.{Forward, Backward}
use Rattle.label_rules.proofs.SpaceLemmas.{lawful}
use Rattle.route_labels.specs.declared.field.Field.{Field}
use Rattle.route_labels.specs.Fit.{PartsAgree}
use Rattle.route_labels.specs.Meaning.{setting_of}
use Rattle.route_labels.specs.Rules.{forward_rules, backward_rules, vertex_of}

pub forward_lawful : (f : Field) (top : Option ℤ) → PartsAgree f → IsLawful (forward_rules f top)
forward_lawful f top agree =
    lawful Forward (setting_of f) top (length (setting_of f).graph.vertices) vertex_of agree.setting agree.costs (λ l lies. lies.vertex)

pub backward_lawful : (f : Field) (above : Option ℤ) → PartsAgree f → IsLawful (backward_rules f above)
backward_lawful f above agree =
    lawful Backward (setting_of f) above (length (setting_of f).graph.vertices) vertex_of agree.setting agree.costs (λ l lies. lies.vertex)
