use Rattle.std.proofs.Common.{refl}
use Rattle.std.proofs.lemmas.Bool.{false≢true}
use Rattle.route_labels.specs.Meaning.{setting_of}
use Rattle.proof_check.specs.Ways.{direction_of}
use Rattle.proof_check.proofs.CoverLemmas.{covered_from, extended_from, labels_from}
use Rattle.proof_check.proofs.cover.is_extended.Goals as goal

pub returns-then-not-are_labels : goal.returns-then-not-are_labels
returns-then-not-are_labels c = (
  λ no. absurd (false≢true no),
  λ h. c.if-not-are_labels.ensures.1 (labels_from (direction_of c.args.way.now.backward) (setting_of c.args.way.now.field) c.args.way.now.threshold c.args.labels.now
      c.path_graph-graph.ensures.agree.setting c.requires.keeps h),
)

pub returns : goal.returns
returns c = (
  λ h. extended_from (direction_of c.args.way.now.backward) (setting_of c.args.way.now.field) c.args.way.now.threshold c.args.labels.now (c.if-not-are_labels.ensures.0 refl) (c.are_covered.ensures.0 h),
  λ h. c.are_covered.ensures.1 (covered_from (direction_of c.args.way.now.backward) (setting_of c.args.way.now.field) c.args.way.now.threshold c.args.labels.now h),
)
