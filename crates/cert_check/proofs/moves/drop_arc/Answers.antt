use Rattle.std.proofs.Common.{sym, ◌∙◌}
use Rattle.cert_check.proofs.StackLemmas.{drop_keeps}
use Rattle.cert_check.proofs.moves.drop_arc.Goals as goal

pub returns-clause-left : goal.returns-clause-left
returns-clause-left c =
    drop_keeps c.args.tree.now.spot c.put_mark.new.spot c.args.tree.now.walks c.args.tree.now.boxes c.args.g c.args.a c.args.tree.now.frames c.push.new.self
    (sym c.has_mark.ensures ∙ c.if-has_mark.false) c.in_ok-push.ensures.ok c.put_mark.ensures
