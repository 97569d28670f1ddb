use Rattle.made_nodes.proofs.ClosingLemmas.{is_closing}
use Rattle.made_nodes.proofs.retest.closing.Goals as goal

pub returns : goal.returns
returns c = is_closing c.args.model.now c.args.node _ c.in_ok-form.ensures
