use Rattle.std.proofs.Common.{reverse, sym, ap, ◌∙◌, subst}
use Rattle.std.proofs.lemmas.List.{reverse-reverse}
use Rattle.label_core.specs.Walks.{LeadsBack}
use Rattle.label_core.proofs.walk.walk_of.Goals as goal

pub arcs_back-requires : goal.arcs_back-requires
arcs_back-requires g c = c.requires.origins.lead_back c.args.at c.requires.stands.0 c.requires.stands.1

pub returns : goal.returns
returns g c =
    subst (λ back. LeadsBack c.args.t.now.cells c.args.at back)
    (sym (reverse-reverse c.in_ok-arcs.arcs.items) ∙ ap reverse (sym c.reverse.ensures.items) ∙ ap reverse (sym c.from_vec.ensures))
    c.in_ok-arcs.ensures
