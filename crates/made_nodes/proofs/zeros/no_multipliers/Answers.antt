use Rattle.std.proofs.Common.{ℕ, length, pos, ap, ◌∙◌}
use Rattle.std.specs.Prelude.{replicate}
use Rattle.route_model.specs.Parts.{ModelParts}
use Rattle.made_nodes.proofs.ZeroLemmas.{made_fit, made_zeros}
use Rattle.made_nodes.proofs.zeros.no_multipliers.Goals as goal

pub returns-clause-fits : goal.returns-clause-fits
returns-clause-fits c =
    let vars = c.len.ensures ∙ ap (λ (m : ModelParts). length m.vars) c.model.view_is in
    let rows = c.len-2.ensures ∙ ap (λ (m : ModelParts). length m.rows) c.model.view_is in
    let sets = c.from.ensures ∙ ap (λ (m : ModelParts). m.sets) c.model.view_is in
    let graphs = c.len-3.ensures ∙ ap (λ (m : ModelParts). length m.graphs) c.model.view_is in
    made_fit c.args.model.now _ (c.in_ok-zeros.ensures ∙ ap (λ (n : ℕ). replicate n (pos 0)) vars) (c.in_ok-zeros-2.ensures ∙ ap (λ (n : ℕ). replicate n (pos 0)) rows)
    (c.in_ok-zeros-3.ensures ∙ ap (λ (n : ℕ). replicate n (pos 0)) sets) (c.in_ok-zeros-4.ensures ∙ ap (λ (n : ℕ). replicate n (pos 0)) graphs)

pub returns-clause-zeros : goal.returns-clause-zeros
returns-clause-zeros c =
    made_zeros _ c.len.result c.len-2.result c.from.result c.len-3.result c.in_ok-zeros.ensures c.in_ok-zeros-2.ensures c.in_ok-zeros-3.ensures c.in_ok-zeros-4.ensures c.new.ensures
