use Rattle.std.proofs.Common.{ap, ◌∙◌, length}
use Rattle.route_model.specs.Parts.{ModelParts}
use Rattle.multipliers.proofs.BaseLemmas.{all_defined, base_told, cuts_told, rows_defined, rows_told, sets_told, spans_told}
use Rattle.multipliers.proofs.pricing.base_of.Goals as goal

pub returns-clause-base : goal.returns-clause-base
returns-clause-base c =
    let m = c.args.model.now in
    let boxes = c.args.boxes.now in
    let mult = c.args.mult.now in
    base_told m c.args.cuts.now boxes mult c.total_of.result c.span_terms-vars.result c.in_ok-rows.rows c.set_terms-sets.result c.cut_terms-cuts.result c.span_terms-paths.result
    c.span_terms-vars.ensures.small c.in_ok-rows.ensures.small c.set_terms-sets.ensures.small c.cut_terms-cuts.ensures.small c.span_terms-paths.ensures.small
    (spans_told c.span_terms-vars.result c.as_slice-3.result.now mult.vars c.as_slice-4.result.now boxes.vars (length m.vars) c.as_slice-3.ensures c.as_slice-4.ensures c.requires.boxes.vars c.span_terms-vars.ensures.sum)
    (rows_told c.in_ok-rows.rows c.as_slice.result.now mult.rows c.as_slice-2.result.now m.rows c.as_slice.ensures (c.as_slice-2.ensures ∙ ap (λ (x : ModelParts). x.rows) c.model.view_is) c.in_ok-rows.ensures.sum)
    (sets_told c.set_terms-sets.result c.as_slice-5.result.now mult.sets m.sets c.as_slice-5.ensures c.requires.mult.sets c.set_terms-sets.ensures.sum)
    (cuts_told c.cut_terms-cuts.result c.as_slice-6.result.now mult.cuts c.args.cuts.now c.as_slice-6.ensures c.cut_terms-cuts.ensures.sum)
    (spans_told c.span_terms-paths.result c.as_slice-7.result.now mult.paths c.as_slice-8.result.now boxes.paths (length m.graphs) c.as_slice-7.ensures c.as_slice-8.ensures c.requires.boxes.paths c.span_terms-paths.ensures.sum)
    c.total_of.ensures.total

pub returns-clause-defined : goal.returns-clause-defined
returns-clause-defined c =
    let m = c.args.model.now in
    all_defined m c.args.cuts.now c.args.boxes.now c.args.mult.now
    (rows_defined c.as_slice.result.now c.args.mult.now.rows c.as_slice-2.result.now m.rows c.as_slice.ensures (c.as_slice-2.ensures ∙ ap (λ (x : ModelParts). x.rows) c.model.view_is) c.in_ok-rows.ensures.defined)
