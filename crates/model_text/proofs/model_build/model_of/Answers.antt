use Rattle.std.proofs.Common.{◌≡◌, ℕ, ◌^◌, All, map, List, refl, ap, sym, ◌∙◌, subst, Err}
use Rattle.path_graph.specs.Free.{HasNoFreeCycle}
use Rattle.path_graph.specs.Parts.{GraphParts}
use Rattle.route_model.specs.Parts.{ModelParts}
use Rattle.route_model.specs.Fit.{cost_range}
use Rattle.model_text.specs.declared.draft.Section.{Section}
use Rattle.model_text.specs.Draft.{graph_of, SectionPartsFit}
use Rattle.model_text.proofs.BuildLemmas.{ended_parts, told_graphs_fit, told_model_fits, told_model, told_cost_range, not_above}
use Rattle.model_text.proofs.model_build.model_of.Goals as goal

abbrev pub IsAcyclic : Section → Type 0
IsAcyclic s = HasNoFreeCycle s.arcs

pub graphs_of-requires : goal.graphs_of-requires
graphs_of-requires c = subst (All SectionPartsFit) (sym c.as_slice.ensures) (told_graphs_fit c.args.draft c.requires)

pub build-requires : goal.build-requires
build-requires c =
    let d = c.args.draft in
    let none : All IsAcyclic d.done = subst (All IsAcyclic) c.as_slice.ensures c.in-Ok.ensures.acyclic in
    let graphs : c.in-Ok.graphs ≡ map graph_of d.done = c.in-Ok.ensures.graphs ∙ ap (map graph_of) c.as_slice.ensures in
    let maps : c.in_ok-maps.maps ≡ map (λ (s : Section). s.maps) d.done = c.in_ok-maps.ensures in
    rw (graphs, maps) (told_model_fits d c.requires none)

pub returns-in-Ok-build-clause-ok : goal.returns-in-Ok-build-clause-ok
returns-in-Ok-build-clause-ok c =
    let d = c.args.draft in
    let none : All IsAcyclic d.done = subst (All IsAcyclic) c.as_slice.ensures c.in-Ok.ensures.acyclic in
    let graphs : c.in-Ok.graphs ≡ map graph_of d.done = c.in-Ok.ensures.graphs ∙ ap (map graph_of) c.as_slice.ensures in
    let maps : c.in_ok-maps.maps ≡ map (λ (s : Section). s.maps) d.done = c.in_ok-maps.ensures in
    let parts : List GraphParts → List (List (List ℕ)) → ModelParts = λ gs ms. record { vars = d.vars; rows = d.rows; sets = d.sets; graphs = gs; maps = ms } in
    let is : c.in-Ok-build.model ≡ ended_parts d = c.in-Ok-build.ensures.ok ∙ (ap (λ gs. parts gs c.in_ok-maps.maps) graphs ∙ ap (λ ms. parts (map graph_of d.done) ms) maps) in
    told_model d c.in-Ok-build.model c.requires none is (not_above (cost_range d.vars) (2 ^ 40) (λ above. let clash = c.in-Ok-build.ensures.cost_range.1 above in cc))

pub returns-in-Err-CostRange-clause-refused : goal.returns-in-Err-CostRange-clause-refused
returns-in-Err-CostRange-clause-refused c =
    let d = c.args.draft in
    let none : All IsAcyclic d.done = subst (All IsAcyclic) c.as_slice.ensures c.in-Ok.ensures.acyclic in
    told_cost_range d _ c.requires refl none (c.in-Err-CostRange.ensures.cost_range.0 (ap (λ e. Err e) c.in-Err-CostRange.field-0-is))
