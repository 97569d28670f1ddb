-- Models and faults of what the lines of a text told.
use Rattle.std.proofs.Common.{◌≡◌, ℕ, ◌+◌, ◌<◌, ◌≤◌, ◌^◌, List, [], ◌∷◌, ◌++◌, length, map, take, get_or, refl, ap, subst, sym, ◌∙◌, arith, Ok, inl, inr, Bool, true, false}
use Rattle.std.specs.Prelude.{All, Any, nat_lt}
use Rattle.std.proofs.lemmas.Bool.Decides.{nat_tests}
use Rattle.std.proofs.lemmas.List.{take_more, map-append, length-map, get_or-map}
use Rattle.std.proofs.lemmas.List.Elements.{All-push}
use Rattle.path_graph.specs.Free.{IsFreeCycle, HasNoFreeCycle}
use Rattle.path_graph.specs.Parts.{GraphParts}
use Rattle.route_model.specs.Parts.{ModelParts}
use Rattle.route_model.specs.Fit.{ModelFits, cost_range}
use Rattle.line_text.specs.declared.fault.Kind.TheVariants as kinds
use Rattle.line_text.specs.declared.fault.TextFault.{TextFault}
use Rattle.model_text.specs.declared.draft.Stage.{Stage}
use Rattle.model_text.specs.declared.draft.Stage.TheVariants.{Ended}
use Rattle.model_text.specs.declared.draft.Section.{Section}
use Rattle.model_text.specs.declared.draft.Draft.{Draft}
use Rattle.model_text.specs.Draft.{graph_of, no_section, parts_of, SectionPartsFit}
use Rattle.model_text.specs.FreeCycles.{HasFreeCycle}
use Rattle.model_text.specs.FirstFault.{IsModelOf, IsFaultOf}
use Rattle.model_text.specs.Refusal.{IsTold}
use Rattle.model_text.proofs.DraftFitLemmas.{section_parts_fit}
use Rattle.model_text.proofs.TextFitLemmas.{text_read-fits, text_read-model_fits}

-- one more graph
pub graphs_more : (sections : List Section) (i : ℕ) (s d : Section) (old new : List GraphParts) → i < length sections → old ≡ map graph_of (take i sections) → s ≡ get_or sections i d → new ≡ old ++ graph_of s ∷ [] → new ≡ map graph_of (take (i + 1) sections)
graphs_more sections i s d old new within so_far here is =
    is
    ∙ (ap (λ gs. gs ++ graph_of s ∷ []) so_far
    ∙ (ap (λ t. map graph_of (take i sections) ++ graph_of t ∷ []) here
    ∙ sym (ap (map graph_of) (take_more sections i d within) ∙ map-append graph_of (take i sections) (get_or sections i d ∷ []))))

pub acyclic_more : (sections : List Section) (i : ℕ) (s d : Section) → i < length sections → s ≡ get_or sections i d → All (λ t. HasNoFreeCycle t.arcs) (take i sections) → HasNoFreeCycle s.arcs → All (λ t. HasNoFreeCycle t.arcs) (take (i + 1) sections)
acyclic_more sections i s d within here so_far none =
    let IsAcyclic : Section → Type 0 = λ t. HasNoFreeCycle t.arcs in
    subst (All IsAcyclic) (sym (take_more sections i d within))
    (All-push IsAcyclic (take i sections) (get_or sections i d) so_far (subst IsAcyclic here none))

-- a graph with a cycle among others
pub cycle_among : (sections : List Section) (i : ℕ) (s d : Section) → i < length sections → s ≡ get_or sections i d → HasFreeCycle (graph_of s) → Any HasFreeCycle (map graph_of sections)
cycle_among sections i s d within here cycle =
    let at : get_or (map graph_of sections) i (graph_of s) ≡ graph_of s = get_or-map graph_of sections i d (graph_of s) within ∙ ap graph_of (sym here) in
    (i, graph_of s, omega (arith, within, length-map sections graph_of), at, cycle)

pub no_cycle_among : (sections : List Section) → All (λ t. HasNoFreeCycle t.arcs) sections → Any HasFreeCycle (map graph_of sections) → ⊥
no_cycle_among sections none (k, g, within, at, cycle) =
    let inside : k < length sections = omega (arith, within, length-map sections graph_of) in
    let here : graph_of (get_or sections k no_section) ≡ g = sym (get_or-map graph_of sections k no_section g inside) ∙ at in
    none k no_section inside cycle.0 (subst (λ (x : GraphParts). IsFreeCycle x.arcs cycle.0) (sym here) cycle.1)

-- what lines told to their end
abbrev pub ended_parts : Draft → ModelParts
ended_parts d =
    record {
      vars = d.vars;
      rows = d.rows;
      sets = d.sets;
      graphs = map graph_of d.done;
      maps = map (λ s. s.maps) d.done;
    }

pub told_parts : (d : Draft) → IsTold d → parts_of d ≡ ended_parts d
told_parts d (text, told) = by_stage d.stage (text_read-fits text d told).1
  where
    by_stage : (stage : Stage) → stage ≡ Ended → parts_of (record d { stage = stage }) ≡ ended_parts d
    by_stage stage is = ap (λ s. parts_of (record d { stage = s })) is

pub told_graphs_fit : (d : Draft) → IsTold d → All SectionPartsFit d.done
told_graphs_fit d (text, told) =
    let fit = (text_read-fits text d told).0 in
    λ k s within. section_parts_fit (length d.vars) d.sets _ (fit.done k s within)

pub told_model_fits : (d : Draft) → IsTold d → All (λ s. HasNoFreeCycle s.arcs) d.done → ModelFits (ended_parts d)
told_model_fits d (text, told) none =
    let parts = told_parts d (text, told) in
    let acyclic : Any HasFreeCycle (parts_of d).graphs → ⊥ = subst (λ (m : ModelParts). Any HasFreeCycle m.graphs → ⊥) (sym parts) (no_cycle_among d.done none) in
    subst ModelFits parts (text_read-model_fits text d acyclic told)

-- the model of what lines told
pub told_model : (d : Draft) (m : ModelParts) → IsTold d → All (λ s. HasNoFreeCycle s.arcs) d.done → m ≡ ended_parts d → cost_range d.vars ≤ 2 ^ 40 → IsModelOf (Ok d) m
told_model d m told none is costs = (
  told_parts d told ∙ sym is,
  subst (λ (n : ModelParts). Any HasFreeCycle n.graphs → ⊥) (sym is) (no_cycle_among d.done none),
  subst (λ (n : ModelParts). cost_range n.vars ≤ 2 ^ 40) (sym is) costs,
)

-- the faults that are looked at last
pub told_cycle : (d : Draft) (fault : TextFault) → IsTold d → fault ≡ record { line = d.end; kind = kinds.FreeCycle } → Any HasFreeCycle (map graph_of d.done) → IsFaultOf (Ok d) fault
told_cycle d fault told is some = (
  ap (λ (f : TextFault). f.line) is,
  inl (ap (λ (f : TextFault). f.kind) is, subst (λ (n : ModelParts). Any HasFreeCycle n.graphs) (sym (told_parts d told)) some),
)

pub told_cost_range : (d : Draft) (fault : TextFault) → IsTold d → fault ≡ record { line = d.end; kind = kinds.CostRange } → All (λ s. HasNoFreeCycle s.arcs) d.done → 2 ^ 40 < cost_range d.vars → IsFaultOf (Ok d) fault
told_cost_range d fault told is none costs =
    let parts = sym (told_parts d told) in (
      ap (λ (f : TextFault). f.line) is,
      inr (ap (λ (f : TextFault). f.kind) is, subst (λ (n : ModelParts). Any HasFreeCycle n.graphs → ⊥) parts (no_cycle_among d.done none), costs),
    )

pub not_above : (n limit : ℕ) → (limit < n → ⊥) → n ≤ limit
not_above n limit not = by_test (nat_lt limit n) refl
  where
    by_test : (b : Bool) → nat_lt limit n ≡ b → n ≤ limit
    by_test true is = let above : limit < n = grind (arith, nat_tests, is) in absurd (not above)
    by_test false is = grind (arith, nat_tests, is)
