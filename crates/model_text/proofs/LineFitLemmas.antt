-- Each line keeps the limits and orders of a model.
use Rattle.std.proofs.Common.{◌≡◌, ℕ, ◌+◌, ◌≤◌, ◌<◌, true, false, not, List, [], ◌∷◌, ◌++◌, length, refl, arith}
use Rattle.std.specs.Prelude.{nat_lt, All}
use Rattle.std.proofs.lemmas.Bool.Decides.{nat_tests}
use Rattle.std.proofs.lemmas.List.{length-append}
use Rattle.std.proofs.lemmas.List.Elements.{All-push}
use Rattle.std.proofs.lemmas.List.Sums.{sum_by_push}
use Rattle.route_model.specs.declared.parts.Var.{Var}
use Rattle.route_model.specs.Fit.{VarFits, VarsFit}
use Rattle.model_text.specs.declared.draft.Stage.{Stage}
use Rattle.model_text.specs.declared.draft.Stage.TheVariants.{Variables, Rows, Sets, Vertices, Arcs}
use Rattle.model_text.specs.declared.draft.Section.{Section}
use Rattle.model_text.specs.declared.draft.Draft.{Draft}
use Rattle.model_text.specs.declared.line_kind.LineKind.{LineKind}
use Rattle.model_text.specs.declared.line_kind.LineKind.TheVariants as line
use Rattle.model_text.specs.Draft.{begun_section, with_vertex, with_arc, in_section, sections_of}
use Rattle.model_text.specs.LineKinds.{may_stand, passes_limit, further_wanted}
use Rattle.model_text.specs.Totals.{arc_total}
use Rattle.model_text.proofs.LineReads.{var-reads}
use Rattle.model_text.proofs.FitLemmas.{GivesOnly, given, after, gives, or_false}
use Rattle.model_text.proofs.RowFitLemmas.{row_wanted-fits}
use Rattle.model_text.proofs.GraphFitLemmas.{vertex_wanted-fits, arc_wanted-fits, graph_wanted-fits, sets_wanted-few}
use Rattle.model_text.proofs.DraftFitLemmas.{SectionFits, DraftFits, with_vertex-fits, with_arc-fits, begun_section-fits, more_sections, changed_section, in_section-fits, no_rows-fit, no_sections-fit, terms_begin, more_rows}

-- a draft at a stage
abbrev pub at : Stage → Draft → Draft
at stage d = record d { stage = stage }

more_vars : (vars : List Var) (v : Var) → VarsFit vars → length vars < 30000 → VarFits v → VarsFit (vars ++ v ∷ [])
more_vars vars v fit few fits =
    record { few = omega (arith, few, length-append vars (v ∷ [])); each = All-push VarFits vars v fit.each fits }

below_limit : (n limit : ℕ) → not (nat_lt n limit) ≡ false → n < limit
below_limit n limit h = grind (arith, nat_tests, h)

var_step : (d : Draft) (n : ℕ) → passes_limit line.Var (at Variables d) ≡ false → DraftFits (at Variables d) → GivesOnly (further_wanted line.Var (at Variables d) n) DraftFits
var_step d n room fit =
    after (gives var-reads) (λ v fits.
    given (record (at Variables d) { vars = d.vars ++ v ∷ [] })
    (record {
      vars = more_vars d.vars v fit.vars (below_limit (length d.vars) 30000 room) fits;
      rows = no_rows-fit (length (d.vars ++ v ∷ [])) d.rows fit.stage.0;
      sets = fit.sets;
      sections = fit.sections;
      done = no_sections-fit (length (d.vars ++ v ∷ [])) d.sets d.done fit.stage.1;
      stage = fit.stage;
    }))

row_step : (d : Draft) (stage : Stage) (n : ℕ) → sections_of (at stage d) ≡ d.done → d.done ≡ [] → passes_limit line.Row (at stage d) ≡ false → DraftFits (at stage d) → GivesOnly (further_wanted line.Row (at stage d) n) DraftFits
row_step d stage n closed none room fit =
    after (row_wanted-fits d.vars d.rows fit.vars.few (terms_begin (length d.vars) d.rows fit.rows)) (λ row fits.
    given (record (at stage d) { stage = Rows; rows = d.rows ++ row ∷ [] })
    (record {
      vars = fit.vars;
      rows = more_rows (length d.vars) d.rows row fit.rows (below_limit (length d.rows) 5000 room) fits.0 fits.1;
      sets = fit.sets;
      sections = rw closed at fit.sections;
      done = fit.done;
      stage = none;
    }))

sets_step : (d : Draft) (stage : Stage) (n : ℕ) → sections_of (at stage d) ≡ d.done → d.done ≡ [] → DraftFits (at stage d) → GivesOnly (further_wanted line.Sets (at stage d) n) DraftFits
sets_step d stage n closed none fit =
    after sets_wanted-few (λ sets few.
    given (record (at stage d) { stage = Sets; sets = sets })
    (record {
      vars = fit.vars;
      rows = fit.rows;
      sets = few;
      sections = rw closed at fit.sections;
      done = no_sections-fit (length d.vars) sets d.done none;
      stage = tt;
    }))

graph_step : (d : Draft) (stage : Stage) (n : ℕ) → All (SectionFits (length d.vars) d.sets) (sections_of (at stage d)) → passes_limit line.Graph (at stage d) ≡ false → DraftFits (at stage d) → GivesOnly (further_wanted line.Graph (at stage d) n) DraftFits
graph_step d stage n each room fit =
    let sections = sections_of (at stage d) in
    after (graph_wanted-fits sections) (λ g fits.
    given (record (at stage d) { stage = Vertices; done = sections; current = begun_section g.0 g.1 })
    (record {
      vars = fit.vars;
      rows = fit.rows;
      sets = fit.sets;
      sections = more_sections sections (begun_section g.0 g.1) fit.sections (below_limit (length sections) 64 room) fits.paths (let arcs = fit.sections.arcs in omega (arith, arcs));
      done = each;
      stage = begun_section-fits (length d.vars) d.sets g.0 g.1 fits.some_vertices fits.few_vertices fits.ends;
    }))

arcs_of_done : (done : List Section) (s : Section) → arc_total (done ++ s ∷ []) ≡ arc_total done + length s.arcs
arcs_of_done done s = sum_by_push (λ (t : Section). length t.arcs) done s

vertex_step : (d : Draft) (n : ℕ) → DraftFits (at Vertices d) → GivesOnly (further_wanted line.Vertex (at Vertices d) n) DraftFits
vertex_step d n fit =
    after (vertex_wanted-fits d.sets d.current fit.sets) (λ v fits.
    let s : Section = with_vertex d.current v in
    let arcs = fit.sections.arcs in
    given (in_section (at Vertices d) s)
    (in_section-fits (at Vertices d) s fit.vars fit.rows fit.sets (changed_section d.done d.current s fit.sections refl (omega (arith, arcs, arcs_of_done d.done d.current))) fit.done
    (with_vertex-fits (length d.vars) d.sets d.current v fit.stage fits.0 fits.1 fits.2)))

pub whole_few : {vars sets : ℕ} (s : Section) → SectionFits vars sets s → length s.vertices ≤ 1024
whole_few s fit = let few = fit.begun.few_vertices in let whole = fit.whole in omega (arith, few, whole)

arc_step : (d : Draft) (n : ℕ) → passes_limit line.Arc (at Arcs d) ≡ false → DraftFits (at Arcs d) → GivesOnly (further_wanted line.Arc (at Arcs d) n) DraftFits
arc_step d n room fit =
    after (arc_wanted-fits (length d.vars) d.current fit.vars.few (whole_few d.current fit.stage)) (λ a fits.
    let s : Section = with_arc d.current a.0 a.1 in
    let parts = or_false (not (nat_lt (length d.current.arcs) 60000)) (not (nat_lt (arc_total (d.done ++ d.current ∷ [])) 100000)) room in
    let few = below_limit (length d.current.arcs) 60000 parts.0 in
    let few_in_all = below_limit (arc_total (d.done ++ d.current ∷ [])) 100000 parts.1 in
    given (in_section (at Arcs d) s)
    (in_section-fits (at Arcs d) s fit.vars fit.rows fit.sets (changed_section d.done d.current s fit.sections refl (omega (arith, few_in_all, arcs_of_done d.done d.current, length-append d.current.arcs (a.0 ∷ [])))) fit.done
    (with_arc-fits (length d.vars) d.sets d.current a.0 a.1 fit.stage few fits.0 fits.1)))

end_step : (d : Draft) (stage : Stage) (n : ℕ) → All (SectionFits (length d.vars) d.sets) (sections_of (at stage d)) → DraftFits (at stage d) → GivesOnly (further_wanted line.End (at stage d) n) DraftFits
end_step d stage n each fit =
    given _
    (record { vars = fit.vars; rows = fit.rows; sets = fit.sets; sections = fit.sections; done = each; stage = tt })

-- all graphs are whole where a graph or the end may follow
whole_sections : (d : Draft) → DraftFits (at Arcs d) → All (SectionFits (length d.vars) d.sets) (d.done ++ d.current ∷ [])
whole_sections d fit = All-push (SectionFits (length d.vars) d.sets) d.done d.current fit.done fit.stage

pub further_wanted-fits : (kind : LineKind) (stage : Stage) (d : Draft) (n : ℕ) → may_stand kind stage ≡ true → passes_limit kind (at stage d) ≡ false → DraftFits (at stage d) → GivesOnly (further_wanted kind (at stage d) n) DraftFits
further_wanted-fits line.Var Variables d n stands room fit = var_step d n room fit
further_wanted-fits line.Row Variables d n stands room fit = row_step d Variables n refl fit.stage.1 room fit
further_wanted-fits line.Row Rows d n stands room fit = row_step d Rows n refl fit.stage room fit
further_wanted-fits line.Sets Variables d n stands room fit = sets_step d Variables n refl fit.stage.1 fit
further_wanted-fits line.Sets Rows d n stands room fit = sets_step d Rows n refl fit.stage fit
further_wanted-fits line.Graph Variables d n stands room fit = graph_step d Variables n fit.done room fit
further_wanted-fits line.Graph Rows d n stands room fit = graph_step d Rows n fit.done room fit
further_wanted-fits line.Graph Sets d n stands room fit = graph_step d Sets n fit.done room fit
further_wanted-fits line.Graph Arcs d n stands room fit = graph_step d Arcs n (whole_sections d fit) room fit
further_wanted-fits line.Vertex Vertices d n stands room fit = vertex_step d n fit
further_wanted-fits line.Arc Arcs d n stands room fit = arc_step d n room fit
further_wanted-fits line.End Variables d n stands room fit = end_step d Variables n fit.done fit
further_wanted-fits line.End Rows d n stands room fit = end_step d Rows n fit.done fit
further_wanted-fits line.End Sets d n stands room fit = end_step d Sets n fit.done fit
further_wanted-fits line.End Arcs d n stands room fit = end_step d Arcs n (whole_sections d fit) fit
further_wanted-fits _ _ d n stands room fit = cc
