-- A table that stops at a limit shows more partial walks, or rests, than the limit.
use Rattle.std.proofs.Common.{ℕ, List, [], ◌∷◌, inl, inr, refl, arith}
use Rattle.std.proofs.lemmas.List.Elements.{All-contains}
use Rattle.path_graph.specs.Rest.{HasBackward}
use Rattle.path_graph.specs.Walk.{Passes}
use Rattle.label_rules.specs.declared.label.Label.{Label}
use Rattle.label_rules.specs.Labels.{Backward, ExtendsAlong, Forward, HasBackwardLabel, Setting, backward_label, extended, root}
use Rattle.proof_rules.specs.Places.{setting_at}
use Rattle.proof_rules.specs.TableWalls.{IsWalkIn}
use Rattle.proof_rules.proofs.ChoiceLemmas.{table_walks}
use Rattle.search_rules.specs.Laws.{TableWallPassesLaw}
use Rattle.search_rules.proofs.WalkLemmas.{few_of_graph, of_arcs}

-- the windows take the values where each extension is defined
passes_of : (S : Setting) (l : Label) (arcs : List ℕ) → ExtendsAlong S l arcs → Passes S.graph l.values arcs
passes_of S l [] h = tt
passes_of S l (a ∷ rest) h = (h.0.values, passes_of S (extended Forward S l a) rest h.1)

backward_of : (S : Setting) (arcs : List ℕ) → HasBackwardLabel S arcs → HasBackward S.graph arcs (backward_label S arcs).values
backward_of S [] h = refl
backward_of S (a ∷ rest) h = ((backward_label S rest).values, backward_of S rest h.1, h.0.values, refl)

pub table_wall_passes : TableWallPassesLaw
table_wall_passes m limit g Forward spot near cuts mult t partials rests wall all_partials all_rests =
    let S : Setting = setting_at m spot near cuts mult g in
    let shown = table_walks limit Forward S t wall.table in
    let few = few_of_graph g shown.0 partials shown.3 (λ arcs h.
    let is = All-contains (IsWalkIn Forward S) shown.0 arcs shown.2 h in
    all_partials (of_arcs g arcs) (record { there = wall.graph; ends = is.ends; leads = is.leads; passes = passes_of S (root Forward S) arcs is.label })) in
    inl (omega (arith, few, shown.1))
table_wall_passes m limit g Backward spot near cuts mult t partials rests wall all_partials all_rests =
    let S : Setting = setting_at m spot near cuts mult g in
    let shown = table_walks limit Backward S t wall.table in
    let few = few_of_graph g shown.0 rests shown.3 (λ arcs h.
    let is = All-contains (IsWalkIn Backward S) shown.0 arcs shown.2 h in
    all_rests (of_arcs g arcs) (record { there = wall.graph; begins = is.begins; leads = is.leads; value = (backward_label S arcs).values; values = backward_of S arcs is.label })) in
    inr (omega (arith, few, shown.1))
