-- Joins of the labels of a table, and walks that are new.
use Rattle.std.proofs.Common.{arith, ◌<◌, ◌≤◌, ◌+◌, ◌≢◌, ℕ, length, [], List, ◌∷◌, ◌++◌, All, get_or, subst, sym}
use Rattle.std.proofs.lemmas.List.{get_or_default, length-append}
use Rattle.std.proofs.lemmas.List.Elements.{All-push}
use Rattle.std.proofs.lemmas.List.Quantifiers.{all_pairs_push}
use Rattle.std.proofs.lemmas.Option.{slice_get-get_or}
use Rattle.label_core.specs.declared.table.Entry.{Entry}
use Rattle.label_core.specs.Tables.{Cells, place}
use Rattle.label_rules.specs.declared.label.Label.{Label}
use Rattle.label_rules.specs.Labels.{Setting}
use Rattle.concatenate.specs.Fit.{MayJoin}
use Rattle.pricing.specs.Halves.{MayEachJoin}
use Rattle.path_graph.specs.Walk.{GraphParts}
use Rattle.route_model.specs.declared.plan.Taken.{Taken}
use Rattle.pricing.specs.JoinedWalks.{AreTakenOnce, IsTakenOnce, MayAllJoin, MayCellsJoin}

-- the labels of all cells may be joined where each entry's may
pub may_cells_join : (S : Setting) (t : Cells Label) → MayEachJoin S t → MayCellsJoin S t
may_cells_join S t each c d there i e within =
    subst (λ (es : List (Entry Label)). i < length es → MayJoin S (get_or es i e).label) (get_or_default t c [] d there)
    (λ (h : i < length (get_or t c [])). each (place c i) (get_or (get_or t c []) i e) (slice_get-get_or (get_or t c []) i e h)) within

-- one walk more, which is new, while there is room
pub taken_more : (g : GraphParts) (number k : ℕ) (walks : List Taken) (taken : Taken) → AreTakenOnce g number k walks → length walks < k
    → IsTakenOnce g number taken → All (λ t. t.arcs ≢ taken.arcs) walks → AreTakenOnce g number k (walks ++ taken ∷ [])
taken_more g number k walks taken are room once new = record {
  each = All-push (IsTakenOnce g number) walks taken are.each once;
  differ = all_pairs_push (λ (x y : Taken). x.arcs ≢ y.arcs) walks taken are.differ (λ (i : ℕ) (d : Taken) h. new i d h);
  few = subst (λ (n : ℕ). n ≤ k) (sym (length-append walks (taken ∷ []))) (omega (arith, room));
}
