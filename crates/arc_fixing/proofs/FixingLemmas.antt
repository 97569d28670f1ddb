-- What whole tables give, and that the arcs chosen graph by graph are those of all.
use Rattle.std.proofs.Common.{◌≡◌, ℕ, suc, ◌+◌, ◌^◌, ℤ, Option, List, [], ◌∷◌, ◌++◌, All, length, map, sym, subst, arith}
use Rattle.std.specs.Prelude.{Contains}
use Rattle.std.specs.List.{range_with_len}
use Rattle.std.proofs.lemmas.List.{length-map}
use Rattle.std.proofs.lemmas.List.FromFn.{map-range_with_len_more}
use Rattle.std.proofs.lemmas.List.Elements.{All-contains, All-contains_itself, All-from_get_or, All-map, All-weaker}
use Rattle.path_graph.specs.Within.{IsWithin}
use Rattle.route_model.specs.Parts.{ModelParts, graph_in}
use Rattle.route_model.specs.PlaceParts.{NamedArc}
use Rattle.safe_bound.specs.Promise.{IsLeastNear, LeastsFit}
use Rattle.label_rules.specs.declared.label.Label.{Label}
use Rattle.label_rules.specs.declared.table.ProofTable.{ProofTable}
use Rattle.label_rules.specs.Dominance.{StatesFit}
use Rattle.label_rules.specs.Labels.{Direction, Setting}
use Rattle.label_rules.specs.Leasts.{AreAllAbove}
use Rattle.label_rules.specs.Tables.{IsClosed, LiesInWindows}
use Rattle.concatenate.specs.Fit.{MayJoin}
use Rattle.arc_fixing.specs.Chosen.{AppendsChosen, IsChosen}
use Rattle.arc_fixing.specs.Fixable.{AreNear, AreWholeTables, IsFixable, Parts, PartsFit, arcs_below, arcs_in, limit_by, setting_by, table_by}
use Rattle.arc_fixing.specs.Pairs.{IsFixableIn, IsOpenAbove}
use Rattle.arc_fixing.proofs.ChosenLemmas.{more_chosen, same_chosen}

all_of : {X : Type 0} (P : X → Type 0) (xs : List X) → ((x : X) → Contains xs x → P x) → All P xs
all_of P xs h = All-weaker (Contains xs) P h xs (All-contains_itself xs)

-- the labels of a closed list may be joined where their costs are within 2^112 of 0
pub closed_may_join : (direction : Direction) (S : Setting) (threshold : Option ℤ) (labels : List Label) → IsClosed direction S threshold labels → AreNear labels → All (MayJoin S) labels
closed_may_join direction S threshold labels closed near = all_of (MayJoin S) labels (λ l h. record {
  windows = All-contains (LiesInWindows S) labels l closed.windows h;
  states = All-contains (StatesFit S) labels l closed.cover.states h;
  cost = All-contains (λ (x : Label). IsWithin (2 ^ 112) x.cost) labels l near h;
})

-- there is a least for each graph
pub leasts_fit : (m : ModelParts) (parts : Parts) (tables : List ProofTable) → PartsFit m parts → AreWholeTables m parts tables
    → LeastsFit parts.spot.boxes.paths (map (λ (t : ProofTable). t.least) tables)
leasts_fit m parts tables fit whole = record {
  count =
      let mapped = length-map tables (λ (t : ProofTable). t.least) in
      let paths = fit.spot.boxes.paths in
      omega (arith, mapped, paths, whole.count);
  each = All-map IsLeastNear (λ (t : ProofTable). t.least) tables
      (All-from_get_or (λ (t : ProofTable). IsLeastNear t.least) tables (table_by [] 0) (λ g l. (whole.each g (omega (arith, l, whole.count))).least_near));
}

-- one arc more of a graph
pub arcs_more : (g n : ℕ) → arcs_in g (n + 1) ≡ arcs_in g n ++ (g, n) ∷ []
arcs_more g n = map-range_with_len_more (λ (a : ℕ). (g, a)) 0 n n (omega arith)

-- the arcs of one graph, by its table and limit
module _ (m : ModelParts) (parts : Parts) (tables : List ProofTable) (z : ℤ) (g : ℕ) (t : ProofTable) (limit : Option ℤ) (table_is : table_by tables g ≡ t)
    (limit_is : limit ≡ limit_by m parts tables z g) where
  to_all : (a : ℕ) → IsFixableIn (setting_by m parts g) t.fore t.back limit (g, a) → IsFixable m parts tables z (g, a)
  to_all a h = record {
    open_arc = h.open_arc;
    above = subst (λ (u : ProofTable). AreAllAbove (setting_by m parts g) u.fore u.back (limit_by m parts tables z g) a) (sym table_is)
        (subst (λ (x : Option ℤ). AreAllAbove (setting_by m parts g) t.fore t.back x a) limit_is h.above);
  }

  from_all : (a : ℕ) → IsFixable m parts tables z (g, a) → IsFixableIn (setting_by m parts g) t.fore t.back limit (g, a)
  from_all a h = record {
    open_arc = h.open_arc;
    above = subst (λ (x : Option ℤ). AreAllAbove (setting_by m parts g) t.fore t.back x a) (sym limit_is)
        (subst (λ (u : ProofTable). AreAllAbove (setting_by m parts g) u.fore u.back (limit_by m parts tables z g) a) table_is h.above);
  }

  -- so one graph more is done
  pub graph_more : (old new : List NamedArc) → IsChosen (IsFixable m parts tables z) (arcs_below m g) old
      → AppendsChosen (IsFixableIn (setting_by m parts g) t.fore t.back limit) (arcs_in g (length (graph_in m.graphs g).arcs)) old new
      → IsChosen (IsFixable m parts tables z) (arcs_below m (g + 1)) new
  graph_more old new before h =
      let n : ℕ = length (graph_in m.graphs g).arcs in
      let all : AppendsChosen (IsFixable m parts tables z) (arcs_in g n) old new = record {
        added = h.added;
        is = h.is;
        chosen = same_chosen (IsFixableIn (setting_by m parts g) t.fore t.back limit) (IsFixable m parts tables z) g (range_with_len 0 n) h.added to_all from_all h.chosen;
      } in
      let next : suc g ≡ g + 1 = omega arith in
      subst (λ (k : ℕ). IsChosen (IsFixable m parts tables z) (arcs_below m k) new) next (more_chosen (IsFixable m parts tables z) (arcs_below m g) (arcs_in g n) old new before all)

pub moved_open : (S : Setting) (fore back xs ys : List Label) (limit : Option ℤ) (a : ℕ) → fore ≡ xs → back ≡ ys → IsOpenAbove S fore back limit a → IsOpenAbove S xs ys limit a
moved_open S fore back xs ys limit a e f h =
    subst (λ (us : List Label). IsOpenAbove S us ys limit a) e (subst (λ (us : List Label). IsOpenAbove S fore us limit a) f h)
