-- All joins over an arc are above a limit where those of the labels at its ends are, pair by pair.
use Rattle.std.proofs.Common.{◌≡◌, ℕ, ◌<◌, ℤ, Some, List, length, sym, subst}
use Rattle.std.specs.Prelude.{slice_index}
use Rattle.std.proofs.lemmas.List.Elements.{Contains-get_or}
use Rattle.path_graph.specs.Walk.{arc_at}
use Rattle.path_graph.proofs.IndexLemmas.{index_size}
use Rattle.label_rules.specs.Joins.{Joins}
use Rattle.label_rules.specs.declared.label.Label.{Label}
use Rattle.label_rules.specs.Labels.{Setting}
use Rattle.label_rules.specs.Leasts.{AreAllAbove}
use Rattle.proof_check.specs.Index.{IsIndex, label_at, places_at}
use Rattle.proof_check.proofs.PlaceLemmas.{place_found, place_within}
use Rattle.arc_fixing.specs.Pairs.{AreAboveFrom, IsPairAbove}

module _ (S : Setting) (fore back : List Label) (a : ℕ) (limit : ℤ) (starts rests : List ℕ)
    (fore_is : starts ≡ places_at fore (arc_at S.graph.arcs a).tail) (back_is : rests ≡ places_at back (arc_at S.graph.arcs a).head) where
  pub all_above : ((j : ℕ) → j < length starts → AreAboveFrom S (label_at fore (slice_index starts j)) a back rests limit) → AreAllAbove S fore back (Some limit) a
  all_above each f b join =
      let start = place_found fore (arc_at S.graph.arcs a).tail starts fore_is f join.in_fore (sym join.joins.leaves) in
      let rest = place_found back (arc_at S.graph.arcs a).head rests back_is b join.in_back (sym join.joins.enters) in
      let pair : IsPairAbove S f a b limit = subst (λ (x : Label). IsPairAbove S x a b limit) start.2
      (subst (λ (x : Label). IsPairAbove S (label_at fore (slice_index starts start.0)) a x limit) rest.2 (each start.0 start.1 rest.0 rest.1)) in
      pair join.joins

  pub each_above : AreAllAbove S fore back (Some limit) a → (j : ℕ) → j < length starts → AreAboveFrom S (label_at fore (slice_index starts j)) a back rests limit
  each_above all j l k w joins =
      let f = label_at fore (slice_index starts j) in
      let b = label_at back (slice_index rests k) in
      all f b (record {
        in_fore = Contains-get_or fore (slice_index starts j) _ (place_within fore (arc_at S.graph.arcs a).tail starts fore_is j l);
        in_back = Contains-get_or back (slice_index rests k) _ (place_within back (arc_at S.graph.arcs a).head rests back_is k w);
        joins = joins;
      })

-- two labels that do not join, and two that do
pub none_above : (S : Setting) (f b : Label) (a : ℕ) (limit : ℤ) → ¬ (Joins S f a b) → IsPairAbove S f a b limit
none_above S f b a limit apart joins = absurd (apart joins)

pub index_row : (labels : List Label) (count : ℕ) (index : List (List ℕ)) → IsIndex labels count index → IsIndex labels (length index) index
index_row labels count index is = subst (λ (n : ℕ). IsIndex labels n index) (sym (index_size (places_at labels) index count is)) is
