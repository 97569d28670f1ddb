-- The places of labels by vertex.
use Rattle.std.proofs.Common.{◌≡◌, ◌==◌, ℕ, ◌<◌, true, List, All, length, sym, ◌∙◌, ap, subst, arith, zero-add}
use Rattle.std.specs.Prelude.{Contains, slice_index, slice_index_or}
use Rattle.std.specs.List.{range_with_len}
use Rattle.std.proofs.lemmas.Bool.{eq-eqb, eqb-true}
use Rattle.std.proofs.lemmas.List.{get_or_default}
use Rattle.std.proofs.lemmas.List.FromFn.{length-range_with_len, get_or-range_with_len}
use Rattle.std.proofs.lemmas.List.Elements.{All-from_get_or, Contains-get_or}
use Rattle.path_graph.proofs.FreeLemmas.{filter_contains, contains_filtered, range_below}
use Rattle.path_graph.proofs.IndexLemmas.{index_at}
use Rattle.label_rules.specs.declared.label.Label.{Label}
use Rattle.proof_check.specs.Index.{IsIndex, label_at, places_at}

-- a row of an index has the places of the labels at its vertex
pub row_is : (labels : List Label) (count : ℕ) (index : List (List ℕ)) (v : ℕ) (row : List ℕ) → IsIndex labels count index → v < count
    → ((other : List ℕ) → slice_index_or index v other ≡ row) → row ≡ places_at labels v
row_is labels count index v row is l at = index_at (places_at labels) index count v row is l at

module _ (labels : List Label) (v : ℕ) (row : List ℕ) (is : row ≡ places_at labels v) where
  here : (j : ℕ) → j < length row → Contains (range_with_len 0 (length labels)) (slice_index row j) × (((label_at labels (slice_index row j)).vertex == v) ≡ true)
  here j within =
      let inside : Contains (places_at labels v) (slice_index row j) = subst (λ (xs : List ℕ). Contains xs (slice_index row j)) is (Contains-get_or row j 0 within) in
      contains_filtered (λ k. (label_at labels k).vertex == v) (range_with_len 0 (length labels)) (slice_index row j) inside

  pub place_within : (j : ℕ) → j < length row → slice_index row j < length labels
  place_within j within = range_below (slice_index row j) (length labels) (here j within).0

  pub places_within : All (λ k. k < length labels) row
  places_within = All-from_get_or (λ k. k < length labels) row 0 place_within

  pub place_vertex : (j : ℕ) → j < length row → (label_at labels (slice_index row j)).vertex ≡ v
  place_vertex j within = eqb-true _ v (here j within).1

  -- and has the place of each of them
  pub place_found : (x : Label) → Contains labels x → x.vertex ≡ v → (j : ℕ) × (j < length row) × (label_at labels (slice_index row j) ≡ x)
  place_found x listed e =
      let k : ℕ = listed.0 in
      let there : label_at labels k ≡ x = get_or_default labels k _ x listed.1 ∙ listed.2 in
      let number : Contains (range_with_len 0 (length labels)) k =
      (k, omega (arith, length-range_with_len 0 (length labels), listed.1), get_or-range_with_len 0 (length labels) k k listed.1 ∙ zero-add k) in
      let at : Contains row k = subst (λ (xs : List ℕ). Contains xs k) (sym is)
      (filter_contains (λ j. (label_at labels j).vertex == v) (range_with_len 0 (length labels)) k number (eq-eqb _ _ (ap (λ (l : Label). l.vertex) there ∙ e))) in
      (at.0, at.1, ap (label_at labels) (get_or_default row at.0 0 k at.1 ∙ at.2) ∙ there)
