-- The labels of a list by their vertices.
use Rattle.std.proofs.Common.{◌≡◌, ◌==◌, ℕ, ◌<◌, List, length, get_or, sym, ◌∙◌, ap, subst, arith}
use Rattle.std.specs.Prelude.{Contains, slice_index}
use Rattle.std.specs.List.{range_with_len}
use Rattle.std.proofs.lemmas.Bool.{eq-eqb, eqb-true}
use Rattle.std.proofs.lemmas.List.{get_or_default}
use Rattle.std.proofs.lemmas.List.Elements.{Contains-get_or}
use Rattle.std.proofs.lemmas.List.FromFn.{get_or-range_with_len, length-range_with_len}
use Rattle.path_graph.proofs.FreeLemmas.{contains_filtered, range_below}
use Rattle.label_rules.specs.declared.label.Label.{Label}
use Rattle.list_check.specs.Heads.{label_at, places_at}
use Rattle.list_check.proofs.ArcLemmas.{kept_at}

-- a place of a vertex is one of the list, where a label stands at the vertex
pub place_read : (labels : List Label) (v : ℕ) (places : List ℕ) (k : ℕ) → places ≡ places_at labels v → k < length places
    → (get_or places k 0 < length labels) × ((label_at labels (get_or places k 0)).vertex ≡ v)
place_read labels v places k is l =
    let xs : List ℕ = places_at labels v in
    let m : k < length xs = subst (λ (ys : List ℕ). k < length ys) is l in
    let here = contains_filtered (λ n. (label_at labels n).vertex == v) (range_with_len 0 (length labels)) (slice_index xs k) (Contains-get_or xs k 0 m) in
    let low = range_below (slice_index xs k) (length labels) here.0 in
    let at = eqb-true (label_at labels (slice_index xs k)).vertex v here.1 in
    (subst (λ (ys : List ℕ). get_or ys k 0 < length labels) (sym is) low, subst (λ (ys : List ℕ). (label_at labels (get_or ys k 0)).vertex ≡ v) (sym is) at)

-- and each label there has a place
pub place_found : (labels : List Label) (v : ℕ) (places : List ℕ) (rest : Label) → places ≡ places_at labels v → Contains labels rest → rest.vertex ≡ v
    → (k : ℕ) × (k < length places) × (label_at labels (get_or places k 0) ≡ rest)
place_found labels v places rest is h at =
    let n : ℕ = h.0 in
    let same : label_at labels n ≡ rest = get_or_default labels n _ rest h.1 ∙ h.2 in
    let size = length-range_with_len 0 (length labels) in
    let item = get_or-range_with_len 0 (length labels) n n h.1 in
    let test = eq-eqb (label_at labels n).vertex v (ap (λ (l : Label). l.vertex) same ∙ at) in
    let found = kept_at (λ k. (label_at labels k).vertex == v) (range_with_len 0 (length labels)) n n test (omega (arith, h.1, size)) (omega (arith, item)) in
    let read : get_or (places_at labels v) found.0 0 ≡ n = get_or_default (places_at labels v) found.0 0 n found.1 ∙ found.2 in (
      found.0,
      subst (λ (ys : List ℕ). found.0 < length ys) (sym is) found.1,
      ap (λ (ys : List ℕ). label_at labels (get_or ys found.0 0)) is ∙ (ap (label_at labels) read ∙ same),
    )
