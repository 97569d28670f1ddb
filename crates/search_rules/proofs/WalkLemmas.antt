-- Lists of different walks, graph by graph.
use Rattle.std.proofs.Common.{◌≡◌, ◌≢◌, ℕ, suc, ◌+◌, ◌<◌, ◌≤◌, List, [], ◌++◌, length, get_or, All, refl, sym, ◌∙◌, ap, subst, arith}
use Rattle.std.specs.Prelude.{Contains}
use Rattle.std.specs.List.{AllPairs}
use Rattle.std.proofs.lemmas.List.{length-map, get_or-map}
use Rattle.std.proofs.lemmas.List.Elements.{All-nil, All-append, All-map, Contains-get_or}
use Rattle.proof_rules.specs.Counts.{Walk}
use Rattle.proof_rules.specs.Nodes.{walks_in}
use Rattle.proof_rules.proofs.ListWallLemmas.{pairs_append}
use Rattle.search_rules.proofs.ProductLemmas.{differ_within}

abbrev pub of_arcs : ℕ → List ℕ → Walk
of_arcs g arcs = record { graph = g; arcs = arcs }

differ_in : (g : ℕ) (lists : List (List ℕ)) → AllPairs (λ x y. x ≢ y) lists → AllPairs (λ x y. x ≢ y) (walks_in g lists)
differ_in g lists differ i j d less l same =
    let within : j < length lists = omega (arith, l, length-map lists (of_arcs g)) in
    let first = get_or-map (of_arcs g) lists i [] d (omega (arith, less, within)) in
    let second = get_or-map (of_arcs g) lists j [] d within in
    differ i j [] less within (ap (λ (w : Walk). w.arcs) (sym first ∙ (same ∙ second)))

all_in : (P : Walk → Type 0) (g : ℕ) (lists : List (List ℕ)) → ((arcs : List ℕ) → Contains lists arcs → P (of_arcs g arcs)) → All P (walks_in g lists)
all_in P g lists each = All-map P (of_arcs g) lists (λ k d l. each (get_or lists k d) (Contains-get_or lists k d l))

-- different walks of one graph that a list contains
pub few_of_graph : (g : ℕ) (lists : List (List ℕ)) (walks : List Walk) → AllPairs (λ x y. x ≢ y) lists → ((arcs : List ℕ) → Contains lists arcs → Contains walks (of_arcs g arcs))
    → length lists ≤ length walks
few_of_graph g lists walks differ each =
    let few = differ_within (walks_in g lists) walks (differ_in g lists differ) (all_in (Contains walks) g lists each) in
    omega (arith, few, length-map lists (of_arcs g))

-- different walks of the graphs from one on
pub record AreWalksFrom (P : Walk → Type 0) (g : ℕ) (walks : List Walk) : Type 0 where
  pub later : All (λ (w : Walk). g ≤ w.graph) walks
  pub each : All P walks
  pub differ : AllPairs (λ x y. x ≢ y) walks

pub none_from : (P : Walk → Type 0) (g : ℕ) → AreWalksFrom P g []
none_from P g = record { later = All-nil (λ (w : Walk). g ≤ w.graph); each = All-nil P; differ = λ i j d less l same. omega (arith, l) }

pub more_from : (P : Walk → Type 0) (g : ℕ) (lists : List (List ℕ)) (rest : List Walk) → AllPairs (λ x y. x ≢ y) lists → ((arcs : List ℕ) → Contains lists arcs → P (of_arcs g arcs))
    → AreWalksFrom P (suc g) rest → AreWalksFrom P g (walks_in g lists ++ rest)
more_from P g lists rest differ each more = record {
  later = All-append (λ (w : Walk). g ≤ w.graph) (walks_in g lists) rest
      (all_in (λ (w : Walk). g ≤ w.graph) g lists (λ arcs h. omega arith))
      (λ i d l. let above = more.later i d l in omega (arith, above));
  each = All-append P (walks_in g lists) rest (all_in P g lists each) more.each;
  differ = pairs_append (λ x y. x ≢ y) (walks_in g lists) rest (differ_in g lists differ) more.differ
      (λ i d l j e k same.
      let here = all_in (λ (w : Walk). w.graph ≡ g) g lists (λ arcs h. refl) i d l in
      let above = more.later j e k in
      omega (arith, here, above, ap (λ (w : Walk). w.graph) same));
}

-- what holds at the graphs from one on holds at those from the next
pub here : (P : ℕ → Type 0) (g : ℕ) → P (g + 0) → P g
here P g h = let same : g + 0 ≡ g = omega arith in subst P same h

pub next : (P : ℕ → Type 0) (g k : ℕ) → P (g + suc k) → P (suc g + k)
next P g k h = let same : g + suc k ≡ suc g + k = omega arith in subst P same h
