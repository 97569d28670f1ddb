-- What is asked of a list label by label, and that it has the dominators that it needs.
use Rattle.std.proofs.Common.{◌≡◌, ◌==◌, ℕ, ◌<◌, ◌^◌, true, ℤ, pos, neg_ℤ, ◌+ℤ◌, ◌*ℤ◌, ◌≤ℤ◌, Option, Some, List, All, length, sym, ◌∙◌, subst, arith, zero-add}
use Rattle.std.specs.Prelude.{Contains, slice_index}
use Rattle.std.specs.List.{range_with_len}
use Rattle.std.proofs.lemmas.Bool.{eq-eqb}
use Rattle.std.proofs.lemmas.Int.{ints}
use Rattle.std.proofs.lemmas.List.{get_or_default}
use Rattle.std.proofs.lemmas.List.FromFn.{length-range_with_len, get_or-range_with_len}
use Rattle.std.proofs.lemmas.List.Elements.{All-contains, All-contains_itself, All-weaker, Contains-get_or}
use Rattle.path_graph.specs.Walk.{IsGraph, arc_at}
use Rattle.path_graph.specs.Within.{IsWithin}
use Rattle.path_graph.proofs.FreeLemmas.{filter_contains}
use Rattle.path_graph.proofs.IndexLemmas.{from_at, into_at}
use Rattle.label_rules.specs.Dominance.{Dominates, StatesFit}
use Rattle.label_rules.specs.declared.label.Label.{Label}
use Rattle.label_rules.specs.Labels.{Backward, Direction, Forward, Setting, SettingFits, entered, extended, left}
use Rattle.label_rules.specs.Spaces.{IsInRange, IsLabel, extension, is_label, level, onward}
use Rattle.label_rules.specs.Tables.{Covers, LiesInWindows}
use Rattle.label_rules.proofs.TestLemmas.{extension_is, is_extension, label_decides}
use Rattle.route_labels.proofs.ExtensionLemmas.{level_near}
use Rattle.proof_check.specs.Demands.{IsExtended}
use Rattle.proof_check.specs.Index.{label_at, places_at}
use Rattle.proof_check.proofs.PlaceLemmas.{place_found}
use Rattle.proof_check.specs.Keeps.{LabelKeeps}
use Rattle.proof_check.specs.Ways.{AreCovered, AreLabels}

-- the numbers below n, and those with a key
in_range : (a n : ℕ) → a < n → Contains (range_with_len 0 n) a
in_range a n l = (a, omega (arith, length-range_with_len 0 n, l), get_or-range_with_len 0 n a a l ∙ zero-add a)

-- an arc on from a vertex is among its choices, and each choice is one
choice_of : (direction : Direction) (S : Setting) (v a : ℕ) → a < length S.graph.arcs → left direction S a ≡ v → Contains (onward direction S v) a
choice_of Forward S v a l e = filter_contains (λ b. (arc_at S.graph.arcs b).tail == v) (range_with_len 0 (length S.graph.arcs)) a (in_range a (length S.graph.arcs) l) (eq-eqb _ _ e)
choice_of Backward S v a l e = filter_contains (λ b. (arc_at S.graph.arcs b).head == v) (range_with_len 0 (length S.graph.arcs)) a (in_range a (length S.graph.arcs) l) (eq-eqb _ _ e)

onward_at : (direction : Direction) (S : Setting) (v k : ℕ) → k < length (onward direction S v)
    → (slice_index (onward direction S v) k < length S.graph.arcs) × (left direction S (slice_index (onward direction S v) k) ≡ v)
onward_at Forward S v k l = from_at S.graph.arcs v k l
onward_at Backward S v k l = into_at S.graph.arcs v k l

all_of : {X : Type 0} (P : X → Type 0) (xs : List X) → ((x : X) → Contains xs x → P x) → All P xs
all_of P xs h = All-weaker (Contains xs) P h xs (All-contains_itself xs)

-- the cost of a label that lies in its windows is in the range of its level where it is within 2^112 of 0
kept_range : (x low : ℤ) → IsWithin (2 ^ 112) x → IsWithin (2 ^ 38) low
    → ((neg_ℤ (pos (2 ^ 112) +ℤ (pos (2 ^ 73) *ℤ (low +ℤ pos (2 ^ 38))))) ≤ℤ x) × (x ≤ℤ (pos (2 ^ 112) +ℤ (pos (2 ^ 73) *ℤ (low +ℤ pos (2 ^ 38)))))
kept_range x low cost near = (omega (arith, ints, cost.0, near.0), omega (arith, ints, cost.1, near.0))

module _ (direction : Direction) (S : Setting) (threshold : Option ℤ) (labels : List Label) where
  label_from : SettingFits S → (l : Label) → LiesInWindows S l → StatesFit S l → LabelKeeps (length S.cuts) l → is_label direction S l ≡ true
  label_from fits l lies states keeps =
      let range : IsInRange direction S l = kept_range l.cost (level direction S l) keeps.cost (level_near direction S l fits lies) in
      let is : IsLabel direction S l = record { windows = lies; states = states; unused = keeps.unused; cost = range } in
      (label_decides direction S l).1 is

  pub labels_from : SettingFits S → All (LabelKeeps (length S.cuts)) labels → IsExtended direction S threshold labels → AreLabels direction S labels
  labels_from fits keeps h = all_of (λ (l : Label). is_label direction S l ≡ true) labels (λ l inside.
      label_from fits l (All-contains (LiesInWindows S) labels l h.windows inside) (All-contains (StatesFit S) labels l h.states inside) (All-contains (LabelKeeps (length S.cuts)) labels l keeps inside))

  pub covered_from : IsExtended direction S threshold labels → All (AreCovered direction S threshold labels) labels
  covered_from h = all_of (AreCovered direction S threshold labels) labels (λ l inside k within next e.
      let a : ℕ = slice_index (onward direction S l.vertex) k in
      let at = onward_at direction S l.vertex k within in
      let is = extension_is direction S threshold l a next e in
      subst (Covers direction S labels) is.is (h.extensions l a inside at.0 at.1 is.defined is.needed))

  pub extended_from : AreLabels direction S labels → All (AreCovered direction S threshold labels) labels → IsExtended direction S threshold labels
  extended_from are covered =
      let of : (l : Label) → is_label direction S l ≡ true → IsLabel direction S l = λ l h. (label_decides direction S l).0 h in
      record {
        windows = All-weaker (λ (l : Label). is_label direction S l ≡ true) (LiesInWindows S) (λ l h. (of l h).windows) labels are;
        states = All-weaker (λ (l : Label). is_label direction S l ≡ true) (StatesFit S) (λ l h. (of l h).states) labels are;
        extensions = λ l a inside there from can needed.
            let at = choice_of direction S l.vertex a there from in
            let arc : slice_index (onward direction S l.vertex) at.0 ≡ a = get_or_default (onward direction S l.vertex) at.0 0 a at.1 ∙ at.2 in
            let is : extension direction S threshold l (slice_index (onward direction S l.vertex) at.0) ≡ Some (extended direction S l a) =
            subst (λ (b : ℕ). extension direction S threshold l b ≡ Some (extended direction S l a)) (sym arc) (is_extension direction S threshold l a can needed) in
            (All-contains (AreCovered direction S threshold labels) labels l covered inside) at.0 at.1 (extended direction S l a) is;
      }

module _ (direction : Direction) (S : Setting) (labels : List Label) (l : Label) (row : List ℕ) (is : row ≡ places_at labels l.vertex) where
  pub none_covers : ((j : ℕ) → j < length row → ¬ (Dominates direction S (label_at labels (slice_index row j)) l)) → ¬ (Covers direction S labels l)
  none_covers none covers =
      let at = place_found labels l.vertex row is covers.by covers.listed covers.dominates.vertex in
      none at.0 at.1 (subst (λ (x : Label). Dominates direction S x l) (sym at.2) covers.dominates)

pub covers_at : (direction : Direction) (S : Setting) (labels : List Label) (l : Label) (k : ℕ) → k < length labels → Dominates direction S (label_at labels k) l → Covers direction S labels l
covers_at direction S labels l k within dominates = record { by = label_at labels k; listed = Contains-get_or labels k _ within; dominates = dominates }

-- what an extension leads to is a vertex
entered_there : (direction : Direction) (S : Setting) (a : ℕ) → IsGraph S.graph → a < length S.graph.arcs → entered direction S a < length S.graph.vertices
entered_there Forward S a graph l = (graph.fits.each_arc a _ l).head
entered_there Backward S a graph l = (graph.fits.each_arc a _ l).tail

pub extension_vertex : (direction : Direction) (S : Setting) (threshold : Option ℤ) (l next : Label) (k : ℕ) → SettingFits S → k < length (onward direction S l.vertex)
    → extension direction S threshold l (slice_index (onward direction S l.vertex) k) ≡ Some next → next.vertex < length S.graph.vertices
extension_vertex direction S threshold l next k fits within e =
    let a : ℕ = slice_index (onward direction S l.vertex) k in
    let at = onward_at direction S l.vertex k within in
    let is = extension_is direction S threshold l a next e in
    subst (λ (x : Label). x.vertex < length S.graph.vertices) is.is (entered_there direction S a fits.graph at.0)
