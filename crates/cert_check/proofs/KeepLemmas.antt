-- A proof that a text can tell keeps what the check of one proof asks for.
use Rattle.std.proofs.Common.{◌≡◌, ℕ, zero, suc, ◌+◌, ◌<◌, ◌≤◌, Bool, true, false, Option, None, Some, List, [], ◌∷◌, ◌++◌, length, get_or, All, ap, subst, arith}
use Rattle.std.specs.Prelude.{nat_lt, slice_index, option_map}
use Rattle.std.specs.List.{range_with_len}
use Rattle.std.specs.List.Sorted.{IsStrictlyIncreasing}
use Rattle.std.proofs.lemmas.Bool.Decides.{nat_tests}
use Rattle.std.proofs.Math.ListN.{get_or-map}
use Rattle.std.proofs.lemmas.List.{length-map}
use Rattle.std.proofs.lemmas.List.Elements.{All-cons, All-nil, All-weaker}
use Rattle.route_model.specs.Parts.{ModelParts, graph_in}
use Rattle.label_rules.specs.declared.label.Label.{Label}
use Rattle.label_rules.specs.declared.table.ProofTable.{ProofTable}
use Rattle.label_rules.specs.Labels.{state_at}
use Rattle.line_text.specs.Items.{AllAt, EachAfter}
use Rattle.model_text.specs.LineWords.{is_above, last_of}
use Rattle.certificate.proofs.SetWordLemmas.{last_of-push}
use Rattle.certificate.specs.declared.cert.Proof.{Proof}
use Rattle.certificate.specs.declared.sizes.Sizes.{Sizes}
use Rattle.certificate.specs.CertFits.{ProofFits}
use Rattle.certificate.specs.CertText.{LabelFits, NearMay, StateFits, TableMay}
use Rattle.certificate.specs.Draft.{shape_of}
use Rattle.certificate.specs.declared.sizes.Shape.{Shape}
use Rattle.certificate.specs.LabelWords.{state_places}
use Rattle.certificate.specs.ProofWords.{NearLine}
use Rattle.certificate.specs.Sizes.{graph_at, graph_sizes, sizes_of}
use Rattle.proof_check.specs.Keeps.{IsKnown, LabelKeeps, ListKeeps, ProofKeeps, TableKeeps, graphs_of}

-- what holds of each thing after those before it
each_after : {A : Type 0} (P : List A → A → Type 0) (Q : A → Type 0) → ((before : List A) (x : A) → P before x → Q x) → (before xs : List A) → EachAfter P before xs → All Q xs
each_after P Q from before [] each = All-nil Q
each_after P Q from before (x ∷ xs) each = All-cons Q x xs (from before x each.0) (each_after P Q from (before ++ x ∷ []) xs each.1)

-- the vertices of a graph
vertices_are : (m : ModelParts) (g : ℕ) → (graph_at (sizes_of m) g).vertices ≡ length (graph_in m.graphs g).vertices
vertices_are m g = ap (λ s. s.vertices) (get_or-map graph_sizes m.graphs g (graph_in [] 0))

near_known : (m : ModelParts) (before : List NearLine) (line : NearLine) → NearMay (sizes_of m) before line → IsKnown m line
near_known m before line may = (omega (arith, may.0, length-map m.graphs graph_sizes), omega (arith, may.2, vertices_are m line.0))

-- states from the number of cuts on
state_in : (P : ℕ → ℕ → Type 0) (from n i : ℕ) (xs : List ℕ) → AllAt P (range_with_len from n) xs → i < n → P (from + i) (slice_index xs i)
state_in P from zero i xs each below = absurd (omega (arith, below))
state_in P from (suc n) i [] each below = absurd each
state_in P from (suc n) zero (x ∷ xs) each below = let e : from ≡ from + 0 = omega arith in subst (λ (k : ℕ). P k x) e each.0
state_in P from (suc n) (suc i) (x ∷ xs) each below =
    let e : (from + 1) + i ≡ from + suc i = omega arith in
    subst (λ (k : ℕ). P k (slice_index xs i)) e (state_in P (from + 1) n i xs each.1 (omega (arith, below)))

not_below : (i cuts : ℕ) → cuts ≤ i → nat_lt i cuts ≡ false
not_below i cuts past = grind (arith, nat_tests)

none_from : (b : Bool) (x : ℕ) → b ≡ false → StateFits b x → x ≡ 0
none_from true x none fits = cc
none_from false x none fits = fits

unused_states : (shape : Shape) (l : Label) → LabelFits shape l → (i : ℕ) → i < 64 → shape.cuts ≤ i → state_at l i ≡ 0
unfolding state_places
unused_states shape l fits i below past =
    none_from (nat_lt i shape.cuts) (slice_index l.states i) (not_below i shape.cuts past)
    (let e : 0 + i ≡ i = omega arith in subst (λ (k : ℕ). StateFits (nat_lt k shape.cuts) (slice_index l.states i)) e (state_in (λ k state. StateFits (nat_lt k shape.cuts) state) 0 64 i l.states fits.states below))

labels_keep : (shape : Shape) (labels : List Label) → All (LabelFits shape) labels → ListKeeps shape.cuts labels
labels_keep shape labels fit = All-weaker (LabelFits shape) (LabelKeeps shape.cuts) (λ l f. record { cost = f.cost; unused = unused_states shape l f }) labels fit

-- the tables ascend
above_is : (last : Option ℕ) (a n : ℕ) → last ≡ Some a → is_above last n ≡ true → a < n
above_is None a n none above = cc
above_is (Some b) a n same above =
    let less : b < n = grind (arith, nat_tests) in
    let e : b ≡ a = cc in
    omega (arith, less, e)

rising : (s : Sizes) (before : List ProofTable) (last : ProofTable) (tables : List ProofTable) → EachAfter (TableMay s) (before ++ last ∷ []) tables → IsStrictlyIncreasing (last.graph ∷ graphs_of tables)
rising s before last [] each k below = absurd (omega (arith, below))
rising s before last (t ∷ tables) each zero below =
    above_is (option_map (λ (u : ProofTable). u.graph) (last_of (before ++ last ∷ []))) last.graph t.graph (ap (option_map (λ (u : ProofTable). u.graph)) (last_of-push before last)) each.0.1
rising s before last (t ∷ tables) each (suc k) below =
    let more : slice_index (t.graph ∷ graphs_of tables) k < slice_index (t.graph ∷ graphs_of tables) (k + 1) = rising s (before ++ last ∷ []) t tables each.1 k (omega (arith, below)) in
    let e : suc (k + 1) ≡ suc k + 1 = omega arith in
    subst (λ (n : ℕ). slice_index (t.graph ∷ graphs_of tables) k < slice_index (last.graph ∷ t.graph ∷ graphs_of tables) n) e more

tables_ascend : (s : Sizes) (tables : List ProofTable) → EachAfter (TableMay s) [] tables → IsStrictlyIncreasing (graphs_of tables)
tables_ascend s [] each = λ k below. absurd (omega (arith, below))
tables_ascend s (t ∷ tables) each = rising s [] t tables each.1

-- a table
table_keeps : (m : ModelParts) (p : Proof) → ProofFits m p → All (TableKeeps (length m.graphs) (length p.cuts)) p.tables
table_keeps m p fits i d below =
    let t : ProofTable = get_or p.tables i d in
    let may = each_after (TableMay (sizes_of m)) (λ (u : ProofTable). (before : List ProofTable) × TableMay (sizes_of m) before u) (λ before u f. (before, f)) [] p.tables fits.tables i d below in
    let labels = fits.labels i d below in
    let shape : Shape = shape_of (sizes_of m) (length p.cuts) t in
    record {
      graph = omega (arith, may.1.0, length-map m.graphs graph_sizes);
      least = may.1.3;
      fore = labels_keep shape t.fore labels.fore;
      back = labels_keep shape t.back labels.back;
    }

pub proof_keeps : (m : ModelParts) (p : Proof) → ProofFits m p → ProofKeeps m p
proof_keeps m p fits = record {
  mult = fits.mult;
  few_cuts = fits.few_cuts;
  weights = fits.weights.count;
  each_weight = fits.weights.each;
  near = each_after (NearMay (sizes_of m)) (IsKnown m) (near_known m) [] p.near fits.near;
  tables = table_keeps m p fits;
  ascend = tables_ascend (sizes_of m) p.tables fits.tables;
}
