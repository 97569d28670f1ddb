-- The items that a node opens are items of the model.
use Rattle.std.proofs.Common.{◌≡◌, ℕ, ◌^◌, ◌≤◌, ℤ, pos, ◌≤ℤ◌, Bool, true, None, Some, List, [], ◌∷◌, length, inl, inr, sym, ap, subst, ◌∙◌, arith, get_or-set_same, get_or-set_other}
use lib.Signed.{◌<ℤ◌}
use Rattle.std.specs.Prelude.{slice_set, sum_by, unsigned_abs}
use Rattle.std.proofs.lemmas.Bool.{cases_eq, cases_lt}
use Rattle.std.proofs.lemmas.Int.{ints}
use Rattle.std.proofs.lemmas.List.{length-set, set_past}
use Rattle.std.proofs.lemmas.List.Elements.{All-set}
use Rattle.std.proofs.lemmas.List.Sums.{sum_by-set}
use Rattle.route_model.specs.declared.places.Span.{Span}
use Rattle.route_model.specs.declared.places.Spot.{Spot}
use Rattle.route_model.specs.Fit.{ModelFits}
use Rattle.route_model.specs.Parts.{ModelParts}
use Rattle.route_model.specs.PlaceParts.{NamedArc, dropping, high_part, low_part}
use Rattle.route_model.specs.Places.{SpotFits, marks_of, span_at}
use Rattle.route_model.proofs.PlaceLemmas.{parts_law}
use Rattle.proof_rules.specs.Counts.{Walk}
use Rattle.proof_rules.specs.Grows.{HoldsForEach}
use Rattle.proof_rules.specs.Nodes.{AtCounts, AtPlace, Item, IsCountSplit, children_of}
use Rattle.certificate.specs.declared.cert.NodeForm.{NodeForm}
use Rattle.certificate.specs.declared.cert.NodeForm.TheVariants as node
use Rattle.cert_rules.specs.Meaning.{node_of}
use Rattle.cert_check.specs.Faults.{Stands}
use Rattle.cert_check.specs.Frames.{with_mark}
use Rattle.cert_check.specs.Reads.{CountsFit, IsCountBox, ItemFits}
use Rattle.certificate.specs.CertFits.{NodeIsTold}
use Rattle.cert_check.proofs.ListedLemmas.{listed_fit}

-- as many marks as before
mark_count : (fixed : List (List Bool)) (g a h : ℕ) → length (marks_of (slice_set fixed g (slice_set (marks_of fixed g) a true)) h) ≡ length (marks_of fixed h)
mark_count fixed g a h =
    let row : List Bool = slice_set (marks_of fixed g) a true in
    elim (cases_eq h g) [
      | inr other ↦ ap length (get_or-set_other fixed g h row [] other)
      | inl same ↦ elim (cases_lt g (length fixed)) [
        | inl inside ↦ subst (λ (i : ℕ). length (marks_of (slice_set fixed g row) i) ≡ length (marks_of fixed i)) (sym same)
            (ap length (get_or-set_same fixed g row [] inside) ∙ length-set (marks_of fixed g) a true)
        | inr past ↦ ap (λ (f : List (List Bool)). length (marks_of f h)) (set_past fixed g row past)
      ]
    ]

mark_fits : (m : ModelParts) (spot : Spot) (g a : ℕ) → SpotFits m spot → SpotFits m (with_mark spot g a true)
mark_fits m spot g a fits = record {
  boxes = fits.boxes;
  marks = record {
    graphs = length-set spot.fixed g (slice_set (marks_of spot.fixed g) a true) ∙ fits.marks.graphs;
    arcs = λ h l. mark_count spot.fixed g a h ∙ fits.marks.arcs h l;
  };
}

pub drop_fits : (m : ModelParts) (spot : Spot) (arcs : List NamedArc) → SpotFits m spot → SpotFits m (dropping spot arcs)
drop_fits m spot [] fits = fits
drop_fits m spot ((g, a) ∷ arcs) fits = drop_fits m (with_mark spot g a true) arcs (mark_fits m spot g a fits)

-- a box of a count that is narrowed
box_low : (box : Span) (d : ℤ) → IsCountBox box → box.low ≤ℤ d → d <ℤ box.high → IsCountBox (low_part box d)
box_low box d fits low high = record { low = fits.low; order = low; high = omega (arith, ints, fits.high, high) }

box_high : (box : Span) (d : ℤ) → IsCountBox box → box.low ≤ℤ d → d <ℤ box.high → IsCountBox (high_part box d)
box_high box d fits low high = record { low = omega (arith, ints, fits.low, low); order = omega (arith, ints, high); high = fits.high }

top_less : (a b : ℤ) → pos 0 ≤ℤ a → a ≤ℤ b → unsigned_abs a ≤ unsigned_abs b
top_less a b low order = omega (arith, ints)

-- the sum of the tops does not grow
set_tops : (boxes : List Span) (i : ℕ) (box : Span) (k : ℕ) → unsigned_abs box.high ≤ unsigned_abs (span_at boxes i).high
    → sum_by (λ (b : Span). unsigned_abs b.high) boxes ≤ k → sum_by (λ (b : Span). unsigned_abs b.high) (slice_set boxes i box) ≤ k
set_tops boxes i box k less few = elim (cases_lt i (length boxes)) [
  | inl inside ↦ omega (arith, sum_by-set (λ (b : Span). unsigned_abs b.high) boxes i box (record { low = pos 0; high = pos 0 }) inside, less, few)
  | inr past ↦ subst (λ (bs : List Span). sum_by (λ (b : Span). unsigned_abs b.high) bs ≤ k) (sym (set_past boxes i box past)) few
]

count_box : (m : ModelParts) (spot : Spot) (walks : List Walk) (boxes : List Span) (i : ℕ) (box : Span) → CountsFit m spot walks boxes
    → IsCountBox box → unsigned_abs box.high ≤ unsigned_abs (span_at boxes i).high → CountsFit m spot walks (slice_set boxes i box)
count_box m spot walks boxes i box fits one less = record {
  place = fits.place;
  size = length-set boxes i box ∙ fits.size;
  each_walk = fits.each_walk;
  each_box = All-set IsCountBox boxes i box one fits.each_box;
  sum = set_tops boxes i box (2 ^ 37) less fits.sum;
  few = fits.few;
}

split_fits : (m : ModelParts) (spot : Spot) (walks : List Walk) (boxes : List Span) (i : ℕ) (d : ℤ) → CountsFit m spot walks boxes → IsCountSplit boxes i d
    → CountsFit m spot walks (slice_set boxes i (low_part (span_at boxes i) d)) × CountsFit m spot walks (slice_set boxes i (high_part (span_at boxes i) d))
split_fits m spot walks boxes i d fits split =
    let box : Span = span_at boxes i in
    let is : IsCountBox box = fits.each_box i (record { low = pos 0; high = pos 0 }) split.walk in
    let low = box_low box d is split.low split.high in (
      count_box m spot walks boxes i (low_part box d) fits low (top_less d box.high (omega (arith, ints, is.low, split.low)) (omega (arith, ints, split.high))),
      count_box m spot walks boxes i (high_part box d) fits (box_high box d is split.low split.high) (omega arith),
    )

pub children_fit : (m : ModelParts) (z : ℤ) (item : Item) (form : NodeForm) → ModelFits m → NodeIsTold m form → ItemFits m item → Stands m z item form
    → HoldsForEach (ItemFits m) (children_of m item (node_of m form))
children_fit m z (AtPlace spot) (node.Split split None) fits told item stands =
    let both = parts_law m spot split stands item in (both.0, (both.1, tt))
children_fit m z (AtPlace spot) (node.Split split (Some p)) fits told item stands =
    let both = parts_law m spot split stands item in (both.0, (both.1, tt))
children_fit m z (AtPlace spot) (node.Close p) fits told item stands = tt
children_fit m z (AtPlace spot) (node.Fix p arcs) fits told item stands = (drop_fits m spot arcs item, tt)
children_fit m z (AtPlace spot) (node.List p tries) fits told item stands =
    (listed_fit m z spot p tries fits told.1 item stands.0, tt)
children_fit m z (AtPlace spot) (node.CountSplit i d) fits told item stands = tt
children_fit m z (AtPlace spot) (node.CountClose mult) fits told item stands = tt
children_fit m z (AtPlace spot) node.Point fits told item stands = tt
children_fit m z (AtCounts spot walks boxes) (node.Split split None) fits told item stands = tt
children_fit m z (AtCounts spot walks boxes) (node.Split split (Some p)) fits told item stands = tt
children_fit m z (AtCounts spot walks boxes) (node.Close p) fits told item stands = tt
children_fit m z (AtCounts spot walks boxes) (node.Fix p arcs) fits told item stands = tt
children_fit m z (AtCounts spot walks boxes) (node.List p tries) fits told item stands = tt
children_fit m z (AtCounts spot walks boxes) (node.CountSplit i d) fits told item stands =
    let both = split_fits m spot walks boxes i d item stands in (both.0, (both.1, tt))
children_fit m z (AtCounts spot walks boxes) (node.CountClose mult) fits told item stands = tt
children_fit m z (AtCounts spot walks boxes) node.Point fits told item stands = tt
