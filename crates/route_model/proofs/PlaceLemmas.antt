-- Lemmas on places: a solution of one solves a part of it, and one with more arcs dropped that it does not use.
use Rattle.std.proofs.Common.{◌≡◌, ◌≢◌, ◌==◌, ◌&&◌, ◌||◌, ℕ, suc, ◌<◌, ℤ, pos, ◌≤ℤ◌, ◌<ℤ◌, Bool, true, false, List, [], ◌∷◌, length, get_or, inl, inr, refl, sym, ◌∙◌, ap, subst, arith, get_or-set_same, get_or-set_other}
use Rattle.std.specs.Prelude.{slice_set, slice_index_or, ◌⊎◌}
use Rattle.std.proofs.lemmas.Bool.{cases_eq, cases_lt}
use Rattle.std.proofs.lemmas.Bool.Decides.{nat_tests}
use Rattle.std.proofs.lemmas.Int.{ints, by_lt_z}
use Rattle.std.proofs.lemmas.List.{set_past, length-set}
use Rattle.route_model.specs.declared.multipliers.Quantity.{Quantity}
use Rattle.route_model.specs.declared.multipliers.Quantity.TheVariants.{Var, Row, Set, Cut, Paths}
use Rattle.route_model.specs.declared.places.Boxes.{Boxes}
use Rattle.route_model.specs.declared.places.Span.{Span}
use Rattle.route_model.specs.declared.places.Spot.{Spot}
use Rattle.route_model.specs.declared.plan.Plan.{Plan}
use Rattle.route_model.specs.Parts.{ModelParts, graph_in, taken_at, var_at}
use Rattle.route_model.specs.PlaceParts.{DropLaw, HasBox, HasMarks, KeepsLaw, NamedArc, PartsLaw, SplitLaw, box_in, high_part, is_named, low_part, with_box}
use Rattle.route_model.specs.Places.{IsInSpan, IsPartOf, SolvesAt, SpotFits, is_dropped, marks_of, path_span, span_at, var_span}
use Rattle.route_model.specs.Quantities.{paths_of, value_of}

-- what holds of a box, and of the one that is written in its place, holds after the write
pub span_set : (P : Span → Type 0) (spans : List Span) (j : ℕ) (span : Span) (k : ℕ) → P (span_at spans k) → (k ≡ j → P span) → P (span_at (slice_set spans j span) k)
span_set P spans j span k was new =
    let none : Span = record { low = pos 0; high = pos 0 } in
    elim (cases_eq k j) [
      | inr other ↦ subst P (sym (get_or-set_other spans j k span none other)) was
      | inl same ↦ elim (cases_lt j (length spans)) [
        | inl inside ↦ subst (λ (i : ℕ). P (span_at (slice_set spans j span) i)) (sym same) (subst P (sym (get_or-set_same spans j span none inside)) (new same))
        | inr past ↦ subst (λ (boxes : List Span). P (span_at boxes k)) (sym (set_past spans j span past)) was
      ]
    ]

-- a number in a box lies in one of its parts
pub in_part : (span : Span) (d x : ℤ) → IsInSpan span x → IsInSpan (low_part span d) x ⊎ IsInSpan (high_part span d) x
in_part span d x inside =
    by_lt_z d x (λ above. inr (omega (arith, ints, above), inside.1)) (λ most. inl (inside.0, most))

-- what a plan has of what is split
abbrev value_in : ModelParts → Plan → Quantity → ℤ
value_in m plan (Var j) = pos (value_of m plan j)
value_in m plan (Paths g) = pos (paths_of plan g)
value_in m plan (Row i) = pos 0
value_in m plan (Set s) = pos 0
value_in m plan (Cut c) = pos 0

value_inside : (m : ModelParts) (spot : Spot) (q : Quantity) (plan : Plan) → HasBox m q → SolvesAt m spot plan → IsInSpan (box_in spot q) (value_in m plan q)
value_inside m spot (Var j) plan has solves = solves.within.vars j has
value_inside m spot (Paths g) plan has solves = solves.within.paths g has
value_inside m spot (Row i) plan has solves = absurd has
value_inside m spot (Set s) plan has solves = absurd has
value_inside m spot (Cut c) plan has solves = absurd has

solves_part : (m : ModelParts) (spot : Spot) (q : Quantity) (span : Span) (plan : Plan) → HasBox m q → SolvesAt m spot plan → IsInSpan span (value_in m plan q) → SolvesAt m (with_box spot q span) plan
solves_part m spot (Var j) span plan has solves inside = record {
  within = record {
    solution = solves.within.solution;
    vars = λ k l. span_set (λ (s : Span). IsInSpan s (pos (value_of m plan k))) spot.boxes.vars j span k (solves.within.vars k l) (λ e. subst (λ (i : ℕ). IsInSpan span (pos (value_of m plan i))) (sym e) inside);
    paths = solves.within.paths;
  };
  kept = solves.kept;
}
solves_part m spot (Paths g) span plan has solves inside = record {
  within = record {
    solution = solves.within.solution;
    vars = solves.within.vars;
    paths = λ k l. span_set (λ (s : Span). IsInSpan s (pos (paths_of plan k))) spot.boxes.paths g span k (solves.within.paths k l) (λ e. subst (λ (i : ℕ). IsInSpan span (pos (paths_of plan i))) (sym e) inside);
  };
  kept = solves.kept;
}
solves_part m spot (Row i) span plan has solves inside = absurd has
solves_part m spot (Set s) span plan has solves inside = absurd has
solves_part m spot (Cut c) span plan has solves inside = absurd has

pub split_law : SplitLaw
split_law m spot split plan fits solves = elim (in_part (box_in spot split.quantity) split.at (value_in m plan split.quantity) (value_inside m spot split.quantity plan fits.quantity solves)) [
  | inl low ↦ inl (solves_part m spot split.quantity (low_part (box_in spot split.quantity) split.at) plan fits.quantity solves low)
  | inr high ↦ inr (solves_part m spot split.quantity (high_part (box_in spot split.quantity) split.at) plan fits.quantity solves high)
]

-- the parts of a box within another
part_low : (whole span : Span) (d : ℤ) → IsPartOf whole span → span.low ≤ℤ d → d <ℤ span.high → IsPartOf whole (low_part span d)
part_low whole span d part low high = (part.0, low, omega (arith, ints, part.2, high))

part_high : (whole span : Span) (d : ℤ) → IsPartOf whole span → span.low ≤ℤ d → d <ℤ span.high → IsPartOf whole (high_part span d)
part_high whole span d part low high = (omega (arith, ints, part.0, low), omega (arith, ints, high), part.2)

-- a place whose box is replaced by one within the model's
fits_with : (m : ModelParts) (spot : Spot) (q : Quantity) (part : Span → Span) → HasBox m q → SpotFits m spot → ((whole : Span) → IsPartOf whole (box_in spot q) → IsPartOf whole (part (box_in spot q)))
    → SpotFits m (with_box spot q (part (box_in spot q)))
fits_with m spot (Var j) part has fits each = record {
  boxes = record {
    vars = length-set spot.boxes.vars j (part (span_at spot.boxes.vars j)) ∙ fits.boxes.vars;
    paths = fits.boxes.paths;
    each_var = λ k l. span_set (IsPartOf (var_span (var_at m.vars k))) spot.boxes.vars j (part (span_at spot.boxes.vars j)) k (fits.boxes.each_var k l)
        (λ e. subst (λ (i : ℕ). IsPartOf (var_span (var_at m.vars i)) (part (span_at spot.boxes.vars j))) (sym e) (each (var_span (var_at m.vars j)) (fits.boxes.each_var j has)));
    each_path = fits.boxes.each_path;
  };
  marks = fits.marks;
}
fits_with m spot (Paths g) part has fits each = record {
  boxes = record {
    vars = fits.boxes.vars;
    paths = length-set spot.boxes.paths g (part (span_at spot.boxes.paths g)) ∙ fits.boxes.paths;
    each_var = fits.boxes.each_var;
    each_path = λ k l. span_set (IsPartOf (path_span (graph_in m.graphs k))) spot.boxes.paths g (part (span_at spot.boxes.paths g)) k (fits.boxes.each_path k l)
        (λ e. subst (λ (i : ℕ). IsPartOf (path_span (graph_in m.graphs i)) (part (span_at spot.boxes.paths g))) (sym e) (each (path_span (graph_in m.graphs g)) (fits.boxes.each_path g has)));
  };
  marks = fits.marks;
}
fits_with m spot (Row i) part has fits each = absurd has
fits_with m spot (Set s) part has fits each = absurd has
fits_with m spot (Cut c) part has fits each = absurd has

pub parts_law : PartsLaw
parts_law m spot split split_fits fits =
    let q : Quantity = split.quantity in
    let span : Span = box_in spot q in (
      fits_with m spot q (λ (s : Span). low_part s split.at) split_fits.quantity fits (λ whole part. part_low whole span split.at part split_fits.low split_fits.high),
      fits_with m spot q (λ (s : Span). high_part s split.at) split_fits.quantity fits (λ whole part. part_high whole span split.at part split_fits.low split_fits.high),
    )

-- one mark more
abbrev marked : List (List Bool) → ℕ → ℕ → List (List Bool)
marked fixed g a = slice_set fixed g (slice_set (marks_of fixed g) a true)

marks_same : (fixed : List (List Bool)) (g a : ℕ) → g < length fixed → marks_of (marked fixed g a) g ≡ slice_set (marks_of fixed g) a true
marks_same fixed g a below = get_or-set_same fixed g (slice_set (marks_of fixed g) a true) [] below

marks_other : (fixed : List (List Bool)) (g a h : ℕ) → h ≢ g → marks_of (marked fixed g a) h ≡ marks_of fixed h
marks_other fixed g a h other = get_or-set_other fixed g h (slice_set (marks_of fixed g) a true) [] other

count_kept : (fixed : List (List Bool)) (g a h : ℕ) → g < length fixed → length (marks_of (marked fixed g a) h) ≡ length (marks_of fixed h)
count_kept fixed g a h below = elim (cases_eq h g) [
  | inl same ↦ subst (λ (i : ℕ). length (marks_of (marked fixed g a) i) ≡ length (marks_of fixed i)) (sym same) (ap length (marks_same fixed g a below) ∙ length-set (marks_of fixed g) a true)
  | inr other ↦ ap length (marks_other fixed g a h other)
]

-- tests joined
or_true : (x : Bool) → (x || true) ≡ true
or_true true = refl
or_true false = refl

or_false : (x : Bool) → (x || false) ≡ x
or_false true = refl
or_false false = refl

or_assoc : (x y z : Bool) → ((x || y) || z) ≡ (x || (y || z))
or_assoc true y z = refl
or_assoc false y z = refl

set_one : (marks : List Bool) (a b : ℕ) → a < length marks → slice_index_or (slice_set marks a true) b false ≡ (slice_index_or marks b false || (a == b))
set_one marks a b below = elim (cases_eq b a) [
  | inl same ↦
      let yes : (a == b) ≡ true = grind (arith, nat_tests) in
      subst (λ (i : ℕ). slice_index_or (slice_set marks a true) i false ≡ true) (sym same) (get_or-set_same marks a true false below)
      ∙ (sym (or_true (slice_index_or marks b false)) ∙ ap (λ (t : Bool). slice_index_or marks b false || t) (sym yes))
  | inr other ↦
      let no : (a == b) ≡ false = grind (arith, nat_tests) in
      get_or-set_other marks a b true false other ∙ (sym (or_false (slice_index_or marks b false)) ∙ ap (λ (t : Bool). slice_index_or marks b false || t) (sym no))
]

mark_one : (fixed : List (List Bool)) (g a h b : ℕ) → g < length fixed → a < length (marks_of fixed g)
    → slice_index_or (marks_of (marked fixed g a) h) b false ≡ (slice_index_or (marks_of fixed h) b false || ((g == h) && (a == b)))
mark_one fixed g a h b below inside = elim (cases_eq h g) [
  | inl same ↦
      let yes : (g == h) ≡ true = grind (arith, nat_tests) in
      subst (λ (i : ℕ). slice_index_or (marks_of (marked fixed g a) i) b false ≡ (slice_index_or (marks_of fixed i) b false || (a == b))) (sym same)
      (ap (λ (marks : List Bool). slice_index_or marks b false) (marks_same fixed g a below) ∙ set_one (marks_of fixed g) a b inside)
      ∙ ap (λ (t : Bool). slice_index_or (marks_of fixed h) b false || (t && (a == b))) (sym yes)
  | inr other ↦
      let no : (g == h) ≡ false = grind (arith, nat_tests) in
      ap (λ (marks : List Bool). slice_index_or marks b false) (marks_other fixed g a h other)
      ∙ (sym (or_false (slice_index_or (marks_of fixed h) b false)) ∙ ap (λ (t : Bool). slice_index_or (marks_of fixed h) b false || (t && (a == b))) (sym no))
]

abbrev with_marks : Spot → List (List Bool) → Spot
with_marks spot fixed = record spot { fixed = fixed }

has_more : (spot : Spot) (g a : ℕ) (arcs : List NamedArc) → g < length spot.fixed → HasMarks spot arcs → HasMarks (with_marks spot (marked spot.fixed g a)) arcs
has_more spot g a arcs below has k d inside =
    let named : NamedArc = get_or arcs k d in
    let was = has k d inside in (
      omega (arith, was.0, length-set spot.fixed g (slice_set (marks_of spot.fixed g) a true)),
      omega (arith, was.1, count_kept spot.fixed g a named.0 below),
    )

has_rest : (spot : Spot) (named : NamedArc) (arcs : List NamedArc) → HasMarks spot (named ∷ arcs) → HasMarks spot arcs
has_rest spot named arcs has k d inside = has (suc k) d (omega arith)

pub drop_law : DropLaw
drop_law spot [] has = (refl, λ g a. sym (or_false (is_dropped spot g a)))
drop_law spot ((g, a) ∷ arcs) has =
    let here = has 0 (0, 0) (omega arith) in
    let rest = drop_law (with_marks spot (marked spot.fixed g a)) arcs (has_more spot g a arcs here.0 (has_rest spot (g, a) arcs has)) in (
      rest.0,
      λ h b. rest.1 h b ∙ (ap (λ (t : Bool). t || is_named arcs h b) (mark_one spot.fixed g a h b here.0 here.1) ∙ or_assoc (is_dropped spot h b) ((g == h) && (a == b)) (is_named arcs h b)),
    )

pub keeps_law : KeepsLaw
keeps_law m spot arcs plan has solves unused =
    let drops = drop_law spot arcs has in
    record {
      within = record {
        solution = solves.within.solution;
        vars = λ j l. subst (λ (boxes : Boxes). IsInSpan (span_at boxes.vars j) (pos (value_of m plan j))) (sym drops.0) (solves.within.vars j l);
        paths = λ g l. subst (λ (boxes : Boxes). IsInSpan (span_at boxes.paths g) (pos (paths_of plan g))) (sym drops.0) (solves.within.paths g l);
      };
      kept = λ i l k d inside.
          drops.1 (taken_at plan.paths i).graph (get_or (taken_at plan.paths i).arcs k d) ∙ (λ e. solves.kept i l k d inside e || unused i l k d inside e);
    }
