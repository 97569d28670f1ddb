-- Lemmas on levels: they rise over each arc and lie within stated ends, so partial walks are short.
use Rattle.std.proofs.Common.{◌≡◌, ℕ, ◌<◌, ◌≤◌, ◌*◌, inl, inr, ◌⊎◌, ℤ, pos, ◌≤ℤ◌, ◌+ℤ◌, ◌-ℤ◌, ◌*ℤ◌, List, [], ◌∷◌, length, refl, sym, ◌∙◌, subst, ap, arith, Bool, true, false, ◌&&◌, zero, suc, ◌^◌, unsigned_abs}
use Rattle.std.proofs.lemmas.Int.{ints, clamps}
use Rattle.std.proofs.lemmas.Bool.{cases_lt}
use Rattle.std.specs.Bool.{Decides}
use Rattle.std.proofs.Math.IntN.{suc_ℤ-*ℤ, zero-*ℤ}
use Rattle.std.proofs.lemmas.Bool.Decides.{Decides-int_eq}
use Rattle.std.specs.Int.{int_max, int_min}
use Rattle.std.specs.Ordering.{int_eq}
use mir.Val.{to_z, of_z}
use Rattle.std.specs.Int.{w64}
use Rattle.path_graph.specs.declared.parts.Values.{Values}
use Rattle.path_graph.specs.declared.parts.GraphArc.{GraphArc}
use Rattle.path_graph.specs.Fit.{int_at, window_at, vertex_at, is_used_at, NeedFits, ArcFits}
use Rattle.path_graph.specs.Free.{is_free, rank_of}
use Rattle.path_graph.specs.Walk.{GraphParts, IsGraph, arc_at, Leads, Passes, over_of, root_of, values_at_end}
use Rattle.path_graph.specs.Rest.{back_of}
use Rattle.path_graph.specs.Within.{AreWithin, IsInLimits, IsWithin}
use Rattle.path_graph.specs.Level.{level_of}
use Rattle.path_graph.proofs.WalkLemmas.{small_values, root_is_within, within_at_end, end_within}
use Rattle.path_graph.proofs.SumLemmas.{product_within}
use Rattle.path_graph.proofs.IndexLemmas.{rank_below, rank_rises}

false_true : false ≡ true → ⊥
false_true e = cc

positive : (x y : ℤ) → pos 0 ≤ℤ x → pos 0 ≤ℤ y → (x ≡ pos 0 → ⊥) → pos 1 ≤ℤ (x +ℤ y)
positive x y h k n =
    elim (cases_lt 0 (unsigned_abs x)) [
      | inl l ↦ omega (arith, ints, l, h, k)
      | inr l ↦ absurd (n (omega (arith, ints, l, h)))
    ]

positive_last : (x y : ℤ) → pos 0 ≤ℤ x → pos 0 ≤ℤ y → (y ≡ pos 0 → ⊥) → pos 1 ≤ℤ (x +ℤ y)
positive_last x y h k n = let p = positive y x k h n in omega (arith, ints, p)

-- main needs are not negative
need_main : (used : Bool) (q : ℤ) → NeedFits used true q → pos 0 ≤ℤ q
need_main true q h = h.0
need_main false q h = omega (arith, ints, h)

main_needs : (g : GraphParts) (a : ℕ) → IsGraph g → a < length g.arcs → (pos 0 ≤ℤ (int_at (arc_at g.arcs a).needs 0)) × (pos 0 ≤ℤ (int_at (arc_at g.arcs a).needs 1))
main_needs g a graph l =
    let fits : ArcFits g.ends (length g.vertices) (arc_at g.arcs a) = graph.fits.each_arc a _ l in (
      need_main (is_used_at g.ends 0) (int_at (arc_at g.arcs a).needs 0) (fits.needs 0 (omega (arith, fits.places))),
      need_main (is_used_at g.ends 1) (int_at (arc_at g.arcs a).needs 1) (fits.needs 1 (omega (arith, fits.places))),
    )

-- an arc that is not free has a main need
free_cases : (arc : GraphArc) → pos 0 ≤ℤ (int_at arc.needs 0) → pos 0 ≤ℤ (int_at arc.needs 1) → (is_free arc ≡ true) ⊎ (pos 1 ≤ℤ (int_at arc.needs 0 +ℤ int_at arc.needs 1))
free_cases arc h k = tested (int_eq (int_at arc.needs 0) (pos 0)) (int_eq (int_at arc.needs 1) (pos 0)) (Decides-int_eq (int_at arc.needs 0) (pos 0)) (Decides-int_eq (int_at arc.needs 1) (pos 0))
  where
    tested : (b c : Bool) → Decides b (int_at arc.needs 0 ≡ pos 0) → Decides c (int_at arc.needs 1 ≡ pos 0) → ((b && c) ≡ true) ⊎ (pos 1 ≤ℤ (int_at arc.needs 0 +ℤ int_at arc.needs 1))
    tested true true d e = inl refl
    tested false c d e = inr (positive (int_at arc.needs 0) (int_at arc.needs 1) h k (λ z. false_true (d.1 z)))
    tested true false d e = inr (positive_last (int_at arc.needs 0) (int_at arc.needs 1) h k (λ z. false_true (e.1 z)))

-- a main value over an arc is no less than the value and the need
over_above : (x q low : ℤ) → (x +ℤ q) ≤ℤ (int_max low (x +ℤ q))
over_above x q low = omega (arith, ints, clamps)

-- a value and the need back over an arc are no more than the value
back_below : (x q high : ℤ) → ((int_min high (x -ℤ q)) +ℤ q) ≤ℤ x
back_below x q high = omega (arith, ints, clamps)

times_more : (n : ℕ) (x : ℤ) → pos (suc n) *ℤ x ≡ pos n *ℤ x +ℤ x
times_more n x = suc_ℤ-*ℤ (pos n) x

times_at_most : (n : ℕ) (x y : ℤ) → x ≤ℤ y → (pos n *ℤ x) ≤ℤ (pos n *ℤ y)
times_at_most zero x y h = omega (arith, ints, zero-*ℤ x, zero-*ℤ y)
times_at_most (suc n) x y h = omega (arith, ints, times_at_most n x y h, times_more n x, times_more n y, h)

times_one_more : (n : ℕ) (x : ℤ) → pos n *ℤ (x +ℤ pos 1) ≡ pos n *ℤ x +ℤ pos n
times_one_more zero x = omega (arith, ints, zero-*ℤ (x +ℤ pos 1), zero-*ℤ x)
times_one_more (suc n) x = omega (arith, ints, times_one_more n x, times_more n (x +ℤ pos 1), times_more n x)

-- a number of vertices times a greater sum, plus a rank below that number, is greater
mixed_above : (n r s : ℕ) (x y : ℤ) → r < n → (x +ℤ pos 1) ≤ℤ y → ((pos n *ℤ x +ℤ pos r) +ℤ pos 1) ≤ℤ (pos n *ℤ y +ℤ pos s)
mixed_above n r s x y l h = omega (arith, ints, times_at_most n (x +ℤ pos 1) y h, times_one_more n x, l)

same_above : (n r s : ℕ) (x y : ℤ) → r < s → x ≤ℤ y → ((pos n *ℤ x +ℤ pos r) +ℤ pos 1) ≤ℤ (pos n *ℤ y +ℤ pos s)
same_above n r s x y l h = omega (arith, ints, times_at_most n x y h, l)

mixed_within : (n r : ℕ) (x : ℤ) → n ≤ 1024 → r < n → IsWithin 200000000 x → IsWithin (2 ^ 38) (pos n *ℤ x +ℤ pos r)
mixed_within n r x ln lr h =
    let product = product_within n 200000000 (pos n) x (omega (arith, ints), omega (arith, ints)) h in
    let bound : n * 200000000 ≤ 1024 * 200000000 = omega (arith, ln) in
    (omega (arith, ints, product.0, bound), omega (arith, ints, product.1, bound, lr, ln))

pub level_rises : (g : GraphParts) (a : ℕ) (value : Values) → IsGraph g → a < length g.arcs → (level_of g (arc_at g.arcs a).tail value +ℤ pos 1) ≤ℤ (level_of g (arc_at g.arcs a).head (over_of g value a))
level_rises g a value graph l =
    let arc = arc_at g.arcs a in
    let fits : ArcFits g.ends (length g.vertices) arc = graph.fits.each_arc a _ l in
    let needs = main_needs g a graph l in
    let up = λ (k : ℕ). over_above (int_at value.at k) (int_at arc.needs k) (window_at (vertex_at g.vertices arc.head).windows k).low in
    elim (free_cases arc needs.0 needs.1) [
      | inl f ↦ same_above (length g.vertices) (rank_of g arc.tail) (rank_of g arc.head) (int_at value.at 0 +ℤ int_at value.at 1) (int_at (over_of g value a).at 0 +ℤ int_at (over_of g value a).at 1) (rank_rises g a graph l f) (omega (arith, ints, up 0, up 1, needs.0, needs.1))
      | inr q ↦ mixed_above (length g.vertices) (rank_of g arc.tail) (rank_of g arc.head) (int_at value.at 0 +ℤ int_at value.at 1) (int_at (over_of g value a).at 0 +ℤ int_at (over_of g value a).at 1) (rank_below g arc.tail graph fits.tail) (omega (arith, ints, up 0, up 1, q))
    ]

-- the level of backward values falls back over each arc
pub level_falls : (g : GraphParts) (a : ℕ) (value : Values) → IsGraph g → a < length g.arcs → (level_of g (arc_at g.arcs a).tail (back_of g value a) +ℤ pos 1) ≤ℤ (level_of g (arc_at g.arcs a).head value)
level_falls g a value graph l =
    let arc = arc_at g.arcs a in
    let fits : ArcFits g.ends (length g.vertices) arc = graph.fits.each_arc a _ l in
    let needs = main_needs g a graph l in
    let down = λ (k : ℕ). back_below (int_at value.at k) (int_at arc.needs k) (window_at (vertex_at g.vertices arc.tail).windows k).high in
    elim (free_cases arc needs.0 needs.1) [
      | inl f ↦ same_above (length g.vertices) (rank_of g arc.tail) (rank_of g arc.head) (int_at (back_of g value a).at 0 +ℤ int_at (back_of g value a).at 1) (int_at value.at 0 +ℤ int_at value.at 1) (rank_rises g a graph l f) (omega (arith, ints, down 0, down 1, needs.0, needs.1))
      | inr q ↦ mixed_above (length g.vertices) (rank_of g arc.tail) (rank_of g arc.head) (int_at (back_of g value a).at 0 +ℤ int_at (back_of g value a).at 1) (int_at value.at 0 +ℤ int_at value.at 1) (rank_below g arc.tail graph fits.tail) (omega (arith, ints, down 0, down 1, q))
    ]

pub level_within : (g : GraphParts) (v : ℕ) (value : Values) → IsGraph g → v < length g.vertices → AreWithin (vertex_at g.vertices v).windows value → IsWithin (2 ^ 38) (level_of g v value)
level_within g v value graph l h =
    let small = small_values g v value graph l h in
    let first = small 0 (omega arith) in
    let second = small 1 (omega arith) in
    mixed_within (length g.vertices) (rank_of g v) (int_at value.at 0 +ℤ int_at value.at 1) graph.fits.few_vertices (rank_below g v graph l)
    (omega (arith, ints, first.0, second.0), omega (arith, ints, first.1, second.1))

-- each arc of a partial walk raises the level
pub level_at_end : (g : GraphParts) (v : ℕ) (value : Values) (xs : List ℕ) (w : ℕ) → IsGraph g → Leads g v xs w → (level_of g v value +ℤ pos (length xs)) ≤ℤ (level_of g w (values_at_end g value xs))
level_at_end g v value [] w graph h = let same = ap (λ (u : ℕ). level_of g u value) h in omega (arith, ints, same)
level_at_end g v value (a ∷ xs) w graph h =
    let rises = level_rises g a value graph h.0 in
    let more = level_at_end g (arc_at g.arcs a).head (over_of g value a) xs w graph h.2 in
    let start = ap (λ (u : ℕ). level_of g u value) h.1 in
    omega (arith, ints, rises, more, start)

-- a partial walk is short
pub walk_short : (g : GraphParts) (xs : List ℕ) (w : ℕ) → IsGraph g → Leads g g.ends.source xs w → Passes g (root_of g) xs → length xs < 2 ^ 40
walk_short g xs w graph h p =
    let source = graph.fits.ends_fit.source in
    let root = root_is_within g graph in
    let first = level_within g g.ends.source (root_of g) graph source root in
    let last = level_within g w (values_at_end g (root_of g) xs) graph (end_within g g.ends.source xs w graph source h) (within_at_end g g.ends.source (root_of g) xs w h p root) in
    omega (arith, ints, level_at_end g g.ends.source (root_of g) xs w graph h, first.0, last.1)

-- a small number, in the form in which code tells it
pub told : (n : ℕ) (z : ℤ) → IsWithin n z → n ≤ 2 ^ 40 → to_z w64 (of_z w64 z) ≡ z
told n z h l = omega (arith, ints, h.0, h.1, l)

-- a number in the form in which code tells it
abbrev tells : ℤ → ℤ
tells z = to_z w64 (of_z w64 z)

-- the steps by which code computes a level give it
pub level_told : (g : GraphParts) (v : ℕ) (value : Values) (count rank : ℕ) (first second mains product whole : ℤ) → IsGraph g → v < length g.vertices → AreWithin (vertex_at g.vertices v).windows value
    → count ≡ length g.vertices → rank ≡ rank_of g v → (first ≡ int_at value.at 0) × IsInLimits first → (second ≡ int_at value.at 1) × IsInLimits second
    → (mains ≡ tells first +ℤ tells second) × IsWithin 200000000 mains → (product ≡ pos count *ℤ tells mains) × IsWithin 204800000000 product
    → whole ≡ tells product +ℤ pos rank → tells whole ≡ level_of g v value
level_told g v value count rank first second mains product whole graph l h counted ranked f s m p w =
    let sum = int_at value.at 0 +ℤ int_at value.at 1 in
    let f_told = told 100000000 first f.1 (omega arith) ∙ f.0 in
    let s_told = told 100000000 second s.1 (omega arith) ∙ s.0 in
    let m_told = told 200000000 mains m.1 (omega arith) ∙ (m.0 ∙ (ap (λ (z : ℤ). z +ℤ tells second) f_told ∙ ap (λ (z : ℤ). int_at value.at 0 +ℤ z) s_told)) in
    let p_told = told 204800000000 product p.1 (omega arith) ∙ (p.0 ∙ (ap (λ (z : ℤ). pos count *ℤ z) m_told ∙ ap (λ (n : ℕ). pos n *ℤ sum) counted)) in
    let is : whole ≡ level_of g v value = w ∙ (ap (λ (z : ℤ). z +ℤ pos rank) p_told ∙ ap (λ (r : ℕ). pos (length g.vertices) *ℤ sum +ℤ pos r) ranked) in
    told (2 ^ 38) whole (subst (λ (z : ℤ). IsWithin (2 ^ 38) z) (sym is) (level_within g v value graph l h)) (omega arith) ∙ is
