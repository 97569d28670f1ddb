-- The labels of either direction are a lawful space.
use Rattle.std.proofs.Common.{◌≡◌, ℕ, ◌<◌, ◌≤◌, true, ℤ, pos, ◌+ℤ◌, ◌-ℤ◌, ◌*ℤ◌, ◌≤ℤ◌, Some, length, sym, ap, subst, arith}
use Rattle.std.specs.Prelude.{slice_index}
use Rattle.std.proofs.lemmas.Int.{ints}
use Rattle.path_graph.specs.declared.parts.Values.{Values}
use Rattle.path_graph.specs.Fit.{int_at, vertex_at}
use Rattle.path_graph.specs.Free.{rank_of}
use Rattle.path_graph.specs.Within.{AreWithin}
use Rattle.path_graph.specs.Walk.{IsGraph, arc_at}
use Rattle.path_graph.proofs.IndexLemmas.{from_at, into_at}
use Rattle.path_graph.proofs.IntLemmas.{pos_mul-≤, times_more, mul_z-add}
use Rattle.path_graph.proofs.WalkLemmas.{root_is_within, moved_is_within}
use Rattle.path_graph.proofs.RestLemmas.{end_is_within, back_is_within}
use Rattle.label_space.specs.Rules.{Rules, Extends}
use Rattle.label_rules.specs.Dominance.{Dominates}
use Rattle.label_rules.specs.Labels.{Backward, CanExtend, Direction, Forward, Label, Setting, SettingFits, WindowsTake, entered, extended, left, root, values_over}
use Rattle.label_rules.specs.SpaceLaws.{LawfulLaw}
use Rattle.label_rules.specs.Spaces.{CostsFit, IsLabel, dominates, extension, is_label, level, onward, rules}
use Rattle.label_rules.specs.Tables.{LiesInWindows}
use Rattle.label_rules.proofs.CostLemmas.{root_state}
use Rattle.label_rules.proofs.OrderLemmas.{reflexive, transitive, extended_states, extension_law}
use Rattle.label_rules.proofs.TableLemmas.{needed_dominator, root_states}
use Rattle.label_rules.proofs.LevelLemmas.{extended_in_range, root_in_range, extended_unused}
use Rattle.label_rules.proofs.TestLemmas.{dominates_decides, label_decides, extension_is, is_extension}

-- an arc that goes on leaves the vertex
onward_at : (direction : Direction) (S : Setting) (v k : ℕ) → k < length (onward direction S v)
    → (slice_index (onward direction S v) k < length S.graph.arcs) × (left direction S (slice_index (onward direction S v) k) ≡ v)
onward_at Forward S v k l = from_at S.graph.arcs v k l
onward_at Backward S v k l = into_at S.graph.arcs v k l

-- what an extension leads to is a label
entered_there : (direction : Direction) (S : Setting) (a : ℕ) → IsGraph S.graph → a < length S.graph.arcs → entered direction S a < length S.graph.vertices
entered_there Forward S a graph l = (graph.fits.each_arc a _ l).head
entered_there Backward S a graph l = (graph.fits.each_arc a _ l).tail

taken_within : (direction : Direction) (S : Setting) (value : Values) (a : ℕ) → WindowsTake direction S value a → AreWithin (vertex_at S.graph.vertices (entered direction S a)).windows (values_over direction S value a)
taken_within Forward S value a t = moved_is_within value.at (arc_at S.graph.arcs a).needs (vertex_at S.graph.vertices (arc_at S.graph.arcs a).head).windows t
taken_within Backward S value a t = back_is_within value.at (arc_at S.graph.arcs a).needs (vertex_at S.graph.vertices (arc_at S.graph.arcs a).tail).windows t

extended_is : (direction : Direction) (S : Setting) (l : Label) (a : ℕ) → SettingFits S → CostsFit S → IsLabel direction S l → a < length S.graph.arcs → left direction S a ≡ l.vertex
    → CanExtend direction S l a → IsLabel direction S (extended direction S l a)
extended_is direction S l a fits costs is there from can = record {
  windows = record { vertex = entered_there direction S a fits.graph there; values = taken_within direction S l.values a can.values };
  states = extended_states direction S l a fits is.states;
  unused = λ i within past. extended_unused direction S l a i past;
  cost = extended_in_range direction S l a fits costs there from is.cost;
}

root_lies : (direction : Direction) (S : Setting) → SettingFits S → LiesInWindows S (root direction S)
root_lies Forward S fits = record { vertex = fits.graph.fits.ends_fit.source; values = root_is_within S.graph fits.graph }
root_lies Backward S fits = record { vertex = fits.graph.fits.ends_fit.sink; values = end_is_within S.graph fits.graph }

root_is : (direction : Direction) (S : Setting) → SettingFits S → CostsFit S → IsLabel direction S (root direction S)
root_is direction S fits costs = record {
  windows = root_lies direction S fits;
  states = root_states direction S fits;
  unused = λ i within past. root_state direction S i;
  cost = root_in_range direction S fits costs;
}

-- levels of dominators
-- the main values together
abbrev mains_of : Label → ℤ
mains_of l = int_at l.values.at 0 +ℤ int_at l.values.at 1

level_less : (direction : Direction) (S : Setting) (a b : Label) → Dominates direction S a b → level direction S a ≤ℤ level direction S b
level_less Forward S a b d =
    let first = d.values 0 (omega arith) in
    let second = d.values 1 (omega arith) in
    let sums = pos_mul-≤ (length S.graph.vertices) (mains_of a) (mains_of b) (omega (arith, ints, first, second)) in
    let rank = ap (λ (v : ℕ). rank_of S.graph v) d.vertex in
    omega (arith, ints, sums, rank)
level_less Backward S a b d =
    let first = d.values 0 (omega arith) in
    let second = d.values 1 (omega arith) in
    let sums = pos_mul-≤ (length S.graph.vertices) (mains_of b) (mains_of a) (omega (arith, ints, first, second)) in
    let rank = ap (λ (v : ℕ). rank_of S.graph v) d.vertex in
    omega (arith, ints, sums, rank)

-- a positive number of times the one sum is that of times the other only where the sums are equal
sum_same : (n : ℕ) (x y : ℤ) → 1 ≤ n → x ≤ℤ y → pos n *ℤ x ≡ pos n *ℤ y → x ≡ y
sum_same n x y some less same =
    let apart = mul_z-add (pos n) x (y -ℤ x) in
    let back : x +ℤ (y -ℤ x) ≡ y = omega (arith, ints) in
    let whole = ap (λ (z : ℤ). pos n *ℤ z) back in
    let most = times_more n (y -ℤ x) some (omega (arith, ints, less)) in
    omega (arith, ints, apart, whole, same, most, less)

level_same : (direction : Direction) (S : Setting) (a b : Label) → IsGraph S.graph → Dominates direction S a b → level direction S a ≡ level direction S b
    → (int_at a.values.at 0 ≡ int_at b.values.at 0) × (int_at a.values.at 1 ≡ int_at b.values.at 1)
level_same Forward S a b graph d e =
    let first = d.values 0 (omega arith) in
    let second = d.values 1 (omega arith) in
    let rank = ap (λ (v : ℕ). rank_of S.graph v) d.vertex in
    let sums = sum_same (length S.graph.vertices) (mains_of a) (mains_of b) (omega (arith, graph.fits.some_vertices)) (omega (arith, ints, first, second)) (omega (arith, ints, e, rank)) in
    (omega (arith, ints, first, second, sums), omega (arith, ints, first, second, sums))
level_same Backward S a b graph d e =
    let first = d.values 0 (omega arith) in
    let second = d.values 1 (omega arith) in
    let rank = ap (λ (v : ℕ). rank_of S.graph v) d.vertex in
    let sums = sum_same (length S.graph.vertices) (mains_of b) (mains_of a) (omega (arith, graph.fits.some_vertices)) (omega (arith, ints, first, second)) (omega (arith, ints, e, rank)) in
    (omega (arith, ints, first, second, sums), omega (arith, ints, first, second, sums))

same_cell : (cell_of : ℕ → ℤ → ℤ → ℕ) (v w : ℕ) (x y s t : ℤ) → v ≡ w → x ≡ s → y ≡ t → cell_of v x y ≡ cell_of w s t
same_cell cell_of v w x y s t e f h = cc

pub lawful : LawfulLaw
lawful direction S threshold cells cell_of fits costs inside =
    let r : Rules Label = rules direction S threshold cells cell_of in
    let of = λ (a b : Label) (h : dominates direction S a b ≡ true). (dominates_decides direction S a b).0 h in
    let label = λ (l : Label) (h : is_label direction S l ≡ true). (label_decides direction S l).0 h in
    record {
      root_fits = (label_decides direction S (root direction S)).1 (root_is direction S fits costs);
      cell_within = λ l f. inside l (label l f).windows;
      extension_fits = λ l k m f x.
          let a = slice_index (onward direction S l.vertex) k in
          let is = extension_is direction S threshold l a m x.1 in
          let at = onward_at direction S l.vertex k x.0 in
          subst (λ (n : Label). is_label direction S n ≡ true) is.is
          ((label_decides direction S (extended direction S l a)).1 (extended_is direction S l a fits costs (label l f) at.0 at.1 is.defined));
      reflexive = λ a f. (dominates_decides direction S a a).1 (reflexive direction S a);
      transitive = λ a b c f g h p q. (dominates_decides direction S a c).1 (transitive direction S a b c (of a b p) (of b c q));
      same_degree = λ a b f g d. ap (λ (v : ℕ). length (onward direction S v)) (of a b d).vertex;
      extends_too = λ a b k m f g d x. extends_too a b k m f g d x;
      level_no_greater = λ a b f g d. level_less direction S a b (of a b d);
      equal_level_one_cell = λ a b f g d e.
          let same = level_same direction S a b fits.graph (of a b d) e in
          same_cell cell_of a.vertex b.vertex (int_at a.values.at 0) (int_at a.values.at 1) (int_at b.values.at 0) (int_at b.values.at 1) (of a b d).vertex same.0 same.1;
    }
  where
    extends_too : (a b : Label) (k : ℕ) (m : Label) → is_label direction S a ≡ true → is_label direction S b ≡ true → dominates direction S a b ≡ true
        → Extends (rules direction S threshold cells cell_of) b k m → (n : Label) × Extends (rules direction S threshold cells cell_of) a k n × (dominates direction S n m ≡ true)
    extends_too a b k m f g h x =
        let d = (dominates_decides direction S a b).0 h in
        let arc = slice_index (onward direction S b.vertex) k in
        let is = extension_is direction S threshold b arc m x.1 in
        let next = extension_law direction S a b arc fits ((label_decides direction S a).0 f).states ((label_decides direction S b).0 g).states d is.defined in
        let needed = needed_dominator direction S threshold (extended direction S a arc) (extended direction S b arc) next.1 is.needed in (
          extended direction S a arc,
          subst (λ (v : ℕ). (k < length (onward direction S v)) × (extension direction S threshold a (slice_index (onward direction S v) k) ≡ Some (extended direction S a arc))) (sym d.vertex)
              (x.0, is_extension direction S threshold a arc next.0 needed),
          subst (λ (n : Label). dominates direction S (extended direction S a arc) n ≡ true) is.is ((dominates_decides direction S (extended direction S a arc) (extended direction S b arc)).1 next.1),
        )
