-- What an extension gives, from its parts.
use Rattle.std.proofs.Common.{◌≡◌, ℕ, ◌<◌, ◌^◌, ◌&&◌, Bool, true, false, cond, ℤ, pos, neg_ℤ, ◌+ℤ◌, ◌*ℤ◌, ◌≤ℤ◌, Option, None, Some, length, refl, sym, ◌∙◌, ap, subst, arith}
use Rattle.std.specs.Prelude.{MatchOption}
use Rattle.std.proofs.lemmas.Bool.{false≢true}
use Rattle.std.proofs.lemmas.Int.{ints}
use Rattle.path_graph.specs.declared.parts.Values.{Values}
use Rattle.path_graph.specs.Fit.{int_at, vertex_at}
use Rattle.path_graph.specs.Walk.{GraphParts, IsGraph, arc_at}
use Rattle.path_graph.specs.Within.{AreWithin, IsWithin}
use Rattle.path_graph.proofs.LevelLemmas.{level_within}
use Rattle.ng_sets.specs.Memory.{IsRemembered}
use Rattle.label_rules.specs.declared.label.Label.{Label}
use Rattle.label_rules.specs.Labels.{Backward, CanExtend, Direction, Forward, Setting, SettingFits, WindowsTake, entered, extended, values_over, visit_at, visit_of}
use Rattle.label_rules.specs.Spaces.{IsLabel, can_extend, extension, is_label, level, needs_dominator}
use Rattle.label_rules.specs.Tables.{LiesInWindows, first_value}
use Rattle.label_rules.proofs.TestLemmas.{can_extend_decides, label_decides}
use Rattle.route_labels.specs.Arrival.{Arrives, needed_above, needed_up_to}

-- what a label of a space is
pub label_is : (direction : Direction) (S : Setting) (l : Label) → is_label direction S l ≡ true → IsLabel direction S l
label_is direction S l h = (label_decides direction S l).0 h

-- its cost is in a range that holds for all levels
range_of_all : (x low : ℤ) → IsWithin (2 ^ 38) low → (neg_ℤ (pos (2 ^ 112) +ℤ (pos (2 ^ 73) *ℤ (low +ℤ pos (2 ^ 38))))) ≤ℤ x → x ≤ℤ (pos (2 ^ 112) +ℤ (pos (2 ^ 73) *ℤ (low +ℤ pos (2 ^ 38))))
    → IsWithin (2 ^ 113) x
range_of_all x low near below above = (omega (arith, ints, near.0, near.1, below), omega (arith, ints, near.0, near.1, above))

turned_round : (x : ℤ) → IsWithin (2 ^ 38) x → IsWithin (2 ^ 38) (neg_ℤ x)
turned_round x near = (omega (arith, ints, near.1), omega (arith, ints, near.0))

pub level_near : (direction : Direction) (S : Setting) (l : Label) → SettingFits S → LiesInWindows S l → IsWithin (2 ^ 38) (level direction S l)
level_near Forward S l fits lies = level_within S.graph l.vertex l.values fits.graph lies.vertex lies.values
level_near Backward S l fits lies = turned_round _ (level_within S.graph l.vertex l.values fits.graph lies.vertex lies.values)

pub cost_near : (direction : Direction) (S : Setting) (l : Label) → SettingFits S → is_label direction S l ≡ true → IsWithin (2 ^ 113) l.cost
cost_near direction S l fits h =
    let is = label_is direction S l h in
    range_of_all l.cost (level direction S l) (level_near direction S l fits is.windows) is.cost.0 is.cost.1

-- an extension that is refused, or not needed
none_chosen : (b : Bool) (x : Label) → ¬ (b ≡ true) → None ≡ cond b (Some x) None
none_chosen true x h = absurd (h refl)
none_chosen false x h = refl

some_chosen : (b : Bool) (x : Label) → b ≡ true → Some x ≡ cond b (Some x) None
some_chosen true x h = refl
some_chosen false x h = absurd (false≢true h)

both_hold : (b c : Bool) → (b && c) ≡ true → (b ≡ true) × (c ≡ true)
both_hold true true h = (refl, refl)
both_hold true false h = absurd (false≢true h)
both_hold false c h = absurd (false≢true h)

both : (b c : Bool) → b ≡ true → c ≡ true → (b && c) ≡ true
both true true h k = refl
both true false h k = absurd (false≢true k)
both false c h k = absurd (false≢true h)

module _ (direction : Direction) (S : Setting) (threshold : Option ℤ) (l : Label) (a : ℕ) where
  pub none_extends : ¬ (CanExtend direction S l a) → None ≡ extension direction S threshold l a
  none_extends h = none_chosen _ (extended direction S l a) (λ t. h ((can_extend_decides direction S l a).0 (both_hold (can_extend direction S l a) _ t).0))

  pub none_needed : needs_dominator direction S threshold (extended direction S l a) ≡ false → None ≡ extension direction S threshold l a
  none_needed h = none_chosen _ (extended direction S l a)
      (λ t. false≢true (sym h ∙ (both_hold (can_extend direction S l a) (needs_dominator direction S threshold (extended direction S l a)) t).1))

  -- what has come to the vertex that the arc enters is the extension
  pub arrival_is : (result : Option Label) → S.is_shut a ≡ false → WindowsTake direction S l.values a → needs_dominator direction S threshold (extended direction S l a) ≡ true
      → MatchOption result (IsRemembered l.memory (visit_of direction S a).set) (Arrives S l (entered direction S a) (values_over direction S l.values a) a)
      → result ≡ extension direction S threshold l a
  arrival_is None is_open takes needed refused = none_extends (λ can. can.memory refused)
  arrival_is (Some next) is_open takes needed come =
      ap Some come.label
      ∙ some_chosen (can_extend direction S l a && needs_dominator direction S threshold (extended direction S l a)) (extended direction S l a)
      (both _ _ ((can_extend_decides direction S l a).1 (record { open_arc = is_open; values = takes; memory = come.accepted })) needed)

  -- the vertex and the values, as they are read
  pub come_is : (result : Option Label) (v : ℕ) (values : Values) → v ≡ entered direction S a → values ≡ values_over direction S l.values a
      → S.is_shut a ≡ false → WindowsTake direction S l.values a → needs_dominator direction S threshold (extended direction S l a) ≡ true
      → MatchOption result (IsRemembered l.memory (visit_at S v).set) (Arrives S l v values a) → result ≡ extension direction S threshold l a
  come_is result v values there moved is_open takes needed come =
      let at = subst (λ (w : ℕ). MatchOption result (IsRemembered l.memory (visit_at S w).set) (Arrives S l w values a)) there come in
      arrival_is result is_open takes needed
      (subst (λ (xs : Values). MatchOption result (IsRemembered l.memory (visit_of direction S a).set) (Arrives S l (entered direction S a) xs a)) moved at)

-- the tests of thresholds, on the first main value and the vertex
pub needed_forward : (S : Setting) (top : Option ℤ) (l : Label) → needs_dominator Forward S top l ≡ needed_up_to top (first_value l) l.vertex S.graph.ends.sink
needed_forward S None l = refl
needed_forward S (Some t) l = refl

pub needed_backward : (S : Setting) (above : Option ℤ) (l : Label) → needs_dominator Backward S above l ≡ needed_above above (first_value l) l.vertex S.graph.ends.source
needed_backward S None l = refl
needed_backward S (Some t) l = refl

-- the same of the vertex, the values and the end of the graph as they are read
pub needed_read : (S : Setting) (top : Option ℤ) (l : Label) (a v sink : ℕ) (values : Values) → v ≡ entered Forward S a → values ≡ values_over Forward S l.values a → sink ≡ S.graph.ends.sink
    → needs_dominator Forward S top (extended Forward S l a) ≡ needed_up_to top (int_at values.at 0) v sink
needed_read S top l a v sink values there moved last =
    needed_forward S top (extended Forward S l a) ∙ sym (λ i. needed_up_to top (int_at (moved i).at 0) (there i) (last i))

pub needed_back_read : (S : Setting) (above : Option ℤ) (l : Label) (a v source : ℕ) (values : Values) → v ≡ entered Backward S a → values ≡ values_over Backward S l.values a → source ≡ S.graph.ends.source
    → needs_dominator Backward S above (extended Backward S l a) ≡ needed_above above (int_at values.at 0) v source
needed_back_read S above l a v source values there moved last =
    needed_backward S above (extended Backward S l a) ∙ sym (λ i. needed_above above (int_at (moved i).at 0) (there i) (last i))

-- an arc enters a vertex of the graph
pub entered_there : (direction : Direction) (S : Setting) (a : ℕ) → IsGraph S.graph → a < length S.graph.arcs → entered direction S a < length S.graph.vertices
entered_there Forward S a graph l = (graph.fits.each_arc a _ l).head
entered_there Backward S a graph l = (graph.fits.each_arc a _ l).tail

-- a label lies in the windows of its vertex
pub lies_there : (direction : Direction) (S : Setting) (l : Label) (g : GraphParts) → g ≡ S.graph → is_label direction S l ≡ true → AreWithin (vertex_at g.vertices l.vertex).windows l.values
lies_there direction S l g same is = subst (λ (h : GraphParts). AreWithin (vertex_at h.vertices l.vertex).windows l.values) (sym same) (label_is direction S l is).windows.values

-- and in those of the vertex that the arc leaves
pub lies_at_tail : (S : Setting) (l : Label) (a : ℕ) (g : GraphParts) → g ≡ S.graph → is_label Forward S l ≡ true → (arc_at S.graph.arcs a).tail ≡ l.vertex
    → AreWithin (vertex_at g.vertices (arc_at g.arcs a).tail).windows l.values
lies_at_tail S l a g same is from =
    subst (λ (h : GraphParts). AreWithin (vertex_at h.vertices (arc_at h.arcs a).tail).windows l.values) (sym same)
    (subst (λ (v : ℕ). AreWithin (vertex_at S.graph.vertices v).windows l.values) (sym from) (label_is Forward S l is).windows.values)

pub lies_at_head : (S : Setting) (l : Label) (a : ℕ) (g : GraphParts) → g ≡ S.graph → is_label Backward S l ≡ true → (arc_at S.graph.arcs a).head ≡ l.vertex
    → AreWithin (vertex_at g.vertices (arc_at g.arcs a).head).windows l.values
lies_at_head S l a g same is from =
    subst (λ (h : GraphParts). AreWithin (vertex_at h.vertices (arc_at h.arcs a).head).windows l.values) (sym same)
    (subst (λ (v : ℕ). AreWithin (vertex_at S.graph.vertices v).windows l.values) (sym from) (label_is Backward S l is).windows.values)
