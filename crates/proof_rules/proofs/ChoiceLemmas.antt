-- Lists of choices are partial walks, or rests: different ones of different choices.
use Rattle.std.proofs.Common.{◌≡◌, ◌==◌, ℕ, ◌<◌, ℤ, None, List, [], ◌∷◌, ◌++◌, length, get_or, map, reverse, append_assoc, inl, inr, refl, sym, ◌∙◌, ap, subst, arith}
use Rattle.std.specs.Prelude.{slice_index}
use Rattle.std.specs.List.{AllPairs, range_with_len}
use Rattle.std.proofs.lemmas.Bool.{cases_order}
use Rattle.std.proofs.lemmas.List.{length-map, get_or-map, reverse-append, reverse-reverse, append-nil}
use Rattle.std.proofs.lemmas.List.Elements.{All-map}
use Rattle.std.proofs.lemmas.List.FromFn.{length-range_with_len, get_or-range_with_len}
use Rattle.std.proofs.lemmas.List.Kept.{AllPairs-filter}
use Rattle.path_graph.specs.Walk.{Leads, arc_at}
use Rattle.path_graph.proofs.IndexLemmas.{from_at, into_at}
use Rattle.label_space.specs.Rules.{Extends, Rules}
use Rattle.label_core.specs.Walks.{Reaches}
use Rattle.label_rules.specs.Labels.{Backward, CanExtend, Direction, ExtendsAlong, Forward, HasBackwardLabel, Setting, backward_label, entered, extended, left, root}
use Rattle.label_rules.specs.Spaces.{onward, rules}
use Rattle.label_rules.specs.declared.label.Label.{Label}
use Rattle.proof_rules.specs.TableWalls.{IsBackwardWalk, IsWalkIn, TableWalksLaw}
use Rattle.label_rules.proofs.TestLemmas.{extension_is}
use Rattle.proof_rules.proofs.TableCountLemmas.{table_wall}

-- the arcs on from a vertex rise, so no two are the same
numbers_rise : (n : ℕ) → AllPairs (λ x y. x < y) (range_with_len 0 n)
numbers_rise n i j d less l =
    let size = length-range_with_len 0 n in
    let first = get_or-range_with_len 0 n i d (omega (arith, less, l, size)) in
    let second = get_or-range_with_len 0 n j d (omega (arith, l, size)) in
    omega (arith, less, first, second)

onward_rise : (direction : Direction) (S : Setting) (v : ℕ) → AllPairs (λ x y. x < y) (onward direction S v)
onward_rise Forward S v = AllPairs-filter (λ x y. x < y) (λ a. (arc_at S.graph.arcs a).tail == v) (range_with_len 0 (length S.graph.arcs)) (numbers_rise (length S.graph.arcs))
onward_rise Backward S v = AllPairs-filter (λ x y. x < y) (λ a. (arc_at S.graph.arcs a).head == v) (range_with_len 0 (length S.graph.arcs)) (numbers_rise (length S.graph.arcs))

one_choice : (direction : Direction) (S : Setting) (v k j : ℕ) → k < length (onward direction S v) → j < length (onward direction S v)
    → slice_index (onward direction S v) k ≡ slice_index (onward direction S v) j → k ≡ j
one_choice direction S v k j l m same = elim (cases_order k j) [
  | inl e ↦ e
  | inr (inl less) ↦ let rise = onward_rise direction S v k j 0 less m in absurd (omega (arith, rise, same))
  | inr (inr less) ↦ let rise = onward_rise direction S v j k 0 less l in absurd (omega (arith, rise, same))
]

onward_at : (direction : Direction) (S : Setting) (v k : ℕ) → k < length (onward direction S v)
    → (slice_index (onward direction S v) k < length S.graph.arcs) × (left direction S (slice_index (onward direction S v) k) ≡ v)
onward_at Forward S v k l = from_at S.graph.arcs v k l
onward_at Backward S v k l = into_at S.graph.arcs v k l

-- the arcs of choices from a label, the last one first, and before them others
abbrev arcs_before : Direction → Setting → ℕ → List ℕ → List ℕ → List ℕ
arcs_before direction S v [] rest = rest
arcs_before direction S v (k ∷ choices) rest =
    arcs_before direction S (entered direction S (slice_index (onward direction S v) k)) choices (slice_index (onward direction S v) k ∷ rest)

-- and in their order
abbrev arcs_of : Direction → Setting → ℕ → List ℕ → List ℕ
arcs_of direction S v [] = []
arcs_of direction S v (k ∷ choices) = slice_index (onward direction S v) k ∷ arcs_of direction S (entered direction S (slice_index (onward direction S v) k)) choices

module _ (direction : Direction) (S : Setting) (cells : ℕ) (cell_of : ℕ → ℤ → ℤ → ℕ) where
  abbrev r : Rules Label
  r = rules direction S None cells cell_of

  -- what a choice gives
  record IsChoice (l : Label) (k : ℕ) (m : Label) : Type 0 where
    arc : ℕ
    is : arc ≡ slice_index (onward direction S l.vertex) k
    there : arc < length S.graph.arcs
    from : left direction S arc ≡ l.vertex
    can : CanExtend direction S l arc
    next : extended direction S l arc ≡ m

  choice_is : (l : Label) (k : ℕ) (m : Label) → Extends r l k m → IsChoice l k m
  choice_is l k m h =
      let at = onward_at direction S l.vertex k h.0 in
      let is = extension_is direction S None l (slice_index (onward direction S l.vertex) k) m h.1 in
      record { arc = slice_index (onward direction S l.vertex) k; is = refl; there = at.0; from = at.1; can = is.defined; next = is.is }

  -- choices from one label over the same arcs are the same
  choices_same : (l : Label) (xs ys : List ℕ) (m n : Label) → Reaches r l xs m → Reaches r l ys n → arcs_of direction S l.vertex xs ≡ arcs_of direction S l.vertex ys → xs ≡ ys
  choices_same l [] [] m n g h e = refl
  choices_same l [] (k ∷ ys) m n g h e = cc
  choices_same l (k ∷ xs) [] m n g h e = cc
  choices_same l (k ∷ xs) (j ∷ ys) m n g h e =
      let first : slice_index (onward direction S l.vertex) k ≡ slice_index (onward direction S l.vertex) j = cc in
      let choice = one_choice direction S l.vertex k j g.1.0 h.1.0 first in
      let one = choice_is l k g.0 g.1 in
      let other = choice_is l j h.0 h.1 in
      let arc : one.arc ≡ other.arc = one.is ∙ (first ∙ sym other.is) in
      let label : g.0 ≡ h.0 = sym one.next ∙ (ap (extended direction S l) arc ∙ other.next) in
      let rest : arcs_of direction S (entered direction S (slice_index (onward direction S l.vertex) k)) xs ≡ arcs_of direction S (entered direction S (slice_index (onward direction S l.vertex) j)) ys = cc in
      let here : entered direction S (slice_index (onward direction S l.vertex) k) ≡ g.0.vertex = ap (entered direction S) (sym one.is) ∙ ap (λ (x : Label). x.vertex) one.next in
      let there : entered direction S (slice_index (onward direction S l.vertex) j) ≡ h.0.vertex = ap (entered direction S) (sym other.is) ∙ ap (λ (x : Label). x.vertex) other.next in
      let more : arcs_of direction S g.0.vertex xs ≡ arcs_of direction S g.0.vertex ys =
      ap (λ (v : ℕ). arcs_of direction S v xs) (sym here) ∙ (rest ∙ ap (λ (v : ℕ). arcs_of direction S v ys) (there ∙ ap (λ (x : Label). x.vertex) (sym label))) in
      λ i. choice i ∷ choices_same g.0 xs ys m n g.2 (subst (λ (x : Label). Reaches r x ys n) (sym label) h.2) more i

-- forward they are a partial walk
forward_walk : (S : Setting) (cells : ℕ) (cell_of : ℕ → ℤ → ℤ → ℕ) (l : Label) (choices : List ℕ) (m : Label) → Reaches (rules Forward S None cells cell_of) l choices m
    → ExtendsAlong S l (arcs_of Forward S l.vertex choices) × ((v : ℕ) × Leads S.graph l.vertex (arcs_of Forward S l.vertex choices) v)
forward_walk S cells cell_of l [] m h = (tt, (l.vertex, refl))
forward_walk S cells cell_of l (k ∷ choices) m h =
    let arc : ℕ = slice_index (onward Forward S l.vertex) k in
    let is = extension_is Forward S None l arc h.0 h.1.1 in
    let at = onward_at Forward S l.vertex k h.1.0 in
    let more = forward_walk S cells cell_of (extended Forward S l arc) choices m (subst (λ (x : Label). Reaches (rules Forward S None cells cell_of) x choices m) (sym is.is) h.2) in
    ((is.defined, more.0), (more.1.0, (at.0, at.1, more.1.1)))

-- backward a rest
backward_walk : (S : Setting) (cells : ℕ) (cell_of : ℕ → ℤ → ℤ → ℕ) (rest choices : List ℕ) (m : Label) → Reaches (rules Backward S None cells cell_of) (backward_label S rest) choices m
    → HasBackwardLabel S rest → Leads S.graph (backward_label S rest).vertex rest S.graph.ends.sink → IsBackwardWalk S (arcs_before Backward S (backward_label S rest).vertex choices rest)
backward_walk S cells cell_of rest [] m h has leads = record { begins = (backward_label S rest).vertex; leads = leads; label = has }
backward_walk S cells cell_of rest (k ∷ choices) m h has leads =
    let l : Label = backward_label S rest in
    let arc : ℕ = slice_index (onward Backward S l.vertex) k in
    let is = extension_is Backward S None l arc h.0 h.1.1 in
    let at = onward_at Backward S l.vertex k h.1.0 in
    backward_walk S cells cell_of (arc ∷ rest) choices m (subst (λ (x : Label). Reaches (rules Backward S None cells cell_of) x choices m) (sym is.is) h.2) (is.defined, has)
    (at.0, refl, subst (λ (v : ℕ). Leads S.graph v rest S.graph.ends.sink) (sym at.1) leads)

-- the last arc first is the reverse
before_is : (direction : Direction) (S : Setting) (v : ℕ) (choices rest : List ℕ) → arcs_before direction S v choices rest ≡ reverse (arcs_of direction S v choices) ++ rest
before_is direction S v [] rest = refl
before_is direction S v (k ∷ choices) rest =
    let a : ℕ = slice_index (onward direction S v) k in
    let next : ℕ = entered direction S a in
    before_is direction S next choices (a ∷ rest)
    ∙ sym (ap (λ (xs : List ℕ). xs ++ rest) (reverse-append (a ∷ []) (arcs_of direction S next choices)) ∙ append_assoc (reverse (arcs_of direction S next choices)) (a ∷ []) rest)

-- the walk of choices from the root
abbrev walk_from : Direction → Setting → List ℕ → List ℕ
walk_from Forward S choices = arcs_of Forward S (root Forward S).vertex choices
walk_from Backward S choices = arcs_before Backward S (root Backward S).vertex choices []

walk_is : (direction : Direction) (S : Setting) (cells : ℕ) (cell_of : ℕ → ℤ → ℤ → ℕ) (choices : List ℕ) (m : Label) → Reaches (rules direction S None cells cell_of) (root direction S) choices m → IsWalkIn direction S (walk_from direction S choices)
walk_is Forward S cells cell_of choices m h = let is = forward_walk S cells cell_of (root Forward S) choices m h in record { ends = is.1.0; leads = is.1.1; label = is.0 }
walk_is Backward S cells cell_of choices m h = backward_walk S cells cell_of [] choices m h tt refl

walk_arcs : (direction : Direction) (S : Setting) (xs ys : List ℕ) → walk_from direction S xs ≡ walk_from direction S ys → arcs_of direction S (root direction S).vertex xs ≡ arcs_of direction S (root direction S).vertex ys
walk_arcs Forward S xs ys e = e
walk_arcs Backward S xs ys e =
    let v : ℕ = (root Backward S).vertex in
    let one = before_is Backward S v xs [] ∙ append-nil (reverse (arcs_of Backward S v xs)) in
    let other = before_is Backward S v ys [] ∙ append-nil (reverse (arcs_of Backward S v ys)) in
    sym (reverse-reverse (arcs_of Backward S v xs)) ∙ (ap reverse (sym one ∙ (e ∙ other)) ∙ reverse-reverse (arcs_of Backward S v ys))

pub table_walks : TableWalksLaw
table_walks limit direction S t wall =
    let shown = table_wall limit direction S t wall in
    let lists : List (List ℕ) = shown.0 in
    let f = walk_from direction S in (
      map f lists,
      length-map lists f ∙ shown.1,
      All-map (IsWalkIn direction S) f lists (λ i d l. let at = shown.2.each i d l in walk_is direction S wall.cells wall.cell_of (get_or lists i d) at.0 at.1),
      λ i j d less l same.
          let within : j < length lists = omega (arith, l, length-map lists f) in
          let first = get_or-map f lists i [] d (omega (arith, less, within)) in
          let second = get_or-map f lists j [] d within in
          let one = shown.2.each i [] (omega (arith, less, within)) in
          let other = shown.2.each j [] within in
          let walks = walk_arcs direction S (get_or lists i []) (get_or lists j []) (sym first ∙ (same ∙ second)) in
          shown.2.differ i j [] less within (choices_same direction S wall.cells wall.cell_of (root direction S) (get_or lists i []) (get_or lists j []) one.0 other.0 one.1 other.1 walks),
    )
