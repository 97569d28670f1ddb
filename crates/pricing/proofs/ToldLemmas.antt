-- What the text of a certificate asks of labels and tables holds of those that were filled.
use Rattle.std.proofs.Common.{◌≡◌, ℕ, zero, suc, ◌+◌, ◌-◌, ◌<◌, ◌≤◌, ◌^◌, ◌&&◌, ◌||◌, ◌==◌, Bool, true, false, ℤ, pos, neg_ℤ, ◌≤ℤ◌, Option, None, Some, List, [], ◌∷◌, ◌++◌, All, length, get_or, map, replicate, sum_by, inl, inr, refl, sym, ◌∙◌, ap, subst, arith, length-append}
use Rattle.std.specs.Prelude.{Contains, IfSome, if◌then◌else◌, nat_lt, option_map, slice_get}
use Rattle.std.specs.List.{range_with_len}
use Rattle.std.proofs.lemmas.Bool.{cases_Bool, cases_lt, eqb-true, false≢true, lt-ltb, ltb-false, ltb-true, or_cases}
use Rattle.std.proofs.lemmas.Int.{ints}
use Rattle.std.proofs.lemmas.List.{get_or-map, get_or_past, length-map, length-replicate}
use Rattle.std.proofs.lemmas.List.Elements.{All-cons, All-contains, All-contains_itself, All-nil, All-weaker, filter_passes}
use Rattle.std.proofs.lemmas.List.FromFn.{length-range_with_len}
use Rattle.std.proofs.lemmas.List.Sums.{sum_by-cons}
use Rattle.path_graph.specs.declared.parts.Vertex.{Vertex}
use Rattle.path_graph.specs.declared.parts.Window.{Window}
use Rattle.path_graph.specs.declared.set_bits.SetBits.{SetBits}
use Rattle.path_graph.specs.Fit.{WindowFits, int_at, is_used_at, vertex_at, window_at}
use Rattle.path_graph.specs.SetBits.{IsWhole, has_set, set_of}
use Rattle.path_graph.specs.Walk.{GraphParts, positions}
use Rattle.path_graph.specs.Within.{IsWithin}
use Rattle.path_graph.proofs.SetBitsMade.{has_set-set_of, set_of-whole}
use Rattle.route_model.specs.Fit.{IsDeclared, ModelFits}
use Rattle.route_model.specs.Parts.{ModelParts, graph_in}
use Rattle.ng_sets.specs.Memory.{is_visited}
use Rattle.label_space.specs.Rules.{Rules}
use Rattle.label_core.specs.declared.table.Entry.{Entry}
use Rattle.label_core.specs.declared.table.Place.{Place}
use Rattle.label_core.specs.Puts.{is_none}
use Rattle.label_core.specs.Tables.{Cells, StandsAt, entry_count}
use Rattle.label_core.specs.Points.{IsSound}
use Rattle.label_core.specs.Walks.{AreDifferentWalks, Reaches}
use Rattle.plain_table.specs.declared.table.Filled.{Filled}
use Rattle.plain_table.specs.declared.table.Filled.TheVariants.{Closed as FilledClosed, Wall as FilledWall, Memory as FilledMemory}
use Rattle.plain_table.specs.Outcomes.{IfClosed, IsWhole as IsWholeTable}
use Rattle.label_rules.specs.declared.label.Label.{Label}
use Rattle.label_rules.specs.declared.table.Form.{Form as TextForm}
use Rattle.label_rules.specs.declared.table.Form.TheVariants as text
use Rattle.label_rules.specs.declared.table.ProofTable.{ProofTable}
use Rattle.label_rules.specs.Labels.{Backward, Direction, Forward, Setting, SettingFits, cut_at, extended, root, state_at, visit_of}
use Rattle.label_rules.specs.Memories.{Visit, nothing, remembered}
use Rattle.label_rules.specs.Spaces.{CostsFit, IsLabel, is_label, onward, rules}
use Rattle.label_rules.proofs.TestLemmas.{extension_is, label_decides}
use Rattle.line_text.specs.Items.{AllAt, EachAfter}
use Rattle.model_text.specs.LineWords.{is_above, last_of}
use Rattle.certificate.specs.declared.sizes.Shape.{Shape}
use Rattle.certificate.specs.declared.sizes.Sizes.{Sizes}
use Rattle.certificate.specs.CertText.{FormFits, LabelFits, LabelsFit, SetFits, StateFits, TableMay, ValueFits}
use Rattle.certificate.specs.Draft.{has_back, shape_of}
use Rattle.certificate.specs.LabelWords.{state_places}
use Rattle.certificate.specs.SetWords.{members}
use Rattle.certificate.specs.Sizes.{graph_at, graph_sizes, sizes_of}
use Rattle.route_labels.specs.Rules.{rules_of, vertex_of}
use Rattle.route_labels.specs.Tables.{kept_in, kept_labels}
use Rattle.route_labels.proofs.KeptLemmas.{kept_at}
use Rattle.pricing.specs.Outcomes.{EachHas}
use Rattle.pricing.specs.Tables.{AreNear, IsTableIn}
use Rattle.pricing.specs.Told.{AreTold, IsTold}

-- a label with all its numbers, whose memory has sets of the model alone
record IsMade (sets : ℕ) (l : Label) : Type 0 where
  values : length l.values.at ≡ 6
  states : length l.states ≡ 64
  whole : IsWhole l.memory
  known : (s : ℕ) → has_set l.memory s ≡ true → s < sets

-- the sets of the vertices are below a number
abbrev pub AreKnown : ℕ → GraphParts → Type 0
AreKnown sets g = (v : ℕ) → IfSome (vertex_at g.vertices v).set (λ s. s < sets)

-- a test of two parts holds in both
second : (x y : Bool) → (x && y) ≡ true → y ≡ true
second true y e = e
second false y e = absurd (cc)

first : (x y : Bool) → (x && y) ≡ true → x ≡ true
first true y e = refl
first false y e = absurd (cc)

-- the memory of a root, and after a visit
nothing_known : (sets s : ℕ) → has_set (set_of nothing) s ≡ true → s < sets
nothing_known sets s e = let none : false ≡ true = second (nat_lt s 512) false (sym (has_set-set_of nothing s) ∙ e) in absurd (cc)

visited_known : (sets s : ℕ) (set : Option ℕ) → IfSome set (λ k. k < sets) → is_visited set s ≡ true → s < sets
visited_known sets s None known e = absurd (cc)
visited_known sets s (Some k) known e = let same : s ≡ k = eqb-true s k e in omega (arith, same, known)

after_known : (sets : ℕ) (memory : SetBits) (visit : Visit) (s : ℕ) → IfSome visit.set (λ k. k < sets) → ((k : ℕ) → has_set memory k ≡ true → k < sets)
    → has_set (set_of (remembered (has_set memory) visit)) s ≡ true → s < sets
after_known sets memory visit s set known e =
    let there = second (nat_lt s 512) (remembered (has_set memory) visit s) (sym (has_set-set_of (remembered (has_set memory) visit) s) ∙ e) in
    elim (or_cases (has_set memory s && visit.near s) (is_visited visit.set s) there) [
      | inl old ↦ known s (first (has_set memory s) (visit.near s) old)
      | inr new ↦ visited_known sets s visit.set set new
    ]

root_made : (direction : Direction) (S : Setting) (sets : ℕ) → IsMade sets (root direction S)
root_made Forward S sets = record { values = refl; states = length-replicate {A = ℕ} 64 0; whole = set_of-whole nothing; known = nothing_known sets }
root_made Backward S sets = record { values = refl; states = length-replicate {A = ℕ} 64 0; whole = set_of-whole nothing; known = nothing_known sets }

states_count : (n : ℕ) (f : ℕ → ℕ) → n ≤ 64 → length (map f (range_with_len 0 n) ++ replicate (64 - n) 0) ≡ 64
states_count n f few =
    omega (arith, few, length-append (map f (range_with_len 0 n)) (replicate (64 - n) 0), length-map (range_with_len 0 n) f, length-range_with_len 0 n, length-replicate {A = ℕ} (64 - n) 0)

extended_made : (direction : Direction) (S : Setting) (sets : ℕ) (l : Label) (a : ℕ) → length S.cuts ≤ 64 → AreKnown sets S.graph → IsMade sets l → IsMade sets (extended direction S l a)
extended_made direction S sets l a few all made = record {
  values = values_count direction;
  states = states_count (length S.cuts) _ few;
  whole = set_of-whole (remembered (has_set l.memory) (visit_of direction S a));
  known = λ s e. after_known sets l.memory (visit_of direction S a) s (all _) made.known e;
}
  where
    values_count : (direction : Direction) → length (extended direction S l a).values.at ≡ 6
    values_count Forward = refl
    values_count Backward = refl

-- a label that comes over choices is made so
module _ (direction : Direction) (S : Setting) (threshold : Option ℤ) (cells : ℕ) (cell_of : ℕ → ℤ → ℤ → ℕ) (sets : ℕ) (few : length S.cuts ≤ 64) (all : AreKnown sets S.graph) where
  along : (l : Label) (choices : List ℕ) (m : Label) → Reaches (rules direction S threshold cells cell_of) l choices m → IsMade sets l → IsMade sets m
  along l [] m h made = subst (IsMade sets) h made
  along l (k ∷ choices) m h made =
      let a : ℕ = get_or (onward direction S l.vertex) k 0 in
      let is = extension_is direction S threshold l a h.0 h.1.1 in
      along h.0 choices m h.2 (subst (IsMade sets) is.is (extended_made direction S sets l a few all made))

-- a condition on the things of a list at their places
all_at : {A : Type 0} (P : ℕ → A → Type 0) (a n : ℕ) (xs : List A) (d : A) → length xs ≡ n → ((i : ℕ) → i < n → P (a + i) (get_or xs i d)) → AllAt P (range_with_len a n) xs
all_at P a zero [] d size each = tt
all_at P a zero (x ∷ xs) d size each = absurd (omega (arith, size))
all_at P a (suc n) [] d size each = absurd (omega (arith, size))
all_at P a (suc n) (x ∷ xs) d size each =
    let here : a + 0 ≡ a = omega arith in (
      subst (λ (k : ℕ). P k x) here (each 0 (omega arith)),
      all_at P (a + 1) n xs d (omega (arith, size)) (λ i l. let next : a + suc i ≡ (a + 1) + i = omega arith in subst (λ (k : ℕ). P k (get_or xs i d)) next (each (suc i) (omega (arith, l)))),
    )

value_fits : (used : Bool) (w : Window) (x : ℤ) → WindowFits used w → w.low ≤ℤ x → x ≤ℤ w.high → ValueFits used x
value_fits true w x fits low high = (omega (arith, ints, fits.0, low), omega (arith, ints, fits.2, high))
value_fits false w x fits low high = omega (arith, ints, fits.0, fits.1, low, high)

state_fits : (k n x : ℕ) → (k < n → x ≤ 255) → (n ≤ k → x ≡ 0) → StateFits (nat_lt k n) x
state_fits k n x used unused = elim (cases_Bool (nat_lt k n)) [
  | inl below ↦ subst (λ (b : Bool). StateFits b x) (sym below) (used (ltb-true k n below))
  | inr past ↦ subst (λ (b : Bool). StateFits b x) (sym past) (unused (ltb-false k n past))
]

set_fits : (sets : ℕ) (set : SetBits) → IsWhole set → ((s : ℕ) → has_set set s ≡ true → s < sets) → SetFits sets set
unfolding members
set_fits sets set whole known = record { whole = whole; known = λ i d l. known _ (filter_passes (has_set set) (range_with_len 0 512) i d l) }

states_fit : (cuts : ℕ) (states : List ℕ) → length states ≡ 64 → ((i : ℕ) → i < 64 → StateFits (nat_lt i cuts) (get_or states i 0)) → AllAt (λ k state. StateFits (nat_lt k cuts) state) state_places states
unfolding state_places
states_fit cuts states size each =
    all_at (λ k state. StateFits (nat_lt k cuts) state) 0 64 states 0 size (λ i l. let same : i ≡ 0 + i = omega arith in subst (λ (k : ℕ). StateFits (nat_lt k cuts) (get_or states i 0)) same (each i l))

-- what the lines of the labels of a setting show
abbrev pub shape_in : ℕ → Setting → Shape
shape_in sets S = record { vertices = length S.graph.vertices; ends = S.graph.ends; sets = sets; cuts = length S.cuts }

label_fits : (direction : Direction) (S : Setting) (sets : ℕ) (l : Label) → SettingFits S → IsLabel direction S l → IsMade sets l → IsWithin (2 ^ 112) l.cost → LabelFits (shape_in sets S) l
label_fits direction S sets l fits is made near =
    let vertex = fits.graph.fits.each_vertex l.vertex (record { set = None; windows = [] }) is.windows.vertex in
    record {
      vertex = is.windows.vertex;
      cost = near;
      values = all_at (λ k value. ValueFits (is_used_at S.graph.ends k) value) 0 6 l.values.at (pos 0) made.values
          (λ i within. let same : i ≡ 0 + i = omega arith in
          let lies = is.windows.values i within in
          subst (λ (k : ℕ). ValueFits (is_used_at S.graph.ends k) (int_at l.values.at i)) same
          (value_fits (is_used_at S.graph.ends i) (window_at (vertex_at S.graph.vertices l.vertex).windows i) (int_at l.values.at i) (vertex.windows i (omega (arith, within, vertex.places))) lies.0 lies.1));
      memory = set_fits sets l.memory made.whole made.known;
      states = states_fit (length S.cuts) l.states made.states
          (λ i within. state_fits i (length S.cuts) (state_at l i)
          (λ below. let state = is.states i below in let cut = (fits.cuts i below).denominator in omega (arith, state, cut.1))
          (λ past. is.unused i within past));
    }

-- the labels of the entries of a table that was filled, and of the kept ones
module _ (direction : Direction) (S : Setting) (threshold : Option ℤ) (t : Cells Label) (sets : ℕ) (fits : SettingFits S) (costs : CostsFit S) (all : AreKnown sets S.graph)
    (sound : IsSound (rules_of direction S threshold) t) (walks : AreDifferentWalks (rules_of direction S threshold) t) (near : AreNear (kept_labels t)) where
  entry_fits : (l : Label) → Contains (kept_labels t) l → LabelFits (shape_in sets S) l
  entry_fits l h =
      let has = kept_at t l h in
      let walk = walks.walk has.0 has.1 has.2 in
      let is = (label_decides direction S l).0 (subst (λ (m : Label). is_label direction S m ≡ true) has.4 (sound.at_home has.0 has.1 has.2).0) in
      let made = subst (IsMade sets) has.4 (along direction S threshold (length S.graph.vertices) vertex_of sets costs.few all (root direction S) walk.0 has.1.label walk.2 (root_made direction S sets)) in
      label_fits direction S sets l fits is made (All-contains (λ (m : Label). IsWithin (2 ^ 112) m.cost) (kept_labels t) l near h)

  pub kept_fit : All (LabelFits (shape_in sets S)) (kept_labels t)
  kept_fit = All-weaker (Contains (kept_labels t)) (LabelFits (shape_in sets S)) entry_fits (kept_labels t) (All-contains_itself (kept_labels t))

-- there are no more kept labels than entries
chosen_few : (b : Bool) (l : Label) (rest : List Label) (n : ℕ) → length rest ≤ n → length (if b then l ∷ rest else rest) ≤ suc n
chosen_few true l rest n few = omega (arith, few)
chosen_few false l rest n few = omega (arith, few)

kept_in_few : (entries : List (Entry Label)) → length (kept_in entries) ≤ length entries
kept_in_few [] = omega arith
kept_in_few (e ∷ rest) = chosen_few (is_none e.gone) e.label (kept_in rest) (length rest) (kept_in_few rest)

pub kept_few : (t : Cells Label) → length (kept_labels t) ≤ entry_count t
kept_few [] = omega arith
kept_few (entries ∷ rest) = omega (arith, length-append (kept_in entries) (kept_labels rest), kept_in_few entries, kept_few rest, sum_by-cons length entries rest)

pub closed_few : (r : Rules Label) (limit : ℕ) (f : Filled Label) → IfClosed f (λ t. IsWholeTable r limit t.cells) → IfClosed f (λ t. entry_count t.cells ≤ limit)
closed_few r limit (FilledClosed t) whole = whole.within
closed_few r limit (FilledWall t) whole = tt
closed_few r limit FilledMemory whole = tt

-- the sets of the vertices of a model
pub sets_known : (m : ModelParts) (g : ℕ) → ModelFits m → g < length m.graphs → AreKnown m.sets (graph_in m.graphs g)
sets_known m g model below v =
    All-get_or_default (IsDeclared m.sets) (graph_in m.graphs g).vertices v (record { set = None; windows = [] }) (model.graphs.each g (graph_in [] 0) below).declared tt
  where
    All-get_or_default : {X : Type 0} (P : X → Type 0) (xs : List X) (v : ℕ) (d : X) → All P xs → P d → P (get_or xs v d)
    All-get_or_default P xs v d each other = elim (cases_lt v (length xs)) [
      | inl less ↦ each v d less
      | inr past ↦ subst P (sym (get_or_past xs v d past)) other
    ]

-- the shape of the lines of the table of graph g
shape_is : (m : ModelParts) (S : Setting) (g : ℕ) (t : ProofTable) → S.graph ≡ graph_in m.graphs g → g < length m.graphs → t.graph ≡ g → shape_in m.sets S ≡ shape_of (sizes_of m) (length S.cuts) t
shape_is m S g t graph_is below named =
    let sizes : graph_at (sizes_of m) t.graph ≡ graph_sizes S.graph =
    ap (graph_at (sizes_of m)) named ∙ (get_or-map graph_sizes m.graphs g (graph_in [] 0) _ below ∙ ap graph_sizes (sym graph_is)) in
    λ i. record { vertices = (sym sizes i).vertices; ends = (sym sizes i).ends; sets = m.sets; cuts = length S.cuts }

-- the table of a graph from its parts
module _ (m : ModelParts) (S : Setting) (g most : ℕ) (t : ProofTable) (model : ModelFits m) (below : g < length m.graphs) (graph_is : S.graph ≡ graph_in m.graphs g) where
  told_parts : (fore back : List Label) → IsTableIn S g t → FormFits t.form → t.fore ≡ fore → t.back ≡ back → All (LabelFits (shape_in m.sets S)) fore → All (LabelFits (shape_in m.sets S)) back
      → length fore ≤ most → length back ≤ most → (has_back t.form ≡ false → back ≡ []) → IsTold (sizes_of m) (length S.cuts) most g t
  told_parts fore back is form fore_is back_is fits fits_back few few_back none =
      let shape = shape_is m S g t graph_is below is.graph in
      record {
        graph = is.graph;
        known = omega (arith, below, length-map m.graphs graph_sizes);
        form = form;
        least = is.least_near;
        fore = subst (λ (s : Shape). All (LabelFits s) t.fore) shape (subst (All (LabelFits (shape_in m.sets S))) (sym fore_is) fits);
        few_fore = omega (arith, few, ap (λ (ls : List Label). length ls) fore_is);
        back = subst (λ (s : Shape). All (LabelFits s) t.back) shape (subst (All (LabelFits (shape_in m.sets S))) (sym back_is) fits_back);
        few_back = omega (arith, few_back, ap (λ (ls : List Label). length ls) back_is);
        none_back = λ e. back_is ∙ none e;
      }

  pub alone_told : (fore : List Label) → IsTableIn S g t → t.form ≡ text.Full → t.fore ≡ fore → t.back ≡ [] → All (LabelFits (shape_in m.sets S)) fore → length fore ≤ most
      → IsTold (sizes_of m) (length S.cuts) most g t
  alone_told fore is form fore_is back_is fits few =
      told_parts fore [] is (subst FormFits (sym form) tt) fore_is back_is fits (All-nil (LabelFits (shape_in m.sets S))) few (omega arith) (λ e. refl)

  pub both_told : (fore back : List Label) → IsTableIn S g t → t.form ≡ text.Both → t.fore ≡ fore → t.back ≡ back → All (LabelFits (shape_in m.sets S)) fore → All (LabelFits (shape_in m.sets S)) back
      → length fore ≤ most → length back ≤ most → IsTold (sizes_of m) (length S.cuts) most g t
  both_told fore back is form fore_is back_is fits fits_back few few_back =
      told_parts fore back is (subst FormFits (sym form) tt) fore_is back_is fits fits_back few few_back (λ e. absurd (false≢true (sym e ∙ ap has_back form)))

-- each table after those before it
last_pushed : {A : Type 0} (xs : List A) (x : A) → slice_get (xs ++ x ∷ []) (length xs) ≡ Some x
last_pushed [] x = refl
last_pushed (y ∷ ys) x = last_pushed ys x

last_is : {A : Type 0} (xs : List A) (x : A) → last_of (xs ++ x ∷ []) ≡ Some x
last_is {A} xs x =
    let place : length (xs ++ x ∷ []) - 1 ≡ length xs = omega (arith, length-append xs (x ∷ [])) in
    ap (λ (k : ℕ). slice_get (xs ++ x ∷ []) k) place ∙ last_pushed xs x

-- graphs from one on are above those before
abbrev IsBefore : ℕ → List ProofTable → Type 0
IsBefore n before = (g : ℕ) → n ≤ g → is_above (option_map (λ (u : ProofTable). u.graph) (last_of before)) g ≡ true

before_more : (n : ℕ) (before : List ProofTable) (t : ProofTable) → t.graph ≡ n → IsBefore (n + 1) (before ++ t ∷ [])
before_more n before t named g from =
    ap (λ (o : Option ProofTable). is_above (option_map (λ (u : ProofTable). u.graph) o) g) (last_is before t) ∙ lt-ltb t.graph g (omega (arith, named, from))

each_after : (s : Sizes) (cuts most n : ℕ) (before tables : List ProofTable) → IsBefore n before → ((k : ℕ) (t : ProofTable) → slice_get tables k ≡ Some t → IsTold s cuts most (n + k) t)
    → EachAfter (TableMay s) before tables
each_after s cuts most n before [] above each = tt
each_after s cuts most n before (t ∷ rest) above each =
    let told = each 0 t refl in
    let named : t.graph ≡ n = omega (arith, told.graph) in (
      (omega (arith, told.graph, told.known), above t.graph (omega (arith, named)), told.form, told.least),
      each_after s cuts most (n + 1) (before ++ t ∷ []) rest (before_more n before t named)
          (λ k u e. let same : n + suc k ≡ (n + 1) + k = omega arith in subst (λ (g : ℕ). IsTold s cuts most g u) same (each (suc k) u e)),
    )

each_fits : (s : Sizes) (cuts most n : ℕ) (tables : List ProofTable) → most ≤ 16777216 → ((k : ℕ) (t : ProofTable) → slice_get tables k ≡ Some t → IsTold s cuts most (n + k) t)
    → All (λ (t : ProofTable). LabelsFit (shape_of s cuts t) t) tables
each_fits s cuts most n [] small each = All-nil (λ (t : ProofTable). LabelsFit (shape_of s cuts t) t)
each_fits s cuts most n (t ∷ rest) small each =
    let told = each 0 t refl in
    All-cons (λ (u : ProofTable). LabelsFit (shape_of s cuts u) u) t rest
    (record { fore = told.fore; few_fore = omega (arith, told.few_fore, small); back = told.back; few_back = omega (arith, told.few_back, small); none_back = told.none_back })
    (each_fits s cuts most (n + 1) rest small
    (λ k u e. let same : n + suc k ≡ (n + 1) + k = omega arith in subst (λ (g : ℕ). IsTold s cuts most g u) same (each (suc k) u e)))

pub all_told : (s : Sizes) (cuts most n : ℕ) (tables : List ProofTable) → EachHas n tables (IsTold s cuts most) → AreTold s cuts most tables
all_told s cuts most n tables has small =
    let each : (k : ℕ) (t : ProofTable) → slice_get tables k ≡ Some t → IsTold s cuts most (0 + k) t =
    λ k t e. let same : k ≡ 0 + k = omega arith in subst (λ (g : ℕ). IsTold s cuts most g t) same (has.each k t e) in
    (each_after s cuts most 0 [] tables (λ g from. refl) each, each_fits s cuts most 0 tables small each)
