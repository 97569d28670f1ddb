-- A node over an arc, from the label and the sets that are read.
use Rattle.std.proofs.Common.{◌≡◌, ℕ, ◌<◌, ◌||◌, true, false, Option, None, Some, length, sym, ◌∙◌, ap, subst}
use Rattle.std.specs.Prelude.{IfSome, IsSomeAnd}
use Rattle.std.proofs.lemmas.Bool.{false≢true}
use Rattle.path_graph.specs.declared.set_bits.SetBits.{SetBits}
use Rattle.path_graph.specs.Fit.{vertex_at}
use Rattle.path_graph.specs.SetBits.{has_set}
use Rattle.path_graph.specs.Visits.{visit_over}
use Rattle.path_graph.specs.Walk.{arc_at}
use Rattle.ng_sets.specs.Memory.{is_visited}
use Rattle.label_rules.specs.declared.label.Label.{Label}
use Rattle.label_rules.specs.Labels.{Forward, Setting, SettingFits, extended}
use Rattle.label_rules.specs.Spaces.{extension}
use Rattle.label_rules.proofs.TestLemmas.{extension_is, is_extension}
use Rattle.list_check.specs.Prefixes.{GoesOver, IsOver}

-- the vertex that an extension leads to is there, and its set is small
pub over_vertex : (S : Setting) (label next : Label) (a : ℕ) → Some next ≡ extension Forward S None label a → next.vertex ≡ (arc_at S.graph.arcs a).head
over_vertex S label next a is = ap (λ (l : Label). l.vertex) (sym (extension_is Forward S None label a next (sym is)).is)

pub over_there : (S : Setting) (label next : Label) (a : ℕ) → SettingFits S → a < length S.graph.arcs → Some next ≡ extension Forward S None label a → next.vertex < length S.graph.vertices
over_there S label next a fits there is =
    subst (λ (v : ℕ). v < length S.graph.vertices) (sym (over_vertex S label next a is)) (fits.graph.fits.each_arc a _ there).head

-- an arc whose extension is refused does not go on, and one that enters a visited set does not
pub not_over : (S : Setting) (label : Label) (visited : SetBits) (a : ℕ) → None ≡ extension Forward S None label a → ¬ (GoesOver S label visited a)
not_over S label visited a none goes =
    let some = is_extension Forward S None label a goes.can tt in
    let differ : ◌≡◌ {A = Option Label} None (Some (extended Forward S label a)) = none ∙ some in
    cc

pub visited_over : (S : Setting) (label next : Label) (visited : SetBits) (a : ℕ) (set : Option ℕ) → Some next ≡ extension Forward S None label a → set ≡ (vertex_at S.graph.vertices next.vertex).set
    → IsSomeAnd set (λ s. has_set visited s ≡ true) → ¬ (GoesOver S label visited a)
visited_over S label next visited a None is read met goes = absurd met
visited_over S label next visited a (Some s) is read met goes =
    let here : visit_over S.graph a ≡ Some s = sym (read ∙ ap (λ (v : ℕ). (vertex_at S.graph.vertices v).set) (over_vertex S label next a is)) in
    false≢true (sym (goes.new s here) ∙ met)

not_in : (visited : SetBits) (set : Option ℕ) (s : ℕ) → set ≡ Some s → IfSome set (λ t. has_set visited t ≡ false) → has_set visited s ≡ false
not_in visited set s is h = let at = subst (λ (x : Option ℕ). IfSome x (λ t. has_set visited t ≡ false)) is h in at

pub next_over : (S : Setting) (label next : Label) (visited more : SetBits) (a : ℕ) (set : Option ℕ) → a < length S.graph.arcs → (arc_at S.graph.arcs a).tail ≡ label.vertex
    → Some next ≡ extension Forward S None label a → set ≡ (vertex_at S.graph.vertices next.vertex).set → IfSome set (λ s. has_set visited s ≡ false)
    → ((t : ℕ) → has_set more t ≡ (has_set visited t || is_visited set t)) → IsOver S label visited a next more
next_over S label next visited more a set there leaves is read new made =
    let ext = extension_is Forward S None label a next (sym is) in
    let here : set ≡ visit_over S.graph a = read ∙ ap (λ (v : ℕ). (vertex_at S.graph.vertices v).set) (over_vertex S label next a is) in
    record {
      goes = record { there = there; leaves = leaves; can = ext.defined; new = λ s e. not_in visited set s (here ∙ e) new };
      is = sym ext.is;
      visits = λ s. made s ∙ ap (λ (x : Option ℕ). has_set visited s || is_visited x s) here;
    }
