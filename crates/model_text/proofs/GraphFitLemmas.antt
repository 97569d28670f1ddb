-- What the words of graphs, vertices and arcs tell keeps the limits of a model.
use Rattle.std.proofs.Common.{◌≡◌, ℕ, ◌+◌, ◌≤◌, ◌<◌, pos, Bool, true, false, List, length, refl, arith, Option, None, Some}
use Rattle.std.specs.Prelude.{◌==◌, ◌||◌, ◌&&◌, nat_lt, IfSome, is_some}
use Rattle.std.proofs.lemmas.Bool.Decides.{nat_tests}
use Rattle.path_graph.specs.declared.parts.Vertex.{Vertex}
use Rattle.path_graph.specs.declared.parts.Ends.{Ends}
use Rattle.path_graph.specs.Fit.{is_used_at, WindowFits, NeedFits, VertexFits, ArcFits, EndsFit}
use Rattle.route_model.specs.Fit.{MapFits, IsDeclared}
use Rattle.model_text.specs.declared.draft.Section.{Section}
use Rattle.model_text.specs.LineWords.{vertex_wanted, arc_wanted, graph_wanted, sets_wanted}
use Rattle.model_text.specs.Totals.{path_total}
use Rattle.model_text.proofs.LineReads.{sets-reads, graph-reads, vertex-reads, arc-reads}
use Rattle.model_text.proofs.FitLemmas.{GivesOnly, gives, weaker, six}
use Rattle.model_text.proofs.RowFitLemmas.{mapped_fit}

-- the place of a vertex that may be in a set is neither the source nor the sink
pub record IsFree (s : Section) (v : Vertex) : Type 0 where
  pub source : length s.vertices ≡ s.ends.source → v.set ≡ None
  pub sink : length s.vertices ≡ s.ends.sink → v.set ≡ None

free_at : (set : Option ℕ) (place source : ℕ) → (is_some set && (place == source)) ≡ false → place ≡ source → set ≡ None
free_at None place source h e = refl
free_at (Some s) place source h e = let yes : (place == source) ≡ true = grind (arith, nat_tests, e) in cc

part_of_and : (a b c : Bool) → (a && (b || c)) ≡ false → ((a && b) ≡ false) × ((a && c) ≡ false)
part_of_and true true c h = cc
part_of_and true false c h = (refl, h)
part_of_and false b c h = (refl, refl)

below_512 : (sets : ℕ) (set : Option ℕ) → sets ≤ 512 → IfSome set (λ s. s < sets) → IfSome set (λ s. s < 512)
below_512 sets None few h = tt
below_512 sets (Some s) few h = omega (arith, few, h)

pub vertex_wanted-fits : (sets : ℕ) (s : Section) → sets ≤ 512 → GivesOnly (vertex_wanted sets s) (λ v. VertexFits s.ends v × IsDeclared sets v × IsFree s v)
vertex_wanted-fits sets s few =
    weaker (gives (vertex-reads sets s few)) (λ v may.
    let each = six (λ k. WindowFits (is_used_at s.ends k)) (record { low = pos 0; high = pos 0 }) v.windows may.windows in
    let parts = part_of_and (is_some v.set) (length s.vertices == s.ends.source) (length s.vertices == s.ends.sink) may.ends in (
      record { set = below_512 sets v.set few may.set; places = each.0; windows = each.1 },
      may.set,
      record {
        source = free_at v.set (length s.vertices) s.ends.source parts.0;
        sink = free_at v.set (length s.vertices) s.ends.sink parts.1;
      },
    ))

pub arc_wanted-fits : (vars : ℕ) (s : Section) → vars ≤ 30000 → length s.vertices ≤ 1024 → GivesOnly (arc_wanted vars s) (λ a. ArcFits s.ends (length s.vertices) a.0 × MapFits vars a.1)
arc_wanted-fits vars s few_vars few =
    weaker (gives (arc-reads vars s few_vars few)) (λ a may.
    let each = six (λ k. NeedFits (is_used_at s.ends k) (nat_lt k 2)) (pos 0) a.0.needs may.needs in
    let into = may.not_in in
    let out = may.not_out in (
      record {
        tail = may.tail;
        head = may.head;
        not_in = λ e. grind (arith, nat_tests, into, e);
        not_out = λ e. grind (arith, nat_tests, out, e);
        places = each.0;
        needs = each.1;
      },
      mapped_fit vars a.1 may.mapped,
    ))

-- a graph line
pub record GraphLineFits (sections : List Section) (g : ℕ × Ends) : Type 0 where
  pub some_vertices : 2 ≤ g.0
  pub few_vertices : g.0 ≤ 1024
  pub ends : EndsFit g.1 g.0
  pub paths : path_total sections + g.1.high ≤ 4096

pub graph_wanted-fits : (sections : List Section) → GivesOnly (graph_wanted sections) (GraphLineFits sections)
graph_wanted-fits sections =
    weaker (gives (graph-reads sections)) (λ g h.
    let may = h.1 in
    let different = may.apart in
    record {
      some_vertices = h.0.0;
      few_vertices = h.0.1;
      ends =
          record {
            source = may.source;
            sink = may.sink;
            different = λ e. grind (arith, nat_tests, different, e);
            paths = may.low;
            most_paths = may.high;
            some_main = may.mains.0;
            mains = may.mains.1;
            seconds = may.seconds;
          };
      paths = may.sum;
    })

pub sets_wanted-few : GivesOnly sets_wanted (λ sets. sets ≤ 512)
sets_wanted-few = gives sets-reads
