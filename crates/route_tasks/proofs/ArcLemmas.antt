-- Lemmas on the arcs of the model of a task.
use Rattle.std.proofs.Common.{◌≡◌, ◌≢◌, ℕ, ◌+◌, ◌-◌, ◌*◌, ◌<◌, ◌≤◌, length, filter, Bool, true, false, not, All, refl, ◌∙◌, ap, arith, inl, inr}
use Rattle.std.specs.List.{range_with_len, Contains}
use Rattle.std.proofs.lemmas.Bool.{cases_eq}
use Rattle.std.proofs.lemmas.Bool.Decides.{nat_tests}
use Rattle.std.proofs.lemmas.List.Elements.{All-map}
use Rattle.std.proofs.lemmas.List.{length-map}
use Rattle.std.proofs.lemmas.List.Filters.{length-filter_both}
use Rattle.std.proofs.lemmas.List.Concat.{length-flat_map}
use Rattle.std.proofs.lemmas.List.FromFn.{length-range_with_len, get_or-range_with_len}
use Rattle.path_graph.specs.declared.parts.GraphArc.{GraphArc}
use Rattle.path_graph.specs.Parts.{arc_at}
use Rattle.path_graph.proofs.FreeLemmas.{filter_contains}
use Rattle.route_tasks.specs.declared.task.RouteTask.{RouteTask}
use Rattle.route_tasks.specs.Places.{customers}
use Rattle.route_tasks.specs.ModelOf.{needs_of, arc_of, is_head, heads_of, arcs_at, arcs_of}
use Rattle.route_tasks.proofs.ListLemmas.{all_joined, all_range, all_kept, sum_small}

-- an arc between two places, not from the source to the sink
pub record IsArc (task : RouteTask) (arc : GraphArc) : Type 0 where
  pub from : arc.tail ≤ customers task
  pub some : 1 ≤ arc.head
  pub to : arc.head ≤ customers task + 1
  pub differ : arc.head ≢ arc.tail
  pub not_both : arc.tail ≡ 0 → arc.head ≤ customers task
  pub needs : arc.needs ≡ needs_of task arc.tail arc.head

head_differs : (n tail head : ℕ) → is_head n tail head ≡ true → head ≢ tail
head_differs n tail head passes = grind (arith, nat_tests)

head_not_both : (n tail head : ℕ) → is_head n tail head ≡ true → tail ≡ 0 → head ≢ n + 1
head_not_both n tail head passes = grind (arith, nat_tests)

pub each_arc : (task : RouteTask) → All (IsArc task) (arcs_of task)
each_arc task =
    all_joined (IsArc task) (arcs_at task) (range_with_len 0 (customers task + 1))
    (all_range (λ tail. All (IsArc task) (arcs_at task tail)) 0 (customers task + 1) (λ tail low high.
    All-map (IsArc task) (arc_of task tail) (heads_of (customers task) tail)
    (all_kept (λ head. IsArc task (arc_of task tail head)) (is_head (customers task) tail) (range_with_len 1 (customers task + 1))
    (all_range (λ head. is_head (customers task) tail head ≡ true → IsArc task (arc_of task tail head)) 1 (customers task + 1) (λ head from to passes.
    record {
      from = omega (arith, high);
      some = from;
      to = omega (arith, to);
      differ = head_differs (customers task) tail head passes;
      not_both = λ zero_tail. let other = head_not_both (customers task) tail head passes zero_tail in omega (arith, other, to);
      needs = refl;
    })))))

pub arc_is : (task : RouteTask) (a : ℕ) → a < length (arcs_of task) → IsArc task (arc_at (arcs_of task) a)
arc_is task a l = each_arc task a _ l

-- as many arcs out of a place as there are customers
fails_once : (p : ℕ → Bool) (a n s : ℕ) → a ≤ s → s < a + n → p s ≡ false → length (filter p (range_with_len a n)) < n
fails_once p a n s low high fails =
    let both = length-filter_both p (λ k. not (p k)) (λ k. refl) (range_with_len a n) in
    let there : Contains (range_with_len a n) s = (s - a, omega (arith, length-range_with_len a n, low, high), get_or-range_with_len a n (s - a) s (omega (arith, low, high)) ∙ omega (arith, low)) in
    let kept = filter_contains (λ k. not (p k)) (range_with_len a n) s there (ap not fails) in
    omega (arith, both, kept.1, length-range_with_len a n)

pub few_heads : (n tail : ℕ) → 1 ≤ n → tail ≤ n → length (heads_of n tail) ≤ n
few_heads n tail some l = elim (cases_eq tail 0) [
  | inl least ↦
      let fails : is_head n tail (n + 1) ≡ false = grind (arith, nat_tests) in
      let few = fails_once (is_head n tail) 1 (n + 1) (n + 1) (omega arith) (omega arith) fails in
      omega (arith, few)
  | inr more ↦
      let fails : is_head n tail tail ≡ false = grind (arith, nat_tests) in
      let few = fails_once (is_head n tail) 1 (n + 1) tail (omega (arith, more)) (omega (arith, l)) fails in
      omega (arith, few)
]

pub few_arcs : (task : RouteTask) → 1 ≤ customers task → length (arcs_of task) ≤ (customers task + 1) * customers task
few_arcs task some =
    let size = length-flat_map (arcs_at task) (range_with_len 0 (customers task + 1)) in
    let most = sum_small (λ tail. length (arcs_at task tail)) (customers task) (range_with_len 0 (customers task + 1))
    (all_range (λ tail. length (arcs_at task tail) ≤ customers task) 0 (customers task + 1) (λ tail low high.
    let few = few_heads (customers task) tail some (omega (arith, high)) in
    omega (arith, few, length-map (heads_of (customers task) tail) (arc_of task tail)))) in
    let long = length-range_with_len 0 (customers task + 1) in
    let product = ap (λ (k : ℕ). k * customers task) long in
    omega (arith, size, most, product)
