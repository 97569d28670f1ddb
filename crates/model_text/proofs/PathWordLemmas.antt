-- The words of a path, which are read one after the other, and the counts of graphs that are kept beside them.
use Rattle.std.proofs.Common.{◌≡◌, ℕ, ◌+◌, ◌*◌, ◌≤◌, Bool, true, false, refl, ap, subst, ◌∙◌, arith, mul-one, mul-zero, cond, Some}
use Rattle.std.specs.Prelude.{◌==◌, nat_lt, unwrap_or}
use Rattle.std.specs.declared.cmp.Ordering.TheVariants.{Less, Equal, Greater}
use Rattle.std.specs.BTreeMap.{BTreeMap, get, Updates}
use Rattle.std.specs.Map.{count_at}
use Rattle.std.specs.Ordering.{nat_cmp, is_eq}
use Rattle.std.proofs.lemmas.List.Sums.{sum_by_push}
use Rattle.std.proofs.lemmas.Bool.Decides.{nat_tests}
use Rattle.route_model.specs.declared.plan.Taken.{Taken}
use Rattle.route_model.specs.declared.plan.Plan.{Plan}
use Rattle.route_model.specs.Quantities.{paths_of, is_of}
use Rattle.route_model.specs.Tidy.{AreFew}
use Rattle.model_text.specs.PathFault.{with_path}
use Rattle.model_text.specs.PathCounts.{AreCounts}

-- the counts with one more path
paths_of_push : (plan : Plan) (t : Taken) (g : ℕ) → paths_of (with_path plan t) g ≡ paths_of plan g + t.count * is_of g t.graph t.arcs
paths_of_push plan t g = sum_by_push (λ (u : Taken). u.count * is_of g u.graph u.arcs) plan.paths t

is_of_own : (t : Taken) → is_of t.graph t.graph t.arcs ≡ 1
is_of_own t = grind (arith, nat_tests)

pub paths_of-same : (plan : Plan) (t : Taken) → paths_of (with_path plan t) t.graph ≡ paths_of plan t.graph + t.count
paths_of-same plan t =
    let one = ap (λ n. t.count * n) (is_of_own t) ∙ mul-one t.count in
    paths_of_push plan t t.graph ∙ ap (λ n. paths_of plan t.graph + n) one

pub paths_of-other : (plan : Plan) (t : Taken) (g : ℕ) → (t.graph == g) ≡ false → paths_of (with_path plan t) g ≡ paths_of plan g
paths_of-other plan t g other =
    let none : is_of g t.graph t.arcs ≡ 0 = rw other refl in
    let zero_count : t.count * is_of g t.graph t.arcs ≡ 0 = ap (λ n. t.count * n) none ∙ mul-zero t.count in
    omega (arith, paths_of_push plan t g, zero_count)

-- one more path of a graph that has room for it
pub few_push : (plan : Plan) (t : Taken) → AreFew plan → paths_of plan t.graph + t.count ≤ 4096 → AreFew (with_path plan t)
few_push plan t few room g = by_test (t.graph == g) refl
  where
    by_test : (b : Bool) → (t.graph == g) ≡ b → paths_of (with_path plan t) g ≤ 4096
    by_test true is =
        let same : t.graph ≡ g = grind (arith, nat_tests, is) in
        let own : paths_of (with_path plan t) t.graph ≤ 4096 = rw (paths_of-same plan t) room in
        subst (λ h. paths_of (with_path plan t) h ≤ 4096) same own
    by_test false is =
        let limit = few g in
        rw (paths_of-other plan t g is) limit

is_apart : (k q : ℕ) → (k == q) ≡ false → is_eq (nat_cmp k q) ≡ false
is_apart k q other = by_test (nat_lt k q)
  where
    by_test : (b : Bool) → is_eq (cond b Less (cond (k == q) Equal Greater)) ≡ false
    by_test true = refl
    by_test false = rw other refl

pub counts_more : (old new : BTreeMap ℕ ℕ) (plan : Plan) (t : Taken) → AreCounts old plan → Updates nat_cmp old new t.graph (Some (count_at (get nat_cmp old) t.graph + t.count)) → count_at (get nat_cmp old) t.graph + t.count ≤ 4096 → AreCounts new (with_path plan t)
counts_more old new plan t are updates few =
    let sum = are.sums t.graph in
    let room : paths_of plan t.graph + t.count ≤ 4096 = omega (arith, few, sum) in
    record { sums = λ g. at g (t.graph == g) refl; few = few_push plan t are.few room }
  where
    own : count_at (get nat_cmp new) t.graph ≡ paths_of (with_path plan t) t.graph
    own =
        let sum = are.sums t.graph in
        let more = paths_of-same plan t in
        let here : count_at (get nat_cmp new) t.graph ≡ count_at (get nat_cmp old) t.graph + t.count = ap (λ o. unwrap_or o 0) updates.1 in
        omega (arith, here, sum, more)

    at : (g : ℕ) (b : Bool) → (t.graph == g) ≡ b → count_at (get nat_cmp new) g ≡ paths_of (with_path plan t) g
    at g true is =
        let same : t.graph ≡ g = grind (arith, nat_tests, is) in
        subst (λ h. count_at (get nat_cmp new) h ≡ paths_of (with_path plan t) h) same own
    at g false is =
        let kept = ap (λ o. unwrap_or o 0) (updates.2 g (is_apart t.graph g is)) in
        let sum = are.sums g in
        let more = paths_of-other plan t g is in
        omega (arith, kept, sum, more)
