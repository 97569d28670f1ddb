-- Signed sums over the paths of a plan are linear, and sums of multiples change places with them: all that follows on
-- multipliers rests on `plan_sum-over` and `plan_sum-below`.
use Rattle.std.proofs.Common.{◌≡◌, ℕ, suc, ◌*◌, ℤ, pos, ◌+ℤ◌, ◌*ℤ◌, ◌≤ℤ◌, List, [], ◌∷◌, length, map, refl, sym, ◌∙◌, ap, arith}
use Rattle.std.proofs.lemmas.Int.{ints}
use Rattle.std.proofs.lemmas.List.Sums.{sum_by-cons}
use Rattle.std.specs.List.{range_with_len}
use Rattle.path_graph.specs.First.{EachBelow}
use Rattle.path_graph.specs.Sums.{sum_below, sum_over}
use Rattle.path_graph.proofs.IntLemmas.{mul_z-add, mul_z_left_comm, pos_mul-≤, add_le}
use Rattle.path_graph.proofs.SumLemmas.{sum_below-is, sum_over-add, sum_over-exchange, sum_over-range, sum_over-same, sum_over-scale}
use Rattle.route_model.specs.declared.plan.Plan.{Plan}
use Rattle.route_model.specs.declared.plan.Taken.{Taken}
use Rattle.route_model.specs.Parts.{plan_with, taken_at}
use Rattle.route_model.specs.Quantities.{quantity}
use Rattle.multipliers.specs.Quantities.{plan_sum}

pub plan_sum-scale : (k : ℤ) (f : ℕ → List ℕ → ℤ) (plan : Plan) → plan_sum (λ g arcs. k *ℤ f g arcs) plan ≡ k *ℤ plan_sum f plan
plan_sum-scale k f plan =
    sum_over-same (λ (t : Taken). pos t.count *ℤ (k *ℤ f t.graph t.arcs)) (λ (t : Taken). k *ℤ (pos t.count *ℤ f t.graph t.arcs)) plan.paths (λ t. mul_z_left_comm (pos t.count) k (f t.graph t.arcs))
    ∙ sum_over-scale k (λ (t : Taken). pos t.count *ℤ f t.graph t.arcs) plan.paths

pub plan_sum-add : (f h : ℕ → List ℕ → ℤ) (plan : Plan) → plan_sum (λ g arcs. f g arcs +ℤ h g arcs) plan ≡ plan_sum f plan +ℤ plan_sum h plan
plan_sum-add f h plan =
    sum_over-same (λ (t : Taken). pos t.count *ℤ (f t.graph t.arcs +ℤ h t.graph t.arcs)) (λ (t : Taken). pos t.count *ℤ f t.graph t.arcs +ℤ pos t.count *ℤ h t.graph t.arcs) plan.paths (λ t. mul_z-add (pos t.count) (f t.graph t.arcs) (h t.graph t.arcs))
    ∙ sum_over-add (λ (t : Taken). pos t.count *ℤ f t.graph t.arcs) (λ (t : Taken). pos t.count *ℤ h t.graph t.arcs) plan.paths

-- multiples of sums over a plan, one for each item of a list, add up to one such sum
pub plan_sum-over : {Y : Type 0} (a : Y → ℤ) (f : Y → ℕ → List ℕ → ℤ) (ys : List Y) (plan : Plan) → sum_over (λ y. a y *ℤ plan_sum (f y) plan) ys ≡ plan_sum (λ g arcs. sum_over (λ y. a y *ℤ f y g arcs) ys) plan
plan_sum-over {Y} a f ys plan = sum_over-exchange a (λ (t : Taken). pos t.count) (λ (y : Y) (t : Taken). f y t.graph t.arcs) ys plan.paths

-- the same, one for each number below a number
pub plan_sum-below : (a : ℕ → ℤ) (f : ℕ → ℕ → List ℕ → ℤ) (n : ℕ) (plan : Plan) → sum_below n (λ j. a j *ℤ plan_sum (f j) plan) ≡ plan_sum (λ g arcs. sum_below n (λ j. a j *ℤ f j g arcs)) plan
plan_sum-below a f n plan =
    sum_below-is (λ j. a j *ℤ plan_sum (f j) plan) n
    ∙ (plan_sum-over a f (map (λ k. k) (range_with_len 0 n)) plan
    ∙ (λ i. plan_sum (λ g arcs. sum_over-range (λ k. k) (λ j. a j *ℤ f j g arcs) n i) plan))

-- a quantity that is not negative
pub plan_sum-pos : (f : ℕ → List ℕ → ℕ) (plan : Plan) → plan_sum (λ g arcs. pos (f g arcs)) plan ≡ pos (quantity f plan)
plan_sum-pos f plan = over plan.paths
  where
    over : (ts : List Taken) → plan_sum (λ g arcs. pos (f g arcs)) (plan_with ts) ≡ pos (quantity f (plan_with ts))
    over [] = refl
    over (t ∷ ts) = ap (λ (z : ℤ). pos (t.count * f t.graph t.arcs) +ℤ z) (over ts) ∙ sym (ap pos (sum_by-cons (λ (s : Taken). s.count * f s.graph s.arcs) t ts))

-- what is equal, or no greater, on each walk of a plan is so on the plan
pub plan_sum-same : (f h : ℕ → List ℕ → ℤ) (plan : Plan) → EachBelow (length plan.paths) (λ i. f (taken_at plan.paths i).graph (taken_at plan.paths i).arcs ≡ h (taken_at plan.paths i).graph (taken_at plan.paths i).arcs) → plan_sum f plan ≡ plan_sum h plan
plan_sum-same f h plan each = over plan.paths each
  where
    over : (ts : List Taken) → EachBelow (length ts) (λ i. f (taken_at ts i).graph (taken_at ts i).arcs ≡ h (taken_at ts i).graph (taken_at ts i).arcs) → plan_sum f (plan_with ts) ≡ plan_sum h (plan_with ts)
    over [] same = refl
    over (t ∷ ts) same = λ i. pos t.count *ℤ same 0 (omega arith) i +ℤ over ts (λ k l. same (suc k) (omega arith)) i

pub plan_sum-≤ : (f h : ℕ → List ℕ → ℤ) (plan : Plan) → EachBelow (length plan.paths) (λ i. f (taken_at plan.paths i).graph (taken_at plan.paths i).arcs ≤ℤ h (taken_at plan.paths i).graph (taken_at plan.paths i).arcs) → plan_sum f plan ≤ℤ plan_sum h plan
plan_sum-≤ f h plan each = over plan.paths each
  where
    over : (ts : List Taken) → EachBelow (length ts) (λ i. f (taken_at ts i).graph (taken_at ts i).arcs ≤ℤ h (taken_at ts i).graph (taken_at ts i).arcs) → plan_sum f (plan_with ts) ≤ℤ plan_sum h (plan_with ts)
    over [] less = omega (arith, ints)
    over (t ∷ ts) less =
        add_le (pos t.count *ℤ f t.graph t.arcs) (pos t.count *ℤ h t.graph t.arcs) (plan_sum f (plan_with ts)) (plan_sum h (plan_with ts))
        (pos_mul-≤ t.count (f t.graph t.arcs) (h t.graph t.arcs) (less 0 (omega arith)))
        (over ts (λ k l. less (suc k) (omega arith)))
