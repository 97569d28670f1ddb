use Rattle.std.proofs.Common.{◌≡◌, ◌+◌, ◌-◌, ◌++◌, List, map, ap, sym, ◌∙◌, arith, ℕ}
use Rattle.std.specs.List.{range_with_len}
use Rattle.std.proofs.lemmas.List.{append-nil}
use Rattle.route_model.specs.declared.parts.Var.{Var}
use Rattle.route_tasks.specs.Places.{customers}
use Rattle.route_tasks.specs.ModelOf.{var_of}
use Rattle.route_tasks.proofs.RangeLemmas.{pushed}
use Rattle.route_tasks.proofs.rows.push_vars.Goals as goal

nothing : (vars : List Var) (f : ℕ → Var) (a b : ℕ) → b ≡ 0 → vars ≡ vars ++ map f (range_with_len a b)
nothing vars f a b none = sym (ap (λ n. vars ++ map f (range_with_len a n)) none ∙ append-nil vars)

pub loop-high-init : goal.loop-high-init
loop-high-init c = nothing c.args.vars.now (var_of c.args.task.now c.args.low) (c.args.low + 1) (c.args.low + 1 - (c.args.low + 1)) (omega arith)

pub loop-high-preserved : goal.loop-high-preserved
loop-high-preserved c =
    pushed (var_of c.args.task.now c.args.low) c.args.vars.now c.loop-high.vars c.push.new.self (c.args.low + 1) c.loop-high.high c.var.result
    c.loop-high.auto.high c.loop-high.invariant c.in_ok-push.ensures.ok c.var.ensures

pub returns : goal.returns
returns c =
    let n = customers c.args.task.now in
    let count = c.customer_count-high-end.ensures.count in
    let over = c.loop-high.auto.high-end in
    let size : c.loop-high.high - (c.args.low + 1) ≡ n - c.args.low = omega (arith, count, over) in
    c.loop-high.invariant ∙ ap (λ m. c.args.vars.now ++ map (var_of c.args.task.now c.args.low) (range_with_len (c.args.low + 1) m)) size
