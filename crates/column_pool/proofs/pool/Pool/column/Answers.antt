use Rattle.std.proofs.Common.{◌≡◌, ◌+◌, List, length, sym, ◌∙◌, ap, subst, arith}
use Rattle.column_pool.specs.declared.kept.KeptWalk.{KeptWalk}
use Rattle.column_pool.specs.Columns.{column_of}
use Rattle.column_pool.specs.Walks.{IsKept, IsPoolOf, PoolParts, walk_at}
use Rattle.column_pool.proofs.pool.Pool.column.Goals as goal

pub returns : goal.returns
returns c = λ m of.
    let pool : IsPoolOf m _ = subst (IsPoolOf m) (sym c.self.view_is) of in
    let same : c.kept_at-walk.result.now ≡ walk_at c.args.self.now.walks c.args.i =
    c.kept_at-walk.ensures ∙ (ap (λ (walks : List KeptWalk). walk_at walks c.args.i) c.as_slice.ensures.value ∙ ap (λ (p : PoolParts). walk_at p.walks c.args.i) c.self.view_is) in
    let kept : IsKept m c.kept_at-walk.result.now = subst (IsKept m) (sym same) (of.walks c.args.i _ c.requires.walk) in
    let first : c.self.inside.vars + c.self.inside.rows + c.self.inside.sets ≡ length m.vars + length m.rows + m.sets = omega (arith, pool.vars, pool.rows, pool.sets) in
    c.in_ok-column.ensures m kept first ∙ ap (λ (w : KeptWalk). column_of m c.args.cuts.now w.graph w.arcs) same
