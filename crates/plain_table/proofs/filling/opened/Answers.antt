use Rattle.std.proofs.Common.{◌∙◌, ◌++◌, ◌∷◌, [], sym, ap, subst}
use Rattle.label_space.specs.Rules.{Fits}
use Rattle.label_core.specs.Tables.{place}
use Rattle.plain_table.proofs.Ending.{opens_as}
use Rattle.plain_table.proofs.filling.opened.Goals as goal

pub cell-cell-requires : goal.cell-cell-requires
cell-cell-requires g c = subst (λ l. Fits (g.S.Space.rules c.args.space.now) l) (sym c.root-root.ensures) (g.met.S.Space.lawful c.args.space.now).root_fits

pub returns : goal.returns
returns g c =
    opens_as (g.S.Space.rules c.args.space.now) (g.met.S.Space.lawful c.args.space.now) c.args.limit c.requires
    c.root-root.result c.root-root.ensures c.cell-cell.result c.cell-cell.ensures c.cells.result c.cells.ensures
    c.in_ok-cells.cells.items c.in_ok-cells.ensures c.in_ok-cells-2.field-0 c.in_ok-cells-2.ensures c.push.new.self.items
    (c.in_ok-push.ensures.items ∙ ap (λ order. order ++ place c.cell-cell.result 0 ∷ []) c.new-order.ensures.items)
