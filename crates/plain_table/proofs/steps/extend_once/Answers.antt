use Rattle.std.proofs.Common.{◌≡◌, None, length, refl, sym, ap, ◌∙◌, subst, arith}
use Rattle.label_space.specs.Rules.{Fits}
use Rattle.label_core.specs.declared.table.Fate.TheVariants.{Void}
use Rattle.label_core.specs.declared.table.Entry.{Entry}
use Rattle.label_core.specs.Puts.{put}
use Rattle.plain_table.specs.Fillings.{Extending}
use Rattle.plain_table.proofs.Stepping.{notes}
use Rattle.plain_table.proofs.Choosing.{fits_longer, cell_room, fits_each, fits_each_read, few_read, notes_covered, stops, puts}
use Rattle.plain_table.proofs.steps.extend_once.Goals as goal

pub returns-in_default-clause-went : goal.returns-in_default-clause-went
returns-in_default-clause-went g c = λ _.
    let r = g.S.Space.rules c.args.space.now in
    let f = c.args.filling.now in
    let void : r.extend c.args.label (length c.args.fates.now.items) ≡ None = ap (λ k. r.extend c.args.label k) c.requires.next_choice ∙ sym c.in_default.ensures in
    subst (λ items. Extending r c.args.limit f.cells.items f.order.items f.next c.args.origin.parent c.args.label items) (sym c.in_ok-push.ensures.items)
    (notes r c.args.limit f.cells.items f.order.items f.next c.args.origin.parent c.args.label c.args.fates.now.items c.requires.filling Void void)

pub cell-cell-requires : goal.cell-cell-requires
cell-cell-requires g c =
    let f = c.args.filling.now in
    fits_longer (g.S.Space.rules c.args.space.now) (g.met.S.Space.lawful c.args.space.now) c.args.limit f.cells.items f.order.items f.next c.args.origin.parent c.args.label c.args.fates.now.items
    c.requires.filling c.args.origin.arc c.requires.next_choice c.requires.within c.in-Some.longer c.in-Some.ensures

pub index-requires : goal.index-requires
index-requires g c =
    let f = c.args.filling.now in
    let room = cell_room (g.S.Space.rules c.args.space.now) (g.met.S.Space.lawful c.args.space.now) c.args.limit f.cells.items f.order.items f.next c.args.origin.parent c.args.label c.args.fates.now.items
    c.requires.filling c.args.origin.arc c.requires.next_choice c.requires.within c.in-Some.longer c.in-Some.ensures c.cell-cell.result c.cell-cell.ensures in
    omega arith

pub kept_dominator-requires-clause-label : goal.kept_dominator-requires-clause-label
kept_dominator-requires-clause-label g c =
    let f = c.args.filling.now in
    fits_longer (g.S.Space.rules c.args.space.now) (g.met.S.Space.lawful c.args.space.now) c.args.limit f.cells.items f.order.items f.next c.args.origin.parent c.args.label c.args.fates.now.items
    c.requires.filling c.args.origin.arc c.requires.next_choice c.requires.within c.in-Some.longer c.in-Some.ensures

pub kept_dominator-requires-clause-each : goal.kept_dominator-requires-clause-each
kept_dominator-requires-clause-each g c =
    let f = c.args.filling.now in
    fits_each_read (g.S.Space.rules c.args.space.now) (g.met.S.Space.lawful c.args.space.now) c.args.limit f.cells.items f.order.items f.next c.args.origin.parent c.args.label c.args.fates.now.items
    c.requires.filling c.args.origin.arc c.requires.next_choice c.requires.within c.in-Some.longer c.in-Some.ensures c.cell-cell.result c.cell-cell.ensures c.index.result.now c.as_slice.result.now c.index.ensures c.as_slice.ensures

pub kept_dominator-requires-clause-few : goal.kept_dominator-requires-clause-few
kept_dominator-requires-clause-few g c =
    let f = c.args.filling.now in
    let few = few_read (g.S.Space.rules c.args.space.now) (g.met.S.Space.lawful c.args.space.now) c.args.limit f.cells.items f.order.items f.next c.args.origin.parent c.args.label c.args.fates.now.items
    c.requires.filling c.args.origin.arc c.requires.next_choice c.requires.within c.in-Some.longer c.in-Some.ensures c.cell-cell.result c.cell-cell.ensures c.index.result.now c.as_slice.result.now c.index.ensures c.as_slice.ensures in
    let limit = c.ranges.limit in
    omega arith

pub returns-in-Some-kept_dominator-clause-went : goal.returns-in-Some-kept_dominator-clause-went
returns-in-Some-kept_dominator-clause-went g c = λ _.
    let f = c.args.filling.now in
    notes_covered (g.S.Space.rules c.args.space.now) (g.met.S.Space.lawful c.args.space.now) c.args.limit f.cells.items f.order.items f.next c.args.origin.parent c.args.label c.args.fates.now.items
    c.requires.filling c.args.origin.arc c.requires.next_choice c.requires.within c.in-Some.longer c.in-Some.ensures c.cell-cell.result c.cell-cell.ensures c.index.result.now c.as_slice.result.now c.index.ensures c.as_slice.ensures
    c.in-Some-kept_dominator.index c.in-Some-kept_dominator.ensures c.push-in-Some-kept_dominator.new.self.items c.in_ok-push-2.ensures.items

pub returns-then-len-limit-clause-wall : goal.returns-then-len-limit-clause-wall
returns-then-len-limit-clause-wall g c = λ _.
    let f = c.args.filling.now in
    stops (g.S.Space.rules c.args.space.now) (g.met.S.Space.lawful c.args.space.now) c.args.limit f.cells.items f.order.items f.next c.args.origin.parent c.args.label c.args.fates.now.items
    c.requires.filling c.args.origin.arc c.requires.next_choice c.requires.within c.in-Some.longer c.in-Some.ensures c.cell-cell.result c.cell-cell.ensures c.index.result.now c.as_slice.result.now c.index.ensures c.as_slice.ensures
    c.in_default-kept_dominator.ensures (let n = c.len.ensures in omega arith)

pub put-requires-clause-cell : goal.put-requires-clause-cell
put-requires-clause-cell g c =
    let f = c.args.filling.now in
    cell_room (g.S.Space.rules c.args.space.now) (g.met.S.Space.lawful c.args.space.now) c.args.limit f.cells.items f.order.items f.next c.args.origin.parent c.args.label c.args.fates.now.items
    c.requires.filling c.args.origin.arc c.requires.next_choice c.requires.within c.in-Some.longer c.in-Some.ensures c.cell-cell.result c.cell-cell.ensures

pub put-requires-clause-label : goal.put-requires-clause-label
put-requires-clause-label g c =
    let f = c.args.filling.now in
    subst (λ (e : Entry g.row.S-Label.Denot). Fits (g.S.Space.rules c.args.space.now) e.label) (sym c.child.ensures) (fits_longer (g.S.Space.rules c.args.space.now) (g.met.S.Space.lawful c.args.space.now) c.args.limit f.cells.items f.order.items f.next c.args.origin.parent c.args.label c.args.fates.now.items
    c.requires.filling c.args.origin.arc c.requires.next_choice c.requires.within c.in-Some.longer c.in-Some.ensures)

pub put-requires-clause-each : goal.put-requires-clause-each
put-requires-clause-each g c =
    let f = c.args.filling.now in
    fits_each (g.S.Space.rules c.args.space.now) (g.met.S.Space.lawful c.args.space.now) c.args.limit f.cells.items f.order.items f.next c.args.origin.parent c.args.label c.args.fates.now.items
    c.requires.filling c.args.origin.arc c.requires.next_choice c.requires.within c.in-Some.longer c.in-Some.ensures c.cell-cell.result c.cell-cell.ensures

pub returns-clause-went : goal.returns-clause-went
returns-clause-went g c = λ _.
    let f = c.args.filling.now in
    puts (g.S.Space.rules c.args.space.now) (g.met.S.Space.lawful c.args.space.now) c.args.limit f.cells.items f.order.items f.next c.args.origin.parent c.args.label c.args.fates.now.items
    c.requires.filling c.args.origin.arc c.requires.next_choice c.requires.within c.in-Some.longer c.in-Some.ensures c.cell-cell.result c.cell-cell.ensures c.index.result.now c.as_slice.result.now c.index.ensures c.as_slice.ensures
    c.in_default-kept_dominator.ensures (let n = c.len.ensures in omega arith) c.args.origin refl refl c.put.new.filling.cells.items
    (c.in_ok-place.ensures.cells ∙ ap (λ e. put (g.S.Space.rules c.args.space.now) f.cells.items c.cell-cell.result e) c.child.ensures)
    c.in_ok-place.place c.in_ok-place.ensures.place c.put.new.filling.order.items c.in_ok-place.ensures.order c.put.new.filling.next c.in_ok-place.ensures.next
    c.push-2.new.self.items c.in_ok-push-3.ensures.items
