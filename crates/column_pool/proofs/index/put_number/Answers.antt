use Rattle.std.proofs.Common.{◌≡◌, ℕ, ◌<◌, ◌==◌, ◌&&◌, Some, List, [], map, length, get_or, set, sym, ◌∙◌, ap, arith}
use Rattle.std.specs.Prelude.{if◌then◌else◌}
use Rattle.std.specs.BTreeMap.{insert_entry}
use Rattle.std.specs.Str.{bytes_eq}
use Rattle.std.proofs.lemmas.List.{get_or-map, length-map, map-set}
use Rattle.std.proofs.Math.Seq.{map-set_same}
use Rattle.column_pool.specs.Index.{Numbers, entries_of, number_in}
use Rattle.column_pool.proofs.IndexLemmas.{arc_order, number_put, on_err}
use Rattle.column_pool.proofs.index.put_number.Goals as goal

pub returns-in_err-insert-clause-err : goal.returns-in_err-insert-clause-err
returns-in_err-insert-clause-err c =
    on_err c.from_residual-in_err-insert.result _
    (map-set_same entries_of c.args.maps.now c.args.g c.insert.new.self c.index-maps-g.result c.in_err-insert.ensures.err)

pub returns-clause-ok : goal.returns-clause-ok
returns-clause-ok c = λ h path.
    let maps : List Numbers = map entries_of c.args.maps.now in
    let below : c.args.g < length maps = omega (arith, c.requires, length-map c.args.maps.now entries_of) in
    let here : entries_of (get_or c.args.maps.now c.args.g c.index-maps-g.result) ≡ get_or maps c.args.g [] = sym (get_or-map entries_of c.args.maps.now c.args.g c.index-maps-g.result [] c.requires) in
    let made : map entries_of (set c.args.maps.now c.args.g c.insert.new.self) ≡ set maps c.args.g (insert_entry arc_order (get_or maps c.args.g []) c.in_ok-key.key c.args.number) =
    map-set entries_of c.args.maps.now c.args.g c.insert.new.self
    ∙ ap (set maps c.args.g) (c.in_ok-insert.ensures.entries ∙ ap (λ (es : Numbers). insert_entry arc_order es c.in_ok-key.key c.args.number) here) in
    number_put maps _ c.args.g h c.args.number c.in_ok-key.key path below made
    ∙ ap (λ (arcs : List ℕ). if (h == c.args.g) && bytes_eq path arcs then Some c.args.number else number_in maps h path) c.in_ok-key.ensures.items
