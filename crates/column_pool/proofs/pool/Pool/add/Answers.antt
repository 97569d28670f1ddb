use Rattle.std.proofs.Common.{◌≡◌, Some, List, ◌++◌, All, map, length, take, drop, sym, ◌∙◌, ap, subst, arith}
use Rattle.std.proofs.lemmas.List.Elements.{All-push}
use Rattle.column_pool.specs.declared.pool.Known.TheVariants.{Had}
use Rattle.column_pool.specs.Changes.{IsLonger}
use Rattle.column_pool.specs.Index.{Numbers, entries_of, number_in}
use Rattle.column_pool.specs.Walks.{IsKept, IsNumbered, IsPoolOf, PoolParts}
use Rattle.column_pool.proofs.CountLemmas.{whole_slice}
use Rattle.column_pool.proofs.IndexLemmas.{had_exactly}
use Rattle.column_pool.proofs.pool.Pool.add.Goals as goal

pub returns-in-Some-clause-had : goal.returns-in-Some-clause-had
returns-in-Some-clause-had c =
    let maps : List Numbers = map entries_of c.self.inside.maps.items in
    let found : number_in maps c.args.g c.args.arcs.now ≡ Some c.in-Some.number =
    sym (c.in-Some.ensures ∙ ap (λ ms. number_in (map entries_of ms) c.args.g c.args.arcs.now) c.as_slice.ensures.value) in
    λ number. subst (λ (pool : PoolParts). (Had c.in-Some.number ≡ Had number → IsNumbered pool.walks number c.args.g c.args.arcs.now) × (IsNumbered pool.walks number c.args.g c.args.arcs.now → Had c.in-Some.number ≡ Had number)) c.self.view_is
    (had_exactly maps c.self.inside.walks.items c.in-Some.number number c.args.g c.args.arcs.now c.self.invariant.index found)

pub returns-clause-adds : goal.returns-clause-adds
returns-clause-adds c =
    let put = c.in-Ok.ensures.put in
    let inside = c.self.inside in
    let new = c.put_walk-put.new.maps in
    let same : length new ≡ length inside.maps.items = omega (arith, c.put_walk-put.auto.maps, ap length c.deref_mut.ensures.value) in
    let count : inside.maps.len ≡ length inside.maps.items = omega (arith, inside.maps.ok.0) in
    let graphs : length (take inside.maps.len (new ++ drop (length new) inside.maps.items)) ≡ length inside.maps.items =
    ap length (whole_slice new inside.maps.items inside.maps.len (omega (arith, same, count)) (omega (arith, count))) ∙ same in
    let next : PoolParts = record {
      vars = inside.vars;
      rows = inside.rows;
      sets = inside.sets;
      graphs = length (take inside.maps.len (new ++ drop (length new) inside.maps.items));
      walks = c.put_walk-put.new.walks.items;
    } in
    subst (λ (old : PoolParts). IsLonger old next c.args.g c.args.arcs.now c.in-Ok.number) c.self.view_is
    (record {
      last = put.last;
      graph = put.graph;
      arcs = put.arcs;
      walks = λ i. record { vars = inside.vars; rows = inside.rows; sets = inside.sets; graphs = graphs i; walks = put.walks i };
      numbered = put.numbered;
    })

pub returns-clause-model : goal.returns-clause-model
returns-clause-model c =
    let put = c.in-Ok.ensures.put in
    let inside = c.self.inside in
    let new = c.put_walk-put.new.maps in
    let same : length new ≡ length inside.maps.items = omega (arith, c.put_walk-put.auto.maps, ap length c.deref_mut.ensures.value) in
    let count : inside.maps.len ≡ length inside.maps.items = omega (arith, inside.maps.ok.0) in
    let graphs : length (take inside.maps.len (new ++ drop (length new) inside.maps.items)) ≡ length inside.maps.items =
    ap length (whole_slice new inside.maps.items inside.maps.len (omega (arith, same, count)) (omega (arith, count))) ∙ same in
    let of : IsPoolOf c.args.model.now _ = subst (IsPoolOf c.args.model.now) (sym c.self.view_is) c.requires.model in
    record { vars = of.vars; rows = of.rows; sets = of.sets; graphs = graphs ∙ of.graphs; walks = subst (All (IsKept c.args.model.now)) (sym put.walks) (All-push (IsKept c.args.model.now) _ put.last of.walks put.kept) }
