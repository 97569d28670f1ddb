use Rattle.std.proofs.Common.{◌≡◌, ℕ, ◌≤◌, ◌==◌, ◌&&◌, Some, List, [], ◌∷◌, ◌++◌, map, length, sym, ◌∙◌, ap, subst, arith}
use Rattle.std.specs.Prelude.{if◌then◌else◌}
use Rattle.std.specs.Str.{bytes_eq}
use Rattle.std.proofs.lemmas.List.{length-map}
use Rattle.route_model.specs.Parts.{graph_in}
use Rattle.column_pool.specs.declared.kept.KeptWalk.{KeptWalk}
use Rattle.column_pool.specs.Index.{IsSound, Numbers, entries_of, number_in}
use Rattle.column_pool.proofs.IndexLemmas.{sound_put}
use Rattle.column_pool.proofs.KeptLemmas.{visits_few}
use Rattle.column_pool.proofs.putting.put_walk.Goals as goal

pub returns-clause-sound : goal.returns-clause-sound
returns-clause-sound c =
    let maps : List Numbers = map entries_of c.args.maps.now in
    let new : List Numbers = map entries_of c.put_number.new.maps in
    let walks : List KeptWalk = c.args.walks.now.items in
    let kept : KeptWalk = c.in_ok-kept.kept in
    let graph : kept.graph ≡ c.args.g = c.in_ok-kept.ensures.graph in
    let arcs : kept.arcs ≡ c.args.arcs.now = c.in_ok-kept.ensures.arcs in
    let count : c.len-number.result ≡ length walks = omega (arith, c.len-number.ensures, c.args.walks.now.ok.0) in
    let put : (h : ℕ) (path : List ℕ) → number_in new h path ≡ (if (h == kept.graph) && bytes_eq path kept.arcs then Some (length walks) else number_in maps h path) =
    λ h path. c.in_ok-put_number.ensures.ok h path ∙ (λ i. if (h == sym graph i) && bytes_eq path (sym arcs i) then Some (count i) else number_in maps h path) in
    let short : length kept.visits ≤ 16777216 = omega (arith, ap length c.in_ok-kept.ensures.kept.visits, visits_few (graph_in c.args.model.now.graphs kept.graph) kept.arcs, c.in_ok-kept.ensures.kept.few_arcs) in
    subst (IsSound new) (sym (c.in_ok-push.ensures.items ∙ ap (λ (ws : List KeptWalk). ws ++ kept ∷ []) c.in_ok-reserve.ensures.items))
    (sound_put maps new walks kept c.requires.sound ((λ i. number_in maps (graph i) (arcs i)) ∙ c.requires.absent) put
    (omega (arith, length-map c.put_number.new.maps entries_of, length-map c.args.maps.now entries_of, c.put_number.auto.maps))
    (omega (arith, graph, c.requires.graph, c.requires.maps, length-map c.args.maps.now entries_of))
    (omega (arith, count)) short)
