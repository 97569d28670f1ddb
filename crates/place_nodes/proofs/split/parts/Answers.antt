use Rattle.std.proofs.Common.{◌≡◌, List, w64, to_z, of_z, subst, rules}
use Rattle.std.specs.Prelude.{IfOk, reverse}
use Rattle.std.specs.declared.alloc.Global.{Global}
use Rattle.std.specs.declared.vec.Vec.{Vec}
use Rattle.std.proofs.lemmas.Int.{to_z-of_z}
use Rattle.proof_rules.specs.OpenTrees.{Valued}
use Rattle.search_tree.specs.declared.places.OpenPlace.{OpenPlace}
use Rattle.search_tree.specs.Places.{all_valued}
use Rattle.place_nodes.proofs.SplitLemmas.{parts_are}
use Rattle.place_nodes.proofs.split.parts.Goals as goal

pub returns : goal.returns
returns c =
    let spot = c.args.spot.now in
    let split = c.args.split in
    let are =
    parts_are spot split c.box_of-span.result c.low_of.result c.high_of.result (to_z w64 (of_z w64 split.at)) c.in_ok-below.below c.in_ok-above.above (to_z w64 (of_z w64 c.args.value)) c.args.value c.box_of-span.ensures (to_z-of_z w64 split.at (search rules))
    c.low_of.ensures c.high_of.ensures c.in_ok-below.ensures c.in_ok-above.ensures (to_z-of_z w64 c.args.value c.ranges.value) in
    subst (λ (wanted : List Valued). IfOk c.both_open.result (λ (opened : Vec OpenPlace Global). all_valued (reverse opened.items) ≡ wanted)) are c.both_open.ensures
