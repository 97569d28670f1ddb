use Rattle.std.proofs.Common.{◌≤◌, ℤ, rules, sym, ◌∙◌, subst, arith}
use Rattle.std.specs.Int.{w64}
use Rattle.std.proofs.lemmas.Int.{to_z-of_z}
use Rattle.walk_list.specs.Listings.{AreComplete, AreCutOff, IsProofWith}
use Rattle.walk_list.proofs.TaskLemmas.{complete_is, cut_off_is, lines_are}
use Rattle.walk_list.proofs.listing.list_walks.Goals as goal

pub returns-then-whole : goal.returns-then-whole
returns-then-whole c =
    let told = to_z-of_z w64 c.args.z (search rules) in
    let whole = rw c.if-whole.true at c.in-Ok.ensures.whole in
    record {
      trees = subst (λ (z : ℤ). AreComplete c.args.model.now c.args.spot.now (IsProofWith c.args.model.now c.args.spot.now c.args.priced.now c.args.near.now c.args.cuts.now c.args.y.now c.args.tables.now) z c.in-Ok.tries) told
          (complete_is _ c.args.limit c.in-Ok.tries c.requires whole);
      few = omega (arith, lines_are c.in-Ok.tries, whole.lines);
    }

pub returns-else-whole : goal.returns-else-whole
returns-else-whole c =
    let told = to_z-of_z w64 c.args.z (search rules) in
    let full = rw c.if-whole.false at c.in-Ok.ensures.full in
    record {
      trees = subst (λ (z : ℤ). AreCutOff c.args.model.now c.args.spot.now (IsProofWith c.args.model.now c.args.spot.now c.args.priced.now c.args.near.now c.args.cuts.now c.args.y.now c.args.tables.now) z c.args.limit c.in-Ok.tries) told
          (cut_off_is _ c.args.limit c.in-Ok.tries c.requires full);
      few = omega (arith, lines_are c.in-Ok.tries, full.lines);
    }
