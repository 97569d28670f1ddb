use Rattle.std.proofs.lemmas.Bool.Decides.{Decides-eqb}
use Rattle.std.proofs.lemmas.Slice.Eq.{slice_eq-Decides}
use Rattle.concatenate.proofs.CostLemmas.{disjoint_from, disjoint_to}
use Rattle.concatenate.proofs.joins.are_disjoint.Goals as goal

pub returns : goal.returns
returns c =
    let a = c.args.a.now in
    let b = c.args.b.now in
    let same = slice_eq-Decides Decides-eqb c.meet.result.bits c.empty.result.bits c.eq.result c.eq.ensures in
    let meet = c.meet.ensures in
    let empty = c.empty.ensures in (
      λ h. disjoint_from a b c.meet.result c.empty.result meet.members empty.members (λ i. record { bits = same.0 h i }),
      λ h. same.1 (λ i. (disjoint_to a b c.meet.result c.empty.result meet.members meet.whole empty.members empty.whole h i).bits),
    )
