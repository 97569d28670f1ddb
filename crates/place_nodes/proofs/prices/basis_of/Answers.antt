use Rattle.std.proofs.Common.{ℕ, List, All, sym, subst}
use Rattle.path_graph.specs.declared.set_bits.SetBits.{SetBits}
use Rattle.proof_check.specs.Keeps.{IsKnown}
use Rattle.place_nodes.proofs.NearLemmas.{lines_known}
use Rattle.place_nodes.proofs.prices.basis_of.Goals as goal

pub near_of-requires : goal.near_of-requires
near_of-requires c =
    let m = c.args.task.now.model.now in
    subst (λ (lines : List (ℕ × ℕ × SetBits)). All (IsKnown m) lines) (sym c.as_slice-2.ensures) (lines_known m c.args.lines c.requires.near)
