use Rattle.std.proofs.Common.{◌≡◌, ℤ, pos, ◌-ℤ◌, FitsSigned, Some, w64, to_z, of_z, sym, ap, subst, ◌∙◌, rules, arith}
use Rattle.std.specs.Int.{w128}
use Rattle.std.proofs.lemmas.Int.{ints, to_z-of_z}
use Rattle.proof_rules.specs.OpenTrees.{raised}
use Rattle.proof_rules.proofs.OpenTreeLemmas.{rounded_up_law}
use Rattle.place_nodes.specs.Bounds.{IsOpenBound}
use Rattle.place_nodes.proofs.SplitLemmas.{split_cut_off, split_node}
use Rattle.place_nodes.proofs.split.split_node.Goals as goal

pub raised-requires : goal.raised-requires
raised-requires c =
    let t = c.args.task.now in
    let b : ℤ = to_z w128 (of_z w128 c.args.bound) in
    let open_b : IsOpenBound t c.args.known b = subst (IsOpenBound t c.args.known) (sym (to_z-of_z w128 c.args.bound c.ranges.bound)) c.requires.bound in
    let fits : FitsSigned w64 t.z = search rules in
    let less = rounded_up_law b (t.z -ℤ pos 1) open_b.below in
    omega (arith, ints, less, fits)

pub returns-in-Ok-clause-priced : goal.returns-in-Ok-clause-priced
returns-in-Ok-clause-priced c =
    let t = c.args.task.now in
    let k = c.args.known in
    let b : ℤ = to_z w128 (of_z w128 c.args.bound) in
    let v : ℤ = to_z w64 (of_z w64 c.raised.result) in
    let open_b : IsOpenBound t k b = subst (IsOpenBound t k) (sym (to_z-of_z w128 c.args.bound c.ranges.bound)) c.requires.bound in
    let is : v ≡ raised t.value (Some b) = to_z-of_z w64 c.raised.result (search rules) ∙ (c.raised.ensures ∙ ap (λ (x : ℤ). raised x (Some b)) (to_z-of_z w64 t.value (search rules))) in
    split_node t c.args.split c.requires.task c.requires.split k b c.requires.known open_b v c.in-Ok.opened.items is c.in-Ok.ensures

pub returns-in-Ok-clause-cut_off : goal.returns-in-Ok-clause-cut_off
returns-in-Ok-clause-cut_off c cut_off =
    let t = c.args.task.now in
    let k = c.args.known in
    let b : ℤ = to_z w128 (of_z w128 c.args.bound) in
    let v : ℤ = to_z w64 (of_z w64 c.raised.result) in
    let open_b : IsOpenBound t k b = subst (IsOpenBound t k) (sym (to_z-of_z w128 c.args.bound c.ranges.bound)) c.requires.bound in
    let is : v ≡ raised t.value (Some b) = to_z-of_z w64 c.raised.result (search rules) ∙ (c.raised.ensures ∙ ap (λ (x : ℤ). raised x (Some b)) (to_z-of_z w64 t.value (search rules))) in
    split_cut_off t c.args.split c.requires.task c.requires.split k b c.requires.known open_b c.in-Ok.opened.items
    (split_node t c.args.split c.requires.task c.requires.split k b c.requires.known open_b v c.in-Ok.opened.items is c.in-Ok.ensures) cut_off
