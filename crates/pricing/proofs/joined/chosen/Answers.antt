use Rattle.std.proofs.Common.{arith, List, ℕ, ◌≢◌, ◌∙◌, ap, sym, subst, refl, All, ◌<◌}
use Rattle.path_graph.specs.Walk.{GraphParts, IsFeasibleWalk}
use Rattle.route_model.specs.declared.plan.Taken.{Taken}
use Rattle.route_labels.specs.Meaning.{setting_of}
use Rattle.pricing.specs.JoinedWalks.{AreTakenOnce}
use Rattle.pricing.proofs.JoinedLemmas.{taken_more}
use Rattle.pricing.proofs.joined.chosen.Goals as goal
use Rattle.pricing.proofs.joined.chosen.Goals.{then-is_wanted+in_ok-push, else-is_wanted}

pub loop-join-preserved : goal.loop-join-preserved
loop-join-preserved c =
    let G = (setting_of c.args.field.now).graph in
    let N = c.args.field.now.graph in
    let old = c.loop-join.walks.items in
    elim c.if-is_wanted.branch [
      | then-is_wanted+in_ok-push w ↦
          let feasible = c.is_wanted.ensures.walk w.if-is_wanted.true in
          let new = c.is_wanted.ensures.other w.if-is_wanted.true in
          subst (AreTakenOnce G N c.args.k) (sym (ap (λ v. v.items) w.walks-is ∙ w.in_ok-push.ensures.items))
          (taken_more G N c.args.k old _ c.loop-join.invariant (omega (arith, c.len.ensures, c.if-len-k.false))
          (record {
            graph = refl;
            once = refl;
            feasible = subst (λ (arcs : List ℕ). IsFeasibleWalk G arcs) c.as_slice-in-loop-join.ensures (subst (λ (g : GraphParts). IsFeasibleWalk g c.as_slice-in-loop-join.result.now) c.path_graph-graph.ensures.graph feasible);
          })
          (subst (λ (arcs : List ℕ). All (λ (t : Taken). t.arcs ≢ arcs) old) c.as_slice-in-loop-join.ensures
          (subst (λ (ts : List Taken). All (λ (t : Taken). t.arcs ≢ c.as_slice-in-loop-join.result.now) ts) c.as_slice.ensures.value new)))
      | else-is_wanted w ↦ subst (AreTakenOnce G N c.args.k) (sym (ap (λ v. v.items) w.walks-is)) c.loop-join.invariant
    ]
