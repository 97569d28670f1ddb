use Rattle.std.proofs.Common.{◌≡◌, ◌++◌, ◌∷◌, [], Bool, true, false, cond, sym, ap, ◌∙◌, arith, rules, ◌≤◌}
use Rattle.std.proofs.lemmas.List.{append-nil}
use Rattle.vrp_demo.specs.declared.arcs.Pair.{Pair}
use Rattle.vrp_demo.specs.Arcs.{is_arc}
use Rattle.vrp_demo.proofs.PairLemmas.{head_passed}
use Rattle.vrp_demo.proofs.arcs.push_pairs.Goals as goal
use Rattle.vrp_demo.proofs.arcs.push_pairs.Goals.{then-is_arc+in_ok-push, else-is_arc}

pub loop-head-preserved : goal.loop-head-preserved
loop-head-preserved c =
    let size = c.args.size in
    let tail = c.args.tail in
    let head = c.loop-head.head in
    let pair : Pair = record { tail = tail; head = head } in
    let some : 1 ≤ head = omega arith in
    elim c.if-is_arc.branch [
      | then-is_arc+in_ok-push w ↦
          let here : is_arc size tail head ≡ true = search rules in
          head_passed size tail head _ _ _ some c.loop-head.invariant
          (w.pairs-is ∙ (w.in_ok-push.ensures.ok ∙ ap (λ (b : Bool). c.loop-head.pairs ++ cond b (pair ∷ []) []) (sym here)))
      | else-is_arc w ↦
          let here : is_arc size tail head ≡ false = search rules in
          head_passed size tail head _ _ _ some c.loop-head.invariant
          (w.pairs-is ∙ (sym (append-nil c.loop-head.pairs) ∙ ap (λ (b : Bool). c.loop-head.pairs ++ cond b (pair ∷ []) []) (sym here)))
    ]
