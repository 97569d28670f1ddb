use Rattle.std.proofs.Common.{◌++◌, ◌∷◌, [], take, get_or, sym, ap, ◌∙◌, arith}
use Rattle.std.proofs.lemmas.List.{take_more}
use Rattle.label_core.proofs.copies.ListTryCopy.try_copy.Goals as goal

pub loop-i-preserved : goal.loop-i-preserved
loop-i-preserved g c =
    let item = c.at.result.now in
    let size = c.len-i-end.ensures in
    let below = c.loop-i-test.true in
    c.in_ok-push.ensures.items ∙ ap (λ xs. xs ++ c.in_ok-try_copy.field-0 ∷ []) c.loop-i.invariant
    ∙ ap (λ x. take c.loop-i.i c.args.self.now ++ x ∷ []) (c.in_ok-try_copy.ensures ∙ sym (c.at.ensures item))
    ∙ sym (take_more c.args.self.now c.loop-i.i item (omega arith))
