use Rattle.std.proofs.Common.{◌≡◌, set, ap, ◌∙◌, arith}
use Rattle.label_core.proofs.Lookup.{within_is_there}
use Rattle.label_core.specs.declared.machine.PassState.{PassState}
use Rattle.label_core.specs.Passes.{joined, ended_pass}
use Rattle.label_core.proofs.MachineLists.{read_here, read_apart, set_swap}
use Rattle.label_core.proofs.passes.join_two.Goals as goal

pub take_over-requires : goal.take_over-requires
take_over-requires c =
    let l = c.args.passes.items in
    let s = within_is_there l c.args.p (omega arith) in
    let u = within_is_there l c.args.q (omega arith) in
    let a = read_apart l c.args.p c.args.q s.0 c.replace-other.new.dest c.index_mut-2.result.now c.requires.apart s.1 c.index_mut-2.ensures.value in
    let b = c.replace-other.ensures.value ∙ read_here l c.args.q u.0 c.index_mut.result.now u.1 c.index_mut.ensures.value in
    let w = c.requires.weights s.0 u.0 s.1 u.1 in
    let e : c.index_mut-2.result.now.weight ≡ s.0.weight = ap (λ (z : PassState). z.weight) a in
    let f : c.replace-other.result.weight ≡ u.0.weight = ap (λ (z : PassState). z.weight) b in
    record { weight = omega arith }

pub returns : goal.returns
returns c = λ s u at other.
    let l = c.args.passes.items in
    let a = read_apart l c.args.p c.args.q s c.replace-other.new.dest c.index_mut-2.result.now c.requires.apart at c.index_mut-2.ensures.value in
    let b = c.replace-other.ensures.value ∙ read_here l c.args.q u c.index_mut.result.now other c.index_mut.ensures.value in
    let d = c.replace-other.ensures.after ∙ c.ended_state.ensures in
    ap (λ z. set (set l c.args.q z) c.args.p c.take_over.new.pass) d
    ∙ ap (λ z. set (set l c.args.q ended_pass) c.args.p z) (c.in_ok-take_over.ensures ∙ ap (λ z. joined z c.replace-other.result) a ∙ ap (λ z. joined s z) b)
    ∙ set_swap l c.args.p c.args.q (joined s u) ended_pass c.requires.apart
