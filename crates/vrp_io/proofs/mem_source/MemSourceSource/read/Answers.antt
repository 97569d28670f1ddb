use Rattle.std.proofs.Common.{◌∙◌, sym, ap, arith}
use Rattle.vrp_io.specs.Memory.{SourceParts}
use Rattle.vrp_io.proofs.Parts.{drop-split, drop_at_end}
use Rattle.vrp_io.proofs.mem_source.MemSourceSource.read.Goals as goal

pub returns-clause-bytes : goal.returns-clause-bytes
returns-clause-bytes c =
    let left = ap (λ (s : SourceParts). s.left) (sym c.self.view_is) in
    let bytes = c.deref-2.ensures.value in
    (left ∙ drop-split _ _ _ _ (rw bytes at c.give-count.ensures.copied), λ none space. drop_at_end _ _ _ _ _ (rw bytes at c.give-count.ensures.count) c.self.invariant.1 none (omega (arith, space, c.give-count.auto.buf)))
