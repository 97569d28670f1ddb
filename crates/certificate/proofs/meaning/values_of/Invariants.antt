use Rattle.std.proofs.Common.{◌≡◌, fold, replicate, pos, take}
use Rattle.certificate.specs.ProofWords.{kind_count}
use Rattle.certificate.specs.Meaning.{set_by}
use Rattle.certificate.proofs.meaning.values_of.Given as goal

abbrev pub invariant-loop-line : goal.invariant-loop-line
invariant-loop-line l = l.values.items ≡ fold (set_by l.kind) (replicate (kind_count l.sizes l.kind) (pos 0)) (take l.line-index l.lines)
