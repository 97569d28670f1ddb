use Rattle.std.proofs.Common.{◌≤◌, ◌<◌, length, get_or, arith, ap, sym}
use Rattle.certificate.specs.CertPrint.{cut_line}
use Rattle.model_text.proofs.LineLemmas.{zip_at, zip_all}
use Rattle.certificate.proofs.proof_print.print_cuts.Goals as goal

pub loop-k-preserved : goal.loop-k-preserved
loop-k-preserved c =
    let ws = c.args.weights.now in
    let k = c.loop-k.k in
    let below = c.loop-k-test.true in
    let equal = c.requires in
    let within : k < length ws = omega (arith, below, equal) in
    zip_at cut_line c.args.text.now c.loop-k.text c.print_cut.new.text (cut_line (get_or ws k 0) c.index-cuts-k.result) ws c.args.cuts.now k 0 c.index-cuts-k.result within below c.loop-k.invariant c.in_ok-print_cut.ensures (ap (cut_line (get_or ws k 0)) c.index-cuts-k.is)

pub returns : goal.returns
returns c =
    let equal = c.requires in
    let past : length c.args.weights.now ≤ c.loop-k.k = omega arith in
    zip_all cut_line c.args.text.now c.loop-k.text c.args.weights.now c.args.cuts.now c.loop-k.k (sym equal) past c.loop-k.invariant
