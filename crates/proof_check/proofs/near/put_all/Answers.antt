use Rattle.std.proofs.Common.{◌≡◌, ◌<◌, ◌-◌, ℕ, suc, List, [], ◌∷◌, length, get_or, drop, drop-cons, sym, ◌∙◌, ap, subst, arith}
use Rattle.path_graph.specs.declared.set_bits.SetBits.{SetBits}
use Rattle.cert_rules.specs.Meaning.{near_sets}
use Rattle.proof_check.specs.NearParts.{AreNear}
use Rattle.proof_check.proofs.NearLemmas.{is_vertex, put_line}
use Rattle.proof_check.proofs.near.put_all.Goals as goal

pub put-requires : goal.put-requires
put-requires c =
    let k : ℕ = c.loop-left.left - 1 in
    let there : k < length c.args.lines.now = omega (arith, c.loop-left-test.true, c.loop-left.invariant.within) in
    let known = c.requires.lines k (0, 0, record { bits = [] }) there in
    is_vertex c.args.model.now c.loop-left.near c.loop-left.invariant.near.fits _ _ known.0 known.1

pub loop-left-preserved : goal.loop-left-preserved
loop-left-preserved c =
    let k : ℕ = c.loop-left.left - 1 in
    let there : k < length c.args.lines.now = omega (arith, c.loop-left-test.true, c.loop-left.invariant.within) in
    let line : ℕ × ℕ × SetBits = get_or c.args.lines.now k (0, 0, record { bits = [] }) in
    let next : suc k ≡ c.loop-left.left = omega (arith, c.loop-left-test.true) in
    let cut : drop k c.args.lines.now ≡ line ∷ drop c.loop-left.left c.args.lines.now =
    drop-cons c.args.lines.now k (0, 0, record { bits = [] }) there ∙ ap (λ (i : ℕ). line ∷ drop i c.args.lines.now) next in
    record {
      within = omega (arith, c.loop-left.invariant.within);
      near = subst (λ (lines : List (ℕ × ℕ × SetBits)). AreNear c.args.model.now c.put.new.self (near_sets lines)) (sym cut)
          (put_line c.args.model.now c.loop-left.near c.put.new.self (drop c.loop-left.left c.args.lines.now) line c.loop-left.invariant.near
          c.put.ensures.shape c.put.ensures.put c.put.ensures.others);
    }
