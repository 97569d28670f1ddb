use Rattle.std.proofs.Common.{◌≡◌, ◌<◌, ◌≤◌, ℕ, ℤ, Option, None, Some, to_z, pos, [], length, ap, subst, sym, ◌∙◌, arith}
use Rattle.std.specs.Prelude.{IsSome}
use Rattle.std.specs.Int.{w128}
use Rattle.std.proofs.lemmas.List.{get_or_default}
use Rattle.path_graph.specs.Fit.{int_at}
use Rattle.route_model.specs.declared.parts.Row.{Row}
use Rattle.route_model.specs.Parts.{row_at}
use Rattle.route_model.specs.Terms.{sides_of_row, term, or_zero}
use Rattle.multipliers.proofs.BaseLemmas.{defined_more, term_read, term_step}
use Rattle.multipliers.proofs.base.row_terms.Goals as goal

pub loop-i-preserved : goal.loop-i-preserved
loop-i-preserved c =
    let k : ℕ = c.loop-i.i in
    let mults = c.args.mults.now in
    let rows = c.args.rows.now in
    let least : ℕ → Option ℤ = λ i. term (int_at mults i) (sides_of_row (row_at rows i)) in
    let few : k ≤ 30000 = omega arith in
    let below : k < length mults = omega arith in
    let row = c.index-rows-i.is ∙ get_or_default rows k c.index-rows-i.result (row_at [] 0) c.loop-i-test.true in
    let is : Some c.in-Some.term ≡ least k =
    c.in-Some.ensures.term ∙ (term_read (int_at mults k) (sides_of_row c.index-rows-i.result) (c.requires.range k (pos 0) below) ∙ ap (λ (r : Row). term (int_at mults k) (sides_of_row r)) row) in
    record {
      sum = term_step (λ i. or_zero (least i)) k (to_z w128 c.loop-i.total-bits) c.in-Some.term c.plus-total.result few c.loop-i.invariant.sum (ap or_zero is) c.in-Some.ensures.small c.plus-total.ensures;
      defined = defined_more least k c.in-Some.term c.loop-i.invariant.defined is;
    }

pub returns-in-None-clause-defined : goal.returns-in-None-clause-defined
returns-in-None-clause-defined c =
    let k : ℕ = c.loop-i.i in
    let mults = c.args.mults.now in
    let rows = c.args.rows.now in
    let below : k < length mults = omega arith in
    let row = c.index-rows-i.is ∙ get_or_default rows k c.index-rows-i.result (row_at [] 0) c.loop-i-test.true in
    let is : None ≡ term (int_at mults k) (sides_of_row (row_at rows k)) =
    c.in-None.ensures.term ∙ (term_read (int_at mults k) (sides_of_row c.index-rows-i.result) (c.requires.range k (pos 0) below) ∙ ap (λ (r : Row). term (int_at mults k) (sides_of_row r)) row) in
    record { within = c.loop-i-test.true; fails = λ some. let none : IsSome {T = ℤ} None = subst IsSome (sym is) some in cc; before = c.loop-i.invariant.defined }
