use Rattle.std.proofs.Common.{◌≡◌, Bool, true, false, ℤ, inr, refl, sym, subst, rules, w64}
use Rattle.std.proofs.lemmas.Int.{to_z-of_z}
use Rattle.made_nodes.specs.Made.{StaysOpen}
use Rattle.search_tree.proofs.retesting.retested_node.Goals as goal

not_both : (b : Bool) → b ≡ false → b ≡ true → ⊥
not_both b is_false is_true = cc

pub returns : goal.returns
returns c =
    let z = to_z-of_z w64 c.args.z (search rules) in
    let children = c.child_count-children.ensures in
    record {
      children = children;
      either = inr (record {
        above = λ below. not_both c.stays_open.result c.if-stays_open.false (c.stays_open.ensures.1 (subst (λ (y : ℤ). StaysOpen y c.args.node) (sym z) below));
        closed = c.in_ok-closing.field-0;
        slot = refl;
        closing = c.in_ok-closing.ensures;
        skip = children;
      });
    }
