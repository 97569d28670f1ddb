-- Worked rows: points of boxes, products, and the number that is enough, proved by computing.
use Rattle.std.proofs.Common.{◌≡◌, ℕ, pos, neg_ℤ, [], ◌∷◌, refl}
use Rattle.route_model.specs.Parts.{ModelParts}
use Rattle.proof_rules.specs.Counts.{Walk}
use Rattle.search_rules.specs.Completeness.{arc_total, enough_nodes, points_in, points_of_boxes, points_of_counts, product_by}

-- a box of four numbers, a point, a box across 0, and two that are empty
four : points_in (record { low = pos 2; high = pos 5 }) ≡ 4
four = refl

one : points_in (record { low = pos 7; high = pos 7 }) ≡ 1
one = refl

across : points_in (record { low = neg_ℤ (pos 2); high = pos 1 }) ≡ 4
across = refl

none : points_in (record { low = pos 3; high = pos 2 }) ≡ 0
none = refl

far : points_in (record { low = pos 9; high = pos 2 }) ≡ 0
far = refl

-- a product, and the empty one
product : product_by (λ (n : ℕ). n) (3 ∷ 1 ∷ 5 ∷ []) ≡ 15
product = refl

empty_product : product_by (λ (n : ℕ). n) [] ≡ 1
empty_product = refl

-- one variable with a box of three numbers and one graph with at most two paths, one arc
small : ModelParts
small = record {
  vars = record { low = pos 0; high = pos 2; cost = pos 1 } ∷ [];
  rows = [];
  sets = 0;
  graphs = record {
    ends = record { source = 0; sink = 1; low = 1; high = 2; mains = 1; seconds = 0 };
    vertices = [];
    arcs = record { tail = 0; head = 1; needs = [] } ∷ [];
  } ∷ [];
  maps = [];
}

boxes : points_of_boxes small ≡ 6
unfolding small
boxes = refl

walk : Walk
walk = record { graph = 0; arcs = 0 ∷ [] }

counts : points_of_counts small (walk ∷ []) ≡ 3
unfolding small walk
counts = refl

arcs : arc_total small ≡ 1
unfolding small
arcs = refl

enough : enough_nodes small (walk ∷ []) ≡ 37
unfolding small walk
enough = refl
