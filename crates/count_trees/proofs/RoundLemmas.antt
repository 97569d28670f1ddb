-- Each round adds the node of the counts that are taken next, and what it opens.
use Rattle.std.proofs.Common.{◌≡◌, ℕ, ◌+◌, ℤ, pos, ◌-ℤ◌, ◌≤ℤ◌, Option, None, Some, List, [], ◌∷◌, ◌++◌, All, length, refl, sym, ap, subst, ◌∙◌, arith}
use lib.Signed.{◌<ℤ◌}
use Rattle.std.specs.Prelude.{Err, IfOk, Ok, Result, slice_set}
use Rattle.std.proofs.lemmas.Int.{by_lt_z, ints}
use Rattle.std.proofs.lemmas.List.{append-nil, length-append}
use Rattle.std.proofs.lemmas.List.Elements.{All-cons, All-nil}
use Rattle.route_model.specs.declared.places.Span.{Span}
use Rattle.route_model.specs.declared.plan.Plan.{Plan}
use Rattle.route_model.specs.PlaceParts.{high_part, low_part}
use Rattle.route_model.specs.Places.{SolvesAt, span_at}
use Rattle.route_model.specs.Quantities.{cost_of}
use Rattle.route_model.specs.Solution.{IsSolution}
use Rattle.multipliers.specs.Quantities.{scaled}
use Rattle.proof_rules.specs.Counts.{plan_of}
use Rattle.proof_rules.specs.Nodes.{ArePoints, AtCounts, IsCountSplit, Item, lows}
use Rattle.certificate.specs.declared.cert.NodeForm.{NodeForm}
use Rattle.certificate.specs.declared.cert.NodeForm.TheVariants as node
use Rattle.cert_check.specs.Reads.{CountsFit, IsCountBox}
use Rattle.made_nodes.specs.declared.node.MadeNode.{MadeNode}
use Rattle.made_nodes.specs.Better.{IsBetter}
use Rattle.made_nodes.specs.Closing.{IsZeroClose}
use Rattle.made_nodes.specs.Made.{IsMade, StaysOpen, made_children}
use Rattle.made_nodes.specs.Zeros.{zero_bound}
use Rattle.made_nodes.proofs.ClosingLemmas.{zero_close}
use Rattle.made_nodes.proofs.MadeLemmas.{made_children_fit}
use Rattle.count_trees.specs.declared.growth.Found.{Found}
use Rattle.count_trees.specs.declared.growth.Growth.{Growth}
use Rattle.count_trees.specs.declared.rounds.Task.{Task}
use Rattle.count_trees.specs.Growth.{IsGrown, at_counts}
use Rattle.count_trees.specs.Points.{IsWide}
use Rattle.count_trees.specs.Rounds.{AddsNode, CountsAt, IsFoundBelow, IsRound, SplitsAt, TakesFound, TaskFits, parts_at, walks_in}
use Rattle.count_trees.proofs.GrownLemmas.{grown_as, grown_better, grown_node}

-- what holds of a result holds of what follows from it
pub if_ok : {X E : Type 0} (P Q : X → Type 0) (r : Result X E) → ((x : X) → P x → Q x) → IfOk r P → IfOk r Q
if_ok P Q (Ok x) step is = step x is
if_ok P Q (Err e) step is = tt

-- one node more
count_more : (nodes new : List MadeNode) (n : MadeNode) → new ≡ nodes ++ n ∷ [] → length new ≡ length nodes + 1
count_more nodes new n is = omega (arith, ap length is, length-append nodes (n ∷ []))

-- the growth of a task's counts
abbrev GrownIn : Task → List Span → ℤ → List MadeNode → List (List Span) → ℤ → Option Plan → Type 0
GrownIn t first z nodes rest less best = IsGrown t.model.now t.spot.now (walks_in t) first z nodes rest less best

abbrev MadeAt : Task → ℤ → List Span → NodeForm → ℤ → Type 0
MadeAt t z boxes form b = IsMade t.model.now z (AtCounts t.spot.now (walks_in t) boxes) (record { form = form; bound = b })

-- a node that opens nothing, after which none is open but those before
abbrev OpensNone : Task → List Span → MadeNode → Type 0
OpensNone t boxes n = (value : ℤ) → made_children t.model.now (at_counts t.spot.now (walks_in t) value boxes) n ≡ []

last_round : (t : Task) (old mid new : Growth) (boxes : List Span) (n : MadeNode) → ((first : List Span) (z : ℤ) → GrownIn t first z old.nodes (old.rest ++ boxes ∷ []) old.z old.best → GrownIn t first z mid.nodes (mid.rest ++ boxes ∷ []) mid.z mid.best)
    → length mid.nodes ≡ length old.nodes → IsMade t.model.now mid.z (AtCounts t.spot.now (walks_in t) boxes) n → OpensNone t boxes n → ((z : ℤ) → StaysOpen z n) → AddsNode mid n new → IsRound t old boxes new
last_round t old mid new boxes n found same made none stays adds = record {
  grown = λ first z before.
      let after = grown_node t.model.now t.spot.now (walks_in t) first z mid.nodes mid.rest boxes mid.z mid.best n [] (found first z before) made (λ e. stays z) none (All-nil (CountsFit t.model.now t.spot.now (walks_in t))) in
      grown_as t.model.now t.spot.now (walks_in t) first z (mid.nodes ++ n ∷ []) new.nodes (mid.rest ++ []) new.rest mid.z new.z mid.best new.best after adds.nodes (adds.rest ∙ sym (append-nil mid.rest)) adds.same adds.best;
  count = count_more mid.nodes new.nodes n adds.nodes ∙ ap (λ (k : ℕ). k + 1) same;
}

-- a point, whether or not its plan is better
made_point : (t : Task) (z : ℤ) (boxes : List Span) (plan : Plan) (b : ℤ) → ArePoints boxes → plan ≡ plan_of (walks_in t) (lows boxes) → (IsSolution t.model.now plan → z ≤ℤ cost_of t.model.now plan) → MadeAt t z boxes node.Point b
made_point t z boxes plan b points is not_below = record {
  is_node = record {
    points = points;
    not_below = subst (λ (p : Plan). SolvesAt t.model.now t.spot.now p → z ≤ℤ cost_of t.model.now p) is (λ solves. not_below solves.within.solution);
  };
  has_proof = tt;
  bound = tt;
  drops = tt;
  named = tt;
  told = tt;
  proof_told = tt;
}

pub point_round : (t : Task) (old mid new : Growth) (boxes : List Span) (plan : Plan) (found : Option Found) (b : ℤ) → ArePoints boxes → plan ≡ plan_of (walks_in t) (lows boxes) → IsFoundBelow t.model.now old.z plan found
    → TakesFound old found mid → AddsNode mid (record { form = node.Point; bound = b }) new → IsRound t old boxes new
point_round t old mid new boxes plan None b points is not_below takes adds =
    let made = made_point t old.z boxes plan b points is not_below in
    last_round t old mid new boxes (record { form = node.Point; bound = b })
    (λ first z before. subst (λ (g : Growth). GrownIn t first z g.nodes (g.rest ++ boxes ∷ []) g.z g.best) (sym takes) before)
    (ap (λ (g : Growth). length g.nodes) takes) (subst (λ (g : Growth). MadeAt t g.z boxes node.Point b) (sym takes) made) (λ value. refl) (λ z. tt) adds
point_round t old mid new boxes plan (Some found) b points is below takes adds =
    let made = made_point t found.cost boxes plan b points is (λ solves. same_cost _ _ below.1) in
    last_round t old mid new boxes (record { form = node.Point; bound = b })
    (λ first z before.
    grown_as t.model.now t.spot.now (walks_in t) first z old.nodes mid.nodes (old.rest ++ boxes ∷ []) (mid.rest ++ boxes ∷ []) found.cost mid.z (Some found.plan) mid.best
    (grown_better t.model.now t.spot.now (walks_in t) first z old.nodes (old.rest ++ boxes ∷ []) old.z old.best found.plan found.cost before below.0)
    takes.nodes (ap (λ (rest : List (List Span)). rest ++ boxes ∷ []) takes.rest) takes.less takes.best)
    (ap length takes.nodes) (subst (λ (z : ℤ). MadeAt t z boxes node.Point b) (sym takes.less) made) (λ value. refl) (λ z. tt) adds
  where
    same_cost : (x y : ℤ) → x ≡ y → y ≤ℤ x
    same_cost x y e = omega (arith, ints, e)

-- counts that are closed
close_round : (t : Task) (old new : Growth) (boxes : List Span) (form : NodeForm) (b : ℤ) → TaskFits t → CountsAt t boxes → IsZeroClose t.model.now form → scaled (old.z -ℤ pos 1) <ℤ zero_bound t.model.now t.spot.now (walks_in t) boxes
    → AddsNode old (record { form = form; bound = b }) new → IsRound t old boxes new
close_round t old new boxes (node.Split split p) b fits counts is above adds = absurd is
close_round t old new boxes (node.Close p) b fits counts is above adds = absurd is
close_round t old new boxes (node.Fix p arcs) b fits counts is above adds = absurd is
close_round t old new boxes (node.List p tries) b fits counts is above adds = absurd is
close_round t old new boxes (node.CountSplit i d) b fits counts is above adds = absurd is
close_round t old new boxes (node.CountClose mult) b fits counts is above adds =
    last_round t old old new boxes (record { form = node.CountClose mult; bound = b }) (λ first z before. before) refl
    (zero_close t.model.now old.z t.spot.now (walks_in t) boxes mult b fits.model counts is.0 is.1 above) (λ value. refl) (λ z. tt) adds
close_round t old new boxes node.Point b fits counts is above adds = absurd is

pub closed_round : (t : Task) (old new : Growth) (boxes : List Span) (n : MadeNode) (bound y : ℤ) → TaskFits t → CountsAt t boxes → IsZeroClose t.model.now n.form → bound ≡ zero_bound t.model.now t.spot.now (walks_in t) boxes
    → y ≡ scaled (old.z -ℤ pos 1) → y <ℤ bound → AddsNode old n new → IsRound t old boxes new
closed_round t old new boxes n bound y fits counts is bound_is is_y above adds =
    close_round t old new boxes n.form n.bound fits counts is (subst (λ (x : ℤ). x <ℤ zero_bound t.model.now t.spot.now (walks_in t) boxes) is_y (subst (λ (x : ℤ). y <ℤ x) bound_is above)) adds

-- counts that are split
split_is : (boxes : List Span) (i : ℕ) → All IsCountBox boxes → IsWide boxes i → IsCountSplit boxes i (span_at boxes i).low
split_is boxes i each wide =
    let box = each i (record { low = pos 0; high = pos 0 }) wide.inside in
    record { walk = wide.inside; low = omega (arith, ints); high = apart _ _ box.order wide.wide }
  where
    apart : (x y : ℤ) → x ≤ℤ y → ¬ (x ≡ y) → x <ℤ y
    apart x y order other = by_lt_z x y (λ less. less) (λ least. absurd (other (omega (arith, ints, order, least))))

made_split : (t : Task) (z : ℤ) (boxes : List Span) (i : ℕ) (bound : ℤ) → CountsAt t boxes → IsWide boxes i → bound ≡ zero_bound t.model.now t.spot.now (walks_in t) boxes → MadeAt t z boxes (node.CountSplit i (span_at boxes i).low) bound
made_split t z boxes i bound counts wide is =
    let box = counts.each_box i (record { low = pos 0; high = pos 0 }) wide.inside in
    record {
      is_node = split_is boxes i counts.each_box wide;
      has_proof = tt;
      bound = is;
      drops = tt;
      named = tt;
      told = (omega (arith, wide.inside, counts.size, counts.few), (omega (arith, ints, box.low), omega (arith, ints, box.order, box.high)));
      proof_told = tt;
    }

pub parts_round : (t : Task) (old new : Growth) (boxes : List Span) (i : ℕ) (bound y : ℤ) → TaskFits t → CountsAt t boxes → IsWide boxes i → bound ≡ zero_bound t.model.now t.spot.now (walks_in t) boxes
    → y ≡ scaled (old.z -ℤ pos 1) → ¬ (y <ℤ bound) → SplitsAt old boxes i bound new → IsRound t old boxes new
parts_round t old new boxes i bound y fits counts wide is is_y below splits =
    let n : MadeNode = record { form = node.CountSplit i (span_at boxes i).low; bound = bound } in
    let item : Item = AtCounts t.spot.now (walks_in t) boxes in
    let made = made_split t old.z boxes i bound counts wide is in
    let both = made_children_fit t.model.now old.z item n fits.model counts made in
    let At : List Span → Type 0 = CountsFit t.model.now t.spot.now (walks_in t) in
    let low : List Span = slice_set boxes i (low_part (span_at boxes i) (span_at boxes i).low) in
    let high : List Span = slice_set boxes i (high_part (span_at boxes i) (span_at boxes i).low) in
    let fit = All-cons At high (low ∷ []) both.1.0 (All-cons At low [] both.0 (All-nil At)) in
    record {
      grown = λ first z before.
          let after = grown_node t.model.now t.spot.now (walks_in t) first z old.nodes old.rest boxes old.z old.best n (parts_at boxes i) before made
          (λ none. open_at z old.z bound y old.best none before.better is_y below) (λ value. refl) fit in
          grown_as t.model.now t.spot.now (walks_in t) first z (old.nodes ++ n ∷ []) new.nodes (old.rest ++ parts_at boxes i) new.rest old.z new.z old.best new.best after splits.nodes splits.rest splits.same splits.best;
      count = count_more old.nodes new.nodes n splits.nodes;
    }
  where
    at_most : (x y : ℤ) → ¬ (y <ℤ x) → x ≤ℤ y
    at_most x y above = by_lt_z y x (λ more. absurd (above more)) (λ less. less)

    open_at : (z less bound y : ℤ) (best : Option Plan) → best ≡ None → IsBetter t.model.now z best less → y ≡ scaled (less -ℤ pos 1) → ¬ (y <ℤ bound) → bound ≤ℤ scaled (z -ℤ pos 1)
    open_at z less bound y None none better is_y below = subst (λ (x : ℤ). bound ≤ℤ scaled (x -ℤ pos 1)) better (subst (λ (x : ℤ). bound ≤ℤ x) is_y (at_most bound y below))
    open_at z less bound y (Some plan) none better is_y below = cc
