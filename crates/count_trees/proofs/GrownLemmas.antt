-- A tree over counts grows by one node.
use Rattle.std.proofs.Common.{◌≡◌, ℤ, ◌≤ℤ◌, Option, None, Some, List, [], ◌∷◌, ◌++◌, All, map, refl, sym, ap, subst, ◌∙◌, arith}
use Rattle.std.specs.Prelude.{reverse}
use lib.Signed.{◌<ℤ◌}
use Rattle.std.proofs.lemmas.Int.{ints}
use Rattle.std.proofs.lemmas.List.{map-append, reverse-append}
use Rattle.std.proofs.lemmas.List.Elements.{All-append, All-cons, All-head, All-nil, All-push, All-tail}
use Rattle.route_model.specs.declared.places.Span.{Span}
use Rattle.route_model.specs.declared.places.Spot.{Spot}
use Rattle.route_model.specs.declared.plan.Plan.{Plan}
use Rattle.route_model.specs.Parts.{ModelParts}
use Rattle.proof_rules.specs.Counts.{Walk}
use Rattle.proof_rules.specs.Grows.{Grows}
use Rattle.proof_rules.specs.Nodes.{AtCounts}
use Rattle.proof_rules.specs.OpenTrees.{Valued}
use Rattle.proof_rules.proofs.GrowsLemmas.{grows_append, grows_weaken}
use Rattle.cert_check.specs.Reads.{CountsFit}
use Rattle.made_nodes.specs.declared.node.MadeNode.{MadeNode}
use Rattle.made_nodes.specs.Better.{IsBetter}
use Rattle.made_nodes.specs.Made.{IsMade, StaysOpen, made_children, made_rules}
use Rattle.made_nodes.proofs.MadeLemmas.{made_falls}
use Rattle.count_trees.specs.Growth.{IsGrown, at_counts, open_counts}

-- all items but the last, and the last
all_front : {X : Type 0} (P : X → Type 0) (xs : List X) (x : X) → All P (xs ++ x ∷ []) → All P xs
all_front P [] x all = All-nil P
all_front P (y ∷ ys) x all = All-cons P y ys (All-head P y (ys ++ x ∷ []) all) (all_front P ys x (All-tail P y (ys ++ x ∷ []) all))

pub all_last : {X : Type 0} (P : X → Type 0) (xs : List X) (x : X) → All P (xs ++ x ∷ []) → P x
all_last P [] x all = All-head P x [] all
all_last P (y ∷ ys) x all = all_last P ys x (All-tail P y (ys ++ x ∷ []) all)

module _ (m : ModelParts) (spot : Spot) (walks : List Walk) where
  -- what is open, the last first
  open_more : (value : ℤ) (rest opened : List (List Span)) → open_counts spot walks value (rest ++ opened) ≡ open_counts spot walks value opened ++ open_counts spot walks value rest
  open_more value rest opened = ap (map (at_counts spot walks value)) (reverse-append rest opened) ∙ map-append (at_counts spot walks value) (reverse opened) (reverse rest)

  pub grown_start : (boxes : List Span) (z : ℤ) → CountsFit m spot walks boxes → IsGrown m spot walks boxes z [] (boxes ∷ []) z None
  grown_start boxes z fits = record {
    grows = λ value. refl;
    better = refl;
    stay = λ none. All-nil (StaysOpen z);
    fit = All-cons (CountsFit m spot walks) boxes [] fits (All-nil (CountsFit m spot walks));
  }

  -- the counts that are taken next give way to what their node opens
  pub grown_node : (first : List Span) (z : ℤ) (nodes : List MadeNode) (rest : List (List Span)) (boxes : List Span) (less : ℤ) (best : Option Plan) (node : MadeNode) (opened : List (List Span))
      → IsGrown m spot walks first z nodes (rest ++ boxes ∷ []) less best → IsMade m less (AtCounts spot walks boxes) node → (best ≡ None → StaysOpen z node)
      → ((value : ℤ) → made_children m (at_counts spot walks value boxes) node ≡ open_counts spot walks value opened) → All (CountsFit m spot walks) opened
      → IsGrown m spot walks first z (nodes ++ node ∷ []) (rest ++ opened) less best
  grown_node first z nodes rest boxes less best node opened before made stays children fit = record {
    grows = λ value.
        let is : List Valued = open_counts spot walks value rest in
        let taken = subst (Grows (made_rules m less) (at_counts spot walks value first ∷ []) nodes) (open_more value rest (boxes ∷ [])) (before.grows value) in
        let all : made_children m (at_counts spot walks value boxes) node ++ is ≡ open_counts spot walks value (rest ++ opened) = ap (λ (js : List Valued). js ++ is) (children value) ∙ sym (open_more value rest opened) in
        grows_append (made_rules m less) (at_counts spot walks value first ∷ []) (at_counts spot walks value boxes ∷ is) (open_counts spot walks value (rest ++ opened)) nodes (node ∷ []) taken (made, all);
    better = before.better;
    stay = λ none. All-push (StaysOpen z) nodes node (before.stay none) (stays none);
    fit = All-append (CountsFit m spot walks) rest opened (all_front (CountsFit m spot walks) rest boxes before.fit) fit;
  }

  -- the same, as code has it
  pub grown_as : (first : List Span) (z : ℤ) (nodes new_nodes : List MadeNode) (rest new_rest : List (List Span)) (less new_less : ℤ) (best new_best : Option Plan)
      → IsGrown m spot walks first z nodes rest less best → new_nodes ≡ nodes → new_rest ≡ rest → new_less ≡ less → new_best ≡ best → IsGrown m spot walks first z new_nodes new_rest new_less new_best
  grown_as first z nodes new_nodes rest new_rest less new_less best new_best grown is_nodes is_rest is_less is_best =
      subst (λ (ns : List MadeNode). IsGrown m spot walks first z ns new_rest new_less new_best) (sym is_nodes)
      (subst (λ (bs : List (List Span)). IsGrown m spot walks first z nodes bs new_less new_best) (sym is_rest)
      (subst (λ (x : ℤ). IsGrown m spot walks first z nodes rest x new_best) (sym is_less) (subst (IsGrown m spot walks first z nodes rest less) (sym is_best) grown)))

  -- a better plan
  falls : (z less new : ℤ) (best : Option Plan) → IsBetter m z best less → new <ℤ less → new <ℤ z
  falls z less new None better lower = omega (arith, ints, better, lower)
  falls z less new (Some plan) better lower = omega (arith, ints, better.3, lower)

  pub grown_better : (first : List Span) (z : ℤ) (nodes : List MadeNode) (rest : List (List Span)) (less : ℤ) (best : Option Plan) (plan : Plan) (new : ℤ)
      → IsGrown m spot walks first z nodes rest less best → IsBetter m less (Some plan) new → IsGrown m spot walks first z nodes rest new (Some plan)
  grown_better first z nodes rest less best plan new before better = record {
    grows = λ value. grows_weaken (made_rules m less) (made_rules m new) (λ i n is. (made_falls m new less i.item n (at_most new less better.3) is, refl)) (at_counts spot walks value first ∷ []) (open_counts spot walks value rest) nodes (before.grows value);
    better = (better.0, better.1, better.2, falls z less new best before.better better.3);
    stay = λ none. cc;
    fit = before.fit;
  }
    where
      at_most : (x y : ℤ) → x <ℤ y → x ≤ℤ y
      at_most x y h = omega (arith, ints)
