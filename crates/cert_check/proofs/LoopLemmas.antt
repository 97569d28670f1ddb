-- What loops find of all items of a list.
use Rattle.std.proofs.Common.{◌≡◌, ℕ, ◌<◌, ◌≤◌, true, false, List, length, take, get_or, All, refl, sym, subst, arith}
use Rattle.std.specs.Prelude.{IsTrue, ◌↔◌}
use Rattle.std.proofs.Common.{ap, ◌∙◌}
use Rattle.std.proofs.Math.ListN.{get_or-map}
use Rattle.std.proofs.lemmas.List.{length-map}
use Rattle.path_graph.specs.First.{EachBelow}
use Rattle.proof_rules.specs.Counts.{Walk}
use Rattle.cert_check.specs.declared.stack.Listed.{Listed}
use Rattle.cert_check.specs.Frames.{walk_said, walks_said}
use Rattle.std.proofs.lemmas.List.{take_all}

-- one item is none of these
pub not_all : {X : Type 0} (P : X → Type 0) (xs : List X) (k : ℕ) (d : X) → k < length xs → ¬ (P (get_or xs k d)) → IsTrue false ↔ All P xs
not_all P xs k d below fails = ((λ f. cc), (λ all. absurd (fails (all k d below))))

-- all items were seen
pub all_seen : {X : Type 0} (P : X → Type 0) (xs : List X) (k : ℕ) → length xs ≤ k → All P (take k xs) → IsTrue true ↔ All P xs
all_seen {X} P xs k end all = ((λ t. subst (All P) (take_all k xs end) all), (λ a. refl))

-- one number is none of these
pub not_each : (P : ℕ → Type 0) (n k : ℕ) → k < n → ¬ (P k) → IsTrue false ↔ EachBelow n P
not_each P n k below fails = ((λ f. cc), (λ each. absurd (fails (each k below))))

-- walks that are read off a list, as they are said
pub each_said : (P : Walk → Type 0) (walks : List Listed) (k : ℕ) (w : Listed) → k < length walks → w ≡ get_or walks k w → All P (walks_said walks) → P (walk_said w)
each_said P walks k w below is all =
    let inside : k < length (walks_said walks) = omega (arith, below, length-map walks walk_said) in
    subst P (get_or-map walk_said walks k w ∙ ap walk_said (sym is)) (all k (walk_said w) inside)
