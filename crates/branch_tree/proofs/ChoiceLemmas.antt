-- Steps of the search for the box that is furthest from a whole number.
use Rattle.std.proofs.Common.{◌≡◌, ℕ, ◌+◌, ◌<◌, Option, None, Some, List, length, inl, inr, sym, subst, below_more}
use Rattle.std.specs.Prelude.{◌⊎◌, ◌≤ℤ◌, ◌<ℤ◌, MatchOption}
use Rattle.path_graph.specs.First.{EachBelow}
use Rattle.route_model.specs.declared.places.Span.{Span}
use Rattle.route_model.specs.Places.{span_at}
use Rattle.branch_tree.specs.declared.choice.Candidate.{Candidate}
use Rattle.branch_tree.specs.Splits.{IsPoint, Parts}

-- the boxes so far are points, or the best candidate parts one of all
abbrev pub IsBest : List Span → ℕ → Option Candidate → Type 0
IsBest spans n best = MatchOption best (EachBelow n (λ k. IsPoint (span_at spans k))) (λ c. Parts spans c.place c.at)

-- one more box that is parted
pub parted_more : (spans : List Span) (n : ℕ) (best : Option Candidate) (next better : Candidate) → IsBest spans n best → MatchOption best (better ≡ next) (λ c. (better ≡ c) ⊎ (better ≡ next))
    → Parts spans next.place next.at → Parts spans better.place better.at
parted_more spans n None next better before is here = subst (λ (c : Candidate). Parts spans c.place c.at) (sym is) here
parted_more spans n (Some b) next better before (inl is) here = subst (λ (c : Candidate). Parts spans c.place c.at) (sym is) before
parted_more spans n (Some b) next better before (inr is) here = subst (λ (c : Candidate). Parts spans c.place c.at) (sym is) here

-- one more that is a point
pub point_more : (spans : List Span) (n : ℕ) (best : Option Candidate) → IsBest spans n best → IsPoint (span_at spans n) → IsBest spans (n + 1) best
point_more spans n None before here = below_more _ _ before here
point_more spans n (Some b) before here = before

-- a candidate by its place
pub parts_at : (spans : List Span) (n : ℕ) (c : Candidate) → n < length spans → c.place ≡ n → (span_at spans n).low ≤ℤ c.at → c.at <ℤ (span_at spans n).high → Parts spans c.place c.at
parts_at spans n c below is low high = subst (λ (k : ℕ). Parts spans k c.at) (sym is) (record { there = below; low = low; high = high })
