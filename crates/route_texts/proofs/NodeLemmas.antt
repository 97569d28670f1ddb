-- Nodes whose numbers count on, and the nodes with what a line tells.
use Rattle.std.proofs.Common.{◌≡◌, ◌≢◌, ℕ, zero, suc, ◌+◌, ◌<◌, ◌≤◌, ℤ, pos, List, [], ◌∷◌, ◌++◌, length, refl, ap, ◌∙◌, Bool, true, false, arith, Option}
use Rattle.std.specs.Prelude.{◌==◌, map, slice_index_or, slice_set, All, IfSome}
use Rattle.std.proofs.lemmas.Bool.Decides.{nat_tests}
use Rattle.std.proofs.lemmas.List.{length-append}
use Rattle.std.proofs.lemmas.List.Elements.{All-nil, All-push}
use Rattle.route_tasks.specs.Fit.{AllDiffer}
use Rattle.route_tasks.specs.declared.task.Stop.{Stop}
use Rattle.route_texts.specs.declared.cvrp_draft.Node.{Node}
use Rattle.route_texts.specs.CvrpDraft.{bare_node, bare_nodes}
use Rattle.route_texts.specs.CvrpText.{stop_of, customers_of, AreNumbered, NodeFits}
use Rattle.route_texts.proofs.NumberLemmas.{IsAbsent, AllDiffer-nil, AllDiffer-cons}

AreNumbered-push : (first : ℕ) (nodes : List Node) (n : Node) → AreNumbered first nodes → n.number ≡ first + length nodes → AreNumbered first (nodes ++ n ∷ [])
AreNumbered-push first [] n h e = (omega arith, tt)
AreNumbered-push first (m ∷ nodes) n h e = (h.0, AreNumbered-push (first + 1) nodes n h.1 (omega arith))

pub length-bare : (n : ℕ) → length (bare_nodes n) ≡ n
length-bare zero = refl
length-bare (suc n) = omega (arith, length-append (bare_nodes n) (bare_node (suc n) ∷ []), length-bare n)

pub AreNumbered-bare : (n : ℕ) → AreNumbered 1 (bare_nodes n)
AreNumbered-bare zero = tt
AreNumbered-bare (suc n) = AreNumbered-push 1 (bare_nodes n) (bare_node (suc n)) (AreNumbered-bare n) (omega (arith, length-bare n))

bare_fits : (n : ℕ) → NodeFits (bare_node n)
bare_fits n = record { placed = tt; demanded = tt }

pub NodesFit-bare : (n : ℕ) → All NodeFits (bare_nodes n)
NodesFit-bare zero = All-nil NodeFits
NodesFit-bare (suc n) = All-push NodeFits (bare_nodes n) (bare_node (suc n)) (NodesFit-bare n) (bare_fits (suc n))

-- a node is replaced by one of the same number
pub AreNumbered-set : (first i : ℕ) (nodes : List Node) (n d : Node) → AreNumbered first nodes → n.number ≡ (slice_index_or nodes i d).number → AreNumbered first (slice_set nodes i n)
AreNumbered-set first zero [] n d h e = tt
AreNumbered-set first (suc i) [] n d h e = tt
AreNumbered-set first zero (m ∷ nodes) n d h e = (e ∙ h.0, h.1)
AreNumbered-set first (suc i) (m ∷ nodes) n d h e = (h.0, AreNumbered-set (first + 1) i nodes n d h.1 e)

-- and one of the same demand
pub demand-set : (i j : ℕ) (nodes : List Node) (n d : Node) → n.demand ≡ (slice_index_or nodes i d).demand → (slice_index_or (slice_set nodes i n) j d).demand ≡ (slice_index_or nodes j d).demand
demand-set zero j [] n d e = refl
demand-set (suc i) j [] n d e = refl
demand-set zero zero (m ∷ nodes) n d e = e
demand-set zero (suc j) (m ∷ nodes) n d e = refl
demand-set (suc i) zero (m ∷ nodes) n d e = refl
demand-set (suc i) (suc j) (m ∷ nodes) n d e = demand-set i j nodes n d e

abbrev pub IsEmpty : Option ℤ → Type 0
IsEmpty demand = IfSome demand (λ z. z ≡ pos 0)

pub empty-set : (i j : ℕ) (nodes : List Node) (n d : Node) → (i ≡ j → IsEmpty n.demand) → IsEmpty (slice_index_or nodes j d).demand → IsEmpty (slice_index_or (slice_set nodes i n) j d).demand
empty-set zero j [] n d same h = h
empty-set (suc i) j [] n d same h = h
empty-set zero zero (m ∷ nodes) n d same h = same refl
empty-set zero (suc j) (m ∷ nodes) n d same h = h
empty-set (suc i) zero (m ∷ nodes) n d same h = h
empty-set (suc i) (suc j) (m ∷ nodes) n d same h = empty-set i j nodes n d (λ e. same (ap suc e)) h

pub number-at : (first i : ℕ) (nodes : List Node) (d : Node) → AreNumbered first nodes → i < length nodes → (slice_index_or nodes i d).number ≡ first + i
number-at first i [] d h below = absurd (omega arith)
number-at first zero (n ∷ nodes) d h below = omega (arith, h.0)
number-at first (suc i) (n ∷ nodes) d h below = omega (arith, number-at (first + 1) i nodes d h.1 (omega arith))

-- the numbers of the customers
abbrev pub numbers_of : ℕ → List Node → List ℕ
numbers_of depot nodes = map (λ s. s.number) (customers_of depot nodes)

is_same : (a b : ℕ) → (a == b) ≡ true → a ≡ b
is_same a b h = grind (arith, nat_tests)

is_other : (a b : ℕ) → (a == b) ≡ false → a ≢ b
is_other a b h e = absurd (grind (arith, nat_tests))

-- the first node is the depot or a customer
pub by_head : (P : List Stop → Type 0) (depot : ℕ) (n : Node) (nodes : List Node) → (n.number ≡ depot → P (customers_of depot nodes)) → (n.number ≢ depot → P (stop_of n ∷ customers_of depot nodes)) → P (customers_of depot (n ∷ nodes))
by_head P depot n nodes at other = by_test (n.number == depot) refl
  where
    by_test : (b : Bool) → (n.number == depot) ≡ b → P (customers_of depot (n ∷ nodes))
    by_test true test = rw test (at (is_same n.number depot test))
    by_test false test = rw test (other (is_other n.number depot test))

-- no number is passed over
none_above : (first depot : ℕ) (nodes : List Node) → AreNumbered first nodes → depot < first → length (customers_of depot nodes) ≡ length nodes
none_above first depot [] h below = refl
none_above first depot (n ∷ nodes) h below =
    let P : List Stop → Type 0 = λ stops. length stops ≡ length (n ∷ nodes) in
    let rest = none_above (first + 1) depot nodes h.1 (omega arith) in
    by_head P depot n nodes (λ e. absurd (omega (arith, h.0, e))) (λ e. omega (arith, rest))

pub count-customers : (first depot : ℕ) (nodes : List Node) → AreNumbered first nodes → first ≤ depot → depot < first + length nodes → length (customers_of depot nodes) + 1 ≡ length nodes
count-customers first depot [] h least below = absurd (omega arith)
count-customers first depot (n ∷ nodes) h least below =
    let P : List Stop → Type 0 = λ stops. length stops + 1 ≡ length (n ∷ nodes) in
    by_head P depot n nodes (λ e. omega (arith, none_above (first + 1) depot nodes h.1 (omega (arith, h.0, e))))
    (λ e. omega (arith, count-customers (first + 1) depot nodes h.1 (above e) (omega arith)))
  where
    above : n.number ≢ depot → first + 1 ≤ depot
    above e = omega (arith, h.0, e)

abbrev HasNot : ℕ → List Stop → Type 0
HasNot number stops = IsAbsent number (map (λ s. s.number) stops)

HasNot-cons : (number : ℕ) (s : Stop) (stops : List Stop) → s.number ≢ number → HasNot number stops → HasNot number (s ∷ stops)
HasNot-cons number s stops other absent zero below e = other e
HasNot-cons number s stops other absent (suc i) below e = absent i (omega arith) e

pub IsAbsent-depot : (depot : ℕ) (nodes : List Node) → IsAbsent depot (numbers_of depot nodes)
IsAbsent-depot depot [] = λ i below e. absurd (omega arith)
IsAbsent-depot depot (n ∷ nodes) =
    let rest = IsAbsent-depot depot nodes in
    by_head (HasNot depot) depot n nodes (λ e. rest) (λ e. HasNot-cons depot (stop_of n) (customers_of depot nodes) e rest)

IsAbsent-below : (number first depot : ℕ) (nodes : List Node) → AreNumbered first nodes → number < first → IsAbsent number (numbers_of depot nodes)
IsAbsent-below number first depot [] h below = λ i within e. absurd (omega arith)
IsAbsent-below number first depot (n ∷ nodes) h below =
    let rest = IsAbsent-below number (first + 1) depot nodes h.1 (omega arith) in
    by_head (HasNot number) depot n nodes (λ e. rest)
    (λ e. HasNot-cons number (stop_of n) (customers_of depot nodes) (λ same. absurd (omega (arith, h.0, same))) rest)

abbrev Differ : List Stop → Type 0
Differ stops = AllDiffer (map (λ s. s.number) stops)

pub AllDiffer-customers : (first depot : ℕ) (nodes : List Node) → AreNumbered first nodes → AllDiffer (numbers_of depot nodes)
AllDiffer-customers first depot [] h = AllDiffer-nil
AllDiffer-customers first depot (n ∷ nodes) h =
    let rest = AllDiffer-customers (first + 1) depot nodes h.1 in
    let absent = IsAbsent-below n.number (first + 1) depot nodes h.1 (omega (arith, h.0)) in
    by_head Differ depot n nodes (λ e. rest) (λ e. AllDiffer-cons n.number (numbers_of depot nodes) rest absent)
