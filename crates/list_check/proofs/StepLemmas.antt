-- The steps of a text as the steps of a tree: those before a place, and the prefixes that are read off them.
use Rattle.std.proofs.Common.{◌≡◌, ◌≢◌, ◌==◌, ℕ, zero, suc, ◌+◌, ◌<◌, ◌≤◌, Bool, true, false, cond, List, [], ◌∷◌, ◌++◌, length, get_or, take, drop, map, reverse, append_assoc, refl, sym, ◌∙◌, ap, subst, arith}
use Rattle.std.proofs.lemmas.Bool.{cond-false, cond-true, eq-eqb, ne_eqb}
use Rattle.std.proofs.lemmas.List.{append-nil, get_or-map, length-map, map-append, reverse-append, take-append-drop, take_more}
use Rattle.std.proofs.Math.Seq.{drop-cons}
use Rattle.certificate.specs.declared.cert.Step.{Step as TextStep}
use Rattle.cert_rules.specs.Meaning.{step_of}
use Rattle.path_graph.specs.Walk.{Leads}
use Rattle.path_graph.proofs.IndexLemmas.{row_more, rows_of}
use Rattle.path_graph.proofs.WalkLemmas.{leads_split}
use Rattle.label_rules.specs.Labels.{Setting}
use Rattle.proof_rules.specs.PrefixTrees.{IsTree, Step, node_count, node_vertex, prefix_of, prefix_within, step_at, walks_of}
use Rattle.proof_rules.proofs.PrefixTreeLemmas.{prefix_of_law}

-- a step by its number
pub step_is : (steps : List TextStep) (n : ℕ) (d : TextStep) → n < length steps → step_at (map step_of steps) n ≡ step_of (get_or steps n d)
step_is steps n d l = get_or-map step_of steps n d _ l

pub steps_count : (steps : List TextStep) → length (map step_of steps) ≡ length steps
steps_count steps = length-map steps step_of

-- the steps before a place, the step there, and those behind it
pub step_split : (steps : List Step) (i : ℕ) → i < length steps → take i steps ++ step_at steps i ∷ drop (suc i) steps ≡ steps
step_split steps i l = ap (λ (xs : List Step). take i steps ++ xs) (sym (drop-cons steps i _ l)) ∙ take-append-drop i steps

pub step_next : (steps : List Step) (i : ℕ) → i < length steps → take (i + 1) steps ≡ take i steps ++ step_at steps i ∷ []
step_next steps i l = take_more steps i _ l

-- a prefix does not depend on the bound with which it is read off
same_within : (steps : List Step) (b c k : ℕ) → ((n : ℕ) → n < length steps → (step_at steps n).parent ≤ n) → k ≤ length steps → k < b → k < c → prefix_within steps b k ≡ prefix_within steps c k
same_within steps zero c k low few l m = absurd (omega (arith, l))
same_within steps (suc b) zero k low few l m = absurd (omega (arith, m))
same_within steps (suc b) (suc c) zero low few l m = refl
same_within steps (suc b) (suc c) (suc n) low few l m =
    let before = low n (omega (arith, few)) in
    ap (λ (xs : List ℕ). xs ++ (step_at steps n).arc ∷ []) (same_within steps b c (step_at steps n).parent low (omega (arith, before, few)) (omega (arith, before, l)) (omega (arith, before, m)))

-- the prefix of a node is its parent's, and the arc of its step
pub prefix_next : (steps : List Step) (n : ℕ) → ((k : ℕ) → k < length steps → (step_at steps k).parent ≤ k) → n < length steps → prefix_of steps (suc n) ≡ prefix_of steps (step_at steps n).parent ++ (step_at steps n).arc ∷ []
prefix_next steps n low l =
    let before = low n l in
    ap (λ (xs : List ℕ). xs ++ (step_at steps n).arc ∷ []) (same_within steps (suc n) (suc (step_at steps n).parent) (step_at steps n).parent low (omega (arith, before, l)) (omega (arith, before)) (omega arith))

-- one step further towards the root, while the arcs are read off from the last one on
pub prefix_back : (steps : List Step) (whole arcs : List ℕ) (n : ℕ) → ((k : ℕ) → k < length steps → (step_at steps k).parent ≤ k) → n < length steps → whole ≡ prefix_of steps (suc n) ++ reverse arcs
    → whole ≡ prefix_of steps (step_at steps n).parent ++ reverse (arcs ++ (step_at steps n).arc ∷ [])
prefix_back steps whole arcs n low l is =
    let a : ℕ = (step_at steps n).arc in
    let front : List ℕ = prefix_of steps (step_at steps n).parent in
    is ∙ (ap (λ (xs : List ℕ). xs ++ reverse arcs) (prefix_next steps n low l) ∙ (append_assoc front (a ∷ []) (reverse arcs) ∙ ap (λ (xs : List ℕ). front ++ xs) (sym (reverse-append arcs (a ∷ [])))))

-- the walks of the nodes below a number
abbrev pub seen : Setting → List Step → ℕ → List (List ℕ)
seen S steps i = map (prefix_of steps) (rows_of (node_vertex S steps) i S.graph.ends.sink)

seen_more : (S : Setting) (steps : List Step) (i : ℕ) → seen S steps (i + 1) ≡ seen S steps i ++ map (prefix_of steps) (cond (node_vertex S steps i == S.graph.ends.sink) (i ∷ []) [])
seen_more S steps i =
    ap (map (prefix_of steps)) (row_more (node_vertex S steps) i S.graph.ends.sink)
    ∙ map-append (prefix_of steps) (rows_of (node_vertex S steps) i S.graph.ends.sink) (cond (node_vertex S steps i == S.graph.ends.sink) (i ∷ []) [])

pub seen_walk : (S : Setting) (steps : List Step) (n : ℕ) → node_vertex S steps (suc n) ≡ S.graph.ends.sink → seen S steps (n + 1 + 1) ≡ seen S steps (n + 1) ++ prefix_of steps (suc n) ∷ []
seen_walk S steps n at =
    let here : n + 1 ≡ suc n = omega arith in
    let test : (node_vertex S steps (n + 1) == S.graph.ends.sink) ≡ true = ap (λ (k : ℕ). node_vertex S steps k == S.graph.ends.sink) here ∙ eq-eqb (node_vertex S steps (suc n)) S.graph.ends.sink at in
    seen_more S steps (n + 1)
    ∙ (ap (λ (xs : List ℕ). seen S steps (n + 1) ++ map (prefix_of steps) xs) (cond-true (node_vertex S steps (n + 1) == S.graph.ends.sink) ((n + 1) ∷ []) [] test)
    ∙ ap (λ (k : ℕ). seen S steps (n + 1) ++ prefix_of steps k ∷ []) here)

pub seen_other : (S : Setting) (steps : List Step) (n : ℕ) → node_vertex S steps (suc n) ≢ S.graph.ends.sink → seen S steps (n + 1 + 1) ≡ seen S steps (n + 1)
seen_other S steps n at =
    let here : n + 1 ≡ suc n = omega arith in
    let test : (node_vertex S steps (n + 1) == S.graph.ends.sink) ≡ false = ap (λ (k : ℕ). node_vertex S steps k == S.graph.ends.sink) here ∙ ne_eqb (node_vertex S steps (suc n)) S.graph.ends.sink at in
    seen_more S steps (n + 1)
    ∙ (ap (λ (xs : List ℕ). seen S steps (n + 1) ++ map (prefix_of steps) xs) (cond-false (node_vertex S steps (n + 1) == S.graph.ends.sink) ((n + 1) ∷ []) [] test) ∙ append-nil (seen S steps (n + 1)))

pub seen_none : (S : Setting) (steps : List Step) → S.graph.ends.source ≢ S.graph.ends.sink → [] ≡ seen S steps 1
seen_none S steps differ = sym (ap (λ (b : Bool). map (prefix_of steps) (cond b (0 ∷ []) [])) (ne_eqb S.graph.ends.source S.graph.ends.sink differ))

pub seen_all : (S : Setting) (steps : List Step) (n : ℕ) → n ≡ length steps → seen S steps (n + 1) ≡ walks_of S steps
seen_all S steps n is = let here : n + 1 ≡ node_count steps = omega (arith, is) in ap (seen S steps) here

-- the arc of a step is one of the graph
pub arc_there : (S : Setting) (steps : List Step) (n : ℕ) → IsTree S steps → n < length steps → (step_at steps n).arc < length S.graph.arcs
arc_there S steps n tree l =
    let whole = tree.each (suc n) (prefix_of steps (suc n)) (prefix_of_law S steps (suc n) tree (omega (arith, l))) in
    let leads = subst (λ (xs : List ℕ). Leads S.graph S.graph.ends.source xs (node_vertex S steps (suc n))) (prefix_next steps n tree.parents l) whole.leads in
    (leads_split S.graph S.graph.ends.source (prefix_of steps (step_at steps n).parent) ((step_at steps n).arc ∷ []) (node_vertex S steps (suc n)) leads).2.0
