-- The list of the walks of a tree.
use Rattle.std.proofs.Common.{◌≡◌, ◌≢◌, ◌==◌, ℕ, zero, suc, ◌<◌, Bool, true, List, [], ◌∷◌, length, get_or, map, inl, inr, refl, sym, ◌∙◌, ap, subst, arith}
use Rattle.std.specs.Prelude.{Contains, filter, All}
use Rattle.std.specs.List.{range_with_len, AllZip, AllPairs}
use Rattle.std.proofs.lemmas.Bool.{cases_Bool, eq-eqb, eqb-true, cond-true, cond-false}
use Rattle.std.proofs.lemmas.List.Elements.{All-filter, All-head, All-tail, filter_passes}
use Rattle.std.proofs.lemmas.List.Kept.{AllPairs-filter}
use Rattle.std.proofs.lemmas.List.FromFn.{length-range_with_len, get_or-range_with_len}
use Rattle.label_rules.specs.Labels.{Setting}
use Rattle.proof_rules.specs.PrefixLaws.{ArePartialWalks, PartialWalksLaw, WalksDifferLaw, WalksListedLaw}
use Rattle.proof_rules.specs.PrefixTrees.{IsListed, IsPrefix, IsTree, Step, node_count, node_vertex, prefix_of, sink_nodes, walks_of}
use Rattle.proof_rules.proofs.PrefixTreeLemmas.{down_within, prefix_of_law, one_prefix, one_node}

-- what is contained further on
pub contains_more : {X : Type 0} (x : X) (xs : List X) (y : X) → Contains xs y → Contains (x ∷ xs) y
contains_more x xs y h = (suc h.0, omega (arith, h.1), h.2)

-- what passes the test is kept
kept_at : {X : Type 0} (test : X → Bool) (xs : List X) (x : X) (k : ℕ) → test x ≡ true → k < length xs → get_or xs k x ≡ x → Contains (filter test xs) x
kept_at {X} test [] x k passes l e = absurd (omega (arith, l))
kept_at {X} test (y ∷ ys) x zero passes l e =
    let kept : filter test (y ∷ ys) ≡ y ∷ filter test ys = cond-true (test y) (y ∷ filter test ys) (filter test ys) (ap test e ∙ passes) in
    subst (λ (zs : List X). Contains zs x) (sym kept) (0, omega arith, e)
kept_at {X} test (y ∷ ys) x (suc k) passes l e =
    let more = kept_at test ys x k passes (omega (arith, l)) e in
    elim (cases_Bool (test y)) [
      | inl t ↦ subst (λ (zs : List X). Contains zs x) (sym (cond-true (test y) (y ∷ filter test ys) (filter test ys) t)) (contains_more y (filter test ys) x more)
      | inr f ↦ subst (λ (zs : List X). Contains zs x) (sym (cond-false (test y) (y ∷ filter test ys) (filter test ys) f)) more
    ]

-- lists whose elements are related each to each
pub zip_made : {A B : Type 0} (R : A → B → Type 0) (xs : List A) → ((x : A) → Contains xs x → (y : B) × R x y) → (ys : List B) × AllZip R xs ys
zip_made R [] each = ([], tt)
zip_made R (x ∷ xs) each =
    let here = each x (0, omega arith, refl) in
    let more = zip_made R xs (λ y h. each y (contains_more x xs y h)) in
    (here.0 ∷ more.0, (here.1, more.1))

pub zip_at : {A B : Type 0} (R : A → B → Type 0) (xs : List A) (ys : List B) (i : ℕ) (d : A) (e : B) → AllZip R xs ys → i < length ys → (i < length xs) × R (get_or xs i d) (get_or ys i e)
zip_at R [] [] i d e h l = absurd (omega (arith, l))
zip_at R [] (y ∷ ys) i d e h l = absurd h
zip_at R (x ∷ xs) [] i d e h l = absurd h
zip_at R (x ∷ xs) (y ∷ ys) zero d e h l = (omega arith, h.0)
zip_at R (x ∷ xs) (y ∷ ys) (suc i) d e h l =
    let more = zip_at R xs ys i d e h.1 (omega (arith, l)) in
    (omega (arith, more.0), more.1)

pub zip_size : {A B : Type 0} (R : A → B → Type 0) (xs : List A) (ys : List B) → AllZip R xs ys → length ys ≡ length xs
zip_size R [] [] h = refl
zip_size R [] (y ∷ ys) h = absurd h
zip_size R (x ∷ xs) [] h = absurd h
zip_size R (x ∷ xs) (y ∷ ys) h = ap suc (zip_size R xs ys h.1)

zip_across : {A B : Type 0} (R : A → B → Type 0) (xs : List A) (ys : List B) (x : A) (k : ℕ) → AllZip R xs ys → k < length xs → get_or xs k x ≡ x → (y : B) × Contains ys y × R x y
zip_across R [] [] x k h l e = absurd (omega (arith, l))
zip_across R [] (z ∷ ys) x k h l e = absurd h
zip_across R (w ∷ xs) [] x k h l e = absurd h
zip_across {A} R (w ∷ xs) (z ∷ ys) x zero h l e = (z, (0, omega arith, refl), subst (λ (v : A). R v z) e h.0)
zip_across R (w ∷ xs) (z ∷ ys) x (suc k) h l e =
    let more = zip_across R xs ys x k h.1 (omega (arith, l)) e in
    (more.0, contains_more z ys more.0 more.1, more.2)

-- the nodes at the sink
abbrev is_sink : Setting → List Step → ℕ → Bool
is_sink S steps k = node_vertex S steps k == S.graph.ends.sink

abbrev nodes : List Step → List ℕ
nodes steps = range_with_len 0 (node_count steps)

nodes_at : (steps : List Step) (i d : ℕ) → i < length (nodes steps) → (i < node_count steps) × (get_or (nodes steps) i d ≡ i)
nodes_at steps i d l =
    let within : i < node_count steps = omega (arith, l, length-range_with_len 0 (node_count steps)) in
    (within, omega (arith, get_or-range_with_len 0 (node_count steps) i d within))

pub nodes_within : (S : Setting) (steps : List Step) → All (λ k. k < node_count steps) (sink_nodes S steps)
nodes_within S steps =
    All-filter (is_sink S steps) (λ k. k < node_count steps) (nodes steps) (λ i d l.
    let at = nodes_at steps i d l in
    omega (arith, at.0, at.1))

nodes_rise : (S : Setting) (steps : List Step) → AllPairs (λ x y. x < y) (sink_nodes S steps)
nodes_rise S steps =
    AllPairs-filter (λ x y. x < y) (is_sink S steps) (nodes steps) (λ i j d less l.
    let first = nodes_at steps i d (omega (arith, less, l)) in
    let second = nodes_at steps j d l in
    omega (arith, less, first.1, second.1))

node_in : (S : Setting) (steps : List Step) (k : ℕ) → k < node_count steps → node_vertex S steps k ≡ S.graph.ends.sink → Contains (sink_nodes S steps) k
node_in S steps k l e =
    let there : k < length (nodes steps) = omega (arith, l, length-range_with_len 0 (node_count steps)) in
    kept_at (is_sink S steps) (nodes steps) k k (eq-eqb (node_vertex S steps k) S.graph.ends.sink e) there (nodes_at steps k k there).1

zip_map : {A B : Type 0} (R : A → B → Type 0) (f : A → B) (xs : List A) → All (λ x. R x (f x)) xs → AllZip R xs (map f xs)
zip_map R f [] each = tt
zip_map R f (x ∷ xs) each = (All-head (λ y. R y (f y)) x xs each, zip_map R f xs (All-tail (λ y. R y (f y)) x xs each))

abbrev AreWalks : Setting → List Step → List (List ℕ) → Type 0
AreWalks S steps walks = AllZip (IsPrefix steps) (sink_nodes S steps) walks

are_walks : (S : Setting) (steps : List Step) → IsTree S steps → AreWalks S steps (walks_of S steps)
are_walks S steps tree =
    zip_map (IsPrefix steps) (prefix_of steps) (sink_nodes S steps)
    (λ i d l. prefix_of_law S steps (get_or (sink_nodes S steps) i d) tree (nodes_within S steps i d l))

walk_listed : (S : Setting) (steps : List Step) (walks : List (List ℕ)) (walk : List ℕ) → AreWalks S steps walks → Contains walks walk → IsListed S steps walk
walk_listed S steps walks walk are h =
    let at = zip_at (IsPrefix steps) (sink_nodes S steps) walks h.0 0 walk are h.1 in
    let node : ℕ = get_or (sink_nodes S steps) h.0 0 in
    record {
      node = node;
      at_sink = eqb-true (node_vertex S steps node) S.graph.ends.sink (filter_passes (is_sink S steps) (nodes steps) h.0 0 at.0);
      prefix = subst (IsPrefix steps node) h.2 at.1;
    }

listed_walk : (S : Setting) (steps : List Step) (walks : List (List ℕ)) (walk : List ℕ) → IsTree S steps → AreWalks S steps walks → IsListed S steps walk → Contains walks walk
listed_walk S steps walks walk tree are is =
    let in' = node_in S steps is.node (down_within steps 0 walk is.node (omega arith) is.prefix) is.at_sink in
    let at = zip_across (IsPrefix steps) (sink_nodes S steps) walks is.node in'.0 are in'.1 in'.2 in
    subst (Contains walks) (one_prefix S steps is.node at.0 walk tree at.2 is.prefix) at.1

pub walks_listed : WalksListedLaw
walks_listed S steps walk tree =
    let are = are_walks S steps tree in
    (walk_listed S steps (walks_of S steps) walk are, listed_walk S steps (walks_of S steps) walk tree are)

prefixes_differ : (S : Setting) (steps : List Step) (at_nodes : List ℕ) (prefixes : List (List ℕ)) → IsTree S steps → AllPairs (λ x y. x < y) at_nodes → AllZip (IsPrefix steps) at_nodes prefixes
    → AllPairs (λ x y. x ≢ y) prefixes
prefixes_differ S steps at_nodes prefixes tree rise are i j d less l same =
    let first = zip_at (IsPrefix steps) at_nodes prefixes i 0 d are (omega (arith, less, l)) in
    let second = zip_at (IsPrefix steps) at_nodes prefixes j 0 d are l in
    let node = one_node S steps (get_or at_nodes i 0) (get_or at_nodes j 0) (get_or prefixes j d) tree (subst (IsPrefix steps (get_or at_nodes i 0)) same first.1) second.1 in
    let above = rise i j 0 less second.0 in
    omega (arith, node, above)

pub walks_differ : WalksDifferLaw
walks_differ S steps tree = prefixes_differ S steps (sink_nodes S steps) (walks_of S steps) tree (nodes_rise S steps) (are_walks S steps tree)

-- the nodes but the first
abbrev made : List Step → List ℕ
made steps = range_with_len 1 (length steps)

made_at : (steps : List Step) (i d : ℕ) → i < length (made steps) → (i < length steps) × (get_or (made steps) i d ≡ suc i)
made_at steps i d l =
    let within : i < length steps = omega (arith, l, length-range_with_len 1 (length steps)) in
    (within, omega (arith, get_or-range_with_len 1 (length steps) i d within))

made_rise : (steps : List Step) → AllPairs (λ x y. x < y) (made steps)
made_rise steps i j d less l =
    let first = made_at steps i d (omega (arith, less, l)) in
    let second = made_at steps j d l in
    omega (arith, less, first.1, second.1)

made_prefixes : (S : Setting) (steps : List Step) → IsTree S steps → (prefixes : List (List ℕ)) × AllZip (IsPrefix steps) (made steps) prefixes
made_prefixes S steps tree =
    zip_made (IsPrefix steps) (made steps) (λ k h.
    let at = made_at steps h.0 k h.1 in
    (prefix_of steps k, prefix_of_law S steps k tree (omega (arith, at.0, at.1, h.2))))

are_partial_walks : (S : Setting) (steps : List Step) (prefixes : List (List ℕ)) → IsTree S steps → AllZip (IsPrefix steps) (made steps) prefixes → ArePartialWalks S prefixes
are_partial_walks S steps prefixes tree are = record {
  some = λ i d l e.
      let at = zip_at (IsPrefix steps) (made steps) prefixes i 0 d are l in
      let node = made_at steps i 0 at.0 in
      let root = subst (IsPrefix steps (get_or (made steps) i 0)) e at.1 in
      omega (arith, node.1, root);
  each = λ i d l.
      let at = zip_at (IsPrefix steps) (made steps) prefixes i 0 d are l in
      let node : ℕ = get_or (made steps) i 0 in
      (node_vertex S steps node, tree.each node (get_or prefixes i d) at.1);
  differ = prefixes_differ S steps (made steps) prefixes tree (made_rise steps) are;
}

pub partial_walks : PartialWalksLaw
partial_walks S steps tree =
    let all = made_prefixes S steps tree in (
      all.0,
      zip_size (IsPrefix steps) (made steps) all.0 all.1 ∙ length-range_with_len 1 (length steps),
      are_partial_walks S steps all.0 tree all.1,
    )
