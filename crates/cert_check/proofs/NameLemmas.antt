-- Trees that are named in order, and the walks of all trees.
use Rattle.std.proofs.Common.{◌≡◌, ℕ, suc, ◌+◌, ◌<◌, ℤ, true, false, inl, inr, None, Some, List, [], ◌∷◌, ◌++◌, length, map, take, get_or, refl, sym, ap, subst, ◌∙◌, arith, append_assoc}
use Rattle.std.specs.Prelude.{IsTrue, ◌↔◌}
use Rattle.std.specs.List.{range_with_len}
use Rattle.std.proofs.lemmas.Bool.{cases_lt}
use Rattle.std.proofs.Math.ListN.{get_or-map}
use Rattle.std.proofs.lemmas.List.{append-nil, get_or_default, length-map, length-take-le, take_all, take_more}
use Rattle.std.proofs.lemmas.List.FromFn.{fill_by_all, get_or-range_with_len, length-range_with_len}
use Rattle.path_graph.specs.First.{EachBelow}
use Rattle.route_model.specs.declared.places.Spot.{Spot}
use Rattle.route_model.specs.Parts.{ModelParts}
use Rattle.proof_rules.specs.Counts.{Walk}
use Rattle.proof_rules.specs.Nodes.{listed_walks, tree_at, walks_from, walks_in}
use Rattle.proof_rules.specs.PrefixTrees.{IsComplete, Step, walks_of}
use Rattle.proof_rules.specs.Proofs.{Proof, setting_of, table_at, walk_limit}
use Rattle.certificate.specs.declared.cert.Proof.{Proof as CertProof}
use Rattle.certificate.specs.declared.cert.Trie.{Trie}
use Rattle.cert_rules.specs.Meaning.{proof_of, steps_of}
use Rattle.proof_check.specs.declared.proved.Proved.{Proved}
use Rattle.proof_check.specs.Checked.{limit_in, proof_in, setting_in, table_in}
use Rattle.cert_check.specs.declared.stack.Listed.{Listed}
use Rattle.cert_check.specs.Frames.{walks_said}
use Rattle.cert_check.specs.Lists.{AreListedBy, ListsWalks, trie_at}
use Rattle.cert_check.specs.Faults.{AreListed, AreNamed}
use Rattle.proof_check.specs.Demands.{IsSound}

map_same : (xs : List ℕ) → map (λ k. k) xs ≡ xs
map_same [] = refl
map_same (x ∷ xs) = ap (λ (ys : List ℕ). x ∷ ys) (map_same xs)

abbrev names : List Trie → List ℕ
names tries = map (λ (t : Trie). t.graph) tries

name_at : (tries : List Trie) (k : ℕ) → get_or (names tries) k 0 ≡ (trie_at tries k).graph
name_at tries k = get_or-map (λ (t : Trie). t.graph) tries k (record { graph = 0; steps = [] })

pub in_order : (tries : List Trie) (n : ℕ) → length tries ≡ n → EachBelow n (λ k. (trie_at tries k).graph ≡ k) → IsTrue true ↔ (names tries ≡ range_with_len 0 n)
in_order tries n size each =
    ((λ t. fill_by_all (λ k. k) (names tries) n 0 (length-map tries (λ (t : Trie). t.graph) ∙ size) (λ k below. name_at tries k ∙ each k below) ∙ map_same (range_with_len 0 n)), (λ e. refl))

pub not_in_order : (tries : List Trie) (n k : ℕ) → k < n → ¬ ((trie_at tries k).graph ≡ k) → IsTrue false ↔ (names tries ≡ range_with_len 0 n)
not_in_order tries n k below other =
    ((λ t. cc), (λ e. absurd (other (sym (name_at tries k) ∙ (ap (λ (xs : List ℕ). get_or xs k 0) e ∙ (get_or-range_with_len 0 n k 0 below ∙ (omega arith)))))))

pub not_so_many : (tries : List Trie) (n : ℕ) → ¬ (length tries ≡ n) → IsTrue false ↔ (names tries ≡ range_with_len 0 n)
not_so_many tries n other =
    ((λ t. cc), (λ e. absurd (other (sym (length-map tries (λ (t : Trie). t.graph)) ∙ (ap (λ (xs : List ℕ). length xs) e ∙ length-range_with_len 0 n)))))

-- the steps of a tree by its place
pub steps_at : (tries : List Trie) (k : ℕ) (d : Trie) → k < length tries → tree_at (map steps_of tries) k ≡ steps_of (get_or tries k d)
steps_at tries k d below = get_or-map steps_of tries k (record { graph = 0; steps = [] }) ∙ ap steps_of (get_or_default tries k (record { graph = 0; steps = [] }) d below)

-- the walks of one tree more
walks_push : (m : ModelParts) (spot : Spot) (p : Proof) (g : ℕ) (trees : List (List Step)) (tree : List Step)
    → walks_from m spot p g (trees ++ tree ∷ []) ≡ walks_from m spot p g trees ++ walks_in (g + length trees) (walks_of (setting_of m spot p (g + length trees)) tree)
walks_push m spot p g [] tree =
    let e : g ≡ g + 0 = omega arith in
    append-nil (walks_in g (walks_of (setting_of m spot p g) tree)) ∙ ap (λ (h : ℕ). walks_in h (walks_of (setting_of m spot p h) tree)) e
walks_push m spot p g (t ∷ trees) tree =
    let here : List Walk = walks_in g (walks_of (setting_of m spot p g) t) in
    let e : suc g + length trees ≡ g + suc (length trees) = omega arith in
    ap (λ (ws : List Walk). here ++ ws) (walks_push m spot p (suc g) trees tree
    ∙ ap (λ (h : ℕ). walks_from m spot p (suc g) trees ++ walks_in h (walks_of (setting_of m spot p h) tree)) e)
    ∙ sym (append_assoc here (walks_from m spot p (suc g) trees) (walks_in (g + suc (length trees)) (walks_of (setting_of m spot p (g + suc (length trees))) tree)))

-- the trees so far are complete, and these are their walks
pub record AreSoFar (at : Proved) (z : ℤ) (tries : List Trie) (g : ℕ) (walks : List Listed) : Type 0 where
  pub complete : EachBelow g (λ k. IsComplete (setting_in at k) (table_in at k).back (limit_in at z k) (tree_at (map steps_of tries) k))
  pub are : walks_said walks ≡ walks_from at.model.now at.spot.now (proof_in at) 0 (take g (map steps_of tries))

pub so_far_more : (at : Proved) (z : ℤ) (tries : List Trie) (g : ℕ) (trie : Trie) (walks new : List Listed) (more : List (List ℕ)) → g < length tries → trie ≡ get_or tries g trie → AreSoFar at z tries g walks
    → IsComplete (setting_in at g) (table_in at g).back (limit_in at z g) (steps_of trie) → more ≡ walks_of (setting_in at g) (steps_of trie)
    → walks_said new ≡ walks_said walks ++ walks_in g more → AreSoFar at z tries (g + 1) new
so_far_more at z tries g trie walks new more below is before complete walks_are made =
    let trees : List (List Step) = map steps_of tries in
    let inside : g < length trees = omega (arith, below, length-map tries steps_of) in
    let same : tree_at trees g ≡ steps_of trie = steps_at tries g trie below ∙ ap steps_of (sym is) in
    let size : 0 + length (take g trees) ≡ g = omega (arith, length-take-le g trees (omega (arith, inside))) in
    let m : ModelParts = at.model.now in
    let pushed : walks_from m at.spot.now (proof_in at) 0 (take (g + 1) trees) ≡ walks_from m at.spot.now (proof_in at) 0 (take g trees) ++ walks_in g (walks_of (setting_in at g) (tree_at trees g)) =
    ap (walks_from m at.spot.now (proof_in at) 0) (take_more trees g [] inside) ∙ (walks_push m at.spot.now (proof_in at) 0 (take g trees) (tree_at trees g)
    ∙ ap (λ (h : ℕ). walks_from m at.spot.now (proof_in at) 0 (take g trees) ++ walks_in h (walks_of (setting_of m at.spot.now (proof_in at) h) (tree_at trees g))) size) in
    let one : walks_in g more ≡ walks_in g (walks_of (setting_in at g) (tree_at trees g)) = ap (walks_in g) (walks_are ∙ ap (walks_of (setting_in at g)) (sym same)) in
    record {
      complete = below_more g before.complete (subst (IsComplete (setting_in at g) (table_in at g).back (limit_in at z g)) (sym same) complete);
      are = made ∙ ((λ i. before.are i ++ one i) ∙ sym pushed);
    }
  where
    below_more : {P : ℕ → Type 0} (n : ℕ) → EachBelow n P → P n → EachBelow (n + 1) P
    below_more {P} n each here k l = elim (cases_lt k n) [
      | inl less ↦ each k less
      | inr most ↦ let e : n ≡ k = omega arith in subst P e here
    ]

pub so_far_none : (at : Proved) (z y : ℤ) (tries : List Trie) (g : ℕ) (trie : Trie) → y ≡ z → g < length tries → trie ≡ get_or tries g trie
    → ¬ (IsComplete (setting_in at g) (table_in at g).back (limit_in at y g) (steps_of trie)) → AreListedBy at z tries None
so_far_none at z y tries g trie read below is none all =
    let same : tree_at (map steps_of tries) g ≡ steps_of trie = steps_at tries g trie below ∙ ap steps_of (sym is) in
    none (subst (λ (x : ℤ). IsComplete (setting_in at g) (table_in at g).back (limit_in at x g) (steps_of trie)) (sym read) (subst (IsComplete (setting_in at g) (table_in at g).back (limit_in at z g)) same (all g below)))

pub so_far_all : (at : Proved) (z y : ℤ) (tries : List Trie) (g : ℕ) (walks : List Listed) → y ≡ z → g ≡ length tries → AreSoFar at y tries g walks → AreListedBy at z tries (Some walks)
so_far_all at z y tries g walks read whole so =
    let read_so : AreSoFar at z tries (length tries) walks = subst (λ (n : ℕ). AreSoFar at z tries n walks) whole (subst (λ (x : ℤ). AreSoFar at x tries g walks) read so) in
    (read_so.complete, read_so.are ∙ ap (walks_from at.model.now at.spot.now (proof_in at) 0) (take_all (length tries) (map steps_of tries) (omega (arith, length-map tries steps_of))))

pub so_far_begins : (at : Proved) (z : ℤ) (tries : List Trie) (walks : List Listed) → walks ≡ [] → AreSoFar at z tries 0 walks
so_far_begins at z tries walks none = record { complete = λ k l. absurd (omega (arith, l)); are = ap walks_said none }

-- as many trees as graphs
pub named_size : (m : ModelParts) (tries : List Trie) → AreNamed m tries → length tries ≡ length m.graphs
named_size m tries named = sym (length-map tries (λ (t : Trie). t.graph)) ∙ (ap (λ (xs : List ℕ). length xs) named ∙ length-range_with_len 0 (length m.graphs))

-- what the trees say of a list node
abbrev AreWhole : ModelParts → ℤ → Spot → CertProof → List Trie → Type 0
AreWhole m y spot p tries =
    EachBelow (length tries) (λ g. IsComplete (setting_of m spot (proof_of m p) g) (table_at (proof_of m p).tables g).back (walk_limit m spot (proof_of m p) y g) (tree_at (map steps_of tries) g))

pub none_listed : (m : ModelParts) (spot : Spot) (p : CertProof) (z y : ℤ) (tries : List Trie) → y ≡ z → AreNamed m tries → ¬ (AreWhole m y spot p tries) → ¬ (AreListed m z spot (proof_of m p) tries)
none_listed m spot p z y tries read named none listed =
    let each : AreWhole m z spot p tries = λ k l. listed.each k (omega (arith, l, named_size m tries named)) in
    none (subst (λ (x : ℤ). AreWhole m x spot p tries) (sym read) each)

pub all_listed : (m : ModelParts) (spot : Spot) (p : CertProof) (z y : ℤ) (tries : List Trie) (walks : List Listed) → y ≡ z → AreNamed m tries → IsSound m spot p true
    → AreWhole m y spot p tries × (walks_said walks ≡ listed_walks m spot (proof_of m p) (map steps_of tries))
    → ListsWalks m z spot p tries walks
all_listed m spot p z y tries walks read named sound by =
    let each : AreWhole m z spot p tries = subst (λ (x : ℤ). AreWhole m x spot p tries) read by.0 in
    let size = named_size m tries named in
    record {
      stands = (
        record {
          proof = sound.proof;
          both = sound.both refl;
          count = length-map tries steps_of ∙ size;
          each = λ k l. each k (omega (arith, l, size));
        },
        named,
      );
      are = by.1;
    }
