-- A node that lists the walks of a place, and the trees that a certificate's text can tell.
use Rattle.std.proofs.Common.{◌≡◌, ℕ, suc, ◌+◌, ◌<◌, ◌≤◌, ℤ, pos, take, List, [], ◌∷◌, ◌++◌, All, length, get_or, map, refl, sym, ◌∙◌, ap, subst, arith}
use Rattle.std.specs.Prelude.{reverse}
use Rattle.std.proofs.lemmas.List.{get_or-map, get_or_default, length-map, map-append, take_all, take_more}
use Rattle.std.proofs.lemmas.List.Sums.{get_or-le-sum_by}
use Rattle.path_graph.specs.Walk.{GraphParts, Leads}
use Rattle.route_model.specs.declared.places.Span.{Span}
use Rattle.route_model.specs.declared.places.Spot.{Spot}
use Rattle.route_model.specs.Parts.{ModelParts, graph_in}
use Rattle.route_model.specs.Places.{span_at}
use Rattle.label_rules.specs.Labels.{Setting}
use Rattle.proof_rules.specs.Nodes.{AtPlace, IsList, first_box, first_boxes}
use Rattle.proof_rules.specs.PrefixTrees.{IsPrefix, IsTree, Step, node_vertex, prefix_of, prefix_within, step_at}
use Rattle.proof_rules.specs.Proofs.{setting_of}
use Rattle.proof_rules.proofs.PrefixTreeLemmas.{prefix_of_law}
use Rattle.certificate.specs.declared.cert.NodeForm.TheVariants as node
use Rattle.certificate.specs.declared.cert.Step.{Step as TextStep}
use Rattle.certificate.specs.declared.cert.Trie.{Trie}
use Rattle.certificate.specs.CertText.{StepFits, TrieFits}
use Rattle.certificate.specs.Sizes.{graph_sizes, sizes_of}
use Rattle.cert_rules.specs.Meaning.{step_of, steps_of}
use Rattle.cert_check.specs.Faults.{AreNamed}
use Rattle.cert_check.proofs.NameLemmas.{in_order, steps_at}
use Rattle.walk_list.specs.declared.walks.ListedWalk.{ListedWalk}
use Rattle.walk_list.specs.Listings.{AreComplete, AreFew}
use Rattle.walk_list.specs.Walks.{walk_said, walks_said}
use Rattle.made_nodes.specs.Made.{IsMade}
use Rattle.search_tree.specs.declared.places.OpenPlace.{OpenPlace}
use Rattle.search_tree.specs.Places.{all_valued}
use Rattle.place_nodes.specs.declared.proof.Known.{Known}
use Rattle.place_nodes.specs.declared.task.Task.{Task}
use Rattle.place_nodes.specs.Bounds.{IsOpenBound}
use Rattle.place_nodes.specs.Lists.{counts_opened}
use Rattle.place_nodes.specs.Proofs.{IsOf, IsPlaceProof, proof_in}
use Rattle.place_nodes.specs.Tasks.{TaskFits}
use Rattle.place_nodes.specs.Worked.{IsNodeAt}
use Rattle.place_nodes.proofs.NodeLemmas.{node_at}

-- the boxes of one walk more
pub boxes_more : (spot : Spot) (walks : List ListedWalk) (i : ℕ) (walk : ListedWalk) (boxes new : List Span) (box : Span) → i < length walks → walk ≡ get_or walks i walk → boxes ≡ first_boxes spot (walks_said (take i walks))
    → box.low ≡ pos 0 → box.high ≡ (span_at spot.boxes.paths walk.graph).high → new ≡ boxes ++ box ∷ [] → new ≡ first_boxes spot (walks_said (take (i + 1) walks))
boxes_more spot walks i walk boxes new box l is before low high pushed =
    let one : box ≡ first_box spot (walk_said walk) = λ j. record { low = low j; high = high j } in
    let walk_is : first_box spot (walk_said walk) ≡ first_box spot (walk_said (get_or walks i walk)) = ap (λ (w : ListedWalk). first_box spot (walk_said w)) is in
    let cut = ap (λ (ws : List ListedWalk). first_boxes spot (walks_said ws)) (take_more walks i walk l)
    ∙ (ap (first_boxes spot) (map-append walk_said (take i walks) (get_or walks i walk ∷ [])) ∙ map-append (first_box spot) (walks_said (take i walks)) (walk_said (get_or walks i walk) ∷ [])) in
    pushed ∙ ((λ j. before j ++ (one ∙ walk_is) j ∷ []) ∙ sym cut)

-- of all
pub boxes_all : (spot : Spot) (walks : List ListedWalk) (i : ℕ) (boxes : List Span) → length walks ≤ i → boxes ≡ first_boxes spot (walks_said (take i walks)) → boxes ≡ first_boxes spot (walks_said walks)
boxes_all spot walks i boxes past are = are ∙ ap (λ (ws : List ListedWalk). first_boxes spot (walks_said ws)) (take_all i walks past)

-- the arc of a step is one of the graph
leads_last : (g : GraphParts) (v : ℕ) (front : List ℕ) (a w : ℕ) → Leads g v (front ++ a ∷ []) w → a < length g.arcs
leads_last g v [] a w leads = leads.0
leads_last g v (x ∷ front) a w leads = leads_last g _ front a w leads.2

step_arc : (S : Setting) (steps : List Step) (n : ℕ) → IsTree S steps → n < length steps → (step_at steps n).arc < length S.graph.arcs
step_arc S steps n tree l =
    let prefix : IsPrefix steps (suc n) (prefix_of steps (suc n)) = prefix_of_law S steps (suc n) tree (omega (arith, l)) in
    let elementary = tree.each (suc n) (prefix_of steps (suc n)) prefix in
    leads_last S.graph S.graph.ends.source (prefix_within steps (suc n) (step_at steps n).parent) (step_at steps n).arc (node_vertex S steps (suc n)) elementary.leads

-- the numbers of a tree's steps are small
steps_fit : (S : Setting) (steps : List TextStep) → IsTree S (map step_of steps) → length S.graph.arcs ≤ 60000 → length steps ≤ 16777216 → All StepFits steps
steps_fit S steps tree arcs few n d l =
    let inside : n < length (map step_of steps) = omega (arith, l, length-map steps step_of) in
    let is : step_at (map step_of steps) n ≡ step_of (get_or steps n d) = get_or-map step_of steps n d _ l in
    let parent = tree.parents n inside in
    let arc = step_arc S (map step_of steps) n tree inside in (
      omega (arith, ap (λ (s : Step). s.parent) is, parent, l, few),
      omega (arith, ap (λ (s : Step). s.arc) is, arc, arcs),
    )

module _ (t : Task) (k : Known) (tries : List Trie) (fits : TaskFits t) (is : IsPlaceProof t.model.now t.spot.now k)
    (complete : AreComplete t.model.now t.spot.now (IsOf t k) t.z tries) (most : AreFew t.limit tries) where
  abbrev none : Trie
  none = record { graph = 0; steps = [] }

  trie_fits : (i : ℕ) (d : Trie) → i < length tries → TrieFits (sizes_of t.model.now) (get_or tries i d)
  trie_fits i d l =
      let m : ModelParts = t.model.now in
      let trie : Trie = get_or tries i d in
      let inside : i < length m.graphs = omega (arith, l, complete.order.count_is) in
      let tree : IsTree (setting_of m t.spot.now (proof_in t k) i) (steps_of trie) =
      subst (IsTree (setting_of m t.spot.now (proof_in t k) i)) (steps_at tries i d l) (complete.each (proof_in t k) is.parts i inside).tree in
      let name : trie.graph ≡ i = ap (λ (x : Trie). x.graph) (sym (get_or_default tries i none d l)) ∙ complete.order.graphs i inside in
      let arcs : length (graph_in m.graphs i).arcs ≤ 60000 = (fits.model.graphs.each i (graph_in [] 0) inside).graph.fits.few_arcs in
      let part = get_or-le-sum_by length (map steps_of tries) i [] (omega (arith, l, length-map tries steps_of)) in
      let size : length (get_or (map steps_of tries) i []) ≡ length trie.steps = ap (λ (steps : List Step). length steps) (steps_at tries i d l) ∙ length-map trie.steps step_of in
      let few : length trie.steps ≤ 16777216 = omega (arith, part, size, most, fits.few) in
      record {
        graph = omega (arith, name, inside, length-map m.graphs graph_sizes);
        steps = steps_fit (setting_of m t.spot.now (proof_in t k) i) trie.steps tree arcs few;
        few = few;
      }

  tries_fit : All (TrieFits (sizes_of t.model.now)) tries
  tries_fit = trie_fits

  named : AreNamed t.model.now tries
  named = (in_order tries (length t.model.now.graphs) complete.order.count_is complete.order.graphs).0 refl

  stands : IsList t.model.now t.z t.spot.now (proof_in t k) (map steps_of tries)
  stands = record {
    proof = is.stands;
    both = is.both;
    count = length-map tries steps_of ∙ complete.order.count_is;
    each = complete.each (proof_in t k) is.parts;
  }

  list_made : (b : ℤ) → IsOpenBound t k b → IsMade t.model.now t.z (AtPlace t.spot.now) (record { form = node.List k.proof tries; bound = b })
  list_made b open_at = record {
    is_node = stands;
    has_proof = tt;
    bound = open_at.is;
    drops = tt;
    named = named;
    told = (is.told, tries_fit);
    proof_told = tt;
  }

  pub list_at : (b : ℤ) (opened : List OpenPlace) → IsOpenBound t k b → all_valued (reverse opened) ≡ counts_opened t k tries
      → IsNodeAt t.model.now t.spot.now t.value t.z t.limit (record { form = node.List k.proof tries; bound = b }) opened
  list_at b opened open_at opens = node_at t (record { form = node.List k.proof tries; bound = b }) opened fits (list_made b open_at) open_at.below opens tt
