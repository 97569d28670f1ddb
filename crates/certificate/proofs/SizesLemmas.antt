-- The sizes of a model keep its limits.
use Rattle.std.proofs.Common.{◌≡◌, ℕ, ◌+◌, ◌<◌, List, [], ◌∷◌, ◌++◌, length, take, get_or, slice_index, reverse, append_assoc, ap, sym, ◌∙◌, arith}
use Rattle.std.specs.List.{flat_map}
use Rattle.std.proofs.lemmas.List.{length-map, reverse-append}
use Rattle.std.proofs.lemmas.List.Elements.{All-map}
use Rattle.route_model.specs.Parts.{ModelParts}
use Rattle.route_model.specs.Fit.{ModelFits}
use Rattle.model_text.proofs.LineLemmas.{flat_map_at}
use Rattle.certificate.specs.declared.draft.DropLine.{DropLine}
use Rattle.certificate.specs.declared.cert.Node.{Node}
use Rattle.certificate.specs.declared.draft.NodeDraft.{NodeDraft}
use Rattle.certificate.specs.declared.sizes.Sizes.{Sizes}
use Rattle.certificate.specs.Meaning.{arcs_of, node_of, nodes_from}
use Rattle.certificate.specs.Sizes.{graph_sizes, sizes_of, GraphSizesFit, SizesFit}

pub sizes_fit : (m : ModelParts) → ModelFits m → SizesFit (sizes_of m)
sizes_fit m fits =
    record {
      vars = fits.vars.few;
      rows = fits.rows.few;
      sets = fits.few_sets;
      graphs = let few = fits.graphs.few in let size = length-map m.graphs graph_sizes in omega (arith, few, size);
      each = All-map GraphSizesFit graph_sizes m.graphs (λ k d below. let g = (fits.graphs.each k d below).graph.fits in record { vertices = g.few_vertices; mains = g.ends_fit.mains; seconds = g.ends_fit.seconds });
    }

-- one more line of dropped arcs
pub drops_more : (lines : List DropLine) (i : ℕ) (line d : DropLine) (old new : List (ℕ × ℕ)) → i < length lines → old ≡ flat_map arcs_of (take i lines) → line ≡ get_or lines i d → new ≡ old ++ arcs_of line → new ≡ flat_map arcs_of (take (i + 1) lines)
drops_more lines i line d old new within so_far here is =
    is ∙ (ap (λ xs. xs ++ arcs_of line) so_far ∙ (ap (λ l. flat_map arcs_of (take i lines) ++ arcs_of l) here ∙ flat_map_at arcs_of [] lines i d within))

-- the nodes with one more draft behind them
pub nodes_push : (s : Sizes) (drafts : List NodeDraft) (draft : NodeDraft) (lines : List ℕ) (k : ℕ) → nodes_from s (drafts ++ draft ∷ []) lines k ≡ nodes_from s drafts lines k ++ node_of s draft (slice_index lines (length drafts + k)) ∷ []
nodes_push s [] draft lines k = let same : 0 + k ≡ k = omega arith in ap (λ n. node_of s draft (slice_index lines n) ∷ []) (sym same)
nodes_push s (d ∷ drafts) draft lines k =
    let place : length drafts + (k + 1) ≡ length (d ∷ drafts) + k = omega arith in
    ap (λ ns. node_of s d (slice_index lines k) ∷ ns) (nodes_push s drafts draft lines (k + 1) ∙ ap (λ n. nodes_from s drafts lines (k + 1) ++ node_of s draft (slice_index lines n) ∷ []) place)

reverse-push : {A : Type 0} (xs : List A) (y : A) → reverse (xs ++ y ∷ []) ≡ y ∷ reverse xs
reverse-push xs y = reverse-append xs (y ∷ [])

pub nodes_more : (s : Sizes) (lines : List ℕ) (old left : List NodeDraft) (draft : NodeDraft) (nodes : List Node) (whole : List Node) → nodes_from s old lines 1 ++ reverse nodes ≡ whole → old ≡ left ++ draft ∷ [] → nodes_from s left lines 1 ++ reverse (nodes ++ node_of s draft (slice_index lines (length left + 1)) ∷ []) ≡ whole
nodes_more s lines old left draft nodes whole so_far is =
    ap (λ ns. nodes_from s left lines 1 ++ ns) (reverse-push nodes _)
    ∙ (sym (append_assoc (nodes_from s left lines 1) (node_of s draft (slice_index lines (length left + 1)) ∷ []) (reverse nodes))
    ∙ (ap (λ ns. ns ++ reverse nodes) (sym (nodes_push s left draft lines 1) ∙ ap (λ ds. nodes_from s ds lines 1) (sym is)) ∙ so_far))
