-- A certificate that is supported is valid, and one that has a fault is not.
use Rattle.std.proofs.Common.{◌≡◌, ℕ, ℤ, List, [], ◌∷◌, ◌++◌, take, drop, All, inl, inr, sym, ap, subst, ◌∙◌}
use Rattle.std.proofs.lemmas.List.{map-append, take-append-drop}
use Rattle.std.proofs.lemmas.List.Elements.{All-cons, All-drop, All-head, All-nil, All-tail}
use Rattle.route_model.specs.declared.plan.Plan.{Plan}
use Rattle.route_model.specs.Costs.{cost_above_all}
use Rattle.route_model.specs.Fit.{ModelFits}
use Rattle.route_model.specs.Parts.{ModelParts}
use Rattle.route_model.specs.Quantities.{cost_of}
use Rattle.route_model.specs.Solution.{IsSolution}
use Rattle.proof_rules.specs.Grows.{Grows}
use Rattle.proof_rules.specs.Nodes.{Item, children_of, node_rules}
use Rattle.proof_rules.specs.Validity.{Holds, Supports}
use Rattle.proof_rules.proofs.GrowsLemmas.{grows_cut, grows_once}
use Rattle.proof_rules.proofs.ValidLemmas.{valid_law}
use Rattle.certificate.specs.declared.cert.Cert.{Cert}
use Rattle.certificate.specs.declared.cert.Goal.{Goal}
use Rattle.certificate.specs.declared.cert.Goal.TheVariants as goal
use Rattle.certificate.specs.declared.cert.Node.{Node}
use Rattle.certificate.specs.declared.cert.NodeForm.{NodeForm}
use Rattle.cert_rules.specs.Meaning.{certificate_of, claim_of, node_of, nodes_of}
use Rattle.std.proofs.Common.{Ok, Err}
use Rattle.std.specs.Prelude.{IfErr, MatchResult, OnOk, Result}
use Rattle.cert_check.specs.declared.fault.CheckError.{CheckError}
use Rattle.cert_check.specs.declared.fault.CheckError.TheVariants.{Refused, Memory}
use Rattle.cert_check.specs.declared.fault.CheckFault.{CheckFault}
use Rattle.cert_check.specs.declared.fault.CheckKind.{CheckKind}
use Rattle.cert_check.specs.declared.fault.CheckKind.TheVariants as kind
use Rattle.cert_check.specs.Faults.{form_rules}
use Rattle.certificate.specs.CertFits.{CertFits, NodeIsTold}
use Rattle.cert_check.specs.Verdicts.{IsAccepted, IsFaultOf, IsGoalError, IsRefusal, IsNamedNode, IsPlanFault, IsSupportedBy, IsTreeFault, IsTreeOf, StopsWith, forms_of, root_items}
use Rattle.cert_check.proofs.NodeLemmas.{node_refuses, stands_from, stands_parts}

-- nodes that grow by the rules of forms are those of a proof tree, with trees that are named in order
pub tree_from : (m : ModelParts) (z : ℤ) (is js : List Item) (nodes : List Node) → Grows (form_rules m z) is (forms_of nodes) js
    → Grows (node_rules m z) is (nodes_of m nodes) js × All (λ (n : Node). IsNamedNode m n.form) nodes
tree_from m z is js [] grows = (grows, All-nil (λ (n : Node). IsNamedNode m n.form))
tree_from m z [] js (n ∷ nodes) grows = absurd grows
tree_from m z (i ∷ is) js (n ∷ nodes) grows =
    let here = stands_parts m z i n.form grows.0 in
    let more = tree_from m z (children_of m i (node_of m n.form) ++ is) js nodes grows.1 in
    ((here.0, more.0), All-cons (λ (k : Node). IsNamedNode m k.form) n nodes here.1 more.1)

pub tree_to : (m : ModelParts) (z : ℤ) (is js : List Item) (nodes : List Node) → Grows (node_rules m z) is (nodes_of m nodes) js → All (λ (n : Node). IsNamedNode m n.form) nodes
    → Grows (form_rules m z) is (forms_of nodes) js
tree_to m z is js [] grows named = grows
tree_to m z [] js (n ∷ nodes) grows named = absurd grows
tree_to m z (i ∷ is) js (n ∷ nodes) grows named = (
  stands_from m z i n.form grows.0 (All-head (λ (k : Node). IsNamedNode m k.form) n nodes named),
  tree_to m z (children_of m i (node_of m n.form) ++ is) js nodes grows.1 (All-tail (λ (k : Node). IsNamedNode m k.form) n nodes named),
)

-- where reading stops, nodes do not grow to an end
stop_refuses : (m : ModelParts) (z : ℤ) (end : ℕ) (items : List Item) (nodes : List Node) (fault : CheckFault) → All (λ (n : Node). NodeIsTold m n.form) nodes
    → StopsWith m z end items nodes fault → Grows (form_rules m z) items (forms_of nodes) [] → ⊥
stop_refuses m z end [] [] fault told stops grows = stops
stop_refuses m z end [] (n ∷ nodes) fault told stops grows = grows
stop_refuses m z end (i ∷ items) [] fault told stops grows = cc
stop_refuses m z end (i ∷ items) (n ∷ nodes) fault told stops grows =
    node_refuses m z i n.form fault.kind (All-head (λ (k : Node). NodeIsTold m k.form) n nodes told) stops.1 grows.0

pub tree_refused : (m : ModelParts) (z : ℤ) (nodes : List Node) (end : ℕ) (fault : CheckFault) → All (λ (n : Node). NodeIsTold m n.form) nodes
    → IsTreeFault m z nodes end fault → ¬ (IsTreeOf m z nodes)
tree_refused m z nodes end fault told f tree =
    let front : List NodeForm = forms_of (take f.place nodes) in
    let back : List NodeForm = forms_of (drop f.place nodes) in
    let whole : front ++ back ≡ forms_of nodes = sym (map-append (λ (n : Node). n.form) (take f.place nodes) (drop f.place nodes)) ∙ ap forms_of (take-append-drop f.place nodes) in
    let cut = grows_cut (form_rules m z) (root_items m) [] front back (subst (λ (fs : List NodeForm). Grows (form_rules m z) (root_items m) fs []) (sym whole) tree) in
    let same = grows_once (form_rules m z) (root_items m) cut.0 f.open_items front cut.1 f.grows in
    stop_refuses m z end f.open_items (drop f.place nodes) fault (All-drop (λ (n : Node). NodeIsTold m n.form) f.place nodes told) f.stops
    (subst (λ (is : List Item). Grows (form_rules m z) is back []) same cut.2)

pub plan_refused : (m : ModelParts) (plan : Plan) (cost : ℤ) (k : CheckKind) → IsPlanFault m plan cost k → IsSolution m plan → cost_of m plan ≡ cost → ⊥
plan_refused m plan cost kind.Plan f solution is = f solution
plan_refused m plan cost kind.Cost f solution is = f.1 is
plan_refused m plan cost k f solution is = absurd f

-- a supported certificate is accepted
supported_by : (m : ModelParts) (cert : Cert) (g : Goal) → IsSupportedBy m cert g
    → Supports m (nodes_of m cert.nodes) (claim_of (record cert { goal = g })) × All (λ (n : Node). IsNamedNode m n.form) cert.nodes
supported_by m cert (goal.Optimal cost) s =
    let tree = tree_from m cost (root_items m) [] cert.nodes s.2 in
    (record { solution = s.0; is = s.1; tree = tree.0 }, tree.1)
supported_by m cert goal.Infeasible s = tree_from m (cost_above_all m) (root_items m) [] cert.nodes s

pub accepted : (m : ModelParts) (cert : Cert) → IsSupportedBy m cert cert.goal → IsAccepted m cert
accepted m cert s = let both = supported_by m cert cert.goal s in record { valid = both.0; named = both.1 }

-- and one with a fault is not
refused_by : (m : ModelParts) (cert : Cert) (fault : CheckFault) (g : Goal) → CertFits m cert → IsFaultOf m cert fault g
    → Supports m (nodes_of m cert.nodes) (claim_of (record cert { goal = g })) → All (λ (n : Node). IsNamedNode m n.form) cert.nodes → ⊥
refused_by m cert fault (goal.Optimal cost) fits (inl plan) s named = plan_refused m cert.plan cost fault.kind plan.1 s.solution s.is
refused_by m cert fault (goal.Optimal cost) fits (inr tree) s named =
    tree_refused m cost cert.nodes cert.end_line fault fits.each tree.2 (tree_to m cost (root_items m) [] cert.nodes s.tree named)
refused_by m cert fault goal.Infeasible fits tree s named =
    tree_refused m (cost_above_all m) cert.nodes cert.end_line fault fits.each tree (tree_to m (cost_above_all m) (root_items m) [] cert.nodes s named)

pub refused : (m : ModelParts) (cert : Cert) (fault : CheckFault) → CertFits m cert → IsFaultOf m cert fault cert.goal → ¬ (IsAccepted m cert)
refused m cert fault fits f is = refused_by m cert fault cert.goal fits f is.valid is.named

pub holds : (m : ModelParts) (cert : Cert) → ModelFits m → IsSupportedBy m cert cert.goal → Holds m (claim_of cert)
holds m cert fits s = valid_law m (certificate_of m cert) fits (accepted m cert s).valid

-- what reading the goal found is what the check tells
pub told : {T : Type 0} (m : ModelParts) (cert : Cert) (r : Result T CheckError) → ModelFits m → CertFits m cert → MatchResult r (λ t. IsSupportedBy m cert cert.goal) (IsGoalError m cert cert.goal)
    → OnOk r (IsAccepted m cert) × IfErr r (IsRefusal m cert) × OnOk r (Holds m (claim_of cert))
told m cert (Ok t) fits can s = (accepted m cert s, tt, holds m cert fits s)
told m cert (Err (Refused fault)) fits can f = (tt, (f, refused m cert fault can f), tt)
told m cert (Err Memory) fits can f = (tt, tt, tt)
