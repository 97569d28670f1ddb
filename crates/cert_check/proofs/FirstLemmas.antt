-- A certificate has at most one first fault.
use Rattle.std.proofs.Common.{◌≡◌, refl, ℕ, zero, suc, ℤ, Bool, true, false, List, [], ◌∷◌, ◌++◌, take, drop, get_or, All, inl, inr, sym, ap, subst, ◌∙◌}
use Rattle.std.proofs.lemmas.List.Elements.{All-head, All-tail}
use Rattle.route_model.specs.declared.places.Spot.{Spot}
use Rattle.route_model.specs.declared.plan.Plan.{Plan}
use Rattle.route_model.specs.Costs.{cost_above_all}
use Rattle.route_model.specs.Parts.{ModelParts}
use Rattle.proof_rules.specs.Grows.{Grows}
use Rattle.proof_rules.specs.Nodes.{AtCounts, AtPlace, Item, children_of}
use Rattle.certificate.specs.CertFits.{CertFits, NodeIsTold}
use Rattle.certificate.specs.declared.cert.Cert.{Cert}
use Rattle.certificate.specs.declared.cert.Goal.{Goal}
use Rattle.certificate.specs.declared.cert.Goal.TheVariants as goal
use Rattle.certificate.specs.declared.cert.Node.{Node}
use Rattle.certificate.specs.declared.cert.NodeForm.{NodeForm}
use Rattle.certificate.specs.declared.cert.NodeForm.TheVariants as node
use Rattle.certificate.specs.declared.cert.Proof.{Proof}
use Rattle.cert_rules.specs.Meaning.{node_of}
use Rattle.proof_check.specs.Demands.{Demand, IsMet}
use Rattle.cert_check.specs.declared.fault.CheckFault.{CheckFault}
use Rattle.cert_check.specs.declared.fault.CheckKind.{CheckKind}
use Rattle.cert_check.specs.declared.fault.CheckKind.TheVariants as kind
use Rattle.cert_check.specs.Faults.{IsNodeFault, IsProofFault, form_rules, kind_of}
use Rattle.cert_check.specs.Laws.{FaultRefusesLaw, OneFaultLaw}
use Rattle.cert_check.specs.Verdicts.{IsFaultOf, IsPlanFault, StopsWith, forms_of, root_items}
use Rattle.cert_check.proofs.CertLemmas.{plan_refused, refused}
use Rattle.cert_check.proofs.NodeLemmas.{node_refuses, proof_refuses}

-- the first demand that is not met is one
first_once : (P : Demand → Type 0) (before front after back : List Demand) (d e : Demand) → before ++ d ∷ after ≡ front ++ e ∷ back
    → All P before → ¬ (P d) → All P front → ¬ (P e) → d ≡ e
first_once P [] [] after back d e same met unmet held not = ap (λ (ds : List Demand). get_or ds 0 d) same
first_once P [] (x ∷ front) after back d e same met unmet held not =
    absurd (unmet (subst P (sym (ap (λ (ds : List Demand). get_or ds 0 d) same)) (All-head P x front held)))
first_once P (x ∷ before) [] after back d e same met unmet held not =
    absurd (not (subst P (ap (λ (ds : List Demand). get_or ds 0 e) same) (All-head P x before met)))
first_once P (x ∷ before) (y ∷ front) after back d e same met unmet held not =
    first_once P before front after back d e (ap (λ (ds : List Demand). drop 1 ds) same) (All-tail P x before met) unmet (All-tail P y front held) not

proof_once : (m : ModelParts) (spot : Spot) (whole : Bool) (p : Proof) (k j : CheckKind) → IsProofFault m spot whole p k → IsProofFault m spot whole p j → k ≡ j
proof_once m spot whole p k j f g =
    let same : f.0 ≡ g.0 = first_once (IsMet m spot p whole) f.2.before g.2.before f.2.after g.2.after f.0 g.0 (sym f.2.order ∙ g.2.order) f.2.met f.2.unmet g.2.met g.2.unmet in
    f.1 ∙ (ap kind_of same ∙ sym g.1)

-- so is the kind of fault of a node
node_once : (m : ModelParts) (z : ℤ) (item : Item) (form : NodeForm) (k j : CheckKind) → NodeIsTold m form → IsNodeFault m z item form k → IsNodeFault m z item form j → k ≡ j
node_once m z (AtPlace spot) (node.Split split p) k j told f g = f.0 ∙ sym g.0
node_once m z (AtPlace spot) (node.Close p) k j told (inl f) (inl g) = proof_once m spot false p k j f g
node_once m z (AtPlace spot) (node.Close p) k j told (inl f) (inr g) = absurd (proof_refuses m spot false p k told f g.0 (λ t. cc))
node_once m z (AtPlace spot) (node.Close p) k j told (inr f) (inl g) = absurd (proof_refuses m spot false p j told g f.0 (λ t. cc))
node_once m z (AtPlace spot) (node.Close p) k j told (inr f) (inr g) = f.1.0 ∙ sym g.1.0
node_once m z (AtPlace spot) (node.Fix p arcs) k j told (inl f) (inl g) = proof_once m spot true p k j f g
node_once m z (AtPlace spot) (node.Fix p arcs) k j told (inl f) (inr g) = absurd (proof_refuses m spot true p k told.0 f g.0 (λ t. g.1))
node_once m z (AtPlace spot) (node.Fix p arcs) k j told (inr f) (inl g) = absurd (proof_refuses m spot true p j told.0 g f.0 (λ t. f.1))
node_once m z (AtPlace spot) (node.Fix p arcs) k j told (inr f) (inr g) = f.2.0 ∙ sym g.2.0
node_once m z (AtPlace spot) (node.List p tries) k j told (inl f) (inl g) = proof_once m spot true p k j f g
node_once m z (AtPlace spot) (node.List p tries) k j told (inl f) (inr g) = absurd (proof_refuses m spot true p k told.0 f g.0 (λ t. g.1))
node_once m z (AtPlace spot) (node.List p tries) k j told (inr f) (inl g) = absurd (proof_refuses m spot true p j told.0 g f.0 (λ t. f.1))
node_once m z (AtPlace spot) (node.List p tries) k j told (inr f) (inr g) = f.2.0 ∙ sym g.2.0
node_once m z (AtPlace spot) (node.CountSplit i d) k j told f g = f ∙ sym g
node_once m z (AtPlace spot) (node.CountClose mult) k j told f g = f ∙ sym g
node_once m z (AtPlace spot) node.Point k j told f g = f ∙ sym g
node_once m z (AtCounts spot walks boxes) (node.Split split p) k j told f g = f ∙ sym g
node_once m z (AtCounts spot walks boxes) (node.Close p) k j told f g = f ∙ sym g
node_once m z (AtCounts spot walks boxes) (node.Fix p arcs) k j told f g = f ∙ sym g
node_once m z (AtCounts spot walks boxes) (node.List p tries) k j told f g = f ∙ sym g
node_once m z (AtCounts spot walks boxes) (node.CountSplit i d) k j told f g = f.0 ∙ sym g.0
node_once m z (AtCounts spot walks boxes) (node.CountClose mult) k j told (inl f) (inl g) = f.0 ∙ sym g.0
node_once m z (AtCounts spot walks boxes) (node.CountClose mult) k j told (inl f) (inr g) = absurd (f.1 g.0)
node_once m z (AtCounts spot walks boxes) (node.CountClose mult) k j told (inr f) (inl g) = absurd (g.1 f.0)
node_once m z (AtCounts spot walks boxes) (node.CountClose mult) k j told (inr f) (inr g) = f.1.0 ∙ sym g.1.0
node_once m z (AtCounts spot walks boxes) node.Point k j told f g = f.0 ∙ sym g.0

same_fault : (f g : CheckFault) → f.line ≡ g.line → f.kind ≡ g.kind → f ≡ g
same_fault f g line kind i = record { line = line i; kind = kind i }

abbrev AreTold : ModelParts → List Node → Type 0
AreTold m nodes = All (λ (n : Node). NodeIsTold m n.form) nodes

told_head : (m : ModelParts) (n : Node) (nodes : List Node) → AreTold m (n ∷ nodes) → NodeIsTold m n.form
told_head m n nodes = All-head (λ (k : Node). NodeIsTold m k.form) n nodes

-- reading stops in one way
stops_once : (m : ModelParts) (z : ℤ) (end : ℕ) (items : List Item) (nodes : List Node) (f g : CheckFault) → AreTold m nodes
    → StopsWith m z end items nodes f → StopsWith m z end items nodes g → f ≡ g
stops_once m z end [] [] f g told a b = absurd a
stops_once m z end [] (n ∷ nodes) f g told a b = a ∙ sym b
stops_once m z end (i ∷ items) [] f g told a b = a ∙ sym b
stops_once m z end (i ∷ items) (n ∷ nodes) f g told a b =
    same_fault f g (a.0 ∙ sym b.0) (node_once m z i n.form f.kind g.kind (told_head m n nodes told) a.1 b.1)

-- where two readings stop at once
both_stop : (m : ModelParts) (z : ℤ) (end : ℕ) (items is js : List Item) (nodes : List Node) (f g : CheckFault) → AreTold m nodes → items ≡ is → items ≡ js
    → StopsWith m z end is nodes f → StopsWith m z end js nodes g → f ≡ g
both_stop m z end items is js nodes f g told here there a b =
    stops_once m z end items nodes f g told (subst (λ (ks : List Item). StopsWith m z end ks nodes f) (sym here) a) (subst (λ (ks : List Item). StopsWith m z end ks nodes g) (sym there) b)

-- where one stops before the other, the node there stands and does not
stops_before : (m : ModelParts) (z : ℤ) (end : ℕ) (items is js : List Item) (n : Node) (nodes : List Node) (k : ℕ) (f : CheckFault) → AreTold m (n ∷ nodes) → items ≡ is
    → StopsWith m z end is (n ∷ nodes) f → Grows (form_rules m z) items (forms_of (take (suc k) (n ∷ nodes))) js → ⊥
stops_before m z end [] is js n nodes k f told here a grows = grows
stops_before m z end (i ∷ items) is js n nodes k f told here a grows =
    let stop = subst (λ (ks : List Item). StopsWith m z end ks (n ∷ nodes) f) (sym here) a in
    node_refuses m z i n.form f.kind (told_head m n nodes told) stop.1 grows.0

tree_once : (m : ModelParts) (z : ℤ) (end : ℕ) (items is js : List Item) (nodes : List Node) (k l : ℕ) (f g : CheckFault) → AreTold m nodes
    → Grows (form_rules m z) items (forms_of (take k nodes)) is → StopsWith m z end is (drop k nodes) f
    → Grows (form_rules m z) items (forms_of (take l nodes)) js → StopsWith m z end js (drop l nodes) g → f ≡ g
tree_once m z end items is js nodes zero zero f g told grows a more b = both_stop m z end items is js nodes f g told grows more a b
tree_once m z end items is js [] zero (suc l) f g told grows a more b = both_stop m z end items is js [] f g told grows more a b
tree_once m z end items is js [] (suc k) zero f g told grows a more b = both_stop m z end items is js [] f g told grows more a b
tree_once m z end items is js [] (suc k) (suc l) f g told grows a more b = both_stop m z end items is js [] f g told grows more a b
tree_once m z end items is js (n ∷ nodes) zero (suc l) f g told grows a more b = absurd (stops_before m z end items is js n nodes l f told grows a more)
tree_once m z end items is js (n ∷ nodes) (suc k) zero f g told grows a more b = absurd (stops_before m z end items js is n nodes k g told more b grows)
tree_once m z end [] is js (n ∷ nodes) (suc k) (suc l) f g told grows a more b = absurd grows
tree_once m z end (i ∷ items) is js (n ∷ nodes) (suc k) (suc l) f g told grows a more b =
    tree_once m z end (children_of m i (node_of m n.form) ++ items) is js nodes k l f g (All-tail (λ (x : Node). NodeIsTold m x.form) n nodes told) grows.1 a more.1 b

plan_once : (m : ModelParts) (plan : Plan) (cost : ℤ) (k j : CheckKind) → IsPlanFault m plan cost k → IsPlanFault m plan cost j → k ≡ j
plan_once m plan cost kind.Plan kind.Plan f g = refl
plan_once m plan cost kind.Plan kind.Cost f g = absurd (f g.0)
plan_once m plan cost kind.Cost kind.Plan f g = absurd (g f.0)
plan_once m plan cost kind.Cost kind.Cost f g = refl
plan_once m plan cost kind.Plan j f g = absurd g
plan_once m plan cost kind.Cost j f g = absurd g
plan_once m plan cost k j f g = absurd f

fault_once : (m : ModelParts) (cert : Cert) (g : Goal) (one other : CheckFault) → CertFits m cert → IsFaultOf m cert one g → IsFaultOf m cert other g → one ≡ other
fault_once m cert (goal.Optimal cost) one other fits (inl a) (inl b) = same_fault one other (a.0 ∙ sym b.0) (plan_once m cert.plan cost one.kind other.kind a.1 b.1)
fault_once m cert (goal.Optimal cost) one other fits (inl a) (inr b) = absurd (plan_refused m cert.plan cost one.kind a.1 b.0 b.1)
fault_once m cert (goal.Optimal cost) one other fits (inr a) (inl b) = absurd (plan_refused m cert.plan cost other.kind b.1 a.0 a.1)
fault_once m cert (goal.Optimal cost) one other fits (inr a) (inr b) =
    tree_once m cost cert.end_line (root_items m) a.2.open_items b.2.open_items cert.nodes a.2.place b.2.place one other fits.each a.2.grows a.2.stops b.2.grows b.2.stops
fault_once m cert goal.Infeasible one other fits a b =
    tree_once m (cost_above_all m) cert.end_line (root_items m) a.open_items b.open_items cert.nodes a.place b.place one other fits.each a.grows a.stops b.grows b.stops

pub one_fault : OneFaultLaw
one_fault m cert one other fits a b = fault_once m cert cert.goal one other fits a b

pub fault_refuses : FaultRefusesLaw
fault_refuses m cert fault fits f = refused m cert fault fits f
