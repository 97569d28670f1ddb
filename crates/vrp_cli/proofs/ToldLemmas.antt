-- The text of a certificate that the check accepts spells one that it accepts.
use Rattle.std.proofs.Common.{◌≡◌, ℕ, ℤ, None, Some, List, [], ◌∷◌, ◌++◌, Result, Ok, Err, All, map, refl, sym, ap, subst, ◌∙◌}
use Rattle.std.specs.Prelude.{IfOk}
use Rattle.std.proofs.lemmas.List.Elements.{All-cons, All-head, All-nil, All-tail}
use Rattle.route_model.specs.declared.plan.Plan.{Plan}
use Rattle.route_model.specs.Costs.{cost_above_all}
use Rattle.route_model.specs.Fit.{IsModel}
use Rattle.route_model.specs.Parts.{ModelParts}
use Rattle.route_model.specs.Places.{root_place}
use Rattle.line_text.specs.declared.fault.TextFault.{TextFault}
use Rattle.proof_rules.specs.Grows.{Grows}
use Rattle.proof_rules.specs.Nodes.{AtCounts, AtPlace, IsNode, Item, children_of, node_rules}
use Rattle.proof_rules.specs.Validity.{IsValid}
use Rattle.certificate.specs.declared.cert.Cert.{Cert}
use Rattle.certificate.specs.declared.cert.Goal.{Goal}
use Rattle.certificate.specs.declared.cert.Goal.TheVariants as goal
use Rattle.certificate.specs.declared.cert.Node.{Node}
use Rattle.certificate.specs.declared.cert.NodeForm.{NodeForm}
use Rattle.certificate.specs.declared.cert.NodeForm.TheVariants as node
use Rattle.certificate.specs.declared.draft.CertDraft.{CertDraft}
use Rattle.certificate.specs.CertFits.{CertFits}
use Rattle.certificate.specs.CertPrint.{cert_text}
use Rattle.certificate.specs.PrintedText.{IsSameAside, PrintedAgainLaw, SpellsAside, told_form}
use Rattle.certificate.specs.Reading.{cert_read}
use Rattle.certificate.specs.Sizes.{SizesFit, sizes_of}
use Rattle.certificate.specs.Spelling.{SpellsCert}
use Rattle.certificate.proofs.CertLaws.{fault_spells_no_cert, spelled_cert_is_read}
use Rattle.certificate.proofs.SizesLemmas.{sizes_fit}
use Rattle.cert_rules.specs.Meaning.{certificate_of, node_of, nodes_of}
use Rattle.cert_check.specs.Verdicts.{IsNamedNode}
use Rattle.model_text.specs.Spelling.{Spells}
use Rattle.solve_run.specs.Certificates.{IsProvedLeast, IsProvedNone}
use Rattle.vrp_cli.specs.Solved.{IsProofTold, TellsLeast, TellsNone}

-- a text spells one certificate
one_cert : (m : ModelParts) → SizesFit (sizes_of m) → (text : List ℕ) (c d : Cert) → SpellsCert m text c → SpellsCert m text d → c ≡ d
one_cert m fit text c d first second = by (cert_read (sizes_of m) text) refl
  where
    by : (r : Result CertDraft TextFault) → cert_read (sizes_of m) text ≡ r → c ≡ d
    by (Ok draft) is = spelled_cert_is_read m fit text draft c is first ∙ sym (spelled_cert_is_read m fit text draft d is second)
    by (Err fault) is = absurd (fault_spells_no_cert m fit text fault is c first)

-- what a text does not tell of a node, no rule of a proof tree asks for
stands_told : (m : ModelParts) (z : ℤ) (i : Item) (f : NodeForm) → IsNode m z i (node_of m f) → IsNode m z i (node_of m (told_form f))
stands_told m z (AtPlace spot) (node.Split split None) is = is
stands_told m z (AtPlace spot) (node.Split split (Some p)) is = is
stands_told m z (AtCounts spot walks boxes) (node.Split split None) is = absurd is
stands_told m z (AtCounts spot walks boxes) (node.Split split (Some p)) is = absurd is
stands_told m z i (node.Close p) is = is
stands_told m z i (node.Fix p arcs) is = is
stands_told m z i (node.List p tries) is = is
stands_told m z i (node.CountSplit walk at) is = is
stands_told m z i (node.CountClose mult) is = is
stands_told m z i node.Point is = is

stands_again : (m : ModelParts) (z : ℤ) (i : Item) (f : NodeForm) → IsNode m z i (node_of m (told_form f)) → IsNode m z i (node_of m f)
stands_again m z (AtPlace spot) (node.Split split None) is = is
stands_again m z (AtPlace spot) (node.Split split (Some p)) is = is
stands_again m z (AtCounts spot walks boxes) (node.Split split None) is = absurd is
stands_again m z (AtCounts spot walks boxes) (node.Split split (Some p)) is = absurd is
stands_again m z i (node.Close p) is = is
stands_again m z i (node.Fix p arcs) is = is
stands_again m z i (node.List p tries) is = is
stands_again m z i (node.CountSplit walk at) is = is
stands_again m z i (node.CountClose mult) is = is
stands_again m z i node.Point is = is

opens_told : (m : ModelParts) (i : Item) (f : NodeForm) → children_of m i (node_of m f) ≡ children_of m i (node_of m (told_form f))
opens_told m (AtPlace spot) (node.Split split None) = refl
opens_told m (AtPlace spot) (node.Split split (Some p)) = refl
opens_told m (AtCounts spot walks boxes) (node.Split split None) = refl
opens_told m (AtCounts spot walks boxes) (node.Split split (Some p)) = refl
opens_told m i (node.Close p) = refl
opens_told m i (node.Fix p arcs) = refl
opens_told m i (node.List p tries) = refl
opens_told m i (node.CountSplit walk at) = refl
opens_told m i (node.CountClose mult) = refl
opens_told m i node.Point = refl

named_told : (m : ModelParts) (f : NodeForm) → IsNamedNode m f ≡ IsNamedNode m (told_form f)
named_told m (node.Split split p) = refl
named_told m (node.Close p) = refl
named_told m (node.Fix p arcs) = refl
named_told m (node.List p tries) = refl
named_told m (node.CountSplit walk at) = refl
named_told m (node.CountClose mult) = refl
named_told m node.Point = refl

-- so nodes that a text tells as the same are a proof tree together
abbrev told : Node → NodeForm
told n = told_form n.form

stands_same : (m : ModelParts) (z : ℤ) (i : Item) (f g : NodeForm) → told_form f ≡ told_form g → IsNode m z i (node_of m g) → IsNode m z i (node_of m f)
stands_same m z i f g same is = stands_again m z i f (subst (λ (t : NodeForm). IsNode m z i (node_of m t)) (sym same) (stands_told m z i g is))

opens_same : (m : ModelParts) (i : Item) (f g : NodeForm) → told_form f ≡ told_form g → children_of m i (node_of m g) ≡ children_of m i (node_of m f)
opens_same m i f g same = opens_told m i g ∙ (ap (λ (t : NodeForm). children_of m i (node_of m t)) (sym same) ∙ sym (opens_told m i f))

named_same : (m : ModelParts) (f g : NodeForm) → told_form f ≡ told_form g → IsNamedNode m g → IsNamedNode m f
named_same m f g same is =
    subst (λ (t : Type 0). t) (sym (named_told m f)) (subst (λ (t : NodeForm). IsNamedNode m t) (sym same) (subst (λ (t : Type 0). t) (named_told m g) is))

first_same : {X : Type 0} (x y : X) (xs ys : List X) → x ∷ xs ≡ y ∷ ys → x ≡ y
first_same x y xs ys e = cc

rest_same : {X : Type 0} (x y : X) (xs ys : List X) → x ∷ xs ≡ y ∷ ys → xs ≡ ys
rest_same x y xs ys e = cc

tree_same : (m : ModelParts) (z : ℤ) (is : List Item) (ns ks : List Node) → map told ns ≡ map told ks → Grows (node_rules m z) is (nodes_of m ks) [] → Grows (node_rules m z) is (nodes_of m ns) []
tree_same m z is [] [] same grows = grows
tree_same m z is [] (k ∷ ks) same grows = absurd (none_some (told k) (map told ks) same)
  where
    none_some : {X : Type 0} (x : X) (xs : List X) → [] ≡ x ∷ xs → ⊥
    none_some x xs e = cc
tree_same m z is (n ∷ ns) [] same grows = absurd (some_none (told n) (map told ns) same)
  where
    some_none : {X : Type 0} (x : X) (xs : List X) → x ∷ xs ≡ [] → ⊥
    some_none x xs e = cc
tree_same m z [] (n ∷ ns) (k ∷ ks) same grows = absurd grows
tree_same m z (i ∷ is) (n ∷ ns) (k ∷ ks) same grows =
    let here = first_same (told n) (told k) (map told ns) (map told ks) same in
    let below = subst (λ (js : List Item). Grows (node_rules m z) (js ++ is) (nodes_of m ks) []) (opens_same m i n.form k.form here) grows.1 in
    (stands_same m z i n.form k.form here grows.0, tree_same m z (children_of m i (node_of m n.form) ++ is) ns ks (rest_same (told n) (told k) (map told ns) (map told ks) same) below)

all_named : (m : ModelParts) (ns ks : List Node) → map told ns ≡ map told ks → All (λ (n : Node). IsNamedNode m n.form) ks → All (λ (n : Node). IsNamedNode m n.form) ns
all_named m [] ks same named = All-nil (λ (n : Node). IsNamedNode m n.form)
all_named m (n ∷ ns) [] same named = absurd (some_none (told n) (map told ns) same)
  where
    some_none : {X : Type 0} (x : X) (xs : List X) → x ∷ xs ≡ [] → ⊥
    some_none x xs e = cc
all_named m (n ∷ ns) (k ∷ ks) same named =
    let P : Node → Type 0 = λ (x : Node). IsNamedNode m x.form in
    All-cons P n ns (named_same m n.form k.form (first_same (told n) (told k) (map told ns) (map told ks) same) (All-head P k ks named))
    (all_named m ns ks (rest_same (told n) (told k) (map told ns) (map told ks) same) (All-tail P k ks named))

valid_nodes : (m : ModelParts) (g : Goal) (a b k l : ℕ) (plan : Plan) (ns ks : List Node) → map told ns ≡ map told ks
    → IsValid m (certificate_of m (record { goal = g; goal_line = k; end_line = l; plan = plan; nodes = ks }))
    → IsValid m (certificate_of m (record { goal = g; goal_line = a; end_line = b; plan = plan; nodes = ns }))
valid_nodes m (goal.Optimal cost) a b k l plan ns ks same valid = record {
  solution = valid.solution;
  is = valid.is;
  tree = tree_same m cost (AtPlace (root_place m) ∷ []) ns ks same valid.tree;
}
valid_nodes m goal.Infeasible a b k l plan ns ks same valid = tree_same m (cost_above_all m) (AtPlace (root_place m) ∷ []) ns ks same valid

valid_same : (m : ModelParts) (c d : Cert) → IsSameAside c d → IsValid m (certificate_of m d) → IsValid m (certificate_of m c)
valid_same m c d same valid =
    let goal_as = subst (λ (g : Goal). IsValid m (certificate_of m (record { goal = g; goal_line = d.goal_line; end_line = d.end_line; plan = d.plan; nodes = d.nodes }))) (sym same.goal) valid in
    let plan_as = subst (λ (p : Plan). IsValid m (certificate_of m (record { goal = c.goal; goal_line = d.goal_line; end_line = d.end_line; plan = p; nodes = d.nodes }))) (sym same.plan) goal_as in
    valid_nodes m c.goal c.goal_line c.end_line d.goal_line d.end_line c.plan c.nodes d.nodes same.nodes plan_as

-- the text of a certificate
pub proof_told : PrintedAgainLaw → (m : ModelParts) (cert : Cert) (text : List ℕ) → IsModel m → CertFits m cert → text ≡ cert_text m cert → SpellsAside m text cert → IsProofTold m cert text
proof_told law m cert text model fits is aside = record {
  told = aside.read;
  certified = record { spelled = aside.spells; only = λ other spelled. one_cert m (sizes_fit m model.fits) text other aside.read spelled aside.spells };
  accepted = λ accepted. record {
    valid = valid_same m aside.read cert aside.same accepted.valid;
    named = all_named m aside.read.nodes cert.nodes aside.same.nodes accepted.named;
  };
  claimed = aside.same.goal;
  planned = aside.same.plan;
  printed = is ∙ sym (law m cert aside.read model fits (subst (λ (t : List ℕ). SpellsCert m t aside.read) is aside.spells));
}

pub proof_told_of : {E : Type 0} → PrintedAgainLaw → (m : ModelParts) (cert : Cert) (r : Result (List ℕ) E) → IsModel m → CertFits m cert → IfOk r (λ text. text ≡ cert_text m cert) → IfOk r (λ text. SpellsAside m text cert)
    → IfOk r (IsProofTold m cert)
proof_told_of law m cert (Ok text) model fits is aside = proof_told law m cert text model fits is aside
proof_told_of law m cert (Err e) model fits is aside = tt

-- what `solve` tells with it
pub tells_least : (m : ModelParts) (input text : List ℕ) (cost : ℤ) (plan : Plan) (cert : Cert) → Spells input m → IsProvedLeast m cost plan cert → IsProofTold m cert text → TellsLeast text input
tells_least m input text cost plan cert spelled least told = record {
  model = m;
  spelled = spelled;
  plan = plan;
  least = least.least;
  tidy = least.tidy;
  cert = told.told;
  proof = record {
    certified = told.certified;
    accepted = told.accepted least.certified.accepted;
    claimed = told.claimed ∙ (least.certified.claimed ∙ ap goal.Optimal (sym least.costs));
    printed = told.printed;
  };
  planned = told.planned ∙ least.planned;
}

pub tells_none : (m : ModelParts) (input text : List ℕ) (cert : Cert) → Spells input m → IsProvedNone m cert → IsProofTold m cert text → TellsNone text input
tells_none m input text cert spelled none told = record {
  model = m;
  spelled = spelled;
  none = none.none;
  cert = told.told;
  proof = record {
    certified = told.certified;
    accepted = told.accepted none.certified.accepted;
    claimed = told.claimed ∙ none.certified.claimed;
    printed = told.printed;
  };
}
