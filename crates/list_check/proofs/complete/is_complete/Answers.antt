use Rattle.std.proofs.Common.{FitsSigned, ◌≡◌, ℤ, Option, Some, List, get_or, map, rules, sym, ap, subst}
use Rattle.std.specs.Prelude.{All}
use Rattle.std.specs.Int.{w128}
use Rattle.std.proofs.lemmas.Int.{to_z-of_z}
use Rattle.label_rules.specs.Labels.{Setting}
use Rattle.proof_rules.specs.PrefixTrees.{IsComplete, Step}
use Rattle.route_labels.specs.declared.field.Field.{Field}
use Rattle.route_labels.specs.Meaning.{setting_of}
use Rattle.route_labels.proofs.AgreeLemmas.{parts_agree}
use Rattle.cert_rules.specs.Meaning.{step_of, steps_of}
use Rattle.list_check.specs.Lines.{AreLines}
use Rattle.list_check.specs.declared.nodes.Node.{Node}
use Rattle.list_check.specs.Nodes.{HaveSteps, IsTreeOf, LabelsFit}
use Rattle.list_check.proofs.SettingLemmas.{prefix_may}
use Rattle.list_check.proofs.TreeLemmas.{complete_from, complete_to}
use Rattle.list_check.proofs.complete.is_complete.Goals as goal

pub have_steps-requires-clause-labels : goal.have_steps-requires-clause-labels
have_steps-requires-clause-labels c =
    let f : Field = c.args.field.now in
    let tree = rw c.in-Some-2.is at c.in_ok-nodes.ensures in
    let all : All (LabelsFit (setting_of f)) c.in-Some-2.nodes.items = λ k d l.
    let is = tree.are.each k d l in
    record { fits = is.is.fits; may = prefix_may f is.arcs (get_or c.in-Some-2.nodes.items k d).label (get_or c.in-Some-2.nodes.items k d).visited c.vertex_count-count.ensures.model c.requires.field is.is } in
    subst (All (LabelsFit (setting_of f))) (sym c.as_slice.ensures.value) all

pub returns : goal.returns
returns c =
    let f : Field = c.args.field.now in
    let S : Setting = setting_of f in
    let back = c.args.back.now in
    let steps : List Step = steps_of c.args.trie.now in
    let nodes : List Node = c.in-Some-2.nodes.items in
    let lines = c.in-Some.lines in
    let limit = c.in-Some-limit.limit in
    let same : map step_of c.as_slice-steps.result.now ≡ steps = ap (map step_of) c.as_slice-steps.ensures in
    let read_tree = rw c.in-Some-2.is at c.in_ok-nodes.ensures in
    let tree : IsTreeOf S steps nodes = subst (λ (xs : List Step). IsTreeOf S xs nodes) same read_tree in
    let read_lines = rw c.in-Some.is at c.in_ok-lines.ensures in
    let are : AreLines steps lines = subst (λ (xs : List Step). AreLines xs lines) same read_lines in
    let fits = (parts_agree f c.vertex_count-count.ensures.model c.requires.field).setting in
    let small : FitsSigned w128 limit = search rules in
    let told = to_z-of_z w128 limit small in
    let is : Some limit ≡ c.args.limit = sym c.in-Some-limit.is in
    let all = c.in_ok-complete.ensures in (
      λ h.
          let have : HaveSteps S back limit lines nodes = subst (HaveSteps S back limit lines) c.as_slice.ensures.value (subst (λ (x : ℤ). HaveSteps S back x lines c.as_slice.result.now) told (all.0 h)) in
          subst (λ (o : Option ℤ). IsComplete S back o steps) is (complete_from S back limit steps nodes lines fits tree are have),
      λ complete.
          let have : HaveSteps S back limit lines nodes = complete_to S back limit steps nodes lines fits tree are (subst (λ (o : Option ℤ). IsComplete S back o steps) (sym is) complete) in
          all.1 (subst (λ (x : ℤ). HaveSteps S back x lines c.as_slice.result.now) (sym told) (subst (HaveSteps S back limit lines) (sym c.as_slice.ensures.value) have)),
    )
