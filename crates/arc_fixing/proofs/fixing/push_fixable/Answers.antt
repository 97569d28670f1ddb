use Rattle.std.proofs.Common.{◌≡◌, [], ◌∷◌, ◌++◌, List, refl, sym, ◌∙◌, subst}
use Rattle.std.proofs.lemmas.Bool.{false≢true}
use Rattle.route_model.specs.PlaceParts.{NamedArc}
use Rattle.route_labels.specs.Meaning.{setting_of}
use Rattle.arc_fixing.specs.Chosen.{AppendsChosen}
use Rattle.arc_fixing.specs.Fixable.{arcs_in}
use Rattle.arc_fixing.specs.Pairs.{IsFixableIn}
use Rattle.arc_fixing.proofs.ChosenLemmas.{item_chosen, item_passed}
use Rattle.arc_fixing.proofs.FixingLemmas.{arcs_more, moved_open}
use Rattle.arc_fixing.proofs.fixing.push_fixable.Goals as goal
use Rattle.arc_fixing.proofs.fixing.push_fixable.Goals.{then-is_fixable+in_ok-push, else-is_fixable}

pub loop-arc-preserved : goal.loop-arc-preserved
loop-arc-preserved c =
    let S = setting_of c.args.field.now in
    let t = c.args.table.now in
    let g = c.args.field.now.graph in
    let arc = c.loop-arc.arc in
    let P = λ (named : NamedArc). IsFixableIn S t.fore t.back c.args.limit named in
    let old : List NamedArc = c.args.arcs.now.items in
    elim c.if-is_fixable.branch [
      | then-is_fixable+in_ok-push w ↦
          let next : c.if-is_fixable.arcs.items ≡ c.loop-arc.arcs.items ++ (g, arc) ∷ [] = (λ i. (w.arcs-is i).items) ∙ w.in_ok-push.ensures.items in
          let holds = moved_open S c.as_slice-3.result.now c.as_slice-5.result.now t.fore t.back c.args.limit arc c.as_slice-3.ensures c.as_slice-5.ensures (w.if-is_fixable.ensures.0 refl) in
          subst (λ (arcs : List NamedArc). AppendsChosen P arcs old c.if-is_fixable.arcs.items) (sym (arcs_more g arc))
          (item_chosen P (arcs_in g arc) old c.loop-arc.arcs.items c.if-is_fixable.arcs.items (g, arc) c.loop-arc.invariant holds next)
      | else-is_fixable w ↦
          let same : c.if-is_fixable.arcs.items ≡ c.loop-arc.arcs.items = λ i. (w.arcs-is i).items in
          let back = moved_open S t.fore t.back c.as_slice-3.result.now c.as_slice-5.result.now c.args.limit arc (sym c.as_slice-3.ensures) (sym c.as_slice-5.ensures) in
          subst (λ (arcs : List NamedArc). AppendsChosen P arcs old c.if-is_fixable.arcs.items) (sym (arcs_more g arc))
          (subst (λ (new : List NamedArc). AppendsChosen P (arcs_in g arc ++ (g, arc) ∷ []) old new) (sym same)
          (item_passed P (arcs_in g arc) old c.loop-arc.arcs.items (g, arc) c.loop-arc.invariant (λ h. false≢true (w.if-is_fixable.ensures.1 (back h)))))
    ]
