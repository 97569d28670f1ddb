-- Nodes that close an item in place of nodes whose bound closes it.
use Rattle.std.specs.Prelude.{◌≡◌, ℤ, None, Some}
use Rattle.route_model.specs.Fit.{ModelFits}
use Rattle.route_model.specs.Parts.{ModelParts}
use Rattle.multipliers.specs.Ranges.{MultFits}
use Rattle.proof_rules.specs.Nodes.{Item}
use Rattle.certificate.specs.declared.cert.NodeForm.{NodeForm}
use Rattle.certificate.specs.declared.cert.NodeForm.TheVariants as node
use Rattle.cert_check.specs.Reads.{ItemFits}
use Rattle.made_nodes.specs.declared.node.MadeNode.{MadeNode}
use Rattle.made_nodes.specs.Made.{IsMade, StaysOpen, child_count}
use Rattle.made_nodes.specs.Zeros.{AreZeros}

-- a node closes counts by multipliers that are all 0
abbrev pub IsZeroClose : ModelParts → NodeForm → Type 0
IsZeroClose m (node.CountClose mult) = MultFits m mult × AreZeros mult
IsZeroClose m form = ⊥

-- the form that closes an item in place of another: by the proof that the other carries, or for a split of counts by
-- multipliers that are all 0; a form that opens no item stays
abbrev pub IsClosedForm : ModelParts → NodeForm → NodeForm → Type 0
IsClosedForm m (node.Split split None) form = form ≡ node.Point
IsClosedForm m (node.Split split (Some p)) form = form ≡ node.Close p
IsClosedForm m (node.Close p) form = form ≡ node.Close p
IsClosedForm m (node.Fix p arcs) form = form ≡ node.Close p
IsClosedForm m (node.List p tries) form = form ≡ node.Close p
IsClosedForm m (node.CountSplit i d) form = IsZeroClose m form
IsClosedForm m (node.CountClose mult) form = form ≡ node.CountClose mult
IsClosedForm m node.Point form = form ≡ node.Point

-- against each z against which the bound of the old node closes its item the new node stands there; it opens no item, and
-- stays so
pub record IsClosing (m : ModelParts) (old new : MadeNode) : Type 0 where
  pub stands : (z : ℤ) (item : Item) → ModelFits m → ItemFits m item → ¬ (StaysOpen z old) → IsMade m z item old → IsMade m z item new
  pub last : child_count new.form ≡ 0
  pub stays : (z : ℤ) → StaysOpen z new
