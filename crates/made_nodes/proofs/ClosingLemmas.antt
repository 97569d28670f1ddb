-- A node that closes an item in place of one whose bound does.
use Rattle.std.proofs.Common.{◌≡◌, ℤ, pos, ◌+ℤ◌, ◌-ℤ◌, ◌≤ℤ◌, None, Some, List, [], get_or, refl, sym, subst, ◌∙◌}
use lib.Signed.{◌<ℤ◌}
use Rattle.route_model.specs.declared.multipliers.Mult.{Mult}
use Rattle.route_model.specs.declared.places.Span.{Span}
use Rattle.route_model.specs.declared.places.Spot.{Spot}
use Rattle.route_model.specs.Fit.{ModelFits}
use Rattle.route_model.specs.Parts.{ModelParts}
use Rattle.multipliers.specs.Quantities.{base, scaled}
use Rattle.multipliers.specs.Ranges.{MultFits}
use Rattle.proof_rules.specs.Counts.{Walk}
use Rattle.proof_rules.specs.Nodes.{AtCounts, AtPlace, IsCountClose, Item, count_terms}
use Rattle.proof_rules.specs.NodeWalls.{no_mult}
use Rattle.proof_rules.specs.Proofs.{IsProof, bound_at}
use Rattle.certificate.specs.declared.cert.NodeForm.{NodeForm}
use Rattle.certificate.specs.declared.cert.NodeForm.TheVariants as node
use Rattle.certificate.specs.declared.cert.Proof.{Proof}
use Rattle.certificate.specs.CertFits.{ProofFits}
use Rattle.cert_rules.specs.Meaning.{proof_of}
use Rattle.cert_check.specs.Reads.{CountsFit, ItemFits}
use Rattle.made_nodes.specs.declared.node.MadeNode.{MadeNode}
use Rattle.made_nodes.specs.Closing.{IsClosedForm, IsClosing, IsZeroClose}
use Rattle.made_nodes.specs.Made.{IsMade, StaysOpen, child_count}
use Rattle.made_nodes.specs.Zeros.{AreZeros, zero_bound}
use Rattle.made_nodes.proofs.MadeLemmas.{closes_against, not_at_most}
use Rattle.made_nodes.proofs.ZeroLemmas.{no_mult_zeros, zeros_base, zeros_defined, zeros_near, zeros_terms}

-- the terms of any multipliers that are all 0
pub zero_bound_is : (m : ModelParts) (spot : Spot) (walks : List Walk) (boxes : List Span) (mult : Mult) → AreZeros mult → zero_bound m spot walks boxes ≡ base m [] spot.boxes mult +ℤ count_terms m mult walks boxes
zero_bound_is m spot walks boxes mult zeros =
    let bases = zeros_base m spot.boxes no_mult no_mult_zeros ∙ sym (zeros_base m spot.boxes mult zeros) in
    λ i. bases i +ℤ zeros_terms m no_mult mult walks boxes no_mult_zeros zeros i

-- they close counts in boxes
pub zeros_close : (m : ModelParts) (z : ℤ) (spot : Spot) (walks : List Walk) (boxes : List Span) (mult : Mult) → ModelFits m → CountsFit m spot walks boxes → AreZeros mult
    → scaled (z -ℤ pos 1) <ℤ zero_bound m spot walks boxes → IsCountClose m z spot walks boxes mult
zeros_close m z spot walks boxes mult fits counts zeros above = record {
  defined = zeros_defined m spot.boxes mult zeros;
  near = λ k d below. zeros_near m mult (get_or walks k d) fits zeros (counts.each_walk k d below);
  above = subst (λ (x : ℤ). scaled (z -ℤ pos 1) <ℤ x) (zero_bound_is m spot walks boxes mult zeros) above;
}

pub zero_close : (m : ModelParts) (z : ℤ) (spot : Spot) (walks : List Walk) (boxes : List Span) (mult : Mult) (b : ℤ) → ModelFits m → CountsFit m spot walks boxes → MultFits m mult → AreZeros mult
    → scaled (z -ℤ pos 1) <ℤ zero_bound m spot walks boxes → IsMade m z (AtCounts spot walks boxes) (record { form = node.CountClose mult; bound = b })
zero_close m z spot walks boxes mult b fits counts mult_fits zeros above = record {
  is_node = zeros_close m z spot walks boxes mult fits counts zeros above;
  has_proof = tt;
  bound = tt;
  drops = tt;
  named = tt;
  told = (mult_fits, zeros.cuts);
  proof_told = tt;
}

-- a proof closes its place
proof_close : (m : ModelParts) (z : ℤ) (spot : Spot) (p : Proof) (b new : ℤ) → IsProof m spot (proof_of m p) → ProofFits m p → bound_at m spot (proof_of m p) ≡ Some b → ¬ (b ≤ℤ scaled (z -ℤ pos 1))
    → IsMade m z (AtPlace spot) (record { form = node.Close p; bound = new })
proof_close m z spot p b new proof fits has above = record {
  is_node = (proof, closes_against z b (bound_at m spot (proof_of m p)) has above);
  has_proof = tt;
  bound = tt;
  drops = tt;
  named = tt;
  told = fits;
  proof_told = tt;
}

-- a node that opens no item, whatever is said of its bound
kept_close : (m : ModelParts) (z : ℤ) (item : Item) (p : Proof) (b new : ℤ) → IsMade m z item (record { form = node.Close p; bound = b }) → IsMade m z item (record { form = node.Close p; bound = new })
kept_close m z (AtPlace spot) p b new is = record { is_node = is.is_node; has_proof = tt; bound = tt; drops = tt; named = tt; told = is.told; proof_told = tt }
kept_close m z (AtCounts spot walks boxes) p b new is = absurd is.is_node

kept_counts : (m : ModelParts) (z : ℤ) (item : Item) (mult : Mult) (b new : ℤ) → IsMade m z item (record { form = node.CountClose mult; bound = b }) → IsMade m z item (record { form = node.CountClose mult; bound = new })
kept_counts m z (AtPlace spot) mult b new is = absurd is.is_node
kept_counts m z (AtCounts spot walks boxes) mult b new is = record { is_node = is.is_node; has_proof = tt; bound = tt; drops = tt; named = tt; told = is.told; proof_told = tt }

kept_point : (m : ModelParts) (z : ℤ) (item : Item) (b new : ℤ) → IsMade m z item (record { form = node.Point; bound = b }) → IsMade m z item (record { form = node.Point; bound = new })
kept_point m z (AtPlace spot) b new is = absurd is.is_node
kept_point m z (AtCounts spot walks boxes) b new is = record { is_node = is.is_node; has_proof = tt; bound = tt; drops = tt; named = tt; told = tt; proof_told = tt }

-- a split of counts is closed by zeros
module _ (m : ModelParts) (z : ℤ) (spot : Spot) (walks : List Walk) (boxes : List Span) (b new : ℤ) (fits : ModelFits m) (counts : CountsFit m spot walks boxes) (has : b ≡ zero_bound m spot walks boxes) (above : ¬ (b ≤ℤ scaled (z -ℤ pos 1))) where
  by_zeros : (form : NodeForm) → IsZeroClose m form → IsMade m z (AtCounts spot walks boxes) (record { form = form; bound = new })
  by_zeros (node.Split split p) is = absurd is
  by_zeros (node.Close p) is = absurd is
  by_zeros (node.Fix p arcs) is = absurd is
  by_zeros (node.List p tries) is = absurd is
  by_zeros (node.CountSplit i d) is = absurd is
  by_zeros (node.CountClose mult) is = zero_close m z spot walks boxes mult new fits counts is.0 is.1 (more _ _ _ has above)
    where
      more : (y x sum : ℤ) → x ≡ sum → ¬ (x ≤ℤ y) → y <ℤ sum
      more y x sum e above_y = subst (λ (s : ℤ). y <ℤ s) e (not_at_most x y above_y)
  by_zeros node.Point is = absurd is

-- in place of each form
closed_stands : (m : ModelParts) (z : ℤ) (item : Item) (old : NodeForm) (b : ℤ) (form : NodeForm) (new : ℤ) → ModelFits m → ItemFits m item → IsClosedForm m old form
    → ¬ (StaysOpen z (record { form = old; bound = b })) → IsMade m z item (record { form = old; bound = b }) → IsMade m z item (record { form = form; bound = new })
closed_stands m z (AtPlace spot) (node.Split split None) b form new fits item closed above is = absurd is.bound
closed_stands m z (AtPlace spot) (node.Split split (Some p)) b form new fits item closed above is =
    subst (λ (f : NodeForm). IsMade m z (AtPlace spot) (record { form = f; bound = new })) (sym closed) (proof_close m z spot p b new is.has_proof is.proof_told is.bound above)
closed_stands m z (AtPlace spot) (node.Close p) b form new fits item closed above is =
    subst (λ (f : NodeForm). IsMade m z (AtPlace spot) (record { form = f; bound = new })) (sym closed) (kept_close m z (AtPlace spot) p b new is)
closed_stands m z (AtPlace spot) (node.Fix p arcs) b form new fits item closed above is =
    subst (λ (f : NodeForm). IsMade m z (AtPlace spot) (record { form = f; bound = new })) (sym closed) (proof_close m z spot p b new is.is_node.proof is.told.0 is.bound above)
closed_stands m z (AtPlace spot) (node.List p tries) b form new fits item closed above is =
    subst (λ (f : NodeForm). IsMade m z (AtPlace spot) (record { form = f; bound = new })) (sym closed) (proof_close m z spot p b new is.is_node.proof is.told.0 is.bound above)
closed_stands m z (AtPlace spot) (node.CountSplit i d) b form new fits item closed above is = absurd is.is_node
closed_stands m z (AtPlace spot) (node.CountClose mult) b form new fits item closed above is = absurd is.is_node
closed_stands m z (AtPlace spot) node.Point b form new fits item closed above is = absurd is.is_node
closed_stands m z (AtCounts spot walks boxes) (node.Split split None) b form new fits item closed above is = absurd is.is_node
closed_stands m z (AtCounts spot walks boxes) (node.Split split (Some p)) b form new fits item closed above is = absurd is.is_node
closed_stands m z (AtCounts spot walks boxes) (node.Close p) b form new fits item closed above is = absurd is.is_node
closed_stands m z (AtCounts spot walks boxes) (node.Fix p arcs) b form new fits item closed above is = absurd is.is_node
closed_stands m z (AtCounts spot walks boxes) (node.List p tries) b form new fits item closed above is = absurd is.is_node
closed_stands m z (AtCounts spot walks boxes) (node.CountSplit i d) b form new fits item closed above is = by_zeros m z spot walks boxes b new fits item is.bound above form closed
closed_stands m z (AtCounts spot walks boxes) (node.CountClose mult) b form new fits item closed above is =
    subst (λ (f : NodeForm). IsMade m z (AtCounts spot walks boxes) (record { form = f; bound = new })) (sym closed) (kept_counts m z (AtCounts spot walks boxes) mult b new is)
closed_stands m z (AtCounts spot walks boxes) node.Point b form new fits item closed above is =
    subst (λ (f : NodeForm). IsMade m z (AtCounts spot walks boxes) (record { form = f; bound = new })) (sym closed) (kept_point m z (AtCounts spot walks boxes) b new is)

-- it opens no item, and its bound closes none
abbrev pub IsLast : NodeForm → Type 0
IsLast form = (child_count form ≡ 0) × ((z b : ℤ) → StaysOpen z (record { form = form; bound = b }))

pub zero_last : (m : ModelParts) (form : NodeForm) → IsZeroClose m form → IsLast form
zero_last m (node.Split split p) is = absurd is
zero_last m (node.Close p) is = absurd is
zero_last m (node.Fix p arcs) is = absurd is
zero_last m (node.List p tries) is = absurd is
zero_last m (node.CountSplit i d) is = absurd is
zero_last m (node.CountClose mult) is = (refl, λ z b. tt)
zero_last m node.Point is = absurd is

closed_last : (m : ModelParts) (old form : NodeForm) → IsClosedForm m old form → IsLast form
closed_last m (node.Split split None) form closed = subst IsLast (sym closed) (refl, λ z b. tt)
closed_last m (node.Split split (Some p)) form closed = subst IsLast (sym closed) (refl, λ z b. tt)
closed_last m (node.Close p) form closed = subst IsLast (sym closed) (refl, λ z b. tt)
closed_last m (node.Fix p arcs) form closed = subst IsLast (sym closed) (refl, λ z b. tt)
closed_last m (node.List p tries) form closed = subst IsLast (sym closed) (refl, λ z b. tt)
closed_last m (node.CountSplit i d) form closed = zero_last m form closed
closed_last m (node.CountClose mult) form closed = subst IsLast (sym closed) (refl, λ z b. tt)
closed_last m node.Point form closed = subst IsLast (sym closed) (refl, λ z b. tt)

pub is_closing : (m : ModelParts) (old new : MadeNode) → IsClosedForm m old.form new.form → IsClosing m old new
is_closing m old new closed =
    let last = closed_last m old.form new.form closed in
    record {
      stands = λ z item fits item_fits above is. closed_stands m z item old.form old.bound new.form new.bound fits item_fits closed above is;
      last = last.0;
      stays = λ z. last.1 z new.bound;
    }
