-- The lines of a node keep the limits where the node does, and say the node; lines without waste are those of what they say.
use Rattle.std.proofs.Common.{◌≡◌, ℕ, suc, ◌≤◌, Bool, true, false, List, [], ◌∷◌, length, map, refl, ap, subst, sym, ◌∙◌, arith}
use Rattle.std.specs.Prelude.{All}
use Rattle.std.specs.List.{flat_map}
use Rattle.std.proofs.lemmas.List.{length-map}
use Rattle.std.proofs.lemmas.List.Elements.{All-nil, All-cons, All-head, All-tail, All-map}
use Rattle.rank1_cuts.specs.declared.cut.Cut.{Cut}
use Rattle.route_model.specs.declared.limits.TheConstants.{MAX_MULT}
use Rattle.route_model.specs.declared.multipliers.Mult.{Mult}
use Rattle.route_model.specs.Parts.{ModelParts}
use Rattle.multipliers.specs.Ranges.{MultFits}
use Rattle.label_rules.specs.declared.table.ProofTable.{ProofTable}
use Rattle.certificate.specs.declared.cert.NodeForm.{NodeForm}
use Rattle.certificate.specs.declared.cert.NodeForm.TheVariants as node
use Rattle.certificate.specs.declared.cert.Proof.{Proof}
use Rattle.certificate.specs.declared.cert.Trie.{Trie}
use Rattle.certificate.specs.declared.draft.CutLine.{CutLine}
use Rattle.certificate.specs.declared.draft.DropLine.{DropLine}
use Rattle.certificate.specs.declared.draft.Head.{Head}
use Rattle.certificate.specs.declared.draft.Head.TheVariants as head
use Rattle.certificate.specs.declared.draft.MultKind.{MultKind}
use Rattle.certificate.specs.declared.draft.MultKind.TheVariants as kind
use Rattle.certificate.specs.declared.draft.NodeDraft.{NodeDraft}
use Rattle.certificate.specs.declared.sizes.Sizes.{Sizes}
use Rattle.certificate.specs.Sizes.{graph_sizes, sizes_of}
use Rattle.certificate.specs.Draft.{begun, has_proof, has_mults, is_fix, is_list, shape_of}
use Rattle.certificate.specs.Meaning.{mult_of, proof_of, arcs_of, form_of}
use Rattle.certificate.specs.CertText.{CutLineFits, LabelsFit, DropFits, TrieFits, HeadFits, NodeFits}
use Rattle.certificate.specs.CertFits.{CutIsKnown, ProofFits, DropIsKnown, NodeIsTold}
use Rattle.certificate.specs.CertPrint.{mult_lines, cut_lines, drop_lines, with_proof, draft_of}
use Rattle.certificate.specs.PrintedText.{told_form}
use Rattle.certificate.proofs.MultLines.{zeros, with_lines, KindsFit, mult_stands, vars_back, rows_back, sets_back, paths_back}
use Rattle.certificate.proofs.MultOrder.{IsSome, lines_said, said_fits}
use Rattle.certificate.proofs.DropRuns.{AreRuns, drops_back, runs_same, drops_fit, drops_known}

-- Cuts and their lines.
cuts_back : (weights : List ℕ) (cuts : List Cut) → length weights ≡ length cuts → map (λ (c : CutLine). c.cut) (cut_lines weights cuts) ≡ cuts
cuts_back [] [] e = refl
cuts_back [] (c ∷ cuts) e = absurd (omega (arith, e))
cuts_back (w ∷ weights) [] e = absurd (omega (arith, e))
cuts_back (w ∷ weights) (c ∷ cuts) e = ap (λ cs. c ∷ cs) (cuts_back weights cuts (omega (arith, e)))

weights_back : (weights : List ℕ) (cuts : List Cut) → length weights ≡ length cuts → map (λ (c : CutLine). c.weight) (cut_lines weights cuts) ≡ weights
weights_back [] [] e = refl
weights_back [] (c ∷ cuts) e = absurd (omega (arith, e))
weights_back (w ∷ weights) [] e = absurd (omega (arith, e))
weights_back (w ∷ weights) (c ∷ cuts) e = ap (λ ws. w ∷ ws) (weights_back weights cuts (omega (arith, e)))

pub cut_count : (weights : List ℕ) (cuts : List Cut) → length weights ≡ length cuts → length (cut_lines weights cuts) ≡ length cuts
cut_count [] [] e = refl
cut_count [] (c ∷ cuts) e = absurd (omega (arith, e))
cut_count (w ∷ weights) [] e = absurd (omega (arith, e))
cut_count (w ∷ weights) (c ∷ cuts) e = ap suc (cut_count weights cuts (omega (arith, e)))

cut_fits : (sets w : ℕ) (c : Cut) → w ≤ MAX_MULT → CutIsKnown sets c → CutLineFits sets (record { weight = w; cut = c })
cut_fits sets w c few known = record { den = known.den; weight = few; count = known.count; each = known.each; memory = known.memory }

cuts_fit : (sets : ℕ) (weights : List ℕ) (cuts : List Cut) → All (λ y. y ≤ MAX_MULT) weights → All (CutIsKnown sets) cuts → All (CutLineFits sets) (cut_lines weights cuts)
cuts_fit sets [] cuts few known = All-nil (CutLineFits sets)
cuts_fit sets (w ∷ weights) [] few known = All-nil (CutLineFits sets)
cuts_fit sets (w ∷ weights) (c ∷ cuts) few known =
    All-cons (CutLineFits sets) (record { weight = w; cut = c }) (cut_lines weights cuts)
    (cut_fits sets w c (All-head (λ y. y ≤ MAX_MULT) w weights few) (All-head (CutIsKnown sets) c cuts known))
    (cuts_fit sets weights cuts (All-tail (λ y. y ≤ MAX_MULT) w weights few) (All-tail (CutIsKnown sets) c cuts known))

cuts_same : (lines : List CutLine) → cut_lines (map (λ c. c.weight) lines) (map (λ c. c.cut) lines) ≡ lines
cuts_same [] = refl
cuts_same (l ∷ lines) = ap (λ ls. l ∷ ls) (cuts_same lines)

-- The multipliers of a model's kinds.
graph_count : (m : ModelParts) → length (sizes_of m).graphs ≡ length m.graphs
graph_count m = length-map m.graphs graph_sizes

kinds_fit : (m : ModelParts) (mult : Mult) → MultFits m mult → KindsFit (sizes_of m) mult
kinds_fit m mult fits =
    record {
      vars = fits.vars;
      rows = fits.rows;
      sets = fits.sets;
      paths = fits.paths ∙ sym (graph_count m);
      each_var = fits.each_var;
      each_row = fits.each_row;
      each_set = fits.each_set;
      each_path = fits.each_path;
    }

mult_fits : (m : ModelParts) (mult : Mult) → KindsFit (sizes_of m) mult → MultFits m mult
mult_fits m mult fits =
    record {
      vars = fits.vars;
      each_var = fits.each_var;
      rows = fits.rows;
      each_row = fits.each_row;
      sets = fits.sets;
      each_set = fits.each_set;
      paths = fits.paths ∙ graph_count m;
      each_path = fits.each_path;
    }

mult_same : (a b : Mult) → a.vars ≡ b.vars → a.rows ≡ b.rows → a.sets ≡ b.sets → a.cuts ≡ b.cuts → a.paths ≡ b.paths → a ≡ b
mult_same a b v r s c p = λ i. record { vars = v i; rows = r i; sets = s i; cuts = c i; paths = p i }

-- what the lines of multipliers say
mult_back : (s : Sizes) (n : NodeDraft) (mult : Mult) → KindsFit s mult → n.mults ≡ mult_lines mult → map (λ (c : CutLine). c.weight) n.cuts ≡ mult.cuts → mult_of s n ≡ mult
mult_back s n mult fits mults cuts =
    mult_same (mult_of s n) mult
    (back kind.Var s.vars (length mult.vars) fits.vars ∙ vars_back mult)
    (back kind.Row s.rows (length mult.rows) fits.rows ∙ rows_back mult)
    (back kind.Set s.sets (length mult.sets) fits.sets ∙ sets_back mult)
    cuts
    (back kind.Paths (length s.graphs) (length mult.paths) fits.paths ∙ paths_back mult)
  where
    back : (k : MultKind) (count own : ℕ) → own ≡ count → with_lines k (zeros count) n.mults ≡ with_lines k (zeros own) (mult_lines mult)
    back k count own e = ap (λ c. with_lines k (zeros c) n.mults) (sym e) ∙ ap (with_lines k (zeros own)) mults

-- Lines of a node that fits fit.
bare_fits : (s : Sizes) (h : Head) → HeadFits s h → NodeFits s (begun h)
bare_fits s h fits =
    record {
      head = fits;
      belongs = record { mults = λ off. refl; cuts = λ off. refl; near = λ off. refl; tables = λ off. refl; drops = λ off. refl; tries = λ off. refl };
      mults = tt;
      cuts = All-nil (CutLineFits s.sets);
      few_cuts = omega arith;
      near = tt;
      tables = tt;
      labels = All-nil (λ (t : ProofTable). LabelsFit (shape_of s 0 t) t);
      drops = All-nil (DropFits s);
      tries = All-nil (TrieFits s);
    }

off : {A : Type 0} (b : Bool) → b ≡ true → b ≡ false → A
off true e f = cc
off false e f = cc

proof_lines_fit : (m : ModelParts) (h : Head) (p : Proof) (drops : List DropLine) (tries : List Trie) → HeadFits (sizes_of m) h → has_mults h ≡ true → has_proof h ≡ true → (is_fix h ≡ false → drops ≡ []) → (is_list h ≡ false → tries ≡ []) → ProofFits m p → All (DropFits (sizes_of m)) drops → All (TrieFits (sizes_of m)) tries → NodeFits (sizes_of m) (record (with_proof h p) { drops = drops; tries = tries })
proof_lines_fit m h p drops tries head_fits some proof fix list fits drops_all tries_all =
    let s : Sizes = sizes_of m in
    let count = cut_count p.mult.cuts p.cuts fits.weights.count in
    let few = fits.few_cuts in
    record {
      head = head_fits;
      belongs = record { mults = off (has_mults h) some; cuts = off (has_proof h) proof; near = off (has_proof h) proof; tables = off (has_proof h) proof; drops = fix; tries = list };
      mults = mult_stands s p.mult (kinds_fit m p.mult fits.mult);
      cuts = cuts_fit m.sets p.mult.cuts p.cuts fits.weights.each fits.cuts;
      few_cuts = omega (arith, count, few);
      near = fits.near;
      tables = fits.tables;
      labels = subst (λ k. All (λ (t : ProofTable). LabelsFit (shape_of s k t) t) p.tables) (sym count) fits.labels;
      drops = drops_all;
      tries = tries_all;
    }

count_close_fits : (m : ModelParts) (mult : Mult) → MultFits m mult → NodeFits (sizes_of m) (record (begun head.CountClose) { mults = mult_lines mult })
count_close_fits m mult fits =
    let s : Sizes = sizes_of m in
    record {
      head = tt;
      belongs = record { mults = off true refl; cuts = λ e. refl; near = λ e. refl; tables = λ e. refl; drops = λ e. refl; tries = λ e. refl };
      mults = mult_stands s mult (kinds_fit m mult fits);
      cuts = All-nil (CutLineFits s.sets);
      few_cuts = omega arith;
      near = tt;
      tables = tt;
      labels = All-nil (λ (t : ProofTable). LabelsFit (shape_of s 0 t) t);
      drops = All-nil (DropFits s);
      tries = All-nil (TrieFits s);
    }

known_drops : (m : ModelParts) (drops : List (ℕ × ℕ)) → All (DropIsKnown m) drops → All (DropFits (sizes_of m)) (drop_lines drops)
known_drops m drops all = drops_fit (sizes_of m) drops (λ k d below. let known = all k d below in let graphs = graph_count m in let low = known.0 in (omega (arith, low, graphs), known.1))

pub draft_fits : (m : ModelParts) (f : NodeForm) → NodeIsTold m f → NodeFits (sizes_of m) (draft_of f)
draft_fits m (node.Split split proof) told = bare_fits (sizes_of m) (head.Split split) told
draft_fits m (node.Close p) told =
    proof_lines_fit m head.Close p [] [] tt refl refl (λ e. refl) (λ e. refl) told (All-nil (DropFits (sizes_of m))) (All-nil (TrieFits (sizes_of m)))
draft_fits m (node.Fix p drops) told =
    proof_lines_fit m head.Fix p (drop_lines drops) [] tt refl refl (off true refl) (λ e. refl) told.0 (known_drops m drops told.1) (All-nil (TrieFits (sizes_of m)))
draft_fits m (node.List p tries) told =
    proof_lines_fit m head.List p [] tries tt refl refl (λ e. refl) (off true refl) told.0 (All-nil (DropFits (sizes_of m))) told.1
draft_fits m (node.CountSplit walk at) told = bare_fits (sizes_of m) (head.CountSplit walk at) told
draft_fits m (node.CountClose mult) told = count_close_fits m mult told.0
draft_fits m node.Point told = bare_fits (sizes_of m) head.Point tt

-- The lines of a node say it.
proof_back : (m : ModelParts) (h : Head) (p : Proof) (drops : List DropLine) (tries : List Trie) → ProofFits m p → proof_of (sizes_of m) (record (with_proof h p) { drops = drops; tries = tries }) ≡ p
proof_back m h p drops tries fits =
    let mult = mult_back (sizes_of m) (record (with_proof h p) { drops = drops; tries = tries }) p.mult (kinds_fit m p.mult fits.mult) refl (weights_back p.mult.cuts p.cuts fits.weights.count) in
    let cuts = cuts_back p.mult.cuts p.cuts fits.weights.count in
    λ i. record { mult = mult i; cuts = cuts i; near = p.near; tables = p.tables }

pub form_back : (m : ModelParts) (f : NodeForm) → NodeIsTold m f → form_of (sizes_of m) (draft_of f) (draft_of f).head ≡ told_form f
form_back m (node.Split split proof) told = refl
form_back m (node.Close p) told = ap node.Close (proof_back m head.Close p [] [] told)
form_back m (node.Fix p drops) told =
    let same = proof_back m head.Fix p (drop_lines drops) [] told.0 in
    let arcs = drops_back drops in
    λ i. node.Fix (same i) (arcs i)
form_back m (node.List p tries) told = ap (λ q. node.List q tries) (proof_back m head.List p [] tries told.0)
form_back m (node.CountSplit walk at) told = refl
form_back m (node.CountClose mult) told =
    ap node.CountClose (mult_back (sizes_of m) (record (begun head.CountClose) { mults = mult_lines mult }) mult (kinds_fit m mult told.0) refl (sym told.1))
form_back m node.Point told = refl

-- What the lines of a node say fits, where the lines do.
proof_told : (m : ModelParts) (n : NodeDraft) → NodeFits (sizes_of m) n → ProofFits m (proof_of (sizes_of m) n)
proof_told m n fits =
    let s : Sizes = sizes_of m in
    let cuts : length (map (λ (c : CutLine). c.cut) n.cuts) ≡ length n.cuts = length-map n.cuts (λ c. c.cut) in
    let weights : length (map (λ (c : CutLine). c.weight) n.cuts) ≡ length n.cuts = length-map n.cuts (λ c. c.weight) in
    let few = fits.few_cuts in
    record {
      mult = mult_fits m (mult_of s n) (said_fits s n fits.mults);
      weights = record { count = weights ∙ sym cuts; each = All-map (λ y. y ≤ MAX_MULT) (λ (c : CutLine). c.weight) n.cuts (λ k d below. (fits.cuts k d below).weight) };
      cuts = All-map (CutIsKnown m.sets) (λ (c : CutLine). c.cut) n.cuts (λ k d below. known _ (fits.cuts k d below));
      few_cuts = omega (arith, cuts, few);
      near = fits.near;
      tables = fits.tables;
      labels = subst (λ k. All (λ (t : ProofTable). LabelsFit (shape_of s k t) t) n.tables) (sym cuts) fits.labels;
    }
  where
    known : (c : CutLine) → CutLineFits m.sets c → CutIsKnown m.sets c.cut
    known c fits = record { den = fits.den; count = fits.count; each = fits.each; memory = fits.memory }

known_arcs : (m : ModelParts) (lines : List DropLine) → All (DropFits (sizes_of m)) lines → All (DropIsKnown m) (flat_map arcs_of lines)
known_arcs m lines all = λ k d below. let known = drops_known (sizes_of m) lines all k d below in let graphs = graph_count m in let low = known.0 in (omega (arith, low, graphs), known.1)

pub form_told : (m : ModelParts) (n : NodeDraft) (h : Head) → n.head ≡ h → NodeFits (sizes_of m) n → NodeIsTold m (form_of (sizes_of m) n h)
form_told m n (head.Split split) e fits = subst (HeadFits (sizes_of m)) e fits.head
form_told m n head.Close e fits = proof_told m n fits
form_told m n head.Fix e fits = (proof_told m n fits, known_arcs m n.drops fits.drops)
form_told m n head.List e fits = (proof_told m n fits, fits.tries)
form_told m n (head.CountSplit walk at) e fits = subst (HeadFits (sizes_of m)) e fits.head
form_told m n head.CountClose e fits =
    (mult_fits m (mult_of (sizes_of m) n) (said_fits (sizes_of m) n fits.mults), ap (map (λ (c : CutLine). c.weight)) (fits.belongs.cuts (ap has_proof e)))
form_told m n head.Point e fits = tt

-- Lines without a multiplier of 0, whose dropped arcs are whole runs, are those of what they say.
pub record IsLean (n : NodeDraft) : Type 0 where
  pub mults : All IsSome n.mults
  pub drops : AreRuns n.drops

draft_same : (a b : NodeDraft) → a.head ≡ b.head → a.mults ≡ b.mults → a.cuts ≡ b.cuts → a.near ≡ b.near → a.tables ≡ b.tables → a.drops ≡ b.drops → a.tries ≡ b.tries → a ≡ b
draft_same a b h m c n t d r = λ i. record { head = h i; mults = m i; cuts = c i; near = n i; tables = t i; drops = d i; tries = r i }

pub lean_same : (s : Sizes) (n : NodeDraft) (h : Head) → n.head ≡ h → NodeFits s n → IsLean n → draft_of (form_of s n h) ≡ n
lean_same s n (head.Split split) e fits lean =
    let b = fits.belongs in
    draft_same _ n (sym e) (sym (b.mults (ap has_mults e))) (sym (b.cuts (ap has_proof e))) (sym (b.near (ap has_proof e))) (sym (b.tables (ap has_proof e))) (sym (b.drops (ap is_fix e))) (sym (b.tries (ap is_list e)))
lean_same s n head.Close e fits lean =
    draft_same _ n (sym e) (lines_said s n fits.mults lean.mults) (cuts_same n.cuts) refl refl (sym (fits.belongs.drops (ap is_fix e))) (sym (fits.belongs.tries (ap is_list e)))
lean_same s n head.Fix e fits lean =
    draft_same _ n (sym e) (lines_said s n fits.mults lean.mults) (cuts_same n.cuts) refl refl (runs_same n.drops lean.drops) (sym (fits.belongs.tries (ap is_list e)))
lean_same s n head.List e fits lean =
    draft_same _ n (sym e) (lines_said s n fits.mults lean.mults) (cuts_same n.cuts) refl refl (sym (fits.belongs.drops (ap is_fix e))) refl
lean_same s n (head.CountSplit walk at) e fits lean =
    let b = fits.belongs in
    draft_same _ n (sym e) (sym (b.mults (ap has_mults e))) (sym (b.cuts (ap has_proof e))) (sym (b.near (ap has_proof e))) (sym (b.tables (ap has_proof e))) (sym (b.drops (ap is_fix e))) (sym (b.tries (ap is_list e)))
lean_same s n head.CountClose e fits lean =
    let b = fits.belongs in
    draft_same _ n (sym e) (lines_said s n fits.mults lean.mults) (sym (b.cuts (ap has_proof e))) (sym (b.near (ap has_proof e))) (sym (b.tables (ap has_proof e))) (sym (b.drops (ap is_fix e))) (sym (b.tries (ap is_list e)))
lean_same s n head.Point e fits lean =
    let b = fits.belongs in
    draft_same _ n (sym e) (sym (b.mults (ap has_mults e))) (sym (b.cuts (ap has_proof e))) (sym (b.near (ap has_proof e))) (sym (b.tables (ap has_proof e))) (sym (b.drops (ap is_fix e))) (sym (b.tries (ap is_list e)))
