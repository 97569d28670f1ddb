-- Dropped arcs as lines: one line for each run of arcs of one graph, which are read back as the arcs.
use Rattle.std.proofs.Common.{◌≡◌, ◌≢◌, ℕ, Bool, true, false, List, [], ◌∷◌, ◌++◌, length, map, refl, ap, subst, sym, ◌∙◌, arith}
use Rattle.std.specs.Prelude.{◌==◌, ◌≤◌, ◌<◌, All, if◌then◌else◌}
use Rattle.std.specs.List.{flat_map}
use Rattle.std.proofs.lemmas.Bool.{eq-eqb, ne_eqb}
use Rattle.std.proofs.lemmas.Bool.Decides.{nat_tests}
use Rattle.std.proofs.lemmas.List.Elements.{All-nil, All-cons, All-head, All-tail, All-append}
use Rattle.certificate.specs.declared.draft.DropLine.{DropLine}
use Rattle.certificate.specs.declared.sizes.Sizes.{Sizes}
use Rattle.certificate.specs.Meaning.{arcs_of}
use Rattle.certificate.specs.CertText.{DropFits}
use Rattle.certificate.specs.CertPrint.{drop_before, drop_lines, BeginsWith}

abbrev Arcs : Type 0
Arcs = List (ℕ × ℕ)

-- the lines say the arcs
one_before : (d : ℕ × ℕ) (lines : List DropLine) → flat_map arcs_of (drop_before d lines) ≡ d ∷ flat_map arcs_of lines
one_before d [] = refl
one_before d (line ∷ lines) = by_test (line.graph == d.0) refl
  where
    test_same : (a b : ℕ) → (a == b) ≡ true → a ≡ b
    test_same a b is = grind (arith, nat_tests, is)

    by_test : (b : Bool) → (line.graph == d.0) ≡ b → flat_map arcs_of (if b then record { graph = d.0; arcs = d.1 ∷ line.arcs } ∷ lines else record { graph = d.0; arcs = d.1 ∷ [] } ∷ line ∷ lines) ≡ d ∷ flat_map arcs_of (line ∷ lines)
    by_test true is =
        let same : line.graph ≡ d.0 = test_same line.graph d.0 is in
        ap (λ g. d ∷ map (λ arc. (g, arc)) line.arcs ++ flat_map arcs_of lines) (sym same)
    by_test false is = refl

pub drops_back : (drops : Arcs) → flat_map arcs_of (drop_lines drops) ≡ drops
drops_back [] = refl
drops_back (d ∷ drops) = one_before d (drop_lines drops) ∙ ap (λ ds. d ∷ ds) (drops_back drops)

-- a line begins with its graph
record Begun (d : ℕ × ℕ) (lines : List DropLine) : Type 0 where
  pub arcs : List ℕ
  pub rest : List DropLine
  pub is : lines ≡ record { graph = d.0; arcs = arcs } ∷ rest

begun_by : (d : ℕ × ℕ) (lines : List DropLine) → Begun d (drop_before d lines)
begun_by d [] = record { arcs = d.1 ∷ []; rest = []; is = refl }
begun_by d (line ∷ lines) = by_test (line.graph == d.0)
  where
    by_test : (b : Bool) → Begun d (if b then record { graph = d.0; arcs = d.1 ∷ line.arcs } ∷ lines else record { graph = d.0; arcs = d.1 ∷ [] } ∷ line ∷ lines)
    by_test true = record { arcs = d.1 ∷ line.arcs; rest = lines; is = refl }
    by_test false = record { arcs = d.1 ∷ []; rest = line ∷ lines; is = refl }

-- a line of its own, before arcs of another graph
own_line : (d : ℕ × ℕ) (drops : Arcs) → ¬ (BeginsWith d.0 drops) → drop_before d (drop_lines drops) ≡ record { graph = d.0; arcs = d.1 ∷ [] } ∷ drop_lines drops
own_line d [] other = refl
own_line d (e ∷ drops) other =
    let b = begun_by e (drop_lines drops) in
    ap (drop_before d) b.is
    ∙ (ap (λ (t : Bool). if t then record { graph = d.0; arcs = d.1 ∷ b.arcs } ∷ b.rest else record { graph = d.0; arcs = d.1 ∷ [] } ∷ record { graph = e.0; arcs = b.arcs } ∷ b.rest) (ne_eqb e.0 d.0 other)
    ∙ ap (λ ls. record { graph = d.0; arcs = d.1 ∷ [] } ∷ ls) (sym b.is))

-- a run of arcs of a graph is one line
pub run_line : (graph : ℕ) (d : ℕ × ℕ) (run drops : Arcs) → All (λ e. e.0 ≡ graph) (d ∷ run) → ¬ (BeginsWith graph drops) → drop_lines ((d ∷ run) ++ drops) ≡ record { graph = graph; arcs = map (λ e. e.1) (d ∷ run) } ∷ drop_lines drops
run_line graph d [] drops all other =
    let same = All-head (λ (e : ℕ × ℕ). e.0 ≡ graph) d [] all in
    own_line d drops (subst (λ g. ¬ (BeginsWith g drops)) (sym same) other) ∙ ap (λ g. record { graph = g; arcs = d.1 ∷ [] } ∷ drop_lines drops) same
run_line graph d (e ∷ run) drops all other =
    let same = All-head (λ (e : ℕ × ℕ). e.0 ≡ graph) d (e ∷ run) all in
    let rest = run_line graph e run drops (All-tail (λ (e : ℕ × ℕ). e.0 ≡ graph) d (e ∷ run) all) other in
    let arcs : List ℕ = map (λ e. e.1) (e ∷ run) in
    ap (drop_before d) rest
    ∙ (ap (λ (t : Bool). if t then record { graph = d.0; arcs = d.1 ∷ arcs } ∷ drop_lines drops else record { graph = d.0; arcs = d.1 ∷ [] } ∷ record { graph = graph; arcs = arcs } ∷ drop_lines drops) (eq-eqb graph d.0 (sym same))
    ∙ ap (λ g. record { graph = g; arcs = d.1 ∷ arcs } ∷ drop_lines drops) same)

-- Lines with arcs, no two of one graph in a row, are those of their arcs.
abbrev pub Apart : DropLine → List DropLine → Type 0
Apart line [] = Unit {0}
Apart line (next ∷ lines) = next.graph ≢ line.graph

abbrev pub AreRuns : List DropLine → Type 0
AreRuns [] = Unit {0}
AreRuns (line ∷ lines) = (line.arcs ≢ []) × Apart line lines × AreRuns lines

another_first : (line : DropLine) (lines : List DropLine) → Apart line lines → AreRuns lines → ¬ (BeginsWith line.graph (flat_map arcs_of lines))
another_first line [] apart runs = λ none. none
another_first line (next ∷ lines) apart runs = by_arcs next.arcs refl
  where
    by_arcs : (arcs : List ℕ) → next.arcs ≡ arcs → ¬ (BeginsWith line.graph (map (λ arc. (next.graph, arc)) arcs ++ flat_map arcs_of lines))
    by_arcs [] is = absurd (runs.0 is)
    by_arcs (a ∷ arcs) is = λ same. apart same

own_graph : (graph : ℕ) (arcs : List ℕ) → All (λ (e : ℕ × ℕ). e.0 ≡ graph) (map (λ arc. (graph, arc)) arcs)
own_graph graph [] = All-nil (λ (e : ℕ × ℕ). e.0 ≡ graph)
own_graph graph (a ∷ arcs) = All-cons (λ (e : ℕ × ℕ). e.0 ≡ graph) (graph, a) (map (λ arc. (graph, arc)) arcs) refl (own_graph graph arcs)

own_arcs : (graph : ℕ) (arcs : List ℕ) → map (λ (e : ℕ × ℕ). e.1) (map (λ arc. (graph, arc)) arcs) ≡ arcs
own_arcs graph [] = refl
own_arcs graph (a ∷ arcs) = ap (λ rest. a ∷ rest) (own_arcs graph arcs)

pub runs_same : (lines : List DropLine) → AreRuns lines → drop_lines (flat_map arcs_of lines) ≡ lines
runs_same [] runs = refl
runs_same (line ∷ lines) runs = by_arcs line.arcs refl (runs_same lines runs.2)
  where
    other : ¬ (BeginsWith line.graph (flat_map arcs_of lines))
    other = another_first line lines runs.1 runs.2

    by_arcs : (arcs : List ℕ) → line.arcs ≡ arcs → drop_lines (flat_map arcs_of lines) ≡ lines → drop_lines (map (λ arc. (line.graph, arc)) arcs ++ flat_map arcs_of lines) ≡ record { graph = line.graph; arcs = arcs } ∷ lines
    by_arcs [] is rest = absurd (runs.0 is)
    by_arcs (a ∷ arcs) is rest =
        run_line line.graph (line.graph, a) (map (λ arc. (line.graph, arc)) arcs) (flat_map arcs_of lines) (own_graph line.graph (a ∷ arcs)) other
        ∙ (ap (λ all. record { graph = line.graph; arcs = all } ∷ drop_lines (flat_map arcs_of lines)) (own_arcs line.graph (a ∷ arcs))
        ∙ ap (λ ls. record { graph = line.graph; arcs = a ∷ arcs } ∷ ls) rest)

-- the lines of arcs are such
one_apart : (d : ℕ × ℕ) (lines : List DropLine) → AreRuns lines → AreRuns (drop_before d lines)
one_apart d [] runs = ((λ none. cc), tt, tt)
one_apart d (line ∷ lines) runs = by_test (line.graph == d.0) refl
  where
    by_test : (b : Bool) → (line.graph == d.0) ≡ b → AreRuns (if b then record { graph = d.0; arcs = d.1 ∷ line.arcs } ∷ lines else record { graph = d.0; arcs = d.1 ∷ [] } ∷ line ∷ lines)
    by_test true is = ((λ none. cc), apart lines runs.1, runs.2)
      where
        same : line.graph ≡ d.0
        same = grind (arith, nat_tests, is)

        apart : (lines : List DropLine) → Apart line lines → Apart (record { graph = d.0; arcs = d.1 ∷ line.arcs }) lines
        apart [] h = tt
        apart (next ∷ lines) h = λ e. h (e ∙ sym same)
    by_test false is = ((λ none. cc), (λ e. not_both e), runs)
      where
        not_both : line.graph ≡ d.0 → ⊥
        not_both e = let yes_same = eq-eqb line.graph d.0 e in cc

pub are_runs : (drops : Arcs) → AreRuns (drop_lines drops)
are_runs [] = tt
are_runs (d ∷ drops) = one_apart d (drop_lines drops) (are_runs drops)

-- known arcs have known lines, and the other way round
abbrev DropKnown : Sizes → ℕ × ℕ → Type 0
DropKnown s d = (d.0 < length s.graphs) × (d.1 ≤ 4294967295)

one_fits : (s : Sizes) (d : ℕ × ℕ) (lines : List DropLine) → DropKnown s d → All (DropFits s) lines → All (DropFits s) (drop_before d lines)
one_fits s d [] known all = All-cons (DropFits s) _ [] (alone s d known) (All-nil (DropFits s))
  where
    alone : (s : Sizes) (d : ℕ × ℕ) → DropKnown s d → DropFits s (record { graph = d.0; arcs = d.1 ∷ [] })
    alone s d known = record { graph = known.0; some_arcs = λ none. cc; arcs = All-cons (λ arc. arc ≤ 4294967295) d.1 [] known.1 (All-nil (λ arc. arc ≤ 4294967295)) }
one_fits s d (line ∷ lines) known all = by_test (line.graph == d.0)
  where
    first : DropFits s line
    first = All-head (DropFits s) line lines all

    by_test : (b : Bool) → All (DropFits s) (if b then record { graph = d.0; arcs = d.1 ∷ line.arcs } ∷ lines else record { graph = d.0; arcs = d.1 ∷ [] } ∷ line ∷ lines)
    by_test true =
        All-cons (DropFits s) _ lines (record { graph = known.0; some_arcs = λ none. cc; arcs = All-cons (λ arc. arc ≤ 4294967295) d.1 line.arcs known.1 first.arcs }) (All-tail (DropFits s) line lines all)
    by_test false =
        All-cons (DropFits s) _ (line ∷ lines)
        (record { graph = known.0; some_arcs = λ none. cc; arcs = All-cons (λ arc. arc ≤ 4294967295) d.1 [] known.1 (All-nil (λ arc. arc ≤ 4294967295)) }) all

pub drops_fit : (s : Sizes) (drops : Arcs) → All (DropKnown s) drops → All (DropFits s) (drop_lines drops)
drops_fit s [] all = All-nil (DropFits s)
drops_fit s (d ∷ drops) all = one_fits s d (drop_lines drops) (All-head (DropKnown s) d drops all) (drops_fit s drops (All-tail (DropKnown s) d drops all))

arcs_known : (s : Sizes) (graph : ℕ) (arcs : List ℕ) → graph < length s.graphs → All (λ arc. arc ≤ 4294967295) arcs → All (DropKnown s) (map (λ arc. (graph, arc)) arcs)
arcs_known s graph [] known all = All-nil (DropKnown s)
arcs_known s graph (a ∷ arcs) known all =
    All-cons (DropKnown s) (graph, a) (map (λ arc. (graph, arc)) arcs) (known, All-head (λ arc. arc ≤ 4294967295) a arcs all)
    (arcs_known s graph arcs known (All-tail (λ arc. arc ≤ 4294967295) a arcs all))

pub drops_known : (s : Sizes) (lines : List DropLine) → All (DropFits s) lines → All (DropKnown s) (flat_map arcs_of lines)
drops_known s [] all = All-nil (DropKnown s)
drops_known s (line ∷ lines) all =
    let first = All-head (DropFits s) line lines all in
    All-append (DropKnown s) (arcs_of line) (flat_map arcs_of lines) (arcs_known s line.graph line.arcs first.graph first.arcs)
    (drops_known s lines (All-tail (DropFits s) line lines all))
