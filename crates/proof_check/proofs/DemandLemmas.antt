-- The demands together ask that a proof is valid, and the first that is not met shows that it is not.
use Rattle.std.proofs.Common.{◌≡◌, ◌≢◌, ℕ, zero, suc, ◌<◌, ◌≤◌, ◌+◌, ◌-◌, inl, inr, Bool, ℤ, Option, List, [], ◌∷◌, ◌++◌, length, map, All, append_assoc, refl, sym, ◌∙◌, ap, subst, arith}
use Rattle.std.specs.Prelude.{Contains, IfErr, OnOk, Result, Ok, Err, false, slice_index}
use Rattle.std.specs.List.Sorted.{IsStrictlyIncreasing}
use Rattle.std.proofs.lemmas.Bool.{cases_lt}
use Rattle.std.proofs.lemmas.List.{append-nil, length-map, get_or-map}
use Rattle.std.proofs.lemmas.List.Elements.{All-append, All-cons, All-contains, All-get_or, All-nil, Contains-append_left, Contains-append_right}
use Rattle.route_model.specs.declared.places.Spot.{Spot}
use Rattle.route_model.specs.Parts.{ModelParts}
use Rattle.label_rules.specs.declared.label.Label.{Label}
use Rattle.label_rules.specs.declared.table.ProofTable.{ProofTable}
use Rattle.label_rules.specs.Labels.{Backward, Direction, Forward, Setting, root}
use Rattle.label_rules.specs.Tables.{Covers, IsClosed}
use Rattle.label_rules.specs.Leasts.{Form, Full, Both, Half, IsTable}
use Rattle.proof_rules.specs.Proofs.{IsTableOf, Table, setting_of, table_at}
use Rattle.certificate.specs.declared.cert.Proof.{Proof}
use Rattle.cert_rules.specs.Meaning.{proof_of, table_of}
use Rattle.proof_check.specs.declared.checked.Checked.{Checked}
use Rattle.proof_check.specs.declared.error.ProofError.{ProofError}
use Rattle.proof_check.specs.declared.error.ProofError.TheVariants.{Side, Root, Cover, Sink, Memory}
use Rattle.proof_check.specs.Keeps.{ProofKeeps, TableKeeps, graphs_of}
use Rattle.proof_check.specs.Demands.{Demand, DemandsLaw, Extensions, FaultLaw, HasTable, IfBack, IsExtended, IsFirstUnmet, IsFrom, IsGraphFault, IsMet, IsProofFault, IsSound, Least, Roots, Sides, TellsOf, demands, demands_of, text_table, threshold_of}

-- a closed list is one with its extensions and its root
closed_from : (direction : Direction) (S : Setting) (threshold : Option ℤ) (labels : List Label) → IsExtended direction S threshold labels → Covers direction S labels (root direction S)
    → IsClosed direction S threshold labels
closed_from direction S threshold labels x r = record { windows = x.windows; cover = record { states = x.states; root = r; extensions = x.extensions } }

extended_of : (direction : Direction) (S : Setting) (threshold : Option ℤ) (labels : List Label) → IsClosed direction S threshold labels → IsExtended direction S threshold labels
extended_of direction S threshold labels h = record { windows = h.windows; states = h.cover.states; extensions = h.cover.extensions }

-- a closed table is one with its roots and its extensions
table_from : (S : Setting) (form : Form) (fore back : List Label) → IsFrom (threshold_of form) S.graph → Covers Forward S fore (root Forward S)
    → IfBack form (Covers Backward S back (root Backward S)) → IsExtended Forward S (threshold_of form) fore → IfBack form (IsExtended Backward S (threshold_of form) back)
    → IsTable S form fore back
table_from S Full fore back from first last ahead behind = closed_from Forward S _ fore ahead first
table_from S Both fore back from first last ahead behind = (closed_from Forward S _ fore ahead first, closed_from Backward S _ back behind last)
table_from S (Half t) fore back from first last ahead behind = (from, closed_from Forward S _ fore ahead first, closed_from Backward S _ back behind last)

from_of : (S : Setting) (form : Form) (fore back : List Label) → IsTable S form fore back → IsFrom (threshold_of form) S.graph
from_of S Full fore back h = tt
from_of S Both fore back h = tt
from_of S (Half t) fore back h = h.0

first_of_table : (S : Setting) (form : Form) (fore back : List Label) → IsTable S form fore back → Covers Forward S fore (root Forward S)
first_of_table S Full fore back h = h.cover.root
first_of_table S Both fore back h = h.0.cover.root
first_of_table S (Half t) fore back h = h.1.cover.root

last_of_table : (S : Setting) (form : Form) (fore back : List Label) → IsTable S form fore back → IfBack form (Covers Backward S back (root Backward S))
last_of_table S Full fore back h = tt
last_of_table S Both fore back h = h.1.cover.root
last_of_table S (Half t) fore back h = h.2.cover.root

ahead_of : (S : Setting) (form : Form) (fore back : List Label) → IsTable S form fore back → IsExtended Forward S (threshold_of form) fore
ahead_of S Full fore back h = extended_of Forward S _ fore h
ahead_of S Both fore back h = extended_of Forward S _ fore h.0
ahead_of S (Half t) fore back h = extended_of Forward S _ fore h.1

behind_of : (S : Setting) (form : Form) (fore back : List Label) → IsTable S form fore back → IfBack form (IsExtended Backward S (threshold_of form) back)
behind_of S Full fore back h = tt
behind_of S Both fore back h = extended_of Backward S _ back h.1
behind_of S (Half t) fore back h = extended_of Backward S _ back h.2

-- the table in the words of the rules
pub table_is : (tables : List ProofTable) (g : ℕ) → table_at (map table_of tables) g ≡ table_of (text_table tables g)
table_is [] g = refl
table_is (t ∷ rest) zero = refl
table_is (t ∷ rest) (suc g) = table_is rest g

-- numbers that ascend strictly below n are at least their places, and with j behind them at most n - 1 - j
ascend_above : (xs : List ℕ) → IsStrictlyIncreasing xs → (k : ℕ) → k < length xs → k ≤ slice_index xs k
ascend_above xs up zero l = omega arith
ascend_above xs up (suc k) l =
    let before = ascend_above xs up k (omega (arith, l)) in
    let next = up k (omega (arith, l)) in
    let same : k + 1 ≡ suc k = omega arith in
    let here = subst (λ (i : ℕ). slice_index xs k < slice_index xs i) same next in
    omega (arith, before, here)

ascend_below : (xs : List ℕ) (n : ℕ) → IsStrictlyIncreasing xs → ((k : ℕ) → k < length xs → slice_index xs k < n) → (j k : ℕ) → k + j < length xs → slice_index xs k + j < n
ascend_below xs n up small zero k l = let here = small k (omega (arith, l)) in omega (arith, here)
ascend_below xs n up small (suc j) k l =
    let later = ascend_below xs n up small j (k + 1) (omega (arith, l)) in
    let next = up k (omega (arith, l)) in
    omega (arith, later, next)

module _ (m : ModelParts) (p : Proof) (keeps : ProofKeeps m p) where
  graph_read : (k : ℕ) → k < length p.tables → slice_index (graphs_of p.tables) k ≡ (text_table p.tables k).graph
  graph_read k l = get_or-map (λ (t : ProofTable). t.graph) p.tables k (text_table [] 0) 0 l

  graph_count : length (graphs_of p.tables) ≡ length p.tables
  graph_count = length-map p.tables (λ (t : ProofTable). t.graph)

  graph_small : (k : ℕ) → k < length (graphs_of p.tables) → slice_index (graphs_of p.tables) k < length m.graphs
  graph_small k l =
      let within : k < length p.tables = omega (arith, l, graph_count) in
      let kept : TableKeeps (length m.graphs) (length p.cuts) (text_table p.tables k) = All-get_or (TableKeeps (length m.graphs) (length p.cuts)) p.tables k (text_table [] 0) within keeps.tables in
      let below = kept.graph in
      let read = graph_read k within in
      omega (arith, below, read)

  -- there are no more tables than graphs, and where they are as many, each stands in its place
  pub few_tables : length p.tables ≤ length m.graphs
  few_tables = elim (cases_lt 0 (length p.tables)) [
    | inl some ↦
        let last = ascend_below (graphs_of p.tables) (length m.graphs) keeps.ascend graph_small (last_place some) 0 (omega (arith, graph_count, last_is some)) in
        omega (arith, last, last_is some)
    | inr none ↦ omega (arith, none)
  ]
    where
      last_place : 0 < length p.tables → ℕ
      last_place some = length p.tables - 1

      last_is : (some : 0 < length p.tables) → last_place some + 1 ≡ length p.tables
      last_is some = omega (arith, some)

  pub in_place : length p.tables ≡ length m.graphs → (g : ℕ) → g < length m.graphs → HasTable p.tables g
  in_place all g l =
      let within : g < length p.tables = omega (arith, all, l) in
      let low = ascend_above (graphs_of p.tables) keeps.ascend g (omega (arith, graph_count, within)) in
      let room : g + ((length m.graphs - g) - 1) < length (graphs_of p.tables) = omega (arith, graph_count, all, l) in
      let high = ascend_below (graphs_of p.tables) (length m.graphs) keeps.ascend graph_small ((length m.graphs - g) - 1) g room in
      let read = graph_read g within in
      (within, omega (arith, low, high, read, l))

-- a demand among all
sides_in : (n : ℕ) → Contains (demands n) Sides
sides_in zero = (0, omega arith, refl)
sides_in (suc n) = Contains-append_left (demands n) (demands_of n) Sides (sides_in n)

in_demands : (n g : ℕ) (d : Demand) → g < n → Contains (demands_of g) d → Contains (demands n) d
in_demands zero g d l h = absurd (omega (arith, l))
in_demands (suc n) g d l h = elim (cases_lt g n) [
  | inl less ↦ Contains-append_left (demands n) (demands_of n) d (in_demands n g d less h)
  | inr past ↦
      let same : g ≡ n = omega (arith, l, past) in
      Contains-append_right (demands n) (demands_of n) d (subst (λ (k : ℕ). Contains (demands_of k) d) same h)
]

all_three : (P : Demand → Type 0) (g : ℕ) → P (Roots g) → P (Extensions g) → P (Least g) → All P (demands_of g)
all_three P g a b c = All-cons P (Roots g) (Extensions g ∷ Least g ∷ []) a (All-cons P (Extensions g) (Least g ∷ []) b (All-cons P (Least g) [] c (All-nil P)))

all_demands : (P : Demand → Type 0) (n : ℕ) → P Sides → ((g : ℕ) → g < n → All P (demands_of g)) → All P (demands n)
all_demands P zero first each = All-cons P Sides [] first (All-nil P)
all_demands P (suc n) first each = All-append P (demands n) (demands_of n) (all_demands P n first (λ g l. each g (omega (arith, l)))) (each n (omega arith))

pub sides_alone : (P : Demand → Type 0) → P Sides → All P (demands 0)
sides_alone P first = all_demands P 0 first (λ g l. absurd (omega (arith, l)))

pub one_graph_more : (P : Demand → Type 0) (g : ℕ) → All P (demands g) → All P (demands_of g) → All P (demands (g + 1))
one_graph_more P g before here =
    let next : suc g ≡ g + 1 = omega arith in
    subst (λ (n : ℕ). All P (demands n)) next (All-append P (demands g) (demands_of g) before here)

module _ (m : ModelParts) (spot : Spot) (p : Proof) (whole : Bool) where
  abbrev Held : Demand → Type 0
  Held d = IsMet m spot p whole d

  abbrev S_at : ℕ → Setting
  S_at g = setting_of m spot (proof_of m p) g

  abbrev t_at : ℕ → Table
  t_at g = table_at (proof_of m p).tables g

  -- what the demands on a graph say of its table
  table_met : (g : ℕ) → Held (Roots g) → Held (Extensions g) → Held (Least g) → IsTableOf (S_at g) (t_at g)
  table_met g roots extended least = record {
    closed = table_from (S_at g) (t_at g).form (t_at g).fore (t_at g).back roots.1.threshold roots.1.fore roots.1.back extended.fore extended.back;
    least_is = least;
  }

  sound_from : ProofKeeps m p → All Held (demands (length m.graphs)) → IsSound m spot p whole
  sound_from keeps all =
      let held : (d : Demand) → Contains (demands (length m.graphs)) d → Held d = λ d h. All-contains Held (demands (length m.graphs)) d all h in
      let roots : (g : ℕ) → g < length m.graphs → Held (Roots g) = λ g l. held (Roots g) (in_demands (length m.graphs) g (Roots g) l (0, omega arith, refl)) in
      let extended : (g : ℕ) → g < length m.graphs → Held (Extensions g) = λ g l. held (Extensions g) (in_demands (length m.graphs) g (Extensions g) l (1, omega arith, refl)) in
      let least : (g : ℕ) → g < length m.graphs → Held (Least g) = λ g l. held (Least g) (in_demands (length m.graphs) g (Least g) l (2, omega arith, refl)) in
      let sides : Held Sides = held Sides (sides_in (length m.graphs)) in
      let mapped = length-map p.tables table_of in
      let few = few_tables m p keeps in
      let many = many_tables (length m.graphs) (λ g l. (roots g l).0.0) in
      record {
        proof = record {
          cuts_fit = sides.0;
          defined = sides.1;
          count = omega (arith, mapped, few, many);
          each = λ g l. table_met g (roots g l) (extended g l) (least g l);
        };
        both = λ asked g l. (roots g l).1.form asked;
      }
    where
      many_tables : (n : ℕ) → ((g : ℕ) → g < n → g < length p.tables) → n ≤ length p.tables
      many_tables zero each = omega arith
      many_tables (suc n) each = let last = each n (omega arith) in omega (arith, last)

  pub all_met : ProofKeeps m p → IsSound m spot p whole → All Held (demands (length m.graphs))
  all_met keeps sound =
      let mapped = length-map p.tables table_of in
      let count = sound.proof.count in
      let all : length p.tables ≡ length m.graphs = omega (arith, mapped, count) in
      all_demands Held (length m.graphs) (sound.proof.cuts_fit, sound.proof.defined) (λ g l.
      let t = sound.proof.each g l in
      let closed = t.closed in
      all_three Held g (
        in_place m p keeps all g l,
        record {
          form = λ asked. sound.both asked g l;
          threshold = from_of (S_at g) (t_at g).form (t_at g).fore (t_at g).back closed;
          fore = first_of_table (S_at g) (t_at g).form (t_at g).fore (t_at g).back closed;
          back = last_of_table (S_at g) (t_at g).form (t_at g).fore (t_at g).back closed;
        },
      )
      (record {
        fore = ahead_of (S_at g) (t_at g).form (t_at g).fore (t_at g).back closed;
        back = behind_of (S_at g) (t_at g).form (t_at g).fore (t_at g).back closed;
      })
      t.least_is)

  pub unmet_refuses : ProofKeeps m p → (d : Demand) → IsFirstUnmet Held (demands (length m.graphs)) d → ¬ (IsSound m spot p whole)
  unmet_refuses keeps d first sound =
      let inside : Contains (first.before ++ d ∷ first.after) d = Contains-append_right first.before (d ∷ first.after) d (0, omega arith, refl) in
      first.unmet (All-contains Held (demands (length m.graphs)) d (all_met keeps sound) (subst (λ (ds : List Demand). Contains ds d) (sym first.order) inside))

pub demands_law : DemandsLaw
demands_law m spot p whole keeps = (sound_from m spot p whole keeps, all_met m spot p whole keeps)

pub fault_law : FaultLaw
fault_law m spot p whole Side keeps other (d, is, first) = unmet_refuses m spot p whole keeps d first
fault_law m spot p whole Root keeps other (d, is, first) = unmet_refuses m spot p whole keeps d first
fault_law m spot p whole Cover keeps other (d, is, first) = unmet_refuses m spot p whole keeps d first
fault_law m spot p whole Sink keeps other (d, is, first) = unmet_refuses m spot p whole keeps d first
fault_law m spot p whole Memory keeps other fault = absurd (other refl)

-- the demands of a graph among all, and the sides first
order_at : (n g : ℕ) → g < n → (rest : List Demand) × (demands n ≡ demands g ++ (demands_of g ++ rest))
order_at zero g l = absurd (omega (arith, l))
order_at (suc n) g l = elim (cases_lt g n) [
  | inl less ↦
      let at = order_at n g less in
      let e : demands n ++ demands_of n ≡ demands g ++ (demands_of g ++ (at.0 ++ demands_of n)) =
      ap (λ (ds : List Demand). ds ++ demands_of n) at.1 ∙ (append_assoc (demands g) (demands_of g ++ at.0) (demands_of n)
      ∙ ap (λ (ds : List Demand). demands g ++ ds) (append_assoc (demands_of g) at.0 (demands_of n))) in
      (at.0 ++ demands_of n, e)
  | inr past ↦
      let same : n ≡ g = omega (arith, l, past) in
      let e : demands n ++ demands_of n ≡ demands n ++ (demands_of n ++ []) = ap (λ (ds : List Demand). demands n ++ ds) (sym (append-nil (demands_of n))) in
      ([], subst (λ (k : ℕ). demands n ++ demands_of n ≡ demands k ++ (demands_of k ++ [])) same e)
]

begins : (n : ℕ) → (rest : List Demand) × (demands n ≡ Sides ∷ rest)
begins zero = ([], refl)
begins (suc n) = let at = begins n in (at.0 ++ demands_of n, ap (λ (ds : List Demand). ds ++ demands_of n) at.1)

module _ (P : Demand → Type 0) (n : ℕ) where
  pub sides_first : ¬ (P Sides) → IsFirstUnmet P (demands n) Sides
  sides_first unmet = let at = begins n in record { before = []; after = at.0; order = at.1; met = All-nil P; unmet = unmet }

  pub graph_first : (g : ℕ) (d : Demand) → g < n → All P (demands g) → IsFirstUnmet P (demands_of g) d → IsFirstUnmet P (demands n) d
  graph_first g d l before first =
      let at = order_at n g l in
      record {
        before = demands g ++ first.before;
        after = first.after ++ at.0;
        order = at.1 ∙ (ap (λ (ds : List Demand). demands g ++ (ds ++ at.0)) first.order
            ∙ (ap (λ (ds : List Demand). demands g ++ ds) (append_assoc first.before (d ∷ first.after) at.0)
            ∙ sym (append_assoc (demands g) first.before (d ∷ first.after ++ at.0))));
        met = All-append P (demands g) first.before before first.met;
        unmet = first.unmet;
      }

module _ (P : Demand → Type 0) (g : ℕ) where
  pub roots_first : ¬ (P (Roots g)) → IsFirstUnmet P (demands_of g) (Roots g)
  roots_first unmet = record { before = []; after = Extensions g ∷ Least g ∷ []; order = refl; met = All-nil P; unmet = unmet }

  pub extensions_first : P (Roots g) → ¬ (P (Extensions g)) → IsFirstUnmet P (demands_of g) (Extensions g)
  extensions_first a unmet = record { before = Roots g ∷ []; after = Least g ∷ []; order = refl; met = All-cons P (Roots g) [] a (All-nil P); unmet = unmet }

  pub least_first : P (Roots g) → P (Extensions g) → ¬ (P (Least g)) → IsFirstUnmet P (demands_of g) (Least g)
  least_first a b unmet = record { before = Roots g ∷ Extensions g ∷ []; after = []; order = refl; met = All-cons P (Roots g) (Extensions g ∷ []) a (All-cons P (Extensions g) [] b (All-nil P)); unmet = unmet }

  pub three_met : P (Roots g) → P (Extensions g) → P (Least g) → All P (demands_of g)
  three_met a b c = all_three P g a b c

-- a fault of a graph is one of the proof where the graphs before it are in order, and so is one of the sides
module _ (m : ModelParts) (spot : Spot) (p : Proof) (whole : Bool) where
  abbrev Meets : Demand → Type 0
  Meets d = IsMet m spot p whole d

  pub graph_fault_told : (g : ℕ) (fault : ProofError) → g < length m.graphs → All Meets (demands g) → IsGraphFault m spot p whole g fault → IsProofFault m spot p whole fault
  graph_fault_told g Side l before (d, is, first) = (d, is, graph_first Meets (length m.graphs) g d l before first)
  graph_fault_told g Root l before (d, is, first) = (d, is, graph_first Meets (length m.graphs) g d l before first)
  graph_fault_told g Cover l before (d, is, first) = (d, is, graph_first Meets (length m.graphs) g d l before first)
  graph_fault_told g Sink l before (d, is, first) = (d, is, graph_first Meets (length m.graphs) g d l before first)
  graph_fault_told g Memory l before fault = tt

  pub side_fault_told : (fault : ProofError) → TellsOf (IsMet m spot p false Sides) Side fault → IsProofFault m spot p whole fault
  side_fault_told Side h = (Sides, refl, sides_first Meets (length m.graphs) h.1)
  side_fault_told Root h = absurd (cc)
  side_fault_told Cover h = absurd (cc)
  side_fault_told Sink h = absurd (cc)
  side_fault_told Memory h = tt

  -- what the check gives back
  pub sound_told : (r : Result Checked ProofError) → ProofKeeps m p → OnOk r (All Meets (demands (length m.graphs))) → OnOk r (IsSound m spot p whole)
  sound_told (Ok checked) keeps h = (demands_law m spot p whole keeps).0 h
  sound_told (Err fault) keeps h = tt

  pub refused_told : (r : Result Checked ProofError) → ProofKeeps m p → IfErr r (IsProofFault m spot p whole) → IfErr r (λ e. e ≢ Memory → ¬ (IsSound m spot p whole))
  refused_told (Ok checked) keeps h = tt
  refused_told (Err fault) keeps h = λ other. fault_law m spot p whole fault keeps other h
