-- Lines without waste: no multiplier of 0 has a line, and each run of dropped arcs of one graph has one.
use Rattle.std.proofs.Common.{◌≡◌, ℕ, ◌^◌, ◌<◌, ◌≤◌, ℤ, pos, Bool, true, false, List, [], ◌∷◌, ◌++◌, length, map, refl, ap, sym, ◌∙◌, arith, Option, Some}
use Rattle.std.specs.Prelude.{All, codes, decimal}
use lib.Signed.{mag}
use Rattle.std.specs.Fmt.{signed_decimal, digits}
use Rattle.std.specs.List.{flat_map}
use Rattle.std.specs.Ordering.{int_eq}
use Rattle.std.specs.Str.{bytes_eq}
use Rattle.std.proofs.lemmas.Bool.Decides.{Decides-int_eq}
use Rattle.std.proofs.lemmas.Slice.Eq.{bytes_eq-Decides}
use Rattle.std.proofs.lemmas.List.Elements.{All-nil, All-cons, All-head, All-tail, All-append}
use Rattle.path_graph.specs.Within.{IsWithin}
use Rattle.route_model.specs.declared.limits.TheConstants.{MAX_MULT}
use Rattle.label_rules.specs.declared.table.ProofTable.{ProofTable}
use Rattle.line_text.specs.Words.{Words}
use Rattle.line_text.proofs.PrintedWordLemmas.{number_of-signed}
use Rattle.line_text.proofs.NumberWordLemmas.{decimal_same}
use Rattle.vrp_lex.specs.Text.{number_of}
use Rattle.model_text.specs.PathText.{path_words}
use Rattle.certificate.specs.declared.cert.Goal.{Goal}
use Rattle.certificate.specs.declared.cert.Goal.TheVariants as goal
use Rattle.certificate.specs.declared.cert.Trie.{Trie}
use Rattle.certificate.specs.declared.draft.DropLine.{DropLine}
use Rattle.certificate.specs.declared.draft.Head.{Head}
use Rattle.certificate.specs.declared.draft.Head.TheVariants as head
use Rattle.certificate.specs.declared.draft.MultLine.{MultLine}
use Rattle.certificate.specs.declared.draft.NodeDraft.{NodeDraft}
use Rattle.certificate.specs.declared.sizes.Sizes.{Sizes}
use Rattle.certificate.specs.LabelWords.{label_words}
use Rattle.certificate.specs.ProofWords.{kind_word, mult_words, cut_words, near_words, table_words, drop_words, step_words, head_words}
use Rattle.certificate.specs.Draft.{shape_of}
use Rattle.certificate.specs.CertText.{Written, DropFits, table_lines, trie_lines, node_lines, goal_words, claim_lines, version_words, proof_lines, NodeFits, WrittenFits}
use Rattle.certificate.specs.CertPrint.{cert_lines}
use Rattle.certificate.specs.PrintedText.{IsZeroMult, AreOneRun, MeetsFirst, NoneInARow}
use Rattle.certificate.proofs.MultOrder.{IsSome, values_within}
use Rattle.certificate.proofs.DropRuns.{AreRuns}
use Rattle.certificate.proofs.DraftFits.{IsLean}

-- parts of lists
all_left : {A : Type 0} (P : A → Type 0) (xs ys : List A) → All P (xs ++ ys) → All P xs
all_left P [] ys all = All-nil P
all_left P (x ∷ xs) ys all = All-cons P x xs (All-head P x (xs ++ ys) all) (all_left P xs ys (All-tail P x (xs ++ ys) all))

all_right : {A : Type 0} (P : A → Type 0) (xs ys : List A) → All P (xs ++ ys) → All P ys
all_right P [] ys all = all
all_right P (x ∷ xs) ys all = all_right P xs ys (All-tail P x (xs ++ ys) all)

all_map : {A B : Type 0} (P : B → Type 0) (f : A → B) (xs : List A) → ((x : A) → P (f x)) → All P (map f xs)
all_map P f [] each = All-nil P
all_map P f (x ∷ xs) each = All-cons P (f x) (map f xs) (each x) (all_map P f xs each)

all_flat : {A B : Type 0} (P : B → Type 0) (f : A → List B) (xs : List A) → ((x : A) → All P (f x)) → All P (flat_map f xs)
all_flat P f [] each = All-nil P
all_flat P f (x ∷ xs) each = All-append P (f x) (flat_map f xs) (each x) (all_flat P f xs each)

-- Lines that are none of a multiplier of 0, and those that are none of dropped arcs, by their first words.
abbrev pub NoZero : Words → Type 0
NoZero words = ¬ (IsZeroMult words)

abbrev NoDrop : Words → Type 0
NoDrop words = (graph : List ℕ) (arcs : Words) → words ≡ codes "drop" ∷ graph ∷ arcs → ⊥

record Calm (words : Words) : Type 0 where
  pub zero : NoZero words
  pub drop : NoDrop words

first_same : (a b : List ℕ) (us vs : Words) → a ∷ us ≡ b ∷ vs → a ≡ b
first_same a b us vs same = cc

clash : (b : Bool) → b ≡ false → b ≡ true → ⊥
clash true no_test is = cc
clash false no_test is = cc

no_zero_name : (key : List ℕ) (words : Words) → bytes_eq key (codes "mult") ≡ false → NoZero (key ∷ words)
no_zero_name key words other = λ h. clash (bytes_eq key (codes "mult")) other ((bytes_eq-Decides key (codes "mult")).1 (first_same key (codes "mult") _ _ h.2))

no_drop_name : (key : List ℕ) (words : Words) → bytes_eq key (codes "drop") ≡ false → NoDrop (key ∷ words)
no_drop_name key words other = λ graph arcs same. clash (bytes_eq key (codes "drop")) other ((bytes_eq-Decides key (codes "drop")).1 (first_same key (codes "drop") _ _ same))

named : (key : List ℕ) (words : Words) → bytes_eq key (codes "mult") ≡ false → bytes_eq key (codes "drop") ≡ false → Calm (key ∷ words)
named key words no_mult no_drop = record { zero = no_zero_name key words no_mult; drop = no_drop_name key words no_drop }

abbrev AreCalm : List Words → Type 0
AreCalm lines = All Calm lines

zeros_of : (lines : List Words) → AreCalm lines → All NoZero lines
zeros_of lines all = λ k d below. (all k d below).zero

drops_of : (lines : List Words) → AreCalm lines → All NoDrop lines
drops_of lines all = λ k d below. (all k d below).drop

calm_head : (h : Head) → Calm (head_words h)
calm_head (head.Split split) = named _ _ refl refl
calm_head head.Close = named _ _ refl refl
calm_head head.Fix = named _ _ refl refl
calm_head head.List = named _ _ refl refl
calm_head (head.CountSplit walk at) = named _ _ refl refl
calm_head head.CountClose = named _ _ refl refl
calm_head head.Point = named _ _ refl refl

calm_table : (s : Sizes) (cuts : ℕ) (t : ProofTable) → AreCalm (table_lines s cuts t)
calm_table s cuts t =
    All-cons Calm (table_words t) _ (named _ _ refl refl)
    (All-append Calm (map (λ l. codes "fore" ∷ label_words (shape_of s cuts t) l) t.fore) (map (λ l. codes "back" ∷ label_words (shape_of s cuts t) l) t.back)
    (all_map Calm (λ l. codes "fore" ∷ label_words (shape_of s cuts t) l) t.fore (λ l. named _ _ refl refl))
    (all_map Calm (λ l. codes "back" ∷ label_words (shape_of s cuts t) l) t.back (λ l. named _ _ refl refl)))

calm_trie : (t : Trie) → AreCalm (trie_lines t)
calm_trie t =
    All-cons Calm (codes "tree" ∷ decimal t.graph ∷ []) (map step_words t.steps) (named _ _ refl refl)
    (all_map Calm step_words t.steps (λ p. named _ _ refl refl))

calm_goal : (g : Goal) → Calm (goal_words g)
calm_goal (goal.Optimal cost) = named _ _ refl refl
calm_goal goal.Infeasible = named _ _ refl refl

calm_claim : (w : Written) → AreCalm (claim_lines w)
calm_claim w =
    All-cons Calm (goal_words w.goal) (map path_words w.plan.paths) (calm_goal w.goal)
    (all_map Calm path_words w.plan.paths (λ t. named _ _ refl refl))

calm_version : Calm version_words
calm_version = named _ _ refl refl

calm_end : AreCalm ((codes "end" ∷ []) ∷ [])
calm_end = All-cons Calm (codes "end" ∷ []) [] (named _ _ refl refl) (All-nil Calm)

calm_cuts : (n : NodeDraft) → AreCalm (map cut_words n.cuts)
calm_cuts n = all_map Calm cut_words n.cuts (λ c. named _ _ refl refl)

calm_near : (n : NodeDraft) → AreCalm (map near_words n.near)
calm_near n = all_map Calm near_words n.near (λ l. named _ _ refl refl)

calm_tables : (s : Sizes) (n : NodeDraft) → AreCalm (flat_map (table_lines s (length n.cuts)) n.tables)
calm_tables s n = all_flat Calm (table_lines s (length n.cuts)) n.tables (calm_table s (length n.cuts))

calm_tries : (n : NodeDraft) → AreCalm (flat_map trie_lines n.tries)
calm_tries n = all_flat Calm trie_lines n.tries calm_trie

-- Multipliers.
zero_word : signed_decimal (pos 0) ≡ codes "0"
unfolding digits
zero_word = refl

small : (v : ℤ) → IsWithin MAX_MULT v → mag v < 10 ^ 40
small v within = let low = within.0 in let high = within.1 in grind (arith, low, high)

value_zero : (v : ℤ) → IsWithin MAX_MULT v → signed_decimal v ≡ codes "0" → v ≡ pos 0
value_zero v within e =
    let own = number_of-signed v (small v within) in
    let zero = number_of-signed (pos 0) (omega arith) in
    let same : ◌≡◌ {A = Option ℤ} (Some v) (Some (pos 0)) = sym own ∙ (ap number_of (e ∙ sym zero_word) ∙ zero) in
    cc

some_word : (m : MultLine) → IsWithin MAX_MULT m.value → IsSome m → NoZero (mult_words m)
some_word m within some = λ h.
    let same = h.2 in
    let word : signed_decimal m.value ≡ codes "0" = cc in
    let test = (Decides-int_eq m.value (pos 0)).1 (value_zero m.value within word) in
    clash (int_eq m.value (pos 0)) some test

some_words : (ms : List MultLine) → All (λ m. IsWithin MAX_MULT m.value) ms → All IsSome ms → All NoZero (map mult_words ms)
some_words [] within some = All-nil NoZero
some_words (m ∷ ms) within some =
    All-cons NoZero (mult_words m) (map mult_words ms) (some_word m (All-head (λ m. IsWithin MAX_MULT m.value) m ms within) (All-head IsSome m ms some))
    (some_words ms (All-tail (λ m. IsWithin MAX_MULT m.value) m ms within) (All-tail IsSome m ms some))

word_some : (m : MultLine) → NoZero (mult_words m) → IsSome m
word_some m no_zero = by_test (int_eq m.value (pos 0)) refl
  where
    by_test : (b : Bool) → int_eq m.value (pos 0) ≡ b → int_eq m.value (pos 0) ≡ false
    by_test false is = is
    by_test true is =
        let word : signed_decimal m.value ≡ codes "0" = ap signed_decimal ((Decides-int_eq m.value (pos 0)).0 is) ∙ zero_word in
        absurd (no_zero (kind_word m.kind, decimal m.number, ap (λ v. codes "mult" ∷ kind_word m.kind ∷ decimal m.number ∷ v ∷ []) word))

words_some : (ms : List MultLine) → All NoZero (map mult_words ms) → All IsSome ms
words_some [] all = All-nil IsSome
words_some (m ∷ ms) all =
    All-cons IsSome m ms (word_some m (All-head NoZero (mult_words m) (map mult_words ms) all)) (words_some ms (All-tail NoZero (mult_words m) (map mult_words ms) all))

-- Runs of dropped arcs.
abbrev pub WholeRuns : List Words → Type 0
WholeRuns lines = NoneInARow AreOneRun lines

not_meets : (u : Words) (lines : List Words) → NoDrop u → ¬ (MeetsFirst AreOneRun u lines)
not_meets u [] no_drop = λ h. h
not_meets u (v ∷ lines) no_drop = λ h. no_drop h.0 h.1 h.3

calm_before : (xs ys : List Words) → All NoDrop xs → WholeRuns ys → WholeRuns (xs ++ ys)
calm_before [] ys calm runs = runs
calm_before (x ∷ xs) ys calm runs = (not_meets x (xs ++ ys) (All-head NoDrop x xs calm), calm_before xs ys (All-tail NoDrop x xs calm) runs)

-- the first line, if there is one, is none of dropped arcs
abbrev BeginsCalm : List Words → Type 0
BeginsCalm [] = Unit {0}
BeginsCalm (v ∷ lines) = NoDrop v

not_met : (u : Words) (lines : List Words) → BeginsCalm lines → ¬ (MeetsFirst AreOneRun u lines)
not_met u [] calm = λ h. h
not_met u (v ∷ lines) calm = λ h. calm h.0 h.2 h.4

joined : (xs ys : List Words) → WholeRuns xs → BeginsCalm ys → WholeRuns ys → WholeRuns (xs ++ ys)
joined [] ys first calm second = second
joined (x ∷ []) ys first calm second = (not_met x ys calm, second)
joined (x ∷ v ∷ xs) ys first calm second = (first.0, joined (v ∷ xs) ys first.1 calm second)

runs_left : (xs ys : List Words) → WholeRuns (xs ++ ys) → WholeRuns xs
runs_left [] ys runs = tt
runs_left (x ∷ []) ys runs = ((λ h. h), tt)
runs_left (x ∷ v ∷ xs) ys runs = (runs.0, runs_left (v ∷ xs) ys runs.1)

runs_right : (xs ys : List Words) → WholeRuns (xs ++ ys) → WholeRuns ys
runs_right [] ys runs = runs
runs_right (x ∷ xs) ys runs = runs_right xs ys runs.1

drop_words_runs : (s : Sizes) (ds : List DropLine) → length s.graphs ≤ 64 → All (DropFits s) ds → AreRuns ds → WholeRuns (map drop_words ds)
drop_words_runs s [] few fits runs = tt
drop_words_runs s (d ∷ []) few fits runs = ((λ h. h), tt)
drop_words_runs s (d ∷ e ∷ ds) few fits runs = (apart, drop_words_runs s (e ∷ ds) few (All-tail (DropFits s) d (e ∷ ds) fits) runs.2)
  where
    apart : ¬ (AreOneRun (drop_words d) (drop_words e))
    apart h =
        let known = (All-head (DropFits s) d (e ∷ ds) fits).graph in
        let first = h.3 in
        let second = h.4 in
        let word : decimal e.graph ≡ decimal d.graph = cc in
        runs.1 (decimal_same e.graph d.graph (omega (arith, known, few)) word)

words_runs : (s : Sizes) (ds : List DropLine) → All (DropFits s) ds → WholeRuns (map drop_words ds) → AreRuns ds
words_runs s [] fits runs = tt
words_runs s (d ∷ []) fits runs = ((All-head (DropFits s) d [] fits).some_arcs, tt, tt)
words_runs s (d ∷ e ∷ ds) fits runs = (
  (All-head (DropFits s) d (e ∷ ds) fits).some_arcs,
  λ same. runs.0 (decimal d.graph, map decimal d.arcs, map decimal e.arcs, refl, λ i. codes "drop" ∷ decimal (same i) ∷ map decimal e.arcs),
  words_runs s (e ∷ ds) (All-tail (DropFits s) d (e ∷ ds) fits) runs.1,
)

-- A node.
abbrev tail_lines : Sizes → NodeDraft → List Words
tail_lines s n = map drop_words n.drops ++ flat_map trie_lines n.tries

tries_begin : (tries : List Trie) → BeginsCalm (flat_map trie_lines tries)
tries_begin [] = tt
tries_begin (t ∷ tries) = (All-head Calm _ _ (calm_trie t)).drop

node_zeros : (s : Sizes) (n : NodeDraft) → NodeFits s n → IsLean n → All NoZero (node_lines s n)
node_zeros s n fits lean =
    All-cons NoZero (head_words n.head) _ (calm_head n.head).zero
    (All-append NoZero (map mult_words n.mults) _ (some_words n.mults (values_within s [] n.mults fits.mults) lean.mults)
    (All-append NoZero (map cut_words n.cuts) _ (zeros_of _ (calm_cuts n))
    (All-append NoZero (map near_words n.near) _ (zeros_of _ (calm_near n))
    (All-append NoZero (flat_map (table_lines s (length n.cuts)) n.tables) _ (zeros_of _ (calm_tables s n))
    (All-append NoZero (map drop_words n.drops) _ (all_map NoZero drop_words n.drops (λ d. no_zero_name _ _ refl)) (zeros_of _ (calm_tries n)))))))

node_runs : (s : Sizes) (n : NodeDraft) → length s.graphs ≤ 64 → NodeFits s n → IsLean n → WholeRuns (node_lines s n)
node_runs s n few fits lean = (
  not_meets (head_words n.head) _ (calm_head n.head).drop,
  calm_before (map mult_words n.mults) _ (all_map NoDrop mult_words n.mults (λ m. no_drop_name _ _ refl))
      (calm_before (map cut_words n.cuts) _ (drops_of _ (calm_cuts n))
      (calm_before (map near_words n.near) _ (drops_of _ (calm_near n))
      (calm_before (flat_map (table_lines s (length n.cuts)) n.tables) _ (drops_of _ (calm_tables s n))
      (joined (map drop_words n.drops) (flat_map trie_lines n.tries) (drop_words_runs s n.drops few fits.drops lean.drops) (tries_begin n.tries)
      (only_calm (flat_map trie_lines n.tries) (drops_of _ (calm_tries n))))))),
)
  where
    only_calm : (lines : List Words) → All NoDrop lines → WholeRuns lines
    only_calm [] calm = tt
    only_calm (x ∷ lines) calm = (not_meets x lines (All-head NoDrop x lines calm), only_calm lines (All-tail NoDrop x lines calm))

node_lean : (s : Sizes) (n : NodeDraft) → NodeFits s n → All NoZero (node_lines s n) → WholeRuns (node_lines s n) → IsLean n
node_lean s n fits zeros runs =
    record {
      mults = words_some n.mults (all_left NoZero (map mult_words n.mults) _ (All-tail NoZero (head_words n.head) _ zeros));
      drops = words_runs s n.drops fits.drops
          (runs_left (map drop_words n.drops) (flat_map trie_lines n.tries)
          (runs_right (flat_map (table_lines s (length n.cuts)) n.tables) _
          (runs_right (map near_words n.near) _
          (runs_right (map cut_words n.cuts) _
          (runs_right (map mult_words n.mults) _ runs.1)))));
    }

-- A certificate.
nodes_begin : (s : Sizes) (ns : List NodeDraft) → BeginsCalm (flat_map (node_lines s) ns)
nodes_begin s [] = tt
nodes_begin s (n ∷ ns) = (calm_head n.head).drop

nodes_zeros : (s : Sizes) (ns : List NodeDraft) → All (NodeFits s) ns → All IsLean ns → All NoZero (flat_map (node_lines s) ns)
nodes_zeros s [] fits lean = All-nil NoZero
nodes_zeros s (n ∷ ns) fits lean =
    All-append NoZero (node_lines s n) (flat_map (node_lines s) ns) (node_zeros s n (All-head (NodeFits s) n ns fits) (All-head IsLean n ns lean))
    (nodes_zeros s ns (All-tail (NodeFits s) n ns fits) (All-tail IsLean n ns lean))

nodes_runs : (s : Sizes) (ns : List NodeDraft) → length s.graphs ≤ 64 → All (NodeFits s) ns → All IsLean ns → WholeRuns (flat_map (node_lines s) ns)
nodes_runs s [] few fits lean = tt
nodes_runs s (n ∷ ns) few fits lean =
    joined (node_lines s n) (flat_map (node_lines s) ns) (node_runs s n few (All-head (NodeFits s) n ns fits) (All-head IsLean n ns lean)) (nodes_begin s ns)
    (nodes_runs s ns few (All-tail (NodeFits s) n ns fits) (All-tail IsLean n ns lean))

nodes_lean : (s : Sizes) (ns : List NodeDraft) → All (NodeFits s) ns → All NoZero (flat_map (node_lines s) ns) → WholeRuns (flat_map (node_lines s) ns) → All IsLean ns
nodes_lean s [] fits zeros runs = All-nil IsLean
nodes_lean s (n ∷ ns) fits zeros runs =
    All-cons IsLean n ns (node_lean s n (All-head (NodeFits s) n ns fits) (all_left NoZero (node_lines s n) (flat_map (node_lines s) ns) zeros) (runs_left (node_lines s n) (flat_map (node_lines s) ns) runs))
    (nodes_lean s ns (All-tail (NodeFits s) n ns fits) (all_right NoZero (node_lines s n) (flat_map (node_lines s) ns) zeros) (runs_right (node_lines s n) (flat_map (node_lines s) ns) runs))

pub lean_zeros : (s : Sizes) (w : Written) → WrittenFits s w → All IsLean w.nodes → All NoZero (cert_lines s w)
lean_zeros s w fits lean =
    All-append NoZero (claim_lines w) (version_words ∷ proof_lines s w) (zeros_of (claim_lines w) (calm_claim w))
    (All-cons NoZero version_words (proof_lines s w) calm_version.zero
    (All-append NoZero (flat_map (node_lines s) w.nodes) ((codes "end" ∷ []) ∷ []) (nodes_zeros s w.nodes fits.each lean) (zeros_of ((codes "end" ∷ []) ∷ []) calm_end)))

pub lean_runs : (s : Sizes) (w : Written) → length s.graphs ≤ 64 → WrittenFits s w → All IsLean w.nodes → WholeRuns (cert_lines s w)
lean_runs s w few fits lean =
    calm_before (claim_lines w) (version_words ∷ proof_lines s w) (drops_of (claim_lines w) (calm_claim w)) (
      not_meets version_words (proof_lines s w) calm_version.drop,
      joined (flat_map (node_lines s) w.nodes) ((codes "end" ∷ []) ∷ []) (nodes_runs s w.nodes few fits.each lean) (All-head Calm (codes "end" ∷ []) [] calm_end).drop ((λ h. h), tt),
    )

pub lines_lean : (s : Sizes) (w : Written) → WrittenFits s w → All NoZero (cert_lines s w) → WholeRuns (cert_lines s w) → All IsLean w.nodes
lines_lean s w fits zeros runs =
    let end : List Words = (codes "end" ∷ []) ∷ [] in
    nodes_lean s w.nodes fits.each
    (all_left NoZero (flat_map (node_lines s) w.nodes) end (All-tail NoZero version_words (proof_lines s w) (all_right NoZero (claim_lines w) (version_words ∷ proof_lines s w) zeros)))
    (runs_left (flat_map (node_lines s) w.nodes) end (runs_right (claim_lines w) (version_words ∷ proof_lines s w) runs).1)
