-- The lines of certificates: one judgement for each kind of line makes one for all, beside the line of the version.
use Rattle.std.proofs.Common.{◌≡◌, ℕ, ◌<◌, pos, neg_ℤ, Bool, true, false, not, inl, inr, ℤ, List, [], ◌∷◌, length, map, refl, ap, subst, sym, ◌∙◌, append-nil, arith, Option, Some, Ok}
use Rattle.std.specs.Prelude.{◌⊎◌, ◌&&◌, find, is_some, codes, decimal, if◌then◌else◌}
use Rattle.std.specs.Fmt.{signed_decimal, digits}
use Rattle.std.specs.Str.{bytes_eq}
use Rattle.std.proofs.lemmas.Slice.Eq.{bytes_eq-Decides}
use Rattle.std.proofs.lemmas.Bool.{and_parts}
use Rattle.path_graph.specs.Within.{IsWithin}
use Rattle.route_model.specs.declared.plan.Taken.{Taken}
use Rattle.label_rules.specs.declared.label.Label.{Label}
use Rattle.line_text.specs.Words.{Words, Wants, ◌>>=◌, give, are_some_words, version_wanted}
use Rattle.line_text.specs.Reading.{by_first_word}
use Rattle.line_text.specs.Spelling.{in_printed_form}
use Rattle.line_text.proofs.PrintedWordLemmas.{IsPrinted, printed_name, printed_signed, IsPrintedLine}
use Rattle.line_text.proofs.NumberWordLemmas.{plain_is}
use Rattle.line_text.proofs.Judgement.{Reads, Any, AtEnd, given, made, same_as, at_end}
use Rattle.line_text.proofs.NumberReads.{number_in-reads}
use Rattle.line_text.proofs.RuleReads.{Named, form_of, IsName, AllRead, Stands, by_first_word-reads}
use Rattle.line_text.proofs.TextLaws.{IsGrammar, some_of, printed_form}
use Rattle.line_text.proofs.VersionReads.{ReadsExactly, Opening, version-reads}
use Rattle.model_text.specs.PathText.{PathFits}
use Rattle.model_text.proofs.PathReads.{HasRoom, path-reads}
use Rattle.certificate.specs.declared.cert.Goal.TheVariants as goal
use Rattle.route_model.specs.declared.places.Split.{Split}
use Rattle.label_rules.specs.declared.table.ProofTable.{ProofTable}
use Rattle.certificate.specs.declared.cert.Step.{Step}
use Rattle.certificate.specs.declared.draft.CutLine.{CutLine}
use Rattle.certificate.specs.declared.draft.DropLine.{DropLine}
use Rattle.certificate.specs.declared.draft.MultLine.{MultLine}
use Rattle.certificate.specs.declared.draft.Head.{Head}
use Rattle.certificate.specs.declared.draft.Head.TheVariants as head
use Rattle.certificate.specs.declared.draft.NodeDraft.{NodeDraft}
use Rattle.certificate.specs.declared.draft.CertDraft.{CertDraft}
use Rattle.certificate.specs.declared.line_kind.LineKind.{LineKind}
use Rattle.certificate.specs.declared.line_kind.LineKind.TheVariants as line
use Rattle.certificate.specs.declared.sizes.Sizes.{Sizes}
use Rattle.certificate.specs.Sizes.{SizesFit}
use Rattle.certificate.specs.LabelWords.{Shape, label_words}
use Rattle.certificate.specs.ProofWords.{NearLine}
use Rattle.certificate.specs.Draft.{open_node, open_table, shape_in}
use Rattle.certificate.specs.LineKinds.{name_of, kinds, stands_in, may_stand, passes_limit, NodeItem, Mult, Cut, Near, Table, Fore, Back, Drop, Tree, Pre, Item, Claim, Path, Version, Begin, Inside, End, further_wanted, rule_of}
use Rattle.certificate.specs.CertText.{MultMay, CutLineFits, NearMay, TableMay, LabelFits, DropFits, StepFits, HeadFits}
use Rattle.certificate.specs.Reading.{begins_with, wants_version, cert_item, cert_grammar}
use Rattle.certificate.proofs.LabelReads.{ShapeFits, label-reads}
use Rattle.certificate.proofs.ProofReads.{mult_further, mult-reads, cut_further, cut-reads, near_further, near-reads, vertices_few, table_further, IsBare, table-reads, drop_further, drop-reads, step_further, step-reads, tree-reads, split_further, IsSplitHead, split-reads, count_split_further, IsCountSplitHead, count_split-reads}

-- the kind of the line of an item
abbrev pub inside_kind : NodeItem → LineKind
inside_kind (Mult m) = line.Mult
inside_kind (Cut c) = line.Cut
inside_kind (Near l) = line.Near
inside_kind (Table t) = line.Table
inside_kind (Fore shape l) = line.Fore
inside_kind (Back shape l) = line.Back
inside_kind (Drop l) = line.Drop
inside_kind (Tree g) = line.Tree
inside_kind (Pre p) = line.Pre

abbrev pub head_kind : Head → LineKind
head_kind (head.Split split) = line.Split
head_kind head.Close = line.Close
head_kind head.Fix = line.Fix
head_kind head.List = line.List
head_kind (head.CountSplit walk at) = line.CountSplit
head_kind head.CountClose = line.CountClose
head_kind head.Point = line.Point

abbrev pub item_kind : Item → LineKind
item_kind (Claim (goal.Optimal cost)) = line.Optimal
item_kind (Claim goal.Infeasible) = line.Infeasible
item_kind (Path t) = line.Path
item_kind Version = line.Proof
item_kind (Begin h) = head_kind h
item_kind (Inside i) = inside_kind i
item_kind End = line.End

-- its further words
abbrev pub inside_further : NodeItem → Words
inside_further (Mult m) = mult_further m
inside_further (Cut c) = cut_further c
inside_further (Near l) = near_further l
inside_further (Table t) = table_further t
inside_further (Fore shape l) = label_words shape l
inside_further (Back shape l) = label_words shape l
inside_further (Drop l) = drop_further l
inside_further (Tree g) = decimal g ∷ []
inside_further (Pre p) = step_further p

abbrev pub head_further : Head → Words
head_further (head.Split split) = split_further (head.Split split)
head_further (head.CountSplit walk at) = count_split_further (head.CountSplit walk at)
head_further h = []

abbrev pub item_further : Item → Words
item_further (Claim (goal.Optimal cost)) = signed_decimal cost ∷ []
item_further (Claim goal.Infeasible) = []
item_further (Path t) = decimal t.graph ∷ decimal t.count ∷ map decimal t.arcs
item_further Version = codes "1" ∷ []
item_further (Begin h) = head_further h
item_further (Inside i) = inside_further i
item_further End = []

abbrev pub cert_named : Named Item
cert_named = record { name = λ i. name_of (item_kind i); further = item_further }

-- what holds of an item behind those before it
abbrev pub InsideMay : Sizes → NodeDraft → NodeItem → Type 0
InsideMay s n (Mult m) = MultMay s n.mults m
InsideMay s n (Cut c) = CutLineFits s.sets c
InsideMay s n (Near l) = NearMay s n.near l
InsideMay s n (Table t) = TableMay s n.tables t × IsBare t
InsideMay s n (Fore shape l) = (shape_in s n ≡ shape) × LabelFits shape l
InsideMay s n (Back shape l) = (shape_in s n ≡ shape) × LabelFits shape l
InsideMay s n (Drop l) = DropFits s l
InsideMay s n (Tree g) = g < length s.graphs
InsideMay s n (Pre p) = StepFits p

abbrev pub ItemMay : Sizes → CertDraft → Item → Type 0
ItemMay s d (Claim (goal.Optimal cost)) = IsWithin 1099511627776 cost
ItemMay s d (Claim goal.Infeasible) = Unit {0}
ItemMay s d (Path t) = PathFits t × HasRoom d.plan t
ItemMay s d Version = Unit {0}
ItemMay s d (Begin h) = HeadFits s h
ItemMay s d (Inside i) = InsideMay s (open_node d) i
ItemMay s d End = Unit {0}

-- names tell kinds
abbrev kind_at : List ℕ → Option LineKind
kind_at w = find (λ k. bytes_eq w (name_of k)) kinds

kind_at-name : (k : LineKind) → kind_at (name_of k) ≡ Some k
kind_at-name line.Fore = refl
kind_at-name line.Back = refl
kind_at-name line.Mult = refl
kind_at-name line.Pre = refl
kind_at-name line.Split = refl
kind_at-name line.CountSplit = refl
kind_at-name line.Close = refl
kind_at-name line.CountClose = refl
kind_at-name line.Point = refl
kind_at-name line.Fix = refl
kind_at-name line.List = refl
kind_at-name line.Cut = refl
kind_at-name line.Near = refl
kind_at-name line.Table = refl
kind_at-name line.Drop = refl
kind_at-name line.Tree = refl
kind_at-name line.Path = refl
kind_at-name line.Optimal = refl
kind_at-name line.Infeasible = refl
kind_at-name line.Proof = refl
kind_at-name line.End = refl

pub same_kind : (a b : LineKind) → name_of a ≡ name_of b → a ≡ b
same_kind a b e = let both : ◌≡◌ {A = Option LineKind} (Some a) (Some b) = sym (kind_at-name a) ∙ (ap kind_at e ∙ kind_at-name b) in cc

pub is_name : (k : LineKind) → IsName (name_of k)
is_name line.Fore = record { some = refl; bytes = refl; plain = refl }
is_name line.Back = record { some = refl; bytes = refl; plain = refl }
is_name line.Mult = record { some = refl; bytes = refl; plain = refl }
is_name line.Pre = record { some = refl; bytes = refl; plain = refl }
is_name line.Split = record { some = refl; bytes = refl; plain = refl }
is_name line.CountSplit = record { some = refl; bytes = refl; plain = refl }
is_name line.Close = record { some = refl; bytes = refl; plain = refl }
is_name line.CountClose = record { some = refl; bytes = refl; plain = refl }
is_name line.Point = record { some = refl; bytes = refl; plain = refl }
is_name line.Fix = record { some = refl; bytes = refl; plain = refl }
is_name line.List = record { some = refl; bytes = refl; plain = refl }
is_name line.Cut = record { some = refl; bytes = refl; plain = refl }
is_name line.Near = record { some = refl; bytes = refl; plain = refl }
is_name line.Table = record { some = refl; bytes = refl; plain = refl }
is_name line.Drop = record { some = refl; bytes = refl; plain = refl }
is_name line.Tree = record { some = refl; bytes = refl; plain = refl }
is_name line.Path = record { some = refl; bytes = refl; plain = refl }
is_name line.Optimal = record { some = refl; bytes = refl; plain = refl }
is_name line.Infeasible = record { some = refl; bytes = refl; plain = refl }
is_name line.Proof = record { some = refl; bytes = refl; plain = refl }
is_name line.End = record { some = refl; bytes = refl; plain = refl }

-- what an item of each kind says
abbrev Said : LineKind → Type 0
Said line.Fore = Shape × Label
Said line.Back = Shape × Label
Said line.Mult = MultLine
Said line.Pre = Step
Said line.Split = Split
Said line.CountSplit = ℕ × ℤ
Said line.Close = Unit {0}
Said line.CountClose = Unit {0}
Said line.Point = Unit {0}
Said line.Fix = Unit {0}
Said line.List = Unit {0}
Said line.Cut = CutLine
Said line.Near = NearLine
Said line.Table = ProofTable
Said line.Drop = DropLine
Said line.Tree = ℕ
Said line.Path = Taken
Said line.Optimal = ℤ
Said line.Infeasible = Unit {0}
Said line.Proof = Unit {0}
Said line.End = Unit {0}

abbrev said_as : (k : LineKind) → Said k → Item
said_as line.Fore x = (Inside (Fore x.0 x.1))
said_as line.Back x = (Inside (Back x.0 x.1))
said_as line.Mult x = (Inside (Mult x))
said_as line.Pre x = (Inside (Pre x))
said_as line.Split x = (Begin (head.Split x))
said_as line.CountSplit x = (Begin (head.CountSplit x.0 x.1))
said_as line.Close x = (Begin head.Close)
said_as line.CountClose x = (Begin head.CountClose)
said_as line.Point x = (Begin head.Point)
said_as line.Fix x = (Begin head.Fix)
said_as line.List x = (Begin head.List)
said_as line.Cut x = (Inside (Cut x))
said_as line.Near x = (Inside (Near x))
said_as line.Table x = (Inside (Table x))
said_as line.Drop x = (Inside (Drop x))
said_as line.Tree x = (Inside (Tree x))
said_as line.Path x = (Path x)
said_as line.Optimal x = (Claim (goal.Optimal x))
said_as line.Infeasible x = (Claim goal.Infeasible)
said_as line.Proof x = Version
said_as line.End x = End

own : (i : Item) → (x : Said (item_kind i)) × (said_as (item_kind i) x ≡ i)
own (Claim (goal.Optimal cost)) = (cost, refl)
own (Claim goal.Infeasible) = (tt, refl)
own (Path t) = (t, refl)
own Version = (tt, refl)
own (Begin (head.Split split)) = (split, refl)
own (Begin head.Close) = (tt, refl)
own (Begin head.Fix) = (tt, refl)
own (Begin head.List) = (tt, refl)
own (Begin (head.CountSplit walk at)) = ((walk, at), refl)
own (Begin head.CountClose) = (tt, refl)
own (Begin head.Point) = (tt, refl)
own (Inside (Mult m)) = (m, refl)
own (Inside (Cut c)) = (c, refl)
own (Inside (Near l)) = (l, refl)
own (Inside (Table t)) = (t, refl)
own (Inside (Fore shape l)) = ((shape, l), refl)
own (Inside (Back shape l)) = ((shape, l), refl)
own (Inside (Drop l)) = (l, refl)
own (Inside (Tree g)) = (g, refl)
own (Inside (Pre p)) = (p, refl)
own End = (tt, refl)

said : (k : LineKind) (i : Item) → name_of (item_kind i) ≡ name_of k → (x : Said k) × (said_as k x ≡ i)
said k i e = subst (λ (j : LineKind). (x : Said j) × (said_as j x ≡ i)) (same_kind (item_kind i) k e) (own i)

-- a line of one thing, and a line without further words
line_of : {A : Type 0} {wanted : Wants A} {form : A → Words} {holds : A → Type 0} (s : Sizes) (d : CertDraft) (k : LineKind) (make : A → Item) → Reads wanted Any form holds AtEnd → ((x : A) → holds x → (name_of (item_kind (make x)) ≡ name_of k) × (item_further (make x) ≡ form x) × ItemMay s d (make x)) → ((x : Said k) → ItemMay s d (said_as k x) → (y : A) × (make y ≡ said_as k x) × holds y) → Reads (wanted >>= (λ x. give (make x))) (λ i. name_of (item_kind i) ≡ name_of k) item_further (ItemMay s d) AtEnd
line_of {A} {holds = holds} s d k make p to from =
    made make p to (λ z e h. back z (said k z e) h)
  where
    back : (z : Item) → (x : Said k) × (said_as k x ≡ z) → ItemMay s d z → (y : A) × (make y ≡ z) × holds y
    back z x h = let y = from x.0 (subst (ItemMay s d) (sym x.1) h) in (y.0, y.1 ∙ x.1, y.2)

alone : (s : Sizes) (d : CertDraft) (k : LineKind) (i : Item) → name_of (item_kind i) ≡ name_of k → [] ≡ item_further i → ItemMay s d i → ((x : Said k) → i ≡ said_as k x) → Reads (give i) (λ z. name_of (item_kind z) ≡ name_of k) item_further (ItemMay s d) AtEnd
alone s d k i named none may only =
    same_as (given i named (λ z e. let x = said k z e in only x.0 ∙ x.1))
    (λ z e h. let x = said k z e in
    let same : i ≡ z = only x.0 ∙ x.1 in
    subst (λ (j : Item). ([] ≡ item_further j) × ItemMay s d j) same (none, may))
    (λ z e h. tt)

shape_fits : (s : Sizes) → SizesFit s → (n : NodeDraft) → ShapeFits (shape_in s n)
shape_fits s fit n =
    let g = vertices_few s fit (open_table n).graph in
    record { vertices = g.vertices; mains = g.mains; seconds = g.seconds; sets = fit.sets }

split_begins : (s : Sizes) (h : Head) → HeadFits s h → IsSplitHead h → (name_of (head_kind h) ≡ name_of line.Split) × (head_further h ≡ split_further h) × HeadFits s h
split_begins s (head.Split split) fits is = (refl, refl, fits)
split_begins s head.Close fits is = absurd is
split_begins s head.Fix fits is = absurd is
split_begins s head.List fits is = absurd is
split_begins s (head.CountSplit walk at) fits is = absurd is
split_begins s head.CountClose fits is = absurd is
split_begins s head.Point fits is = absurd is

count_begins : (s : Sizes) (h : Head) → HeadFits s h → IsCountSplitHead h → (name_of (head_kind h) ≡ name_of line.CountSplit) × (head_further h ≡ count_split_further h) × HeadFits s h
count_begins s (head.CountSplit walk at) fits is = (refl, refl, fits)
count_begins s (head.Split split) fits is = absurd is
count_begins s head.Close fits is = absurd is
count_begins s head.Fix fits is = absurd is
count_begins s head.List fits is = absurd is
count_begins s head.CountClose fits is = absurd is
count_begins s head.Point fits is = absurd is

-- the judgement of each kind
further-reads : (s : Sizes) → SizesFit s → (k : LineKind) (d : CertDraft) → may_stand k d ≡ true → Reads (further_wanted s k d) (λ i. name_of (item_kind i) ≡ name_of k) item_further (ItemMay s d) AtEnd
further-reads s fit line.Fore d stands =
    line_of s d line.Fore (λ l. Inside (Fore (shape_in s (open_node d)) l)) (label-reads (shape_in s (open_node d)) (shape_fits s fit (open_node d)))
    (λ l h. (refl, refl, (refl, h)))
    (λ x h. (x.1, ap (λ shape. Inside (Fore shape x.1)) h.0, subst (λ shape. LabelFits shape x.1) (sym h.0) h.1))
further-reads s fit line.Back d stands =
    line_of s d line.Back (λ l. Inside (Back (shape_in s (open_node d)) l)) (label-reads (shape_in s (open_node d)) (shape_fits s fit (open_node d)))
    (λ l h. (refl, refl, (refl, h)))
    (λ x h. (x.1, ap (λ shape. Inside (Back shape x.1)) h.0, subst (λ shape. LabelFits shape x.1) (sym h.0) h.1))
further-reads s fit line.Mult d stands = line_of s d line.Mult (λ m. Inside (Mult m)) (at_end (mult-reads s fit (open_node d).mults)) (λ m h. (refl, refl, h)) (λ m h. (m, refl, h))
further-reads s fit line.Pre d stands = line_of s d line.Pre (λ p. Inside (Pre p)) (at_end step-reads) (λ p h. (refl, refl, h)) (λ p h. (p, refl, h))
further-reads s fit line.Split d stands = line_of s d line.Split Begin (at_end (split-reads s fit)) (λ h fits. split_begins s h fits.0 fits.1) (λ split h. (head.Split split, refl, (h, tt)))
further-reads s fit line.CountSplit d stands = line_of s d line.CountSplit Begin (at_end (count_split-reads s)) (λ h fits. count_begins s h fits.0 fits.1) (λ x h. (head.CountSplit x.0 x.1, refl, (h, tt)))
further-reads s fit line.Close d stands = alone s d line.Close (Begin head.Close) refl refl tt (λ x. refl)
further-reads s fit line.CountClose d stands = alone s d line.CountClose (Begin head.CountClose) refl refl tt (λ x. refl)
further-reads s fit line.Point d stands = alone s d line.Point (Begin head.Point) refl refl tt (λ x. refl)
further-reads s fit line.Fix d stands = alone s d line.Fix (Begin head.Fix) refl refl tt (λ x. refl)
further-reads s fit line.List d stands = alone s d line.List (Begin head.List) refl refl tt (λ x. refl)
further-reads s fit line.Cut d stands = line_of s d line.Cut (λ c. Inside (Cut c)) (cut-reads s.sets fit.sets) (λ c h. (refl, refl, h)) (λ c h. (c, refl, h))
further-reads s fit line.Near d stands = line_of s d line.Near (λ n. Inside (Near n)) (near-reads s fit (open_node d).near) (λ n h. (refl, refl, h)) (λ n h. (n, refl, h))
further-reads s fit line.Table d stands = line_of s d line.Table (λ t. Inside (Table t)) (at_end (table-reads s fit (open_node d).tables)) (λ t h. (refl, refl, h)) (λ t h. (t, refl, h))
further-reads s fit line.Drop d stands = line_of s d line.Drop (λ l. Inside (Drop l)) (drop-reads s fit) (λ l h. (refl, refl, h)) (λ l h. (l, refl, h))
further-reads s fit line.Tree d stands = line_of s d line.Tree (λ g. Inside (Tree g)) (at_end (tree-reads s fit)) (λ g h. (refl, refl, h)) (λ g h. (g, refl, h))
further-reads s fit line.Path d stands = line_of s d line.Path Path (path-reads d.plan) (λ t h. (refl, refl, h)) (λ t h. (t, refl, h))
further-reads s fit line.Optimal d stands = line_of s d line.Optimal (λ cost. Claim (goal.Optimal cost)) (at_end (number_in-reads (neg_ℤ (pos 1099511627776)) (pos 1099511627776) (refl, refl))) (λ cost h. (refl, refl, h)) (λ cost h. (cost, refl, h))
further-reads s fit line.Infeasible d stands = alone s d line.Infeasible (Claim goal.Infeasible) refl refl tt (λ x. refl)
further-reads s fit line.Proof d stands = cc
further-reads s fit line.End d stands = alone s d line.End End refl refl tt (λ x. refl)

each_rule : (s : Sizes) → SizesFit s → (ks : List LineKind) → AllRead cert_named (ItemMay s) (map (rule_of s) ks)
each_rule s fit [] = tt
each_rule s fit (k ∷ ks) = (record { name = is_name k; reads = λ d stands full. further-reads s fit k d stands }, each_rule s fit ks)

-- where an item stands
abbrev named_as : LineKind → Named Item
named_as k = record { name = λ i. name_of k; further = item_further }

abbrev StandsHere : LineKind → CertDraft → Type 0
StandsHere k d = (may_stand k d ≡ true) × (passes_limit k d ≡ false)

stands_to : (s : Sizes) (d : CertDraft) (i : Item) (k : LineKind) → Stands (named_as k) (map (rule_of s) kinds) d i → StandsHere k d
stands_to s d i line.Fore h = h
stands_to s d i line.Back h = h
stands_to s d i line.Mult h = h
stands_to s d i line.Pre h = h
stands_to s d i line.Split h = h
stands_to s d i line.CountSplit h = h
stands_to s d i line.Close h = h
stands_to s d i line.CountClose h = h
stands_to s d i line.Point h = h
stands_to s d i line.Fix h = h
stands_to s d i line.List h = h
stands_to s d i line.Cut h = h
stands_to s d i line.Near h = h
stands_to s d i line.Table h = h
stands_to s d i line.Drop h = h
stands_to s d i line.Tree h = h
stands_to s d i line.Path h = h
stands_to s d i line.Optimal h = h
stands_to s d i line.Infeasible h = h
stands_to s d i line.Proof h = h
stands_to s d i line.End h = h

stands_from : (s : Sizes) (d : CertDraft) (i : Item) (k : LineKind) → StandsHere k d → Stands (named_as k) (map (rule_of s) kinds) d i
stands_from s d i line.Fore h = h
stands_from s d i line.Back h = h
stands_from s d i line.Mult h = h
stands_from s d i line.Pre h = h
stands_from s d i line.Split h = h
stands_from s d i line.CountSplit h = h
stands_from s d i line.Close h = h
stands_from s d i line.CountClose h = h
stands_from s d i line.Point h = h
stands_from s d i line.Fix h = h
stands_from s d i line.List h = h
stands_from s d i line.Cut h = h
stands_from s d i line.Near h = h
stands_from s d i line.Table h = h
stands_from s d i line.Drop h = h
stands_from s d i line.Tree h = h
stands_from s d i line.Path h = h
stands_from s d i line.Optimal h = h
stands_from s d i line.Infeasible h = h
stands_from s d i line.Proof h = h
stands_from s d i line.End h = h

rules-reads : (s : Sizes) → SizesFit s → (d : CertDraft) → Reads (by_first_word (map (rule_of s) kinds) d) Any (form_of cert_named) (λ i. StandsHere (item_kind i) d × ItemMay s d i) AtEnd
rules-reads s fit d =
    same_as (by_first_word-reads cert_named (ItemMay s) (map (rule_of s) kinds) (each_rule s fit kinds) d)
    (λ i k h. (refl, (stands_to s d i (item_kind i) h.0, h.1)))
    (λ i k h. (stands_from s d i (item_kind i) h.0, h.1))

-- the line of the version
abbrev pub opens : Item → Bool
opens Version = true
opens i = false

abbrev pub CertMay : Sizes → CertDraft → Item → Type 0
CertMay s d Version = (is_some d.goal ≡ true) × (d.opened ≡ false)
CertMay s d i = StandsHere (item_kind i) d × ItemMay s d i

abbrev pub CertLine : Item → Words → Type 0
CertLine = Opening opens (form_of cert_named)

one_printed : IsPrinted (codes "1")
unfolding digits
one_printed = printed_signed (pos 1) (omega arith)

proof_line : ReadsExactly (version_wanted (codes "proof") (codes "1") >>= (λ _. give Version)) (form_of cert_named) (λ i. Version ≡ i)
proof_line = version-reads (codes "proof") (codes "1") Version (form_of cert_named) (printed_name (codes "proof") refl refl refl) one_printed refl

some_item : (i : Item) (words : Words) → CertLine i words → are_some_words words ≡ true
some_item (Claim g) words e = some_of (form_of cert_named (Claim g)) words refl e
some_item (Path t) words e = some_of (form_of cert_named (Path t)) words refl e
some_item Version words e = ap are_some_words e
some_item (Begin h) words e = some_of (form_of cert_named (Begin h)) words refl e
some_item (Inside i) words e = some_of (form_of cert_named (Inside i)) words refl e
some_item End words e = some_of (form_of cert_named End) words refl e

-- where the line of the version is wanted, and where not
version_stage : (d : CertDraft) (words : Words) → wants_version d words ≡ true → (is_some d.goal ≡ true) × (d.opened ≡ false)
version_stage d words h =
    let parts = and_parts (is_some d.goal) (not d.opened && not (begins_with (codes "path") words)) h in
    let more = and_parts (not d.opened) (not (begins_with (codes "path") words)) parts.1 in
    (parts.0, not_is d.opened more.0)
  where
    not_is : (b : Bool) → not b ≡ true → b ≡ false
    not_is true h = cc
    not_is false h = refl

abbrev Elsewhere : CertDraft → LineKind → Type 0
Elsewhere d k = (is_some d.goal ≡ false) ⊎ ((d.opened ≡ true) ⊎ (k ≡ line.Path))

is_not : (b : Bool) → not b ≡ true → b ≡ false
is_not true h = cc
is_not false h = refl

inside_elsewhere : (d : CertDraft) (k : LineKind) (b : Bool) → (d.opened && b) ≡ true → Elsewhere d k
inside_elsewhere d k b h = inr (inl (and_parts d.opened b h).0)

elsewhere : (d : CertDraft) (k : LineKind) → may_stand k d ≡ true → Elsewhere d k
elsewhere d line.Fore h = inside_elsewhere d line.Fore (stands_in line.Fore (open_node d)) h
elsewhere d line.Back h = inside_elsewhere d line.Back (stands_in line.Back (open_node d)) h
elsewhere d line.Mult h = inside_elsewhere d line.Mult (stands_in line.Mult (open_node d)) h
elsewhere d line.Pre h = inside_elsewhere d line.Pre (stands_in line.Pre (open_node d)) h
elsewhere d line.Split h = inr (inl h)
elsewhere d line.CountSplit h = inr (inl h)
elsewhere d line.Close h = inr (inl h)
elsewhere d line.CountClose h = inr (inl h)
elsewhere d line.Point h = inr (inl h)
elsewhere d line.Fix h = inr (inl h)
elsewhere d line.List h = inr (inl h)
elsewhere d line.Cut h = inside_elsewhere d line.Cut (stands_in line.Cut (open_node d)) h
elsewhere d line.Near h = inside_elsewhere d line.Near (stands_in line.Near (open_node d)) h
elsewhere d line.Table h = inside_elsewhere d line.Table (stands_in line.Table (open_node d)) h
elsewhere d line.Drop h = inside_elsewhere d line.Drop (stands_in line.Drop (open_node d)) h
elsewhere d line.Tree h = inside_elsewhere d line.Tree (stands_in line.Tree (open_node d)) h
elsewhere d line.Path h = inr (inr refl)
elsewhere d line.Optimal h = inl (is_not (is_some d.goal) h)
elsewhere d line.Infeasible h = inl (is_not (is_some d.goal) h)
elsewhere d line.Proof h = cc
elsewhere d line.End h = inr (inl h)

no_version : (d : CertDraft) (words : Words) (k : LineKind) → Elsewhere d k → (k ≡ line.Path → begins_with (codes "path") words ≡ true) → wants_version d words ≡ false
no_version d words k (inl none) path = rw none refl
no_version d words k (inr (inl opened)) path = rw opened (and_false (is_some d.goal))
  where
    and_false : (b : Bool) → (b && false) ≡ false
    and_false true = refl
    and_false false = refl
no_version d words k (inr (inr is)) path = rw (path is) (both_false (is_some d.goal) d.opened)
  where
    both_false : (a b : Bool) → (a && (not b && false)) ≡ false
    both_false true true = refl
    both_false true false = refl
    both_false false b = refl

begins_path : (i : Item) (words : Words) → item_kind i ≡ line.Path → map in_printed_form words ≡ form_of cert_named i → begins_with (codes "path") words ≡ true
begins_path i [] is e = cc
begins_path i (w ∷ words) is e =
    let head : in_printed_form w ≡ name_of (item_kind i) = cc in
    let name : in_printed_form w ≡ codes "path" = head ∙ ap name_of is in
    (bytes_eq-Decides w (codes "path")).1 (plain_is w (codes "path") refl name)

-- an item that is not the version
other_told : (s : Sizes) → SizesFit s → (d : CertDraft) (i : Item) (words : Words) → by_first_word (map (rule_of s) kinds) d words ≡ Ok (i, []) → CertLine i words × CertMay s d i
other_told s fit d i words h =
    let spent = (rules-reads s fit d).told words (i, []) h in
    let whole : words ≡ spent.front = spent.is ∙ append-nil spent.front in
    by_item i (ap (λ (ws : Words). map in_printed_form ws) whole ∙ spent.spells) spent.fits
  where
    by_item : (i : Item) → map in_printed_form words ≡ form_of cert_named i → StandsHere (item_kind i) d × ItemMay s d i → CertLine i words × CertMay s d i
    by_item (Claim g) e may = (e, may)
    by_item (Path t) e may = (e, may)
    by_item Version e may = let clash = may.0.0 in cc
    by_item (Begin h) e may = (e, may)
    by_item (Inside i) e may = (e, may)
    by_item End e may = (e, may)

cert_told : (s : Sizes) → SizesFit s → (d : CertDraft) (i : Item) (words : Words) → cert_item s d words ≡ Ok (i, []) → CertLine i words × CertMay s d i
cert_told s fit d i words h = by_test (wants_version d words) refl h
  where
    by_test : (b : Bool) → wants_version d words ≡ b → (if b then (version_wanted (codes "proof") (codes "1") >>= (λ _. give Version)) words else by_first_word (map (rule_of s) kinds) d words) ≡ Ok (i, []) → CertLine i words × CertMay s d i
    by_test true is h =
        let told = proof_line.told words i h in
        subst (λ (j : Item). words ≡ form_of cert_named j → CertLine j words × CertMay s d j) told.1 (λ e. (e, version_stage d words is)) told.0
    by_test false is h = other_told s fit d i words h

other_taken : (s : Sizes) → SizesFit s → (d : CertDraft) (i : Item) (words : Words) → StandsHere (item_kind i) d × ItemMay s d i → map in_printed_form words ≡ form_of cert_named i → cert_item s d words ≡ Ok (i, [])
other_taken s fit d i words may e =
    let off = no_version d words (item_kind i) (elsewhere d (item_kind i) may.0.0) (λ is. begins_path i words is e) in
    rw off (ap (λ ws. by_first_word (map (rule_of s) kinds) d ws) (sym (append-nil words)) ∙ (rules-reads s fit d).taken i words [] tt may e refl)

cert_taken : (s : Sizes) → SizesFit s → (d : CertDraft) (i : Item) (words : Words) → CertMay s d i → CertLine i words → cert_item s d words ≡ Ok (i, [])
cert_taken s fit d (Claim g) words may e = other_taken s fit d (Claim g) words may e
cert_taken s fit d (Path t) words may e = other_taken s fit d (Path t) words may e
cert_taken s fit d Version words may e = let some = may.0 in let unopened = may.1 in ap (cert_item s d) e ∙ rw (some, unopened) (proof_line.taken Version refl)
cert_taken s fit d (Begin h) words may e = other_taken s fit d (Begin h) words may e
cert_taken s fit d (Inside i) words may e = other_taken s fit d (Inside i) words may e
cert_taken s fit d End words may e = other_taken s fit d End words may e

other_printed : (s : Sizes) → SizesFit s → (d : CertDraft) (i : Item) → StandsHere (item_kind i) d × ItemMay s d i → IsPrintedLine (form_of cert_named i) × (map in_printed_form (form_of cert_named i) ≡ form_of cert_named i)
other_printed s fit d i may = printed_form (form_of cert_named) i refl ((rules-reads s fit d).printed i tt may)

cert_printed : (s : Sizes) → SizesFit s → (d : CertDraft) (i : Item) → CertMay s d i → IsPrintedLine (form_of cert_named i) × CertLine i (form_of cert_named i)
cert_printed s fit d (Claim g) may = other_printed s fit d (Claim g) may
cert_printed s fit d (Path t) may = other_printed s fit d (Path t) may
cert_printed s fit d Version may = (proof_line.printed Version refl, refl)
cert_printed s fit d (Begin h) may = other_printed s fit d (Begin h) may
cert_printed s fit d (Inside i) may = other_printed s fit d (Inside i) may
cert_printed s fit d End may = other_printed s fit d End may

cert_only : (i : Item) (words : Words) → CertLine i words → map in_printed_form words ≡ words → words ≡ form_of cert_named i
cert_only (Claim g) words e stays = sym stays ∙ e
cert_only (Path t) words e stays = sym stays ∙ e
cert_only Version words e stays = e
cert_only (Begin h) words e stays = sym stays ∙ e
cert_only (Inside i) words e stays = sym stays ∙ e
cert_only End words e stays = sym stays ∙ e

pub cert_lines : (s : Sizes) → SizesFit s → IsGrammar (cert_grammar s) (λ _. Unit {0}) CertLine (form_of cert_named) (CertMay s)
cert_lines s fit =
    record {
      some = some_item;
      begins = tt;
      keeps = λ d n i going fits may. tt;
      told = λ d i words going fits h. cert_told s fit d i words h;
      taken = λ d i words going may e. cert_taken s fit d i words may e;
      printed = λ d i going may. cert_printed s fit d i may;
      only = cert_only;
    }
