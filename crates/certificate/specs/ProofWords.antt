-- What is wanted of the further words of each line of a certificate, and the words of each line.
use Rattle.std.specs.Prelude.{ℕ, ◌-◌, ◌^◌, ℤ, pos, neg_ℤ, List, [], ◌∷◌, ◌++◌, length, map, codes, decimal, Bool, true, false, ◌==◌, ◌||◌, not, nat_lt, if◌then◌else◌, Option, None, Some, option_map, Err}
use Rattle.std.specs.Fmt.{signed_decimal}
use Rattle.std.specs.List.{flat_map, range_with_len}
use Rattle.std.specs.Str.{bytes_eq}
use Rattle.path_graph.specs.declared.set_bits.SetBits.{SetBits}
use Rattle.rank1_cuts.specs.declared.cut.CutSet.{CutSet}
use Rattle.route_model.specs.declared.limits.TheConstants.{MAX_MULT}
use Rattle.route_model.specs.declared.multipliers.Quantity.{Quantity}
use Rattle.route_model.specs.declared.multipliers.Quantity.TheVariants as quantity
use Rattle.label_rules.specs.declared.table.Form.{Form}
use Rattle.label_rules.specs.declared.table.Form.TheVariants as form
use Rattle.label_rules.specs.declared.table.ProofTable.{ProofTable}
use Rattle.line_text.specs.declared.fault.Kind.TheVariants as fault
use Rattle.line_text.specs.Words.{Words, Wants, ◌>>=◌, ◌>>◌, give, fault_if, word, number_in, natural_in, known_below, limited_word, for_each}
use Rattle.model_text.specs.LineWords.{last_of, is_above}
use Rattle.model_text.specs.PathFault.{name_wanted, arcs_wanted}
use Rattle.certificate.specs.declared.cert.Step.{Step}
use Rattle.certificate.specs.declared.draft.CutLine.{CutLine}
use Rattle.certificate.specs.declared.draft.DropLine.{DropLine}
use Rattle.certificate.specs.declared.draft.Head.{Head}
use Rattle.certificate.specs.declared.draft.Head.TheVariants as head
use Rattle.certificate.specs.declared.draft.MultKind.{MultKind}
use Rattle.certificate.specs.declared.draft.MultKind.TheVariants as kind
use Rattle.certificate.specs.declared.draft.MultLine.{MultLine}
use Rattle.certificate.specs.declared.sizes.Sizes.{Sizes}
use Rattle.certificate.specs.Sizes.{graph_at}
use Rattle.certificate.specs.SetWords.{sets_wanted, set_words}

-- one of stated words, else Word: the thing that stands beside it
abbrev pub one_of : {A : Type 0} → List (List ℕ × A) → List ℕ → Wants A
one_of [] w words = Err fault.Word
one_of (x ∷ xs) w words = if bytes_eq w x.0 then give x.1 words else one_of xs w words

-- Pairs of numbers ascend strictly, the first number before the second: the first number falls below that of the last pair; or it
-- is the same, and the second does not rise.
abbrev pub falls : Option (ℕ × ℕ) → ℕ → Bool
falls None k = false
falls (Some last) k = nat_lt k last.0

abbrev pub rises : Option (ℕ × ℕ) → ℕ → ℕ → Bool
rises None k n = true
rises (Some last) k n = not (k == last.0) || nat_lt last.1 n

-- what a multiplier stands on: its word, its place among them, and how many of it the model has
abbrev pub kind_word : MultKind → List ℕ
kind_word kind.Var = codes "var"
kind_word kind.Row = codes "row"
kind_word kind.Set = codes "set"
kind_word kind.Paths = codes "paths"

abbrev pub rank : MultKind → ℕ
rank kind.Var = 0
rank kind.Row = 1
rank kind.Set = 2
rank kind.Paths = 3

abbrev pub kind_count : Sizes → MultKind → ℕ
kind_count s kind.Var = s.vars
kind_count s kind.Row = s.rows
kind_count s kind.Set = s.sets
kind_count s kind.Paths = length s.graphs

abbrev pub named : MultKind → List ℕ × MultKind
named kind = (kind_word kind, kind)

-- those of `mult` lines, and those of splits
abbrev pub mult_kinds : List (List ℕ × MultKind)
mult_kinds = named kind.Var ∷ named kind.Row ∷ named kind.Set ∷ named kind.Paths ∷ []

abbrev pub split_kinds : List (List ℕ × MultKind)
split_kinds = named kind.Var ∷ named kind.Paths ∷ []

abbrev pub mult_key : MultLine → ℕ × ℕ
mult_key m = (rank m.kind, m.number)

-- `mult KIND NUMBER M`, after the lines before
abbrev pub mult_wanted : Sizes → List MultLine → Wants MultLine
mult_wanted s before = do
  kind ← (word >>= one_of mult_kinds)
  fault_if fault.Order (falls (option_map mult_key (last_of before)) (rank kind))
  number ← known_below (kind_count s kind)
  fault_if fault.Order (not (rises (option_map mult_key (last_of before)) (rank kind) number))
  value ← number_in (neg_ℤ (pos MAX_MULT)) (pos MAX_MULT)
  give (record { kind = kind; number = number; value = value })

abbrev pub mult_words : MultLine → Words
mult_words m = codes "mult" ∷ kind_word m.kind ∷ decimal m.number ∷ signed_decimal m.value ∷ []

-- SET NUM of a cut
abbrev pub cut_set_wanted : ℕ → Wants CutSet
cut_set_wanted sets = do
  set ← known_below sets
  num ← natural_in 0 255
  give (record { set = set; num = num })

abbrev pub cut_set_words : CutSet → Words
cut_set_words c = decimal c.set ∷ decimal c.num ∷ []

-- `cut DEN Y N`, then N pairs SET NUM, then the sets of the memory
abbrev pub cut_wanted : ℕ → Wants CutLine
cut_wanted sets = do
  den ← natural_in 0 255
  weight ← natural_in 0 MAX_MULT
  count ← natural_in 0 4294967295
  pairs ← for_each (λ place. cut_set_wanted sets) (range_with_len 0 count)
  memory ← sets_wanted sets
  give (record { weight = weight; cut = record { den = den; sets = pairs; memory = memory } })

abbrev pub cut_words : CutLine → Words
cut_words c =
    codes "cut" ∷ decimal c.cut.den ∷ decimal c.weight ∷ decimal (length c.cut.sets) ∷ flat_map cut_set_words c.cut.sets ++ set_words c.cut.memory

-- `near G V SET ..`, after the lines before
abbrev pub NearLine : Type 0
NearLine = ℕ × ℕ × SetBits

abbrev pub near_key : NearLine → ℕ × ℕ
near_key n = (n.0, n.1)

abbrev pub near_wanted : Sizes → List NearLine → Wants NearLine
near_wanted s before = do
  graph ← known_below (length s.graphs)
  fault_if fault.Order (falls (option_map near_key (last_of before)) graph)
  vertex ← known_below (graph_at s graph).vertices
  fault_if fault.Order (not (rises (option_map near_key (last_of before)) graph vertex))
  sets ← sets_wanted s.sets
  give (graph, vertex, sets)

abbrev pub near_words : NearLine → Words
near_words n = codes "near" ∷ decimal n.0 ∷ decimal n.1 ∷ set_words n.2

-- `full`, `half T` or `both`
abbrev pub form_of_word : List ℕ → Wants Form
form_of_word w =
    if bytes_eq w (codes "full") then give form.Full else
    (if bytes_eq w (codes "both") then give form.Both else
    (if bytes_eq w (codes "half") then number_in (neg_ℤ (pos (2 ^ 31))) (pos (2 ^ 31 - 1)) >>= (λ t. give (form.Half t)) else
    (λ words. Err fault.Word)))

abbrev pub form_words : Form → Words
form_words form.Full = codes "full" ∷ []
form_words (form.Half t) = codes "half" ∷ signed_decimal t ∷ []
form_words form.Both = codes "both" ∷ []

-- the least of a table: a number, or `none`
abbrev pub least_wanted : Wants (Option ℤ)
least_wanted = do
  w ← word
  if bytes_eq w (codes "none") then give None else do
    least ← limited_word (neg_ℤ (pos (2 ^ 112))) (pos (2 ^ 112)) w
    give (Some least)

abbrev pub least_word : Option ℤ → List ℕ
least_word None = codes "none"
least_word (Some least) = signed_decimal least

-- `table G FORM LEAST`, after the tables before: a table without labels
abbrev pub table_wanted : Sizes → List ProofTable → Wants ProofTable
table_wanted s before = do
  graph ← known_below (length s.graphs)
  fault_if fault.Order (not (is_above (option_map (λ t. t.graph) (last_of before)) graph))
  form ← (word >>= form_of_word)
  least ← least_wanted
  give (record { graph = graph; form = form; least = least; fore = []; back = [] })

abbrev pub table_words : ProofTable → Words
table_words t = codes "table" ∷ decimal t.graph ∷ form_words t.form ++ least_word t.least ∷ []

-- `drop G ARC ..`, one arc or more
abbrev pub drop_wanted : Sizes → Wants DropLine
drop_wanted s = do
  graph ← known_below (length s.graphs)
  arcs ← arcs_wanted
  give (record { graph = graph; arcs = arcs })

abbrev pub drop_words : DropLine → Words
drop_words d = codes "drop" ∷ decimal d.graph ∷ map decimal d.arcs

-- `pre PARENT ARC`
abbrev pub step_wanted : Wants Step
step_wanted = do
  parent ← name_wanted
  arc ← name_wanted
  give (record { parent = parent; arc = arc })

abbrev pub step_words : Step → Words
step_words p = codes "pre" ∷ decimal p.parent ∷ decimal p.arc ∷ []

-- a number at which a box is split
abbrev pub split_at : Wants ℤ
split_at = number_in (neg_ℤ (pos (2 ^ 63))) (pos (2 ^ 63 - 1))

-- `split var J D` or `split paths G D`
abbrev pub quantity_of : MultKind → ℕ → Quantity
quantity_of kind.Var n = quantity.Var n
quantity_of kind.Row n = quantity.Row n
quantity_of kind.Set n = quantity.Set n
quantity_of kind.Paths n = quantity.Paths n

abbrev pub split_wanted : Sizes → Wants Head
split_wanted s = do
  kind ← (word >>= one_of split_kinds)
  number ← known_below (kind_count s kind)
  at ← split_at
  give (head.Split (record { quantity = quantity_of kind number; at = at }))

-- `csplit WALK D`
abbrev pub count_split_wanted : Wants Head
count_split_wanted = do
  walk ← name_wanted
  at ← split_at
  give (head.CountSplit walk at)

abbrev pub quantity_words : Quantity → Words
quantity_words (quantity.Var n) = codes "var" ∷ decimal n ∷ []
quantity_words (quantity.Row n) = codes "row" ∷ decimal n ∷ []
quantity_words (quantity.Set n) = codes "set" ∷ decimal n ∷ []
quantity_words (quantity.Cut n) = codes "cut" ∷ decimal n ∷ []
quantity_words (quantity.Paths n) = codes "paths" ∷ decimal n ∷ []

abbrev pub head_words : Head → Words
head_words (head.Split split) = codes "split" ∷ quantity_words split.quantity ++ signed_decimal split.at ∷ []
head_words head.Close = codes "close" ∷ []
head_words head.Fix = codes "fix" ∷ []
head_words head.List = codes "list" ∷ []
head_words (head.CountSplit walk at) = codes "csplit" ∷ decimal walk ∷ signed_decimal at ∷ []
head_words head.CountClose = codes "cclose" ∷ []
head_words head.Point = codes "point" ∷ []
