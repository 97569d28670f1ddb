-- The kinds of lines of a certificate: which may stand where, what their words tell, and what they say.
use Rattle.std.specs.Prelude.{ℕ, pos, neg_ℤ, List, [], ◌∷◌, ◌++◌, length, codes, Bool, true, false, ◌&&◌, not, nat_lt, is_some, Option, None, Some, Err, find, if◌then◌else◌}
use Rattle.std.specs.Str.{bytes_eq}
use Rattle.route_model.specs.declared.plan.Taken.{Taken}
use Rattle.label_rules.specs.declared.label.Label.{Label}
use Rattle.label_rules.specs.declared.table.ProofTable.{ProofTable}
use Rattle.line_text.specs.declared.fault.Kind.TheVariants as fault
use Rattle.line_text.specs.Words.{Wants, ◌>>=◌, give, number_in, known_below, is_none}
use Rattle.line_text.specs.Reading.{Rule}
use Rattle.model_text.specs.PathFault.{path_wanted, with_path}
use Rattle.route_model.specs.declared.limits.TheConstants.{MAX_COST_RANGE}
use Rattle.certificate.specs.declared.cert.Goal.{Goal}
use Rattle.certificate.specs.declared.cert.Goal.TheVariants as goal
use Rattle.certificate.specs.declared.cert.Step.{Step}
use Rattle.certificate.specs.declared.draft.CutLine.{CutLine}
use Rattle.certificate.specs.declared.draft.DropLine.{DropLine}
use Rattle.certificate.specs.declared.draft.Head.{Head}
use Rattle.certificate.specs.declared.draft.Head.TheVariants as head
use Rattle.certificate.specs.declared.draft.MultLine.{MultLine}
use Rattle.certificate.specs.declared.draft.NodeDraft.{NodeDraft}
use Rattle.certificate.specs.declared.draft.CertDraft.{CertDraft}
use Rattle.certificate.specs.declared.line_kind.LineKind.{LineKind}
use Rattle.certificate.specs.declared.line_kind.LineKind.TheVariants as line
use Rattle.certificate.specs.declared.limits.TheConstants.{MAX_NODES, MAX_CUTS, MAX_LABELS, MAX_STEPS}
use Rattle.certificate.specs.declared.sizes.Sizes.{Sizes}
use Rattle.certificate.specs.LabelWords.{Shape, label_wanted}
use Rattle.certificate.specs.ProofWords.{NearLine, mult_wanted, cut_wanted, near_wanted, table_wanted, drop_wanted, step_wanted, split_wanted, count_split_wanted}
use Rattle.certificate.specs.Draft.{begun, open_node, open_table, open_trie, with_node, with_table, with_fore, with_back, with_step, has_proof, has_mults, is_fix, is_list, has_back, tables_go_on, near_goes_on, cuts_go_on, mults_go_on, shape_in}

-- the first word of a line
abbrev pub name_of : LineKind → List ℕ
name_of line.Fore = codes "fore"
name_of line.Back = codes "back"
name_of line.Mult = codes "mult"
name_of line.Pre = codes "pre"
name_of line.Split = codes "split"
name_of line.CountSplit = codes "csplit"
name_of line.Close = codes "close"
name_of line.CountClose = codes "cclose"
name_of line.Point = codes "point"
name_of line.Fix = codes "fix"
name_of line.List = codes "list"
name_of line.Cut = codes "cut"
name_of line.Near = codes "near"
name_of line.Table = codes "table"
name_of line.Drop = codes "drop"
name_of line.Tree = codes "tree"
name_of line.Path = codes "path"
name_of line.Optimal = codes "optimal"
name_of line.Infeasible = codes "infeasible"
name_of line.Proof = codes "proof"
name_of line.End = codes "end"

abbrev pub kinds : List LineKind
kinds =
    line.Fore ∷ line.Back ∷ line.Mult ∷ line.Pre ∷ line.Split ∷ line.CountSplit ∷ line.Close ∷ line.CountClose ∷ line.Point
    ∷ line.Fix ∷ line.List ∷ line.Cut ∷ line.Near ∷ line.Table ∷ line.Drop ∷ line.Tree ∷ line.Path ∷ line.Optimal
    ∷ line.Infeasible ∷ line.Proof ∷ line.End ∷ []

-- the kind that a first word tells; none where it is unknown
abbrev pub kind_of : List ℕ → Option LineKind
kind_of first = find (λ kind. bytes_eq first (name_of kind)) kinds

-- where a line stands among the lines of a node: in a node with these lines so far
abbrev pub stands_in : LineKind → NodeDraft → Bool
stands_in line.Mult n = has_mults n.head && mults_go_on n
stands_in line.Cut n = has_proof n.head && cuts_go_on n
stands_in line.Near n = has_proof n.head && near_goes_on n
stands_in line.Table n = has_proof n.head && tables_go_on n
stands_in line.Fore n = not (is_none n.tables) && (tables_go_on n && is_none (open_table n).back)
stands_in line.Back n = not (is_none n.tables) && (tables_go_on n && has_back (open_table n).form)
stands_in line.Drop n = is_fix n.head
stands_in line.Tree n = is_list n.head
stands_in line.Pre n = not (is_none n.tries)
stands_in kind n = false

-- the claim comes first; then the paths, where the claim is a plan; then the line of the version; then the nodes and the end
abbrev pub is_plan : Option Goal → Bool
is_plan (Some (goal.Optimal cost)) = true
is_plan g = false

abbrev pub may_stand : LineKind → CertDraft → Bool
may_stand line.Optimal d = not (is_some d.goal)
may_stand line.Infeasible d = not (is_some d.goal)
may_stand line.Path d = is_plan d.goal && not d.opened
may_stand line.Proof d = false
may_stand line.Split d = d.opened
may_stand line.Close d = d.opened
may_stand line.Fix d = d.opened
may_stand line.List d = d.opened
may_stand line.CountSplit d = d.opened
may_stand line.CountClose d = d.opened
may_stand line.Point d = d.opened
may_stand line.End d = d.opened
may_stand kind d = d.opened && stands_in kind (open_node d)

-- one more line of the kind passes a limit: of nodes, of cuts, of labels of one list, of the steps of a prefix tree
abbrev pub is_full_in : LineKind → NodeDraft → Bool
is_full_in line.Cut n = not (nat_lt (length n.cuts) MAX_CUTS)
is_full_in line.Fore n = not (nat_lt (length (open_table n).fore) MAX_LABELS)
is_full_in line.Back n = not (nat_lt (length (open_table n).back) MAX_LABELS)
is_full_in line.Pre n = not (nat_lt (length (open_trie n).steps) MAX_STEPS)
is_full_in kind n = false

abbrev pub begins_node : LineKind → Bool
begins_node line.Split = true
begins_node line.Close = true
begins_node line.Fix = true
begins_node line.List = true
begins_node line.CountSplit = true
begins_node line.CountClose = true
begins_node line.Point = true
begins_node kind = false

abbrev pub passes_limit : LineKind → CertDraft → Bool
passes_limit line.Split d = not (nat_lt (length d.nodes) MAX_NODES)
passes_limit line.Close d = not (nat_lt (length d.nodes) MAX_NODES)
passes_limit line.Fix d = not (nat_lt (length d.nodes) MAX_NODES)
passes_limit line.List d = not (nat_lt (length d.nodes) MAX_NODES)
passes_limit line.CountSplit d = not (nat_lt (length d.nodes) MAX_NODES)
passes_limit line.CountClose d = not (nat_lt (length d.nodes) MAX_NODES)
passes_limit line.Point d = not (nat_lt (length d.nodes) MAX_NODES)
passes_limit kind d = is_full_in kind (open_node d)

-- what a line of a node says
pub data NodeItem : Type 0 where
  Mult : MultLine → NodeItem
  Cut : CutLine → NodeItem
  Near : NearLine → NodeItem
  Table : ProofTable → NodeItem
  Fore : Shape → Label → NodeItem
  Back : Shape → Label → NodeItem
  Drop : DropLine → NodeItem
  Tree : ℕ → NodeItem
  Pre : Step → NodeItem

-- what a line says
pub data Item : Type 0 where
  Claim : Goal → Item
  Path : Taken → Item
  Version : Item
  Begin : Head → Item
  Inside : NodeItem → Item
  End : Item

-- the further words of a line
abbrev pub label_inside : Shape → (Shape → Label → NodeItem) → Wants Item
label_inside shape make = label_wanted shape >>= (λ l. give (Inside (make shape l)))

abbrev pub inside_wanted : Sizes → LineKind → NodeDraft → Wants Item
inside_wanted s line.Mult n = mult_wanted s n.mults >>= (λ m. give (Inside (Mult m)))
inside_wanted s line.Cut n = cut_wanted s.sets >>= (λ c. give (Inside (Cut c)))
inside_wanted s line.Near n = near_wanted s n.near >>= (λ l. give (Inside (Near l)))
inside_wanted s line.Table n = table_wanted s n.tables >>= (λ t. give (Inside (Table t)))
inside_wanted s line.Fore n = label_inside (shape_in s n) Fore
inside_wanted s line.Back n = label_inside (shape_in s n) Back
inside_wanted s line.Drop n = drop_wanted s >>= (λ l. give (Inside (Drop l)))
inside_wanted s line.Tree n = known_below (length s.graphs) >>= (λ g. give (Inside (Tree g)))
inside_wanted s kind n = step_wanted >>= (λ p. give (Inside (Pre p)))

abbrev pub further_wanted : Sizes → LineKind → CertDraft → Wants Item
further_wanted s line.Optimal d = number_in (neg_ℤ (pos MAX_COST_RANGE)) (pos MAX_COST_RANGE) >>= (λ cost. give (Claim (goal.Optimal cost)))
further_wanted s line.Infeasible d = give (Claim goal.Infeasible)
further_wanted s line.Path d = path_wanted d.plan >>= (λ path. give (Path path))
further_wanted s line.Proof d = give Version
further_wanted s line.Split d = split_wanted s >>= (λ h. give (Begin h))
further_wanted s line.Close d = give (Begin head.Close)
further_wanted s line.Fix d = give (Begin head.Fix)
further_wanted s line.List d = give (Begin head.List)
further_wanted s line.CountSplit d = count_split_wanted >>= (λ h. give (Begin h))
further_wanted s line.CountClose d = give (Begin head.CountClose)
further_wanted s line.Point d = give (Begin head.Point)
further_wanted s line.End d = give End
further_wanted s kind d = inside_wanted s kind (open_node d)

abbrev pub rule_of : Sizes → LineKind → Rule CertDraft Item
rule_of s kind =
    record { name = name_of kind; stands = may_stand kind; full = passes_limit kind; further = further_wanted s kind }

-- what the lines say with one more
abbrev pub put_inside : NodeDraft → NodeItem → NodeDraft
put_inside n (Mult m) = record n { mults = n.mults ++ m ∷ [] }
put_inside n (Cut c) = record n { cuts = n.cuts ++ c ∷ [] }
put_inside n (Near l) = record n { near = n.near ++ l ∷ [] }
put_inside n (Table t) = record n { tables = n.tables ++ t ∷ [] }
put_inside n (Fore shape l) = with_table n (with_fore (open_table n) l)
put_inside n (Back shape l) = with_table n (with_back (open_table n) l)
put_inside n (Drop l) = record n { drops = n.drops ++ l ∷ [] }
put_inside n (Tree g) = record n { tries = n.tries ++ record { graph = g; steps = [] } ∷ [] }
put_inside n (Pre p) = with_step n p

abbrev pub put : CertDraft → ℕ → Item → CertDraft
put d n (Claim g) = record d { goal = Some g; lines = d.lines ++ n ∷ [] }
put d n (Path t) = record d { plan = with_path d.plan t }
put d n Version = record d { opened = true }
put d n (Begin h) = record d { nodes = d.nodes ++ begun h ∷ []; lines = d.lines ++ n ∷ [] }
put d n (Inside i) = with_node d (put_inside (open_node d) i)
put d n End = record d { ended = true; lines = d.lines ++ n ∷ [] }

-- the node with one more line of this kind
abbrev pub inside_read : Sizes → LineKind → NodeDraft → Wants NodeDraft
inside_read s line.Mult n = mult_wanted s n.mults >>= (λ m. give (put_inside n (Mult m)))
inside_read s line.Cut n = cut_wanted s.sets >>= (λ c. give (put_inside n (Cut c)))
inside_read s line.Near n = near_wanted s n.near >>= (λ l. give (put_inside n (Near l)))
inside_read s line.Table n = table_wanted s n.tables >>= (λ t. give (put_inside n (Table t)))
inside_read s line.Fore n = label_wanted (shape_in s n) >>= (λ l. give (put_inside n (Fore (shape_in s n) l)))
inside_read s line.Back n = label_wanted (shape_in s n) >>= (λ l. give (put_inside n (Back (shape_in s n) l)))
inside_read s line.Drop n = drop_wanted s >>= (λ l. give (put_inside n (Drop l)))
inside_read s line.Tree n = known_below (length s.graphs) >>= (λ g. give (put_inside n (Tree g)))
inside_read s kind n = step_wanted >>= (λ p. give (put_inside n (Pre p)))

-- a line of this kind, and what the lines say with it
abbrev pub kind_read : Sizes → LineKind → CertDraft → ℕ → Wants CertDraft
kind_read s kind d number = further_wanted s kind d >>= (λ item. give (put d number item))

-- the kinds of lines of a node behind its first, and those of a claim
abbrev pub is_inside : LineKind → Bool
is_inside line.Fore = true
is_inside line.Back = true
is_inside line.Mult = true
is_inside line.Pre = true
is_inside line.Cut = true
is_inside line.Near = true
is_inside line.Table = true
is_inside line.Drop = true
is_inside line.Tree = true
is_inside kind = false

abbrev pub claims : LineKind → Bool
claims line.Optimal = true
claims line.Infeasible = true
claims kind = false

-- a line: whether its kind is known, may stand here and passes no limit; then its further words
abbrev pub line_read : Sizes → CertDraft → ℕ → Option LineKind → Wants CertDraft
line_read s d number None words = Err fault.Word
line_read s d number (Some kind) words =
    if may_stand kind d
    then (if passes_limit kind d then Err fault.TooMany else kind_read s kind d number words)
    else Err fault.Order
