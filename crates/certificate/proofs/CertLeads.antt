-- The lines of a certificate that keeps its limits are read one after the other, as that certificate.
use Rattle.std.proofs.Common.{◌≡◌, ℕ, ◌≤◌, Bool, true, false, not, List, [], ◌∷◌, ◌++◌, length, map, refl, ap, subst, sym, ◌∙◌, append_assoc, append-nil, arith, Some}
use Rattle.std.specs.Prelude.{All, is_some, nat_lt, unwrap_or}
use Rattle.std.specs.List.{flat_map}
use Rattle.std.proofs.lemmas.Bool.{and_from}
use Rattle.std.proofs.lemmas.Bool.Decides.{nat_tests}
use Rattle.std.proofs.lemmas.List.{length-append}
use Rattle.std.proofs.lemmas.List.Elements.{All-head, All-tail}
use Rattle.route_model.specs.declared.plan.Taken.{Taken}
use Rattle.route_model.specs.declared.plan.Plan.{Plan}
use Rattle.route_model.specs.Parts.{plan_with}
use Rattle.route_model.specs.Tidy.{AreFew}
use Rattle.label_rules.specs.declared.label.Label.{Label}
use Rattle.label_rules.specs.declared.table.ProofTable.{ProofTable}
use Rattle.line_text.specs.Words.{is_none}
use Rattle.line_text.specs.Reading.{Grammar}
use Rattle.line_text.specs.Items.{EachAfter}
use Rattle.line_text.proofs.TextLaws.{Leads, leads_append, leads_weaker, leads_each}
use Rattle.model_text.specs.PathText.{PathFits}
use Rattle.model_text.specs.PathFault.{with_path}
use Rattle.model_text.proofs.PathReads.{HasRoom}
use Rattle.model_text.proofs.PlanLaws.{room_for}
use Rattle.certificate.specs.declared.cert.Goal.{Goal}
use Rattle.certificate.specs.declared.cert.Goal.TheVariants as goal
use Rattle.certificate.specs.declared.cert.Step.{Step}
use Rattle.certificate.specs.declared.cert.Trie.{Trie}
use Rattle.certificate.specs.declared.draft.CutLine.{CutLine}
use Rattle.certificate.specs.declared.draft.DropLine.{DropLine}
use Rattle.certificate.specs.declared.draft.MultLine.{MultLine}
use Rattle.certificate.specs.declared.draft.Head.TheVariants as head
use Rattle.certificate.specs.declared.draft.NodeDraft.{NodeDraft}
use Rattle.certificate.specs.declared.draft.CertDraft.{CertDraft}
use Rattle.certificate.specs.declared.sizes.Sizes.{Sizes}
use Rattle.certificate.specs.ProofWords.{NearLine}
use Rattle.certificate.specs.Draft.{begun, with_last, open_node, open_table, open_trie, has_proof, has_mults, is_fix, is_list, has_back, with_fore, with_back, shape_of}
use Rattle.certificate.specs.LineKinds.{stands_in, is_plan, is_full_in, NodeItem, Mult, Cut, Near, Table, Fore, Back, Drop, Tree, Pre, Item, Claim, Path, Version, Begin, Inside, End, put_inside, put}
use Rattle.certificate.specs.CertText.{Written, MultMay, CutLineFits, NearMay, TableMay, LabelFits, LabelsFit, DropFits, StepFits, TrieFits, NodeFits, GoalFits, WrittenFits}
use Rattle.certificate.specs.Reading.{cert_grammar, written_of}
use Rattle.certificate.proofs.CertReads.{inside_kind, InsideMay, CertMay}
use Rattle.certificate.proofs.ItemLists.{last_is, last_set}
use Rattle.certificate.proofs.CertSteps.{bare, table_items, trie_items, mult_item, cut_item, near_item, drop_item, node_items, inside_stands, inside_full, head_stands, head_full}

-- the items of each thing of a list, one thing after the other
flat_on : {D I X : Type 0} (g : Grammar D I) (May : D → I → Type 0) (At : List X → D → Type 0) (items : X → List I) (whole : List X) → ((front : List X) (x : X) (back : List X) (d : D) → front ++ x ∷ back ≡ whole → At front d → Leads g May d (items x) (At (front ++ x ∷ []))) → (front back : List X) (d : D) → front ++ back ≡ whole → At front d → Leads g May d (flat_map items back) (At whole)
flat_on g May At items whole step front [] d is at = subst (λ xs. At xs d) (sym (append-nil front) ∙ is) at
flat_on g May At items whole step front (x ∷ back) d is at =
    leads_append g May (At whole) (items x) (flat_map items back) d
    (leads_weaker g May _ _ (items x) d (λ m later. flat_on g May At items whole step (front ++ x ∷ []) back m (append_assoc front (x ∷ []) back ∙ is) later) (step front x back d is at))

leads_flat : {D I X : Type 0} (g : Grammar D I) (May : D → I → Type 0) (At : List X → D → Type 0) (items : X → List I) (whole : List X) → ((front : List X) (x : X) (back : List X) (d : D) → front ++ x ∷ back ≡ whole → At front d → Leads g May d (items x) (At (front ++ x ∷ []))) → (d : D) → At [] d → Leads g May d (flat_map items whole) (At whole)
leads_flat g May At items whole step d at = flat_on g May At items whole step [] whole d refl at

-- what holds of each thing, at one of them
pub all_seam : {A : Type 0} (P : A → Type 0) (front : List A) (x : A) (back : List A) → All P (front ++ x ∷ back) → P x
all_seam P [] x back all = All-head P x back all
all_seam P (y ∷ front) x back all = all_seam P front x back (All-tail P y (front ++ x ∷ back) all)

each_seam : {A : Type 0} (P : List A → A → Type 0) (before front : List A) (x : A) (back : List A) → EachAfter P before (front ++ x ∷ back) → P (before ++ front) x
each_seam P before [] x back each = subst (λ ys. P ys x) (sym (append-nil before)) each.0
each_seam P before (y ∷ front) x back each = subst (λ ys. P ys x) (append_assoc before (y ∷ []) front) (each_seam P (before ++ y ∷ []) front x back each.1)

few_seam : {A : Type 0} (front : List A) (x : A) (back : List A) (most : ℕ) → length (front ++ x ∷ back) ≤ most → not (nat_lt (length front) most) ≡ false
few_seam front x back most few = let size = length-append front (x ∷ back) in grind (arith, nat_tests, few, size)

-- a list with a thing is none of those that are left out
some_list : {A : Type 0} (b : Bool) (xs front : List A) (x : A) (back : List A) → (b ≡ false → xs ≡ []) → front ++ x ∷ back ≡ xs → b ≡ true
some_list true xs front x back off is = refl
some_list false xs front x back off is =
    let none : front ++ x ∷ back ≡ [] = is ∙ off refl in
    let size = length-append front (x ∷ back) in
    let zero_size : length (front ++ x ∷ back) ≡ 0 = ap (λ (ys : List _). length ys) none in
    absurd (omega (arith, size, zero_size))

some_ends : {A : Type 0} (front : List A) (x : A) → not (is_none (front ++ x ∷ [])) ≡ true
some_ends [] x = refl
some_ends (y ∷ front) x = refl

-- behind the claim: these paths and nodes are read
pub record At (g : Goal) (opened : Bool) (paths : List Taken) (nodes : List NodeDraft) (d : CertDraft) : Type 0 where
  pub going : d.ended ≡ false
  pub goal_is : d.goal ≡ Some g
  pub opened_is : d.opened ≡ opened
  pub plan_is : d.plan ≡ plan_with paths
  pub nodes_are : d.nodes ≡ nodes

abbrev Goes : Sizes → CertDraft → Item → (CertDraft → Type 0) → Type 0
Goes s d i Good = (d.ended ≡ false) × CertMay s d i × ((k : ℕ) → Good (put d k i))

-- a line of the last node
module _ (s : Sizes) (g : Goal) (paths : List Taken) (front : List NodeDraft) where
  abbrev InNode : NodeDraft → CertDraft → Type 0
  InNode n d = At g true paths (front ++ n ∷ []) d

  goes_inside : (n m : NodeDraft) (i : NodeItem) (d : CertDraft) → InNode n d → stands_in (inside_kind i) n ≡ true → is_full_in (inside_kind i) n ≡ false → InsideMay s n i → put_inside n i ≡ m → Goes s d (Inside i) (InNode m)
  goes_inside n m i d at stands full may becomes =
      let last : open_node d ≡ n = last_is (begun head.Point) d.nodes front n at.nodes_are in
      let stands_here : stands_in (inside_kind i) (open_node d) ≡ true = subst (λ u. stands_in (inside_kind i) u ≡ true) (sym last) stands in
      let full_here : is_full_in (inside_kind i) (open_node d) ≡ false = subst (λ u. is_full_in (inside_kind i) u ≡ false) (sym last) full in
      let may_here : InsideMay s (open_node d) i = subst (λ u. InsideMay s u i) (sym last) may in
      let next : with_last d.nodes (put_inside (open_node d) i) ≡ front ++ m ∷ [] =
      last_set d.nodes front n (put_inside (open_node d) i) at.nodes_are ∙ ap (λ u. front ++ u ∷ []) (ap (λ u. put_inside u i) last ∙ becomes) in (
        at.going,
        ((inside_stands d i ∙ and_from d.opened (stands_in (inside_kind i) (open_node d)) at.opened_is stands_here, inside_full d i ∙ full_here), may_here),
        λ k. record { going = at.going; goal_is = at.goal_is; opened_is = at.opened_is; plan_is = at.plan_is; nodes_are = next },
      )

  module _ (n : NodeDraft) (fits : NodeFits s n) where
    abbrev G : Grammar CertDraft Item
    G = cert_grammar s

    abbrev M : CertDraft → Item → Type 0
    M = CertMay s

    -- the node with its lines up to one kind
    abbrev mults_so : List MultLine → NodeDraft
    mults_so ms = record (begun n.head) { mults = ms }

    abbrev cuts_so : List CutLine → NodeDraft
    cuts_so cs = record (mults_so n.mults) { cuts = cs }

    abbrev near_so : List NearLine → NodeDraft
    near_so ls = record (cuts_so n.cuts) { near = ls }

    abbrev tables_so : List ProofTable → NodeDraft
    tables_so ts = record (near_so n.near) { tables = ts }

    abbrev drops_so : List DropLine → NodeDraft
    drops_so ds = record (tables_so n.tables) { drops = ds }

    abbrev tries_so : List Trie → NodeDraft
    tries_so ts = record (drops_so n.drops) { tries = ts }

    lead_mults : (d : CertDraft) → InNode (mults_so []) d → Leads G M d (map mult_item n.mults) (InNode (mults_so n.mults))
    lead_mults = leads_each G M (λ ms d. InNode (mults_so ms) d) mult_item n.mults (λ ms m back d is at.
        goes_inside (mults_so ms) (mults_so (ms ++ m ∷ [])) (Mult m) d at
        (and_from (has_mults n.head) true (some_list (has_mults n.head) n.mults ms m back fits.belongs.mults is) refl) refl
        (each_seam (MultMay s) [] ms m back (subst (EachAfter (MultMay s) []) (sym is) fits.mults)) refl)

    lead_cuts : (d : CertDraft) → InNode (cuts_so []) d → Leads G M d (map cut_item n.cuts) (InNode (cuts_so n.cuts))
    lead_cuts = leads_each G M (λ cs d. InNode (cuts_so cs) d) cut_item n.cuts (λ cs c back d is at.
        goes_inside (cuts_so cs) (cuts_so (cs ++ c ∷ [])) (Cut c) d at
        (and_from (has_proof n.head) true (some_list (has_proof n.head) n.cuts cs c back fits.belongs.cuts is) refl)
        (few_seam cs c back 64 (subst (λ (xs : List CutLine). length xs ≤ 64) (sym is) fits.few_cuts))
        (all_seam (CutLineFits s.sets) cs c back (subst (All (CutLineFits s.sets)) (sym is) fits.cuts)) refl)

    lead_near : (d : CertDraft) → InNode (near_so []) d → Leads G M d (map near_item n.near) (InNode (near_so n.near))
    lead_near = leads_each G M (λ ls d. InNode (near_so ls) d) near_item n.near (λ ls l back d is at.
        goes_inside (near_so ls) (near_so (ls ++ l ∷ [])) (Near l) d at
        (and_from (has_proof n.head) true (some_list (has_proof n.head) n.near ls l back fits.belongs.near is) refl) refl
        (each_seam (NearMay s) [] ls l back (subst (EachAfter (NearMay s) []) (sym is) fits.near)) refl)

    -- a table: its line, its forward labels, its backward labels
    module _ (before : List ProofTable) (t : ProofTable) (labels : LabelsFit (shape_of s (length n.cuts) t) t) where
      abbrev fore_so : List Label → NodeDraft
      fore_so ls = tables_so (before ++ record (bare t) { fore = ls } ∷ [])

      abbrev back_so : List Label → NodeDraft
      back_so ls = tables_so (before ++ record t { back = ls } ∷ [])

      last_table : (u : ProofTable) → open_table (tables_so (before ++ u ∷ [])) ≡ u
      last_table u = last_is _ (before ++ u ∷ []) before u refl

      set_table : (u v : ProofTable) → record (tables_so (before ++ u ∷ [])) { tables = with_last (before ++ u ∷ []) v } ≡ tables_so (before ++ v ∷ [])
      set_table u v = ap tables_so (last_set (before ++ u ∷ []) before u v refl)

      lead_fore : (d : CertDraft) → InNode (fore_so []) d → Leads G M d (map (λ l. Inside (Fore (shape_of s (length n.cuts) t) l)) t.fore) (InNode (fore_so t.fore))
      lead_fore = leads_each G M (λ ls d. InNode (fore_so ls) d) (λ l. Inside (Fore (shape_of s (length n.cuts) t) l)) t.fore (λ ls l back d is at.
          let u : ProofTable = record (bare t) { fore = ls } in
          let last = last_table u in
          goes_inside (fore_so ls) (fore_so (ls ++ l ∷ [])) (Fore (shape_of s (length n.cuts) t) l) d at
          (and_from (not (is_none (before ++ u ∷ []))) (is_none (open_table (fore_so ls)).back) (some_ends before u) (ap (λ (v : ProofTable). is_none v.back) last))
          (subst (λ (v : ProofTable). not (nat_lt (length v.fore) 16777216) ≡ false) (sym last) (few_seam ls l back 16777216 (subst (λ (xs : List Label). length xs ≤ 16777216) (sym is) labels.few_fore)))
          (ap (λ (v : ProofTable). shape_of s (length n.cuts) v) last, all_seam (LabelFits (shape_of s (length n.cuts) t)) ls l back (subst (All (LabelFits (shape_of s (length n.cuts) t))) (sym is) labels.fore))
          (ap (λ (v : ProofTable). record (fore_so ls) { tables = with_last (before ++ u ∷ []) (with_fore v l) }) last ∙ set_table u (with_fore u l)))

      lead_back : (d : CertDraft) → InNode (back_so []) d → Leads G M d (map (λ l. Inside (Back (shape_of s (length n.cuts) t) l)) t.back) (InNode (back_so t.back))
      lead_back = leads_each G M (λ ls d. InNode (back_so ls) d) (λ l. Inside (Back (shape_of s (length n.cuts) t) l)) t.back (λ ls l back d is at.
          let u : ProofTable = record t { back = ls } in
          let last = last_table u in
          goes_inside (back_so ls) (back_so (ls ++ l ∷ [])) (Back (shape_of s (length n.cuts) t) l) d at
          (and_from (not (is_none (before ++ u ∷ []))) (has_back (open_table (back_so ls)).form) (some_ends before u) (ap (λ (v : ProofTable). has_back v.form) last ∙ some_list (has_back t.form) t.back ls l back labels.none_back is))
          (subst (λ (v : ProofTable). not (nat_lt (length v.back) 16777216) ≡ false) (sym last) (few_seam ls l back 16777216 (subst (λ (xs : List Label). length xs ≤ 16777216) (sym is) labels.few_back)))
          (ap (λ (v : ProofTable). shape_of s (length n.cuts) v) last, all_seam (LabelFits (shape_of s (length n.cuts) t)) ls l back (subst (All (LabelFits (shape_of s (length n.cuts) t))) (sym is) labels.back))
          (ap (λ (v : ProofTable). record (back_so ls) { tables = with_last (before ++ u ∷ []) (with_back v l) }) last ∙ set_table u (with_back u l)))

      lead_table : (d : CertDraft) → InNode (tables_so before) d → has_proof n.head ≡ true → TableMay s before t → Leads G M d (table_items s (length n.cuts) t) (InNode (tables_so (before ++ t ∷ [])))
      lead_table d at proof may =
          let first = goes_inside (tables_so before) (tables_so (before ++ bare t ∷ [])) (Table (bare t)) d at (and_from (has_proof n.head) true proof refl) refl (may, (refl, refl)) refl in (
            first.0,
            first.1,
            λ k. leads_append G M (InNode (back_so t.back)) _ _ (put d k (Inside (Table (bare t))))
                (leads_weaker G M _ _ _ (put d k (Inside (Table (bare t)))) (λ m here. lead_back m here) (lead_fore (put d k (Inside (Table (bare t)))) (first.2 k))),
          )

    lead_tables : (d : CertDraft) → InNode (tables_so []) d → Leads G M d (flat_map (table_items s (length n.cuts)) n.tables) (InNode (tables_so n.tables))
    lead_tables = leads_flat G M (λ ts d. InNode (tables_so ts) d) (table_items s (length n.cuts)) n.tables (λ ts t back d is at.
        lead_table ts t (all_seam (λ u. LabelsFit (shape_of s (length n.cuts) u) u) ts t back (subst (All (λ u. LabelsFit (shape_of s (length n.cuts) u) u)) (sym is) fits.labels)) d at
        (some_list (has_proof n.head) n.tables ts t back fits.belongs.tables is)
        (each_seam (TableMay s) [] ts t back (subst (EachAfter (TableMay s) []) (sym is) fits.tables)))

    lead_drops : (d : CertDraft) → InNode (drops_so []) d → Leads G M d (map drop_item n.drops) (InNode (drops_so n.drops))
    lead_drops = leads_each G M (λ ds d. InNode (drops_so ds) d) drop_item n.drops (λ ds l back d is at.
        goes_inside (drops_so ds) (drops_so (ds ++ l ∷ [])) (Drop l) d at
        (some_list (is_fix n.head) n.drops ds l back fits.belongs.drops is) refl
        (all_seam (DropFits s) ds l back (subst (All (DropFits s)) (sym is) fits.drops)) refl)

    -- a prefix tree: its line, its steps
    module _ (before : List Trie) (t : Trie) (trie : TrieFits s t) where
      abbrev steps_so : List Step → NodeDraft
      steps_so ps = tries_so (before ++ record t { steps = ps } ∷ [])

      lead_steps : (d : CertDraft) → InNode (steps_so []) d → Leads G M d (map (λ p. Inside (Pre p)) t.steps) (InNode (steps_so t.steps))
      lead_steps = leads_each G M (λ ps d. InNode (steps_so ps) d) (λ p. Inside (Pre p)) t.steps (λ ps p back d is at.
          let u : Trie = record t { steps = ps } in
          let last : open_trie (steps_so ps) ≡ u = last_is _ (before ++ u ∷ []) before u refl in
          goes_inside (steps_so ps) (steps_so (ps ++ p ∷ [])) (Pre p) d at (some_ends before u)
          (subst (λ (v : Trie). not (nat_lt (length v.steps) 16777216) ≡ false) (sym last) (few_seam ps p back 16777216 (subst (λ (xs : List Step). length xs ≤ 16777216) (sym is) trie.few)))
          (all_seam StepFits ps p back (subst (All StepFits) (sym is) trie.steps))
          (ap (λ (v : Trie). record (steps_so ps) { tries = with_last (before ++ u ∷ []) (record v { steps = v.steps ++ p ∷ [] }) }) last ∙ ap tries_so (last_set (before ++ u ∷ []) before u (record t { steps = ps ++ p ∷ [] }) refl)))

      lead_trie : (d : CertDraft) → InNode (tries_so before) d → is_list n.head ≡ true → Leads G M d (trie_items t) (InNode (tries_so (before ++ t ∷ [])))
      lead_trie d at list =
          let first = goes_inside (tries_so before) (steps_so []) (Tree t.graph) d at list refl trie.graph refl in
          (first.0, first.1, λ k. lead_steps (put d k (Inside (Tree t.graph))) (first.2 k))

    lead_tries : (d : CertDraft) → InNode (tries_so []) d → Leads G M d (flat_map trie_items n.tries) (InNode (tries_so n.tries))
    lead_tries = leads_flat G M (λ ts d. InNode (tries_so ts) d) trie_items n.tries (λ ts t back d is at.
        lead_trie ts t (all_seam (TrieFits s) ts t back (subst (All (TrieFits s)) (sym is) fits.tries)) d at
        (some_list (is_list n.head) n.tries ts t back fits.belongs.tries is))

    -- all lines behind the first
    lead_inside : (d : CertDraft) → InNode (begun n.head) d → Leads G M d (map mult_item n.mults ++ (map cut_item n.cuts ++ (map near_item n.near ++ (flat_map (table_items s (length n.cuts)) n.tables ++ (map drop_item n.drops ++ flat_map trie_items n.tries))))) (InNode n)
    lead_inside d at =
        leads_append G M (InNode n) (map mult_item n.mults) _ d (leads_weaker G M _ _ (map mult_item n.mults) d (λ d1 at1.
        leads_append G M (InNode n) (map cut_item n.cuts) _ d1 (leads_weaker G M _ _ (map cut_item n.cuts) d1 (λ d2 at2.
        leads_append G M (InNode n) (map near_item n.near) _ d2 (leads_weaker G M _ _ (map near_item n.near) d2 (λ d3 at3.
        leads_append G M (InNode n) (flat_map (table_items s (length n.cuts)) n.tables) _ d3 (leads_weaker G M _ _ (flat_map (table_items s (length n.cuts)) n.tables) d3 (λ d4 at4.
        leads_append G M (InNode n) (map drop_item n.drops) _ d4 (leads_weaker G M _ _ (map drop_item n.drops) d4 (λ d5 at5. lead_tries d5 at5) (lead_drops d4 at4))) (lead_tables d3 at3))) (lead_near d2 at2))) (lead_cuts d1 at1))) (lead_mults d at))

-- a node
lead_node : (s : Sizes) (g : Goal) (paths : List Taken) (front : List NodeDraft) (n : NodeDraft) (d : CertDraft) → NodeFits s n → not (nat_lt (length front) 1000000) ≡ false → At g true paths front d → Leads (cert_grammar s) (CertMay s) d (node_items s n) (At g true paths (front ++ n ∷ []))
lead_node s g paths front n d fits room at =
    let nodes = at.nodes_are in (
      at.going,
      ((head_stands d n.head ∙ at.opened_is, head_full d n.head ∙ subst (λ (ns : List NodeDraft). not (nat_lt (length ns) 1000000) ≡ false) (sym nodes) room), fits.head),
      λ k. lead_inside s g paths front n fits (put d k (Begin n.head)) (record { going = at.going; goal_is = at.goal_is; opened_is = at.opened_is; plan_is = at.plan_is; nodes_are = ap (λ ns. ns ++ begun n.head ∷ []) nodes }),
    )

-- a whole certificate
abbrev pub cert_items : Sizes → Written → List Item
cert_items s w = Claim w.goal ∷ map (λ t. Path t) w.plan.paths ++ (Version ∷ flat_map (node_items s) w.nodes ++ End ∷ [])

is_plan_goal : (g : Goal) (plan : Plan) (front : List Taken) (t : Taken) (back : List Taken) → GoalFits g plan → front ++ t ∷ back ≡ plan.paths → is_plan (Some g) ≡ true
is_plan_goal (goal.Optimal cost) plan front t back fits is = refl
is_plan_goal goal.Infeasible plan front t back fits is = some_list false plan.paths front t back (λ off. fits) is

next_path : (s : Sizes) (w : Written) → WrittenFits s w → (front : List Taken) (t : Taken) (back : List Taken) (d : CertDraft) → front ++ t ∷ back ≡ w.plan.paths → At w.goal false front [] d → Goes s d (Path t) (At w.goal false (front ++ t ∷ []) [])
next_path s w fits front t back d is at =
    let path : PathFits t = all_seam PathFits front t back (subst (All PathFits) (sym is) fits.plan.each) in
    let room : HasRoom (plan_with front) t = room_for front t back (subst (λ ts. AreFew (plan_with ts)) (sym is) fits.plan.few) in
    let goal_here : is_plan d.goal ≡ true = ap is_plan at.goal_is ∙ is_plan_goal w.goal w.plan front t back fits.goal is in
    let opened_here : not d.opened ≡ true = ap not at.opened_is in (
      at.going,
      ((and_from (is_plan d.goal) (not d.opened) goal_here opened_here, refl), (path, subst (λ p. HasRoom p t) (sym at.plan_is) room)),
      λ k. record { going = at.going; goal_is = at.goal_is; opened_is = at.opened_is; plan_is = ap (λ p. with_path p t) at.plan_is; nodes_are = at.nodes_are },
    )

claim_may : (s : Sizes) (g : Goal) (plan : Plan) → GoalFits g plan → CertMay s (cert_grammar s).empty (Claim g)
claim_may s (goal.Optimal cost) plan fits = ((refl, refl), fits)
claim_may s goal.Infeasible plan fits = ((refl, refl), tt)

abbrev pub IsRead : Written → CertDraft → Type 0
IsRead w e = (e.ended ≡ true) × (written_of e ≡ w)

pub leads : (s : Sizes) (w : Written) → WrittenFits s w → Leads (cert_grammar s) (CertMay s) (cert_grammar s).empty (cert_items s w) (IsRead w)
leads s w fits = (
  refl,
  claim_may s w.goal w.plan fits.goal,
  λ k. leads_append (cert_grammar s) (CertMay s) (IsRead w) (map (λ t. Path t) w.plan.paths) _ (put (cert_grammar s).empty k (Claim w.goal))
      (leads_weaker (cert_grammar s) (CertMay s) _ _ (map (λ t. Path t) w.plan.paths) (put (cert_grammar s).empty k (Claim w.goal)) behind_paths
      (leads_each (cert_grammar s) (CertMay s) (λ ts d. At w.goal false ts [] d) (λ t. Path t) w.plan.paths (next_path s w fits) (put (cert_grammar s).empty k (Claim w.goal))
      (record { going = refl; goal_is = refl; opened_is = refl; plan_is = refl; nodes_are = refl }))),
)
  where
    at_end : (d : CertDraft) → At w.goal true w.plan.paths w.nodes d → Leads (cert_grammar s) (CertMay s) d (End ∷ []) (IsRead w)
    at_end d at = (at.going, ((at.opened_is, refl), tt), λ k. (refl, whole d at))
      where
        whole : (d : CertDraft) → At w.goal true w.plan.paths w.nodes d → written_of d ≡ w
        whole d at =
            ap (λ g. record { goal = unwrap_or g goal.Infeasible; plan = d.plan; nodes = d.nodes }) at.goal_is
            ∙ (ap (λ p. record { goal = w.goal; plan = p; nodes = d.nodes }) at.plan_is ∙ ap (λ ns. record w { nodes = ns }) at.nodes_are)

    behind_paths : (d : CertDraft) → At w.goal false w.plan.paths [] d → Leads (cert_grammar s) (CertMay s) d (Version ∷ flat_map (node_items s) w.nodes ++ End ∷ []) (IsRead w)
    behind_paths d at = (
      at.going,
      (ap is_some at.goal_is, at.opened_is),
      λ k. leads_append (cert_grammar s) (CertMay s) (IsRead w) (flat_map (node_items s) w.nodes) (End ∷ []) (put d k Version)
          (leads_weaker (cert_grammar s) (CertMay s) _ _ (flat_map (node_items s) w.nodes) (put d k Version) at_end
          (leads_flat (cert_grammar s) (CertMay s) (λ ns d. At w.goal true w.plan.paths ns d) (node_items s) w.nodes
          (λ front n back e is here. lead_node s w.goal w.plan.paths front n e (all_seam (NodeFits s) front n back (subst (All (NodeFits s)) (sym is) fits.each)) (few_seam front n back 1000000 (subst (λ (ns : List NodeDraft). length ns ≤ 1000000) (sym is) fits.few)) here)
          (put d k Version) (record { going = at.going; goal_is = at.goal_is; opened_is = refl; plan_is = at.plan_is; nodes_are = at.nodes_are }))),
    )
