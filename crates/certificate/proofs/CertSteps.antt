-- Each line that is read stands behind the lines read before, and what was read keeps its limits.
use Rattle.std.proofs.Common.{◌≡◌, ℕ, ◌≤◌, ◌<◌, Bool, true, false, not, inl, inr, List, [], ◌∷◌, ◌++◌, length, map, refl, ap, subst, sym, ◌∙◌, arith, Option, None, Some}
use Rattle.std.specs.Prelude.{All, ◌⊎◌, ◌&&◌, is_some, nat_lt, unwrap_or, if◌then◌else◌}
use Rattle.std.specs.List.{flat_map}
use Rattle.std.proofs.lemmas.Bool.{and_parts}
use Rattle.std.proofs.lemmas.Bool.Decides.{nat_tests}
use Rattle.std.proofs.lemmas.List.{length-append}
use Rattle.std.proofs.lemmas.List.Elements.{All-nil, All-push}
use Rattle.route_model.specs.declared.plan.Taken.{Taken}
use Rattle.route_model.specs.Parts.{plan_with}
use Rattle.label_rules.specs.declared.label.Label.{Label}
use Rattle.label_rules.specs.declared.table.ProofTable.{ProofTable}
use Rattle.line_text.specs.Words.{is_none}
use Rattle.line_text.specs.Items.{EachAfter}
use Rattle.model_text.specs.PathText.{PathFits, PlanFits}
use Rattle.model_text.proofs.PathWordLemmas.{few_push}
use Rattle.model_text.proofs.PathReads.{HasRoom}
use Rattle.certificate.specs.declared.cert.Goal.{Goal}
use Rattle.certificate.specs.declared.cert.Goal.TheVariants as goal
use Rattle.certificate.specs.declared.cert.Step.{Step}
use Rattle.certificate.specs.declared.cert.Trie.{Trie}
use Rattle.certificate.specs.declared.draft.CutLine.{CutLine}
use Rattle.certificate.specs.declared.draft.DropLine.{DropLine}
use Rattle.certificate.specs.declared.draft.MultLine.{MultLine}
use Rattle.certificate.specs.declared.draft.Head.{Head}
use Rattle.certificate.specs.declared.draft.Head.TheVariants as head
use Rattle.certificate.specs.declared.draft.NodeDraft.{NodeDraft}
use Rattle.certificate.specs.declared.draft.CertDraft.{CertDraft}
use Rattle.certificate.specs.declared.line_kind.LineKind.TheVariants as line
use Rattle.certificate.specs.declared.sizes.Sizes.{Sizes}
use Rattle.certificate.specs.LabelWords.{Shape}
use Rattle.certificate.specs.ProofWords.{NearLine}
use Rattle.certificate.specs.Draft.{begun, last_or, with_last, open_node, open_table, open_trie, with_fore, with_back, has_proof, has_mults, is_fix, is_list, has_back, tables_go_on, near_goes_on, cuts_go_on, mults_go_on, shape_of, shape_in}
use Rattle.certificate.specs.LineKinds.{stands_in, is_plan, may_stand, is_full_in, passes_limit, NodeItem, Mult, Cut, Near, Table, Fore, Back, Drop, Tree, Pre, Item, Claim, Path, Version, Begin, Inside, End, put_inside, put}
use Rattle.certificate.specs.CertText.{MultMay, CutLineFits, NearMay, TableMay, LabelFits, LabelsFit, DropFits, StepFits, TrieFits, HeadFits, NodeFits, GoalFits}
use Rattle.certificate.specs.Reading.{cert_grammar}
use Rattle.certificate.proofs.ProofReads.{IsBare}
use Rattle.certificate.proofs.CertReads.{inside_kind, head_kind, InsideMay, CertMay}
use Rattle.certificate.proofs.ItemLists.{push_behind, push_here, map_push, flat_push, flat_grows, Ends, ends, last_is, last_set, each_push, all_front, all_last}
use Rattle.line_text.proofs.TextLaws.{IsStep}

-- the items of a table, of a prefix tree and of a node
abbrev pub bare : ProofTable → ProofTable
bare t = record t { fore = []; back = [] }

abbrev pub table_items : Sizes → ℕ → ProofTable → List Item
table_items s cuts t =
    Inside (Table (bare t)) ∷ map (λ l. Inside (Fore (shape_of s cuts t) l)) t.fore ++ map (λ l. Inside (Back (shape_of s cuts t) l)) t.back

abbrev pub trie_items : Trie → List Item
trie_items t = Inside (Tree t.graph) ∷ map (λ p. Inside (Pre p)) t.steps

abbrev pub mult_item : MultLine → Item
mult_item m = Inside (Mult m)

abbrev pub cut_item : CutLine → Item
cut_item c = Inside (Cut c)

abbrev pub near_item : NearLine → Item
near_item n = Inside (Near n)

abbrev pub drop_item : DropLine → Item
drop_item d = Inside (Drop d)

abbrev pub node_items : Sizes → NodeDraft → List Item
node_items s n =
    Begin n.head ∷ map mult_item n.mults ++ (map cut_item n.cuts ++ (map near_item n.near
    ++ (flat_map (table_items s (length n.cuts)) n.tables ++ (map drop_item n.drops ++ flat_map trie_items n.tries))))

abbrev pub claim_items : Option Goal → List Item
claim_items None = []
claim_items (Some g) = Claim g ∷ []

abbrev pub opened_items : Sizes → CertDraft → List Item
opened_items s d = if d.opened then Version ∷ flat_map (node_items s) d.nodes else []

abbrev pub ended_items : CertDraft → List Item
ended_items d = if d.ended then End ∷ [] else []

abbrev pub told_items : Sizes → CertDraft → List Item
told_items s d = claim_items d.goal ++ (map (λ t. Path t) d.plan.paths ++ (opened_items s d ++ ended_items d))

-- lists of which none was read
none_is : {A : Type 0} (xs : List A) → is_none xs ≡ true → xs ≡ []
none_is [] h = refl
none_is (x ∷ xs) h = cc

record NoTail (n : NodeDraft) : Type 0 where
  pub drops : n.drops ≡ []
  pub tries : n.tries ≡ []

no_tail : (n : NodeDraft) → tables_go_on n ≡ true → NoTail n
no_tail n h = let parts = and_parts (is_none n.drops) (is_none n.tries) h in record { drops = none_is n.drops parts.0; tries = none_is n.tries parts.1 }

no_tables : (n : NodeDraft) → near_goes_on n ≡ true → (n.tables ≡ []) × NoTail n
no_tables n h = let parts = and_parts (is_none n.tables) (tables_go_on n) h in (none_is n.tables parts.0, no_tail n parts.1)

no_near : (n : NodeDraft) → cuts_go_on n ≡ true → (n.near ≡ []) × (n.tables ≡ []) × NoTail n
no_near n h = let parts = and_parts (is_none n.near) (near_goes_on n) h in let more = no_tables n parts.1 in (none_is n.near parts.0, more.0, more.1)

no_cuts : (n : NodeDraft) → mults_go_on n ≡ true → (n.cuts ≡ []) × (n.near ≡ []) × (n.tables ≡ []) × NoTail n
no_cuts n h = let parts = and_parts (is_none n.cuts) (cuts_go_on n) h in let more = no_near n parts.1 in (none_is n.cuts parts.0, more.0, more.1, more.2)

has_mults_too : (h : Head) → has_proof h ≡ true → has_mults h ≡ true
has_mults_too (head.Split split) e = cc
has_mults_too head.Close e = refl
has_mults_too head.Fix e = refl
has_mults_too head.List e = refl
has_mults_too (head.CountSplit walk at) e = cc
has_mults_too head.CountClose e = cc
has_mults_too head.Point e = cc

fix_no_list : (h : Head) → is_fix h ≡ true → is_list h ≡ false
fix_no_list (head.Split split) e = cc
fix_no_list head.Close e = cc
fix_no_list head.Fix e = refl
fix_no_list head.List e = cc
fix_no_list (head.CountSplit walk at) e = cc
fix_no_list head.CountClose e = cc
fix_no_list head.Point e = cc

list_no_fix : (h : Head) → is_list h ≡ true → is_fix h ≡ false
list_no_fix (head.Split split) e = cc
list_no_fix head.Close e = cc
list_no_fix head.Fix e = cc
list_no_fix head.List e = refl
list_no_fix (head.CountSplit walk at) e = cc
list_no_fix head.CountClose e = cc
list_no_fix head.Point e = cc

-- the node with one more line
abbrev Stepped : Sizes → NodeDraft → NodeItem → Type 0
Stepped s n i = (node_items s (put_inside n i) ≡ node_items s n ++ Inside i ∷ []) × NodeFits s (put_inside n i)

not_both : {A : Type 0} (b : Bool) → b ≡ true → b ≡ false → A
not_both true e f = cc
not_both false e f = cc

mult_step : (s : Sizes) (n : NodeDraft) (m : MultLine) → NodeFits s n → stands_in line.Mult n ≡ true → MultMay s n.mults m → Stepped s n (Mult m)
mult_step s n m fits stands may =
    let parts = and_parts (has_mults n.head) (mults_go_on n) stands in
    let none = no_cuts n parts.1 in
    let cuts = none.0 in
    let near = none.1 in
    let tables = none.2 in
    let drops = none.3.drops in
    let tries = none.3.tries in
    let rest : map cut_item n.cuts ++ (map near_item n.near ++ (flat_map (table_items s (length n.cuts)) n.tables ++ (map drop_item n.drops ++ flat_map trie_items n.tries))) ≡ [] = rw (cuts, near, tables, drops, tries) refl in (
      ap (λ is. Begin n.head ∷ is) (push_here (map mult_item n.mults) (map mult_item (n.mults ++ m ∷ [])) _ _ (mult_item m) (map_push mult_item n.mults m) rest rest),
      record {
        head = fits.head;
        belongs = record { mults = λ off. not_both (has_mults n.head) parts.0 off; cuts = fits.belongs.cuts; near = fits.belongs.near; tables = fits.belongs.tables; drops = fits.belongs.drops; tries = fits.belongs.tries };
        mults = each_push (MultMay s) [] n.mults m fits.mults may;
        cuts = fits.cuts;
        few_cuts = fits.few_cuts;
        near = fits.near;
        tables = fits.tables;
        labels = fits.labels;
        drops = fits.drops;
        tries = fits.tries;
      },
    )

few_more : {A : Type 0} (xs : List A) (x : A) (most : ℕ) → not (nat_lt (length xs) most) ≡ false → length (xs ++ x ∷ []) ≤ most
few_more xs x most full = let size = length-append xs (x ∷ []) in grind (arith, nat_tests, full, size)

cut_step : (s : Sizes) (n : NodeDraft) (c : CutLine) → NodeFits s n → stands_in line.Cut n ≡ true → is_full_in line.Cut n ≡ false → CutLineFits s.sets c → Stepped s n (Cut c)
cut_step s n c fits stands full may =
    let parts = and_parts (has_proof n.head) (cuts_go_on n) stands in
    let none = no_near n parts.1 in
    let near = none.0 in
    let tables = none.1 in
    let drops = none.2.drops in
    let tries = none.2.tries in
    let rest : (k : ℕ) → map near_item n.near ++ (flat_map (table_items s k) n.tables ++ (map drop_item n.drops ++ flat_map trie_items n.tries)) ≡ [] = λ k. rw (near, tables, drops, tries) refl in (
      ap (λ is. Begin n.head ∷ is) (push_behind (map mult_item n.mults) _ _ (cut_item c) (push_here (map cut_item n.cuts) (map cut_item (n.cuts ++ c ∷ [])) _ _ (cut_item c) (map_push cut_item n.cuts c) (rest (length n.cuts)) (rest (length (n.cuts ++ c ∷ []))))),
      record {
        head = fits.head;
        belongs = record { mults = fits.belongs.mults; cuts = λ off. not_both (has_proof n.head) parts.0 off; near = fits.belongs.near; tables = fits.belongs.tables; drops = fits.belongs.drops; tries = fits.belongs.tries };
        mults = fits.mults;
        cuts = All-push (CutLineFits s.sets) n.cuts c fits.cuts may;
        few_cuts = few_more n.cuts c 64 full;
        near = fits.near;
        tables = fits.tables;
        labels = subst (λ ts. All (λ t. LabelsFit (shape_of s (length (n.cuts ++ c ∷ [])) t) t) ts) (sym tables) (All-nil (λ t. LabelsFit (shape_of s (length (n.cuts ++ c ∷ [])) t) t));
        drops = fits.drops;
        tries = fits.tries;
      },
    )

near_step : (s : Sizes) (n : NodeDraft) (l : NearLine) → NodeFits s n → stands_in line.Near n ≡ true → NearMay s n.near l → Stepped s n (Near l)
near_step s n l fits stands may =
    let parts = and_parts (has_proof n.head) (near_goes_on n) stands in
    let none = no_tables n parts.1 in
    let tables = none.0 in
    let drops = none.1.drops in
    let tries = none.1.tries in
    let rest : flat_map (table_items s (length n.cuts)) n.tables ++ (map drop_item n.drops ++ flat_map trie_items n.tries) ≡ [] = rw (tables, drops, tries) refl in (
      ap (λ is. Begin n.head ∷ is) (push_behind (map mult_item n.mults) _ _ (near_item l) (push_behind (map cut_item n.cuts) _ _ (near_item l) (push_here (map near_item n.near) (map near_item (n.near ++ l ∷ [])) _ _ (near_item l) (map_push near_item n.near l) rest rest))),
      record {
        head = fits.head;
        belongs = record { mults = fits.belongs.mults; cuts = fits.belongs.cuts; near = λ off. not_both (has_proof n.head) parts.0 off; tables = fits.belongs.tables; drops = fits.belongs.drops; tries = fits.belongs.tries };
        mults = fits.mults;
        cuts = fits.cuts;
        few_cuts = fits.few_cuts;
        near = each_push (NearMay s) [] n.near l fits.near may;
        tables = fits.tables;
        labels = fits.labels;
        drops = fits.drops;
        tries = fits.tries;
      },
    )

-- items behind the near lists
behind_near : (s : Sizes) (n : NodeDraft) (more rest : List Item) (x : Item) → more ≡ rest ++ x ∷ [] → Begin n.head ∷ map mult_item n.mults ++ (map cut_item n.cuts ++ (map near_item n.near ++ more)) ≡ (Begin n.head ∷ map mult_item n.mults ++ (map cut_item n.cuts ++ (map near_item n.near ++ rest))) ++ x ∷ []
behind_near s n more rest x e =
    ap (λ is. Begin n.head ∷ is) (push_behind (map mult_item n.mults) _ _ x (push_behind (map cut_item n.cuts) _ _ x (push_behind (map near_item n.near) rest more x e)))

bare_same : (t : ProofTable) → IsBare t → bare t ≡ t
bare_same t is = ap (λ ls. record t { fore = ls; back = [] }) (sym is.0) ∙ ap (λ ls. record t { back = ls }) (sym is.1)

table_step : (s : Sizes) (n : NodeDraft) (t : ProofTable) → NodeFits s n → stands_in line.Table n ≡ true → TableMay s n.tables t → IsBare t → Stepped s n (Table t)
table_step s n t fits stands may is =
    let parts = and_parts (has_proof n.head) (tables_go_on n) stands in
    let none = no_tail n parts.1 in
    let drops = none.drops in
    let tries = none.tries in
    let rest : map drop_item n.drops ++ flat_map trie_items n.tries ≡ [] = rw (drops, tries) refl in
    let fore = is.0 in
    let back = is.1 in
    let alone : table_items s (length n.cuts) t ≡ Inside (Table t) ∷ [] = rw (bare_same t is, fore, back) refl in (
      behind_near s n _ _ (Inside (Table t)) (push_here (flat_map (table_items s (length n.cuts)) n.tables) (flat_map (table_items s (length n.cuts)) (n.tables ++ t ∷ [])) _ _ (Inside (Table t)) (flat_push (table_items s (length n.cuts)) n.tables t (Inside (Table t)) alone) rest rest),
      record {
        head = fits.head;
        belongs = record { mults = fits.belongs.mults; cuts = fits.belongs.cuts; near = fits.belongs.near; tables = λ off. not_both (has_proof n.head) parts.0 off; drops = fits.belongs.drops; tries = fits.belongs.tries };
        mults = fits.mults;
        cuts = fits.cuts;
        few_cuts = fits.few_cuts;
        near = fits.near;
        tables = each_push (TableMay s) [] n.tables t fits.tables may;
        labels = All-push (λ t. LabelsFit (shape_of s (length n.cuts) t) t) n.tables t fits.labels (no_labels is);
        drops = fits.drops;
        tries = fits.tries;
      },
    )
  where
    no_labels : IsBare t → LabelsFit (shape_of s (length n.cuts) t) t
    no_labels is =
        record {
          fore = subst (All (LabelFits (shape_of s (length n.cuts) t))) (sym is.0) (All-nil (LabelFits (shape_of s (length n.cuts) t)));
          few_fore = subst (λ (ls : List Label). length ls ≤ 16777216) (sym is.0) (omega arith);
          back = subst (All (LabelFits (shape_of s (length n.cuts) t))) (sym is.1) (All-nil (LabelFits (shape_of s (length n.cuts) t)));
          few_back = subst (λ (ls : List Label). length ls ≤ 16777216) (sym is.1) (omega arith);
          none_back = λ off. is.1;
        }

-- a line of the last table
record LastTable (n : NodeDraft) : Type 0 where
  pub front : List ProofTable
  pub table : ProofTable
  pub is : n.tables ≡ front ++ table ∷ []
  pub opened : open_table n ≡ table

some_table : (n : NodeDraft) → not (is_none n.tables) ≡ true → LastTable n
some_table n some = by_end (ends n.tables)
  where
    by_end : (n.tables ≡ []) ⊎ Ends n.tables → LastTable n
    by_end (inl none) = let test : not (is_none n.tables) ≡ false = rw none refl in not_both (not (is_none n.tables)) some test
    by_end (inr e) = record { front = e.front; table = e.last; is = e.is; opened = last_is _ n.tables e.front e.last e.is }

table_grows : (s : Sizes) (n : NodeDraft) (front : List ProofTable) (old new : ProofTable) (x : Item) → NoTail n → n.tables ≡ front ++ old ∷ [] → table_items s (length n.cuts) new ≡ table_items s (length n.cuts) old ++ x ∷ [] → node_items s (record n { tables = with_last n.tables new }) ≡ node_items s n ++ x ∷ []
table_grows s n front old new x none is more =
    let drops = none.drops in
    let tries = none.tries in
    let rest : map drop_item n.drops ++ flat_map trie_items n.tries ≡ [] = rw (drops, tries) refl in
    let now : flat_map (table_items s (length n.cuts)) (with_last n.tables new) ≡ flat_map (table_items s (length n.cuts)) n.tables ++ x ∷ [] =
    ap (flat_map (table_items s (length n.cuts))) (last_set n.tables front old new is) ∙ (flat_grows (table_items s (length n.cuts)) front old new x more
    ∙ ap (λ ts. flat_map (table_items s (length n.cuts)) ts ++ x ∷ []) (sym is)) in
    behind_near s n _ _ x (push_here (flat_map (table_items s (length n.cuts)) n.tables) _ _ _ x now rest rest)

-- a table with other labels is as good behind the tables before it
tables_stay : (s : Sizes) (before front : List ProofTable) (old new : ProofTable) → EachAfter (TableMay s) before (front ++ old ∷ []) → new.graph ≡ old.graph → new.form ≡ old.form → new.least ≡ old.least → EachAfter (TableMay s) before (front ++ new ∷ [])
tables_stay s before [] old new each g f l =
    let may = each.0 in
    (rw (g, f, l) may, tt)
tables_stay s before (t ∷ front) old new each g f l = (each.0, tables_stay s (before ++ t ∷ []) front old new each.1 g f l)

table_fits : (s : Sizes) (n : NodeDraft) (front : List ProofTable) (old new : ProofTable) → NodeFits s n → n.tables ≡ front ++ old ∷ [] → new.graph ≡ old.graph → new.form ≡ old.form → new.least ≡ old.least → LabelsFit (shape_of s (length n.cuts) new) new → (has_proof n.head ≡ true) → NodeFits s (record n { tables = with_last n.tables new })
table_fits s n front old new fits is g f l labels proof =
    let now : with_last n.tables new ≡ front ++ new ∷ [] = last_set n.tables front old new is in
    record {
      head = fits.head;
      belongs = record { mults = fits.belongs.mults; cuts = fits.belongs.cuts; near = fits.belongs.near; tables = λ off. not_both (has_proof n.head) proof off; drops = fits.belongs.drops; tries = fits.belongs.tries };
      mults = fits.mults;
      cuts = fits.cuts;
      few_cuts = fits.few_cuts;
      near = fits.near;
      tables = subst (EachAfter (TableMay s) []) (sym now) (tables_stay s [] front old new (subst (EachAfter (TableMay s) []) is fits.tables) g f l);
      labels = subst (All (λ t. LabelsFit (shape_of s (length n.cuts) t) t)) (sym now) (All-push (λ t. LabelsFit (shape_of s (length n.cuts) t) t) front new (all_front (λ t. LabelsFit (shape_of s (length n.cuts) t) t) front old (subst (All (λ t. LabelsFit (shape_of s (length n.cuts) t) t)) is fits.labels)) labels);
      drops = fits.drops;
      tries = fits.tries;
    }

-- a node with tables has a proof
tables_proof : (s : Sizes) (n : NodeDraft) → NodeFits s n → not (is_none n.tables) ≡ true → has_proof n.head ≡ true
tables_proof s n fits some = by_test (has_proof n.head) refl
  where
    by_test : (b : Bool) → has_proof n.head ≡ b → has_proof n.head ≡ true
    by_test true is = is
    by_test false is = let none = fits.belongs.tables is in let test : not (is_none n.tables) ≡ false = rw none refl in not_both (not (is_none n.tables)) some test

fore_step : (s : Sizes) (n : NodeDraft) (shape : Shape) (l : Label) → NodeFits s n → stands_in line.Fore n ≡ true → is_full_in line.Fore n ≡ false → shape_in s n ≡ shape → LabelFits shape l → Stepped s n (Fore shape l)
fore_step s n shape l fits stands full shaped may =
    let parts = and_parts (not (is_none n.tables)) (tables_go_on n && is_none (open_table n).back) stands in
    let more = and_parts (tables_go_on n) (is_none (open_table n).back) parts.1 in
    let last = some_table n parts.0 in
    let t : ProofTable = open_table n in
    let is : n.tables ≡ last.front ++ t ∷ [] = subst (λ u. n.tables ≡ last.front ++ u ∷ []) (sym last.opened) last.is in
    let back = none_is t.back more.1 in
    let none = no_tail n more.0 in
    let old = all_last (λ t. LabelsFit (shape_of s (length n.cuts) t) t) last.front t (subst (All (λ t. LabelsFit (shape_of s (length n.cuts) t) t)) is fits.labels) in
    let fit : LabelFits (shape_of s (length n.cuts) t) l = subst (λ sh. LabelFits sh l) (sym shaped) may in (
      table_grows s n last.front t (with_fore t l) (Inside (Fore shape l)) none is
          (subst (λ sh. table_items s (length n.cuts) (with_fore t l) ≡ table_items s (length n.cuts) t ++ Inside (Fore sh l) ∷ []) shaped (fore_more t back)),
      table_fits s n last.front t (with_fore t l) fits is refl refl refl
          (record { fore = All-push (LabelFits (shape_of s (length n.cuts) t)) t.fore l old.fore fit; few_fore = few_more t.fore l 16777216 full; back = old.back; few_back = old.few_back; none_back = old.none_back })
          (tables_proof s n fits parts.0),
    )
  where
    fore_more : (t : ProofTable) → t.back ≡ [] → table_items s (length n.cuts) (with_fore t l) ≡ table_items s (length n.cuts) t ++ Inside (Fore (shape_of s (length n.cuts) t) l) ∷ []
    fore_more t back =
        let rest : map (λ l. Inside (Back (shape_of s (length n.cuts) t) l)) t.back ≡ [] = rw back refl in
        ap (λ is. Inside (Table (bare t)) ∷ is) (push_here (map (λ l. Inside (Fore (shape_of s (length n.cuts) t) l)) t.fore) _ _ _ _ (map_push (λ l. Inside (Fore (shape_of s (length n.cuts) t) l)) t.fore l) rest rest)

back_step : (s : Sizes) (n : NodeDraft) (shape : Shape) (l : Label) → NodeFits s n → stands_in line.Back n ≡ true → is_full_in line.Back n ≡ false → shape_in s n ≡ shape → LabelFits shape l → Stepped s n (Back shape l)
back_step s n shape l fits stands full shaped may =
    let parts = and_parts (not (is_none n.tables)) (tables_go_on n && has_back (open_table n).form) stands in
    let more = and_parts (tables_go_on n) (has_back (open_table n).form) parts.1 in
    let last = some_table n parts.0 in
    let t : ProofTable = open_table n in
    let is : n.tables ≡ last.front ++ t ∷ [] = subst (λ u. n.tables ≡ last.front ++ u ∷ []) (sym last.opened) last.is in
    let none = no_tail n more.0 in
    let old = all_last (λ t. LabelsFit (shape_of s (length n.cuts) t) t) last.front t (subst (All (λ t. LabelsFit (shape_of s (length n.cuts) t) t)) is fits.labels) in
    let fit : LabelFits (shape_of s (length n.cuts) t) l = subst (λ sh. LabelFits sh l) (sym shaped) may in (
      table_grows s n last.front t (with_back t l) (Inside (Back shape l)) none is
          (subst (λ sh. table_items s (length n.cuts) (with_back t l) ≡ table_items s (length n.cuts) t ++ Inside (Back sh l) ∷ []) shaped (back_more t)),
      table_fits s n last.front t (with_back t l) fits is refl refl refl
          (record { fore = old.fore; few_fore = old.few_fore; back = All-push (LabelFits (shape_of s (length n.cuts) t)) t.back l old.back fit; few_back = few_more t.back l 16777216 full; none_back = λ off. not_both (has_back t.form) more.1 off })
          (tables_proof s n fits parts.0),
    )
  where
    back_more : (t : ProofTable) → table_items s (length n.cuts) (with_back t l) ≡ table_items s (length n.cuts) t ++ Inside (Back (shape_of s (length n.cuts) t) l) ∷ []
    back_more t =
        ap (λ is. Inside (Table (bare t)) ∷ is) (push_behind (map (λ l. Inside (Fore (shape_of s (length n.cuts) t) l)) t.fore) _ _ _ (map_push (λ l. Inside (Back (shape_of s (length n.cuts) t) l)) t.back l))

-- dropped arcs and prefix trees
behind_tables : (s : Sizes) (n : NodeDraft) (more rest : List Item) (x : Item) → more ≡ rest ++ x ∷ [] → Begin n.head ∷ map mult_item n.mults ++ (map cut_item n.cuts ++ (map near_item n.near ++ (flat_map (table_items s (length n.cuts)) n.tables ++ more))) ≡ (Begin n.head ∷ map mult_item n.mults ++ (map cut_item n.cuts ++ (map near_item n.near ++ (flat_map (table_items s (length n.cuts)) n.tables ++ rest)))) ++ x ∷ []
behind_tables s n more rest x e = behind_near s n _ _ x (push_behind (flat_map (table_items s (length n.cuts)) n.tables) rest more x e)

drop_step : (s : Sizes) (n : NodeDraft) (d : DropLine) → NodeFits s n → is_fix n.head ≡ true → DropFits s d → Stepped s n (Drop d)
drop_step s n d fits fix may =
    let tries = fits.belongs.tries (fix_no_list n.head fix) in
    let rest : flat_map trie_items n.tries ≡ [] = rw tries refl in (
      behind_tables s n _ _ (drop_item d) (push_here (map drop_item n.drops) _ _ _ (drop_item d) (map_push drop_item n.drops d) rest rest),
      record {
        head = fits.head;
        belongs = record { mults = fits.belongs.mults; cuts = fits.belongs.cuts; near = fits.belongs.near; tables = fits.belongs.tables; drops = λ off. not_both (is_fix n.head) fix off; tries = fits.belongs.tries };
        mults = fits.mults;
        cuts = fits.cuts;
        few_cuts = fits.few_cuts;
        near = fits.near;
        tables = fits.tables;
        labels = fits.labels;
        drops = All-push (DropFits s) n.drops d fits.drops may;
        tries = fits.tries;
      },
    )

with_tries : (s : Sizes) (n : NodeDraft) (tries : List Trie) → NodeFits s n → is_list n.head ≡ true → All (TrieFits s) tries → NodeFits s (record n { tries = tries })
with_tries s n tries fits list all =
    record {
      head = fits.head;
      belongs = record { mults = fits.belongs.mults; cuts = fits.belongs.cuts; near = fits.belongs.near; tables = fits.belongs.tables; drops = fits.belongs.drops; tries = λ off. not_both (is_list n.head) list off };
      mults = fits.mults;
      cuts = fits.cuts;
      few_cuts = fits.few_cuts;
      near = fits.near;
      tables = fits.tables;
      labels = fits.labels;
      drops = fits.drops;
      tries = all;
    }

tree_step : (s : Sizes) (n : NodeDraft) (g : ℕ) → NodeFits s n → is_list n.head ≡ true → g < length s.graphs → Stepped s n (Tree g)
tree_step s n g fits list may = (
  behind_tables s n _ _ (Inside (Tree g)) (push_behind (map drop_item n.drops) _ _ (Inside (Tree g)) (flat_push trie_items n.tries (record { graph = g; steps = [] }) (Inside (Tree g)) refl)),
  with_tries s n (n.tries ++ record { graph = g; steps = [] } ∷ []) fits list (All-push (TrieFits s) n.tries (record { graph = g; steps = [] }) fits.tries (record { graph = may; steps = All-nil StepFits; few = omega arith })),
)

-- a node with prefix trees is a list
tries_list : (s : Sizes) (n : NodeDraft) → NodeFits s n → not (is_none n.tries) ≡ true → is_list n.head ≡ true
tries_list s n fits some = by_test (is_list n.head) refl
  where
    by_test : (b : Bool) → is_list n.head ≡ b → is_list n.head ≡ true
    by_test true is = is
    by_test false is = let none = fits.belongs.tries is in let test : not (is_none n.tries) ≡ false = rw none refl in not_both (not (is_none n.tries)) some test

pre_step : (s : Sizes) (n : NodeDraft) (p : Step) → NodeFits s n → stands_in line.Pre n ≡ true → is_full_in line.Pre n ≡ false → StepFits p → Stepped s n (Pre p)
pre_step s n p fits stands full may = by_end (ends n.tries)
  where
    by_end : (n.tries ≡ []) ⊎ Ends n.tries → Stepped s n (Pre p)
    by_end (inl none) = let test : not (is_none n.tries) ≡ false = rw none refl in not_both (not (is_none n.tries)) stands test
    by_end (inr e) =
        let last_one : open_trie n ≡ e.last = last_is _ n.tries e.front e.last e.is in
        let is : n.tries ≡ e.front ++ open_trie n ∷ [] = subst (λ u. n.tries ≡ e.front ++ u ∷ []) (sym last_one) e.is in
        let new : Trie = record (open_trie n) { steps = (open_trie n).steps ++ p ∷ [] } in
        let now : with_last n.tries new ≡ e.front ++ new ∷ [] = last_set n.tries e.front (open_trie n) new is in
        let more : flat_map trie_items (with_last n.tries new) ≡ flat_map trie_items n.tries ++ Inside (Pre p) ∷ [] =
        ap (flat_map trie_items) now ∙ (flat_grows trie_items e.front (open_trie n) new (Inside (Pre p)) (ap (λ is. Inside (Tree (open_trie n).graph) ∷ is) (map_push (λ p. Inside (Pre p)) (open_trie n).steps p)) ∙ ap (λ ts. flat_map trie_items ts ++ Inside (Pre p) ∷ []) (sym is)) in
        let old = all_last (TrieFits s) e.front (open_trie n) (subst (All (TrieFits s)) is fits.tries) in (
          behind_tables s n _ _ (Inside (Pre p)) (push_behind (map drop_item n.drops) _ _ (Inside (Pre p)) more),
          with_tries s n (with_last n.tries new) fits (tries_list s n fits stands)
              (subst (All (TrieFits s)) (sym now) (All-push (TrieFits s) e.front new (all_front (TrieFits s) e.front (open_trie n) (subst (All (TrieFits s)) is fits.tries))
              (record { graph = old.graph; steps = All-push StepFits (open_trie n).steps p old.steps may; few = few_more (open_trie n).steps p 16777216 full }))),
        )

node_step : (s : Sizes) (n : NodeDraft) (i : NodeItem) → NodeFits s n → stands_in (inside_kind i) n ≡ true → is_full_in (inside_kind i) n ≡ false → InsideMay s n i → Stepped s n i
node_step s n (Mult m) fits stands full may = mult_step s n m fits stands may
node_step s n (Cut c) fits stands full may = cut_step s n c fits stands full may
node_step s n (Near l) fits stands full may = near_step s n l fits stands may
node_step s n (Table t) fits stands full may = table_step s n t fits stands may.0 may.1
node_step s n (Fore shape l) fits stands full may = fore_step s n shape l fits stands full may.0 may.1
node_step s n (Back shape l) fits stands full may = back_step s n shape l fits stands full may.0 may.1
node_step s n (Drop d) fits stands full may = drop_step s n d fits stands may
node_step s n (Tree g) fits stands full may = tree_step s n g fits stands may
node_step s n (Pre p) fits stands full may = pre_step s n p fits stands full may

-- what was read keeps its limits
pub record CertFits (s : Sizes) (d : CertDraft) : Type 0 where
  pub goal : GoalFits (unwrap_or d.goal goal.Infeasible) d.plan
  pub some_goal : d.opened ≡ true → is_some d.goal ≡ true
  pub plan : PlanFits d.plan
  pub unopened : d.opened ≡ false → d.nodes ≡ []
  pub closed : d.ended ≡ true → d.opened ≡ true
  pub few : length d.nodes ≤ 1000000
  pub each : All (NodeFits s) d.nodes

abbrev CertStepped : Sizes → CertDraft → ℕ → Item → Type 0
CertStepped s d n i = (told_items s (put d n i) ≡ told_items s d ++ i ∷ []) × CertFits s (put d n i)

none_goal : (g : Option Goal) → not (is_some g) ≡ true → g ≡ None
none_goal None h = refl
none_goal (Some g) h = cc

unopened_of : (d : CertDraft) → (d.opened ≡ true → is_some d.goal ≡ true) → d.goal ≡ None → d.opened ≡ false
unopened_of d some none = by_test d.opened refl
  where
    by_test : (b : Bool) → d.opened ≡ b → d.opened ≡ false
    by_test true is = let test = some is in let off : is_some d.goal ≡ false = rw none refl in not_both (is_some d.goal) test off
    by_test false is = is

empty_begins : (s : Sizes) (h : Head) → HeadFits s h → NodeFits s (begun h)
empty_begins s h fits =
    record {
      head = fits;
      belongs = record { mults = λ off. refl; cuts = λ off. refl; near = λ off. refl; tables = λ off. refl; drops = λ off. refl; tries = λ off. refl };
      mults = tt;
      cuts = All-nil (CutLineFits s.sets);
      few_cuts = omega arith;
      near = tt;
      tables = tt;
      labels = All-nil (λ t. LabelsFit (shape_of s 0 t) t);
      drops = All-nil (DropFits s);
      tries = All-nil (TrieFits s);
    }

-- where the lines of a node and the first lines of nodes stand
pub inside_stands : (d : CertDraft) (i : NodeItem) → may_stand (inside_kind i) d ≡ (d.opened && stands_in (inside_kind i) (open_node d))
inside_stands d (Mult m) = refl
inside_stands d (Cut c) = refl
inside_stands d (Near l) = refl
inside_stands d (Table t) = refl
inside_stands d (Fore shape l) = refl
inside_stands d (Back shape l) = refl
inside_stands d (Drop l) = refl
inside_stands d (Tree g) = refl
inside_stands d (Pre p) = refl

pub inside_full : (d : CertDraft) (i : NodeItem) → passes_limit (inside_kind i) d ≡ is_full_in (inside_kind i) (open_node d)
inside_full d (Mult m) = refl
inside_full d (Cut c) = refl
inside_full d (Near l) = refl
inside_full d (Table t) = refl
inside_full d (Fore shape l) = refl
inside_full d (Back shape l) = refl
inside_full d (Drop l) = refl
inside_full d (Tree g) = refl
inside_full d (Pre p) = refl

not_in_point : (i : NodeItem) → stands_in (inside_kind i) (begun head.Point) ≡ false
not_in_point (Mult m) = refl
not_in_point (Cut c) = refl
not_in_point (Near l) = refl
not_in_point (Table t) = refl
not_in_point (Fore shape l) = refl
not_in_point (Back shape l) = refl
not_in_point (Drop l) = refl
not_in_point (Tree g) = refl
not_in_point (Pre p) = refl

pub head_stands : (d : CertDraft) (h : Head) → may_stand (head_kind h) d ≡ d.opened
head_stands d (head.Split split) = refl
head_stands d head.Close = refl
head_stands d head.Fix = refl
head_stands d head.List = refl
head_stands d (head.CountSplit walk at) = refl
head_stands d head.CountClose = refl
head_stands d head.Point = refl

pub head_full : (d : CertDraft) (h : Head) → passes_limit (head_kind h) d ≡ not (nat_lt (length d.nodes) 1000000)
head_full d (head.Split split) = refl
head_full d head.Close = refl
head_full d head.Fix = refl
head_full d head.List = refl
head_full d (head.CountSplit walk at) = refl
head_full d head.CountClose = refl
head_full d head.Point = refl

claim_step : (s : Sizes) (d : CertDraft) (n : ℕ) (g : Goal) → d.ended ≡ false → CertFits s d → not (is_some d.goal) ≡ true → GoalFits g (plan_with []) → CertStepped s d n (Claim g)
claim_step s d n g going fits first may =
    let none = none_goal d.goal first in
    let paths : d.plan.paths ≡ [] = subst (λ o. GoalFits (unwrap_or o goal.Infeasible) d.plan) none fits.goal in
    let unopened = unopened_of d fits.some_goal none in (
      rw (none, paths, unopened, going) refl,
      record { goal = goal_fits g paths may; some_goal = λ on. refl; plan = fits.plan; unopened = fits.unopened; closed = fits.closed; few = fits.few; each = fits.each },
    )
  where
    goal_fits : (g : Goal) → d.plan.paths ≡ [] → GoalFits g (plan_with []) → GoalFits g d.plan
    goal_fits (goal.Optimal cost) paths may = may
    goal_fits goal.Infeasible paths may = paths

path_step : (s : Sizes) (d : CertDraft) (n : ℕ) (t : Taken) → d.ended ≡ false → CertFits s d → (is_plan d.goal && not d.opened) ≡ true → PathFits t → HasRoom d.plan t → CertStepped s d n (Path t)
path_step s d n t going fits stands may room =
    let parts = and_parts (is_plan d.goal) (not d.opened) stands in
    let unopened = not_is d.opened parts.1 in
    let rest : opened_items s d ++ ended_items d ≡ [] = rw (unopened, going) refl in (
      push_behind (claim_items d.goal) _ _ (Path t) (push_here (map (λ t. Path t) d.plan.paths) _ _ _ (Path t) (map_push (λ t. Path t) d.plan.paths t) rest rest),
      record {
        goal = goal_fits d.goal parts.0 fits.goal;
        some_goal = fits.some_goal;
        plan = record { each = All-push PathFits d.plan.paths t fits.plan.each may; few = few_push d.plan t fits.plan.few room };
        unopened = fits.unopened;
        closed = fits.closed;
        few = fits.few;
        each = fits.each;
      },
    )
  where
    not_is : (b : Bool) → not b ≡ true → b ≡ false
    not_is true h = cc
    not_is false h = refl

    goal_fits : (g : Option Goal) → is_plan g ≡ true → GoalFits (unwrap_or g goal.Infeasible) d.plan → GoalFits (unwrap_or g goal.Infeasible) (plan_with (d.plan.paths ++ t ∷ []))
    goal_fits None is h = cc
    goal_fits (Some (goal.Optimal cost)) is h = h
    goal_fits (Some goal.Infeasible) is h = cc

version_step : (s : Sizes) (d : CertDraft) (n : ℕ) → d.ended ≡ false → CertFits s d → is_some d.goal ≡ true → d.opened ≡ false → CertStepped s d n Version
version_step s d n going fits some unopened =
    let nodes = fits.unopened unopened in
    let more : Version ∷ flat_map (node_items s) d.nodes ≡ opened_items s d ++ Version ∷ [] = rw (unopened, nodes) refl in
    let none : ended_items d ≡ [] = rw going refl in (
      push_behind (claim_items d.goal) _ _ Version (push_behind (map (λ t. Path t) d.plan.paths) _ _ Version (push_here (opened_items s d) _ _ _ Version more none none)),
      record { goal = fits.goal; some_goal = λ on. some; plan = fits.plan; unopened = λ off. cc; closed = λ on. refl; few = fits.few; each = fits.each },
    )

-- one more item of the nodes
nodes_step : (s : Sizes) (d : CertDraft) (nodes : List NodeDraft) (lines : List ℕ) (x : Item) → d.ended ≡ false → d.opened ≡ true → flat_map (node_items s) nodes ≡ flat_map (node_items s) d.nodes ++ x ∷ [] → told_items s (record d { nodes = nodes; lines = lines }) ≡ told_items s d ++ x ∷ []
nodes_step s d nodes lines x going opened more =
    let none : ended_items d ≡ [] = rw going refl in
    let now : opened_items s (record d { nodes = nodes; lines = lines }) ≡ opened_items s d ++ x ∷ [] = rw opened (ap (λ is. Version ∷ is) more) in
    push_behind (claim_items d.goal) _ _ x (push_behind (map (λ t. Path t) d.plan.paths) _ _ x (push_here (opened_items s d) _ _ _ x now none none))

begin_step : (s : Sizes) (d : CertDraft) (n : ℕ) (h : Head) → d.ended ≡ false → CertFits s d → d.opened ≡ true → not (nat_lt (length d.nodes) 1000000) ≡ false → HeadFits s h → CertStepped s d n (Begin h)
begin_step s d n h going fits opened full may = (
  nodes_step s d (d.nodes ++ begun h ∷ []) (d.lines ++ n ∷ []) (Begin h) going opened (flat_push (node_items s) d.nodes (begun h) (Begin h) refl),
  record {
    goal = fits.goal;
    some_goal = fits.some_goal;
    plan = fits.plan;
    unopened = λ off. not_both d.opened opened off;
    closed = fits.closed;
    few = few_more d.nodes (begun h) 1000000 full;
    each = All-push (NodeFits s) d.nodes (begun h) fits.each (empty_begins s h may);
  },
)

inside_step : (s : Sizes) (d : CertDraft) (n : ℕ) (i : NodeItem) → d.ended ≡ false → CertFits s d → d.opened ≡ true → stands_in (inside_kind i) (open_node d) ≡ true → is_full_in (inside_kind i) (open_node d) ≡ false → InsideMay s (open_node d) i → CertStepped s d n (Inside i)
inside_step s d n i going fits opened stands full may = by_end (ends d.nodes)
  where
    by_end : (d.nodes ≡ []) ⊎ Ends d.nodes → CertStepped s d n (Inside i)
    by_end (inl none) =
        let last_one : open_node d ≡ begun head.Point = ap (last_or (begun head.Point)) none in
        let off : stands_in (inside_kind i) (open_node d) ≡ false = ap (stands_in (inside_kind i)) last_one ∙ not_in_point i in
        not_both (stands_in (inside_kind i) (open_node d)) stands off
    by_end (inr e) =
        let last_one : open_node d ≡ e.last = last_is (begun head.Point) d.nodes e.front e.last e.is in
        let is : d.nodes ≡ e.front ++ open_node d ∷ [] = subst (λ u. d.nodes ≡ e.front ++ u ∷ []) (sym last_one) e.is in
        let old = all_last (NodeFits s) e.front (open_node d) (subst (All (NodeFits s)) is fits.each) in
        let step = node_step s (open_node d) i old stands full may in
        let now : with_last d.nodes (put_inside (open_node d) i) ≡ e.front ++ put_inside (open_node d) i ∷ [] = last_set d.nodes e.front (open_node d) (put_inside (open_node d) i) is in
        let more : flat_map (node_items s) (with_last d.nodes (put_inside (open_node d) i)) ≡ flat_map (node_items s) d.nodes ++ Inside i ∷ [] =
        ap (flat_map (node_items s)) now ∙ (flat_grows (node_items s) e.front (open_node d) (put_inside (open_node d) i) (Inside i) step.0 ∙ ap (λ ns. flat_map (node_items s) ns ++ Inside i ∷ []) (sym is)) in
        let size : length (with_last d.nodes (put_inside (open_node d) i)) ≡ length d.nodes = ap (λ (ns : List NodeDraft). length ns) now ∙ (length-append e.front _ ∙ (sym (length-append e.front (open_node d ∷ [])) ∙ ap (λ (ns : List NodeDraft). length ns) (sym is))) in
        let few = fits.few in (
          nodes_step s d (with_last d.nodes (put_inside (open_node d) i)) d.lines (Inside i) going opened more,
          record {
            goal = fits.goal;
            some_goal = fits.some_goal;
            plan = fits.plan;
            unopened = λ off. not_both d.opened opened off;
            closed = fits.closed;
            few = omega (arith, few, size);
            each = subst (All (NodeFits s)) (sym now) (All-push (NodeFits s) e.front (put_inside (open_node d) i) (all_front (NodeFits s) e.front (open_node d) (subst (All (NodeFits s)) is fits.each)) step.1);
          },
        )

end_step : (s : Sizes) (d : CertDraft) (n : ℕ) → d.ended ≡ false → CertFits s d → d.opened ≡ true → CertStepped s d n End
end_step s d n going fits opened =
    let more : End ∷ [] ≡ ended_items d ++ End ∷ [] = rw going refl in (
      push_behind (claim_items d.goal) _ _ End (push_behind (map (λ t. Path t) d.plan.paths) _ _ End (push_behind (opened_items s d) _ _ End more)),
      record { goal = fits.goal; some_goal = fits.some_goal; plan = fits.plan; unopened = fits.unopened; closed = λ on. opened; few = fits.few; each = fits.each },
    )

cert_step : (s : Sizes) (d : CertDraft) (n : ℕ) (i : Item) → d.ended ≡ false → CertFits s d → CertMay s d i → CertStepped s d n i
cert_step s d n (Claim (goal.Optimal cost)) going fits may = claim_step s d n (goal.Optimal cost) going fits may.0.0 may.1
cert_step s d n (Claim goal.Infeasible) going fits may = claim_step s d n goal.Infeasible going fits may.0.0 refl
cert_step s d n (Path t) going fits may = path_step s d n t going fits may.0.0 may.1.0 may.1.1
cert_step s d n Version going fits may = version_step s d n going fits may.0 may.1
cert_step s d n (Begin h) going fits may =
    begin_step s d n h going fits (sym (head_stands d h) ∙ may.0.0) (sym (head_full d h) ∙ may.0.1) may.1
cert_step s d n (Inside i) going fits may =
    let parts = and_parts d.opened (stands_in (inside_kind i) (open_node d)) (sym (inside_stands d i) ∙ may.0.0) in
    inside_step s d n i going fits parts.0 parts.1 (sym (inside_full d i) ∙ may.0.1) may.1
cert_step s d n End going fits may = end_step s d n going fits may.0.0

pub cert_steps : (s : Sizes) → IsStep (cert_grammar s) (CertMay s) (told_items s) (CertFits s)
cert_steps s =
    record {
      none = refl;
      begins =
          record {
            goal = refl;
            some_goal = λ on. cc;
            plan = record { each = All-nil PathFits; few = λ g. omega arith };
            unopened = λ off. refl;
            closed = λ on. cc;
            few = omega arith;
            each = All-nil (NodeFits s);
          };
      step = cert_step s;
    }
