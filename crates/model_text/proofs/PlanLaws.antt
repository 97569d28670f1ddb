-- The laws of path texts: a text that is read as a plan spells it, and the other way round; the printed text spells the plan.
use Rattle.std.proofs.Common.{◌≡◌, ℕ, ◌*◌, ◌≤◌, true, false, List, [], ◌∷◌, ◌++◌, map, refl, ap, subst, sym, ◌∙◌, arith, append_assoc, append-nil, Ok, Err}
use Rattle.std.specs.Prelude.{All, codes, if◌then◌else◌}
use Rattle.std.proofs.lemmas.List.{map-append}
use Rattle.std.proofs.lemmas.List.Sums.{sum_by-append}
use Rattle.std.proofs.lemmas.List.Elements.{All-nil, All-push, All-head, All-tail}
use Rattle.std.proofs.lemmas.List.Folds.{flat_map-map}
use Rattle.route_model.specs.declared.plan.Taken.{Taken}
use Rattle.route_model.specs.declared.plan.Plan.{Plan}
use Rattle.route_model.specs.Parts.{plan_with}
use Rattle.route_model.specs.Quantities.{paths_of, is_of}
use Rattle.route_model.specs.Tidy.{AreFew}
use Rattle.line_text.specs.declared.fault.TextFault.{TextFault}
use Rattle.line_text.specs.declared.fault.ReadError.{ReadError}
use Rattle.line_text.specs.declared.fault.ReadError.TheVariants as read
use Rattle.line_text.specs.Gives.{FailsText}
use Rattle.line_text.specs.Words.{Words}
use Rattle.line_text.specs.Spelling.{lines_with_words}
use Rattle.line_text.specs.Spelling.{line_of_words, text_of_lines, IsPrintedText}
use Rattle.line_text.proofs.PlainLineLemmas.{text_of-append}
use Rattle.line_text.proofs.RuleReads.{form_of}
use Rattle.line_text.proofs.TextLaws.{ByForm, forms_of, pairs_of, IsText, IsStep, SpellsBy, Runs, Leads, runs_said, leads_append, leads_weaker, leads_each, reads_spelled, reads_one, spells_one, fault_spells_nothing, printed_spells, printed_is_printed, printed_only}
use Rattle.model_text.specs.declared.path_reader.PlanDraft.{PlanDraft}
use Rattle.model_text.specs.PathText.{path_words, plan_lines, plan_text, PathFits, PlanFits, SpellsPlan, SpellsNoPlan}
use Rattle.model_text.specs.PathFault.{PathItem, Path, End, with_path, put, path_grammar, plan_read, IsPathRefusal}
use Rattle.model_text.proofs.PathWordLemmas.{few_push, paths_of-same}
use Rattle.model_text.proofs.PathReads.{HasRoom, path_named, May, path_lines}

-- the lines of a plan
abbrev plan_items : Plan → List PathItem
plan_items plan = map (λ t. Path t) plan.paths ++ End ∷ []

forms_of_paths : (paths : List Taken) → map (form_of path_named) (map (λ t. Path t) paths ++ End ∷ []) ≡ map path_words paths ++ (codes "end" ∷ []) ∷ []
forms_of_paths [] = refl
forms_of_paths (t ∷ paths) = ap (λ ls. path_words t ∷ ls) (forms_of_paths paths)

forms : (plan : Plan) → map (form_of path_named) (plan_items plan) ≡ plan_lines plan
forms plan = forms_of_paths plan.paths

abbrev pub SaysPlan : Plan → List PathItem → Type 0
SaysPlan plan items = (items ≡ plan_items plan) × PlanFits plan

-- what lines tell so far
abbrev told_items : PlanDraft → List PathItem
told_items d = map (λ t. Path t) d.plan.paths ++ (if d.ended then End ∷ [] else [])

step : (d : PlanDraft) (n : ℕ) (i : PathItem) → d.ended ≡ false → PlanFits d.plan → May d i → (told_items (put d i) ≡ told_items d ++ i ∷ []) × PlanFits (put d i).plan
step d n (Path t) going fits may = (
  rw (going, map-append (λ (u : Taken). Path u) d.plan.paths (t ∷ [])) (simp append-nil),
  record { each = All-push PathFits d.plan.paths t fits.each may.0; few = few_push d.plan t fits.few may.1 },
)
step d n End going fits may = (rw going (simp append-nil), fits)

steps : IsStep path_grammar May told_items (λ d. PlanFits d.plan)
steps = record { none = refl; begins = record { each = All-nil PathFits; few = λ g. omega arith }; step = step }

says : (items : List PathItem) (e : PlanDraft) → Runs path_grammar May path_grammar.empty items e → e.ended ≡ true → SaysPlan e.plan items
says items e runs ended = let said = runs_said steps items e runs in (rw ended at said.0, said.1)

-- the lines of a plan are read one after the other
pub room_for : (before : List Taken) (t : Taken) (after : List Taken) → AreFew (plan_with (before ++ t ∷ after)) → HasRoom (plan_with before) t
room_for before t after few =
    let all : paths_of (plan_with ((before ++ t ∷ []) ++ after)) t.graph ≤ 4096 = subst (λ ts. paths_of (plan_with ts) t.graph ≤ 4096) (sym (append_assoc before (t ∷ []) after)) (few t.graph) in
    let split = sum_by-append (λ (u : Taken). u.count * is_of t.graph u.graph u.arcs) (before ++ t ∷ []) after in
    let own = paths_of-same (plan_with before) t in
    omega (arith, all, split, own)

pub All-at_seam : (front : List Taken) (t : Taken) (back : List Taken) → All PathFits (front ++ t ∷ back) → PathFits t
All-at_seam [] t back all = All-head PathFits t back all
All-at_seam (u ∷ front) t back all = All-at_seam front t back (All-tail PathFits u (front ++ t ∷ back) all)

-- going, with these paths told so far
abbrev HasTold : List Taken → PlanDraft → Type 0
HasTold front d = (d.ended ≡ false) × (d.plan ≡ plan_with front)

next_path : (plan : Plan) → PlanFits plan → (front : List Taken) (t : Taken) (back : List Taken) (d : PlanDraft) → front ++ t ∷ back ≡ plan.paths → HasTold front d → (d.ended ≡ false) × May d (Path t) × ((n : ℕ) → HasTold (front ++ t ∷ []) (put d (Path t)))
next_path plan fits front t back d is told =
    let path = All-at_seam front t back (subst (All PathFits) (sym is) fits.each) in
    let room = room_for front t back (subst (λ ts. AreFew (plan_with ts)) (sym is) fits.few) in
    (told.0, (path, subst (λ p. HasRoom p t) (sym told.1) room), λ n. (told.0, ap (λ p. with_path p t) told.1))

leads : (plan : Plan) (items : List PathItem) → SaysPlan plan items → Leads path_grammar May path_grammar.empty items (λ e. (e.ended ≡ true) × (e.plan ≡ plan))
leads plan items says =
    subst (λ is. Leads path_grammar May path_grammar.empty is (λ e. (e.ended ≡ true) × (e.plan ≡ plan))) (sym says.0)
    (leads_append path_grammar May _ (map (λ t. Path t) plan.paths) (End ∷ []) path_grammar.empty
    (leads_weaker path_grammar May _ _ (map (λ t. Path t) plan.paths) path_grammar.empty (λ m at. (at.0, tt, λ n. (refl, at.1)))
    (leads_each path_grammar May HasTold (λ t. Path t) plan.paths (next_path plan says.1) path_grammar.empty (refl, refl))))

abbrev IsPathLine : PathItem → Words → Type 0
IsPathLine = ByForm (form_of path_named)

pub path_text : IsText path_grammar (λ _. Unit {0}) IsPathLine (form_of path_named) May (λ d. d.plan) SaysPlan
path_text = record { grammar = path_lines; runs = says; leads = leads }

-- a text spells a plan
spelled : (text : List ℕ) (plan : Plan) → SpellsBy IsPathLine SaysPlan text plan → SpellsPlan text plan
spelled text plan s =
    record { accepted = s.accepted; words = forms_of (form_of path_named) (lines_with_words text) s.items s.words ∙ (ap (map (form_of path_named)) s.says.0 ∙ forms plan); fits = s.says.1 }

abbrev spelled_by : (text : List ℕ) (plan : Plan) → SpellsPlan text plan → SpellsBy IsPathLine SaysPlan text plan
spelled_by text plan s =
    record { accepted = s.accepted; items = plan_items plan; words = pairs_of (form_of path_named) (lines_with_words text) (plan_items plan) (s.words ∙ sym (forms plan)); says = (refl, s.fits) }

pub plan_reads_spelled : (text : List ℕ) (d : PlanDraft) → plan_read text ≡ Ok d → SpellsPlan text d.plan
plan_reads_spelled text d h = spelled text d.plan (reads_spelled path_text text d h)

pub spelled_is_read : (text : List ℕ) (d : PlanDraft) (plan : Plan) → plan_read text ≡ Ok d → SpellsPlan text plan → plan ≡ d.plan
spelled_is_read text d plan h s = reads_one path_text text d plan h (spelled_by text plan s)

pub spells_one_plan : (text : List ℕ) (plan other : Plan) → SpellsPlan text plan → SpellsPlan text other → plan ≡ other
spells_one_plan text plan other s t = spells_one path_text text plan other (spelled_by text plan s) (spelled_by text other t)

pub fault_spells_no_plan : (text : List ℕ) (fault : TextFault) → plan_read text ≡ Err fault → SpellsNoPlan text
fault_spells_no_plan text fault h plan s = fault_spells_nothing path_text text fault plan h (spelled_by text plan s)

pub plan_refused : (text : List ℕ) (e : ReadError) → FailsText e (plan_read text) → IsPathRefusal text e
plan_refused text read.Memory h = tt
plan_refused text (read.Text fault) h = (h, fault_spells_no_plan text fault h)

-- the printed text
printed_is : (plan : Plan) → text_of_lines (map (form_of path_named) (plan_items plan)) ≡ plan_text plan
printed_is plan =
    ap text_of_lines (forms plan)
    ∙ text_of-append (map path_words plan.paths) ((codes "end" ∷ []) ∷ []) (flat_map-map line_of_words path_words plan.paths) refl

pub plan_text_spells : (plan : Plan) → PlanFits plan → SpellsPlan (plan_text plan) plan
plan_text_spells plan fits =
    subst (λ text. SpellsPlan text plan) (printed_is plan) (spelled _ plan (printed_spells path_text plan (plan_items plan) (refl, fits)))

pub plan_text_printed : (plan : Plan) → PlanFits plan → IsPrintedText (plan_text plan)
plan_text_printed plan fits = subst IsPrintedText (printed_is plan) (printed_is_printed path_text plan (plan_items plan) (refl, fits))

pub plan_text_only : (text : List ℕ) (plan : Plan) → IsPrintedText text → SpellsPlan text plan → text ≡ plan_text plan
plan_text_only text plan printed s = printed_only path_text text plan printed (spelled_by text plan s) ∙ printed_is plan
