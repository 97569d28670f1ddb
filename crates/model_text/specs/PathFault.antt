-- The grammar of path texts, and the first fault of a path text.
use Rattle.std.specs.Prelude.{◌≡◌, ℕ, ◌+◌, List, [], ◌∷◌, ◌++◌, codes, true, false, nat_lt, Result, Err}
use Rattle.route_model.specs.declared.plan.Taken.{Taken}
use Rattle.route_model.specs.declared.plan.Plan.{Plan}
use Rattle.path_graph.specs.declared.limits.TheConstants.{MAX_PATHS}
use Rattle.route_model.specs.Parts.{plan_with}
use Rattle.route_model.specs.Quantities.{paths_of}
use Rattle.line_text.specs.declared.fault.Kind.TheVariants as fault
use Rattle.line_text.specs.declared.fault.TextFault.{TextFault}
use Rattle.line_text.specs.declared.fault.ReadError.{ReadError}
use Rattle.line_text.specs.declared.fault.ReadError.TheVariants as read
use Rattle.line_text.specs.Words.{Wants, ◌>>=◌, ◌>>◌, give, fault_if, natural_in, to_the_end, is_none}
use Rattle.line_text.specs.Reading.{Reading, Rule, Grammar, by_first_word, reading_of, text_read}
use Rattle.model_text.specs.declared.path_reader.PlanDraft.{PlanDraft}
use Rattle.model_text.specs.PathText.{SpellsNoPlan}

-- the number of a graph or an arc, known or not
abbrev pub name_wanted : Wants ℕ
name_wanted = natural_in 0 4294967295

-- one arc or more
abbrev pub arcs_wanted : Wants (List ℕ)
arcs_wanted = do
  arcs ← to_the_end (λ _. name_wanted)
  fault_if fault.Word (is_none arcs)
  give arcs

-- `path GRAPH COUNT ARC ..`, after the plan so far; the counts of each graph sum to at most MAX_PATHS
abbrev pub path_wanted : Plan → Wants Taken
path_wanted plan = do
  graph ← name_wanted
  count ← natural_in 1 MAX_PATHS
  fault_if fault.TooMany (nat_lt MAX_PATHS (paths_of plan graph + count))
  arcs ← arcs_wanted
  give (record { graph = graph; count = count; arcs = arcs })

-- the lines of a path text
pub data PathItem : Type 0 where
  Path : Taken → PathItem
  End : PathItem

abbrev pub path_rule : Rule PlanDraft PathItem
path_rule =
    record {
      name = codes "path";
      stands = λ _. true;
      full = λ _. false;
      further = λ d. path_wanted d.plan >>= (λ path. give (Path path));
    }

abbrev pub end_rule : Rule PlanDraft PathItem
end_rule = record { name = codes "end"; stands = λ _. true; full = λ _. false; further = λ _. give End }

-- the plan with one more path
abbrev pub with_path : Plan → Taken → Plan
with_path plan path = plan_with (plan.paths ++ path ∷ [])

abbrev pub put : PlanDraft → PathItem → PlanDraft
put d (Path path) = record d { plan = with_path d.plan path }
put d End = record d { ended = true }

-- before the first line
abbrev pub empty_plan : PlanDraft
empty_plan = record { ended = false; plan = plan_with [] }

abbrev pub path_grammar : Grammar PlanDraft PathItem
path_grammar =
    record {
      empty = empty_plan;
      is_ended = λ d. d.ended;
      item = by_first_word (path_rule ∷ end_rule ∷ []);
      put = λ d number item. put d item;
    }

abbrev pub path_reading : Reading PlanDraft
path_reading = reading_of path_grammar

-- what a path text tells, or its first fault
abbrev pub plan_read : List ℕ → Result PlanDraft TextFault
plan_read text = text_read path_reading text

abbrev pub IsFirstPathFault : List ℕ → TextFault → Type 0
IsFirstPathFault text fault = plan_read text ≡ Err fault

-- why a text is not read: there was no memory, which says nothing, or its first fault, where it spells no plan
abbrev pub IsPathRefusal : List ℕ → ReadError → Type 0
IsPathRefusal text read.Memory = Unit {0}
IsPathRefusal text (read.Text fault) = IsFirstPathFault text fault × SpellsNoPlan text
