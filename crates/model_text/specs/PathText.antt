-- Path texts: the words of their lines, the printed text of a plan, and which texts spell which plan.
use Rattle.std.specs.Prelude.{◌≡◌, ◌≢◌, ℕ, ◌≤◌, List, [], ◌∷◌, ◌++◌, decimal, map, codes, All, false}
use Rattle.std.specs.List.{flat_map}
use Rattle.route_model.specs.declared.plan.Taken.{Taken}
use Rattle.route_model.specs.declared.plan.Plan.{Plan}
use Rattle.path_graph.specs.declared.limits.TheConstants.{MAX_PATHS}
use Rattle.route_model.specs.Tidy.{AreFew}
use Rattle.vrp_lex.specs.Text.{lines_of, has_bad_byte}
use Rattle.line_text.specs.Words.{Words}
use Rattle.line_text.specs.Spelling.{line, in_printed_form, lines_with_words}

-- `path GRAPH COUNT ARC ..`
abbrev pub path_line : Taken → List ℕ
path_line t = line (codes "path") (decimal t.graph ∷ decimal t.count ∷ map decimal t.arcs)

abbrev pub path_words : Taken → Words
path_words t = codes "path" ∷ decimal t.graph ∷ decimal t.count ∷ map decimal t.arcs

-- the paths, then the end
abbrev pub plan_lines : Plan → List Words
plan_lines plan = map path_words plan.paths ++ (codes "end" ∷ []) ∷ []

-- the printed text of a plan
abbrev pub plan_text : Plan → List ℕ
plan_text plan = flat_map path_line plan.paths ++ line (codes "end") []

-- a path that a text can tell
pub record PathFits (t : Taken) : Type 0 where
  pub graph : t.graph ≤ 4294967295
  pub count : (1 ≤ t.count) × (t.count ≤ MAX_PATHS)
  pub some_arcs : t.arcs ≢ []
  pub arcs : All (λ arc. arc ≤ 4294967295) t.arcs

-- a plan that a text can tell: the counts of each graph sum to at most MAX_PATHS
pub record PlanFits (plan : Plan) : Type 0 where
  pub each : All PathFits plan.paths
  pub few : AreFew plan

-- A text spells a plan: its bytes are accepted, and its words are those of the plan's lines, but for the form of the numbers.
-- The plan keeps all limits. Whether its graphs and arcs are there is left to the judge of plans.
pub record SpellsPlan (text : List ℕ) (plan : Plan) : Type 0 where
  pub accepted : All (λ line. has_bad_byte line ≡ false) (lines_of text)
  pub words : map (map in_printed_form) (lines_with_words text) ≡ plan_lines plan
  pub fits : PlanFits plan

abbrev pub SpellsNoPlan : List ℕ → Type 0
SpellsNoPlan text = (plan : Plan) → ¬ (SpellsPlan text plan)
