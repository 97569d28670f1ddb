-- The first fault of a model text.
use Rattle.std.specs.Prelude.{◌≡◌, ℕ, ◌^◌, ◌<◌, ◌≤◌, ◌⊎◌, List, codes, Bool, true, false, if◌then◌else◌, Option, None, Some, Result, Ok, Err, Any}
use Rattle.route_model.specs.Parts.{ModelParts}
use Rattle.route_model.specs.Fit.{cost_range}
use Rattle.line_text.specs.declared.fault.Kind.{Kind}
use Rattle.line_text.specs.declared.fault.Kind.TheVariants as fault
use Rattle.line_text.specs.declared.fault.TextFault.{TextFault}
use Rattle.line_text.specs.Words.{Wants, ◌>>=◌, ◌>>◌, give, word, version_wanted}
use Rattle.line_text.specs.Reading.{Reading}
use Rattle.line_text.specs.Reading as reading
use Rattle.model_text.specs.declared.draft.Stage.{Stage}
use Rattle.model_text.specs.declared.draft.Stage.TheVariants.{Variables, Ended}
use Rattle.model_text.specs.declared.draft.Draft.{Draft}
use Rattle.model_text.specs.declared.line_kind.LineKind.{LineKind}
use Rattle.model_text.specs.Draft.{empty_draft, is_opening, parts_of}
use Rattle.model_text.specs.LineKinds.{kind_of, may_stand, passes_limit, further_wanted}
use Rattle.model_text.specs.FreeCycles.{HasFreeCycle}

-- a line of a kind: whether it may stand here, then whether there are too many, then its further words
abbrev pub line_of_kind : Draft → ℕ → LineKind → Wants Draft
line_of_kind d number kind words =
    if may_stand kind d.stage
    then (if passes_limit kind d then Err fault.TooMany else further_wanted kind d number words)
    else Err fault.Order

abbrev pub line_within : Draft → ℕ → Option LineKind → Wants Draft
line_within d number None words = Err fault.Word
line_within d number (Some kind) words = line_of_kind d number kind words

-- a line before the end: the version line comes first, then lines of the kinds that their first words tell
abbrev pub line_at : Draft → ℕ → Wants Draft
line_at d number words =
    if is_opening d.stage
    then (version_wanted (codes "vrpmodel") (codes "1") >> give (record d { stage = Variables })) words
    else (word >>= (λ first. line_within d number (kind_of first))) words

abbrev pub is_ended : Stage → Bool
is_ended Ended = true
is_ended _ = false

abbrev pub model_reading : Reading Draft
model_reading =
    record { empty = empty_draft; is_ended = λ d. is_ended d.stage; line = line_at }

-- what the lines of a text tell, and its end; or its first fault in these
abbrev pub text_read : List ℕ → Result Draft TextFault
text_read text = reading.text_read model_reading text

-- the faults that are looked at last: in some graph the arcs without main consumption form a cycle; then the cost range
abbrev pub IsLateFault : ModelParts → Kind → Type 0
IsLateFault m kind =
    ((kind ≡ fault.FreeCycle) × Any HasFreeCycle m.graphs)
    ⊎ ((kind ≡ fault.CostRange) × (¬ (Any HasFreeCycle m.graphs)) × (2 ^ 40 < cost_range m.vars))

-- the first fault of a text, from its lines: a late fault has the line of the end
abbrev pub IsFaultOf : Result Draft TextFault → TextFault → Type 0
IsFaultOf (Err first) it = it ≡ first
IsFaultOf (Ok d) it = (it.line ≡ d.end) × IsLateFault (parts_of d) it.kind

abbrev pub IsFirstTextFault : List ℕ → TextFault → Type 0
IsFirstTextFault text it = IsFaultOf (text_read text) it

-- the model of a text, from its lines: there is no late fault
abbrev pub IsModelOf : Result Draft TextFault → ModelParts → Type 0
IsModelOf (Err first) m = ⊥
IsModelOf (Ok d) m = (parts_of d ≡ m) × (¬ (Any HasFreeCycle m.graphs)) × (cost_range m.vars ≤ 2 ^ 40)

abbrev pub ReadsAs : List ℕ → ModelParts → Type 0
ReadsAs text m = IsModelOf (text_read text) m
