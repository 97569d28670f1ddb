-- Worked rows of path texts and of the end of a model, proved by computing.
use Rattle.std.proofs.Common.{◌≡◌, ℕ, ◌-◌, List, [], ◌∷◌, ◌++◌, refl, Result, Ok, Err, map, slice_set}
use Rattle.std.specs.Prelude.{codes, true}
use Rattle.std.specs.Fmt.{digits}
use Rattle.std.specs.List.{flat_map}
use Rattle.route_model.specs.declared.plan.Plan.{Plan}
use Rattle.model_text.specs.declared.path_reader.PlanDraft.{PlanDraft}
use Rattle.line_text.specs.declared.fault.Kind.{Kind}
use Rattle.line_text.specs.declared.fault.Kind.TheVariants as fault
use Rattle.line_text.specs.declared.fault.TextFault.{TextFault}
use Rattle.line_text.specs.Spelling.{in_printed_form, lines_with_words}
use Rattle.model_text.specs.PathText.{plan_lines, plan_text}
use Rattle.model_text.specs.PathFault.{plan_read}
use Rattle.model_text.specs.ModelEnd.{model_end}

abbrev joined : List (List ℕ) → List ℕ
joined lines = flat_map (λ line. line ++ 10 ∷ []) lines

-- two paths of one graph, and one of another
abbrev three_paths : Plan
three_paths =
    record {
      paths =
          record { graph = 0; count = 1; arcs = 3 ∷ 7 ∷ [] }
          ∷ record { graph = 1; count = 2; arcs = 4294967295 ∷ [] }
          ∷ record { graph = 0; count = 4095; arcs = 0 ∷ [] }
          ∷ [];
    }

-- a plan that is told to its end
abbrev whole : Plan → PlanDraft
whole plan = record { ended = true; plan = plan }

abbrev three_lines : List (List ℕ)
three_lines = codes "path 0 1 3 7" ∷ codes "path 1 2 4294967295" ∷ codes "path 0 4095 0" ∷ codes "end" ∷ []

three_paths_text : plan_text three_paths ≡ joined three_lines
unfolding digits
three_paths_text = refl

three_paths_words : lines_with_words (joined three_lines) ≡ plan_lines three_paths
unfolding digits
three_paths_words = refl

three_paths_back : plan_read (joined three_lines) ≡ Ok (whole three_paths)
three_paths_back = refl

-- another spelling: tabs, CR, comments, leading zeros, `-0`, lines without words, no last LF
abbrev other_text : List ℕ
other_text =
    codes " path\t-0 01 3 007 # first\r\n\n#\npath 1 02 4294967295\r\npath 0 4095 0\nend#"

other_back : plan_read other_text ≡ Ok (whole three_paths)
other_back = refl

other_words : map (map in_printed_form) (lines_with_words other_text) ≡ plan_lines three_paths
unfolding digits
other_words = refl

-- no path
no_paths_back : plan_read (codes "end") ≡ Ok (whole (record { paths = [] }))
no_paths_back = refl

abbrev fault_at : ℕ → Kind → Result PlanDraft TextFault
fault_at line kind = Err (record { line = line; kind = kind })

-- that text with another line in the place of the line of this number
abbrev with_line : ℕ → List ℕ → List ℕ
with_line number line = joined (slice_set three_lines (number - 1) line)

-- the first fault of a line, in the order of its words
first_word : plan_read (with_line 2 (codes "vertex 0 1 2")) ≡ fault_at 2 fault.Word
first_word = refl

graph_missing : plan_read (with_line 1 (codes "path")) ≡ fault_at 1 fault.Word
graph_missing = refl

no_graph : plan_read (with_line 1 (codes "path x 0")) ≡ fault_at 1 fault.Number
no_graph = refl

graph_range : plan_read (with_line 1 (codes "path 4294967296 1 2")) ≡ fault_at 1 fault.Range
graph_range = refl

count_zero : plan_read (with_line 1 (codes "path 0 0")) ≡ fault_at 1 fault.Range
count_zero = refl

count_above : plan_read (with_line 2 (codes "path 0 4097 x")) ≡ fault_at 2 fault.Range
count_above = refl

no_arc : plan_read (with_line 1 (codes "path 0 1")) ≡ fault_at 1 fault.Word
no_arc = refl

arc_range : plan_read (with_line 1 (codes "path 0 1 3 -1")) ≡ fault_at 1 fault.Range
arc_range = refl

-- the sum comes before the arcs, and a byte before all words
too_many : plan_read (with_line 3 (codes "path 0 4096")) ≡ fault_at 3 fault.TooMany
too_many = refl

byte_first : plan_read (with_line 3 (codes "path 0 4096 " ++ 127 ∷ [])) ≡ fault_at 3 fault.Byte
byte_first = refl

-- the end
word_behind_end : plan_read (with_line 4 (codes "end 0")) ≡ fault_at 4 fault.Word
word_behind_end = refl

line_behind_end : plan_read (joined three_lines ++ codes "\n# \nend") ≡ fault_at 7 fault.AfterEnd
line_behind_end = refl

end_missing : plan_read (codes "path 0 1 3\n\n") ≡ fault_at 3 fault.EndMissing
end_missing = refl

end_missing_last : plan_read (codes "path 0 1 3\n#") ≡ fault_at 2 fault.EndMissing
end_missing_last = refl

empty_text : plan_read [] ≡ fault_at 1 fault.EndMissing
empty_text = refl

-- where a model ends: behind the LF of its end line, and not at a word that begins with `end` or stands behind another
end_and_paths : model_end (codes "vrpmodel 1\nend # a\npath 0 1 3\nend\n") ≡ 19
end_and_paths = refl

end_without_lf : model_end (codes "vrpmodel 1\n\t end 3") ≡ 18
end_without_lf = refl

no_end : model_end (codes "vrpmodel 1\nends\n1 end\n#end\n") ≡ 27
no_end = refl
