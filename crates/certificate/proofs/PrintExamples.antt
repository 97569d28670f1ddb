-- Worked rows of printed certificates, proved by computing.
use Rattle.std.proofs.Common.{◌≡◌, ℕ, pos, neg_ℤ, List, [], ◌∷◌, ◌++◌, None, Some, refl}
use Rattle.std.specs.Prelude.{codes, replicate}
use Rattle.std.specs.Fmt.{digits}
use Rattle.path_graph.specs.SetBits.{has_set}
use Rattle.route_model.specs.declared.multipliers.Mult.{Mult}
use Rattle.route_model.specs.declared.multipliers.Quantity.TheVariants as quantity
use Rattle.route_model.specs.Parts.{plan_with}
use Rattle.label_rules.specs.declared.label.Label.{Label}
use Rattle.label_rules.specs.declared.table.Form.TheVariants as form
use Rattle.line_text.specs.Spelling.{text_of_lines}
use Rattle.certificate.specs.declared.cert.Cert.{Cert}
use Rattle.certificate.specs.declared.cert.Goal.TheVariants as goal
use Rattle.certificate.specs.declared.cert.Node.{Node}
use Rattle.certificate.specs.declared.cert.NodeForm.{NodeForm}
use Rattle.certificate.specs.declared.cert.NodeForm.TheVariants as node
use Rattle.certificate.specs.declared.cert.Proof.{Proof}
use Rattle.certificate.specs.declared.draft.MultKind.TheVariants as kind
use Rattle.certificate.specs.declared.sizes.Sizes.{Sizes}
use Rattle.certificate.specs.SetWords.{members}
use Rattle.certificate.specs.LabelWords.{label_words}
use Rattle.certificate.specs.CertPrint.{kind_lines, drop_lines, written, cert_lines}
use Rattle.certificate.specs.PrintedText.{told_form}

-- runs of dropped arcs, in the order of the list
runs : drop_lines ((0, 1) ∷ (0, 3) ∷ (1, 0) ∷ (0, 2) ∷ [])
    ≡ record { graph = 0; arcs = 1 ∷ 3 ∷ [] } ∷ record { graph = 1; arcs = 0 ∷ [] } ∷ record { graph = 0; arcs = 2 ∷ [] } ∷ []
runs = refl

-- a multiplier of 0 has no line
no_zero : kind_lines kind.Row 0 (pos 0 ∷ pos 4 ∷ pos 0 ∷ neg_ℤ (pos 1) ∷ [])
    ≡ record { kind = kind.Row; number = 1; value = pos 4 } ∷ record { kind = kind.Row; number = 3; value = neg_ℤ (pos 1) } ∷ []
no_zero = refl

-- two variables, a row, two packing sets, a graph of three vertices with one main resource
abbrev sizes : Sizes
sizes =
    record {
      vars = 2;
      rows = 1;
      sets = 2;
      graphs = record { vertices = 3; ends = record { source = 0; sink = 2; low = 0; high = 2; mains = 1; seconds = 0 } } ∷ [];
    }

abbrev mult : Mult
mult = record { vars = pos 0 ∷ neg_ℤ (pos 5) ∷ []; rows = pos 7 ∷ []; sets = pos 0 ∷ pos 0 ∷ []; cuts = []; paths = pos 0 ∷ [] }

abbrev proof : Proof
proof = record { mult = mult; cuts = []; near = []; tables = record { graph = 0; form = form.Half (pos 1); least = None; fore = []; back = [] } ∷ [] }

abbrev at_line : NodeForm → Node
at_line form = record { line = 0; form = form }

-- a certificate with a split, of which the proof is not told, and dropped arcs
abbrev cert : Cert
cert =
    record {
      goal = goal.Optimal (pos 12);
      goal_line = 0;
      end_line = 0;
      plan = plan_with (record { graph = 0; count = 2; arcs = 0 ∷ 1 ∷ [] } ∷ []);
      nodes =
          at_line (node.Split (record { quantity = quantity.Var 1; at = neg_ℤ (pos 1) }) (Some proof))
          ∷ at_line (node.Fix proof ((0, 1) ∷ (0, 1) ∷ [])) ∷ at_line (node.List proof (record { graph = 0; steps = record { parent = 0; arc = 1 } ∷ [] } ∷ []))
          ∷ at_line (node.CountSplit 3 (pos 0)) ∷ at_line node.Point ∷ [];
    }

abbrev proof_part : List ℕ
proof_part =
    codes "mult var 1 -5\n" ++ codes "mult row 0 7\n" ++ codes "table 0 half 1 none\n"

printed : text_of_lines (cert_lines sizes (written cert))
    ≡ codes "optimal 12\n" ++ codes "path 0 2 0 1\n" ++ codes "proof 1\n" ++ codes "split var 1 -1\n" ++ codes "fix\n" ++ proof_part
    ++ codes "drop 0 1 1\n" ++ codes "list\n" ++ proof_part ++ codes "tree 0\n" ++ codes "pre 0 1\n" ++ codes "csplit 3 0\n" ++ codes "point\n" ++ codes "end\n"
unfolding digits
printed = refl

-- a label that remembers two packing sets, in a proof of two cuts
abbrev label : Label
label =
    record {
      vertex = 1;
      values = record { at = pos 4 ∷ pos 0 ∷ pos 0 ∷ pos 0 ∷ pos 0 ∷ pos 0 ∷ [] };
      memory = record { bits = 5 ∷ 0 ∷ 0 ∷ 0 ∷ 0 ∷ 0 ∷ 0 ∷ 0 ∷ [] };
      states = 1 ∷ 0 ∷ replicate 62 0;
      cost = neg_ℤ (pos 3);
    }

words : label_words (record { vertices = 3; ends = record { source = 0; sink = 2; low = 0; high = 2; mains = 1; seconds = 0 }; sets = 3; cuts = 2 }) label
    ≡ codes "1" ∷ codes "-3" ∷ codes "4" ∷ codes "m" ∷ codes "0" ∷ codes "2" ∷ codes "s" ∷ codes "1" ∷ codes "0" ∷ []
unfolding digits members has_set
words = refl

told : told_form (node.Split (record { quantity = quantity.Var 1; at = pos 0 }) (Some proof)) ≡ node.Split (record { quantity = quantity.Var 1; at = pos 0 }) None
told = refl
