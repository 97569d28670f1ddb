-- Which arcs are not wanted, from what is read.
use Rattle.std.proofs.Common.{◌≡◌, ℕ, true, false, Option, None, Some, sym, ◌∙◌}
use Rattle.std.specs.Prelude.{IfSome}
use Rattle.std.proofs.lemmas.Bool.{false≢true}
use Rattle.path_graph.specs.declared.set_bits.SetBits.{SetBits}
use Rattle.path_graph.specs.SetBits.{has_set}
use Rattle.path_graph.specs.Visits.{visit_over}
use Rattle.label_rules.specs.declared.label.Label.{Label}
use Rattle.label_rules.specs.Labels.{Setting}
use Rattle.label_rules.specs.Spaces.{is_remembered}
use Rattle.list_check.specs.Prefixes.{GoesOver}

-- an arc into a visited set does not go on
pub visited_not : (S : Setting) (label : Label) (visited : SetBits) (a : ℕ) (set : Option ℕ) → set ≡ visit_over S.graph a → is_remembered visited set ≡ true → ¬ (GoesOver S label visited a)
visited_not S label visited a None is met goes = false≢true met
visited_not S label visited a (Some s) is met goes = false≢true (sym (goes.new s (sym is)) ∙ met)

-- a set that is not visited
pub unvisited : (visited : SetBits) (set : Option ℕ) → is_remembered visited set ≡ false → IfSome set (λ s. has_set visited s ≡ false)
unvisited visited None h = tt
unvisited visited (Some s) h = h
