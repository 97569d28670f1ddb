use Rattle.std.proofs.Common.{ℕ, ◌<◌, get_or}
use Rattle.label_rules.specs.declared.label.Label.{Label}
use Rattle.route_labels.specs.Meaning.{setting_of}
use Rattle.concatenate.specs.Fit.{MayJoin}
use Rattle.listing_tests.proofs.fits.may_all_join.Given as goal

abbrev pub invariant-loop-label : goal.invariant-loop-label
invariant-loop-label l = (k : ℕ) (d : Label) → k < l.label-index → MayJoin (setting_of l.field) (get_or l.labels k d)
