use Rattle.std.proofs.Common.{◌≡◌, ◌++◌, take}
use Rattle.std.specs.List.{flat_map}
use Rattle.model_text.specs.PathText.{path_line}
use Rattle.vrp_cli.proofs.texts.write_paths.Given as goal

abbrev pub invariant-loop-path : goal.invariant-loop-path
invariant-loop-path l = l.text ≡ l.initial.text ++ flat_map path_line (take l.path-index l.paths)
