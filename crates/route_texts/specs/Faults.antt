-- The numbers of the kinds of faults.
use Rattle.std.specs.Prelude.{ℕ}
use Rattle.route_texts.specs.declared.fault.RouteKind.{RouteKind}
use Rattle.route_texts.specs.declared.fault.RouteKind.TheVariants as kind

abbrev pub kind_number : RouteKind → ℕ
kind_number kind.Word = 41
kind_number kind.Number = 42
kind_number kind.Range = 43
kind_number kind.Repeated = 44
kind_number kind.Missing = 45
kind_number kind.Type = 46
kind_number kind.TooMany = 47
kind_number kind.Depot = 48
