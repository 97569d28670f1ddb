-- The numbers and names of the kinds of faults of a certificate.
use Rattle.std.specs.Prelude.{ℕ, List, codes}
use Rattle.cert_check.specs.declared.fault.CheckKind.{CheckKind}
use Rattle.cert_check.specs.declared.fault.CheckKind.TheVariants as kind

abbrev pub check_number : CheckKind → ℕ
check_number kind.Plan = 21
check_number kind.Cost = 22
check_number kind.Split = 23
check_number kind.Side = 24
check_number kind.Root = 25
check_number kind.Cover = 26
check_number kind.Sink = 27
check_number kind.Bound = 28
check_number kind.Fix = 29
check_number kind.List = 30
check_number kind.Point = 31
check_number kind.Tail = 32

-- a kind as answers name it
abbrev pub check_name : CheckKind → List ℕ
check_name kind.Plan = codes "Plan"
check_name kind.Cost = codes "Cost"
check_name kind.Split = codes "Split"
check_name kind.Side = codes "Side"
check_name kind.Root = codes "Root"
check_name kind.Cover = codes "Cover"
check_name kind.Sink = codes "Sink"
check_name kind.Bound = codes "Bound"
check_name kind.Fix = codes "Fix"
check_name kind.List = codes "List"
check_name kind.Point = codes "Point"
check_name kind.Tail = codes "Tail"
