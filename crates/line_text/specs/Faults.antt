-- The numbers and names of the kinds of faults.
use Rattle.std.specs.Prelude.{ℕ, List, codes}
use Rattle.line_text.specs.declared.fault.Kind.{Kind}
use Rattle.line_text.specs.declared.fault.Kind.TheVariants.{Version, Word, Number, Range, Order, Unknown, EndMissing, AfterEnd, Ends, Window, MainNegative, FreeCycle, Box, CostRange, TooMany, Byte}

abbrev pub kind_number : Kind → ℕ
kind_number Version = 1
kind_number Word = 2
kind_number Number = 3
kind_number Range = 4
kind_number Order = 5
kind_number Unknown = 6
kind_number EndMissing = 7
kind_number AfterEnd = 8
kind_number Ends = 9
kind_number Window = 10
kind_number MainNegative = 11
kind_number FreeCycle = 12
kind_number Box = 13
kind_number CostRange = 14
kind_number TooMany = 15
kind_number Byte = 16

-- a kind as answers name it
abbrev pub kind_name : Kind → List ℕ
kind_name Version = codes "Version"
kind_name Word = codes "Word"
kind_name Number = codes "Number"
kind_name Range = codes "Range"
kind_name Order = codes "Order"
kind_name Unknown = codes "Unknown"
kind_name EndMissing = codes "EndMissing"
kind_name AfterEnd = codes "AfterEnd"
kind_name Ends = codes "Ends"
kind_name Window = codes "Window"
kind_name MainNegative = codes "MainNegative"
kind_name FreeCycle = codes "FreeCycle"
kind_name Box = codes "Box"
kind_name CostRange = codes "CostRange"
kind_name TooMany = codes "TooMany"
kind_name Byte = codes "Byte"
