-- Why a text is refused.
use Rattle.std.specs.Prelude.{◌≡◌, ℕ, List, Ok}
use Rattle.line_text.specs.declared.fault.TextFault.{TextFault}
use Rattle.line_text.specs.declared.fault.ReadError.{ReadError}
use Rattle.line_text.specs.declared.fault.ReadError.TheVariants as read
use Rattle.model_text.specs.declared.draft.Draft.{Draft}
use Rattle.model_text.specs.FirstFault.{text_read, IsFaultOf, IsFirstTextFault}
use Rattle.model_text.specs.Spelling.{SpellsNothing}

-- a fault refuses a text: it is the first of the text, which spells no model
abbrev pub IsRefusedFor : TextFault → List ℕ → Type 0
IsRefusedFor fault text = IsFirstTextFault text fault × SpellsNothing text

-- the same for an error of a reader; running out of memory says nothing
abbrev pub IsRefusal : List ℕ → ReadError → Type 0
IsRefusal text read.Memory = Unit {0}
IsRefusal text (read.Text fault) = IsRefusedFor fault text

-- the lines of some text tell the parts
abbrev pub IsTold : Draft → Type 0
IsTold d = (text : List ℕ) × (text_read text ≡ Ok d)

-- the parts that lines told are refused for a fault that is looked at last; running out of memory says nothing
abbrev pub IsLateRefusal : Draft → ReadError → Type 0
IsLateRefusal d read.Memory = Unit {0}
IsLateRefusal d (read.Text fault) = IsFaultOf (Ok d) fault
