-- Closed sets of labels, and lists of choices that they represent.
use Rattle.std.specs.Prelude.{ℕ, List, take}
use Rattle.label_space.specs.Rules.{Rules, Dominates, Extends}
use Rattle.label_core.specs.Walks.{Reaches}

module _ {L : Type 0} (r : Rules L) where
  -- a label of the set dominates m
  abbrev pub Covers : (L → Type 0) → L → Type 0
  Covers Has m = (l : L) × Has l × Dominates r l m

  -- a label of the set dominates the root, and one dominates each extension of each of its labels
  abbrev pub IsClosed : (L → Type 0) → Type 0
  IsClosed Has = Covers Has r.root
      × ((l : L) (k : ℕ) (m : L) → Has l → Extends r l k m → Covers Has m)

  -- for each prefix of the choices a label of the set dominates the prefix's label
  abbrev pub IsRepresented : (L → Type 0) → List ℕ → Type 0
  IsRepresented Has choices = (n : ℕ) (m : L) → Reaches r r.root (take n choices) m → Covers Has m

  -- the set represents every list of choices from the root
  abbrev pub RepresentsAll : (L → Type 0) → Type 0
  RepresentsAll Has = (choices : List ℕ) (m : L) → Reaches r r.root choices m
      → IsRepresented Has choices
