-- What closed tables show of all admitted walks: their least cost, and the arcs that none of a cost uses.
use Rattle.std.specs.Prelude.{◌≡◌, ℕ, ℤ, ◌≤ℤ◌, Option, None, Some, List, Contains}
use Rattle.path_graph.specs.Walk.{root_of}
use Rattle.path_graph.specs.Fit.{int_at}
use Rattle.path_graph.specs.Bounds.{IsAtLeast, IsAtMost, IsAbove, IsNoGreater}
use Rattle.label_rules.specs.Labels.{Setting, Label, Forward, Backward, SettingFits, forward_label}
use Rattle.label_rules.specs.Joins.{join_cost, IsJoinOf, HaveJoin}
use Rattle.label_rules.specs.Admitted.{IsAdmitted}
use Rattle.label_rules.specs.Tables.{IsCover, AreCovers, IsClosed}

-- a forward list alone, two whole lists, or two halves up to a threshold
pub data Form : Type 0 where
  Full : Form
  Both : Form
  Half : ℤ → Form

-- the lists cover what their form says
abbrev pub IsTableCover : Setting → Form → List Label → List Label → Type 0
IsTableCover S Full fore back = IsCover Forward S None fore
IsTableCover S Both fore back = AreCovers S None fore back
IsTableCover S (Half t) fore back = AreCovers S (Some t) fore back

-- a closed table: the lists of its form are closed, and a threshold is at least the first main value at the source
abbrev pub IsTable : Setting → Form → List Label → List Label → Type 0
IsTable S Full fore back = IsClosed Forward S None fore
IsTable S Both fore back = IsClosed Forward S None fore × IsClosed Backward S None back
IsTable S (Half t) fore back =
    (int_at (root_of S.graph).at 0 ≤ℤ t) × IsClosed Forward S (Some t) fore × IsClosed Backward S (Some t) back

-- no label at the sink costs less than the least, nor in a half pair a join; there is none of these where there is no least
abbrev pub IsLeast : Setting → Form → List Label → List Label → Option ℤ → Type 0
IsLeast S Full fore back least = (l : Label) → Contains fore l → l.vertex ≡ S.graph.ends.sink → IsAtLeast least l.cost
IsLeast S Both fore back least = (l : Label) → Contains fore l → l.vertex ≡ S.graph.ends.sink → IsAtLeast least l.cost
IsLeast S (Half t) fore back least = (f : Label) (a : ℕ) (b : Label) → IsJoinOf S fore back f a b → IsAtLeast least (join_cost S f a b)

-- a closed table covers
abbrev pub TableCoversLaw : Type 0
TableCoversLaw = (S : Setting) (form : Form) (fore back : List Label) → IsTable S form fore back → IsTableCover S form fore back

-- the least of a table is at most what each admitted walk costs
abbrev pub LeastLaw : Type 0
LeastLaw = (S : Setting) (form : Form) (fore back : List Label) (least : Option ℤ) (walk : List ℕ) → SettingFits S → IsTableCover S form fore back
    → IsLeast S form fore back least → IsAdmitted S walk → IsAtLeast least (forward_label S walk).cost

-- over each arc of an admitted walk, labels of two whole lists join at no more than its cost
abbrev pub ArcJoinLaw : Type 0
ArcJoinLaw = (S : Setting) (fore back : List Label) (walk : List ℕ) (a : ℕ) → SettingFits S → AreCovers S None fore back → IsAdmitted S walk → Contains walk a
    → HaveJoin S fore back a (forward_label S walk).cost

-- every join over the arc is above the limit
abbrev pub AreAllAbove : Setting → List Label → List Label → Option ℤ → ℕ → Type 0
AreAllAbove S fore back limit a = (f b : Label) → IsJoinOf S fore back f a b → IsAbove limit (join_cost S f a b)

-- so the arc is on no admitted walk within the limit
abbrev pub UnusedArcLaw : Type 0
UnusedArcLaw = (S : Setting) (fore back : List Label) (limit : Option ℤ) (a : ℕ) (walk : List ℕ) → SettingFits S → AreCovers S None fore back
    → AreAllAbove S fore back limit a → IsAdmitted S walk → IsAtMost limit (forward_label S walk).cost → ¬ (Contains walk a)

-- nor where the limit falls
abbrev pub LimitFallsLaw : Type 0
LimitFallsLaw = (S : Setting) (fore back : List Label) (less limit : Option ℤ) (a : ℕ) → IsNoGreater less limit
    → AreAllAbove S fore back limit a → AreAllAbove S fore back less a
