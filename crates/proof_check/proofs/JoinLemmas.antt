-- The labels of a valid proof may be joined, and the least of a half pair is told by the least join.
use Rattle.std.proofs.Common.{◌≡◌, ℕ, ◌<◌, ℤ, ◌≤ℤ◌, Option, None, Some, List, All, length, refl, sym, subst, arith}
use Rattle.std.specs.Prelude.{Contains}
use Rattle.std.proofs.lemmas.Int.{ints}
use Rattle.std.proofs.lemmas.List.{length-map}
use Rattle.std.proofs.lemmas.List.Elements.{All-contains, All-contains_itself, All-get_or, All-weaker}
use Rattle.path_graph.specs.Bounds.{IsAtLeast}
use Rattle.label_rules.specs.declared.label.Label.{Label}
use Rattle.label_rules.specs.Dominance.{StatesFit}
use Rattle.label_rules.specs.Joins.{IsJoinOf, join_cost}
use Rattle.label_rules.specs.Labels.{Backward, Forward, Setting}
use Rattle.label_rules.specs.Leasts.{AreAllAbove, Both, Form, Full, Half, IsLeast, IsTable}
use Rattle.label_rules.specs.Tables.{IsClosed, LiesInWindows}
use Rattle.concatenate.specs.Costs.{IsJoinCost, IsLeastWith}
use Rattle.concatenate.specs.Fit.{MayJoin}
use Rattle.proof_rules.specs.Proofs.{AreBoth, Table}
use Rattle.cert_rules.specs.Meaning.{table_of}
use Rattle.proof_check.specs.declared.proved.Proved.{Proved}
use Rattle.proof_check.specs.Checked.{IsProved, proof_in, setting_in, table_in}
use Rattle.proof_check.specs.Demands.{IfBack, IsExtended, text_table, threshold_of}
use Rattle.proof_check.specs.Keeps.{LabelKeeps, ListKeeps, TableKeeps}
use Rattle.proof_check.proofs.DemandLemmas.{table_is}

all_of : {X : Type 0} (P : X → Type 0) (xs : List X) → ((x : X) → Contains xs x → P x) → All P xs
all_of P xs h = All-weaker (Contains xs) P h xs (All-contains_itself xs)

-- labels in their windows, with states below the denominators and costs within 2^112 of 0, may be joined
pub may_join : (S : Setting) (cuts : ℕ) (labels : List Label) → All (LiesInWindows S) labels → All (StatesFit S) labels → ListKeeps cuts labels → All (MayJoin S) labels
may_join S cuts labels windows states keeps = all_of (MayJoin S) labels (λ l h. record {
  windows = All-contains (LiesInWindows S) labels l windows h;
  states = All-contains (StatesFit S) labels l states h;
  cost = (All-contains (LabelKeeps cuts) labels l keeps h).cost;
})

back_may_join : (S : Setting) (cuts : ℕ) (form : Form) (labels : List Label) → IfBack form (IsExtended Backward S (threshold_of form) labels) → ListKeeps cuts labels → IfBack form (All (MayJoin S) labels)
back_may_join S cuts Full labels h keeps = tt
back_may_join S cuts Both labels h keeps = may_join S cuts labels h.windows h.states keeps
back_may_join S cuts (Half t) labels h keeps = may_join S cuts labels h.windows h.states keeps

pub table_may_join : (S : Setting) (cuts : ℕ) (form : Form) (fore back : List Label) → IsExtended Forward S (threshold_of form) fore → IfBack form (IsExtended Backward S (threshold_of form) back)
    → ListKeeps cuts fore → ListKeeps cuts back → All (MayJoin S) fore × IfBack form (All (MayJoin S) back)
table_may_join S cuts form fore back ahead behind fore_keeps back_keeps = (may_join S cuts fore ahead.windows ahead.states fore_keeps, back_may_join S cuts form back behind back_keeps)

-- both lists of a valid proof
both_closed : (S : Setting) (form : Form) (fore back : List Label) → form ≡ Both → IsTable S form fore back → IsClosed Forward S None fore × IsClosed Backward S None back
both_closed S form fore back e h = subst (λ (f : Form). IsTable S f fore back) e h

module _ (at : Proved) (g : ℕ) (proved : IsProved at) (both : AreBoth at.model.now (proof_in at)) (l : g < length at.model.now.graphs) where
  table_there : g < length at.proof.now.tables
  table_there =
      let count = proved.proof.count in
      let mapped = length-map at.proof.now.tables table_of in
      omega (arith, count, mapped, l)

  keeps_at : TableKeeps (length at.model.now.graphs) (length at.proof.now.cuts) (text_table at.proof.now.tables g)
  keeps_at = All-get_or (TableKeeps (length at.model.now.graphs) (length at.proof.now.cuts)) at.proof.now.tables g _ table_there proved.ready.keeps.tables

  closed_at : IsClosed Forward (setting_in at g) None (table_in at g).fore × IsClosed Backward (setting_in at g) None (table_in at g).back
  closed_at = both_closed (setting_in at g) (table_in at g).form (table_in at g).fore (table_in at g).back (both g l) (proved.proof.each g l).closed

  pub fore_may : All (MayJoin (setting_in at g)) (table_in at g).fore
  fore_may =
      may_join (setting_in at g) (length at.proof.now.cuts) (table_in at g).fore closed_at.0.windows closed_at.0.cover.states
      (subst (λ (xs : List Label). ListKeeps (length at.proof.now.cuts) xs) (sym (λ i. (table_is at.proof.now.tables g i).fore)) keeps_at.fore)

  pub back_may : All (MayJoin (setting_in at g)) (table_in at g).back
  back_may =
      may_join (setting_in at g) (length at.proof.now.cuts) (table_in at g).back closed_at.1.windows closed_at.1.cover.states
      (subst (λ (xs : List Label). ListKeeps (length at.proof.now.cuts) xs) (sym (λ i. (table_is at.proof.now.tables g i).back)) keeps_at.back)

-- the least of a half pair
at_least_more : (least : Option ℤ) (x y : ℤ) → IsAtLeast least x → x ≤ℤ y → IsAtLeast least y
at_least_more None x y h less = absurd h
at_least_more (Some m) x y h less = omega (arith, ints, h, less)

module _ (S : Setting) (t : ℤ) (fore back : List Label) (least : Option ℤ) where
  join_of : (f : Label) (a : ℕ) (b : Label) → IsJoinOf S fore back f a b → IsJoinCost S fore back (join_cost S f a b)
  join_of f a b h = record { arc = a; join = record { front = f; in_fore = h.in_fore; join = record { rest = b; in_back = h.in_back; join = record { joins = h.joins; same = refl } } } }

  pub no_join : IsLeastWith (IsJoinCost S fore back) None → IsLeast S (Half t) fore back least
  no_join none f a b h = absurd (none (join_cost S f a b) (join_of f a b h))

  pub joins_above : (cost : ℤ) → IsLeastWith (IsJoinCost S fore back) (Some cost) → IsAtLeast least cost → IsLeast S (Half t) fore back least
  joins_above cost is above f a b h = at_least_more least cost (join_cost S f a b) above (is.1 (join_cost S f a b) (join_of f a b h))

  pub least_above : (cost : ℤ) → IsLeastWith (IsJoinCost S fore back) (Some cost) → IsLeast S (Half t) fore back least → IsAtLeast least cost
  least_above cost is holds =
      let over = is.0.join in
      subst (IsAtLeast least) over.join.join.same
      (holds over.front is.0.arc over.join.rest (record { in_fore = over.in_fore; in_back = over.join.in_back; joins = over.join.join.joins }))

-- each label at a vertex costs at least the least
pub at_sink : (S : Setting) (labels : List Label) (least : Option ℤ) → All (λ (l : Label). l.vertex ≡ S.graph.ends.sink → IsAtLeast least l.cost) labels
    → (l : Label) → Contains labels l → l.vertex ≡ S.graph.ends.sink → IsAtLeast least l.cost
at_sink S labels least all l h e = All-contains (λ (x : Label). x.vertex ≡ S.graph.ends.sink → IsAtLeast least x.cost) labels l all h e

pub from_sink : (S : Setting) (labels : List Label) (least : Option ℤ) → ((l : Label) → Contains labels l → l.vertex ≡ S.graph.ends.sink → IsAtLeast least l.cost)
    → All (λ (l : Label). l.vertex ≡ S.graph.ends.sink → IsAtLeast least l.cost) labels
from_sink S labels least h = all_of (λ (l : Label). l.vertex ≡ S.graph.ends.sink → IsAtLeast least l.cost) labels h

-- the same of equal things
pub moved_above : (S T : Setting) (fore back xs ys : List Label) (limit other : ℤ) (a : ℕ) → S ≡ T → fore ≡ xs → back ≡ ys → limit ≡ other
    → AreAllAbove S fore back (Some limit) a → AreAllAbove T xs ys (Some other) a
moved_above S T fore back xs ys limit other a e f b l h =
    subst (λ (U : Setting). AreAllAbove U xs ys (Some other) a) e
    (subst (λ (us : List Label). AreAllAbove S us ys (Some other) a) f
    (subst (λ (us : List Label). AreAllAbove S fore us (Some other) a) b
    (subst (λ (x : ℤ). AreAllAbove S fore back (Some x) a) l h)))

pub moved_to : (P : Setting → Table → Type 0) (S T : Setting) (t u : Table) → S ≡ T → t ≡ u → P S t → P T u
moved_to P S T t u e f h = subst (λ (U : Setting). P U u) e (subst (P S) f h)
