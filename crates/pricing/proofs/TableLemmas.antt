-- Tables as they were filled: their costs are near 0, their leasts are of their labels, and where one stopped it is a wall.
use Rattle.std.proofs.Common.{◌≡◌, Bool, Ok, Err, false, OnOk, ℕ, zero, suc, ◌+◌, ◌⊎◌, ◌++◌, ◌∷◌, length-append, ◌<◌, ◌^◌, ℤ, pos, ◌-ℤ◌, ◌≤ℤ◌, Option, None, Some, List, [], All, length, get_or, inl, inr, refl, sym, ◌∙◌, ap, subst, arith}
use Rattle.std.specs.Prelude.{Contains, IfSome, slice_get, true}
use Rattle.std.specs.declared.result.Result.{Result}
use Rattle.std.specs.Result.{is_err}
use Rattle.std.proofs.lemmas.Bool.{cases_lt, false≢true}
use Rattle.std.proofs.lemmas.Int.{ints}
use Rattle.std.proofs.lemmas.List.{get_or_past}
use Rattle.std.proofs.lemmas.List.Elements.{All-contains, All-contains_itself, All-get_or, All-weaker}
use Rattle.path_graph.specs.Fit.{int_at}
use Rattle.path_graph.specs.Walk.{root_of}
use Rattle.path_graph.specs.Within.{IsWithin}
use Rattle.multipliers.proofs.NearLemmas.{turned_near}
use Rattle.label_space.specs.Rules.{Rules}
use Rattle.label_core.specs.Points.{IsSound}
use Rattle.label_core.specs.declared.table.Entry.{Entry}
use Rattle.label_core.specs.declared.table.Place.{Place}
use Rattle.label_core.specs.Tables.{Cells, StandsAt}
use Rattle.label_core.specs.Walks.{AreDifferentWalks}
use Rattle.plain_table.specs.Outcomes.{IsFull}
use Rattle.label_rules.specs.declared.label.Label.{Label}
use Rattle.label_rules.specs.declared.table.Form.{Form as TextForm}
use Rattle.label_rules.specs.declared.table.Form.TheVariants as text
use Rattle.label_rules.specs.declared.table.ProofTable.{ProofTable}
use Rattle.label_rules.specs.Labels.{Backward, Direction, Forward, Setting, SettingFits, root}
use Rattle.label_rules.specs.Leasts.{Half, IsTable}
use Rattle.label_rules.specs.Spaces.{CostsFit, IsLabel, is_label, level}
use Rattle.label_rules.specs.Tables.{IsClosed, LiesInWindows}
use Rattle.label_rules.proofs.TestLemmas.{label_decides}
use Rattle.route_labels.specs.declared.field.Field.{Field}
use Rattle.route_labels.specs.Fit.{FieldFits}
use Rattle.route_labels.specs.Meaning.{setting_of}
use Rattle.route_labels.specs.Rules.{rules_of, vertex_of}
use Rattle.route_labels.specs.Tables.{kept_labels}
use Rattle.route_labels.proofs.KeptLemmas.{kept_at}
use Rattle.proof_rules.specs.TableWalls.{IsTableOver}
use Rattle.proof_rules.proofs.TableWallLemmas.{filled}
use Rattle.concatenate.specs.Costs.{IsJoinCost, IsLeastWith}
use Rattle.concatenate.specs.Fit.{MayJoin}
use Rattle.pricing.specs.declared.half_table.HalfPair.{HalfPair}
use Rattle.pricing.specs.Halves.{AreHalves, IsHalfIn, IsPairIn, MayEachJoin}
use Rattle.cert_rules.specs.Meaning.{form_of}
use Rattle.label_core.specs.declared.table.Table.{Table}
use Rattle.pricing.specs.Outcomes.{AreTables, EachHas, IsMadeIn, whole_form}
use Rattle.pricing.specs.Tables.{AreNear, IsExactLeast, IsSinkCost, IsTableIn}
use Rattle.pricing.proofs.ChosenLemmas.{table_walks}
use Rattle.pricing.proofs.NearLemmas.{Rises, join_near, reached_near, reached_rises}

-- a number of a list whose numbers are near 0 is, also past the end
number_near : (n : ℕ) (xs : List ℤ) (k : ℕ) → All (IsWithin n) xs → IsWithin n (int_at xs k)
number_near n xs k all = elim (cases_lt k (length xs)) [
  | inl less ↦ All-get_or (IsWithin n) xs k (pos 0) less all
  | inr past ↦ subst (IsWithin n) (sym (get_or_past xs k (pos 0) past)) (omega (arith, ints), omega (arith, ints))
]

pub start_near : (f : Field) → FieldFits f → IsWithin (2 ^ 48) (setting_of f).start
start_near f fits = number_near (2 ^ 48) f.priced.now.starts f.graph (subst (All (IsWithin (2 ^ 48))) (sym fits.priced.starts) (turned_near fits.mult.paths fits.mult_fits.each_path))

-- the labels of the entries of a table that was filled, and of the kept ones
module _ (direction : Direction) (S : Setting) (threshold : Option ℤ) (t : Cells Label) (fits : SettingFits S) (costs : CostsFit S) (start : IsWithin (2 ^ 48) S.start)
    (sound : IsSound (rules_of direction S threshold) t) (walks : AreDifferentWalks (rules_of direction S threshold) t) where
  pub root_lies : LiesInWindows S (root direction S)
  root_lies =
      let first = sound.labels.root in
      ((label_decides direction S (root direction S)).0 (subst (λ (m : Label). is_label direction S m ≡ true) first.4 (sound.at_home first.0 first.1 first.2).0)).windows

  entry_is : (p : Place) (e : Entry Label) → StandsAt t p e → IsLabel direction S e.label
  entry_is p e stands = (label_decides direction S e.label).0 (sound.at_home p e stands).0

  pub each_rises : (p : Place) (e : Entry Label) → StandsAt t p e → Rises (e.label.cost -ℤ (root direction S).cost) (level direction S e.label -ℤ level direction S (root direction S))
  each_rises p e stands = let walk = walks.walk p e stands in reached_rises direction S threshold (length S.graph.vertices) vertex_of walk.0 e.label fits costs walk.2

  each_near : (p : Place) (e : Entry Label) → StandsAt t p e → IsWithin (2 ^ 112) e.label.cost
  each_near p e stands =
      let walk = walks.walk p e stands in
      reached_near direction S threshold (length S.graph.vertices) vertex_of walk.0 e.label fits costs start root_lies (entry_is p e stands).windows walk.2

  pub each_joins : MayEachJoin S t
  each_joins p e stands = let is = entry_is p e stands in record { windows = is.windows; states = is.states; cost = each_near p e stands }

  pub kept_near : AreNear (kept_labels t)
  kept_near =
      All-weaker (Contains (kept_labels t)) (λ (l : Label). IsWithin (2 ^ 112) l.cost)
      (λ l h. let has = kept_at t l h in subst (λ (m : Label). IsWithin (2 ^ 112) m.cost) has.4 (each_near has.0 has.1 has.2)) (kept_labels t) (All-contains_itself (kept_labels t))

  pub kept_join : All (MayJoin S) (kept_labels t)
  kept_join =
      All-weaker (Contains (kept_labels t)) (MayJoin S)
      (λ l h. let has = kept_at t l h in subst (MayJoin S) has.4 (each_joins has.0 has.1 has.2)) (kept_labels t) (All-contains_itself (kept_labels t))

-- their least at the sink
least_near : (sink : ℕ) (labels : List Label) (least : Option ℤ) → AreNear labels → IsLeastWith (IsSinkCost sink labels) least → IfSome least (IsWithin (2 ^ 112))
least_near sink labels None near is = tt
least_near sink labels (Some cost) near is = subst (IsWithin (2 ^ 112)) is.0.same (All-contains (λ (l : Label). IsWithin (2 ^ 112) l.cost) labels is.0.label near is.0.listed)

-- the table of a graph from its parts
module _ (S : Setting) (g : ℕ) (t : ProofTable) (fore back : List Label) (form : TextForm) (graph_is : t.graph ≡ g) (form_is : t.form ≡ form) (fore_is : t.fore ≡ fore) (back_is : t.back ≡ back)
    (near_fore : AreNear fore) (near_back : AreNear back) (least_is : IsLeastWith (IsSinkCost S.graph.ends.sink fore) t.least) where
  pub from_parts : IsTable S (form_of form) fore back → IsExactLeast S (form_of form) fore back t.least → IsTableIn S g t
  from_parts closed exact = record {
    graph = graph_is;
    closed = subst (λ (f : TextForm). IsTable S (form_of f) t.fore t.back) (sym form_is)
        (subst (λ (ls : List Label). IsTable S (form_of form) ls t.back) (sym fore_is) (subst (λ (ls : List Label). IsTable S (form_of form) fore ls) (sym back_is) closed));
    least_is = subst (λ (f : TextForm). IsExactLeast S (form_of f) t.fore t.back t.least) (sym form_is)
        (subst (λ (ls : List Label). IsExactLeast S (form_of form) ls t.back t.least) (sym fore_is) (subst (λ (ls : List Label). IsExactLeast S (form_of form) fore ls t.least) (sym back_is) exact));
    fore_near = subst AreNear (sym fore_is) near_fore;
    back_near = subst AreNear (sym back_is) near_back;
    least_near = least_near S.graph.ends.sink fore t.least near_fore least_is;
  }

none_near : AreNear []
none_near = λ i d l. absurd (omega (arith, l))

pub alone_is : (S : Setting) (g : ℕ) (t : ProofTable) (fore : List Label) → t.graph ≡ g → t.form ≡ text.Full → t.fore ≡ fore → t.back ≡ [] → AreNear fore
    → IsLeastWith (IsSinkCost S.graph.ends.sink fore) t.least → IsClosed Forward S None fore → IsTableIn S g t
alone_is S g t fore graph_is form_is fore_is back_is near least closed = from_parts S g t fore [] text.Full graph_is form_is fore_is back_is near none_near least closed least

pub both_is : (S : Setting) (g : ℕ) (t : ProofTable) (fore back : List Label) → t.graph ≡ g → t.form ≡ text.Both → t.fore ≡ fore → t.back ≡ back → AreNear fore → AreNear back
    → IsLeastWith (IsSinkCost S.graph.ends.sink fore) t.least → IsClosed Forward S None fore → IsClosed Backward S None back → IsTableIn S g t
both_is S g t fore back graph_is form_is fore_is back_is near near_back least closed closed_back =
    from_parts S g t fore back text.Both graph_is form_is fore_is back_is near near_back least (closed, closed_back) least

-- the table of partial walks as it was filled
pub made_is : (S : Setting) (t : Cells Label) → IsSound (rules_of Forward S None) t → AreDifferentWalks (rules_of Forward S None) t → IsMadeIn S (record { cells = t })
made_is S t sound walks = record { sound = sound; walks = table_walks S None (length S.graph.vertices) vertex_of t sound walks }

-- one more item, with its number
got_more : {X : Type 0} (xs : List X) (x y : X) (g : ℕ) → slice_get (xs ++ x ∷ []) g ≡ Some y → (slice_get xs g ≡ Some y) ⊎ ((g ≡ length xs) × (x ≡ y))
got_more [] x y zero e = inr (refl, cc)
got_more [] x y (suc g) e = absurd (cc)
got_more (z ∷ zs) x y zero e = inl e
got_more (z ∷ zs) x y (suc g) e = elim (got_more zs x y g e) [
  | inl k ↦ inl k
  | inr k ↦ inr (ap suc k.0, k.1)
]

pub each_more : {X : Type 0} (n : ℕ) (xs : List X) (x : X) (P : ℕ → X → Type 0) → EachHas n xs P → P n x → EachHas (n + 1) (xs ++ x ∷ []) P
each_more {X} n xs x P has p = record {
  count = let size = length-append xs (x ∷ []) in omega (arith, size, has.count);
  each = λ g y e. elim (got_more xs x y g e) [
    | inl k ↦ has.each g y k
    | inr k ↦ subst (P g) k.1 (subst (λ (j : ℕ). P j x) (sym (k.0 ∙ has.count)) p)
  ];
}

pub tables_more : (n : ℕ) (setting : ℕ → Setting) (both : Bool) (tables : List ProofTable) (made : List (Table Label)) (t : ProofTable) (u : Table Label) → AreTables n setting both tables made
    → IsTableIn (setting n) n t → t.form ≡ whole_form both → IsMadeIn (setting n) u → AreTables (n + 1) setting both (tables ++ t ∷ []) (made ++ u ∷ [])
tables_more n setting both tables made t u are is form_is is_made = record {
  each_table = each_more n tables t (λ g x. IsTableIn (setting g) g x × (x.form ≡ whole_form both)) are.each_table (is, form_is);
  each_made = each_more n made u (λ g x. IsMadeIn (setting g) x) are.each_made is_made;
}

-- a result that is no error
pub told_ok : {X E : Type 0} (r : Result X E) (P : Type 0) → OnOk r P → is_err r ≡ false → P
told_ok (Ok x) P h e = h
told_ok (Err x) P h e = absurd (false≢true (sym e))

-- the least join of two tables that were filled up to a threshold and above it
module _ (S : Setting) (T : Option ℤ) (fore back : Cells Label) (fits : SettingFits S) (costs : CostsFit S) (start : IsWithin (2 ^ 48) S.start)
    (sound : IsSound (rules_of Forward S T) fore) (walks : AreDifferentWalks (rules_of Forward S T) fore)
    (sound_back : IsSound (rules_of Backward S T) back) (walks_back : AreDifferentWalks (rules_of Backward S T) back) where
  joined_near : (cost : ℤ) → IsJoinCost S (kept_labels fore) (kept_labels back) cost → IsWithin (2 ^ 112) cost
  joined_near cost h =
      let over = h.join in
      let with = over.join in
      let f = kept_at fore over.front over.in_fore in
      let b = kept_at back with.rest with.in_back in
      let first = subst (λ (m : Label). Rises (m.cost -ℤ (root Forward S).cost) (level Forward S m -ℤ level Forward S (root Forward S))) f.4 (each_rises Forward S T fore fits costs start sound walks f.0 f.1 f.2) in
      let last = subst (λ (m : Label). Rises (m.cost -ℤ (root Backward S).cost) (level Backward S m -ℤ level Backward S (root Backward S))) b.4 (each_rises Backward S T back fits costs start sound_back walks_back b.0 b.1 b.2) in
      let lies = subst (LiesInWindows S) b.4 (each_joins Backward S T back fits costs start sound_back walks_back b.0 b.1 b.2).windows in
      subst (IsWithin (2 ^ 112)) with.join.same
      (join_near S over.front h.arc with.rest fits costs start (root_lies Forward S T fore fits costs start sound walks) (root_lies Backward S T back fits costs start sound_back walks_back) lies first last with.join.joins)

  least_join_near : (least : Option ℤ) → IsLeastWith (IsJoinCost S (kept_labels fore) (kept_labels back)) least → IfSome least (IsWithin (2 ^ 112))
  least_join_near None is = tt
  least_join_near (Some cost) is = joined_near cost is.0

  pub half_is : (g : ℕ) (t : ProofTable) (threshold : ℤ) → T ≡ Some threshold → t.graph ≡ g → t.form ≡ text.Half threshold → t.fore ≡ kept_labels fore → t.back ≡ kept_labels back
      → IsLeastWith (IsJoinCost S (kept_labels fore) (kept_labels back)) t.least → int_at (root_of S.graph).at 0 ≤ℤ threshold
      → IsClosed Forward S T (kept_labels fore) → IsClosed Backward S T (kept_labels back) → IsTableIn S g t
  half_is g t threshold some graph_is form_is fore_is back_is least from closed closed_back =
      let both = subst (λ (o : Option ℤ). IsClosed Forward S o (kept_labels fore) × IsClosed Backward S o (kept_labels back)) some (closed, closed_back) in
      record {
        graph = graph_is;
        closed = subst (λ (f : TextForm). IsTable S (form_of f) t.fore t.back) (sym form_is)
            (subst (λ (ls : List Label). IsTable S (Half threshold) ls t.back) (sym fore_is) (subst (λ (ls : List Label). IsTable S (Half threshold) (kept_labels fore) ls) (sym back_is) (from, both.0, both.1)));
        least_is = subst (λ (f : TextForm). IsExactLeast S (form_of f) t.fore t.back t.least) (sym form_is)
            (subst (λ (ls : List Label). IsLeastWith (IsJoinCost S ls t.back) t.least) (sym fore_is) (subst (λ (ls : List Label). IsLeastWith (IsJoinCost S (kept_labels fore) ls) t.least) (sym back_is) least));
        fore_near = subst AreNear (sym fore_is) (kept_near Forward S T fore fits costs start sound walks);
        back_near = subst AreNear (sym back_is) (kept_near Backward S T back fits costs start sound_back walks_back);
        least_near = least_join_near t.least least;
      }

-- a table that stopped at the limit, with a threshold too
pub half_wall_is : (direction : Direction) (S : Setting) (threshold : Option ℤ) (limit : ℕ) (t : Cells Label) → IsSound (rules_of direction S threshold) t → AreDifferentWalks (rules_of direction S threshold) t
    → IsFull (rules_of direction S threshold) limit t → IsTableOver limit direction S t
half_wall_is direction S threshold limit t sound walks full =
    let more = full.one_more in
    filled limit direction S threshold (length S.graph.vertices) vertex_of t (record {
      sound = sound;
      walks = walks;
      count = full.made;
      place = more.0;
      entry = more.1;
      choice = more.2;
      label = more.3;
      stands = more.4;
      extends = more.5;
      not_covered = more.6;
      no_entry = more.7;
    })

pub wall_is : (direction : Direction) (S : Setting) (limit : ℕ) (t : Cells Label) → IsSound (rules_of direction S None) t → AreDifferentWalks (rules_of direction S None) t
    → IsFull (rules_of direction S None) limit t → IsTableOver limit direction S t
wall_is direction S limit t sound walks full = half_wall_is direction S None limit t sound walks full

pub halves_more : (n : ℕ) (setting : ℕ → Setting) (tables : List ProofTable) (pairs : List HalfPair) (t : ProofTable) (pair : HalfPair) → AreHalves n setting tables pairs
    → IsHalfIn (setting n) n t pair → AreHalves (n + 1) setting (tables ++ t ∷ []) (pairs ++ pair ∷ [])
halves_more n setting tables pairs t pair are is = record {
  each_table = each_more n tables t (λ g x. IsTableIn (setting g) g x × ((threshold : ℤ) × (x.form ≡ text.Half threshold))) are.each_table (is.table, (is.threshold, is.form));
  each_pair = each_more n pairs pair (λ g x. (threshold : ℤ) × IsPairIn (setting g) threshold x) are.each_pair (is.threshold, is.pair_is);
}
