-- What a PutEntry that is legal has to be: the one of the claim, cell and entry that code finds.
use Rattle.std.proofs.lemmas.Option.{slice_get_within, get_or_from_slice_get}
use Rattle.std.proofs.lemmas.List.Sums.{sum_by-set}
use Rattle.std.proofs.Common.{cond, set, ◌≡◌, ◌+◌, ◌++◌, ◌∷◌, ◌<◌, ◌^◌, [], length, get_or, arith, ℕ, true, false, Option, Some, None, List, refl, sym, ap, ◌∙◌, subst}
use Rattle.std.specs.Prelude.{slice_get}
use native.Mathlib.Decide.{ℕ_discrete}
use mathlib.Core.Logic.{dite}
use Rattle.label_space.specs.Rules.{Rules}
use Rattle.label_core.specs.declared.table.Place.{Place}
use Rattle.label_core.specs.declared.table.Origin.{Origin}
use Rattle.label_core.specs.Walks.{origin}
use Rattle.label_core.specs.Puts.{fresh, put}
use Rattle.label_core.specs.declared.table.Fate.{Fate}
use Rattle.label_core.specs.declared.table.Entry.{Entry}
use Rattle.label_core.specs.Tables.{Cells, place, StandsAt, entries_of}
use Rattle.label_core.proofs.Lookup.{some_same, same_entry}
use Rattle.label_core.specs.declared.machine.ClaimState.{ClaimState}
use Rattle.label_core.specs.declared.machine.PassState.{PassState}
use Rattle.label_core.specs.declared.machine.Core.{Core}
use Rattle.label_core.specs.Steps.{size, next_place, PassAt, LivesAt, FitsClaim, MayPutEntry, PutsEntry, after_put, after_back, Backs, GivesBack}
use Rattle.label_core.specs.Rule.{in_hand, IsRuled}
use Rattle.label_core.specs.Plays.{Decides}
use Rattle.label_core.specs.Passes.{claim, spent}
use Rattle.label_core.specs.declared.table.Fate.TheVariants.{At}
use Rattle.label_core.proofs.MachineLists.{set_there, one_of_sum}
use Rattle.label_core.proofs.MarkRule.{own_elsewhere}

module _ {L : Type 0} (r : Rules L) (x : Core L) where
  -- one pass has one claim of a place
  pub same_claim : IsRuled r x → (p i j : ℕ) (s : PassState) (k h : ClaimState) → PassAt x p s → slice_get s.claims i ≡ Some k → slice_get s.claims j ≡ Some h
      → h.place ≡ k.place → h ≡ k
  same_claim rule p i j s k h at has has' is = dite (ℕ_discrete j i)
      (λ same. some_same h k (sym has' ∙ ap (λ n. slice_get s.claims n) same ∙ has))
      (λ n. absurd (own_elsewhere r x rule p i j s k h at has n has' is))

  pub puts_entry_is : IsRuled r x → (p c : ℕ) (s : PassState) (i : ℕ) (k : ClaimState) (e : Entry L) (q : Place) (fates : List Fate) (l : L) (y : Core L)
      → PassAt x p s → s.held ≡ Some c → slice_get s.claims i ≡ Some k → k.place ≡ q → StandsAt x.table.cells q e
      → PutsEntry r x p q fates l y → (s.ticket ≡ true) × FitsClaim r x.table.cells c s k e.label fates l
  puts_entry_is rule p c s i k e q fates l y at held has of_it stands (c', s', i', k', e', may, of_it', back) =
      let s_is : s' ≡ s = some_same s' s (sym may.holds.0 ∙ at) in
      let c_is : c' ≡ c = some_same c' c (sym may.holds.2 ∙ ap (λ (z : PassState). z.held) s_is ∙ held) in
      let has' : slice_get s.claims i' ≡ Some k' = subst (λ (z : PassState). slice_get z.claims i' ≡ Some k') s_is may.claim_at in
      let k_is : k' ≡ k = same_claim rule p i i' s k k' at has has' (of_it' ∙ sym of_it) in
      let e_is : e' ≡ e = same_entry x.table.cells q e' e (subst (λ z. StandsAt x.table.cells z e') of_it' may.parent) stands in (
        ap (λ (z : PassState). z.ticket) (sym s_is) ∙ may.ticket,
        subst (λ (z : Entry L). FitsClaim r x.table.cells c s k z.label fates l) e_is
            (subst (λ z. FitsClaim r x.table.cells c s z e'.label fates l) k_is
            (subst (λ z. FitsClaim r x.table.cells c z k' e'.label fates l) s_is
            (subst (λ z. FitsClaim r x.table.cells z s' k' e'.label fates l) c_is may.new))),
      )

  -- the claimed entry stands
  pub claimed_stands : IsRuled r x → (p i : ℕ) (s : PassState) (k : ClaimState) (q : Place) → PassAt x p s → slice_get s.claims i ≡ Some k → k.place ≡ q
      → (e : Entry L) × StandsAt x.table.cells q e
  claimed_stands rule p i s k q at has is = let h = (rule.shape.each p s at).claims i k has in (h.entry, subst (λ z. StandsAt x.table.cells z h.entry) is h.stands)

  module _ (p c : ℕ) (s : PassState) (i : ℕ) (k : ClaimState) (e : Entry L) (q : Place) (fates : List Fate) (l : L) (may : MayPutEntry r x p c s i k e fates l) (of_it : k.place ≡ q) where
    abbrev z : Core L
    z = after_put r x p c s i k fates l

    -- the pass, its ticket spent
    abbrev w : PassState
    w = spent c (size x c + 1) i (claim k.place (k.fates ++ fates ++ At (next_place x c) ∷ [])) s

    -- the cell goes home in the end
    pub put_ends : (o : Option (Core L)) → Decides (λ y. Backs z p y) o → Decides (λ y. PutsEntry r x p q fates l y) o
    put_ends None refused = absurd (refused (after_back z p c w) (c, (w, (set_there x.passes p w s may.holds.0, may.holds.1, may.holds.2), refl, refl)))
    put_ends (Some y) (c', (s', holds, no_ticket, is)) =
        let s_is = some_same s' w (sym holds.0 ∙ set_there x.passes p w s may.holds.0) in
        let c_is : c' ≡ c = some_same c' c (sym holds.2 ∙ ap (λ (v : PassState). v.held) s_is ∙ may.holds.2) in
        (c, s, i, k, e, may, of_it, subst (λ n. GivesBack z p n y) c_is (s', holds, no_ticket, is))

    -- the cell that goes home is one of the cells
    pub put_back_within : IsRuled r x → (y : Core L) → y ≡ z → (s' : PassState) (c' : ℕ) → LivesAt y p s' → s'.held ≡ Some c' → c' < length y.holders
    put_back_within rule y is s' c' lives held =
        let at : PassAt z p s' = subst (λ (v : Core L). PassAt v p s') is lives.0 in
        let s_is = some_same s' w (sym at ∙ set_there x.passes p w s may.holds.0) in
        let c_is : c' ≡ c = some_same c' c (sym held ∙ ap (λ (v : PassState). v.held) s_is ∙ may.holds.2) in
        let within = slice_get_within x.holders c (Some p) ((rule.shape.each p s may.holds.0).holds c may.holds.2) in
        subst (λ (v : Core L). c' < length v.holders) (sym is) (subst (λ n. n < length x.holders) (sym c_is) within)

-- the core after PutEntry, as code makes it
pub put_is : {L : Type 0} (r : Rules L) (x : Core L) (p c : ℕ) (s : PassState) (i : ℕ) (k : ClaimState) (fates : List Fate) (l : L) (t : Cells L) (ps : List PassState) (n : ℕ) (o : Origin) (w was : PassState)
    → n ≡ size x c → t ≡ put r x.table.cells c (fresh l (Some o)) → o ≡ origin k.place (length k.fates + length fates)
    → ps ≡ set x.passes p w → w ≡ spent c (n + 1) i (claim k.place (k.fates ++ fates ++ At (place c n) ∷ [])) was → was ≡ s
    → record x { table = record { cells = t }; passes = ps } ≡ after_put r x p c s i k fates l
put_is r x p c s i k fates l t ps n o w was n_is t_is o_is ps_is w_is was_is =
    let now : ℕ → PassState → PassState = λ m v. spent c (m + 1) i (claim k.place (k.fates ++ fates ++ At (place c m) ∷ [])) v in
    let a : t ≡ put r x.table.cells c (fresh l (Some (origin k.place (length k.fates + length fates)))) = t_is ∙ ap (λ z. put r x.table.cells c (fresh l (Some z))) o_is in
    let b : ps ≡ set x.passes p (now (size x c) s) = ps_is ∙ ap (λ z. set x.passes p z) (w_is ∙ ap (λ m. now m was) n_is ∙ ap (λ v. now (size x c) v) was_is) in
    λ j. record x { table = record { cells = a j }; passes = b j }

-- a claim, as code reads it
pub claim_read : (claims es : List ClaimState) (i : ℕ) (k h : ClaimState) → es ≡ claims → slice_get es i ≡ Some h → ((d : ClaimState) → get_or claims i d ≡ k) → slice_get claims i ≡ Some k
claim_read claims es i k h same at read =
    let there : slice_get claims i ≡ Some h = subst (λ z. slice_get z i ≡ Some h) same at in
    there ∙ ap Some (sym (get_or_from_slice_get claims i h k there) ∙ read k)

pub claim_place : (claims es : List ClaimState) (i : ℕ) (k h : ClaimState) (q : Place) → es ≡ claims → slice_get es i ≡ Some h → ((d : ClaimState) → get_or claims i d ≡ k) → h.place ≡ q → k.place ≡ q
claim_place claims es i k h q same at read is =
    let there : slice_get claims i ≡ Some h = subst (λ z. slice_get z i ≡ Some h) same at in
    ap (λ (z : ClaimState). z.place) (sym (read k) ∙ get_or_from_slice_get claims i h k there) ∙ is

module _ {L : Type 0} (r : Rules L) (x : Core L) (rule : IsRuled r x) (p : ℕ) (s : PassState) (at : PassAt x p s) where
  pub held_within : (c : ℕ) → s.held ≡ Some c → c < length x.table.cells
  held_within c held = let h = slice_get_within x.holders c (Some p) ((rule.shape.each p s at).holds c held) in let g = rule.shape.holder_each in omega arith

  pub held_few : (c : ℕ) → s.held ≡ Some c → x.limit < 2 ^ 32 → length (entries_of x.table.cells c) < 2 ^ 32
  held_few c held small =
      let h = sum_by-set length x.table.cells c [] [] (held_within c held) in
      let k = rule.tickets in
      omega arith

  pub claim_within : (i : ℕ) (k : ClaimState) (q : Place) → slice_get s.claims i ≡ Some k → k.place ≡ q → q.index < length (entries_of x.table.cells q.cell)
  claim_within i k q has is = let h = claimed_stands r x rule p i s k q at has is in slice_get_within (entries_of x.table.cells q.cell) q.index h.0 h.1

  pub held_known : (c : ℕ) → s.ended ≡ false → s.held ≡ Some c → (v : PassState) → PassAt x p v → c < length v.known
  held_known c lives held v at' =
      let h = (rule.shape.each p s at).knows_each lives in
      let g = held_within c held in
      subst (λ (z : PassState). c < length z.known) (some_same s v (sym at ∙ at')) (omega arith)

  pub claim_there : (i : ℕ) (k : ClaimState) → slice_get s.claims i ≡ Some k → (v : PassState) → PassAt x p v → i < length v.claims
  claim_there i k has v at' = subst (λ (z : PassState). i < length z.claims) (some_same s v (sym at ∙ at')) (slice_get_within s.claims i k has)

  -- a pass with a ticket has room for one entry more
  pub ticket_few : (c : ℕ) → s.held ≡ Some c → s.ticket ≡ true → x.limit < 2 ^ 32 → length (entries_of x.table.cells c) + 1 < 2 ^ 32
  ticket_few c held ticket small =
      let h = sum_by-set length x.table.cells c [] [] (held_within c held) in
      let k = rule.tickets in
      let a = one_of_sum in_hand x.passes p s at in
      let b : in_hand s ≡ 1 = ap (λ b. let n : ℕ = cond b 1 0 in n) ticket in
      omega arith
