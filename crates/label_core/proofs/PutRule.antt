-- A new entry keeps the rule.
use Rattle.std.proofs.Common.{◌≡◌, ◌≢◌, ◌⊎◌, ℕ, ◌+◌, ◌<◌, ◌≤◌, cond, Option, Some, None, List, [], ◌∷◌, ◌++◌, length, map, set, get_or, refl, sym, ap, ◌∙◌, subst, inl, inr, ⊎_elim, arith}
use Rattle.std.proofs.lemmas.List.{length-append, length-map, length-set, get_or-set_same, get_or-set_other}
use Rattle.std.proofs.lemmas.List.Sums.{sum_by-set}
use Rattle.std.proofs.lemmas.Option.{slice_get_within, slice_get_past}
use Rattle.std.specs.Prelude.{slice_get}
use native.Mathlib.Decide.{ℕ_discrete}
use mathlib.Core.Logic.{dite}
use Rattle.label_space.specs.Rules.{Rules}
use Rattle.label_space.specs.Laws.{IsLawful}
use Rattle.label_core.specs.declared.table.Place.{Place}
use Rattle.label_core.specs.declared.table.Origin.{Origin}
use Rattle.label_core.specs.declared.table.Fate.{Fate}
use Rattle.label_core.specs.declared.table.Fate.TheVariants.{At}
use Rattle.label_core.specs.declared.table.Turn.TheVariants.{Fresh, Claimed}
use Rattle.label_core.specs.declared.table.Entry.{Entry}
use Rattle.label_core.specs.Tables.{Cells, place, entries_of, StandsAt, entry_count}
use Rattle.label_core.specs.Walks.{origin}
use Rattle.label_core.specs.Points.{IsSound}
use Rattle.label_core.specs.Puts.{beside, put_into, put, CoversNot, MayPut}
use Rattle.label_core.specs.Fates.{IsLegal, AreLegal}
use Rattle.label_core.proofs.Lookup.{some_same, same_entry, same_or_apart, entries_set_here, entries_set_else, front_or_end}
use Rattle.label_core.specs.Points.{Stays}
use Rattle.label_core.proofs.Stays.{all_legal_still}
use Rattle.label_core.proofs.Putting.{Became, put_back, put_forth, new_stands, label_stays, origin_stays, turn_stays, put_keeps}
use Rattle.label_core.specs.declared.machine.ClaimState.{ClaimState}
use Rattle.label_core.specs.declared.machine.PassState.{PassState}
use Rattle.label_core.specs.declared.machine.Core.{Core}
use Rattle.label_core.specs.Passes.{claim, spent}
use Rattle.label_core.specs.Steps.{size, next_place, new_entry, after_put, MayPutEntry}
use Rattle.label_core.specs.Rule.{in_hand, due_turn, due, due_at, counts, IsWorked, IsClaim, IsPass, IsRuled}
use Rattle.label_core.proofs.MachineLists.{each_set, sum_set}
use Rattle.label_core.proofs.PassChange.{pass_still, shape_changed, held_by, rule_changed}
use Rattle.label_core.proofs.MarkRule.{legal_append, others_elsewhere, own_elsewhere}

module _ {L : Type 0} (r : Rules L) (t : Cells L) (c : ℕ) (new : Entry L) (room : c < length t) where
  abbrev u : Cells L
  u = put r t c new

  abbrev at : Place
  at = place c (length (entries_of t c))

  -- what stood stands with its label, origin and turn
  forth : (q : Place) (d : Entry L) → StandsAt t q d → (e : Entry L) × StandsAt u q e × (e.label ≡ d.label) × (e.origin ≡ d.origin) × (e.turn ≡ d.turn)
  forth q d s = let f = put_forth r t c new room q d s in (f.0, f.1, label_stays r t c new q d f.0 f.2, origin_stays r t c new q d f.0 f.2, turn_stays r t c new q d f.0 f.2)

  pub stays : Stays t u
  stays q d s = let f = forth q d s in (f.0, f.1, f.2, f.3)

  -- what stands is the new entry, or stood with its label, origin and turn
  abbrev Old : Place → Entry L → Type 0
  Old q e = (d : Entry L) × StandsAt t q d × (e.label ≡ d.label) × (e.origin ≡ d.origin) × (e.turn ≡ d.turn)

  back : (q : Place) (e : Entry L) → StandsAt u q e → ((q ≡ at) × (e ≡ new)) ⊎ Old q e
  back q e s = ⊎_elim
      (λ (a : (q ≡ at) × (e ≡ new)). inl a)
      (λ (o : (d : Entry L) × StandsAt t q d × Became r t c new q d e). inr (o.0, o.1, label_stays r t c new q o.0 e o.2, origin_stays r t c new q o.0 e o.2, turn_stays r t c new q o.0 e o.2))
      (put_back r t c new room q e s)

  put_length : length u ≡ length t
  put_length = length-set t c (put_into r (entries_of t c) c new)

  into_length : length (put_into r (entries_of t c) c new) ≡ length (entries_of t c) + 1
  into_length =
      let n = length-append (map (beside r new.label at) (entries_of t c)) (new ∷ []) in
      let k = length-map (entries_of t c) (beside r new.label at) in
      omega arith

  size_here : length (entries_of u c) ≡ length (entries_of t c) + 1
  size_here = ap (λ (es : List (Entry L)). length es) (entries_set_here t c (put_into r (entries_of t c) c new) room) ∙ into_length

  size_else : (d : ℕ) → d ≢ c → length (entries_of u d) ≡ length (entries_of t d)
  size_else d n = ap (λ (es : List (Entry L)). length es) (entries_set_else t c d (put_into r (entries_of t c) c new) n)

  size_grows : (d : ℕ) → length (entries_of t d) ≤ length (entries_of u d)
  size_grows d = dite (ℕ_discrete d c)
      (λ is. subst (λ z. length (entries_of t z) ≤ length (entries_of u z)) (sym is) (let h = size_here in omega arith))
      (λ n. let h = size_else d n in omega arith)

  put_count : entry_count u ≡ entry_count t + 1
  put_count =
      let h = sum_by-set length t c (put_into r (entries_of t c) c new) [] room in
      let n = into_length in
      omega arith

  -- the new entry is Fresh, and the others have their turns
  put_due : new.turn ≡ Fresh → (q : Place) → due_at u q ≡ due_at t q
  put_due fresh q = ⊎_elim
      (λ same.
      let a : due_at u at ≡ 0 = ap (λ (o : Option (Entry L)). due o) (new_stands r t c new room) ∙ ap (λ o. due_turn o) fresh in
      let b : due_at t at ≡ 0 = ap (λ (o : Option (Entry L)). due o) (slice_get_past (entries_of t c) (length (entries_of t c)) (omega arith)) in
      ap (λ z. due_at u z) same ∙ a ∙ sym b ∙ ap (λ z. due_at t z) (sym same))
      (λ n. one n (slice_get (entries_of t q.cell) q.index) refl (slice_get (entries_of u q.cell) q.index) refl)
      (same_or_apart q at)
    where
      one : q ≢ at → (a : Option (Entry L)) → slice_get (entries_of t q.cell) q.index ≡ a → (b : Option (Entry L)) → slice_get (entries_of u q.cell) q.index ≡ b → due b ≡ due a
      one n (Some d) s b s' =
          let f = forth q d s in
          ap (λ (o : Option (Entry L)). due o) (sym s' ∙ f.1) ∙ ap (λ o. due_turn o) f.4
      one n None s None s' = refl
      one n None s (Some e) s' = ⊎_elim
          (λ (a : (q ≡ at) × (e ≡ new)). absurd (n a.0))
          (λ (o : Old q e). absurd (let h = sym s ∙ o.1 in cc))
          (back q e s')

  -- a claim of another entry than the parent
  put_claim : (parent : Place) (arc : ℕ) → new.origin ≡ Some (origin parent arc) → (k : ClaimState) → IsClaim r t k → k.place ≢ parent → IsClaim r u k
  put_claim parent arc from k was apart = let f = forth k.place was.entry was.stands in record {
    entry = f.0;
    number = was.number;
    stands = f.1;
    turn_is = f.4 ∙ was.turn_is;
    legal = subst (λ l. AreLegal r u l k.fates) (sym f.2) (all_legal_still r t u stays was.entry.label k.fates was.legal);
    within = subst (λ l. length k.fates ≤ r.degree l) (sym f.2) was.within;
    noted = λ q e o s by is. ⊎_elim
        (λ (a : (q ≡ at) × (e ≡ new)).
        let h = some_same (origin parent arc) o (sym from ∙ ap (λ (v : Entry L). v.origin) (sym a.1) ∙ by) in
        absurd (apart (sym is ∙ ap (λ (v : Origin). v.parent) (sym h))))
        (λ (d : Old q e). was.noted q d.0 o d.1 (sym d.3 ∙ by) is)
        (back q e s);
  }

module _ {L : Type 0} (r : Rules L) (law : IsLawful r) (x : Core L) (rule : IsRuled r x) (p c : ℕ) (s : PassState) (i : ℕ) (k : ClaimState) (e : Entry L) (fates : List Fate) (l : L)
    (may : MayPutEntry r x p c s i k e fates l) where
  abbrev t : Cells L
  t = x.table.cells

  abbrev new : Entry L
  new = new_entry r k fates l

  abbrev arc : ℕ
  arc = length k.fates + length fates

  abbrev there : Place
  there = next_place x c

  abbrev noted_claim : ClaimState
  noted_claim = claim k.place (k.fates ++ fates ++ At there ∷ [])

  abbrev now : PassState
  now = spent c (size x c + 1) i noted_claim s

  was : IsPass r t x.holders p s
  was = rule.shape.each p s may.holds.0

  mine : IsClaim r t k
  mine = was.claims i k may.claim_at

  is_it : mine.entry ≡ e
  is_it = same_entry t k.place mine.entry e mine.stands may.parent

  pub room : c < length t
  room = let h = slice_get_within x.holders c (Some p) (was.holds c may.holds.2) in let g = rule.shape.holder_each in omega arith

  abbrev grown : Cells L
  grown = put r t c new

  may_put : MayPut r t new (origin k.place arc)
  may_put = record {
    fits = law.extension_fits e.label arc l (rule.shape.worked.sound.at_home k.place e may.parent).0 may.new.extends;
    kept = refl;
    origin_is = refl;
    origin_new = λ q d sd from. let h = mine.noted q d (origin k.place arc) sd from refl in omega arith;
    parent = (e, may.parent, may.new.extends);
    uncovered = subst (λ n. CoversNot r (entries_of t n) l) (sym may.new.cell_is) may.new.uncovered;
  }

  put_sound : IsSound r grown
  put_sound = subst (λ n. IsSound r (put r t n new)) may.new.cell_is (put_keeps r law t rule.shape.worked.sound new (origin k.place arc) may_put)

  not_fresh : (d : Entry L) → StandsAt grown k.place d → d.turn ≡ Fresh → ⊥
  not_fresh d sd fresh =
      let f = forth r t c new room k.place e may.parent in
      let same = same_entry grown k.place f.0 d f.1 sd in
      let turns : Claimed mine.number ≡ Fresh = sym mine.turn_is ∙ ap (λ (v : Entry L). v.turn) is_it ∙ sym f.4 ∙ ap (λ (v : Entry L). v.turn) same ∙ fresh in
      cc

  put_works : IsWorked r grown
  put_works = record {
    sound = put_sound;
    fated = λ q y fs sy is. ⊎_elim
        (λ (a : (q ≡ there) × (y ≡ new)). absurd (let h = ap (λ (v : Entry L). v.turn) (sym a.1) ∙ is in cc))
        (λ (o : Old r t c new room q y).
        let all = rule.shape.worked.fated q o.0 fs o.1 (sym o.4 ∙ is) in
        subst (λ m. (length fs ≡ r.degree m) × AreLegal r grown m fs) (sym o.2) (all.0, all_legal_still r t grown (stays r t c new room) o.0.label fs all.1))
        (back r t c new room q y sy);
    parents = λ q y o d sy from sd is. ⊎_elim
        (λ (a : (q ≡ there) × (y ≡ new)).
        let h = some_same (origin k.place arc) o (ap (λ (v : Entry L). v.origin) (sym a.1) ∙ from) in
        not_fresh d (subst (λ (v : Place). StandsAt grown v d) (sym (ap (λ (v : Origin). v.parent) h)) sd) is)
        (λ (b : Old r t c new room q y).
        let up = rule.shape.worked.sound.labels.extended q b.0 o b.1 (sym b.3 ∙ from) in
        let f = forth r t c new room o.parent up.0 up.1 in
        let same = same_entry grown o.parent f.0 d f.1 sd in
        rule.shape.worked.parents q b.0 o up.0 b.1 (sym b.3 ∙ from) up.1 (sym f.4 ∙ ap (λ (v : Entry L). v.turn) same ∙ is))
        (back r t c new room q y sy);
  }

  -- the new entry covers the extension
  covers_itself : IsLegal r grown e.label arc (At there)
  covers_itself = (l, may.new.extends, new, new_stands r t c new room, law.reflexive l may_put.fits)

  all_noted : AreLegal r grown e.label noted_claim.fates
  all_noted =
      let old : AreLegal r t e.label (k.fates ++ fates) = legal_append r x s e.label k.fates fates (subst (λ (v : Entry L). AreLegal r t v.label k.fates) is_it mine.legal) may.new.legal in
      let still = all_legal_still r t grown (stays r t c new room) e.label (k.fates ++ fates) old in
      (λ n f h. ⊎_elim
      (λ a. still n f a)
      (λ (b : (n ≡ length (k.fates ++ fates)) × (At there ≡ f)).
      subst (λ m. IsLegal r grown e.label m f) (sym (b.0 ∙ length-append k.fates fates)) (subst (λ g. IsLegal r grown e.label arc g) b.1 covers_itself))
      (front_or_end (k.fates ++ fates) (At there) f n h))

  count_noted : length noted_claim.fates ≡ arc + 1
  count_noted =
      let a : length noted_claim.fates ≡ length (k.fates ++ fates) + 1 = length-append (k.fates ++ fates) (At there ∷ []) in
      let b = length-append k.fates fates in
      omega arith

  claim_grown : IsClaim r grown noted_claim
  claim_grown = let f = forth r t c new room k.place e may.parent in record {
    entry = f.0;
    number = mine.number;
    stands = f.1;
    turn_is = f.4 ∙ ap (λ (v : Entry L). v.turn) (sym is_it) ∙ mine.turn_is;
    legal = subst (λ m. AreLegal r grown m noted_claim.fates) (sym f.2) all_noted;
    within = subst (λ m. length noted_claim.fates ≤ r.degree m) (sym f.2) (let h = may.new.extends.0 in let n = count_noted in omega arith);
    noted = λ q y o sy from is. ⊎_elim
        (λ (a : (q ≡ there) × (y ≡ new)).
        let h = ap (λ (v : Origin). v.arc) (some_same (origin k.place arc) o (ap (λ (v : Entry L). v.origin) (sym a.1) ∙ from)) in
        let n = count_noted in
        omega arith)
        (λ (b : Old r t c new room q y).
        let h = mine.noted q b.0 o b.1 (sym b.3 ∙ from) is in
        let n = count_noted in
        omega arith)
        (back r t c new room q y sy);
  }

  now_pass : IsPass r grown x.holders p now
  now_pass = record {
    heavy = was.heavy;
    empty = λ h. absurd (let n = sym may.holds.1 ∙ h in cc);
    numbered = λ h. absurd (let n = sym (was.numbered h).0 ∙ may.holds.2 in cc);
    ticket_held = λ _. refl;
    holds = was.holds;
    knows_each = λ h. length-set s.known c (size x c + 1) ∙ was.knows_each h ∙ sym (put_length r t c new room);
    knows_prefix = λ d. dite (ℕ_discrete d c)
        (λ is.
        let within : c < length s.known = let h = was.knows_each may.holds.1 in let n = room in omega arith in
        let g = get_or-set_same s.known c (size x c + 1) 0 within in
        subst (λ z. get_or (set s.known c (size x c + 1)) z 0 ≤ length (entries_of grown z)) (sym is) (let n = size_here r t c new room in omega arith))
        (λ n. let g = get_or-set_other s.known c d (size x c + 1) 0 n in let h = was.knows_prefix d in let m = size_else r t c new room d n in omega arith);
    claims = each_set (λ j h. IsClaim r grown h) s.claims i noted_claim claim_grown
        (λ j h n has. put_claim r t c new room k.place arc refl h (was.claims j h has) (own_elsewhere r x rule p i j s k h may.holds.0 may.claim_at n has));
  }

  pub put_entry_keeps : IsRuled r (after_put r x p c s i k fates l)
  put_entry_keeps = rule_changed r x rule p s now may.holds.0 grown x.holders x.numbers x.tickets
      (shape_changed r t x.holders x.passes rule.shape p s now may.holds.0 grown x.holders put_works
      (rule.shape.holder_each ∙ sym (put_length r t c new room))
      (λ d q h. ⊎_elim (λ (a : (q ≡ p) × (s.held ≡ Some d)). inl a) (λ n. inr (n, h))
      (held_by r t x.holders x.passes rule.shape p s s may.holds.0 d q h))
      now_pass
      (λ q v n old.
      let it = rule.shape.each q v old in
      pass_still r t grown x.holders x.holders q v it it.holds (put_length r t c new room) (size_grows r t c new room)
      (λ j h has. put_claim r t c new room k.place arc refl h (it.claims j h has) (others_elsewhere r x rule p i q j s v k h may.holds.0 may.claim_at n old has))))
      (λ q.
      let a = sum_set (counts q) s.claims i k noted_claim may.claim_at in
      let b = put_due r t c new room refl q in
      omega arith)
      refl
      (let a = put_count r t c new room in
      let b : in_hand s ≡ 1 = ap (λ b. let n : ℕ = cond b 1 0 in n) may.ticket in
      omega arith)
      (inr (omega arith))
