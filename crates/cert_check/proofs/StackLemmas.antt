-- What is written twice, or back as it was, leaves a place as it was; and so the frames bring everything back.
use Rattle.std.proofs.Common.{◌≡◌, ℕ, zero, suc, add-one, ◌+◌, ◌<◌, ◌≤◌, ℤ, pos, Bool, true, false, List, [], ◌∷◌, ◌++◌, length, reverse, take, get_or, inl, inr, refl, sym, ap, subst, ◌∙◌, arith, get_or-set_same}
use Rattle.std.specs.Prelude.{slice_set}
use Rattle.std.proofs.lemmas.List.{set-set, set-get_or}
use Rattle.std.proofs.lemmas.Bool.{cases_lt}
use Rattle.std.proofs.lemmas.List.{set_past, reverse-append}
use Rattle.route_model.specs.declared.multipliers.Quantity.{Quantity}
use Rattle.route_model.specs.declared.multipliers.Quantity.TheVariants.{Var, Row, Set, Cut, Paths}
use Rattle.route_model.specs.declared.places.Span.{Span}
use Rattle.route_model.specs.declared.places.Spot.{Spot}
use Rattle.route_model.specs.PlaceParts.{NamedArc, box_in, dropping, high_part, low_part, with_box}
use Rattle.route_model.specs.Places.{is_dropped, marks_of, span_at}
use Rattle.proof_rules.specs.Nodes.{AtCounts, AtPlace, Item}
use Rattle.cert_check.specs.declared.stack.Frame.{Frame}
use Rattle.cert_check.specs.declared.stack.Frame.TheVariants.{Upper, Whole, Dropped, UpperCount, WholeCount}
use Rattle.cert_check.specs.declared.stack.Listed.{Listed}
use Rattle.cert_check.specs.Frames.{open_below, walks_said, with_mark}

-- a box that is written twice, and one that is written back
pub box_twice : (spot : Spot) (q : Quantity) (first then : Span) → with_box (with_box spot q first) q then ≡ with_box spot q then
box_twice spot (Var j) first then = ap (λ (spans : List Span). record spot { boxes = record spot.boxes { vars = spans } }) (set-set spot.boxes.vars j first then)
box_twice spot (Paths g) first then = ap (λ (spans : List Span). record spot { boxes = record spot.boxes { paths = spans } }) (set-set spot.boxes.paths g first then)
box_twice spot (Row i) first then = refl
box_twice spot (Set s) first then = refl
box_twice spot (Cut c) first then = refl

pub box_same : (spot : Spot) (q : Quantity) → with_box spot q (box_in spot q) ≡ spot
box_same spot (Var j) = ap (λ (spans : List Span). record spot { boxes = record spot.boxes { vars = spans } }) (set-get_or spot.boxes.vars j (record { low = pos 0; high = pos 0 }))
box_same spot (Paths g) = ap (λ (spans : List Span). record spot { boxes = record spot.boxes { paths = spans } }) (set-get_or spot.boxes.paths g (record { low = pos 0; high = pos 0 }))
box_same spot (Row i) = refl
box_same spot (Set s) = refl
box_same spot (Cut c) = refl

pub box_back : (spot : Spot) (q : Quantity) (span : Span) → with_box (with_box spot q span) q (box_in spot q) ≡ spot
box_back spot q span = box_twice spot q span (box_in spot q) ∙ box_same spot q

-- the same of marks
marks_twice : (fixed : List (List Bool)) (g a : ℕ) (first then : Bool)
    → slice_set (slice_set fixed g (slice_set (marks_of fixed g) a first)) g (slice_set (marks_of (slice_set fixed g (slice_set (marks_of fixed g) a first)) g) a then)
    ≡ slice_set fixed g (slice_set (marks_of fixed g) a then)
marks_twice fixed g a first then =
    let one : List Bool = slice_set (marks_of fixed g) a first in
    elim (cases_lt g (length fixed)) [
      | inl below ↦
          ap (λ (marks : List Bool). slice_set (slice_set fixed g one) g (slice_set marks a then)) (get_or-set_same fixed g one [] below)
          ∙ (set-set fixed g one (slice_set one a then) ∙ ap (λ (marks : List Bool). slice_set fixed g marks) (set-set (marks_of fixed g) a first then))
      | inr past ↦
          set_past (slice_set fixed g one) g (slice_set (marks_of (slice_set fixed g one) g) a then) (subst (λ (xs : List (List Bool)). length xs ≤ g) (sym (set_past fixed g one past)) past)
          ∙ (set_past fixed g one past ∙ sym (set_past fixed g (slice_set (marks_of fixed g) a then) past))
    ]

pub mark_twice : (spot : Spot) (g a : ℕ) (first then : Bool) → with_mark (with_mark spot g a first) g a then ≡ with_mark spot g a then
mark_twice spot g a first then = ap (λ (fixed : List (List Bool)). record spot { fixed = fixed }) (marks_twice spot.fixed g a first then)

pub mark_same : (spot : Spot) (g a : ℕ) (mark : Bool) → is_dropped spot g a ≡ mark → with_mark spot g a mark ≡ spot
mark_same spot g a mark is =
    ap (λ (fixed : List (List Bool)). record spot { fixed = fixed })
    (ap (λ (marks : List Bool). slice_set spot.fixed g marks) (ap (λ (b : Bool). slice_set (marks_of spot.fixed g) a b) (sym is) ∙ set-get_or (marks_of spot.fixed g) a false)
    ∙ set-get_or spot.fixed g [])

pub mark_back : (spot : Spot) (g a : ℕ) → is_dropped spot g a ≡ false → with_mark (with_mark spot g a true) g a false ≡ spot
mark_back spot g a none = mark_twice spot g a true false ∙ mark_same spot g a false none

-- the last of the frames is the first that goes on
pub on_top : (spot : Spot) (walks : List Listed) (boxes : List Span) (frames new : List Frame) (frame : Frame) → new ≡ frames ++ frame ∷ []
    → open_below spot walks boxes (reverse new) ≡ open_below spot walks boxes (frame ∷ reverse frames)
on_top spot walks boxes frames new frame is = ap (λ (fs : List Frame). open_below spot walks boxes (reverse fs)) is ∙ ap (open_below spot walks boxes) (reverse-append frames (frame ∷ []))

-- arcs that are dropped one after the other
drop_next : (spot : Spot) (arcs : List NamedArc) (k : ℕ) (d : NamedArc) → k < length arcs
    → dropping spot (take (suc k) arcs) ≡ with_mark (dropping spot (take k arcs)) (get_or arcs k d).0 (get_or arcs k d).1 true
drop_next spot [] k d below = absurd (omega (arith, below))
drop_next spot ((g, a) ∷ arcs) zero d below = refl
drop_next spot ((g, a) ∷ arcs) (suc k) d below = drop_next (with_mark spot g a true) arcs k d (omega (arith, below))

pub drop_more : (spot : Spot) (arcs : List NamedArc) (k : ℕ) (d : NamedArc) → k < length arcs
    → dropping spot (take (k + 1) arcs) ≡ with_mark (dropping spot (take k arcs)) (get_or arcs k d).0 (get_or arcs k d).1 true
drop_more spot arcs k d below = rw add-one (drop_next spot arcs k d below)

-- what is open after a split: its two parts, and what was left
two_places : (a b c d : Spot) (walks : List Listed) (boxes : List Span) (frames : List Frame) (first : Item) → a ≡ b → c ≡ d
    → ◌≡◌ {A = List Item} (first ∷ AtPlace a ∷ open_below c walks boxes frames) (first ∷ AtPlace b ∷ open_below d walks boxes frames)
two_places a b c d walks boxes frames first e f = cc

pub split_opens : (spot next : Spot) (walks : List Listed) (boxes : List Span) (q : Quantity) (d : ℤ) (frames new : List Frame)
    → new ≡ frames ++ Upper q (box_in spot q) (high_part (box_in spot q) d) ∷ [] → next ≡ with_box spot q (low_part (box_in spot q) d)
    → ◌≡◌ {A = List Item} (AtPlace next ∷ open_below next walks boxes (reverse new))
    (AtPlace (with_box spot q (low_part (box_in spot q) d)) ∷ AtPlace (with_box spot q (high_part (box_in spot q) d)) ∷ open_below spot walks boxes (reverse frames))
split_opens spot next walks boxes q d frames new is at =
    let low : Spot = with_box spot q (low_part (box_in spot q) d) in
    let frame : Frame = Upper q (box_in spot q) (high_part (box_in spot q) d) in
    ap (λ (items : List Item). AtPlace next ∷ items) (on_top next walks boxes frames new frame is)
    ∙ (ap (λ (s : Spot). AtPlace s ∷ open_below s walks boxes (frame ∷ reverse frames)) at
    ∙ two_places _ _ _ _ walks boxes (reverse frames) (AtPlace low) (box_twice spot q (low_part (box_in spot q) d) (high_part (box_in spot q) d)) (box_back spot q (low_part (box_in spot q) d)))

-- the same of a count
two_counts : (spot : Spot) (walks : List Listed) (a b c d : List Span) (frames : List Frame) (first : Item) → a ≡ b → c ≡ d
    → ◌≡◌ {A = List Item} (first ∷ AtCounts spot (walks_said walks) a ∷ open_below spot walks c frames) (first ∷ AtCounts spot (walks_said walks) b ∷ open_below spot walks d frames)
two_counts spot walks a b c d frames first e f = cc

pub span_back : (spans : List Span) (k : ℕ) (span : Span) → slice_set (slice_set spans k span) k (span_at spans k) ≡ spans
span_back spans k span = set-set spans k span (span_at spans k) ∙ set-get_or spans k (record { low = pos 0; high = pos 0 })

pub count_opens : (spot : Spot) (walks : List Listed) (boxes next : List Span) (i : ℕ) (d : ℤ) (frames new : List Frame)
    → new ≡ frames ++ UpperCount i (span_at boxes i) (high_part (span_at boxes i) d) ∷ [] → next ≡ slice_set boxes i (low_part (span_at boxes i) d)
    → ◌≡◌ {A = List Item} (AtCounts spot (walks_said walks) next ∷ open_below spot walks next (reverse new))
    (AtCounts spot (walks_said walks) (slice_set boxes i (low_part (span_at boxes i) d)) ∷ AtCounts spot (walks_said walks) (slice_set boxes i (high_part (span_at boxes i) d)) ∷ open_below spot walks boxes (reverse frames))
count_opens spot walks boxes next i d frames new is at =
    let low : List Span = slice_set boxes i (low_part (span_at boxes i) d) in
    let frame : Frame = UpperCount i (span_at boxes i) (high_part (span_at boxes i) d) in
    ap (λ (items : List Item). AtCounts spot (walks_said walks) next ∷ items) (on_top spot walks next frames new frame is)
    ∙ (ap (λ (s : List Span). AtCounts spot (walks_said walks) s ∷ open_below spot walks s (frame ∷ reverse frames)) at
    ∙ two_counts spot walks _ _ _ _ (reverse frames) (AtCounts spot (walks_said walks) low) (set-set boxes i (low_part (span_at boxes i) d) (high_part (span_at boxes i) d)) (span_back boxes i (low_part (span_at boxes i) d)))

-- a dropped arc comes back
pub drop_keeps : (spot next : Spot) (walks : List Listed) (boxes : List Span) (g a : ℕ) (frames new : List Frame) → is_dropped spot g a ≡ false
    → new ≡ frames ++ Dropped g a ∷ [] → next ≡ with_mark spot g a true → open_below next walks boxes (reverse new) ≡ open_below spot walks boxes (reverse frames)
drop_keeps spot next walks boxes g a frames new none is at =
    on_top next walks boxes frames new (Dropped g a) is
    ∙ (ap (λ (s : Spot). open_below (with_mark s g a false) walks boxes (reverse frames)) at ∙ ap (λ (s : Spot). open_below s walks boxes (reverse frames)) (mark_back spot g a none))

-- the waiting part of a box is open, and then the whole box comes back
pub upper_opens : (spot next : Spot) (walks : List Listed) (boxes : List Span) (q : Quantity) (span part : Span) (frames new : List Frame)
    → new ≡ frames ++ Whole q span ∷ [] → next ≡ with_box spot q part
    → ◌≡◌ {A = List Item} (AtPlace (with_box spot q part) ∷ open_below (with_box spot q span) walks boxes (reverse frames)) (AtPlace next ∷ open_below next walks boxes (reverse new))
upper_opens spot next walks boxes q span part frames new is at =
    sym (ap (λ (items : List Item). AtPlace next ∷ items) (on_top next walks boxes frames new (Whole q span) is)
    ∙ (ap (λ (s : Spot). AtPlace s ∷ open_below (with_box s q span) walks boxes (reverse frames)) at
    ∙ ap (λ (s : Spot). AtPlace (with_box spot q part) ∷ open_below s walks boxes (reverse frames)) (box_twice spot q part span)))

pub upper_counts : (spot : Spot) (walks : List Listed) (boxes next : List Span) (i : ℕ) (span part : Span) (frames new : List Frame)
    → new ≡ frames ++ WholeCount i span ∷ [] → next ≡ slice_set boxes i part
    → ◌≡◌ {A = List Item} (AtCounts spot (walks_said walks) (slice_set boxes i part) ∷ open_below spot walks (slice_set boxes i span) (reverse frames))
    (AtCounts spot (walks_said walks) next ∷ open_below spot walks next (reverse new))
upper_counts spot walks boxes next i span part frames new is at =
    sym (ap (λ (items : List Item). AtCounts spot (walks_said walks) next ∷ items) (on_top spot walks next frames new (WholeCount i span) is)
    ∙ (ap (λ (s : List Span). AtCounts spot (walks_said walks) s ∷ open_below spot walks (slice_set s i span) (reverse frames)) at
    ∙ ap (λ (s : List Span). AtCounts spot (walks_said walks) (slice_set boxes i part) ∷ open_below spot walks s (reverse frames)) (set-set boxes i part span)))

-- a frame of equal boxes
pub upper_is : (q : Quantity) (s t part : Span) (d e : ℤ) → s ≡ t → part ≡ high_part s d → d ≡ e → Upper q s part ≡ Upper q t (high_part t e)
upper_is q s t part d e same is at =
    let parts : part ≡ high_part t e = is ∙ (λ j. high_part (same j) (at j)) in
    λ i. Upper q (same i) (parts i)

pub upper_count_is : (k : ℕ) (s t part : Span) (d e : ℤ) → s ≡ t → part ≡ high_part s d → d ≡ e → UpperCount k s part ≡ UpperCount k t (high_part t e)
upper_count_is k s t part d e same is at =
    let parts : part ≡ high_part t e = is ∙ (λ j. high_part (same j) (at j)) in
    λ i. UpperCount k (same i) (parts i)

pub low_is : (s t part : Span) (d e : ℤ) → s ≡ t → part ≡ low_part s d → d ≡ e → part ≡ low_part t e
low_is s t part d e same is at = is ∙ (λ j. low_part (same j) (at j))
