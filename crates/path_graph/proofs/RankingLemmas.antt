-- Lemmas on the search for ranks: what each step keeps, and that less is left after it.
use Rattle.std.proofs.Common.{◌≡◌, ◌≢◌, ℕ, ◌<◌, ◌≤◌, ◌+◌, inl, inr, ◌⊎◌, List, [], ◌∷◌, ◌++◌, length, get_or, set, drop, reverse, refl, sym, ◌∙◌, ap, subst, arith, suc, zero, Bool, true, false, max, map, replicate, add-one}
use Rattle.std.specs.Prelude.{MatchBool, sum_by, All, slice_index}
use Rattle.std.proofs.lemmas.Bool.{cases_eq, cases_lt}
use Rattle.std.proofs.lemmas.List.{get_or-set_same, get_or-set_other, get_or_default, length-set, length_push, length-replicate, get_or-replicate, length-map, get_or-map, ext_get_or}
use Rattle.std.specs.List.{range_with_len}
use Rattle.std.proofs.lemmas.List.FromFn.{length-map-range_with_len, get_or-map-range_with_len}
use Rattle.std.proofs.lemmas.List.Sums.{sum_by-set}
use Rattle.std.proofs.lemmas.List.Elements.{All-nil, All-cons}
use Rattle.std.proofs.lemmas.Grind.{reverse_onto}
use Rattle.path_graph.specs.declared.parts.GraphArc.{GraphArc}
use Rattle.path_graph.specs.declared.ranking.Stage.{Stage}
use Rattle.path_graph.specs.declared.ranking.Stage.TheVariants.{New, Open, Ranked}
use Rattle.path_graph.specs.declared.ranking.Progress.{Progress}
use Rattle.path_graph.specs.declared.ranking.Ranking.{Ranking}
use Rattle.path_graph.specs.declared.parts.Ends.{Ends}
use Rattle.path_graph.specs.declared.parts.Vertex.{Vertex}
use Rattle.path_graph.specs.Fit.{PartsFit}
use Rattle.path_graph.specs.Parts.{arc_at, arcs_from, arcs_into, AreBetween}
use Rattle.path_graph.specs.Index.{IsIndexed}
use Rattle.path_graph.specs.Free.{is_free, IsFreePath, IsFreeCycle, HasNoFreeCycle, IsRank, free_depth}
use Rattle.path_graph.specs.Ranking.{progress_at, IsRankUpTo, IsProgress, AreProgress, LeadsBack, IsOn, IsSearch, IsResting, opening_left, vertex_left, IsRankedAt, GoesOn, HasEnded, advanced, opened, ranked, ClosesOver, IsNext, AreRanks}
use Rattle.path_graph.proofs.IndexLemmas.{few_into, into_at, are_between}
use Rattle.path_graph.proofs.FreeLemmas.{free_push, EndsBy, free_pop, is_pushed, into_contains, contains_into, rank_computed, ranked_ends_none, no_round}

-- ---- the stages differ

new_not_ranked : New ≡ Ranked → ⊥
new_not_ranked e = cc

new_not_open : New ≡ Open → ⊥
new_not_open e = cc

open_not_ranked : Open ≡ Ranked → ⊥
open_not_ranked e = cc

-- ---- the path back

back_push : (arcs : List GraphArc) (root : ℕ) (path : List ℕ) (v a : ℕ) → LeadsBack arcs root path v → a < length arcs → is_free (arc_at arcs a) ≡ true → (arc_at arcs a).head ≡ v → LeadsBack arcs root (path ++ a ∷ []) (arc_at arcs a).tail
back_push arcs root [] v a h l f e = (l, f, e ∙ sym h, refl)
back_push arcs root (b ∷ path) v a h l f e = (h.0, h.1, h.2, back_push arcs (arc_at arcs b).tail path v a h.3 l f e)

back_pop : (arcs : List GraphArc) (root : ℕ) (path : List ℕ) (a v : ℕ) → LeadsBack arcs root (path ++ a ∷ []) v → LeadsBack arcs root path (arc_at arcs a).head × (a < length arcs) × ((arc_at arcs a).tail ≡ v)
back_pop arcs root [] a v h = (sym h.2, h.0, h.3)
back_pop arcs root (b ∷ path) a v h =
    let more = back_pop arcs (arc_at arcs b).tail path a v h.3 in
    ((h.0, h.1, h.2, more.0), more.1, more.2)

on_push : (arcs : List GraphArc) (root : ℕ) (path : List ℕ) (a v : ℕ) → IsOn arcs root path v → IsOn arcs root (path ++ a ∷ []) v
on_push arcs root [] a v h = inl h
on_push arcs root (b ∷ path) a v (inl e) = inl e
on_push arcs root (b ∷ path) a v (inr h) = inr (on_push arcs (arc_at arcs b).tail path a v h)

on_end : (arcs : List GraphArc) (root : ℕ) (path : List ℕ) (a : ℕ) → IsOn arcs root (path ++ a ∷ []) (arc_at arcs a).tail
on_end arcs root [] a = inr refl
on_end arcs root (b ∷ path) a = inr (on_end arcs (arc_at arcs b).tail path a)

on_pop : (arcs : List GraphArc) (root : ℕ) (path : List ℕ) (a v : ℕ) → IsOn arcs root (path ++ a ∷ []) v → ((arc_at arcs a).tail ≡ v) ⊎ IsOn arcs root path v
on_pop arcs root [] a v (inl e) = inr e
on_pop arcs root [] a v (inr e) = inl e
on_pop arcs root (b ∷ path) a v (inl e) = inr (inl e)
on_pop arcs root (b ∷ path) a v (inr h) =
    elim (on_pop arcs (arc_at arcs b).tail path a v h) [ inl e ↦ inl e | inr k ↦ inr (inr k) ]

-- the part of the path after an arc begins at the arc's tail
pub back_after : (arcs : List GraphArc) (path : List ℕ) (root v i a : ℕ) → LeadsBack arcs root path v → i < length path → a ≡ get_or path i 0 → LeadsBack arcs (arc_at arcs a).tail (drop (i + 1) path) v
back_after arcs [] root v i a h l e = absurd (omega (arith, l))
back_after arcs (b ∷ path) root v zero a h l e = subst (λ (x : ℕ). LeadsBack arcs (arc_at arcs x).tail path v) (sym e) h.3
back_after arcs (b ∷ path) root v (suc i) a h l e =
    let more = back_after arcs path (arc_at arcs b).tail v i a h.3 (omega (arith, l)) e in
    rw add-one (rw add-one at more)

pub on_root : (arcs : List GraphArc) (path : List ℕ) (root v : ℕ) → IsOn arcs root path v → ((k : ℕ) → k < length path → (arc_at arcs (get_or path k 0)).tail ≢ v) → root ≡ v
on_root arcs [] root v h other = h
on_root arcs (a ∷ path) root v (inl e) other = e
on_root arcs (a ∷ path) root v (inr h) other =
    absurd (other zero (omega arith) (on_root arcs path (arc_at arcs a).tail v h (λ k l. other (suc k) (omega (arith, l)))))

pub back_below : (arcs : List GraphArc) (root : ℕ) (path : List ℕ) (v : ℕ) → LeadsBack arcs root path v → All (λ a. a < length arcs) path
back_below arcs root [] v h = All-nil (λ a. a < length arcs)
back_below arcs root (a ∷ path) v h = All-cons (λ b. b < length arcs) a path h.0 (back_below arcs (arc_at arcs a).tail path v h.3)

-- the path taken forward
pub forward : (arcs : List GraphArc) (root : ℕ) (path : List ℕ) (v : ℕ) → LeadsBack arcs root path v → IsFreePath arcs v (reverse path) root
forward arcs root [] v h = sym h
forward arcs root (a ∷ path) v h =
    let before = forward arcs (arc_at arcs a).tail path v h.3 in
    let whole = free_push arcs v (reverse path) a before h.0 h.1 in
    rw (reverse_onto path a []) (subst (λ (w : ℕ). IsFreePath arcs v (reverse path ++ a ∷ []) w) h.2 whole)

pub closes_cycle : (arcs : List GraphArc) (part : List ℕ) (a : ℕ) → LeadsBack arcs (arc_at arcs a).tail part (arc_at arcs a).head → a < length arcs → is_free (arc_at arcs a) ≡ true → IsFreeCycle arcs (reverse part ++ a ∷ [])
closes_cycle arcs part a h l f = record {
  vertex = (arc_at arcs a).head;
  some = omega (arith, length_push (reverse part) a);
  leads = free_push arcs (arc_at arcs a).head (reverse part) a (forward arcs (arc_at arcs a).tail part (arc_at arcs a).head h) l f;
}

-- ---- one vertex changed

at_same : (ps : List Progress) (v : ℕ) (p : Progress) → v < length ps → progress_at (set ps v p) v ≡ p
at_same ps v p l = get_or-set_same ps v p (record { stage = New; next = 0; rank = 0 }) l

at_other : (ps : List Progress) (v w : ℕ) (p : Progress) → w ≢ v → progress_at (set ps v p) w ≡ progress_at ps w
at_other ps v w p n = get_or-set_other ps v w p (record { stage = New; next = 0; rank = 0 }) n

set_progress : (arcs : List GraphArc) (ps : List Progress) (v : ℕ) (p : Progress) → AreProgress arcs ps → v < length ps → IsProgress arcs v p → AreProgress arcs (set ps v p)
set_progress arcs ps v p each l h w lw =
    elim (cases_eq w v) [
      | inl e ↦ subst (λ (x : ℕ). IsProgress arcs x (progress_at (set ps v p) x)) (sym e) (subst (λ (q : Progress). IsProgress arcs v q) (sym (at_same ps v p l)) h)
      | inr n ↦ subst (λ (q : Progress). IsProgress arcs w q) (sym (at_other ps v w p n)) (each w (omega (arith, lw, length-set ps v p)))
    ]

-- what holds of the stage after the change holds of the new stage, or held before
stage_cases : (ps : List Progress) (v w : ℕ) (p : Progress) (s : Stage) → v < length ps → (progress_at (set ps v p) w).stage ≡ s → ((w ≡ v) × (p.stage ≡ s)) ⊎ ((w ≢ v) × ((progress_at ps w).stage ≡ s))
stage_cases ps v w p s l h =
    elim (cases_eq w v) [
      | inl e ↦ inl (e, sym (ap (λ (q : Progress). q.stage) (ap (λ (x : ℕ). progress_at (set ps v p) x) e ∙ at_same ps v p l)) ∙ h)
      | inr n ↦ inr (n, sym (ap (λ (q : Progress). q.stage) (at_other ps v w p n)) ∙ h)
    ]

stage_set : (ps : List Progress) (v w : ℕ) (p : Progress) (s : Stage) → v < length ps → p.stage ≡ s → (progress_at ps w).stage ≡ s → (progress_at (set ps v p) w).stage ≡ s
stage_set ps v w p s l e h =
    elim (cases_eq w v) [
      | inl k ↦ ap (λ (q : Progress). q.stage) (ap (λ (x : ℕ). progress_at (set ps v p) x) k ∙ at_same ps v p l) ∙ e
      | inr n ↦ ap (λ (q : Progress). q.stage) (at_other ps v w p n) ∙ h
    ]

stage_keeps : (ps : List Progress) (v w : ℕ) (p : Progress) (s : Stage) → v < length ps → p.stage ≡ (progress_at ps v).stage → (progress_at ps w).stage ≡ s → (progress_at (set ps v p) w).stage ≡ s
stage_keeps ps v w p s l e h =
    elim (cases_eq w v) [
      | inl k ↦ ap (λ (q : Progress). q.stage) (ap (λ (x : ℕ). progress_at (set ps v p) x) k ∙ at_same ps v p l) ∙ (e ∙ (ap (λ (x : ℕ). (progress_at ps x).stage) (sym k) ∙ h))
      | inr n ↦ ap (λ (q : Progress). q.stage) (at_other ps v w p n) ∙ h
    ]

left_set : (arcs : List GraphArc) (ps : List Progress) (v : ℕ) (p : Progress) → v < length ps → sum_by (vertex_left arcs) (set ps v p) + vertex_left arcs (progress_at ps v) ≡ sum_by (vertex_left arcs) ps + vertex_left arcs p
left_set arcs ps v p l = sum_by-set (vertex_left arcs) ps v p (record { stage = New; next = 0; rank = 0 }) l

-- ---- the rank so far

pub rank_before : (arcs : List GraphArc) (v : ℕ) → IsRankUpTo arcs 0 v 0
rank_before arcs v = record { start = v; path = []; leads = refl; size = refl; longest = λ k u other l h. absurd (omega (arith, l)) }

-- an arc that is not free asks for nothing
pub rank_passed : (arcs : List GraphArc) (next v rank a : ℕ) → IsRankUpTo arcs next v rank → a ≡ slice_index (arcs_into arcs v) next → is_free (arc_at arcs a) ≡ false → IsRankUpTo arcs (next + 1) v rank
rank_passed arcs next v rank a h e f = record {
  start = h.start;
  path = h.path;
  leads = h.leads;
  size = h.size;
  longest = λ k u other l p. elim (cases_eq k next) [
    | inl s ↦ absurd (not_free (free_pop arcs u other a v (subst (λ (x : ℕ). IsFreePath arcs u (other ++ x ∷ []) v) (ap (λ (n : ℕ). slice_index (arcs_into arcs v) n) s ∙ sym e) p)))
    | inr n ↦ h.longest k u other (omega (arith, l, n)) p
  ];
}
  where
    not_free : {u : ℕ} {other : List ℕ} → EndsBy arcs u other a v → ⊥
    not_free ends = let both : true ≡ false = sym ends.free ∙ f in cc

longest_over : (arcs : List GraphArc) (next v rank a before new : ℕ) → IsRankUpTo arcs next v rank → a ≡ slice_index (arcs_into arcs v) next → IsRank arcs (arc_at arcs a).tail before → rank ≤ new → before + 1 ≤ new → (k u : ℕ) (other : List ℕ) → k < next + 1 → IsFreePath arcs u (other ++ slice_index (arcs_into arcs v) k ∷ []) v → length other < new
longest_over arcs next v rank a before new h e r low high k u other l p =
    elim (cases_eq k next) [
      | inl s ↦
          let ends = free_pop arcs u other a v (subst (λ (x : ℕ). IsFreePath arcs u (other ++ x ∷ []) v) (ap (λ (n : ℕ). slice_index (arcs_into arcs v) n) s ∙ sym e) p) in
          omega (arith, high, r.longest u other ends.front)
      | inr n ↦ omega (arith, low, h.longest k u other (omega (arith, l, n)) p)
    ]

-- a free arc from a ranked vertex asks for one more than its rank
pub rank_over : (arcs : List GraphArc) (next v rank a before : ℕ) → IsRankUpTo arcs next v rank → next < length (arcs_into arcs v) → a ≡ slice_index (arcs_into arcs v) next → is_free (arc_at arcs a) ≡ true → IsRank arcs (arc_at arcs a).tail before → IsRankUpTo arcs (next + 1) v (max rank (before + 1))
rank_over arcs next v rank a before h l e f r =
    elim (cases_lt before rank) [
      | inl small ↦ subst (λ (x : ℕ). IsRankUpTo arcs (next + 1) v x) (omega (arith, small)) (record {
        start = h.start;
        path = h.path;
        leads = h.leads;
        size = h.size;
        longest = longest_over arcs next v rank a before rank h e r (omega arith) (omega (arith, small));
      })
      | inr great ↦ subst (λ (x : ℕ). IsRankUpTo arcs (next + 1) v x) (omega (arith, great)) (record {
        start = r.start;
        path = r.path ++ a ∷ [];
        size = omega (arith, length_push r.path a, r.size);
        leads = subst (λ (w : ℕ). IsFreePath arcs r.start (r.path ++ a ∷ []) w) entered.1 (free_push arcs r.start r.path a r.leads entered.0 f);
        longest = longest_over arcs next v rank a before (before + 1) h e r (omega (arith, great)) (omega arith);
      })
    ]
  where
    entered : (a < length arcs) × ((arc_at arcs a).head ≡ v)
    entered = contains_into arcs a v (next, l, get_or_default (arcs_into arcs v) next a 0 l ∙ sym e)

-- all arcs were looked at
pub rank_whole : (arcs : List GraphArc) (next v rank : ℕ) → IsRankUpTo arcs next v rank → length (arcs_into arcs v) ≤ next → IsRank arcs v rank
rank_whole arcs next v rank h l = record {
  start = h.start;
  path = h.path;
  leads = h.leads;
  size = h.size;
  longest = λ u other p. elim (is_pushed other) [
    | inl e ↦ omega (arith, ap (λ (xs : List ℕ). length xs) e)
    | inr s ↦
        let leads = subst (λ (xs : List ℕ). IsFreePath arcs u xs v) s.2 p in
        let ends = free_pop arcs u s.0 s.1 v leads in
        let among = into_contains arcs s.1 v ends.within ends.head in
        let long = h.longest among.0 u s.0 (omega (arith, among.1, l)) (subst (λ (x : ℕ). IsFreePath arcs u (s.0 ++ x ∷ []) v) (sym among.2 ∙ get_or_default (arcs_into arcs v) among.0 s.1 0 among.1) leads) in
        omega (arith, long, ap (λ (xs : List ℕ). length xs) s.2, length_push s.0 s.1)
  ];
}

-- ---- the steps

pub start_rests : (arcs : List GraphArc) (count : ℕ) (r : Ranking) → r.progress ≡ replicate count (record { stage = New; next = 0; rank = 0 }) → r.path ≡ [] → IsResting arcs count r
start_rests arcs count r e p =
    let new : Progress = record { stage = New; next = 0; rank = 0 } in
    let size : length r.progress ≡ count = ap (λ (ps : List Progress). length ps) e ∙ length-replicate count new in
    let at = λ (v : ℕ) (l : v < count). ap (λ (ps : List Progress). progress_at ps v) e ∙ get_or-replicate count v new new l in
    record {
      size = size;
      each = λ v l. subst (λ (q : Progress). IsProgress arcs v q) (sym (at v (omega (arith, l, size)))) (record {
        within = omega arith;
        up_to = rank_before arcs v;
        ranked = λ s. absurd (new_not_ranked s);
      });
      closed = λ v l s. new_not_open (sym (ap (λ (q : Progress). q.stage) (at v l)) ∙ s);
      no_path = p;
    }

-- the next arc is passed
pub advance_goes_on : (arcs : List GraphArc) (count : ℕ) (r : Ranking) (a rank : ℕ) → IsSearch arcs count r → IsNext arcs r a → IsRankUpTo arcs ((progress_at r.progress r.vertex).next + 1) r.vertex rank → (progress_at r.progress r.vertex).rank ≤ rank → GoesOn arcs count r (advanced r rank)
advance_goes_on arcs count r a rank h n up low =
    let p = progress_at r.progress r.vertex in
    let q : Progress = record p { next = p.next + 1; rank = rank } in
    let within : r.vertex < length r.progress = omega (arith, h.stands, h.size) in
    let old = h.each r.vertex within in
    let same : p.stage ≡ Ranked → rank ≡ p.rank = λ s. (let most = (old.ranked s).longest up.start up.path up.leads in omega (arith, most, low, up.size)) in
    record {
      search = record {
        size = length-set r.progress r.vertex _ ∙ h.size;
        stands = h.stands;
        each = set_progress arcs r.progress r.vertex q h.each within (record {
          within = omega (arith, n.within);
          up_to = up;
          ranked = λ s. subst (λ (x : ℕ). IsRank arcs r.vertex x) (sym (same s)) (old.ranked s);
        });
        back = h.back;
        on_path = λ v lv s. elim (stage_cases r.progress r.vertex v q Open within s) [
          | inl e ↦ h.on_path v lv (ap (λ (x : ℕ). (progress_at r.progress x).stage) e.0 ∙ e.1)
          | inr e ↦ h.on_path v lv e.1
        ];
      };
      kept = λ v s. stage_keeps r.progress r.vertex v q Ranked within refl s;
      root = refl;
      less = omega (arith, left_set arcs r.progress r.vertex q within, n.within, few_into arcs r.vertex);
    }

-- an arc is taken back to its tail, which is new
pub open_goes_on : (arcs : List GraphArc) (count : ℕ) (r : Ranking) (a : ℕ) → IsSearch arcs count r → a < length arcs → is_free (arc_at arcs a) ≡ true → (arc_at arcs a).head ≡ r.vertex → (arc_at arcs a).tail < count → (progress_at r.progress (arc_at arcs a).tail).stage ≡ New → GoesOn arcs count r (opened r a (arc_at arcs a).tail)
open_goes_on arcs count r a h l f e t s =
    let tail = (arc_at arcs a).tail in
    let p = progress_at r.progress tail in
    let q : Progress = record p { stage = Open } in
    let within : tail < length r.progress = omega (arith, t, h.size) in
    let old = h.each tail within in
    record {
      search = record {
        size = length-set r.progress tail _ ∙ h.size;
        stands = t;
        each = set_progress arcs r.progress tail q h.each within (record {
          within = old.within;
          up_to = old.up_to;
          ranked = λ x. absurd (open_not_ranked x);
        });
        back = back_push arcs r.root r.path r.vertex a h.back l f e;
        on_path = λ v lv x. elim (stage_cases r.progress tail v q Open within x) [
          | inl k ↦ subst (λ (w : ℕ). IsOn arcs r.root (r.path ++ a ∷ []) w) (sym k.0) (on_end arcs r.root r.path a)
          | inr k ↦ on_push arcs r.root r.path a v (h.on_path v lv k.1)
        ];
      };
      kept = λ v x. elim (cases_eq v tail) [
        | inl k ↦ absurd (new_not_ranked (sym s ∙ (sym (ap (λ (w : ℕ). (progress_at r.progress w).stage) k) ∙ x)))
        | inr k ↦ ap (λ (y : Progress). y.stage) (at_other r.progress tail v q k) ∙ x
      ];
      root = refl;
      less = omega (arith, left_set arcs r.progress tail q within, ap (λ (x : Stage). opening_left x) s, length_push r.path a);
    }

-- the vertex is ranked
ranked_progress : (arcs : List GraphArc) (count : ℕ) (r : Ranking) → IsSearch arcs count r → length (arcs_into arcs r.vertex) ≤ (progress_at r.progress r.vertex).next → AreProgress arcs (ranked r).progress
ranked_progress arcs count r h l =
    let p = progress_at r.progress r.vertex in
    let within : r.vertex < length r.progress = omega (arith, h.stands, h.size) in
    let old = h.each r.vertex within in
    set_progress arcs r.progress r.vertex (record p { stage = Ranked }) h.each within (record {
      within = old.within;
      up_to = old.up_to;
      ranked = λ s. rank_whole arcs p.next r.vertex p.rank old.up_to l;
    })

pub close_goes_on : (arcs : List GraphArc) (count : ℕ) (r new : Ranking) → AreBetween count arcs → IsSearch arcs count r → length (arcs_into arcs r.vertex) ≤ (progress_at r.progress r.vertex).next → ClosesOver arcs r new → GoesOn arcs count r new
close_goes_on arcs count r new between h l c =
    let p = progress_at r.progress r.vertex in
    let q : Progress = record p { stage = Ranked } in
    let within : r.vertex < length r.progress = omega (arith, h.stands, h.size) in
    let popped = back_pop arcs r.root c.front c.last r.vertex (subst (λ (xs : List ℕ). LeadsBack arcs r.root xs r.vertex) c.path h.back) in
    let lies : ((arc_at arcs c.last).tail < count) × ((arc_at arcs c.last).head < count) = between c.last _ popped.1 in
    subst (λ (x : Ranking). GoesOn arcs count r x) (sym c.closed) (record {
      search = record {
        size = length-set r.progress r.vertex _ ∙ h.size;
        stands = lies.1;
        each = ranked_progress arcs count r h l;
        back = popped.0;
        on_path = λ v lv s. elim (stage_cases r.progress r.vertex v q Open within s) [
          | inl e ↦ absurd (open_not_ranked (sym e.1))
          | inr e ↦ elim (on_pop arcs r.root c.front c.last v (subst (λ (xs : List ℕ). IsOn arcs r.root xs v) c.path (h.on_path v lv e.1))) [
            | inl k ↦ absurd (e.0 (sym k ∙ popped.2))
            | inr k ↦ k
          ]
        ];
      };
      kept = λ v s. stage_set r.progress r.vertex v q Ranked within refl s;
      root = refl;
      less = omega (arith, left_set arcs r.progress r.vertex q within, ap (λ (xs : List ℕ). length xs) c.path, length_push c.front c.last);
    })

pub close_ends : (arcs : List GraphArc) (count : ℕ) (r new : Ranking) → IsSearch arcs count r → length (arcs_into arcs r.vertex) ≤ (progress_at r.progress r.vertex).next → (r.path ≡ []) × (new ≡ ranked r) → HasEnded arcs count r new
close_ends arcs count r new h l c =
    let p = progress_at r.progress r.vertex in
    let q : Progress = record p { stage = Ranked } in
    let within : r.vertex < length r.progress = omega (arith, h.stands, h.size) in
    let root : r.root ≡ r.vertex = subst (λ (xs : List ℕ). LeadsBack arcs r.root xs r.vertex) c.0 h.back in
    subst (λ (x : Ranking). HasEnded arcs count r x) (sym c.1) (record {
      resting = record {
        size = length-set r.progress r.vertex _ ∙ h.size;
        each = ranked_progress arcs count r h l;
        closed = λ v lv s. elim (stage_cases r.progress r.vertex v q Open within s) [
          | inl e ↦ open_not_ranked (sym e.1)
          | inr e ↦ e.0 (sym (subst (λ (xs : List ℕ). IsOn arcs r.root xs v) c.0 (h.on_path v lv e.1)) ∙ root)
        ];
        no_path = c.0;
      };
      root = ap (λ (v : ℕ). (progress_at (set r.progress r.vertex q) v).stage) root ∙ ap (λ (y : Progress). y.stage) (at_same r.progress r.vertex q within);
      kept = λ v s. stage_set r.progress r.vertex v q Ranked within refl s;
    })

-- ---- the steps as the code makes them

pub tail_there : (arcs : List GraphArc) (count a : ℕ) → AreBetween count arcs → a < length arcs → (arc_at arcs a).tail < count
tail_there arcs count a between l = let lies : ((arc_at arcs a).tail < count) × ((arc_at arcs a).head < count) = between a _ l in lies.0

pub before_ranked : (arcs : List GraphArc) (count : ℕ) (r : Ranking) (v : ℕ) (p : Progress) → IsSearch arcs count r → v < count → progress_at r.progress v ≡ p → p.stage ≡ Ranked → IsRank arcs v p.rank
before_ranked arcs count r v p h l e s =
    let within : v < length r.progress = omega (arith, l, h.size) in
    subst (λ (q : Progress). IsRank arcs v q.rank) e ((h.each v within).ranked (ap (λ (q : Progress). q.stage) e ∙ s))

pub next_is : (arcs : List GraphArc) (r : Ranking) (into : List ℕ) (p : Progress) → length arcs ≤ 60000 → into ≡ arcs_into arcs r.vertex → p ≡ progress_at r.progress r.vertex → p.next < length into → IsNext arcs r (get_or into p.next 0)
next_is arcs r into p few e at l =
    let a = get_or into p.next 0 in
    let next = (progress_at r.progress r.vertex).next in
    let same : p.next ≡ next = ap (λ (q : Progress). q.next) at in
    let arc : a ≡ get_or (arcs_into arcs r.vertex) next 0 = ap (λ (xs : List ℕ). get_or xs p.next 0) e ∙ ap (λ (n : ℕ). get_or (arcs_into arcs r.vertex) n 0) same in
    let within : next < length (arcs_into arcs r.vertex) = omega (arith, l, same, ap (λ (xs : List ℕ). length xs) e) in
    let there = into_at arcs r.vertex next within in
    record {
      within = within;
      arc = arc;
      there = subst (λ (x : ℕ). x < length arcs) (sym arc) there.0;
      enters = subst (λ (x : ℕ). (arc_at arcs x).head ≡ r.vertex) (sym arc) there.1;
      few = omega (arith, within, few_into arcs r.vertex, few);
    }

pub pass_by : (arcs : List GraphArc) (count : ℕ) (r : Ranking) (a : ℕ) → IsSearch arcs count r → IsNext arcs r a → is_free (arc_at arcs a) ≡ false → GoesOn arcs count r (advanced r (progress_at r.progress r.vertex).rank)
pass_by arcs count r a h n f =
    let p = progress_at r.progress r.vertex in
    let within : r.vertex < length r.progress = omega (arith, h.stands, h.size) in
    advance_goes_on arcs count r a p.rank h n (rank_passed arcs p.next r.vertex p.rank a (h.each r.vertex within).up_to n.arc f) (omega arith)

pub pass_over : (arcs : List GraphArc) (count : ℕ) (r : Ranking) (a before : ℕ) → IsSearch arcs count r → IsNext arcs r a → is_free (arc_at arcs a) ≡ true → IsRank arcs (arc_at arcs a).tail before → GoesOn arcs count r (advanced r (max (progress_at r.progress r.vertex).rank (before + 1)))
pass_over arcs count r a before h n f rank =
    let p = progress_at r.progress r.vertex in
    let within : r.vertex < length r.progress = omega (arith, h.stands, h.size) in
    advance_goes_on arcs count r a (max p.rank (before + 1)) h n (rank_over arcs p.next r.vertex p.rank a before (h.each r.vertex within).up_to n.within n.arc f rank) (omega arith)

pub closes : (arcs : List GraphArc) (count : ℕ) (r new : Ranking) (more : Bool) → AreBetween count arcs → IsSearch arcs count r → length (arcs_into arcs r.vertex) ≤ (progress_at r.progress r.vertex).next → MatchBool more (ClosesOver arcs r new) ((r.path ≡ []) × (new ≡ ranked r)) → MatchBool more (GoesOn arcs count r new) (HasEnded arcs count r new)
closes arcs count r new true between h l c = close_goes_on arcs count r new between h l c
closes arcs count r new false between h l c = close_ends arcs count r new h l c

-- ---- the ranks

pub all_ranked : (arcs : List GraphArc) (count : ℕ) (r : Ranking) (ranks : List ℕ) → IsResting arcs count r → ((v : ℕ) → v < count → IsRankedAt r v) → ranks ≡ map (λ (p : Progress). p.rank) r.progress → AreRanks arcs count ranks
all_ranked arcs count r ranks h done e =
    let size = ap (λ (xs : List ℕ). length xs) e ∙ (length-map r.progress (λ (p : Progress). p.rank) ∙ h.size) in
    record {
      size = size;
      each = λ v l.
          let within : v < length r.progress = omega (arith, l, h.size) in
          let at : get_or ranks v 0 ≡ (progress_at r.progress v).rank = ap (λ (xs : List ℕ). get_or xs v 0) e ∙ get_or-map (λ (p : Progress). p.rank) r.progress v (record { stage = New; next = 0; rank = 0 }) 0 within in
          subst (λ (x : ℕ). IsRank arcs v x) (sym at) ((h.each v within).ranked (done v l));
    }

pub ranked_acyclic : (arcs : List GraphArc) (count : ℕ) (ranks : List ℕ) → AreBetween count arcs → AreRanks arcs count ranks → HasNoFreeCycle arcs
ranked_acyclic arcs count ranks between h cycle found =
    let there : found.vertex < count = begins cycle found.some found.leads in
    let none = ranked_ends_none arcs found.vertex (get_or ranks found.vertex 0) (h.each found.vertex there) in
    no_round arcs found.vertex cycle none found.some found.leads
  where
    begins : {v : ℕ} (xs : List ℕ) → 1 ≤ length xs → IsFreePath arcs v xs v → v < count
    begins [] some leads = absurd (omega (arith, some))
    begins (a ∷ xs) some leads =
        let lies : ((arc_at arcs a).tail < count) × ((arc_at arcs a).head < count) = between a _ leads.0 in
        omega (arith, lies.0, leads.2)

pub indexed_of : (ends : Ends) (vertices kept : List Vertex) (arcs kept_arcs : List GraphArc) (from into : List (List ℕ)) (ranks : List ℕ) → PartsFit ends vertices arcs → kept ≡ vertices → kept_arcs ≡ arcs → from ≡ map (arcs_from arcs) (range_with_len 0 (length vertices)) → into ≡ map (arcs_into arcs) (range_with_len 0 (length vertices)) → AreRanks arcs (length vertices) ranks → IsIndexed (record { ends = ends; vertices = kept; arcs = kept_arcs }) from into ranks
indexed_of ends vertices kept arcs kept_arcs from into ranks fit ev ea ef ei h =
    let count = length vertices in
    let between = are_between ends vertices arcs fit in
    let computed = λ (v : ℕ) (l : v < count). rank_computed count arcs v (get_or ranks v 0) between l (h.each v l) in
    let ranked : ranks ≡ map (free_depth arcs count) (range_with_len 0 count) =
    ext_get_or 0 ranks (map (free_depth arcs count) (range_with_len 0 count)) (h.size ∙ sym (length-map-range_with_len (free_depth arcs count) 0 count))
    (λ v l. computed v (omega (arith, l, h.size)) ∙ sym (get_or-map-range_with_len (free_depth arcs count) 0 count v v 0 (omega (arith, l, h.size)) (omega arith))) in
    subst (λ (vs : List Vertex). IsIndexed (record { ends = ends; vertices = vs; arcs = kept_arcs }) from into ranks) (sym ev)
    (subst (λ (xs : List GraphArc). IsIndexed (record { ends = ends; vertices = vertices; arcs = xs }) from into ranks) (sym ea) (record {
      graph = record { fits = fit; acyclic = ranked_acyclic arcs count ranks between h };
      from_each = ef;
      into_each = ei;
      ranked = ranked;
    }))
