-- The opening state meets the rule.
use Rattle.std.proofs.Common.{◌≡◌, ℕ, zero, suc, ◌≤◌, Option, Some, None, List, [], ◌∷◌, length, replicate, get_or, refl, sym, ap, ◌∙◌, subst, arith}
use Rattle.std.proofs.lemmas.List.{length-set, length-replicate}
use Rattle.std.proofs.lemmas.List.Sums.{sum_by-cons, sum_by-set}
use Rattle.std.specs.Prelude.{slice_get, sum_by}
use Rattle.label_space.specs.Rules.{Rules}
use Rattle.label_space.specs.Laws.{IsLawful}
use Rattle.label_core.specs.declared.table.Place.{Place}
use Rattle.label_core.specs.declared.table.Turn.TheVariants.{Fresh, Done}
use Rattle.label_core.specs.declared.table.Entry.{Entry}
use Rattle.label_core.specs.Tables.{Cells, entries_of, entry_count}
use Rattle.label_core.specs.Puts.{opening, fresh}
use Rattle.label_core.proofs.Lookup.{some_same}
use Rattle.label_core.proofs.Opening.{only_root, opening_is_sound}
use Rattle.label_core.specs.Steps.{first_pass, opened}
use Rattle.label_core.specs.Rule.{due, due_at, IsPass, IsRuled}

-- each item of a list of equal ones
replicate_same : {A : Type 0} (n i : ℕ) (a b : A) → slice_get (replicate n a) i ≡ Some b → a ≡ b
replicate_same zero i a b e = absurd (cc)
replicate_same (suc n) zero a b e = some_same a b e
replicate_same (suc n) (suc i) a b e = replicate_same n i a b e

replicate_or : {A : Type 0} (n i : ℕ) (a : A) → get_or (replicate n a) i a ≡ a
replicate_or zero i a = refl
replicate_or (suc n) zero a = refl
replicate_or (suc n) (suc i) a = replicate_or n i a

one_alone : {A : Type 0} (P : ℕ → A → Type 0) (a b : A) (i : ℕ) → slice_get (a ∷ []) i ≡ Some b → P 0 a → P i b
one_alone P a b zero e h = subst (λ z. P 0 z) (some_same a b e) h
one_alone P a b (suc i) e h = absurd (cc)

empty_count : (A : Type 0) (n : ℕ) → sum_by length (replicate n (let e : List A = [] in e)) ≡ 0
empty_count A zero = refl
empty_count A (suc n) =
    let h = sum_by-cons length (let e : List A = [] in e) (replicate n (let e : List A = [] in e)) in
    let k = empty_count A n in
    omega arith

module _ {L : Type 0} (r : Rules L) (law : IsLawful r) where
  root_count : entry_count (opening r) ≡ 1
  root_count =
      let empty : Cells L = replicate r.cells [] in
      let n = length-replicate r.cells (let e : List (Entry L) = [] in e) in
      let w = law.cell_within r.root law.root_fits in
      let h = sum_by-set length empty (r.cell r.root) (fresh r.root None ∷ []) [] (omega arith) in
      let k = empty_count (Entry L) r.cells in
      let g : length (get_or empty (r.cell r.root) []) ≡ 0 = ap (λ (es : List (Entry L)). length es) (replicate_or r.cells (r.cell r.root) []) in
      omega arith

  nothing_due : (q : Place) → due_at (opening r) q ≡ 0
  nothing_due q = one (slice_get (entries_of (opening r) q.cell) q.index) refl
    where
      one : (o : Option (Entry L)) → slice_get (entries_of (opening r) q.cell) q.index ≡ o → due o ≡ 0
      one None s = refl
      one (Some e) s = ap (λ (z : Entry L). due (Some z)) (only_root r law q e s).1

  opening_length : length (opening r) ≡ r.cells
  opening_length = length-set (replicate r.cells []) (r.cell r.root) (fresh r.root None ∷ []) ∙ length-replicate r.cells []

  pub opening_is_ruled : (limit weight : ℕ) → 1 ≤ limit → 1 ≤ weight → IsRuled r (opened r limit weight)
  opening_is_ruled limit weight some heavy = record {
    shape = record {
      worked = record {
        sound = opening_is_sound r law;
        fated = λ q e fates s is. absurd (let h = ap (λ (z : Entry L). z.turn) (only_root r law q e s).1 in let k : Fresh ≡ Done fates = sym h ∙ is in cc);
        parents = λ q e o d s from sd is. let h = ap (λ (z : Entry L). z.origin) (only_root r law q e s).1 in let k : None ≡ Some o = sym h ∙ from in cc;
      };
      holder_each = length-replicate r.cells None ∙ sym opening_length;
      holder = λ c p h. absurd (let k = replicate_same r.cells c None (Some p) h in cc);
      each = λ p s at. one_alone (λ q v. IsPass r (opening r) (replicate r.cells None) q v) (first_pass r.cells weight) s p at record {
        heavy = λ _. heavy;
        empty = λ e. absurd (cc);
        numbered = λ e. absurd (cc);
        ticket_held = λ _. refl;
        holds = λ c h. absurd (cc);
        knows_each = λ _. length-replicate r.cells 0 ∙ sym opening_length;
        knows_prefix = λ c. let h : get_or (first_pass r.cells weight).known c 0 ≡ 0 = replicate_or r.cells c 0 in omega arith;
        claims = λ i k h. absurd (cc);
      };
    };
    claimed_once = λ q. sym (nothing_due q);
    weights = omega arith;
    tickets = let h = root_count in omega arith;
    counter = omega arith;
  }
