-- What is read of the words of a row are its numbers.
use Rattle.std.proofs.Common.{◌≡◌, ℕ, ℤ, pos, neg_ℤ, negsuc, List, [], ◌∷◌, ◌++◌, refl, ap, ◌∙◌, Bool, true, false, Option, None, Some, Result, Ok, Err}
use Rattle.std.specs.Prelude.{int_lt, ◌||◌, unwrap_or, unsigned_abs}
use Rattle.vrp_lex.specs.Text.{number_of}
use Rattle.route_tasks.specs.declared.limits.TheConstants.{MAX_LOAD, MAX_TIME, MAX_SERVICE, MAX_NUMBER, MAX_VEHICLES}
use Rattle.route_tasks.specs.declared.task.Stop.{Stop}
use Rattle.route_texts.specs.declared.fault.RouteKind.{RouteKind}
use Rattle.route_texts.specs.declared.fault.RouteKind.TheVariants as kind
use Rattle.route_texts.specs.declared.stops.Point.{Point}
use Rattle.route_texts.specs.declared.vrptw_draft.Fleet.{Fleet}
use Rattle.route_texts.specs.declared.vrptw_draft.Times.{Times}
use Rattle.route_texts.specs.Words.{Words, Wants, and_then, ◌>>=◌, ◌>>◌, give, fault_if, limited, number_in, natural_in, all_taken, whole, after}
use Rattle.route_texts.specs.Vrptw.{fleet_wanted, new_number, point_wanted, times_wanted, stop_of, stop_wanted}
use Rattle.route_texts.specs.VrptwRows.{values_of, stop_row}

-- what was read first, and what then
pub record Split {A B : Type 0} (r : Result (A × Words) RouteKind) (next : A → Wants B) (y : B × Words) : Type 0 where
  pub got : A × Words
  pub first : r ≡ Ok got
  pub then_read : next got.0 got.1 ≡ Ok y

pub and_then-ok : {A B : Type 0} (r : Result (A × Words) RouteKind) (next : A → Wants B) (y : B × Words) → and_then r next ≡ Ok y → Split r next y
and_then-ok (Ok x) next y e = record { got = x; first = refl; then_read = e }
and_then-ok (Err k) next y e = cc

pub all_taken-ok : {A : Type 0} (r : Result (A × Words) RouteKind) (x : A) → all_taken r ≡ Ok x → r ≡ Ok (x, [])
all_taken-ok (Err k) x e = cc
all_taken-ok (Ok (y, [])) x e = cc
all_taken-ok (Ok (y, w ∷ words)) x e = cc

pub record Follows {A B : Type 0} (r : Result A RouteKind) (next : A → Result B RouteKind) (y : B) : Type 0 where
  pub got : A
  pub first : r ≡ Ok got
  pub then_read : next got ≡ Ok y

pub after-ok : {A B : Type 0} (r : Result A RouteKind) (next : A → Result B RouteKind) (y : B) → after r next ≡ Ok y → Follows r next y
after-ok (Ok x) next y e = record { got = x; first = refl; then_read = e }
after-ok (Err k) next y e = cc

pub ok_same : {A : Type 0} (a b : A) → ◌≡◌ {A = Result A RouteKind} (Ok a) (Ok b) → a ≡ b
ok_same a b e = cc

got_same : {A : Type 0} (x y : A) (r s : Words) → ◌≡◌ {A = Result (A × Words) RouteKind} (Ok (x, r)) (Ok (y, s)) → (x ≡ y) × (r ≡ s)
got_same {A} x y r s e =
    let p = ok_same (x, r) (y, s) e in
    (ap (λ (q : A × Words). q.0) p, ap (λ (q : A × Words). q.1) p)

-- what is told, and the numbers behind it
tell : {A : Type 0} (form : A → List ℤ) (x y : A) (r s : Words) → (x ≡ y) × (r ≡ s) → form x ++ values_of r ≡ form y ++ values_of s
tell form x y r s same = rw (same.0, same.1) refl

limited-ok : (low high : ℤ) (o : Option ℤ) (words : Words) (x : ℤ) (rest : Words) → limited low high o words ≡ Ok (x, rest) → (unwrap_or o (pos 0) ∷ values_of words) ≡ (x ∷ values_of rest)
limited-ok low high None words x rest e = cc
limited-ok low high (Some z) words x rest e = by_test (int_lt z low || int_lt high z) refl
  where
    by_test : (b : Bool) → (int_lt z low || int_lt high z) ≡ b → (z ∷ values_of words) ≡ (x ∷ values_of rest)
    by_test true test = let bad = rw test at e in cc
    by_test false test = let same = rw test at e in let parts = got_same z x words rest same in rw (parts.0, parts.1) refl

pub number_in-ok : (low high : ℤ) (words : Words) (x : ℤ) (rest : Words) → number_in low high words ≡ Ok (x, rest) → values_of words ≡ x ∷ values_of rest
number_in-ok low high [] x rest e = cc
number_in-ok low high (w ∷ words) x rest e = limited-ok low high (number_of w) words x rest e

natural-ok : (low : ℕ) (high : ℤ) (o : Option ℤ) (words : Words) (x : ℤ) (rest : Words) → limited (pos low) high o words ≡ Ok (x, rest) → x ≡ pos (unsigned_abs x)
natural-ok low high None words x rest e = cc
natural-ok low high (Some (negsuc k)) words x rest e = cc
natural-ok low high (Some (pos n)) words x rest e = by_test (int_lt (pos n) (pos low) || int_lt high (pos n)) refl
  where
    by_test : (b : Bool) → (int_lt (pos n) (pos low) || int_lt high (pos n)) ≡ b → x ≡ pos (unsigned_abs x)
    by_test true test = let bad = rw test at e in cc
    by_test false test = let same = rw test at e in let parts = got_same (pos n) x words rest same in rw (← parts.0) refl

number_in-natural : (low : ℕ) (high : ℤ) (words : Words) (x : ℤ) (rest : Words) → number_in (pos low) high words ≡ Ok (x, rest) → x ≡ pos (unsigned_abs x)
number_in-natural low high [] x rest e = cc
number_in-natural low high (w ∷ words) x rest e = natural-ok low high (number_of w) words x rest e

pub natural_in-ok : (low high : ℕ) (words : Words) (n : ℕ) (rest : Words) → natural_in low high words ≡ Ok (n, rest) → values_of words ≡ pos n ∷ values_of rest
natural_in-ok low high words n rest e =
    let s = and_then-ok (number_in (pos low) (pos high) words) (λ z. give (unsigned_abs z)) (n, rest) e in
    let z = s.got.0 in
    let value = number_in-ok (pos low) (pos high) words z s.got.1 s.first in
    let whole_number = number_in-natural low (pos high) words z s.got.1 s.first in
    let last = got_same (unsigned_abs z) n s.got.1 rest s.then_read in
    let number : unsigned_abs z ≡ n = last.0 in
    let behind : s.got.1 ≡ rest = last.1 in
    cc

fault_if-ok : (k : RouteKind) (b : Bool) (words : Words) (x : Unit {0} × Words) → fault_if k b words ≡ Ok x → words ≡ x.1
fault_if-ok k true words x e = cc
fault_if-ok k false words x e = let p = ok_same (tt, words) x e in ap (λ (q : Unit {0} × Words). q.1) p

fleet-ok : (words : Words) (f : Fleet) (rest : Words) → fleet_wanted words ≡ Ok (f, rest) → values_of words ≡ pos f.vehicles ∷ f.capacity ∷ values_of rest
fleet-ok words f rest e =
    let fleet : ℕ → ℤ → Fleet = λ v c. record { vehicles = v; capacity = c } in
    let next : ℕ → Wants Fleet = λ v. number_in (pos 1) MAX_LOAD >>= (λ c. give (fleet v c)) in
    let s = and_then-ok (natural_in 1 MAX_VEHICLES words) next (f, rest) e in
    let v = s.got.0 in
    let u = and_then-ok (number_in (pos 1) MAX_LOAD s.got.1) (λ c. give (fleet v c)) (f, rest) s.then_read in
    let first : values_of words ≡ pos v ∷ values_of s.got.1 = natural_in-ok 1 MAX_VEHICLES words v s.got.1 s.first in
    let second : values_of s.got.1 ≡ u.got.0 ∷ values_of u.got.1 = number_in-ok (pos 1) MAX_LOAD s.got.1 u.got.0 u.got.1 u.first in
    let last = got_same (fleet v u.got.0) f u.got.1 rest u.then_read in
    let form : Fleet → List ℤ = λ g. pos g.vehicles ∷ g.capacity ∷ [] in
    first ∙ (ap (λ vs. pos v ∷ vs) second ∙ tell form (fleet v u.got.0) f u.got.1 rest last)

point-ok : (words : Words) (p : Point) (rest : Words) → point_wanted words ≡ Ok (p, rest) → values_of words ≡ p.x ∷ p.y ∷ values_of rest
point-ok words p rest e =
    let low = neg_ℤ (pos 100000) in
    let high = pos 100000 in
    let point : ℤ → ℤ → Point = λ x y. record { x = x; y = y } in
    let next : ℤ → Wants Point = λ x. number_in low high >>= (λ y. give (point x y)) in
    let s = and_then-ok (number_in low high words) next (p, rest) e in
    let u = and_then-ok (number_in low high s.got.1) (λ y. give (point s.got.0 y)) (p, rest) s.then_read in
    let first : values_of words ≡ s.got.0 ∷ values_of s.got.1 = number_in-ok low high words s.got.0 s.got.1 s.first in
    let second : values_of s.got.1 ≡ u.got.0 ∷ values_of u.got.1 = number_in-ok low high s.got.1 u.got.0 u.got.1 u.first in
    let last = got_same (point s.got.0 u.got.0) p u.got.1 rest u.then_read in
    let form : Point → List ℤ = λ q. q.x ∷ q.y ∷ [] in
    first ∙ (ap (λ vs. s.got.0 ∷ vs) second ∙ tell form (point s.got.0 u.got.0) p u.got.1 rest last)

times-ok : (words : Words) (t : Times) (rest : Words) → times_wanted words ≡ Ok (t, rest) → values_of words ≡ t.ready ∷ t.due ∷ t.service ∷ values_of rest
times-ok words t rest e =
    let times : ℤ → ℤ → ℤ → Times = λ a b c. record { ready = a; due = b; service = c } in
    let last_one : ℤ → ℤ → Wants Times = λ a b. number_in (pos 0) MAX_SERVICE >>= (λ c. give (times a b c)) in
    let next : ℤ → Wants Times = λ a. number_in a MAX_TIME >>= last_one a in
    let s = and_then-ok (number_in (pos 0) MAX_TIME words) next (t, rest) e in
    let a = s.got.0 in
    let u = and_then-ok (number_in a MAX_TIME s.got.1) (last_one a) (t, rest) s.then_read in
    let b = u.got.0 in
    let v = and_then-ok (number_in (pos 0) MAX_SERVICE u.got.1) (λ c. give (times a b c)) (t, rest) u.then_read in
    let first : values_of words ≡ a ∷ values_of s.got.1 = number_in-ok (pos 0) MAX_TIME words a s.got.1 s.first in
    let second : values_of s.got.1 ≡ b ∷ values_of u.got.1 = number_in-ok a MAX_TIME s.got.1 b u.got.1 u.first in
    let third : values_of u.got.1 ≡ v.got.0 ∷ values_of v.got.1 = number_in-ok (pos 0) MAX_SERVICE u.got.1 v.got.0 v.got.1 v.first in
    let last = got_same (times a b v.got.0) t v.got.1 rest v.then_read in
    let form : Times → List ℤ = λ q. q.ready ∷ q.due ∷ q.service ∷ [] in
    first
    ∙ (ap (λ vs. a ∷ vs) second
    ∙ (ap (λ vs. a ∷ b ∷ vs) third ∙ tell form (times a b v.got.0) t v.got.1 rest last))

new_number-ok : (taken : ℕ → Bool) (words : Words) (n : ℕ) (rest : Words) → new_number taken words ≡ Ok (n, rest) → values_of words ≡ pos n ∷ values_of rest
new_number-ok taken words n rest e =
    let next : ℕ → Wants ℕ = λ m. fault_if kind.Repeated (taken m) >> give m in
    let s = and_then-ok (natural_in 0 MAX_NUMBER words) next (n, rest) e in
    let m = s.got.0 in
    let u = and_then-ok (fault_if kind.Repeated (taken m) s.got.1) (λ _. give m) (n, rest) s.then_read in
    let first : values_of words ≡ pos m ∷ values_of s.got.1 = natural_in-ok 0 MAX_NUMBER words m s.got.1 s.first in
    let kept : s.got.1 ≡ u.got.1 = fault_if-ok kind.Repeated (taken m) s.got.1 u.got u.first in
    let last = got_same m n u.got.1 rest u.then_read in
    let number : m ≡ n = last.0 in
    let behind : u.got.1 ≡ rest = last.1 in
    cc

pub stop-ok : (taken : ℕ → Bool) (words : Words) (x : Stop) (rest : Words) → stop_wanted taken words ≡ Ok (x, rest) → values_of words ≡ stop_row x ++ values_of rest
stop-ok taken words x rest e =
    let next3 : ℕ → Point → ℤ → Wants Stop = λ n p d. times_wanted >>= (λ t. give (stop_of n p d t)) in
    let next2 : ℕ → Point → Wants Stop = λ n p. number_in (pos 0) MAX_LOAD >>= next3 n p in
    let next1 : ℕ → Wants Stop = λ n. point_wanted >>= next2 n in
    let s = and_then-ok (new_number taken words) next1 (x, rest) e in
    let n = s.got.0 in
    let u = and_then-ok (point_wanted s.got.1) (next2 n) (x, rest) s.then_read in
    let p = u.got.0 in
    let v = and_then-ok (number_in (pos 0) MAX_LOAD u.got.1) (next3 n p) (x, rest) u.then_read in
    let d = v.got.0 in
    let w = and_then-ok (times_wanted v.got.1) (λ t. give (stop_of n p d t)) (x, rest) v.then_read in
    let t = w.got.0 in
    let first : values_of words ≡ pos n ∷ values_of s.got.1 = new_number-ok taken words n s.got.1 s.first in
    let second : values_of s.got.1 ≡ p.x ∷ p.y ∷ values_of u.got.1 = point-ok s.got.1 p u.got.1 u.first in
    let third : values_of u.got.1 ≡ d ∷ values_of v.got.1 = number_in-ok (pos 0) MAX_LOAD u.got.1 d v.got.1 v.first in
    let fourth : values_of v.got.1 ≡ t.ready ∷ t.due ∷ t.service ∷ values_of w.got.1 = times-ok v.got.1 t w.got.1 w.first in
    let last = got_same (stop_of n p d t) x w.got.1 rest w.then_read in
    first
    ∙ (ap (λ vs. pos n ∷ vs) second
    ∙ (ap (λ vs. pos n ∷ p.x ∷ p.y ∷ vs) third
    ∙ (ap (λ vs. pos n ∷ p.x ∷ p.y ∷ d ∷ vs) fourth ∙ tell stop_row (stop_of n p d t) x w.got.1 rest last)))

-- the same where no word is left
pub whole_fleet : (words : Words) (f : Fleet) → whole fleet_wanted words ≡ Ok f → values_of words ≡ pos f.vehicles ∷ f.capacity ∷ []
whole_fleet words f e = fleet-ok words f [] (all_taken-ok (fleet_wanted words) f e)

pub whole_stop : (taken : ℕ → Bool) (words : Words) (x : Stop) → whole (stop_wanted taken) words ≡ Ok x → values_of words ≡ stop_row x
whole_stop taken words x e = stop-ok taken words x [] (all_taken-ok (stop_wanted taken words) x e)
