-- The numbers of a row are read, where they lie within the limits.
use Rattle.std.proofs.Common.{◌≡◌, ℕ, ◌≤◌, ℤ, pos, neg_ℤ, negsuc, ◌≤ℤ◌, List, [], ◌∷◌, ◌++◌, refl, ◌∙◌, Bool, true, false, arith, rules, Option, None, Some, Result, Ok}
use Rattle.std.specs.Prelude.{int_lt, ◌&&◌, unsigned_abs, is_some}
use Rattle.std.proofs.lemmas.Bool.Decides.{nat_tests}
use Rattle.std.proofs.lemmas.Int.{ints}
use Rattle.vrp_lex.specs.Text.{number_of}
use Rattle.route_tasks.specs.declared.limits.TheConstants.{MAX_LOAD, MAX_TIME, MAX_SERVICE, MAX_NUMBER, MAX_VEHICLES}
use Rattle.route_tasks.specs.declared.task.Stop.{Stop}
use Rattle.route_tasks.specs.Fit.{IsFromTo, StopFits}
use Rattle.route_texts.specs.declared.fault.RouteKind.{RouteKind}
use Rattle.route_texts.specs.declared.fault.RouteKind.TheVariants as kind
use Rattle.route_texts.specs.declared.stops.Point.{Point}
use Rattle.route_texts.specs.declared.vrptw_draft.Fleet.{Fleet}
use Rattle.route_texts.specs.declared.vrptw_draft.Times.{Times}
use Rattle.route_texts.specs.Stops.{PointFits}
use Rattle.route_texts.specs.Words.{Words, Wants, and_then, ◌>>=◌, ◌>>◌, give, fault_if, number_in, natural_in, all_taken, whole}
use Rattle.route_texts.specs.Vrptw.{are_numbers, fleet_wanted, new_number, point_wanted, times_wanted, stop_of, stop_wanted, FleetFits, TimesFit}
use Rattle.route_texts.specs.VrptwRows.{values_of, stop_row}

-- a value that is read, and the numbers behind it
pub record Back {A : Type 0} (r : Result (A × Words) RouteKind) (x : A) (tail : List ℤ) : Type 0 where
  pub rest : Words
  pub read : r ≡ Ok (x, rest)
  pub numbers : are_numbers rest ≡ true
  pub values : values_of rest ≡ tail

-- the numbers of these words are these
pub record AreValues (words : Words) (values : List ℤ) : Type 0 where
  pub numbers : are_numbers words ≡ true
  pub told : values_of words ≡ values

le-not_lt : (x y : ℤ) → x ≤ℤ y → int_lt y x ≡ false
le-not_lt (pos a) (pos b) h = grind (arith, nat_tests)
le-not_lt (pos a) (negsuc b) h = absurd (omega (arith, ints))
le-not_lt (negsuc a) (pos b) h = refl
le-not_lt (negsuc a) (negsuc b) h = grind (arith, nat_tests)

both_true : (a b : Bool) → (a && b) ≡ true → (a ≡ true) × (b ≡ true)
both_true true true h = (refl, refl)
both_true true false h = (refl, h)
both_true false b h = cc

head_same : {A : Type 0} (x y : A) (xs ys : List A) → x ∷ xs ≡ y ∷ ys → (x ≡ y) × (xs ≡ ys)
head_same x y xs ys e = (cc, cc)

number_in-back : (low high : ℤ) (words : Words) (x : ℤ) (tail : List ℤ) → AreValues words (x ∷ tail) → IsFromTo low high x → Back (number_in low high words) x tail
number_in-back low high [] x tail are within = let e = are.told in cc
number_in-back low high (w ∷ words) x tail are within = by_number (number_of w) refl
  where
    by_number : (o : Option ℤ) → number_of w ≡ o → Back (number_in low high (w ∷ words)) x tail
    by_number None e = let no = rw e at are.numbers in cc
    by_number (Some z) e =
        let parts = both_true (is_some (number_of w)) (are_numbers words) are.numbers in
        let told = head_same z x (values_of words) tail (rw e at are.told) in
        let over : int_lt z low ≡ false = rw told.0 (le-not_lt low x within.0) in
        let under : int_lt high z ≡ false = rw told.0 (le-not_lt x high within.1) in
        record {
          rest = words;
          read = rw (e, over, under, told.0) refl;
          numbers = parts.1;
          values = told.1;
        }

and_then-back : {A B : Type 0} (r : Result (A × Words) RouteKind) (next : A → Wants B) (x : A) (rest : Words) → r ≡ Ok (x, rest) → and_then r next ≡ next x rest
and_then-back r next x rest e = rw e refl

behind : {A : Type 0} {r : Result (A × Words) RouteKind} {x : A} {tail : List ℤ} → (b : Back r x tail) → AreValues b.rest tail
behind b = record { numbers = b.numbers; told = b.values }

le_pos : (a b : ℕ) → a ≤ b → pos a ≤ℤ pos b
le_pos a b h = search rules

natural_in-back : (low high : ℕ) (words : Words) (n : ℕ) (tail : List ℤ) → AreValues words (pos n ∷ tail) → low ≤ n → n ≤ high → Back (natural_in low high words) n tail
natural_in-back low high words n tail are least most =
    let b = number_in-back (pos low) (pos high) words (pos n) tail are (le_pos low n least, le_pos n high most) in
    record {
      rest = b.rest;
      read = and_then-back (number_in (pos low) (pos high) words) (λ z. give (unsigned_abs z)) (pos n) b.rest b.read;
      numbers = b.numbers;
      values = b.values;
    }

fleet-back : (words : Words) (f : Fleet) (tail : List ℤ) → AreValues words (pos f.vehicles ∷ f.capacity ∷ tail) → FleetFits f → Back (fleet_wanted words) f tail
fleet-back words f tail are fits =
    let next : ℕ → Wants Fleet = λ v. number_in (pos 1) MAX_LOAD >>= (λ c. give (record { vehicles = v; capacity = c })) in
    let a = natural_in-back 1 MAX_VEHICLES words f.vehicles (f.capacity ∷ tail) are fits.some_vehicles fits.few_vehicles in
    let b = number_in-back (pos 1) MAX_LOAD a.rest f.capacity tail (behind a) fits.capacity_fits in
    record {
      rest = b.rest;
      read = and_then-back (natural_in 1 MAX_VEHICLES words) next f.vehicles a.rest a.read ∙ and_then-back (number_in (pos 1) MAX_LOAD a.rest) (λ c. give (record { vehicles = f.vehicles; capacity = c })) f.capacity b.rest b.read;
      numbers = b.numbers;
      values = b.values;
    }

point-back : (words : Words) (p : Point) (tail : List ℤ) → AreValues words (p.x ∷ p.y ∷ tail) → PointFits p → Back (point_wanted words) p tail
point-back words p tail are fits =
    let low = neg_ℤ (pos 100000) in
    let high = pos 100000 in
    let next : ℤ → Wants Point = λ x. number_in low high >>= (λ y. give (record { x = x; y = y })) in
    let a = number_in-back low high words p.x (p.y ∷ tail) are (fits.across.0, fits.across.1) in
    let b = number_in-back low high a.rest p.y tail (behind a) (fits.along.0, fits.along.1) in
    record {
      rest = b.rest;
      read = and_then-back (number_in low high words) next p.x a.rest a.read ∙ and_then-back (number_in low high a.rest) (λ y. give (record { x = p.x; y = y })) p.y b.rest b.read;
      numbers = b.numbers;
      values = b.values;
    }

le_trans : (a b c : ℤ) → a ≤ℤ b → b ≤ℤ c → a ≤ℤ c
le_trans a b c h k = search rules

times-back : (words : Words) (t : Times) (tail : List ℤ) → AreValues words (t.ready ∷ t.due ∷ t.service ∷ tail) → TimesFit t → Back (times_wanted words) t tail
times-back words t tail are fits =
    let times : ℤ → ℤ → ℤ → Times = λ a b c. record { ready = a; due = b; service = c } in
    let last_one : ℤ → ℤ → Wants Times = λ a b. number_in (pos 0) MAX_SERVICE >>= (λ c. give (times a b c)) in
    let next : ℤ → Wants Times = λ a. number_in a MAX_TIME >>= last_one a in
    let a = number_in-back (pos 0) MAX_TIME words t.ready (t.due ∷ t.service ∷ tail) are (fits.opens, le_trans t.ready t.due MAX_TIME fits.order fits.closes) in
    let b = number_in-back t.ready MAX_TIME a.rest t.due (t.service ∷ tail) (behind a) (fits.order, fits.closes) in
    let c = number_in-back (pos 0) MAX_SERVICE b.rest t.service tail (behind b) fits.served in
    record {
      rest = c.rest;
      read =
          and_then-back (number_in (pos 0) MAX_TIME words) next t.ready a.rest a.read
          ∙ (and_then-back (number_in t.ready MAX_TIME a.rest) (last_one t.ready) t.due b.rest b.read
          ∙ and_then-back (number_in (pos 0) MAX_SERVICE b.rest) (λ z. give (times t.ready t.due z)) t.service c.rest c.read);
      numbers = c.numbers;
      values = c.values;
    }

new_number-back : (taken : ℕ → Bool) (words : Words) (n : ℕ) (tail : List ℤ) → AreValues words (pos n ∷ tail) → n ≤ MAX_NUMBER → taken n ≡ false → Back (new_number taken words) n tail
new_number-back taken words n tail are most free =
    let next : ℕ → Wants ℕ = λ m. fault_if kind.Repeated (taken m) >> give m in
    let a = natural_in-back 0 MAX_NUMBER words n tail are (omega arith) most in
    let passed : fault_if kind.Repeated (taken n) a.rest ≡ Ok (tt, a.rest) = rw free refl in
    record {
      rest = a.rest;
      read = and_then-back (natural_in 0 MAX_NUMBER words) next n a.rest a.read ∙ and_then-back (fault_if kind.Repeated (taken n) a.rest) (λ _. give n) tt a.rest passed;
      numbers = a.numbers;
      values = a.values;
    }

stop-back : (taken : ℕ → Bool) (words : Words) (x : Stop) (tail : List ℤ) → AreValues words (stop_row x ++ tail) → StopFits x → taken x.number ≡ false → Back (stop_wanted taken words) x tail
stop-back taken words x tail are fits free =
    let next3 : ℕ → Point → ℤ → Wants Stop = λ n p d. times_wanted >>= (λ t. give (stop_of n p d t)) in
    let next2 : ℕ → Point → Wants Stop = λ n p. number_in (pos 0) MAX_LOAD >>= next3 n p in
    let next1 : ℕ → Wants Stop = λ n. point_wanted >>= next2 n in
    let p : Point = record { x = x.x; y = x.y } in
    let t : Times = record { ready = x.ready; due = x.due; service = x.service } in
    let a = new_number-back taken words x.number (x.x ∷ x.y ∷ x.demand ∷ x.ready ∷ x.due ∷ x.service ∷ tail) are fits.numbered free in
    let b = point-back a.rest p (x.demand ∷ x.ready ∷ x.due ∷ x.service ∷ tail) (behind a) (record { across = fits.placed.across; along = fits.placed.along }) in
    let c = number_in-back (pos 0) MAX_LOAD b.rest x.demand (x.ready ∷ x.due ∷ x.service ∷ tail) (behind b) fits.demanded in
    let d = times-back c.rest t tail (behind c) (record { opens = fits.opens; order = fits.order; closes = fits.closes; served = fits.served }) in
    record {
      rest = d.rest;
      read =
          and_then-back (new_number taken words) next1 x.number a.rest a.read
          ∙ (and_then-back (point_wanted a.rest) (next2 x.number) p b.rest b.read
          ∙ (and_then-back (number_in (pos 0) MAX_LOAD b.rest) (next3 x.number p) x.demand c.rest c.read
          ∙ and_then-back (times_wanted c.rest) (λ q. give (stop_of x.number p x.demand q)) t d.rest d.read));
      numbers = d.numbers;
      values = d.values;
    }

no_values : (words : Words) → values_of words ≡ [] → words ≡ []
no_values [] e = refl
no_values (w ∷ words) e = cc

whole_of : {A : Type 0} (r : Result (A × Words) RouteKind) (x : A) → Back r x [] → all_taken r ≡ Ok x
whole_of r x b = let none = no_values b.rest b.values in rw (b.read, none) refl

pub fleet_told : (words : Words) (f : Fleet) → AreValues words (pos f.vehicles ∷ f.capacity ∷ []) → FleetFits f → whole fleet_wanted words ≡ Ok f
fleet_told words f are fits = whole_of (fleet_wanted words) f (fleet-back words f [] are fits)

pub stop_told : (taken : ℕ → Bool) (words : Words) (x : Stop) → AreValues words (stop_row x) → StopFits x → taken x.number ≡ false → whole (stop_wanted taken) words ≡ Ok x
stop_told taken words x are fits free = whole_of (stop_wanted taken words) x (stop-back taken words x [] are fits free)
