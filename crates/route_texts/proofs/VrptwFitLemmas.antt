-- What rows say stays within the limits.
use Rattle.std.proofs.Common.{◌≡◌, ◌≢◌, ℕ, ◌≤◌, pos, List, [], ◌∷◌, ◌++◌, length, refl, ap, Bool, true, false, arith, Option, None, Some}
use Rattle.std.specs.Prelude.{◌||◌, map}
use Rattle.std.proofs.lemmas.List.{map-append, length-append}
use Rattle.std.proofs.lemmas.List.Elements.{All-push}
use Rattle.route_tasks.specs.declared.task.Stop.{Stop}
use Rattle.route_tasks.specs.declared.task.Style.TheVariants as style
use Rattle.route_tasks.specs.declared.limits.TheConstants.{MAX_CUSTOMERS}
use Rattle.route_tasks.specs.Fit.{StopFits, TaskFits}
use Rattle.route_texts.specs.declared.vrptw_draft.Fleet.{Fleet}
use Rattle.route_texts.specs.declared.vrptw_draft.VrptwDraft.{VrptwDraft}
use Rattle.route_texts.specs.Stops.{has_number}
use Rattle.route_texts.specs.Vrptw.{depot_has, numbers_with, IsNewStop, FleetFits, VrptwFits}
use Rattle.route_texts.proofs.NumberLemmas.{IsAbsent, IsAbsent-stops, IsAbsent-cons, AllDiffer-push, AllDiffer-cons}

both_false : (a b : Bool) → (a || b) ≡ false → (a ≡ false) × (b ≡ false)
both_false true b h = cc
both_false false b h = (refl, h)

absent_of : (depot : Option Stop) (stops : List Stop) (n : ℕ) → (depot_has n depot || has_number n stops) ≡ false → IsAbsent n (numbers_with depot stops)
absent_of None stops n h = IsAbsent-stops n stops h
absent_of (Some depot) stops n h =
    let parts = both_false _ _ h in
    IsAbsent-cons n depot.number (map (λ s. s.number) stops) parts.0 (IsAbsent-stops n stops parts.1)

numbers-push : (depot : Option Stop) (stops : List Stop) (s : Stop) → numbers_with depot (stops ++ s ∷ []) ≡ numbers_with depot stops ++ s.number ∷ []
numbers-push None stops s = map-append (λ (t : Stop). t.number) stops (s ∷ [])
numbers-push (Some depot) stops s = ap (λ ns. depot.number ∷ ns) (map-append (λ (t : Stop). t.number) stops (s ∷ []))

pub fits-customer : (d : VrptwDraft) (s : Stop) → VrptwFits d → IsNewStop d s → length d.stops ≢ MAX_CUSTOMERS → VrptwFits (record d { stops = d.stops ++ s ∷ [] })
fits-customer d s fits new room =
    record {
      fleet_fits = fits.fleet_fits;
      depot_fits = fits.depot_fits;
      depot_empty = fits.depot_empty;
      each_fits = All-push StopFits d.stops s fits.each_fits new.stop_fits;
      few_customers = few d.stops s fits.few_customers room;
      all_differ = rw (numbers-push d.depot d.stops s) (AllDiffer-push (numbers_with d.depot d.stops) s.number fits.all_differ (absent_of d.depot d.stops s.number new.other));
    }
  where
    few : (stops : List Stop) (s : Stop) → length stops ≤ MAX_CUSTOMERS → length stops ≢ MAX_CUSTOMERS → length (stops ++ s ∷ []) ≤ MAX_CUSTOMERS
    few stops s most other = omega (arith, length-append stops (s ∷ []))

pub fits-depot : (d : VrptwDraft) (s : Stop) → VrptwFits d → d.depot ≡ None → IsNewStop d s → s.demand ≡ pos 0 → VrptwFits (record d { depot = Some s })
fits-depot d s fits none new empty =
    record {
      fleet_fits = fits.fleet_fits;
      depot_fits = new.stop_fits;
      depot_empty = empty;
      each_fits = fits.each_fits;
      few_customers = fits.few_customers;
      all_differ = AllDiffer-cons s.number (map (λ t. t.number) d.stops) (rw none at fits.all_differ) (IsAbsent-stops s.number d.stops (other d.depot none new.other));
    }
  where
    other : (depot : Option Stop) → depot ≡ None → (depot_has s.number depot || has_number s.number d.stops) ≡ false → has_number s.number d.stops ≡ false
    other None e h = h
    other (Some depot) e h = cc

some_of : (stops : List Stop) → stops ≢ [] → 1 ≤ length stops
some_of [] h = absurd (h refl)
some_of (s ∷ stops) h = omega arith

pub fits-task : (fleet : Fleet) (depot : Stop) (stops : List Stop) → VrptwFits (record { fleet = Some fleet; depot = Some depot; stops = stops }) → stops ≢ [] → TaskFits (record { style = style.Tenths; vehicles = fleet.vehicles; capacity = fleet.capacity; depot = depot; stops = stops })
fits-task fleet depot stops fits some =
    let f : FleetFits fleet = fits.fleet_fits in
    record {
      some_customers = some_of stops some;
      few_customers = fits.few_customers;
      some_vehicles = f.some_vehicles;
      few_vehicles = f.few_vehicles;
      capacity_fits = f.capacity_fits;
      depot_fits = fits.depot_fits;
      each_fits = fits.each_fits;
      depot_empty = fits.depot_empty;
      all_differ = fits.all_differ;
    }
