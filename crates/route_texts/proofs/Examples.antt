-- Worked rows of the readings of texts, proved by computing.
use Rattle.std.proofs.Common.{◌≡◌, ℕ, pos, negsuc, List, [], ◌∷◌, ◌++◌, None, Some, Result, Ok, Err, refl}
use Rattle.std.specs.Prelude.{codes}
use Rattle.std.specs.List.{flat_map}
use Rattle.route_tasks.specs.declared.task.Stop.{Stop}
use Rattle.route_tasks.specs.declared.task.RouteTask.{RouteTask}
use Rattle.route_tasks.specs.declared.task.Style.TheVariants as style
use Rattle.route_texts.specs.declared.fault.RouteKind.{RouteKind}
use Rattle.route_texts.specs.declared.fault.RouteKind.TheVariants as kind
use Rattle.route_texts.specs.declared.fault.RouteFault.{RouteFault}
use Rattle.route_texts.specs.Words.{words_in, cut_at}
use Rattle.route_texts.specs.Vrptw.{vrptw_read}
use Rattle.route_texts.specs.CvrpLines.{coordinate}
use Rattle.route_texts.specs.CvrpText.{cvrp_read}

-- the text of lines
abbrev text : List (List ℕ) → List ℕ
text lines = flat_map (λ line. line ++ 10 ∷ []) lines

abbrev at : ℕ → RouteKind → Result RouteTask RouteFault
at line kind = Err (record { line = line; kind = kind })

-- words and cuts; `#` begins no comment
blanks : words_in (32 ∷ 9 ∷ 97 ∷ 35 ∷ 13 ∷ 32 ∷ 98 ∷ []) ≡ (97 ∷ 35 ∷ []) ∷ (98 ∷ []) ∷ []
blanks = refl

cut : cut_at 58 (codes "a:b:c") ≡ Some (codes "a", codes "b:c")
cut = refl

uncut : cut_at 58 (codes "abc") ≡ None
uncut = refl

-- a fraction has zeros alone, and one at least
fraction : coordinate (codes "-3.00" ∷ []) ≡ Ok (negsuc 2, [])
fraction = refl

no_fraction : coordinate (codes "3." ∷ []) ≡ Err kind.Number
no_fraction = refl

far : coordinate (codes "100001.0" ∷ []) ≡ Err kind.Range
far = refl

-- a VRPTW text
abbrev vrptw_depot : Stop
vrptw_depot = record { number = 9; x = pos 4; y = negsuc 4; demand = pos 0; ready = pos 0; due = pos 99; service = pos 0 }

abbrev customer : Stop
customer = record { number = 7; x = pos 1; y = pos 2; demand = pos 30; ready = pos 1; due = pos 8; service = pos 2 }

whole_text :
    vrptw_read (text (codes "C1" ∷ codes "3 200" ∷ codes "CUST 1" ∷ codes "9 4 -5 0 0 99 0" ∷ [] ∷ codes "7 1 2 30 1 8 2" ∷ []))
    ≡ Ok (record { style = style.Tenths; vehicles = 3; capacity = pos 200; depot = vrptw_depot; stops = customer ∷ [] })
whole_text = refl

twice : vrptw_read (text (codes "3 200" ∷ codes "9 4 -5 0 0 99 0" ∷ codes "09 1 2 30 1 8 2" ∷ [])) ≡ at 3 kind.Repeated
twice = refl

late : vrptw_read (text (codes "3 200" ∷ codes "9 4 -5 0 0 99 0" ∷ codes "x" ∷ codes "8 1 2 30 9 8" ∷ [])) ≡ at 4 kind.Range
late = refl

alone : vrptw_read (text (codes "3 200" ∷ codes "9 4 -5 0 0 99 0" ∷ codes "x" ∷ [])) ≡ at 4 kind.Missing
alone = refl

-- a CVRP text: its keys, and sections in another order
abbrev keys : List (List ℕ)
keys =
    codes "TYPE : CVRP" ∷ codes "NAME : a 1:2" ∷ codes "DIMENSION:2" ∷ codes "CAPACITY: 8" ∷ codes "EDGE_WEIGHT_TYPE :EUC_2D" ∷ []

abbrev demands : List (List ℕ)
demands = codes "DEMAND_SECTION" ∷ codes "2 0" ∷ codes "1 5" ∷ []

abbrev depot : List (List ℕ)
depot = codes "DEPOT_SECTION" ∷ codes "2" ∷ codes "-1" ∷ []

abbrev points : List (List ℕ)
points = codes "NODE_COORD_SECTION" ∷ codes "1 3 4.0" ∷ codes "2 -1 0" ∷ []

abbrev cvrp_task : RouteTask
cvrp_task =
    record {
      style = style.Euclid;
      vehicles = 1;
      capacity = pos 8;
      depot = record { number = 2; x = negsuc 0; y = pos 0; demand = pos 0; ready = pos 0; due = pos 0; service = pos 0 };
      stops = record { number = 1; x = pos 3; y = pos 4; demand = pos 5; ready = pos 0; due = pos 0; service = pos 0 } ∷ [];
    }

in_order : cvrp_read (text (keys ++ points ++ demands ++ depot ++ codes "EOF" ∷ codes "x" ∷ [])) ≡ Ok cvrp_task
in_order = refl

other_order : cvrp_read (text (keys ++ depot ++ demands ++ points)) ≡ Ok cvrp_task
other_order = refl

no_depot : cvrp_read (text (keys ++ points ++ demands ++ codes "EOF" ∷ codes "x" ∷ [])) ≡ at 13 kind.Missing
no_depot = refl

loaded : cvrp_read (text (keys ++ demands ++ codes "DEPOT_SECTION" ∷ codes "1" ∷ [])) ≡ at 10 kind.Depot
loaded = refl

second : cvrp_read (text (keys ++ codes "DEPOT_SECTION" ∷ codes "2" ∷ codes "1" ∷ [])) ≡ at 8 kind.Depot
second = refl

section_twice : cvrp_read (text (keys ++ codes "DEPOT_SECTION" ∷ codes "DEPOT_SECTION" ∷ [])) ≡ at 7 kind.Repeated
section_twice = refl

early : cvrp_read (text (codes "TYPE : CVRP" ∷ codes "DEPOT_SECTION" ∷ [])) ≡ at 2 kind.Missing
early = refl

no_colon : cvrp_read (text (codes "TYPE CVRP" ∷ [])) ≡ at 1 kind.Word
no_colon = refl
