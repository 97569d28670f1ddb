-- The index keeps up with the walks.
use Rattle.std.proofs.Common.{◌≡◌, ◌≢◌, ℕ, ◌<◌, ◌≤◌, ◌==◌, ◌&&◌, Bool, true, false, Option, None, Some, List, [], ◌∷◌, ◌++◌, length, All, get_or, get_or-set_same, get_or-set_other, set, refl, sym, ◌∙◌, ap, subst, inl, inr, arith, length-append}
use Rattle.std.specs.Prelude.{if◌then◌else◌, OnErr, Result, Ok, Err}
use Rattle.std.specs.declared.alloc.Global.{Global}
use Rattle.std.specs.declared.vec.Vec.{Vec}
use Rattle.std.specs.declared.cmp.Ordering.{Ordering}
use Rattle.std.specs.declared.cmp.Ordering.TheVariants.{Less, Equal, Greater}
use Rattle.std.specs.BTreeMap.{insert_entry}
use Rattle.std.specs.Cmp.Lexicographic.{slice_cmp}
use Rattle.std.specs.Map.{lookup}
use Rattle.std.specs.Ordering.{is_eq, match_ordering, nat_cmp}
use Rattle.std.specs.Str.{bytes_eq}
use Rattle.std.proofs.lemmas.Bool.{cases_Bool, cases_lt}
use Rattle.std.proofs.lemmas.Bool.Decides.{nat_tests}
use Rattle.std.proofs.lemmas.Map.Lookups.{exact_bytes}
use Rattle.std.proofs.lemmas.Map.Text.{is_eq-slice_cmp}
use Rattle.std.proofs.lemmas.Slice.Eq.{bytes_eq-Decides}
use Rattle.std.proofs.lemmas.List.Elements.{All-nil, All-push}
use Rattle.std.proofs.Math.ListN.{get_or-append, get_or-eq_default}
use Rattle.std.proofs.Math.Seq.{get_or-append_seam}
use Rattle.column_pool.specs.declared.kept.KeptWalk.{KeptWalk}
use Rattle.column_pool.specs.declared.pool.Known.TheVariants.{Had}
use Rattle.column_pool.specs.Index.{IsIndex, IsSound, Numbers, is_path, number_in}
use Rattle.column_pool.specs.Walks.{AreDistinct, IsNumbered, walk_at}

-- how the arcs of two keys stand
abbrev pub arc_order : Vec ℕ Global → Vec ℕ Global → Ordering
arc_order x y = slice_cmp nat_cmp x.items y.items

-- a look-up after a new entry
pub lookup_put : (path : List ℕ) (es : Numbers) (key : Vec ℕ Global) (number : ℕ) → lookup (is_path path) (insert_entry arc_order es key number) ≡ (if bytes_eq path key.items then Some number else lookup (is_path path) es)
lookup_put path [] key number = ap (λ (b : Bool). if b then Some number else None) (is_eq-slice_cmp path key.items)
lookup_put path (e ∷ es) key number = by_order (lookup_put path es key number) (arc_order key e.0) refl
  where
    equal : (a b : Bool) (x : Option ℕ) → a ≡ b → (if a then Some number else x) ≡ (if b then Some number else (if a then Some e.1 else x))
    equal a true x same = ap (λ (c : Bool). if c then Some number else x) same
    equal a false x same = (λ i. if same i then Some number else x) ∙ (λ i. if sym same i then Some e.1 else x)

    later : (a b : Bool) (x y : Option ℕ) → (a ≡ true → b ≡ false) → x ≡ (if b then Some number else y) → (if a then Some e.1 else x) ≡ (if b then Some number else (if a then Some e.1 else y))
    later true b x y apart is = λ i. if sym (apart refl) i then Some number else Some e.1
    later false b x y apart is = is

    differs : is_eq Greater ≡ true → ⊥
    differs h = cc

    by_order : lookup (is_path path) (insert_entry arc_order es key number) ≡ (if bytes_eq path key.items then Some number else lookup (is_path path) es) → (o : Ordering) → arc_order key e.0 ≡ o → lookup (is_path path) (match_ordering o ((key, number) ∷ e ∷ es) ((e.0, number) ∷ es) (e ∷ insert_entry arc_order es key number))
        ≡ (if bytes_eq path key.items then Some number else lookup (is_path path) (e ∷ es))
    by_order rest Less is = ap (λ (b : Bool). if b then Some number else lookup (is_path path) (e ∷ es)) (is_eq-slice_cmp path key.items)
    by_order rest Equal is =
        equal (is_path path e.0) (bytes_eq path key.items) (lookup (is_path path) es)
        (is_eq-slice_cmp path e.0.items ∙ ap (bytes_eq path) (sym (exact_bytes key.items e.0.items is)))
    by_order rest Greater is =
        later (is_path path e.0) (bytes_eq path key.items) (lookup (is_path path) (insert_entry arc_order es key number)) (lookup (is_path path) es)
        (λ here. elim (cases_Bool (bytes_eq path key.items)) [
          | inl met ↦
              let left : path ≡ key.items = (bytes_eq-Decides path key.items).0 met in
              let right : path ≡ e.0.items = (bytes_eq-Decides path e.0.items).0 (sym (is_eq-slice_cmp path e.0.items) ∙ here) in
              let found : is_eq Greater ≡ true = ap is_eq (sym is) ∙ (is_eq-slice_cmp key.items e.0.items ∙ (bytes_eq-Decides key.items e.0.items).1 (sym left ∙ right)) in
              absurd (differs found)
          | inr unmet ↦ unmet
        ])
        rest

-- the maps after one of them has another entry
pub number_put : (maps new : List Numbers) (g h number : ℕ) (key : Vec ℕ Global) (path : List ℕ) → g < length maps → new ≡ set maps g (insert_entry arc_order (get_or maps g []) key number)
    → number_in new h path ≡ (if (h == g) && bytes_eq path key.items then Some number else number_in maps h path)
number_put maps new g h number key path below made =
    elim (cases_Bool (h == g)) [
      | inl met ↦
          let same : h ≡ g = grind (arith, nat_tests) in
          let read : get_or new h [] ≡ insert_entry arc_order (get_or maps h []) key number =
          subst (λ (k : ℕ). get_or new k [] ≡ insert_entry arc_order (get_or maps k []) key number) (sym same)
          (ap (λ (ms : List Numbers). get_or ms g []) made ∙ get_or-set_same maps g (insert_entry arc_order (get_or maps g []) key number) [] below) in
          ap (lookup (is_path path)) read
          ∙ (lookup_put path (get_or maps h []) key number ∙ ap (λ (b : Bool). if b && bytes_eq path key.items then Some number else number_in maps h path) (sym met))
      | inr unmet ↦
          let apart : h ≢ g = grind (arith, nat_tests) in
          ap (λ (ms : List Numbers). number_in ms h path) made
          ∙ (ap (lookup (is_path path)) (get_or-set_other maps g h (insert_entry arc_order (get_or maps g []) key number) [] apart)
          ∙ ap (λ (b : Bool). if b && bytes_eq path key.items then Some number else number_in maps h path) (sym unmet))
    ]

-- the walks after one more
numbered_before : (walks : List KeptWalk) (w : KeptWalk) (number g : ℕ) (path : List ℕ) → number < length walks → IsNumbered (walks ++ w ∷ []) number g path → IsNumbered walks number g path
numbered_before walks w number g path below is =
    let same : walk_at (walks ++ w ∷ []) number ≡ walk_at walks number = get_or-append walks (w ∷ []) _ number below in
    record { there = below; graph = ap (λ (v : KeptWalk). v.graph) (sym same) ∙ is.graph; arcs = ap (λ (v : KeptWalk). v.arcs) (sym same) ∙ is.arcs }

numbered_after : (walks : List KeptWalk) (w : KeptWalk) (number g : ℕ) (path : List ℕ) → IsNumbered walks number g path → IsNumbered (walks ++ w ∷ []) number g path
numbered_after walks w number g path is =
    let same : walk_at (walks ++ w ∷ []) number ≡ walk_at walks number = get_or-append walks (w ∷ []) _ number is.there in
    let long = length-append walks (w ∷ []) in
    record { there = omega (arith, is.there, long); graph = ap (λ (v : KeptWalk). v.graph) same ∙ is.graph; arcs = ap (λ (v : KeptWalk). v.arcs) same ∙ is.arcs }

numbered_last : (walks : List KeptWalk) (w : KeptWalk) (g : ℕ) (path : List ℕ) → w.graph ≡ g → w.arcs ≡ path → IsNumbered (walks ++ w ∷ []) (length walks) g path
numbered_last walks w g path graph arcs =
    let same : walk_at (walks ++ w ∷ []) (length walks) ≡ w = get_or-append_seam walks w [] _ in
    let long = length-append walks (w ∷ []) in
    record { there = omega (arith, long); graph = ap (λ (v : KeptWalk). v.graph) same ∙ graph; arcs = ap (λ (v : KeptWalk). v.arcs) same ∙ arcs }

last_numbered : (walks : List KeptWalk) (w : KeptWalk) (g : ℕ) (path : List ℕ) → IsNumbered (walks ++ w ∷ []) (length walks) g path → (w.graph ≡ g) × (w.arcs ≡ path)
last_numbered walks w g path is =
    let same : walk_at (walks ++ w ∷ []) (length walks) ≡ w = get_or-append_seam walks w [] _ in
    (ap (λ (v : KeptWalk). v.graph) (sym same) ∙ is.graph, ap (λ (v : KeptWalk). v.arcs) (sym same) ∙ is.arcs)

none_some : (o : Option ℕ) (n : ℕ) → o ≡ None → o ≡ Some n → ⊥
none_some o n h k = cc

pub index_put : (maps new : List Numbers) (walks : List KeptWalk) (w : KeptWalk) → IsIndex maps walks → number_in maps w.graph w.arcs ≡ None
    → ((h : ℕ) (path : List ℕ) → number_in new h path ≡ (if (h == w.graph) && bytes_eq path w.arcs then Some (length walks) else number_in maps h path))
    → IsIndex new (walks ++ w ∷ [])
index_put maps new walks w index absent put number g path = (into, out)
  where
    is_it : Bool
    is_it = (g == w.graph) && bytes_eq path w.arcs

    same_walk : is_it ≡ true → (w.graph ≡ g) × (w.arcs ≡ path)
    same_walk met =
        let graph : (g == w.graph) ≡ true = grind arith in
        let arcs : bytes_eq path w.arcs ≡ true = grind arith in
        (grind (arith, nat_tests), sym ((bytes_eq-Decides path w.arcs).0 arcs))

    walk_same : w.graph ≡ g → w.arcs ≡ path → is_it ≡ true
    walk_same graph arcs =
        let first : (g == w.graph) ≡ true = grind (arith, nat_tests) in
        let second : bytes_eq path w.arcs ≡ true = (bytes_eq-Decides path w.arcs).1 (sym arcs) in
        λ i. first i && second i

    into : number_in new g path ≡ Some number → IsNumbered (walks ++ w ∷ []) number g path
    into told =
        elim (cases_Bool is_it) [
          | inl met ↦
              let here : Some (length walks) ≡ Some number = sym (put g path ∙ ap (λ (b : Bool). if b then Some (length walks) else number_in maps g path) met) ∙ told in
              let last : length walks ≡ number = cc in
              let walk = same_walk met in
              subst (λ (n : ℕ). IsNumbered (walks ++ w ∷ []) n g path) last (numbered_last walks w g path walk.0 walk.1)
          | inr unmet ↦
              let here : number_in maps g path ≡ Some number = sym (put g path ∙ ap (λ (b : Bool). if b then Some (length walks) else number_in maps g path) unmet) ∙ told in
              numbered_after walks w number g path ((index number g path).0 here)
        ]

    out : IsNumbered (walks ++ w ∷ []) number g path → number_in new g path ≡ Some number
    out is =
        elim (cases_lt number (length walks)) [
          | inl below ↦
              let before : number_in maps g path ≡ Some number = (index number g path).1 (numbered_before walks w number g path below is) in
              elim (cases_Bool is_it) [
                | inl met ↦
                    let walk = same_walk met in
                    absurd (none_some (number_in maps w.graph w.arcs) number absent ((λ i. number_in maps (walk.0 i) (walk.1 i)) ∙ before))
                | inr unmet ↦ put g path ∙ (ap (λ (b : Bool). if b then Some (length walks) else number_in maps g path) unmet ∙ before)
              ]
          | inr least ↦
              let long = length-append walks (w ∷ []) in
              let last : length walks ≡ number = omega (arith, least, is.there, long) in
              let walk = last_numbered walks w g path (subst (λ (n : ℕ). IsNumbered (walks ++ w ∷ []) n g path) (sym last) is) in
              put g path ∙ (ap (λ (b : Bool). if b then Some (length walks) else number_in maps g path) (walk_same walk.0 walk.1) ∙ ap Some last)
        ]

-- an index has unmet walk under two numbers
pub index_distinct : (maps : List Numbers) (walks : List KeptWalk) → IsIndex maps walks → AreDistinct walks
index_distinct maps walks index i j g path first second =
    let both : Some i ≡ Some j = sym ((index i g path).1 first) ∙ (index j g path).1 second in
    cc

-- a pool keeps sound
pub sound_put : (maps new : List Numbers) (walks : List KeptWalk) (w : KeptWalk) → IsSound maps walks → number_in maps w.graph w.arcs ≡ None
    → ((h : ℕ) (path : List ℕ) → number_in new h path ≡ (if (h == w.graph) && bytes_eq path w.arcs then Some (length walks) else number_in maps h path))
    → length new ≡ length maps → w.graph < length maps → length walks < 4294967294 → length w.visits ≤ 16777216 → IsSound new (walks ++ w ∷ [])
sound_put maps new walks w sound absent put same inside few short = record {
  index = index_put maps new walks w sound.index absent put;
  graphs =
      subst (λ (n : ℕ). All (λ (v : KeptWalk). v.graph < n) (walks ++ w ∷ [])) (sym same) (All-push (λ (v : KeptWalk). v.graph < length maps) walks w sound.graphs inside);
  few_walks = omega (arith, few, length-append walks (w ∷ []));
  few_visits = All-push (λ (v : KeptWalk). length v.visits ≤ 16777216) walks w sound.few_visits short;
}

none_found : (maps : List Numbers) (g : ℕ) (path : List ℕ) → All (λ (es : Numbers). es ≡ []) maps → number_in maps g path ≡ None
none_found maps g path empty =
    elim (cases_lt g (length maps)) [
      | inl below ↦ ap (lookup (is_path path)) (empty g [] below)
      | inr least ↦ ap (lookup (is_path path)) (get_or-eq_default maps [] least)
    ]

-- so is one without walks
pub empty_sound : (maps : List Numbers) → All (λ (es : Numbers). es ≡ []) maps → IsSound maps []
empty_sound maps empty = record {
  index = λ number g path.
      (λ found. absurd (none_some (number_in maps g path) number (none_found maps g path empty) found), λ is. absurd (omega (arith, is.there)));
  graphs = All-nil (λ (v : KeptWalk). v.graph < length maps);
  few_walks = omega arith;
  few_visits = All-nil (λ (v : KeptWalk). length v.visits ≤ 16777216);
}

-- what holds in any case holds at an error
pub on_err : {A E : Type 0} (r : Result A E) (P : Type 0) → P → OnErr r P
on_err (Ok a) P p = tt
on_err (Err e) P p = p

-- a walk that is found is there exactly under the number that is found
pub had_exactly : (maps : List Numbers) (walks : List KeptWalk) (found number g : ℕ) (path : List ℕ) → IsIndex maps walks → number_in maps g path ≡ Some found
    → (Had found ≡ Had number → IsNumbered walks number g path) × (IsNumbered walks number g path → Had found ≡ Had number)
had_exactly maps walks found number g path index told = (
  λ same. let is : found ≡ number = cc in subst (λ (n : ℕ). IsNumbered walks n g path) is ((index found g path).0 told),
  λ is.
      let both : Some found ≡ Some number = sym told ∙ (index number g path).1 is in
      let same : found ≡ number = cc in
      ap Had same,
)
