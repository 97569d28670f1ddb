use Rattle.std.proofs.Common.{◌≡◌, [], List, map, sym, subst}
use Rattle.std.proofs.lemmas.List.Elements.{All-map}
use Rattle.column_pool.specs.declared.kept.KeptWalk.{KeptWalk}
use Rattle.column_pool.specs.Index.{IsSound, Numbers, entries_of}
use Rattle.column_pool.proofs.IndexLemmas.{empty_sound}
use Rattle.column_pool.proofs.pool.Pool.new.Goals as goal

pub invariant_of-result : goal.invariant_of-result
invariant_of-result c =
    subst (λ (walks : List KeptWalk). IsSound (map entries_of c.in_ok-maps.maps.items) walks) (sym c.new.ensures.items)
    (empty_sound (map entries_of c.in_ok-maps.maps.items) (All-map (λ (es : Numbers). es ≡ []) entries_of c.in_ok-maps.maps.items c.in_ok-maps.ensures.empty))
