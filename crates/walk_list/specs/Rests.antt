-- The labels of rests that a prefix may join.
use Rattle.std.specs.Prelude.{◌≡◌, All, length, map}
use Rattle.std.specs.List.{range_with_len}
use Rattle.label_rules.specs.Labels.{Setting}
use Rattle.concatenate.specs.Fit.{MayJoin}
use Rattle.list_check.specs.Heads.{places_at}
use Rattle.walk_list.specs.declared.prefixes.Rests.{Rests}

-- each may be joined, and the places are those of the labels at each vertex
pub record AreRests (S : Setting) (rests : Rests) : Type 0 where
  pub may : All (MayJoin S) rests.labels.now
  pub heads : rests.heads.now ≡ map (places_at rests.labels.now) (range_with_len 0 (length S.graph.vertices))
