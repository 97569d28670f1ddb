use Rattle.std.proofs.Common.{ℕ, ◌<◌, get_or, map, sym, ◌∙◌, ap, subst}
use Rattle.std.specs.List.{range_with_len}
use Rattle.list_check.specs.Heads.{places_at}
use Rattle.walk_list.proofs.grow.grow_within.Goals as goal

pub heads_of-requires : goal.heads_of-requires
heads_of-requires c = λ k d l. subst (λ (n : ℕ). (get_or c.args.back.now k d).vertex < n) (sym c.vertex_count.ensures.count) (c.requires.back k d l).windows.vertex

pub grow_all-requires-clause-rests : goal.grow_all-requires-clause-rests
grow_all-requires-clause-rests c = record {
  may = c.requires.back;
  heads = c.in_ok-heads.ensures ∙ ap (λ (n : ℕ). map (places_at c.args.back.now) (range_with_len 0 n)) c.vertex_count.ensures.count;
}

pub grow_all-requires-clause-done : goal.grow_all-requires-clause-done
grow_all-requires-clause-done c = c.in_ok-growth.ensures.done c.args.back.now _
