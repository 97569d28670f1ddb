-- The lines of path texts: what is read as a path is spelled as it, and the other way round.
use Rattle.std.proofs.Common.{◌≡◌, ◌≢◌, ℕ, ◌+◌, ◌≤◌, false, List, [], ◌∷◌, map, refl, sym, ◌∙◌, append-nil, arith}
use Rattle.std.specs.Prelude.{All, codes, nat_lt}
use Rattle.std.specs.Fmt.{decimal}
use Rattle.std.proofs.lemmas.Bool.Decides.{nat_tests}
use Rattle.std.proofs.lemmas.List.Concat.{flat_map_single}
use Rattle.route_model.specs.declared.plan.Taken.{Taken}
use Rattle.route_model.specs.declared.plan.Plan.{Plan}
use Rattle.route_model.specs.Quantities.{paths_of}
use Rattle.line_text.specs.declared.fault.Kind.TheVariants as fault
use Rattle.line_text.specs.Words.{Words, is_none}
use Rattle.line_text.proofs.Judgement.{next_before, still_end, Reads, Any, Anything, AtEnd, given, next, last, made, unless, same_as}
use Rattle.line_text.proofs.NumberReads.{natural_in-reads}
use Rattle.line_text.proofs.ListReads.{to_the_end-reads, each_of_all, all_of_each}
use Rattle.line_text.proofs.RuleReads.{Named, form_of, AllRead, Stands, by_first_word-reads}
use Rattle.line_text.proofs.TextLaws.{IsGrammar, ByForm, by_reads}
use Rattle.model_text.specs.declared.path_reader.PlanDraft.{PlanDraft}
use Rattle.model_text.specs.PathText.{PathFits}
use Rattle.model_text.specs.PathFault.{name_wanted, arcs_wanted, path_wanted, PathItem, Path, End, path_rule, end_rule, path_grammar}

-- the number of a graph or an arc
abbrev pub IsName32 : ℕ → Type 0
IsName32 n = n ≤ 4294967295

pub name-reads : Reads name_wanted Any (λ n. decimal n ∷ []) IsName32 Anything
name-reads = same_as (natural_in-reads 0 4294967295 refl) (λ n k h. (refl, h.1)) (λ n k h. (omega arith, h))

-- the arcs
some_arcs : (arcs : List ℕ) → is_none arcs ≡ false → arcs ≢ []
some_arcs [] some = cc
some_arcs (a ∷ arcs) some = λ none. cc

not_none : (arcs : List ℕ) → arcs ≢ [] → is_none arcs ≡ false
not_none [] some = absurd (some refl)
not_none (a ∷ arcs) some = refl

pub arcs-reads : Reads arcs_wanted Any (map decimal) (λ arcs. (arcs ≢ []) × All IsName32 arcs) AtEnd
arcs-reads =
    same_as
    (next_before (λ arcs. arcs) (λ arcs words left h e end. still_end words left e end) (to_the_end-reads (λ _. name_wanted) (λ n. omega arith) (λ _. name-reads)) (λ arcs a.
    unless fault.Word (is_none arcs) (λ x. is_none x ≡ false) (λ x k none. rw k.1 none) (λ x k none. rw (← k.1) none) (λ none.
    given arcs (tt, refl) (λ x k. sym k.1))))
    (λ x k h. (append-nil _ ∙ flat_map_single decimal x, (some_arcs x h.1.0, all_of_each IsName32 [] x h.0)))
    (λ x k h. (each_of_all IsName32 [] x h.1, (not_none x h.0, tt)))

-- a path, after the paths before it
abbrev pub HasRoom : Plan → Taken → Type 0
HasRoom plan t = paths_of plan t.graph + t.count ≤ 4096

abbrev pub numbers_of : Taken → Words
numbers_of t = decimal t.graph ∷ decimal t.count ∷ map decimal t.arcs

pub path-reads : (plan : Plan) → Reads (path_wanted plan) Any numbers_of (λ t. PathFits t × HasRoom plan t) AtEnd
path-reads plan =
    same_as
    (next (λ t. t.graph) name-reads (λ graph g.
    next (λ t. t.count) (natural_in-reads 1 4096 refl) (λ count c.
    unless fault.TooMany (nat_lt 4096 (paths_of plan graph + count)) (HasRoom plan) (λ t k none. rw (k.0.1, k.1) (grind (arith, nat_tests, none))) (λ t k room. room_left t.graph t.count graph count k.0.1 k.1 room) (λ none.
    last (λ t. t.arcs) (λ arcs. record { graph = graph; count = count; arcs = arcs }) arcs-reads (λ arcs a. (((tt, refl), refl), refl)) (λ t k. whole t graph count k.0.1 k.1)))))
    (λ t k h. (refl, (record { graph = h.0; count = h.1.0; some_arcs = h.1.1.1.0; arcs = h.1.1.1.1 }, h.1.1.0)))
    (λ t k h. (h.0.graph, (h.0.count, (h.1, (h.0.some_arcs, h.0.arcs)))))
  where
    room_left : (g c graph count : ℕ) → g ≡ graph → c ≡ count → paths_of plan g + c ≤ 4096 → nat_lt 4096 (paths_of plan graph + count) ≡ false
    room_left g c graph count p q room = rw (← p, ← q) (grind (arith, nat_tests, room))

    whole : (t : Taken) (graph count : ℕ) → t.graph ≡ graph → t.count ≡ count → record t { graph = graph; count = count } ≡ t
    whole t graph count p q = rw (← p, ← q) refl

-- the lines
abbrev pub path_named : Named PathItem
path_named = record { name = name; further = further }
  where
    name : PathItem → List ℕ
    name (Path t) = codes "path"
    name End = codes "end"

    further : PathItem → Words
    further (Path t) = numbers_of t
    further End = []

abbrev pub May : PlanDraft → PathItem → Type 0
May d (Path t) = PathFits t × HasRoom d.plan t
May d End = Unit {0}

is_path : (d : PlanDraft) (i : PathItem) → path_named.name i ≡ codes "path" → May d i → (t : Taken) × (Path t ≡ i) × (PathFits t × HasRoom d.plan t)
is_path d (Path t) k h = (t, refl, h)
is_path d End k h = cc

is_end : (i : PathItem) → path_named.name i ≡ codes "end" → End ≡ i
is_end (Path t) k = cc
is_end End k = refl

of_end : (d : PlanDraft) (i : PathItem) → path_named.name i ≡ codes "end" → ([] ≡ path_named.further i) × May d i
of_end d (Path t) k = cc
of_end d End k = (refl, tt)

all_rules : AllRead path_named May (path_rule ∷ end_rule ∷ [])
all_rules = (
  record {
    name = record { some = refl; bytes = refl; plain = refl };
    reads = λ d s f. made Path (path-reads d.plan) (λ t h. (refl, refl, h)) (is_path d);
  },
  (
    record {
      name = record { some = refl; bytes = refl; plain = refl };
      reads = λ d s f. same_as (given End refl is_end) (λ i k h. of_end d i k) (λ i k h. tt);
    },
    tt,
  ),
)

both_stand : (d : PlanDraft) (i : PathItem) → Stands path_named (path_rule ∷ end_rule ∷ []) d i
both_stand d (Path t) = (refl, refl)
both_stand d End = (refl, refl)

pub path_lines : IsGrammar path_grammar (λ _. Unit {0}) (ByForm (form_of path_named)) (form_of path_named) May
path_lines =
    by_reads (λ i. refl) (λ d going. same_as (by_first_word-reads path_named May (path_rule ∷ end_rule ∷ []) all_rules d) (λ i k h. (refl, h.1)) (λ i k h. (both_stand d i, h)))
