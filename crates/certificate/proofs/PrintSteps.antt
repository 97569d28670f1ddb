-- The text of a certificate piece by piece.
use Rattle.std.proofs.Common.{◌≡◌, ℕ, zero, suc, ◌+◌, ◌-◌, ◌*◌, ◌/◌, ◌%◌, ◌<◌, ◌≤◌, ℤ, Bool, true, false, inl, inr, List, [], ◌∷◌, ◌++◌, length, map, filter, take, drop, get_or, slice_index, refl, ap, sym, ◌∙◌, append_assoc, append-nil, arith}
use Rattle.std.specs.Prelude.{◌==◌, ◌&&◌, All, IsTrue, codes, decimal, nat_lt}
use Rattle.std.specs.Fmt.{signed_decimal}
use Rattle.std.specs.Int.{bit_at}
use Rattle.std.specs.List.{flat_map, range_with_len, zip}
use Rattle.std.proofs.lemmas.Bool.{cases_lt}
use Rattle.std.proofs.lemmas.Bool.Decides.{nat_tests}
use Rattle.std.proofs.lemmas.Nat.Bits.{bit_at-zero}
use Rattle.std.proofs.lemmas.List.{map-append, take_more, length-take-le, take_all, take-append-drop, drop-drop, drop_all}
use Rattle.std.proofs.lemmas.List.Concat.{flat_map-append}
use Rattle.std.proofs.lemmas.List.Elements.{All-nil, All-cons, All-head, All-tail, filter-append}
use Rattle.std.proofs.lemmas.List.Folds.{flat_map-map}
use Rattle.path_graph.specs.declared.parts.Ends.{Ends}
use Rattle.path_graph.specs.declared.set_bits.SetBits.{SetBits}
use Rattle.path_graph.specs.SetBits.{has_set}
use Rattle.rank1_cuts.specs.declared.cut.Cut.{Cut}
use Rattle.route_model.specs.declared.multipliers.Mult.{Mult}
use Rattle.route_model.specs.Parts.{ModelParts}
use Rattle.label_rules.specs.declared.label.Label.{Label}
use Rattle.label_rules.specs.declared.table.ProofTable.{ProofTable}
use Rattle.line_text.specs.Words.{Words, is_none}
use Rattle.line_text.specs.Spelling.{line_of_words, text_of_lines}
use Rattle.line_text.proofs.PlainLineLemmas.{text_of-append, text_of-flat_map}
use Rattle.model_text.specs.ModelText.{used}
use Rattle.model_text.specs.PathText.{path_words, path_line}
use Rattle.certificate.specs.declared.cert.Cert.{Cert}
use Rattle.certificate.specs.declared.cert.Node.{Node}
use Rattle.certificate.specs.declared.cert.NodeForm.{NodeForm}
use Rattle.certificate.specs.declared.cert.NodeForm.TheVariants as node
use Rattle.certificate.specs.declared.cert.Proof.{Proof}
use Rattle.certificate.specs.declared.cert.Trie.{Trie}
use Rattle.certificate.specs.declared.draft.DropLine.{DropLine}
use Rattle.certificate.specs.declared.draft.Head.{Head}
use Rattle.certificate.specs.declared.draft.Head.TheVariants as head
use Rattle.certificate.specs.declared.draft.MultKind.{MultKind}
use Rattle.certificate.specs.declared.draft.MultKind.TheVariants as kind
use Rattle.certificate.specs.declared.draft.MultLine.{MultLine}
use Rattle.certificate.specs.declared.sizes.Sizes.{Sizes}
use Rattle.certificate.specs.SetWords.{members, set_words}
use Rattle.certificate.specs.LabelWords.{Shape, behind_key, label_words}
use Rattle.certificate.specs.Draft.{shape_of}
use Rattle.certificate.specs.Sizes.{sizes_of}
use Rattle.certificate.specs.ProofWords.{mult_words, cut_words, near_words, table_words, drop_words, step_words, head_words}
use Rattle.certificate.specs.CertText.{table_lines, trie_lines, node_lines, goal_words, version_words}
use Rattle.certificate.specs.CertFits.{NodeIsTold}
use Rattle.certificate.specs.CertPrint.{further, kind_lines, mult_lines, cut_line, cut_lines, drop_lines, drops_text, BeginsWith, HasWeights, ProofHasWeights, proof_part, with_proof, draft_of, node_text, cert_text}
use Rattle.certificate.proofs.SetWordLemmas.{is_in, in_filter}
use Rattle.certificate.proofs.MultLines.{line_from}
use Rattle.certificate.proofs.DropRuns.{run_line}
use Rattle.certificate.proofs.DraftFits.{cut_count}

-- Packing sets, word by word of the bits.
range-append : (a n k : ℕ) → range_with_len a (n + k) ≡ range_with_len a n ++ range_with_len (a + n) k
range-append a zero k = let none : 0 + k ≡ k = omega arith in let same : a ≡ a + 0 = omega arith in ap (range_with_len a) none ∙ ap (λ b. range_with_len b k) same
range-append a (suc n) k =
    let more : suc n + k ≡ suc (n + k) = omega arith in
    let next : a + 1 + n ≡ a + suc n = omega arith in
    ap (range_with_len a) more ∙ ap (λ xs. a ∷ xs) (range-append (a + 1) n k ∙ ap (λ b. range_with_len (a + 1) n ++ range_with_len b k) next)

-- the text of those numbers that pass
abbrev passing : (ℕ → Bool) → List ℕ → List ℕ
passing p xs = further (map decimal (filter p xs))

passing-append : (p : ℕ → Bool) (xs ys : List ℕ) → passing p (xs ++ ys) ≡ passing p xs ++ passing p ys
passing-append p xs ys =
    ap (λ zs. further (map decimal zs)) (filter-append p xs ys)
    ∙ (ap further (map-append decimal (filter p xs) (filter p ys)) ∙ flat_map-append (λ word. 32 ∷ word) (map decimal (filter p xs)) (map decimal (filter p ys)))

pub passing_more : (p : ℕ → Bool) (a n k b : ℕ) (old text new : List ℕ) → b ≡ a + n → text ≡ old ++ passing p (range_with_len a n) → new ≡ text ++ passing p (range_with_len b k) → new ≡ old ++ passing p (range_with_len a (n + k))
passing_more p a n k b old text new place so_far more =
    more
    ∙ (ap (λ t. t ++ passing p (range_with_len b k)) so_far
    ∙ (append_assoc old (passing p (range_with_len a n)) (passing p (range_with_len b k))
    ∙ ap (λ t. old ++ t) (ap (λ c. passing p (range_with_len a n) ++ passing p (range_with_len c k)) place
    ∙ (sym (passing-append p (range_with_len a n) (range_with_len (a + n) k)) ∙ ap (passing p) (sym (range-append a n k))))))

all_range : (P : ℕ → Type 0) (a n : ℕ) → ((s : ℕ) → a ≤ s → s < a + n → P s) → All P (range_with_len a n)
all_range P a zero each = All-nil P
all_range P a (suc n) each =
    All-cons P a (range_with_len (a + 1) n) (each a (omega arith) (omega arith)) (all_range P (a + 1) n (λ s low high. each s (omega (arith, low)) (omega (arith, high))))

filter_none : (p : ℕ → Bool) (xs : List ℕ) → All (λ x. p x ≡ false) xs → filter p xs ≡ []
filter_none p [] all = refl
filter_none p (x ∷ xs) all =
    let off = All-head (λ x. p x ≡ false) x xs all in
    rw off (filter_none p xs (All-tail (λ x. p x ≡ false) x xs all))

and_false : (b : Bool) → (b && false) ≡ false
and_false true = refl
and_false false = refl

no_member : (set : SetBits) (w s : ℕ) → slice_index set.bits w ≡ 0 → w * 64 ≤ s → s < w * 64 + 64 → has_set set s ≡ false
unfolding has_set
no_member set w s none low high =
    let place : s / 64 ≡ w = omega (arith, low, high) in
    let bit : bit_at (slice_index set.bits (s / 64)) (s % 64) ≡ 0 = ap (λ k. bit_at (slice_index set.bits k) (s % 64)) place ∙ (ap (λ n. bit_at n (s % 64)) none ∙ bit_at-zero (s % 64)) in
    ap (λ n. nat_lt s 512 && (n == 1)) bit ∙ and_false (nat_lt s 512)

pub no_members : (set : SetBits) (w : ℕ) → slice_index set.bits w ≡ 0 → passing (has_set set) (range_with_len (w * 64) 64) ≡ []
no_members set w none =
    ap (λ xs. further (map decimal xs))
    (filter_none (has_set set) (range_with_len (w * 64) 64) (all_range (λ s. has_set set s ≡ false) (w * 64) 64 (λ s low high. no_member set w s none low high)))

pub all_members : (set : SetBits) → passing (has_set set) (range_with_len 0 512) ≡ further (set_words set)
unfolding members
all_members set = refl

-- a set without members has no words, and one with members has some
pub none_words : (set : SetBits) → ((s : ℕ) → has_set set s ≡ false) → set_words set ≡ []
unfolding members
none_words set none = ap (map decimal) (filter_none (has_set set) (range_with_len 0 512) (λ k d below. none (get_or (range_with_len 0 512) k d)))

none_in : (set : SetBits) (xs : List ℕ) → members set ≡ xs → is_none (map decimal xs) ≡ true → (s : ℕ) → s < 512 → has_set set s ≡ false
unfolding members
none_in set [] is none s below = sym (in_filter (has_set set) 512 0 s (omega arith) (omega (arith, below))) ∙ ap (λ xs. is_in xs s) is
none_in set (x ∷ xs) is none s below = cc

past_all : (set : SetBits) (s : ℕ) → 512 ≤ s → has_set set s ≡ false
unfolding has_set
past_all set s high = let off : nat_lt s 512 ≡ false = grind (arith, nat_tests, high) in rw off refl

pub words_none : (set : SetBits) → is_none (set_words set) ≡ true → (s : ℕ) → has_set set s ≡ false
words_none set none s = elim (cases_lt s 512) [
  | inl below ↦ none_in set (members set) refl none s below
  | inr high ↦ past_all set s high
]

-- Multipliers.
kind_lines-append : (kind : MultKind) (a : ℕ) (xs ys : List ℤ) → kind_lines kind a (xs ++ ys) ≡ kind_lines kind a xs ++ kind_lines kind (a + length xs) ys
kind_lines-append kind a [] ys = let same : a ≡ a + 0 = omega arith in ap (λ k. kind_lines kind k ys) same
kind_lines-append kind a (x ∷ xs) ys =
    let next : a + 1 + length xs ≡ a + suc (length xs) = omega arith in
    ap (λ ls. line_from kind a x ++ ls) (kind_lines-append kind (a + 1) xs ys ∙ ap (λ k. kind_lines kind (a + 1) xs ++ kind_lines kind k ys) next)
    ∙ sym (append_assoc (line_from kind a x) (kind_lines kind (a + 1) xs) (kind_lines kind (a + suc (length xs)) ys))

pub kind_more : (f : MultLine → List ℕ) (kind : MultKind) (values : List ℤ) (k : ℕ) (v d : ℤ) (old text new : List ℕ) → k < length values → v ≡ get_or values k d → text ≡ old ++ flat_map f (kind_lines kind 0 (take k values)) → new ≡ text ++ flat_map f (kind_lines kind k (v ∷ [])) → new ≡ old ++ flat_map f (kind_lines kind 0 (take (k + 1) values))
kind_more f kind values k v d old text new below is so_far more =
    let count : 0 + length (take k values) ≡ k = let size = length-take-le k values (omega (arith, below)) in omega (arith, size) in
    let parts : kind_lines kind 0 (take (k + 1) values) ≡ kind_lines kind 0 (take k values) ++ kind_lines kind k (v ∷ []) =
    ap (kind_lines kind 0) (take_more values k d below ∙ ap (λ x. take k values ++ x ∷ []) (sym is))
    ∙ (kind_lines-append kind 0 (take k values) (v ∷ []) ∙ ap (λ n. kind_lines kind 0 (take k values) ++ kind_lines kind n (v ∷ [])) count) in
    more
    ∙ (ap (λ t. t ++ flat_map f (kind_lines kind k (v ∷ []))) so_far
    ∙ (append_assoc old (flat_map f (kind_lines kind 0 (take k values))) (flat_map f (kind_lines kind k (v ∷ [])))
    ∙ ap (λ t. old ++ t) (sym (flat_map-append f (kind_lines kind 0 (take k values)) (kind_lines kind k (v ∷ []))) ∙ ap (flat_map f) (sym parts))))

-- Dropped arcs, run by run.
run_text : (graph : ℕ) (run rest : List (ℕ × ℕ)) → 1 ≤ length run → All (λ d. d.0 ≡ graph) run → ¬ (BeginsWith graph rest) → drops_text (run ++ rest) ≡ line_of_words (drop_words (record { graph = graph; arcs = map (λ d. d.1) run })) ++ drops_text rest
run_text graph [] rest some same other = absurd (omega (arith, some))
run_text graph (d ∷ run) rest some same other = ap (λ ls. text_of_lines (map drop_words ls)) (run_line graph d run rest same other)

pub run_more : (graph : ℕ) (drops : List (ℕ × ℕ)) (count : ℕ) (text new : List ℕ) → BeginsWith graph drops → count ≤ length drops → All (λ d. d.0 ≡ graph) (take count drops) → ¬ (BeginsWith graph (drop count drops)) → new ≡ text ++ line_of_words (drop_words (record { graph = graph; arcs = map (λ d. d.1) (take count drops) })) → (new ++ drops_text (drop count drops) ≡ text ++ drops_text drops) × (1 ≤ count)
run_more graph drops zero text new first within same other more = absurd (other first)
run_more graph drops (suc count) text new first within same other more =
    let run : List (ℕ × ℕ) = take (suc count) drops in
    let rest : List (ℕ × ℕ) = drop (suc count) drops in
    let line : List ℕ = line_of_words (drop_words (record { graph = graph; arcs = map (λ d. d.1) run })) in
    let size : length run ≡ suc count = length-take-le (suc count) drops within in
    let parts : drops_text drops ≡ line ++ drops_text rest = ap drops_text (sym (take-append-drop (suc count) drops)) ∙ run_text graph run rest (omega (arith, size)) same other in (
      ap (λ t. t ++ drops_text rest) more ∙ (append_assoc text line (drops_text rest) ∙ ap (λ t. text ++ t) (sym parts)),
      omega arith,
    )

pub begins_with : (drops : List (ℕ × ℕ)) (d : ℕ × ℕ) → 0 < length drops → BeginsWith (get_or drops 0 d).0 drops
begins_with [] d some = absurd (omega (arith, some))
begins_with (e ∷ drops) d some = refl

-- one run after the other
pub runs_more : (drops : List (ℕ × ℕ)) (from count : ℕ) (text new whole : List ℕ) → new ++ drops_text (drop count (drop from drops)) ≡ text ++ drops_text (drop from drops) → text ++ drops_text (drop from drops) ≡ whole → new ++ drops_text (drop (from + count) drops) ≡ whole
runs_more drops from count text new whole more so_far = ap (λ ds. new ++ drops_text ds) (sym (drop-drop count from drops)) ∙ (more ∙ so_far)

pub runs_end : (drops : List (ℕ × ℕ)) (from : ℕ) (text whole : List ℕ) → length drops ≤ from → text ++ drops_text (drop from drops) ≡ whole → text ≡ whole
runs_end drops from text whole past so_far = sym (ap (λ ds. text ++ drops_text ds) (drop_all from drops past) ∙ append-nil text) ∙ so_far

-- pieces one after the other
pub two_pieces : (old a new x y : List ℕ) → a ≡ old ++ x → new ≡ a ++ y → new ≡ old ++ (x ++ y)
two_pieces old a new x y p q = rw (q, p) (append_assoc old x y)

pub three_pieces : (old a b new x y z : List ℕ) → a ≡ old ++ x → b ≡ a ++ y → new ≡ b ++ z → new ≡ old ++ (x ++ (y ++ z))
three_pieces old a b new x y z p q r = two_pieces old a new x (y ++ z) p (two_pieces a b new y z q r)

pub four_pieces : (old a b c new w x y z : List ℕ) → a ≡ old ++ w → b ≡ a ++ x → c ≡ b ++ y → new ≡ c ++ z → new ≡ old ++ (w ++ (x ++ (y ++ z)))
four_pieces old a b c new w x y z p q r t = two_pieces old a new w (x ++ (y ++ z)) p (three_pieces a b c new x y z q r t)

pub five_pieces : (old a b c d new v w x y z : List ℕ) → a ≡ old ++ v → b ≡ a ++ w → c ≡ b ++ x → d ≡ c ++ y → new ≡ d ++ z → new ≡ old ++ (v ++ (w ++ (x ++ (y ++ z))))
five_pieces old a b c d new v w x y z o p q r t = two_pieces old a new v (w ++ (x ++ (y ++ z))) o (four_pieces a b c d new w x y z p q r t)

-- Nodes.
proof_lines : (s : Sizes) (h : Head) (p : Proof) (drops : List DropLine) (tries : List Trie) → length p.mult.cuts ≡ length p.cuts → node_lines s (record (with_proof h p) { drops = drops; tries = tries }) ≡ head_words h ∷ (proof_part s p ++ (map drop_words drops ++ flat_map trie_lines tries))
proof_lines s h p drops tries count =
    let M : List Words = map mult_words (mult_lines p.mult) in
    let C : List Words = map cut_words (cut_lines p.mult.cuts p.cuts) in
    let N : List Words = map near_words p.near in
    let T : List Words = flat_map (table_lines s (length p.cuts)) p.tables in
    let R : List Words = map drop_words drops ++ flat_map trie_lines tries in
    ap (λ k. head_words h ∷ M ++ (C ++ (N ++ (flat_map (table_lines s k) p.tables ++ R)))) (cut_count p.mult.cuts p.cuts count)
    ∙ ap (λ ls. head_words h ∷ ls) (grouped M C N T R)
  where
    grouped : (a b c d e : List Words) → a ++ (b ++ (c ++ (d ++ e))) ≡ (a ++ (b ++ (c ++ d))) ++ e
    grouped a b c d e = sym (append_assoc a (b ++ (c ++ d)) e ∙ ap (λ ls. a ++ ls) (append_assoc b (c ++ d) e ∙ ap (λ ls. b ++ ls) (append_assoc c d e)))

pub proof_text : (s : Sizes) (h : Head) (p : Proof) (drops : List DropLine) (tries : List Trie) → length p.mult.cuts ≡ length p.cuts → text_of_lines (node_lines s (record (with_proof h p) { drops = drops; tries = tries })) ≡ line_of_words (head_words h) ++ (text_of_lines (proof_part s p) ++ (text_of_lines (map drop_words drops) ++ text_of_lines (flat_map trie_lines tries)))
proof_text s h p drops tries count =
    ap text_of_lines (proof_lines s h p drops tries count)
    ∙ ap (λ t. line_of_words (head_words h) ++ t) (text_of-append (proof_part s p) _ refl (text_of-append (map drop_words drops) (flat_map trie_lines tries) refl refl))

-- the text of a line for each thing
pub lines_text : {A : Type 0} (f : A → Words) (xs : List A) → text_of_lines (map f xs) ≡ flat_map (λ x. line_of_words (f x)) xs
lines_text f xs = flat_map-map line_of_words f xs

pub proof_part_text : (s : Sizes) (p : Proof) → text_of_lines (proof_part s p) ≡ text_of_lines (map mult_words (mult_lines p.mult)) ++ (text_of_lines (map cut_words (cut_lines p.mult.cuts p.cuts)) ++ (flat_map (λ l. line_of_words (near_words l)) p.near ++ flat_map (λ t. text_of_lines (table_lines s (length p.cuts) t)) p.tables))
proof_part_text s p =
    text_of-append (map mult_words (mult_lines p.mult)) _ refl
    (text_of-append (map cut_words (cut_lines p.mult.cuts p.cuts)) _ refl
    (text_of-append (map near_words p.near) _ (lines_text near_words p.near) (text_of-flat_map (table_lines s (length p.cuts)) (λ t. text_of_lines (table_lines s (length p.cuts) t)) (λ t. refl) p.tables)))

-- The whole text.
pub cert_text_parts : (m : ModelParts) (c : Cert) → cert_text m c ≡ line_of_words (goal_words c.goal) ++ (flat_map path_line c.plan.paths ++ (line_of_words version_words ++ (flat_map (λ n. node_text (sizes_of m) n.form) c.nodes ++ line_of_words (codes "end" ∷ []))))
cert_text_parts m c =
    let s : Sizes = sizes_of m in
    let nodes : text_of_lines (flat_map (node_lines s) (map (λ (n : Node). draft_of n.form) c.nodes)) ≡ flat_map (λ (n : Node). node_text s n.form) c.nodes =
    ap text_of_lines (flat_map-map (node_lines s) (λ (n : Node). draft_of n.form) c.nodes) ∙ text_of-flat_map (λ (n : Node). node_lines s (draft_of n.form)) (λ (n : Node). node_text s n.form) (λ n. refl) c.nodes in
    ap (λ t. line_of_words (goal_words c.goal) ++ t)
    (text_of-append (map path_words c.plan.paths) _ (flat_map-map line_of_words path_words c.plan.paths)
    (ap (λ t. line_of_words version_words ++ t) (text_of-append (flat_map (node_lines s) (map (λ (n : Node). draft_of n.form) c.nodes)) ((codes "end" ∷ []) ∷ []) nodes (append-nil (line_of_words (codes "end" ∷ []))))))

-- The line of dropped arcs of a graph.
further_map : {A : Type 0} (f : A → List ℕ) (xs : List A) → further (map f xs) ≡ flat_map (λ x. 32 ∷ f x) xs
further_map f xs = flat_map-map (λ word. 32 ∷ word) f xs

further-append : (us vs : Words) → further (us ++ vs) ≡ further us ++ further vs
further-append us vs = flat_map-append (λ word. 32 ∷ word) us vs

map_map : {A B C : Type 0} (f : B → C) (g : A → B) (xs : List A) → map f (map g xs) ≡ map (λ x. f (g x)) xs
map_map f g [] = refl
map_map f g (x ∷ xs) = ap (λ ys. f (g x) ∷ ys) (map_map f g xs)

pub drop_line : (old a b text new : List ℕ) (graph : ℕ) (drops : List (ℕ × ℕ)) (k : ℕ) → length drops ≤ k → a ≡ old ++ codes "drop" → b ≡ a ++ 32 ∷ decimal graph → text ≡ b ++ further (map (λ (d : ℕ × ℕ). decimal d.1) (take k drops)) → new ≡ text ++ 10 ∷ [] → new ≡ old ++ line_of_words (drop_words (record { graph = graph; arcs = map (λ (d : ℕ × ℕ). d.1) drops }))
drop_line old a b text new graph drops k past first second arcs end =
    let whole : map (λ (d : ℕ × ℕ). decimal d.1) (take k drops) ≡ map decimal (map (λ (d : ℕ × ℕ). d.1) drops) = ap (map (λ (d : ℕ × ℕ). decimal d.1)) (take_all k drops past) ∙ sym (map_map decimal (λ (d : ℕ × ℕ). d.1) drops) in
    four_pieces old a b text new (codes "drop") (32 ∷ decimal graph) (further (map decimal (map (λ (d : ℕ × ℕ). d.1) drops))) (10 ∷ []) first second (arcs ∙ ap (λ ws. b ++ further ws) whole) end
    ∙ ap (λ t. old ++ (codes "drop" ++ t)) (sym (append_assoc (32 ∷ decimal graph) (further (map decimal (map (λ (d : ℕ × ℕ). d.1) drops))) (10 ∷ [])))

-- The parts of the line of a label.
pub values_text : (ends : Ends) (values : List ℤ) (old a new : List ℕ) → a ≡ old ++ flat_map (λ n. 32 ∷ signed_decimal n) (take ends.mains values) → new ≡ a ++ flat_map (λ n. 32 ∷ signed_decimal n) (take (2 + ends.seconds - 2) (drop 2 values)) → new ≡ old ++ further (map signed_decimal (used ends values))
values_text ends values old a new first second =
    let seconds : 2 + ends.seconds - 2 ≡ ends.seconds = omega arith in
    two_pieces old a new _ _ first (second ∙ ap (λ k. a ++ flat_map (λ n. 32 ∷ signed_decimal n) (take k (drop 2 values))) seconds)
    ∙ ap (λ t. old ++ t) (sym (further_map signed_decimal (used ends values) ∙ flat_map-append (λ n. 32 ∷ signed_decimal n) (take ends.mains values) (take ends.seconds (drop 2 values))))

key_text : (key : List ℕ) (words : Words) → is_none words ≡ false → further (behind_key key words) ≡ 32 ∷ key ++ further words
key_text key [] some = cc
key_text key (w ∷ words) some = refl

not_none : (b : Bool) → (b ≡ true → ⊥) → b ≡ false
not_none true off = absurd (off refl)
not_none false off = refl

pub states_text : (states : List ℕ) (old a new : List ℕ) → ¬ (states ≡ []) → a ≡ old ++ 32 ∷ codes "s" → new ≡ a ++ flat_map (λ n. 32 ∷ decimal n) states → new ≡ old ++ further (behind_key (codes "s") (map decimal states))
states_text [] old a new some first second = absurd (some refl)
states_text (x ∷ states) old a new some first second =
    two_pieces old a new (32 ∷ codes "s") (flat_map (λ n. 32 ∷ decimal n) (x ∷ states)) first second
    ∙ ap (λ t. old ++ (32 ∷ codes "s" ++ t)) (sym (further_map decimal (x ∷ states)))

pub memory_none : (memory empty : SetBits) (text : List ℕ) → ((s : ℕ) → has_set empty s ≡ false) → ((s : ℕ) → IsTrue (has_set memory s) → IsTrue (has_set empty s)) → text ≡ text ++ further (behind_key (codes "m") (set_words memory))
memory_none memory empty text none sub =
    let words = none_words memory (λ s. off (has_set memory s) (has_set empty s) (sub s) (none s)) in
    sym (ap (λ ws. text ++ further (behind_key (codes "m") ws)) words ∙ append-nil text)
  where
    off : (b c : Bool) → (IsTrue b → IsTrue c) → c ≡ false → b ≡ false
    off true c sub is = let test : c ≡ true = sub refl in cc
    off false c sub is = refl

pub memory_some : (memory empty : SetBits) (old a new : List ℕ) → ¬ ((s : ℕ) → IsTrue (has_set memory s) → IsTrue (has_set empty s)) → a ≡ old ++ 32 ∷ codes "m" → new ≡ a ++ further (set_words memory) → new ≡ old ++ further (behind_key (codes "m") (set_words memory))
memory_some memory empty old a new some first second =
    let not_all : is_none (set_words memory) ≡ false = not_none (is_none (set_words memory)) (λ none. some (λ s has. off (has_set memory s) has (words_none memory none s))) in
    two_pieces old a new (32 ∷ codes "m") (further (set_words memory)) first second ∙ ap (λ t. old ++ t) (sym (key_text (codes "m") (set_words memory) not_all))
  where
    off : {A : Type 0} (b : Bool) → IsTrue b → b ≡ false → A
    off b is not = let clash : b ≡ true = is in cc

pub label_line : (key : List ℕ) (shape : Shape) (l : Label) (old a b c d e f new : List ℕ) → a ≡ old ++ key → b ≡ a ++ 32 ∷ decimal l.vertex → c ≡ b ++ 32 ∷ signed_decimal l.cost → d ≡ c ++ further (map signed_decimal (used shape.ends l.values.at)) → e ≡ d ++ further (behind_key (codes "m") (set_words l.memory)) → f ≡ e ++ further (behind_key (codes "s") (map decimal (take shape.cuts l.states))) → new ≡ f ++ 10 ∷ [] → new ≡ old ++ line_of_words (key ∷ label_words shape l)
label_line key shape l old a b c d e f new pa pb pc pd pe pf pn =
    let V : Words = map signed_decimal (used shape.ends l.values.at) in
    let M : Words = behind_key (codes "m") (set_words l.memory) in
    let S : Words = behind_key (codes "s") (map decimal (take shape.cuts l.states)) in
    let words : further (V ++ (M ++ S)) ≡ further V ++ (further M ++ further S) = further-append V (M ++ S) ∙ ap (λ t. further V ++ t) (further-append M S) in
    let tail = five_pieces b c d e f new (32 ∷ signed_decimal l.cost) (further V) (further M) (further S) (10 ∷ []) pc pd pe pf pn in
    let whole = three_pieces old a b new key (32 ∷ decimal l.vertex) _ pa pb tail in
    whole
    ∙ ap (λ t. old ++ t)
    (ap (λ t. key ++ t) (grouped (32 ∷ decimal l.vertex) (32 ∷ signed_decimal l.cost) (further V) (further M) (further S) (10 ∷ []) (further (V ++ (M ++ S))) words)
    ∙ sym (append_assoc key ((32 ∷ decimal l.vertex) ++ ((32 ∷ signed_decimal l.cost) ++ further (V ++ (M ++ S)))) (10 ∷ [])))
  where
    grouped : (u v x y z w t : List ℕ) → t ≡ x ++ (y ++ z) → u ++ (v ++ (x ++ (y ++ (z ++ w)))) ≡ (u ++ (v ++ t)) ++ w
    grouped u v x y z w t is = rw is (simp append_assoc)

-- The lines of multipliers.
pub mults_text : (m : Mult) (old a b c new : List ℕ) → a ≡ old ++ flat_map (λ l. line_of_words (mult_words l)) (kind_lines kind.Var 0 m.vars) → b ≡ a ++ flat_map (λ l. line_of_words (mult_words l)) (kind_lines kind.Row 0 m.rows) → c ≡ b ++ flat_map (λ l. line_of_words (mult_words l)) (kind_lines kind.Set 0 m.sets) → new ≡ c ++ flat_map (λ l. line_of_words (mult_words l)) (kind_lines kind.Paths 0 m.paths) → new ≡ old ++ text_of_lines (map mult_words (mult_lines m))
mults_text m old a b c new pa pb pc pn =
    let f : MultLine → List ℕ = λ l. line_of_words (mult_words l) in
    let V : List MultLine = kind_lines kind.Var 0 m.vars in
    let R : List MultLine = kind_lines kind.Row 0 m.rows in
    let S : List MultLine = kind_lines kind.Set 0 m.sets in
    let P : List MultLine = kind_lines kind.Paths 0 m.paths in
    four_pieces old a b c new (flat_map f V) (flat_map f R) (flat_map f S) (flat_map f P) pa pb pc pn
    ∙ ap (λ t. old ++ t)
    (sym (lines_text mult_words (V ++ (R ++ (S ++ P))) ∙ (flat_map-append f V (R ++ (S ++ P)) ∙ ap (λ t. flat_map f V ++ t) (flat_map-append f R (S ++ P) ∙ ap (λ t. flat_map f R ++ t) (flat_map-append f S P)))))

-- A table, and a prefix tree.
pub table_text : (s : Sizes) (cuts : ℕ) (t : ProofTable) (old a b new : List ℕ) → a ≡ old ++ line_of_words (table_words t) → b ≡ a ++ flat_map (λ l. line_of_words (codes "fore" ∷ label_words (shape_of s cuts t) l)) t.fore → new ≡ b ++ flat_map (λ l. line_of_words (codes "back" ∷ label_words (shape_of s cuts t) l)) t.back → new ≡ old ++ text_of_lines (table_lines s cuts t)
table_text s cuts t old a b new pa pb pn =
    let fore : Label → Words = λ l. codes "fore" ∷ label_words (shape_of s cuts t) l in
    let back : Label → Words = λ l. codes "back" ∷ label_words (shape_of s cuts t) l in
    three_pieces old a b new (line_of_words (table_words t)) _ _ pa pb pn
    ∙ ap (λ u. old ++ (line_of_words (table_words t) ++ u)) (sym (text_of-append (map fore t.fore) (map back t.back) (lines_text fore t.fore) (lines_text back t.back)))

pub trie_text : (t : Trie) (old a b c new : List ℕ) → a ≡ old ++ codes "tree" → b ≡ a ++ 32 ∷ decimal t.graph → c ≡ b ++ 10 ∷ [] → new ≡ c ++ flat_map (λ p. line_of_words (step_words p)) t.steps → new ≡ old ++ text_of_lines (trie_lines t)
trie_text t old a b c new pa pb pc pn =
    let first : c ≡ old ++ line_of_words (codes "tree" ∷ decimal t.graph ∷ []) = three_pieces old a b c (codes "tree") (32 ∷ decimal t.graph) (10 ∷ []) pa pb pc ∙ ap (λ u. old ++ (codes "tree" ++ u)) (ends (32 ∷ decimal t.graph)) in
    two_pieces old c new _ _ first pn ∙ ap (λ u. old ++ (line_of_words (codes "tree" ∷ decimal t.graph ∷ []) ++ u)) (sym (lines_text step_words t.steps))
  where
    ends : (u : List ℕ) → u ++ 10 ∷ [] ≡ (u ++ []) ++ 10 ∷ []
    ends u = ap (λ v. v ++ 10 ∷ []) (sym (append-nil u))

-- The text of a node with a proof.
pub close_text : (s : Sizes) (p : Proof) (old a new : List ℕ) → HasWeights p → a ≡ old ++ line_of_words (codes "close" ∷ []) → new ≡ a ++ text_of_lines (proof_part s p) → new ≡ old ++ node_text s (node.Close p)
close_text s p old a new has pa pn =
    two_pieces old a new (line_of_words (codes "close" ∷ [])) (text_of_lines (proof_part s p)) pa pn
    ∙ ap (λ t. old ++ t) (ap (λ t. line_of_words (codes "close" ∷ []) ++ t) (sym (append-nil (text_of_lines (proof_part s p)))) ∙ sym (proof_text s head.Close p [] [] has.0))

pub fix_text : (s : Sizes) (p : Proof) (drops : List (ℕ × ℕ)) (old a b new : List ℕ) → HasWeights p → a ≡ old ++ line_of_words (codes "fix" ∷ []) → b ≡ a ++ text_of_lines (proof_part s p) → new ≡ b ++ drops_text drops → new ≡ old ++ node_text s (node.Fix p drops)
fix_text s p drops old a b new has pa pb pn =
    three_pieces old a b new (line_of_words (codes "fix" ∷ [])) (text_of_lines (proof_part s p)) (drops_text drops) pa pb pn
    ∙ ap (λ t. old ++ t)
    (ap (λ t. line_of_words (codes "fix" ∷ []) ++ (text_of_lines (proof_part s p) ++ t)) (sym (append-nil (drops_text drops))) ∙ sym (proof_text s head.Fix p (drop_lines drops) [] has.0))

pub list_text : (s : Sizes) (p : Proof) (tries : List Trie) (old a b new : List ℕ) → HasWeights p → a ≡ old ++ line_of_words (codes "list" ∷ []) → b ≡ a ++ text_of_lines (proof_part s p) → new ≡ b ++ flat_map (λ t. text_of_lines (trie_lines t)) tries → new ≡ old ++ node_text s (node.List p tries)
list_text s p tries old a b new has pa pb pn =
    three_pieces old a b new (line_of_words (codes "list" ∷ [])) (text_of_lines (proof_part s p)) _ pa pb pn
    ∙ ap (λ t. old ++ t)
    (ap (λ t. line_of_words (codes "list" ∷ []) ++ (text_of_lines (proof_part s p) ++ t)) (sym (text_of-flat_map trie_lines (λ t. text_of_lines (trie_lines t)) (λ t. refl) tries)) ∙ sym (proof_text s head.List p [] tries has.0))

pub has_weights : (m : ModelParts) (f : NodeForm) → NodeIsTold m f → ProofHasWeights f
has_weights m (node.Split split proof) told = tt
has_weights m (node.Close p) told = (told.weights.count, told.few_cuts)
has_weights m (node.Fix p drops) told = (told.0.weights.count, told.0.few_cuts)
has_weights m (node.List p tries) told = (told.0.weights.count, told.0.few_cuts)
has_weights m (node.CountSplit walk at) told = tt
has_weights m (node.CountClose mult) told = tt
has_weights m node.Point told = tt

pub untrue : (b : Bool) → b ≡ false → b ≡ true → ⊥
untrue true off on = cc
untrue false off on = cc

cuts_text : (weights : List ℕ) (cuts : List Cut) → text_of_lines (map cut_words (cut_lines weights cuts)) ≡ flat_map (λ (p : ℕ × Cut). cut_line p.0 p.1) (zip weights cuts)
cuts_text weights cuts = lines_text cut_words (cut_lines weights cuts) ∙ flat_map-map (λ c. line_of_words (cut_words c)) (λ (p : ℕ × Cut). record { weight = p.0; cut = p.1 }) (zip weights cuts)

-- the lines of a proof
pub proof_pieces : (s : Sizes) (p : Proof) (count : ℕ) (old a b c new : List ℕ) → count ≡ length p.cuts → a ≡ old ++ text_of_lines (map mult_words (mult_lines p.mult)) → b ≡ a ++ flat_map (λ (q : ℕ × Cut). cut_line q.0 q.1) (zip p.mult.cuts p.cuts) → c ≡ b ++ flat_map (λ l. line_of_words (near_words l)) p.near → new ≡ c ++ flat_map (λ t. text_of_lines (table_lines s count t)) p.tables → new ≡ old ++ text_of_lines (proof_part s p)
proof_pieces s p count old a b c new is pa pb pc pn =
    four_pieces old a b c new (text_of_lines (map mult_words (mult_lines p.mult))) (text_of_lines (map cut_words (cut_lines p.mult.cuts p.cuts))) _ _ pa (pb ∙ ap (λ t. a ++ t) (sym (cuts_text p.mult.cuts p.cuts))) pc (pn ∙ ap (λ k. c ++ flat_map (λ t. text_of_lines (table_lines s k t)) p.tables) is)
    ∙ ap (λ t. old ++ t) (sym (proof_part_text s p))

-- the whole text, from nothing
pub whole_text : (m : ModelParts) (cert : Cert) (a b c d new : List ℕ) → a ≡ line_of_words (goal_words cert.goal) → b ≡ a ++ flat_map path_line cert.plan.paths → c ≡ b ++ line_of_words version_words → d ≡ c ++ flat_map (λ (n : Node). node_text (sizes_of m) n.form) cert.nodes → new ≡ d ++ line_of_words (codes "end" ∷ []) → new ≡ cert_text m cert
whole_text m cert a b c d new pa pb pc pd pn =
    five_pieces [] a b c d new (line_of_words (goal_words cert.goal)) (flat_map path_line cert.plan.paths) (line_of_words version_words) (flat_map (λ (n : Node). node_text (sizes_of m) n.form) cert.nodes) (line_of_words (codes "end" ∷ [])) pa pb pc pd pn
    ∙ sym (cert_text_parts m cert)
