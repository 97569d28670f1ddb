-- The words of the items of a certificate are the lines of its text.
use Rattle.std.proofs.Common.{◌≡◌, ℕ, false, List, [], ◌∷◌, ◌++◌, length, map, refl, ap, ◌∙◌}
use Rattle.std.specs.Prelude.{codes, decimal}
use Rattle.std.specs.List.{flat_map}
use Rattle.std.proofs.lemmas.List.{map-append}
use Rattle.label_rules.specs.declared.table.ProofTable.{ProofTable}
use Rattle.line_text.specs.Words.{Words}
use Rattle.line_text.specs.Spelling.{in_printed_form}
use Rattle.line_text.proofs.RuleReads.{form_of}
use Rattle.line_text.proofs.TextLaws.{Pairwise}
use Rattle.model_text.specs.PathText.{path_words}
use Rattle.certificate.specs.declared.cert.Goal.{Goal}
use Rattle.certificate.specs.declared.cert.Goal.TheVariants as goal
use Rattle.certificate.specs.declared.cert.Trie.{Trie}
use Rattle.certificate.specs.declared.draft.Head.{Head}
use Rattle.certificate.specs.declared.draft.Head.TheVariants as head
use Rattle.certificate.specs.declared.draft.NodeDraft.{NodeDraft}
use Rattle.certificate.specs.declared.sizes.Sizes.{Sizes}
use Rattle.certificate.specs.LabelWords.{label_words}
use Rattle.certificate.specs.ProofWords.{head_words, mult_words, cut_words, near_words, drop_words, step_words}
use Rattle.certificate.specs.Draft.{shape_of}
use Rattle.certificate.specs.LineKinds.{Item, Claim, Path, Version, Begin, Inside, End, Table, Fore, Back, Pre}
use Rattle.certificate.specs.CertText.{Written, table_lines, trie_lines, node_lines, goal_words, claim_lines, proof_lines}
use Rattle.certificate.proofs.CertReads.{cert_named, opens, CertLine}
use Rattle.certificate.proofs.CertSteps.{bare, table_items, trie_items, mult_item, cut_item, near_item, drop_item, node_items}

abbrev pub form : Item → Words
form i = form_of cert_named i

map_map : {A B C : Type 0} (f : B → C) (g : A → B) (h : A → C) → ((x : A) → f (g x) ≡ h x) → (xs : List A) → map f (map g xs) ≡ map h xs
map_map f g h same [] = refl
map_map f g h same (x ∷ xs) = let here = same x in let rest = map_map f g h same xs in cc

map_flat : {A B C : Type 0} (f : B → C) (g : A → List B) (h : A → List C) → ((x : A) → map f (g x) ≡ h x) → (xs : List A) → map f (flat_map g xs) ≡ flat_map h xs
map_flat f g h same [] = refl
map_flat f g h same (x ∷ xs) = map-append f (g x) (flat_map g xs) ∙ (ap (λ ys. ys ++ map f (flat_map g xs)) (same x) ∙ ap (λ ys. h x ++ ys) (map_flat f g h same xs))

pub map_two : {A B : Type 0} (f : A → B) (xs ys : List A) {us vs : List B} → map f xs ≡ us → map f ys ≡ vs → map f (xs ++ ys) ≡ us ++ vs
map_two f xs ys {us} {vs} p q = map-append f xs ys ∙ (ap (λ zs. zs ++ map f ys) p ∙ ap (λ zs. us ++ zs) q)

head_form : (h : Head) → form (Begin h) ≡ head_words h
head_form (head.Split split) = refl
head_form head.Close = refl
head_form head.Fix = refl
head_form head.List = refl
head_form (head.CountSplit walk at) = refl
head_form head.CountClose = refl
head_form head.Point = refl

table_forms : (s : Sizes) (cuts : ℕ) (t : ProofTable) → map form (table_items s cuts t) ≡ table_lines s cuts t
table_forms s cuts t =
    ap (λ ls. form (Inside (Table (bare t))) ∷ ls)
    (map_two form _ _ (map_map form (λ l. Inside (Fore (shape_of s cuts t) l)) (λ l. codes "fore" ∷ label_words (shape_of s cuts t) l) (λ l. refl) t.fore)
    (map_map form (λ l. Inside (Back (shape_of s cuts t) l)) (λ l. codes "back" ∷ label_words (shape_of s cuts t) l) (λ l. refl) t.back))

trie_forms : (t : Trie) → map form (trie_items t) ≡ trie_lines t
trie_forms t = ap (λ ls. (codes "tree" ∷ decimal t.graph ∷ []) ∷ ls) (map_map form (λ p. Inside (Pre p)) step_words (λ p. refl) t.steps)

node_forms : (s : Sizes) (n : NodeDraft) → map form (node_items s n) ≡ node_lines s n
node_forms s n =
    ap (λ l. l ∷ map form (map mult_item n.mults ++ (map cut_item n.cuts ++ (map near_item n.near ++ (flat_map (table_items s (length n.cuts)) n.tables ++ (map drop_item n.drops ++ flat_map trie_items n.tries)))))) (head_form n.head)
    ∙ ap (λ ls. head_words n.head ∷ ls)
    (map_two form _ _ (map_map form mult_item mult_words (λ m. refl) n.mults)
    (map_two form _ _ (map_map form cut_item cut_words (λ c. refl) n.cuts)
    (map_two form _ _ (map_map form near_item near_words (λ l. refl) n.near)
    (map_two form _ _ (map_flat form (table_items s (length n.cuts)) (table_lines s (length n.cuts)) (table_forms s (length n.cuts)) n.tables)
    (map_two form _ _ (map_map form drop_item drop_words (λ d. refl) n.drops) (map_flat form trie_items trie_lines trie_forms n.tries))))))

-- the lines before the line of the version, and those behind it
abbrev pub claim_part : Written → List Item
claim_part w = Claim w.goal ∷ map (λ t. Path t) w.plan.paths

abbrev pub proof_part : Sizes → Written → List Item
proof_part s w = flat_map (node_items s) w.nodes ++ End ∷ []

goal_form : (g : Goal) → form (Claim g) ≡ goal_words g
goal_form (goal.Optimal cost) = refl
goal_form goal.Infeasible = refl

pub claim_forms : (w : Written) → map form (claim_part w) ≡ claim_lines w
claim_forms w =
    ap (λ l. l ∷ map form (map (λ t. Path t) w.plan.paths)) (goal_form w.goal) ∙ ap (λ ls. goal_words w.goal ∷ ls) (map_map form (λ t. Path t) path_words (λ t. refl) w.plan.paths)

pub proof_forms : (s : Sizes) (w : Written) → map form (proof_part s w) ≡ proof_lines s w
proof_forms s w = map_two form _ _ (map_flat form (node_items s) (node_lines s) (node_forms s) w.nodes) refl

-- items none of which is the version
abbrev pub Plain : List Item → Type 0
Plain [] = Unit {0}
Plain (i ∷ items) = (opens i ≡ false) × Plain items

plain_map : {A : Type 0} (f : A → Item) → ((x : A) → opens (f x) ≡ false) → (xs : List A) → Plain (map f xs)
plain_map f off [] = tt
plain_map f off (x ∷ xs) = (off x, plain_map f off xs)

plain_two : (xs ys : List Item) → Plain xs → Plain ys → Plain (xs ++ ys)
plain_two [] ys p q = q
plain_two (x ∷ xs) ys p q = (p.0, plain_two xs ys p.1 q)

plain_flat : {A : Type 0} (f : A → List Item) → ((x : A) → Plain (f x)) → (xs : List A) → Plain (flat_map f xs)
plain_flat f off [] = tt
plain_flat f off (x ∷ xs) = plain_two (f x) (flat_map f xs) (off x) (plain_flat f off xs)

plain_table : (s : Sizes) (cuts : ℕ) (t : ProofTable) → Plain (table_items s cuts t)
plain_table s cuts t = (refl, plain_two _ _ (plain_map (λ l. Inside (Fore (shape_of s cuts t) l)) (λ l. refl) t.fore) (plain_map (λ l. Inside (Back (shape_of s cuts t) l)) (λ l. refl) t.back))

plain_trie : (t : Trie) → Plain (trie_items t)
plain_trie t = (refl, plain_map (λ p. Inside (Pre p)) (λ p. refl) t.steps)

plain_node : (s : Sizes) (n : NodeDraft) → Plain (node_items s n)
plain_node s n = (
  refl,
  plain_two _ _ (plain_map mult_item (λ m. refl) n.mults) (plain_two _ _ (plain_map cut_item (λ c. refl) n.cuts) (plain_two _ _ (plain_map near_item (λ l. refl) n.near)
      (plain_two _ _ (plain_flat (table_items s (length n.cuts)) (plain_table s (length n.cuts)) n.tables) (plain_two _ _ (plain_map drop_item (λ d. refl) n.drops) (plain_flat trie_items plain_trie n.tries))))),
)

pub plain_claim : (w : Written) → Plain (claim_part w)
plain_claim w = (refl, plain_map (λ t. Path t) (λ t. refl) w.plan.paths)

pub plain_proof : (s : Sizes) (w : Written) → Plain (proof_part s w)
plain_proof s w = plain_two _ _ (plain_flat (node_items s) (plain_node s) w.nodes) (refl, tt)

-- their lines are told up to the form of numbers
line_form : (i : Item) (words : Words) → opens i ≡ false → CertLine i words → map in_printed_form words ≡ form i
line_form (Claim g) words off e = e
line_form (Path t) words off e = e
line_form Version words off e = cc
line_form (Begin h) words off e = e
line_form (Inside i) words off e = e
line_form End words off e = e

form_line : (i : Item) (words : Words) → opens i ≡ false → map in_printed_form words ≡ form i → CertLine i words
form_line (Claim g) words off e = e
form_line (Path t) words off e = e
form_line Version words off e = cc
form_line (Begin h) words off e = e
form_line (Inside i) words off e = e
form_line End words off e = e

pub lines_form : (lines : List Words) (items : List Item) → Plain items → Pairwise CertLine lines items → map (map in_printed_form) lines ≡ map form items
lines_form [] [] plain pairs = refl
lines_form (words ∷ lines) (i ∷ items) plain pairs = let here = line_form i words plain.0 pairs.0 in let rest = lines_form lines items plain.1 pairs.1 in cc
lines_form [] (i ∷ items) plain pairs = absurd pairs
lines_form (words ∷ lines) [] plain pairs = absurd pairs

pub form_lines : (lines : List Words) (items : List Item) → Plain items → map (map in_printed_form) lines ≡ map form items → Pairwise CertLine lines items
form_lines [] [] plain e = tt
form_lines (words ∷ lines) (i ∷ items) plain e =
    let here : map in_printed_form words ≡ form i = cc in
    let rest : map (map in_printed_form) lines ≡ map form items = cc in
    (form_line i words plain.0 here, form_lines lines items plain.1 rest)
form_lines [] (i ∷ items) plain e = cc
form_lines (words ∷ lines) [] plain e = cc

-- lines of items behind one another
pub record Cut {I : Type 0} (Line : I → Words → Type 0) (lines : List Words) (xs ys : List I) : Type 0 where
  pub front : List Words
  pub back : List Words
  pub is : lines ≡ front ++ back
  pub first : Pairwise Line front xs
  pub second : Pairwise Line back ys

pub pairs_cut : {I : Type 0} (Line : I → Words → Type 0) (lines : List Words) (xs ys : List I) → Pairwise Line lines (xs ++ ys) → Cut Line lines xs ys
pairs_cut Line lines [] ys pairs = record { front = []; back = lines; is = refl; first = tt; second = pairs }
pairs_cut Line [] (x ∷ xs) ys pairs = absurd pairs
pairs_cut Line (words ∷ lines) (x ∷ xs) ys pairs =
    let rest = pairs_cut Line lines xs ys pairs.1 in
    record { front = words ∷ rest.front; back = rest.back; is = ap (λ ls. words ∷ ls) rest.is; first = (pairs.0, rest.first); second = rest.second }

pub pairs_two : {I : Type 0} (Line : I → Words → Type 0) (front back : List Words) (xs ys : List I) → Pairwise Line front xs → Pairwise Line back ys → Pairwise Line (front ++ back) (xs ++ ys)
pairs_two Line [] back [] ys p q = q
pairs_two Line (words ∷ front) back (x ∷ xs) ys p q = (p.0, pairs_two Line front back xs ys p.1 q)
pairs_two Line [] back (x ∷ xs) ys p q = absurd p
pairs_two Line (words ∷ front) back [] ys p q = absurd p
