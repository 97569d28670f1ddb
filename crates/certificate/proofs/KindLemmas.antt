-- Lines by their kinds are lines by the rules of their first words.
use Rattle.std.proofs.Common.{◌≡◌, ℕ, Bool, true, false, List, [], ◌∷◌, map, refl, ap, sym, ◌∙◌, Option, None, Some, Result, Ok, Err}
use Rattle.std.specs.Prelude.{length, find, if◌then◌else◌}
use Rattle.std.specs.Str.{bytes_eq}
use Rattle.std.proofs.lemmas.Bool.{and_parts}
use Rattle.line_text.specs.declared.fault.Kind.{Kind}
use Rattle.line_text.specs.declared.fault.Kind.TheVariants as fault
use Rattle.line_text.specs.Words.{Words, and_then, give, word, known_below}
use Rattle.line_text.specs.Reading.{by_rule}
use Rattle.line_text.proofs.ItemLemmas.{given_twice}
use Rattle.certificate.specs.declared.draft.CertDraft.{CertDraft}
use Rattle.certificate.specs.declared.line_kind.LineKind.{LineKind}
use Rattle.certificate.specs.declared.line_kind.LineKind.TheVariants as line
use Rattle.certificate.specs.declared.sizes.Sizes.{Sizes}
use Rattle.certificate.specs.LabelWords.{label_wanted}
use Rattle.certificate.specs.ProofWords.{mult_wanted, cut_wanted, near_wanted, table_wanted, drop_wanted, step_wanted}
use Rattle.certificate.specs.Draft.{open_node, with_node, shape_in}
use Rattle.certificate.specs.LineKinds.{name_of, kinds, kind_of, stands_in, may_stand, passes_limit, is_inside, Mult, Cut, Near, Table, Fore, Back, Drop, Tree, Pre, Item, Inside, further_wanted, rule_of, put_inside, put, inside_read, kind_read, line_read}
use Rattle.certificate.specs.Reading.{wants_version, cert_item}

pub inside_lines : (s : Sizes) (k : LineKind) (d : CertDraft) (number : ℕ) (words : Words) → is_inside k ≡ true → and_then (inside_read s k (open_node d) words) (λ n. give (with_node d n)) ≡ kind_read s k d number words
inside_lines s line.Fore d number words is = given_twice (label_wanted (shape_in s (open_node d)) words) (λ l. put_inside (open_node d) (Fore (shape_in s (open_node d)) l)) (with_node d) ∙ sym (given_twice (label_wanted (shape_in s (open_node d)) words) (λ l. Inside (Fore (shape_in s (open_node d)) l)) (put d number))
inside_lines s line.Back d number words is = given_twice (label_wanted (shape_in s (open_node d)) words) (λ l. put_inside (open_node d) (Back (shape_in s (open_node d)) l)) (with_node d) ∙ sym (given_twice (label_wanted (shape_in s (open_node d)) words) (λ l. Inside (Back (shape_in s (open_node d)) l)) (put d number))
inside_lines s line.Mult d number words is = given_twice (mult_wanted s (open_node d).mults words) (λ m. put_inside (open_node d) (Mult m)) (with_node d) ∙ sym (given_twice (mult_wanted s (open_node d).mults words) (λ m. Inside (Mult m)) (put d number))
inside_lines s line.Pre d number words is = given_twice (step_wanted words) (λ p. put_inside (open_node d) (Pre p)) (with_node d) ∙ sym (given_twice (step_wanted words) (λ p. Inside (Pre p)) (put d number))
inside_lines s line.Split d number words is = cc
inside_lines s line.CountSplit d number words is = cc
inside_lines s line.Close d number words is = cc
inside_lines s line.CountClose d number words is = cc
inside_lines s line.Point d number words is = cc
inside_lines s line.Fix d number words is = cc
inside_lines s line.List d number words is = cc
inside_lines s line.Cut d number words is = given_twice (cut_wanted s.sets words) (λ c. put_inside (open_node d) (Cut c)) (with_node d) ∙ sym (given_twice (cut_wanted s.sets words) (λ c. Inside (Cut c)) (put d number))
inside_lines s line.Near d number words is = given_twice (near_wanted s (open_node d).near words) (λ l. put_inside (open_node d) (Near l)) (with_node d) ∙ sym (given_twice (near_wanted s (open_node d).near words) (λ l. Inside (Near l)) (put d number))
inside_lines s line.Table d number words is = given_twice (table_wanted s (open_node d).tables words) (λ t. put_inside (open_node d) (Table t)) (with_node d) ∙ sym (given_twice (table_wanted s (open_node d).tables words) (λ t. Inside (Table t)) (put d number))
inside_lines s line.Drop d number words is = given_twice (drop_wanted s words) (λ l. put_inside (open_node d) (Drop l)) (with_node d) ∙ sym (given_twice (drop_wanted s words) (λ l. Inside (Drop l)) (put d number))
inside_lines s line.Tree d number words is = given_twice (known_below (length s.graphs) words) (λ g. put_inside (open_node d) (Tree g)) (with_node d) ∙ sym (given_twice (known_below (length s.graphs) words) (λ g. Inside (Tree g)) (put d number))
inside_lines s line.Path d number words is = cc
inside_lines s line.Optimal d number words is = cc
inside_lines s line.Infeasible d number words is = cc
inside_lines s line.Proof d number words is = cc
inside_lines s line.End d number words is = cc

pub inside_stands : (k : LineKind) (d : CertDraft) → is_inside k ≡ true → may_stand k d ≡ true → stands_in k (open_node d) ≡ true
inside_stands line.Fore d is stands = (and_parts d.opened (stands_in line.Fore (open_node d)) stands).1
inside_stands line.Back d is stands = (and_parts d.opened (stands_in line.Back (open_node d)) stands).1
inside_stands line.Mult d is stands = (and_parts d.opened (stands_in line.Mult (open_node d)) stands).1
inside_stands line.Pre d is stands = (and_parts d.opened (stands_in line.Pre (open_node d)) stands).1
inside_stands line.Split d is stands = cc
inside_stands line.CountSplit d is stands = cc
inside_stands line.Close d is stands = cc
inside_stands line.CountClose d is stands = cc
inside_stands line.Point d is stands = cc
inside_stands line.Fix d is stands = cc
inside_stands line.List d is stands = cc
inside_stands line.Cut d is stands = (and_parts d.opened (stands_in line.Cut (open_node d)) stands).1
inside_stands line.Near d is stands = (and_parts d.opened (stands_in line.Near (open_node d)) stands).1
inside_stands line.Table d is stands = (and_parts d.opened (stands_in line.Table (open_node d)) stands).1
inside_stands line.Drop d is stands = (and_parts d.opened (stands_in line.Drop (open_node d)) stands).1
inside_stands line.Tree d is stands = (and_parts d.opened (stands_in line.Tree (open_node d)) stands).1
inside_stands line.Path d is stands = cc
inside_stands line.Optimal d is stands = cc
inside_stands line.Infeasible d is stands = cc
inside_stands line.Proof d is stands = cc
inside_stands line.End d is stands = cc

-- the kind that a first word tells has the rule of that word
abbrev arm : Sizes → CertDraft → Words → Option LineKind → Result (Item × Words) Kind
arm s d words None = Err fault.Word
arm s d words (Some k) = if may_stand k d then (if passes_limit k d then Err fault.TooMany else further_wanted s k d words) else Err fault.Order

by_kinds : (s : Sizes) (ks : List LineKind) (d : CertDraft) (w : List ℕ) (words : Words) → by_rule (map (rule_of s) ks) d w words ≡ arm s d words (find (λ k. bytes_eq w (name_of k)) ks)
by_kinds s [] d w words = refl
by_kinds s (k ∷ ks) d w words = by_test (bytes_eq w (name_of k)) (by_kinds s ks d w words)
  where
    by_test : (b : Bool) → by_rule (map (rule_of s) ks) d w words ≡ arm s d words (find (λ k. bytes_eq w (name_of k)) ks) → (if b then (if may_stand k d then (if passes_limit k d then Err fault.TooMany else further_wanted s k d words) else Err fault.Order) else by_rule (map (rule_of s) ks) d w words) ≡ arm s d words (if b then Some k else find (λ k. bytes_eq w (name_of k)) ks)
    by_test true later = refl
    by_test false later = later

tests_are : (s : Sizes) (d : CertDraft) (n : ℕ) (stands full : Bool) (r : Result (Item × Words) Kind) → (if stands then (if full then Err fault.TooMany else and_then r (λ i. give (put d n i))) else Err fault.Order) ≡ and_then (if stands then (if full then Err fault.TooMany else r) else Err fault.Order) (λ i. give (put d n i))
tests_are s d n true true r = refl
tests_are s d n true false r = refl
tests_are s d n false full r = refl

arm_read : (s : Sizes) (d : CertDraft) (n : ℕ) (words : Words) (o : Option LineKind) → line_read s d n o words ≡ and_then (arm s d words o) (λ i. give (put d n i))
arm_read s d n words None = refl
arm_read s d n words (Some k) = tests_are s d n (may_stand k d) (passes_limit k d) (further_wanted s k d words)

pub line_is : (s : Sizes) (d : CertDraft) (n : ℕ) (w : List ℕ) (words : Words) → wants_version d (w ∷ words) ≡ false → line_read s d n (kind_of w) words ≡ and_then (cert_item s d (w ∷ words)) (λ i. give (put d n i))
line_is s d n w words off =
    arm_read s d n words (kind_of w) ∙ (ap (λ r. and_then r (λ i. give (put d n i))) (sym (by_kinds s kinds d w words)) ∙ sym (rw off refl))

pub line_by_word : (s : Sizes) (d : CertDraft) (n : ℕ) (whole rest : Words) (w : List ℕ) → word whole ≡ Ok (w, rest) → wants_version d whole ≡ false → line_read s d n (kind_of w) rest ≡ and_then (cert_item s d whole) (λ i. give (put d n i))
line_by_word s d n [] rest w is off = cc
line_by_word s d n (v ∷ words) rest w is off =
    let pair : ◌≡◌ {A = List ℕ × Words} (v, words) (w, rest) = cc in
    let first : v ≡ w = ap (λ (p : List ℕ × Words). p.0) pair in
    let others : words ≡ rest = ap (λ (p : List ℕ × Words). p.1) pair in
    ap (λ u. line_read s d n (kind_of u) rest) (sym first) ∙ (ap (λ us. line_read s d n (kind_of v) us) (sym others) ∙ line_is s d n v words off)
