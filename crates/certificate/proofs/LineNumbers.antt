-- Which lines of a certificate keep their numbers.
use Rattle.std.proofs.Common.{◌≡◌, ℕ, ◌+◌, Bool, true, false, List, [], ◌∷◌, ◌++◌, map, refl, ap, sym, ◌∙◌, append_assoc, append-nil, Ok}
use Rattle.std.specs.Prelude.{if◌then◌else◌}
use Rattle.vrp_lex.specs.Text.{words_of, has_bad_byte}
use Rattle.line_text.specs.declared.fault.Kind.TheVariants as fault
use Rattle.line_text.specs.Words.{Words}
use Rattle.line_text.specs.Spelling.{in_printed_form}
use Rattle.line_text.specs.Reading.{words_read, line_read, lines_read}
use Rattle.line_text.proofs.NumberWordLemmas.{plain_is}
use Rattle.line_text.proofs.RuleReads.{form_of}
use Rattle.line_text.proofs.TextLaws.{line_told, next_of, else_arm}
use Rattle.certificate.specs.declared.cert.Goal.TheVariants as goal
use Rattle.certificate.specs.declared.draft.CertDraft.{CertDraft}
use Rattle.certificate.specs.declared.line_kind.LineKind.{LineKind}
use Rattle.certificate.specs.declared.line_kind.LineKind.TheVariants as line
use Rattle.certificate.specs.declared.sizes.Sizes.{Sizes}
use Rattle.certificate.specs.Sizes.{SizesFit}
use Rattle.certificate.specs.LineKinds.{name_of, Mult, Cut, Near, Table, Fore, Back, Drop, Tree, Pre, Item, Claim, Path, Version, Begin, Inside, End, put}
use Rattle.certificate.specs.declared.draft.Head.TheVariants as head
use Rattle.certificate.specs.Reading.{cert_reading}
use Rattle.certificate.specs.Spelling.{is_numbered, numbers_from}
use Rattle.certificate.proofs.CertReads.{is_name, item_kind, cert_named, CertLine, cert_lines}

abbrev kept_kind : LineKind → Bool
kept_kind line.Fore = false
kept_kind line.Back = false
kept_kind line.Mult = false
kept_kind line.Pre = false
kept_kind line.Split = true
kept_kind line.CountSplit = true
kept_kind line.Close = true
kept_kind line.CountClose = true
kept_kind line.Point = true
kept_kind line.Fix = true
kept_kind line.List = true
kept_kind line.Cut = false
kept_kind line.Near = false
kept_kind line.Table = false
kept_kind line.Drop = false
kept_kind line.Tree = false
kept_kind line.Path = false
kept_kind line.Optimal = true
kept_kind line.Infeasible = true
kept_kind line.Proof = false
kept_kind line.End = true

kept_words : (k : LineKind) (words : Words) → is_numbered (name_of k ∷ words) ≡ kept_kind k
kept_words line.Fore words = refl
kept_words line.Back words = refl
kept_words line.Mult words = refl
kept_words line.Pre words = refl
kept_words line.Split words = refl
kept_words line.CountSplit words = refl
kept_words line.Close words = refl
kept_words line.CountClose words = refl
kept_words line.Point words = refl
kept_words line.Fix words = refl
kept_words line.List words = refl
kept_words line.Cut words = refl
kept_words line.Near words = refl
kept_words line.Table words = refl
kept_words line.Drop words = refl
kept_words line.Tree words = refl
kept_words line.Path words = refl
kept_words line.Optimal words = refl
kept_words line.Infeasible words = refl
kept_words line.Proof words = refl
kept_words line.End words = refl

other_kept : (i : Item) (words : Words) → map in_printed_form words ≡ form_of cert_named i → is_numbered words ≡ kept_kind (item_kind i)
other_kept i [] e = cc
other_kept i (w ∷ words) e =
    let head : in_printed_form w ≡ name_of (item_kind i) = cc in
    let same = plain_is w (name_of (item_kind i)) (is_name (item_kind i)).plain head in
    ap (λ v. is_numbered (v ∷ words)) same ∙ kept_words (item_kind i) words

line_kept : (i : Item) (words : Words) → CertLine i words → is_numbered words ≡ kept_kind (item_kind i)
line_kept (Claim g) words e = other_kept (Claim g) words e
line_kept (Path t) words e = other_kept (Path t) words e
line_kept Version words e = ap is_numbered e ∙ kept_words line.Proof ((49 ∷ []) ∷ [])
line_kept (Begin h) words e = other_kept (Begin h) words e
line_kept (Inside i) words e = other_kept (Inside i) words e
line_kept End words e = other_kept End words e

-- the numbers with one more line
abbrev grown : List ℕ → ℕ → Bool → List ℕ
grown lines n b = if b then lines ++ n ∷ [] else lines

put_lines : (d : CertDraft) (n : ℕ) (i : Item) → (put d n i).lines ≡ grown d.lines n (kept_kind (item_kind i))
put_lines d n (Claim (goal.Optimal cost)) = refl
put_lines d n (Claim goal.Infeasible) = refl
put_lines d n (Path t) = refl
put_lines d n Version = refl
put_lines d n (Begin (head.Split split)) = refl
put_lines d n (Begin head.Close) = refl
put_lines d n (Begin head.Fix) = refl
put_lines d n (Begin head.List) = refl
put_lines d n (Begin (head.CountSplit walk at)) = refl
put_lines d n (Begin head.CountClose) = refl
put_lines d n (Begin head.Point) = refl
put_lines d n (Inside (Mult m)) = refl
put_lines d n (Inside (Cut c)) = refl
put_lines d n (Inside (Near l)) = refl
put_lines d n (Inside (Table t)) = refl
put_lines d n (Inside (Fore shape l)) = refl
put_lines d n (Inside (Back shape l)) = refl
put_lines d n (Inside (Drop l)) = refl
put_lines d n (Inside (Tree g)) = refl
put_lines d n (Inside (Pre p)) = refl
put_lines d n End = refl

grown_on : (lines : List ℕ) (n : ℕ) (b : Bool) (more : List ℕ) → grown lines n b ++ more ≡ lines ++ (if b then n ∷ more else more)
grown_on lines n true more = append_assoc lines (n ∷ []) more
grown_on lines n false more = refl

words_numbers : (s : Sizes) → SizesFit s → (d next : CertDraft) (n : ℕ) (words : Words) → words_read (cert_reading s) d n words ≡ Ok next → next.lines ≡ grown d.lines n (is_numbered words)
words_numbers s fit d next n [] h = let same : d ≡ next = cc in ap (λ (e : CertDraft). e.lines) (sym same)
words_numbers s fit d next n (w ∷ words) h =
    let told = line_told (cert_lines s fit) d next n w words tt h in
    ap (λ (e : CertDraft). e.lines) (sym told.next) ∙ (put_lines d n told.item ∙ ap (grown d.lines n) (sym (line_kept told.item (w ∷ words) told.spells)))

pub lines_numbers : (s : Sizes) → SizesFit s → (d e : CertDraft) (n : ℕ) (lines : List (List ℕ)) → lines_read (cert_reading s) d n lines ≡ Ok e → e.lines ≡ d.lines ++ numbers_from n lines
lines_numbers s fit d e n [] h = let same : d ≡ e = cc in ap (λ (f : CertDraft). f.lines) (sym same) ∙ sym (append-nil d.lines)
lines_numbers s fit d e n (line ∷ lines) h =
    let next = next_of n (line_read (cert_reading s) d n line) (λ f. lines_read (cert_reading s) f (n + 1) lines) e h in
    let good = else_arm (has_bad_byte line) (words_read (cert_reading s) d n (words_of line)) fault.Byte next.0 next.1 in
    let here = words_numbers s fit d next.0 n (words_of line) good.1 in
    lines_numbers s fit next.0 e (n + 1) lines next.2
    ∙ (ap (λ ls. ls ++ numbers_from (n + 1) lines) here ∙ grown_on d.lines n (is_numbered (words_of line)) (numbers_from (n + 1) lines))
