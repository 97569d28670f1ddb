-- The laws of a text of lines: what is read is spelled, what is spelled is read, and the printed text alone of all printed texts spells it.
use Rattle.std.proofs.Common.{◌≡◌, ℕ, ◌+◌, Bool, true, false, List, [], ◌∷◌, ◌++◌, map, refl, ap, subst, sym, ◌∙◌, append_assoc, append-nil, Result, Ok, Err}
use Rattle.std.specs.Prelude.{◌==◌, All, filter, count_by, if◌then◌else◌}
use Rattle.std.proofs.lemmas.List.Elements.{All-nil, All-cons, All-head, All-tail}
use Rattle.vrp_lex.specs.Text.{lines_of, words_of, has_bad_byte}
use Rattle.line_text.specs.declared.fault.Kind.{Kind}
use Rattle.line_text.specs.declared.fault.Kind.TheVariants as fault
use Rattle.line_text.specs.declared.fault.TextFault.{TextFault}
use Rattle.line_text.specs.Words.{Words, ◌>>=◌, and_then, give, are_some_words}
use Rattle.line_text.specs.Spelling.{in_printed_form, lines_with_words, text_of_lines, IsPrintedText}
use Rattle.line_text.specs.Reading.{Grammar, reading_of, all_taken, words_read, line_read, at_line, go_on, lines_read, end_wanted, text_read}
use Rattle.line_text.proofs.PlainLineLemmas.{IsPlainLine, text_accepted, lines_with_words-text}
use Rattle.line_text.proofs.PrintedWordLemmas.{IsPrinted, IsPrintedLine, plain_line, lines_stay}
use Rattle.std.proofs.lemmas.List.Folds.{map_fixed}
use Rattle.line_text.proofs.Judgement.{Reads, Any, AtEnd}

-- The judgement of a grammar: before the end, the words of a line are read as an item exactly where they spell it and it may stand
-- there. `Fits` holds of what is told so far, from the first line on.
pub record IsGrammar {D I : Type 0} (g : Grammar D I) (Fits : D → Type 0) (Line : I → Words → Type 0) (form : I → Words) (May : D → I → Type 0) : Type 0 where
  pub some : (i : I) (words : Words) → Line i words → are_some_words words ≡ true
  pub begins : Fits g.empty
  pub keeps : (d : D) (n : ℕ) (i : I) → g.is_ended d ≡ false → Fits d → May d i → Fits (g.put d n i)
  pub told : (d : D) (i : I) (words : Words) → g.is_ended d ≡ false → Fits d → g.item d words ≡ Ok (i, []) → Line i words × May d i
  pub taken : (d : D) (i : I) (words : Words) → g.is_ended d ≡ false → May d i → Line i words → g.item d words ≡ Ok (i, [])
  pub printed : (d : D) (i : I) → g.is_ended d ≡ false → May d i → IsPrintedLine (form i) × Line i (form i)
  pub only : (i : I) (words : Words) → Line i words → map in_printed_form words ≡ words → words ≡ form i

-- words that are those of an item, up to the form of numbers
abbrev pub ByForm : {I : Type 0} → (I → Words) → I → Words → Type 0
ByForm form i words = map in_printed_form words ≡ form i

pub some_of : (form : Words) (words : Words) → are_some_words form ≡ true → map in_printed_form words ≡ form → are_some_words words ≡ true
some_of form [] some e = let none : are_some_words form ≡ false = ap are_some_words (sym e) in cc
some_of form (w ∷ words) some e = refl

pub printed_form : {I : Type 0} (form : I → Words) (i : I) → are_some_words (form i) ≡ true → All IsPrinted (form i) → IsPrintedLine (form i) × ByForm form i (form i)
printed_form form i some each =
    (record { some = some; each = each }, map_fixed in_printed_form (form i) (λ k d below. (each k d below).stays))

pub by_reads : {D I : Type 0} {g : Grammar D I} {form : I → Words} {May : D → I → Type 0} → ((i : I) → are_some_words (form i) ≡ true) → ((d : D) → g.is_ended d ≡ false → Reads (g.item d) Any form (May d) AtEnd) → IsGrammar g (λ _. Unit {0}) (ByForm form) form May
by_reads {D} {I} {g} {form} {May} some reads =
    record {
      some = λ i words e. some_of (form i) words (some i) e;
      begins = tt;
      keeps = λ d n i going fits may. tt;
      told = λ d i words going fits h. told d i words going h;
      taken = λ d i words going may e. ap (g.item d) (sym (append-nil words)) ∙ (reads d going).taken i words [] tt may e refl;
      printed = λ d i going may. printed_form form i (some i) ((reads d going).printed i tt may);
      only = λ i words e stays. sym stays ∙ e;
    }
  where
    told : (d : D) (i : I) (words : Words) → g.is_ended d ≡ false → g.item d words ≡ Ok (i, []) → ByForm form i words × May d i
    told d i words going h =
        let spent = (reads d going).told words (i, []) h in
        let whole : words ≡ spent.front = spent.is ∙ append-nil spent.front in
        (ap (λ (ws : Words). map in_printed_form ws) whole ∙ spent.spells, spent.fits)

-- lines that spell items, line by line
abbrev pub Pairwise : {I : Type 0} → (I → Words → Type 0) → List Words → List I → Type 0
Pairwise Line [] [] = Unit {0}
Pairwise Line (words ∷ lines) (i ∷ items) = Line i words × Pairwise Line lines items
Pairwise Line [] (i ∷ items) = ⊥
Pairwise Line (words ∷ lines) [] = ⊥

pub forms_of : {I : Type 0} (form : I → Words) (lines : List Words) (items : List I) → Pairwise (ByForm form) lines items → map (map in_printed_form) lines ≡ map form items
forms_of form [] [] pairs = refl
forms_of form (words ∷ lines) (i ∷ items) pairs = let here = pairs.0 in let rest = forms_of form lines items pairs.1 in cc
forms_of form [] (i ∷ items) pairs = absurd pairs
forms_of form (words ∷ lines) [] pairs = absurd pairs

pub pairs_of : {I : Type 0} (form : I → Words) (lines : List Words) (items : List I) → map (map in_printed_form) lines ≡ map form items → Pairwise (ByForm form) lines items
pairs_of form [] [] e = tt
pairs_of form (words ∷ lines) (i ∷ items) e =
    let here : map in_printed_form words ≡ form i = cc in
    let rest : map (map in_printed_form) lines ≡ map form items = cc in
    (here, pairs_of form lines items rest)
pairs_of form [] (i ∷ items) e = cc
pairs_of form (words ∷ lines) [] e = cc

-- items one after the other, on lines of some numbers
abbrev pub Runs : {D I : Type 0} → Grammar D I → (D → I → Type 0) → D → List I → D → Type 0
Runs g May d [] e = d ≡ e
Runs g May d (i ∷ items) e = (g.is_ended d ≡ false) × May d i × ((n : ℕ) × Runs g May (g.put d n i) items e)

-- the same, whatever the numbers are
abbrev pub Leads : {D I : Type 0} → Grammar D I → (D → I → Type 0) → D → List I → (D → Type 0) → Type 0
Leads g May d [] Good = Good d
Leads g May d (i ∷ items) Good = (g.is_ended d ≡ false) × May d i × ((n : ℕ) → Leads g May (g.put d n i) items Good)

abbrev pub AreAccepted : List (List ℕ) → Type 0
AreAccepted lines = All (λ line. has_bad_byte line ≡ false) lines

abbrev IsGood : List ℕ → Type 0
IsGood line = has_bad_byte line ≡ false

abbrev wordy : List (List ℕ) → List Words
wordy lines = filter are_some_words (map words_of lines)

-- A line that is read.
pub else_arm : {A : Type 0} (b : Bool) (r : Result A Kind) (kind : Kind) (e : A) → (if b then Err kind else r) ≡ Ok e → (b ≡ false) × (r ≡ Ok e)
else_arm true r kind e h = cc
else_arm false r kind e h = (refl, h)

then_is : {A : Type 0} (b : Bool) (r s : A) → b ≡ false → (if b then r else s) ≡ s
then_is true r s is = cc
then_is false r s is = refl

all_of : {A : Type 0} (r : Result (A × Words) Kind) (e : A) → all_taken r ≡ Ok e → r ≡ Ok (e, [])
all_of (Err kind) e h = cc
all_of (Ok (d, [])) e h = cc
all_of (Ok (d, w ∷ words)) e h = cc

pub record LineTold {D I : Type 0} (g : Grammar D I) (Line : I → Words → Type 0) (May : D → I → Type 0) (d e : D) (n : ℕ) (words : Words) : Type 0 where
  pub going : g.is_ended d ≡ false
  pub item : I
  pub spells : Line item words
  pub may : May d item
  pub next : g.put d n item ≡ e

pub line_told : {D I : Type 0} {g : Grammar D I} {Fits : D → Type 0} {Line : I → Words → Type 0} {form : I → Words} {May : D → I → Type 0} → IsGrammar g Fits Line form May → (d e : D) (n : ℕ) (w : List ℕ) (words : Words) → Fits d → words_read (reading_of g) d n (w ∷ words) ≡ Ok e → LineTold g Line May d e n (w ∷ words)
line_told {D} {I} {g} {Fits} {Line} {form} {May} judged d e n w words fits h =
    let arm = else_arm (g.is_ended d) (all_taken ((g.item d >>= (λ i. give (g.put d n i))) (w ∷ words))) fault.AfterEnd e h in
    by_item (g.item d (w ∷ words)) refl arm.0 (all_of _ e arm.1)
  where
    by_item : (r : Result (I × Words) Kind) → g.item d (w ∷ words) ≡ r → g.is_ended d ≡ false → and_then r (λ i. give (g.put d n i)) ≡ Ok (e, []) → LineTold g Line May d e n (w ∷ words)
    by_item (Err kind) is going h = cc
    by_item (Ok (i, left)) is going h =
        let same : (g.put d n i, left) ≡ (e, []) = cc in
        let none : left ≡ [] = ap (λ (p : D × Words). p.1) same in
        let next : g.put d n i ≡ e = ap (λ (p : D × Words). p.0) same in
        let told = judged.told d i (w ∷ words) going fits (is ∙ ap (λ (ws : Words). Ok (i, ws)) none) in
        record { going = going; item = i; spells = told.0; may = told.1; next = next }

line_taken : {D I : Type 0} {g : Grammar D I} {Fits : D → Type 0} {Line : I → Words → Type 0} {form : I → Words} {May : D → I → Type 0} → IsGrammar g Fits Line form May → (d : D) (n : ℕ) (i : I) (w : List ℕ) (words : Words) → g.is_ended d ≡ false → May d i → Line i (w ∷ words) → words_read (reading_of g) d n (w ∷ words) ≡ Ok (g.put d n i)
line_taken {g = g} judged d n i w words going may e =
    then_is (g.is_ended d) (Err fault.AfterEnd) (all_taken ((g.item d >>= (λ i. give (g.put d n i))) (w ∷ words))) going
    ∙ ap (λ r. all_taken (and_then r (λ i. give (g.put d n i)))) (judged.taken d i (w ∷ words) going may e)

-- Lines that are read.
pub next_of : {A B : Type 0} (n : ℕ) (r : Result A Kind) (next : A → Result B TextFault) (e : B) → go_on (at_line n r) next ≡ Ok e → (d : A) × (r ≡ Ok d) × (next d ≡ Ok e)
next_of n (Ok d) next e h = (d, refl, h)
next_of n (Err kind) next e h = cc

pub record LinesTold {D I : Type 0} (g : Grammar D I) (Line : I → Words → Type 0) (May : D → I → Type 0) (d e : D) (lines : List (List ℕ)) : Type 0 where
  pub accepted : AreAccepted lines
  pub items : List I
  pub words : Pairwise Line (wordy lines) items
  pub runs : Runs g May d items e

by_words : {D I : Type 0} {g : Grammar D I} {Fits : D → Type 0} {Line : I → Words → Type 0} {form : I → Words} {May : D → I → Type 0} → IsGrammar g Fits Line form May → (d next e : D) (n : ℕ) (line : List ℕ) (lines : List (List ℕ)) (words : Words) → IsGood line → words_of line ≡ words → Fits d → words_read (reading_of g) d n words ≡ Ok next → (Fits next → LinesTold g Line May next e lines) → LinesTold g Line May d e (line ∷ lines)
by_words {g = g} {Fits = Fits} {Line = Line} {May = May} judged d next e n line lines [] good is fits h later =
    let same : d ≡ next = cc in
    let rest = later (subst Fits same fits) in
    record {
      accepted = All-cons IsGood line lines good rest.accepted;
      items = rest.items;
      words = subst (λ (ws : Words). Pairwise Line (filter are_some_words (ws ∷ map words_of lines)) rest.items) (sym is) rest.words;
      runs = subst (λ f. Runs g May f rest.items e) (sym same) rest.runs;
    }
by_words {g = g} {Fits = Fits} {Line = Line} {May = May} judged d next e n line lines (w ∷ words) good is fits h later =
    let told = line_told judged d next n w words fits h in
    let rest = later (subst Fits told.next (judged.keeps d n told.item told.going fits told.may)) in
    record {
      accepted = All-cons IsGood line lines good rest.accepted;
      items = told.item ∷ rest.items;
      words = subst (λ (ws : Words). Pairwise Line (filter are_some_words (ws ∷ map words_of lines)) (told.item ∷ rest.items)) (sym is) (told.spells, rest.words);
      runs = (told.going, told.may, (n, subst (λ f. Runs g May f rest.items e) (sym told.next) rest.runs));
    }

pub lines_told : {D I : Type 0} {g : Grammar D I} {Fits : D → Type 0} {Line : I → Words → Type 0} {form : I → Words} {May : D → I → Type 0} → IsGrammar g Fits Line form May → (d e : D) (n : ℕ) (lines : List (List ℕ)) → Fits d → lines_read (reading_of g) d n lines ≡ Ok e → LinesTold g Line May d e lines
lines_told judged d e n [] fits h = let same : d ≡ e = cc in record { accepted = All-nil IsGood; items = []; words = tt; runs = same }
lines_told {g = g} judged d e n (line ∷ lines) fits h =
    let next = next_of n (line_read (reading_of g) d n line) (λ f. lines_read (reading_of g) f (n + 1) lines) e h in
    let good = else_arm (has_bad_byte line) (words_read (reading_of g) d n (words_of line)) fault.Byte next.0 next.1 in
    by_words judged d next.0 e n line lines (words_of line) good.0 refl fits good.1 (λ kept. lines_told judged next.0 e (n + 1) lines kept next.2)

-- Lines that are spelled.
abbrev Led : {D I : Type 0} → Grammar D I → D → ℕ → List (List ℕ) → (D → Type 0) → Type 0
Led {D} g d n lines Good = (e : D) × (lines_read (reading_of g) d n lines ≡ Ok e) × Good e

good_line : {D I : Type 0} (g : Grammar D I) (d : D) (n : ℕ) (line : List ℕ) (lines : List (List ℕ)) (words : Words) (next : D) → IsGood line → words_of line ≡ words → words_read (reading_of g) d n words ≡ Ok next → lines_read (reading_of g) d n (line ∷ lines) ≡ lines_read (reading_of g) next (n + 1) lines
good_line g d n line lines words next good is read =
    ap (λ r. go_on (at_line n r) (λ f. lines_read (reading_of g) f (n + 1) lines))
    (then_is (has_bad_byte line) (Err fault.Byte) (words_read (reading_of g) d n (words_of line)) good ∙ (ap (words_read (reading_of g) d n) is ∙ read))

spelled_by_words : {D I : Type 0} {g : Grammar D I} {Fits : D → Type 0} {Line : I → Words → Type 0} {form : I → Words} {May : D → I → Type 0} → IsGrammar g Fits Line form May → (d : D) (n : ℕ) (line : List ℕ) (lines : List (List ℕ)) (words : Words) (items : List I) (Good : D → Type 0) → IsGood line → words_of line ≡ words → Pairwise Line (wordy (line ∷ lines)) items → Leads g May d items Good → ((next : D) (more : List I) → Pairwise Line (wordy lines) more → Leads g May next more Good → Led g next (n + 1) lines Good) → Led g d n (line ∷ lines) Good
spelled_by_words {g = g} {Line = Line} judged d n line lines [] items Good good is spelled leads later =
    let rest = later d items (subst (λ (ws : Words). Pairwise Line (filter are_some_words (ws ∷ map words_of lines)) items) is spelled) leads in
    (rest.0, good_line g d n line lines [] d good is refl ∙ rest.1, rest.2)
spelled_by_words {Line = Line} judged d n line lines (w ∷ words) [] Good good is spelled leads later =
    absurd (subst (λ (ws : Words). Pairwise Line (filter are_some_words (ws ∷ map words_of lines)) []) is spelled)
spelled_by_words {g = g} {Line = Line} judged d n line lines (w ∷ words) (i ∷ items) Good good is spelled leads later =
    let pairs : Line i (w ∷ words) × Pairwise Line (wordy lines) items = subst (λ (ws : Words). Pairwise Line (filter are_some_words (ws ∷ map words_of lines)) (i ∷ items)) is spelled in
    let rest = later (g.put d n i) items pairs.1 (leads.2 n) in
    (rest.0, good_line g d n line lines (w ∷ words) (g.put d n i) good is (line_taken judged d n i w words leads.0 leads.1 pairs.0) ∙ rest.1, rest.2)

pub lines_taken : {D I : Type 0} {g : Grammar D I} {Fits : D → Type 0} {Line : I → Words → Type 0} {form : I → Words} {May : D → I → Type 0} → IsGrammar g Fits Line form May → (n : ℕ) (lines : List (List ℕ)) (d : D) (items : List I) (Good : D → Type 0) → AreAccepted lines → Pairwise Line (wordy lines) items → Leads g May d items Good → Led g d n lines Good
lines_taken judged n [] d [] Good accepted printed leads = (d, refl, leads)
lines_taken judged n [] d (i ∷ items) Good accepted printed leads = absurd printed
lines_taken judged n (line ∷ lines) d items Good accepted printed leads =
    spelled_by_words judged d n line lines (words_of line) items Good (All-head IsGood line lines accepted) refl printed leads
    (λ next more e l. lines_taken judged (n + 1) lines next more Good (All-tail IsGood line lines accepted) e l)

-- A text tells a value: which items say it.
pub record IsText {D I V : Type 0} (g : Grammar D I) (Fits : D → Type 0) (Line : I → Words → Type 0) (form : I → Words) (May : D → I → Type 0) (value : D → V) (Says : V → List I → Type 0) : Type 0 where
  pub grammar : IsGrammar g Fits Line form May
  pub runs : (items : List I) (e : D) → Runs g May g.empty items e → g.is_ended e ≡ true → Says (value e) items
  pub leads : (v : V) (items : List I) → Says v items → Leads g May g.empty items (λ e. (g.is_ended e ≡ true) × (value e ≡ v))

-- a text spells a value: its bytes are accepted, and its lines with words spell items that say the value
pub record SpellsBy {I V : Type 0} (Line : I → Words → Type 0) (Says : V → List I → Type 0) (text : List ℕ) (v : V) : Type 0 where
  pub accepted : AreAccepted (lines_of text)
  pub items : List I
  pub words : Pairwise Line (lines_with_words text) items
  pub says : Says v items

-- what is read is spelled
pub after_lines : {D I : Type 0} (g : Grammar D I) (text : List ℕ) (e : D) (r : Result D TextFault) → go_on r (end_wanted (reading_of g) text) ≡ Ok e → (r ≡ Ok e) × (g.is_ended e ≡ true)
after_lines g text e (Err f) h = cc
after_lines {D} g text e (Ok d) h = by_end (g.is_ended d) refl h
  where
    by_end : (b : Bool) → g.is_ended d ≡ b → ◌≡◌ {A = Result D TextFault} (if◌then◌else◌ {A = Result D TextFault} b (Ok d) (Err (record { line = 1 + count_by (λ b. b == 10) text; kind = fault.EndMissing }))) (Ok e) → (◌≡◌ {A = Result D TextFault} (Ok d) (Ok e)) × (g.is_ended e ≡ true)
    by_end true is h = let same : d ≡ e = cc in (h, ap g.is_ended (sym same) ∙ is)
    by_end false is h = cc

pub reads_spelled : {D I V : Type 0} {g : Grammar D I} {Fits : D → Type 0} {Line : I → Words → Type 0} {form : I → Words} {May : D → I → Type 0} {value : D → V} {Says : V → List I → Type 0} → IsText g Fits Line form May value Says → (text : List ℕ) (e : D) → text_read (reading_of g) text ≡ Ok e → SpellsBy Line Says text (value e)
reads_spelled {g = g} is text e h =
    let read = after_lines g text e (lines_read (reading_of g) g.empty 1 (lines_of text)) h in
    let told = lines_told is.grammar g.empty e 1 (lines_of text) is.grammar.begins read.0 in
    record { accepted = told.accepted; items = told.items; words = told.words; says = is.runs told.items e told.runs read.1 }

-- what is spelled is read
pub record IsReadAs {D I V : Type 0} (g : Grammar D I) (value : D → V) (text : List ℕ) (v : V) : Type 0 where
  pub told : D
  pub read : text_read (reading_of g) text ≡ Ok told
  pub same : value told ≡ v

pub spelled_reads : {D I V : Type 0} {g : Grammar D I} {Fits : D → Type 0} {Line : I → Words → Type 0} {form : I → Words} {May : D → I → Type 0} {value : D → V} {Says : V → List I → Type 0} → IsText g Fits Line form May value Says → (text : List ℕ) (v : V) → SpellsBy Line Says text v → IsReadAs g value text v
spelled_reads {g = g} {value = value} is text v spells =
    let led = lines_taken is.grammar 1 (lines_of text) g.empty spells.items (λ e. (g.is_ended e ≡ true) × (value e ≡ v)) spells.accepted spells.words (is.leads v spells.items spells.says) in
    record {
      told = led.0;
      read = ap (λ r. go_on r (end_wanted (reading_of g) text)) led.1 ∙ ended led.0 led.2.0;
      same = led.2.1;
    }
  where
    ended : (e : _) → g.is_ended e ≡ true → end_wanted (reading_of g) text e ≡ Ok e
    ended e is = rw is refl

-- a text spells no other value than the one that is read, so at most one value, and none where it has a fault
pub reads_one : {D I V : Type 0} {g : Grammar D I} {Fits : D → Type 0} {Line : I → Words → Type 0} {form : I → Words} {May : D → I → Type 0} {value : D → V} {Says : V → List I → Type 0} → IsText g Fits Line form May value Says → (text : List ℕ) (e : D) (v : V) → text_read (reading_of g) text ≡ Ok e → SpellsBy Line Says text v → v ≡ value e
reads_one {D = D} {value = value} is text e v h spells =
    let reading = spelled_reads is text v spells in
    let both = sym reading.read ∙ h in
    let same : reading.told ≡ e = cc in
    sym reading.same ∙ ap value same

pub spells_one : {D I V : Type 0} {g : Grammar D I} {Fits : D → Type 0} {Line : I → Words → Type 0} {form : I → Words} {May : D → I → Type 0} {value : D → V} {Says : V → List I → Type 0} → IsText g Fits Line form May value Says → (text : List ℕ) (v w : V) → SpellsBy Line Says text v → SpellsBy Line Says text w → v ≡ w
spells_one is text v w spells other =
    let reading = spelled_reads is text w other in
    reads_one is text reading.told v reading.read spells ∙ reading.same

pub fault_spells_nothing : {D I V : Type 0} {g : Grammar D I} {Fits : D → Type 0} {Line : I → Words → Type 0} {form : I → Words} {May : D → I → Type 0} {value : D → V} {Says : V → List I → Type 0} → IsText g Fits Line form May value Says → (text : List ℕ) (first : TextFault) (v : V) → text_read (reading_of g) text ≡ Err first → SpellsBy Line Says text v → ⊥
fault_spells_nothing is text first v h spells =
    let reading = spelled_reads is text v spells in
    let both = sym reading.read ∙ h in
    cc

-- items of a value are printed as words
items_printed : {D I : Type 0} {g : Grammar D I} {Fits : D → Type 0} {Line : I → Words → Type 0} {form : I → Words} {May : D → I → Type 0} → IsGrammar g Fits Line form May → (d : D) (items : List I) (Good : D → Type 0) → Leads g May d items Good → All IsPrintedLine (map form items) × Pairwise Line (map form items) items
items_printed judged d [] Good leads = (All-nil IsPrintedLine, tt)
items_printed {g = g} {form = form} judged d (i ∷ items) Good leads =
    let here = judged.printed d i leads.0 leads.1 in
    let rest = items_printed judged (g.put d 0 i) items Good (leads.2 0) in
    (All-cons IsPrintedLine (form i) (map form items) here.0 rest.0, (here.1, rest.1))

all_plain : (lines : List Words) → All IsPrintedLine lines → All IsPlainLine lines
all_plain lines all = λ k d below. plain_line _ (all k d below)

-- the printed text of items that say a value spells it
pub printed_spells : {D I V : Type 0} {g : Grammar D I} {Fits : D → Type 0} {Line : I → Words → Type 0} {form : I → Words} {May : D → I → Type 0} {value : D → V} {Says : V → List I → Type 0} → IsText g Fits Line form May value Says → (v : V) (items : List I) → Says v items → SpellsBy Line Says (text_of_lines (map form items)) v
printed_spells {g = g} {Line = Line} {form = form} is v items says =
    let all = items_printed is.grammar g.empty items _ (is.leads v items says) in
    let plain = all_plain (map form items) all.0 in
    record {
      accepted = text_accepted (map form items) plain;
      items = items;
      words = subst (λ lines. Pairwise Line lines items) (sym (lines_with_words-text (map form items) plain)) all.1;
      says = says;
    }

-- the text of printed lines has the printed form
pub lines_printed : (lines : List Words) → All IsPrintedLine lines → IsPrintedText (text_of_lines lines)
lines_printed lines all =
    let told = lines_with_words-text lines (all_plain lines all) in
    record {
      spaced = ap text_of_lines (sym told);
      numbers = ap (λ (ls : List Words). map (map in_printed_form) ls) told ∙ (lines_stay lines all ∙ sym told);
    }

pub printed_is_printed : {D I V : Type 0} {g : Grammar D I} {Fits : D → Type 0} {Line : I → Words → Type 0} {form : I → Words} {May : D → I → Type 0} {value : D → V} {Says : V → List I → Type 0} → IsText g Fits Line form May value Says → (v : V) (items : List I) → Says v items → IsPrintedText (text_of_lines (map form items))
printed_is_printed {g = g} {form = form} is v items says =
    lines_printed (map form items) (items_printed is.grammar g.empty items _ (is.leads v items says)).0

-- A text in printed form is that of its items: so where a value has one list of items, its printed text is the only one that spells it.
only_lines : {D I : Type 0} {g : Grammar D I} {Fits : D → Type 0} {Line : I → Words → Type 0} {form : I → Words} {May : D → I → Type 0} → IsGrammar g Fits Line form May → (lines : List Words) (items : List I) → Pairwise Line lines items → map (map in_printed_form) lines ≡ lines → lines ≡ map form items
only_lines judged [] [] pairs stays = refl
only_lines judged [] (i ∷ items) pairs stays = absurd pairs
only_lines judged (words ∷ lines) [] pairs stays = absurd pairs
only_lines judged (words ∷ lines) (i ∷ items) pairs stays =
    let here : map in_printed_form words ≡ words = cc in
    let rest : map (map in_printed_form) lines ≡ lines = cc in
    let first = judged.only i words pairs.0 here in
    let others = only_lines judged lines items pairs.1 rest in
    cc

pub printed_only : {D I V : Type 0} {g : Grammar D I} {Fits : D → Type 0} {Line : I → Words → Type 0} {form : I → Words} {May : D → I → Type 0} {value : D → V} {Says : V → List I → Type 0} → IsText g Fits Line form May value Says → (text : List ℕ) (v : V) → IsPrintedText text → (spells : SpellsBy Line Says text v) → text ≡ text_of_lines (map form spells.items)
printed_only is text v printed spells =
    printed.spaced ∙ ap text_of_lines (only_lines is.grammar (lines_with_words text) spells.items spells.words printed.numbers)

-- a text without a fault spells what is read of it
pub faultless_spells : {D I V : Type 0} {g : Grammar D I} {Fits : D → Type 0} {Line : I → Words → Type 0} {form : I → Words} {May : D → I → Type 0} {value : D → V} {Says : V → List I → Type 0} → IsText g Fits Line form May value Says → (text : List ℕ) → ((first : TextFault) → text_read (reading_of g) text ≡ Err first → ⊥) → (v : V) × SpellsBy Line Says text v
faultless_spells {D} {V = V} {g = g} {Line = Line} {value = value} {Says = Says} is text none = by_result (text_read (reading_of g) text) refl
  where
    by_result : (r : Result D TextFault) → text_read (reading_of g) text ≡ r → (v : V) × SpellsBy Line Says text v
    by_result (Ok e) h = (value e, reads_spelled is text e h)
    by_result (Err first) h = absurd (none first h)

-- Two ways to show that a text tells a value. Onward: each item that may stand puts itself behind the items told so far, and keeps what fits.
pub record IsStep {D I : Type 0} (g : Grammar D I) (May : D → I → Type 0) (items_of : D → List I) (Fits : D → Type 0) : Type 0 where
  pub none : items_of g.empty ≡ []
  pub begins : Fits g.empty
  pub step : (d : D) (n : ℕ) (i : I) → g.is_ended d ≡ false → Fits d → May d i → (items_of (g.put d n i) ≡ items_of d ++ i ∷ []) × Fits (g.put d n i)

runs_on : {D I : Type 0} {g : Grammar D I} {May : D → I → Type 0} {items_of : D → List I} {Fits : D → Type 0} → IsStep g May items_of Fits → (items : List I) (d e : D) → Fits d → Runs g May d items e → (items_of d ++ items ≡ items_of e) × Fits e
runs_on {items_of = items_of} {Fits = Fits} is [] d e fits runs = (append-nil (items_of d) ∙ ap items_of runs, subst Fits runs fits)
runs_on {g = g} {items_of = items_of} is (i ∷ items) d e fits runs =
    let one = is.step d runs.2.0 i runs.0 fits runs.1 in
    let rest = runs_on is items (g.put d runs.2.0 i) e one.1 runs.2.1 in
    (sym (append_assoc (items_of d) (i ∷ []) items) ∙ (ap (λ is. is ++ items) (sym one.0) ∙ rest.0), rest.1)

pub runs_said : {D I : Type 0} {g : Grammar D I} {May : D → I → Type 0} {items_of : D → List I} {Fits : D → Type 0} → IsStep g May items_of Fits → (items : List I) (e : D) → Runs g May g.empty items e → (items ≡ items_of e) × Fits e
runs_said {g = g} is items e runs =
    let on = runs_on is items g.empty e is.begins runs in
    (ap (λ front. front ++ items) (sym is.none) ∙ on.0, on.1)

-- Section by section: items behind one another, and items of one kind with what is told after the front of them.
pub leads_append : {D I : Type 0} (g : Grammar D I) (May : D → I → Type 0) (Good : D → Type 0) (xs ys : List I) (d : D) → Leads g May d xs (λ m. Leads g May m ys Good) → Leads g May d (xs ++ ys) Good
leads_append g May Good [] ys d leads = leads
leads_append g May Good (x ∷ xs) ys d leads = (leads.0, leads.1, λ n. leads_append g May Good xs ys (g.put d n x) (leads.2 n))

pub leads_weaker : {D I : Type 0} (g : Grammar D I) (May : D → I → Type 0) (Good Better : D → Type 0) (xs : List I) (d : D) → ((m : D) → Better m → Good m) → Leads g May d xs Better → Leads g May d xs Good
leads_weaker g May Good Better [] d weaker leads = weaker d leads
leads_weaker g May Good Better (x ∷ xs) d weaker leads = (leads.0, leads.1, λ n. leads_weaker g May Good Better xs (g.put d n x) weaker (leads.2 n))

each_on : {D I X : Type 0} (g : Grammar D I) (May : D → I → Type 0) (At : List X → D → Type 0) (item : X → I) (whole : List X) → ((front : List X) (x : X) (back : List X) (d : D) → front ++ x ∷ back ≡ whole → At front d → (g.is_ended d ≡ false) × May d (item x) × ((n : ℕ) → At (front ++ x ∷ []) (g.put d n (item x)))) → (front back : List X) (d : D) → front ++ back ≡ whole → At front d → Leads g May d (map item back) (At whole)
each_on g May At item whole step front [] d is at = subst (λ xs. At xs d) (sym (append-nil front) ∙ is) at
each_on g May At item whole step front (x ∷ back) d is at =
    let here = step front x back d is at in
    (here.0, here.1, λ n. each_on g May At item whole step (front ++ x ∷ []) back (g.put d n (item x)) (append_assoc front (x ∷ []) back ∙ is) (here.2 n))

pub leads_each : {D I X : Type 0} (g : Grammar D I) (May : D → I → Type 0) (At : List X → D → Type 0) (item : X → I) (whole : List X) → ((front : List X) (x : X) (back : List X) (d : D) → front ++ x ∷ back ≡ whole → At front d → (g.is_ended d ≡ false) × May d (item x) × ((n : ℕ) → At (front ++ x ∷ []) (g.put d n (item x)))) → (d : D) → At [] d → Leads g May d (map item whole) (At whole)
leads_each g May At item whole step d at = each_on g May At item whole step [] whole d refl at
