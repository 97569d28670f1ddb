-- Lines by their first words: one judgement for each rule makes one for the line.
use Rattle.std.proofs.Common.{◌≡◌, ℕ, Bool, true, false, List, [], ◌∷◌, ◌++◌, map, refl, ap, subst, sym, ◌∙◌, None, Ok, Err}
use Rattle.std.specs.Prelude.{All, if◌then◌else◌}
use Rattle.std.specs.List.{list_all}
use Rattle.std.specs.Str.{bytes_eq}
use Rattle.std.proofs.lemmas.List.Elements.{All-cons}
use Rattle.std.proofs.lemmas.Slice.Eq.{bytes_eq-Decides}
use Rattle.vrp_lex.specs.Text.{number_of, is_some_bytes}
use Rattle.line_text.specs.declared.fault.Kind.TheVariants as fault
use Rattle.line_text.specs.Words.{Words, Wants}
use Rattle.line_text.specs.Spelling.{in_printed_form}
use Rattle.line_text.specs.Reading.{Rule, by_rule, by_first_word}
use Rattle.line_text.proofs.PlainLineLemmas.{is_word_byte}
use Rattle.line_text.proofs.PrintedWordLemmas.{IsPrinted, printed_name}
use Rattle.line_text.proofs.NumberWordLemmas.{plain_is, printed_plain}
use Rattle.line_text.proofs.Judgement.{Reads, Spent, Any, AtEnd}

-- a line: its first word, and its further words
pub record Named (I : Type 0) : Type 0 where
  pub name : I → List ℕ
  pub further : I → Words

abbrev pub form_of : {I : Type 0} → Named I → I → Words
form_of named i = named.name i ∷ named.further i

-- a first word is printed, and no number
pub record IsName (w : List ℕ) : Type 0 where
  pub some : is_some_bytes w ≡ true
  pub bytes : list_all is_word_byte w ≡ true
  pub plain : number_of w ≡ None

-- the judgement of a rule
pub record RuleReads {D I : Type 0} (named : Named I) (May : D → I → Type 0) (rule : Rule D I) : Type 0 where
  pub name : IsName rule.name
  pub reads : (d : D) → rule.stands d ≡ true → rule.full d ≡ false → Reads (rule.further d) (λ i. named.name i ≡ rule.name) named.further (May d) AtEnd

abbrev pub AllRead : {D I : Type 0} → Named I → (D → I → Type 0) → List (Rule D I) → Type 0
AllRead named May [] = Unit {0}
AllRead named May (rule ∷ rules) = RuleReads named May rule × AllRead named May rules

-- the line may stand here, and is not too many
abbrev pub Choose : Bool → Type 0 → Type 0 → Type 0
Choose true A B = A
Choose false A B = B

abbrev pub Stands : {D I : Type 0} → Named I → List (Rule D I) → D → I → Type 0
Stands named [] d i = ⊥
Stands named (rule ∷ rules) d i = Choose (bytes_eq (named.name i) rule.name) ((rule.stands d ≡ true) × (rule.full d ≡ false)) (Stands named rules d i)

chosen : {A : Type 0} (B : Type 0) (b : Bool) → b ≡ true → A → Choose b A B
chosen B true is x = x
chosen B false is x = cc

other : (A : Type 0) {B : Type 0} (b : Bool) → b ≡ false → B → Choose b A B
other A true is x = cc
other A false is x = x

equal : (v w : List ℕ) → v ≡ w → bytes_eq v w ≡ true
equal v w = (bytes_eq-Decides v w).1

-- what is read by a rule
record RuleTold {D I : Type 0} (named : Named I) (May : D → I → Type 0) (rules : List (Rule D I)) (d : D) (w : List ℕ) (words : Words) (y : I × Words) : Type 0 where
  pub name : named.name y.0 ≡ w
  pub plain : number_of w ≡ None
  pub stands : Stands named rules d y.0
  pub spent : Spent Any named.further (May d) words y

told : {D I : Type 0} (named : Named I) (May : D → I → Type 0) (rules : List (Rule D I)) → AllRead named May rules → (d : D) (w : List ℕ) (words : Words) (y : I × Words) → by_rule rules d w words ≡ Ok y → RuleTold named May rules d w words y
told named May [] all d w words y h = cc
told {D} {I} named May (rule ∷ rules) all d w words y h = by_name (bytes_eq w rule.name) refl (told named May rules all.1 d w words y) h
  where
    here : (s f : Bool) → rule.stands d ≡ s → rule.full d ≡ f → w ≡ rule.name → (if s then (if f then Err fault.TooMany else rule.further d words) else Err fault.Order) ≡ Ok y → RuleTold named May (rule ∷ rules) d w words y
    here false f s-is f-is same h = cc
    here true true s-is f-is same h = cc
    here true false s-is f-is same h =
        let spent = (all.0.reads d s-is f-is).told words y h in
        record {
          name = spent.knows ∙ sym same;
          plain = ap number_of same ∙ all.0.name.plain;
          stands = chosen (Stands named rules d y.0) (bytes_eq (named.name y.0) rule.name) (equal (named.name y.0) rule.name spent.knows) (s-is, f-is);
          spent = record { front = spent.front; is = spent.is; knows = tt; spells = spent.spells; fits = spent.fits };
        }

    by_name : (b : Bool) → bytes_eq w rule.name ≡ b → (by_rule rules d w words ≡ Ok y → RuleTold named May rules d w words y) → (if b then (if rule.stands d then (if rule.full d then Err fault.TooMany else rule.further d words) else Err fault.Order) else by_rule rules d w words) ≡ Ok y → RuleTold named May (rule ∷ rules) d w words y
    by_name true is others h = here (rule.stands d) (rule.full d) refl refl ((bytes_eq-Decides w rule.name).0 is) h
    by_name false is others h =
        let later = others h in
        record {
          name = later.name;
          plain = later.plain;
          stands = other ((rule.stands d ≡ true) × (rule.full d ≡ false)) (bytes_eq (named.name y.0) rule.name) (ap (λ v. bytes_eq v rule.name) later.name ∙ is) later.stands;
          spent = later.spent;
        }

-- a line that may stand here has a rule
record IsRuled {D I : Type 0} (named : Named I) (May : D → I → Type 0) (rules : List (Rule D I)) (d : D) (i : I) : Type 0 where
  pub name : IsName (named.name i)
  pub wanted : Wants I
  pub reads : Reads wanted (λ i'. named.name i' ≡ named.name i) named.further (May d) AtEnd
  pub same : (words : Words) → by_rule rules d (named.name i) words ≡ wanted words

ruled : {D I : Type 0} (named : Named I) (May : D → I → Type 0) (rules : List (Rule D I)) → AllRead named May rules → (d : D) (i : I) → Stands named rules d i → IsRuled named May rules d i
ruled named May [] all d i stands = absurd stands
ruled {D} {I} named May (rule ∷ rules) all d i stands = by_name (bytes_eq (named.name i) rule.name) refl (ruled named May rules all.1 d i) stands
  where
    by_name : (b : Bool) → bytes_eq (named.name i) rule.name ≡ b → (Stands named rules d i → IsRuled named May rules d i) → Choose b ((rule.stands d ≡ true) × (rule.full d ≡ false)) (Stands named rules d i) → IsRuled named May (rule ∷ rules) d i
    by_name true is others stands =
        let same = (bytes_eq-Decides (named.name i) rule.name).0 is in
        let s = stands.0 in
        let f = stands.1 in
        record {
          name = subst IsName (sym same) all.0.name;
          wanted = rule.further d;
          reads = subst (λ (w : List ℕ). Reads (rule.further d) (λ i'. named.name i' ≡ w) named.further (May d) AtEnd) (sym same) (all.0.reads d s f);
          same = λ words. rw (is, s, f) refl;
        }
    by_name false is others stands =
        let later = others stands in
        record { name = later.name; wanted = later.wanted; reads = later.reads; same = λ words. rw is (later.same words) }

pub by_first_word-reads : {D I : Type 0} (named : Named I) (May : D → I → Type 0) (rules : List (Rule D I)) → AllRead named May rules → (d : D) → Reads (by_first_word rules d) Any (form_of named) (λ i. Stands named rules d i × May d i) AtEnd
by_first_word-reads {D} {I} named May rules all d = record { told = line_told; taken = line_taken; printed = printed }
  where
    line_told : (words : Words) (y : I × Words) → by_first_word rules d words ≡ Ok y → Spent Any (form_of named) (λ i. Stands named rules d i × May d i) words y
    line_told [] y h = cc
    line_told (w ∷ words) y h =
        let is = told named May rules all d w words y h in
        record {
          front = w ∷ is.spent.front;
          is = ap (λ ws. w ∷ ws) is.spent.is;
          knows = tt;
          spells = ap (λ v. v ∷ map in_printed_form is.spent.front) (printed_plain w w is.plain refl ∙ sym is.name) ∙ ap (λ ws. named.name y.0 ∷ ws) is.spent.spells;
          fits = (is.stands, is.spent.fits);
        }

    line_taken : (i : I) (words left : Words) → Any i → Stands named rules d i × May d i → map in_printed_form words ≡ form_of named i → AtEnd left → by_first_word rules d (words ++ left) ≡ Ok (i, left)
    line_taken i [] left k h e f = cc
    line_taken i (w ∷ words) left k h e f =
        let rule = ruled named May rules all d i h.0 in
        let head : in_printed_form w ≡ named.name i = cc in
        let tail : map in_printed_form words ≡ named.further i = cc in
        ap (λ v. by_rule rules d v (words ++ left)) (plain_is w (named.name i) rule.name.plain head)
        ∙ (rule.same (words ++ left) ∙ rule.reads.taken i words left refl h.1 tail f)

    printed : (i : I) → Any i → Stands named rules d i × May d i → All IsPrinted (form_of named i)
    printed i k h =
        let rule = ruled named May rules all d i h.0 in
        All-cons IsPrinted (named.name i) (named.further i) (printed_name (named.name i) rule.name.some rule.name.bytes rule.name.plain) (rule.reads.printed i refl h.1)

-- two first words that differ
pub names_apart : (v w : List ℕ) → bytes_eq v w ≡ false → v ≡ w → ⊥
names_apart v w other same = let clash : false ≡ true = sym other ∙ equal v w same in cc
