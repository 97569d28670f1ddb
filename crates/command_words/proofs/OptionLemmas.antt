-- One option among the words.
use Rattle.std.proofs.Common.{◌≡◌, ℕ, ◌+◌, ◌<◌, ◌≤◌, List, [], ◌∷◌, ◌++◌, length, length-append, get_or, drop, length-drop, true, false, Bool, Option, None, Some, arith, sym, ap, subst, ◌∙◌}
use Rattle.std.proofs.lemmas.List.{drop_more}
use Rattle.vrp_lex.specs.Text.{digits_value}
use Rattle.command_words.specs.declared.options.Choice.{Choice}
use Rattle.command_words.specs.declared.options.Named.{Named}
use Rattle.command_words.specs.Commands.{IsSetting, Setting, name_of, words_of}
use Rattle.command_words.specs.Options.{Begins, IsJoined, IsNumber, MatchBeginsBy, MatchJoined, MatchNumber, NoneBegins, NumberStands}

first : List (List ℕ) → List ℕ
first words = get_or words 0 []

pub head_same : (x y : List ℕ) (xs ys : List (List ℕ)) → x ∷ xs ≡ y ∷ ys → x ≡ y
head_same x y xs ys e = ap (λ (l : List (List ℕ)). get_or l 0 []) e

pub tail_same : (x y : List ℕ) (xs ys : List (List ℕ)) → x ∷ xs ≡ y ∷ ys → xs ≡ ys
tail_same x y xs ys e = ap (λ (l : List (List ℕ)). drop 1 l) e

pub no_number_past : (c : Choice) (words : List (List ℕ)) (at : ℕ) → length words ≤ at → (digits : List ℕ) (rest : List (List ℕ)) → IsNumber c digits → drop at words ≡ digits ∷ rest → ⊥
no_number_past c words at past digits rest is e =
    let long = ap (λ (l : List (List ℕ)). length l) e in
    omega (arith, long, past, length-drop at words)

pub no_number : (c : Choice) (words : List (List ℕ)) (at : ℕ) (word : List ℕ) → at < length words → word ≡ get_or words at [] → (IsNumber c word → ⊥)
    → (digits : List ℕ) (rest : List (List ℕ)) → IsNumber c digits → drop at words ≡ digits ∷ rest → ⊥
no_number c words at word within is none digits rest number e =
    let same : get_or words at [] ≡ digits = head_same (get_or words at []) digits (drop (at + 1) words) rest (sym (drop_more words at [] within) ∙ e) in
    none (subst (λ (w : List ℕ). IsNumber c w) (sym (is ∙ same)) number)

pub number_stands : (c : Choice) (words : List (List ℕ)) (at : ℕ) (word : List ℕ) (n : ℕ) → at < length words → word ≡ get_or words at [] → IsNumber c word → n ≡ digits_value word
    → NumberStands c (drop at words) (record { choice = c; number = n; words = 2 })
number_stands c words at word n within is number value = record {
  digits = word;
  is_number = number;
  rest = drop (at + 1) words;
  stands = drop_more words at [] within ∙ ap (λ (w : List ℕ). w ∷ drop (at + 1) words) (sym is);
  said = ap (λ (k : ℕ). record { choice = c; number = k; words = 2 }) value;
}

abbrev pub setting_of : Choice → List ℕ → Bool → Setting
setting_of c digits joined = record { choice = c; digits = digits; joined = joined }

pub begins_apart : (c : Choice) (words : List (List ℕ)) (at : ℕ) (word : List ℕ) (named : Named) → at < length words → word ≡ get_or words at [] → word ≡ name_of c
    → NumberStands c (drop (at + 1) words) named → Begins (drop at words) named
begins_apart c words at word named within is name stands = record {
  setting = setting_of c stands.digits false;
  is_setting = record { digits = stands.is_number.digits_alone; few = stands.is_number.few; some = stands.is_number.some; most = stands.is_number.most };
  rest = stands.rest;
  spelled = drop_more words at [] within ∙ ap (λ (w : List ℕ). w ∷ drop (at + 1) words) (sym is ∙ name) ∙ ap (λ (l : List (List ℕ)). name_of c ∷ l) stands.stands;
  said = stands.said;
}

pub begins_joined : (c : Choice) (words : List (List ℕ)) (at : ℕ) (word : List ℕ) (named : Named) → at < length words → word ≡ get_or words at []
    → IsJoined c word named → Begins (drop at words) named
begins_joined c words at word named within is joined = record {
  setting = setting_of c joined.digits true;
  is_setting = record { digits = joined.is_number.digits_alone; few = joined.is_number.few; some = joined.is_number.some; most = joined.is_number.most };
  rest = drop (at + 1) words;
  spelled = drop_more words at [] within ∙ ap (λ (w : List ℕ). w ∷ drop (at + 1) words) (sym is ∙ joined.spelled);
  said = joined.said;
}

number_of_setting : (s : Setting) → IsSetting s → IsNumber s.choice s.digits
number_of_setting s is = record { digits_alone = is.digits; few = is.few; some = is.some; most = is.most }

-- the word of an option is no longer one with its number
longer : (c : Choice) (digits : List ℕ) → name_of c ≡ name_of c ++ 61 ∷ digits → ⊥
longer c digits e =
    let long = ap (λ (w : List ℕ). length w) e in
    omega (arith, long, length-append (name_of c) (61 ∷ digits))

pub none_apart : (c : Choice) (words : List (List ℕ)) (at : ℕ) (word : List ℕ) → at < length words → word ≡ get_or words at [] → word ≡ name_of c
    → MatchNumber c (drop (at + 1) words) None → NoneBegins c (drop at words)
none_apart c words at word within is name none s rest choice setting e = by s.digits s.joined (subst (λ (d : Choice). IsNumber d s.digits) choice (number_of_setting s setting)) spelled
  where
    spelled : name_of c ∷ drop (at + 1) words ≡ words_of (setting_of c s.digits s.joined) ++ rest
    spelled = ap (λ (w : List ℕ). w ∷ drop (at + 1) words) (sym name ∙ is) ∙ sym (drop_more words at [] within) ∙ e ∙ ap (λ (d : Choice). words_of (setting_of d s.digits s.joined) ++ rest) choice

    by : (digits : List ℕ) (joined : Bool) → IsNumber c digits → name_of c ∷ drop (at + 1) words ≡ words_of (setting_of c digits joined) ++ rest → ⊥
    by digits true number same = longer c digits (head_same (name_of c) (name_of c ++ 61 ∷ digits) (drop (at + 1) words) rest same)
    by digits false number same = none digits rest number (tail_same (name_of c) (name_of c) (drop (at + 1) words) (digits ∷ rest) same)

pub none_joined : (c : Choice) (words : List (List ℕ)) (at : ℕ) (word : List ℕ) → at < length words → word ≡ get_or words at [] → (word ≡ name_of c → ⊥)
    → MatchJoined c word None → NoneBegins c (drop at words)
none_joined c words at word within is name none s rest choice setting e = by s.digits s.joined (subst (λ (d : Choice). IsNumber d s.digits) choice (number_of_setting s setting)) spelled
  where
    spelled : word ∷ drop (at + 1) words ≡ words_of (setting_of c s.digits s.joined) ++ rest
    spelled = ap (λ (w : List ℕ). w ∷ drop (at + 1) words) is ∙ sym (drop_more words at [] within) ∙ e ∙ ap (λ (d : Choice). words_of (setting_of d s.digits s.joined) ++ rest) choice

    by : (digits : List ℕ) (joined : Bool) → IsNumber c digits → word ∷ drop (at + 1) words ≡ words_of (setting_of c digits joined) ++ rest → ⊥
    by digits true number same = none digits number (head_same word (name_of c ++ 61 ∷ digits) (drop (at + 1) words) rest same)
    by digits false number same = name (head_same word (name_of c) (drop (at + 1) words) (digits ∷ rest) same)

pub by_number : (c : Choice) (words : List (List ℕ)) (at : ℕ) (word : List ℕ) (r : Option Named) → at < length words → word ≡ get_or words at [] → word ≡ name_of c
    → MatchNumber c (drop (at + 1) words) r → MatchBeginsBy c (drop at words) r
by_number c words at word None within is name none = none_apart c words at word within is name none
by_number c words at word (Some named) within is name stands = begins_apart c words at word named within is name stands

pub by_joined : (c : Choice) (words : List (List ℕ)) (at : ℕ) (word : List ℕ) (r : Option Named) → at < length words → word ≡ get_or words at [] → (word ≡ name_of c → ⊥)
    → MatchJoined c word r → MatchBeginsBy c (drop at words) r
by_joined c words at word None within is name none = none_joined c words at word within is name none
by_joined c words at word (Some named) within is name joined = begins_joined c words at word named within is joined

pub never : (b : Bool) → b ≡ true → b ≡ false → ⊥
never b t f = cc
