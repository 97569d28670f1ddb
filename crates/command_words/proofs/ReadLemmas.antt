-- Reading the options one after another.
use Rattle.std.proofs.Common.{◌≡◌, ◌≢◌, ℕ, zero, suc, ◌<◌, ◌≤◌, List, [], ◌∷◌, ◌++◌, length, length-append, length-drop, get_or, drop, true, false, Bool, Option, None, Some, All, flat_map, if◌then◌else◌, arith, refl, sym, ap, subst, ◌∙◌}
use Rattle.std.proofs.lemmas.List.{append_assoc, append-nil, drop_all}
use Rattle.std.proofs.lemmas.Grind.{common_steps}
use Rattle.std.proofs.lemmas.List.Concat.{flat_map-append}
use Rattle.std.proofs.lemmas.List.Elements.{All-append, All-cons, All-head, All-nil, All-tail}
use Rattle.std.proofs.lemmas.List.Quantifiers.{all_pairs_push}
use Rattle.vrp_lex.specs.Text.{digits_value}
use Rattle.command_words.specs.declared.options.Choice.{Choice}
use Rattle.command_words.specs.declared.options.Choice.TheVariants.{Labels, Nodes, Workers}
use Rattle.command_words.specs.declared.options.Draft.{Draft}
use Rattle.command_words.specs.declared.options.Named.{Named}
use Rattle.command_words.specs.Commands.{AreApart, IsSetting, Setting, is_of, words_of}
use Rattle.command_words.specs.Options.{Begins, MatchBegins, drafted, told}
use Rattle.command_words.specs.Settings.{IsDraftOf, IsDraftWith, IsReadAs, IsReadUpTo, MatchSettings, said_of}
use Rattle.command_words.proofs.OptionLemmas.{never, setting_of}
use Rattle.command_words.proofs.SettingLemmas.{no_words, setting_same, settings_begin}

-- an option is itself
is_same : (c d : Choice) → is_of c d ≡ true → c ≡ d
is_same Workers Workers e = refl
is_same Labels Labels e = refl
is_same Nodes Nodes e = refl
is_same _ _ e = cc

same_is : (c : Choice) → is_of c c ≡ true
same_is Workers = refl
same_is Labels = refl
same_is Nodes = refl

abbrev or_else : Option ℕ → Option ℕ → Option ℕ
or_else None other = other
or_else (Some n) other = Some n

or_else_none : (a : Option ℕ) → or_else a None ≡ a
or_else_none None = refl
or_else_none (Some n) = refl

said_append : (xs ys : List Setting) (c : Choice) → said_of (xs ++ ys) c ≡ or_else (said_of xs c) (said_of ys c)
said_append [] ys c = refl
said_append (x ∷ xs) ys c = by (is_of c x.choice) (said_append xs ys c)
  where
    by : (b : Bool) → said_of (xs ++ ys) c ≡ or_else (said_of xs c) (said_of ys c)
        → (if b then Some (digits_value x.digits) else said_of (xs ++ ys) c) ≡ or_else (if b then Some (digits_value x.digits) else said_of xs c) (said_of ys c)
    by true e = refl
    by false e = e

-- where nothing is said of an option, no setting is of it
abbrev NoneOf : List Setting → Choice → Type 0
NoneOf settings c = (k : ℕ) (d : Setting) → k < length settings → (get_or settings k d).choice ≡ c → ⊥

none_of_more : (s : Setting) (settings : List Setting) (c : Choice) (b : Bool) → is_of c s.choice ≡ b → (said_of settings c ≡ None → NoneOf settings c)
    → (if b then Some (digits_value s.digits) else said_of settings c) ≡ None → NoneOf (s ∷ settings) c
none_of_more s settings c true e before f k d within same = cc
none_of_more s settings c false e before f zero d within same = never (is_of c c) (same_is c) (subst (λ (x : Choice). is_of c x ≡ false) same e)
none_of_more s settings c false e before f (suc k) d within same = before f k d (omega (arith, within)) same

said_none : (settings : List Setting) (c : Choice) → said_of settings c ≡ None → NoneOf settings c
said_none [] c none = λ k d within same. omega (arith, within)
said_none (s ∷ settings) c none = none_of_more s settings c (is_of c s.choice) refl (said_none settings c) none

-- where something is said of an option, some setting is of it
abbrev SomeOf : List Setting → Choice → Type 0
SomeOf settings c = (k : ℕ) × (k < length settings) × ((d : Setting) → (get_or settings k d).choice ≡ c)

some_of_more : (s : Setting) (settings : List Setting) (c : Choice) (b : Bool) → is_of c s.choice ≡ b → (said_of settings c ≢ None → SomeOf settings c)
    → (if b then Some (digits_value s.digits) else said_of settings c) ≢ None → SomeOf (s ∷ settings) c
some_of_more s settings c true e before f = (0, omega arith, λ d. sym (is_same c s.choice e))
some_of_more s settings c false e before f =
    let later = before f in
    (suc later.0, omega (arith, later.1), λ d. later.2 d)

pub said_some : (settings : List Setting) (c : Choice) → said_of settings c ≢ None → SomeOf settings c
said_some [] c some = absurd (some refl)
said_some (s ∷ settings) c some = some_of_more s settings c (is_of c s.choice) refl (said_some settings c) some

draft_more : (settings : List Setting) (s : Setting) (old new : Draft) → IsDraftOf settings old → IsDraftWith old (told s) new → IsDraftOf (settings ++ s ∷ []) new
draft_more settings s old new is more c = by (is_of c s.choice) refl
  where
    apart : said_of (settings ++ s ∷ []) c ≡ or_else (said_of settings c) (said_of (s ∷ []) c)
    apart = said_append settings (s ∷ []) c

    by : (b : Bool) → is_of c s.choice ≡ b → drafted new c ≡ said_of (settings ++ s ∷ []) c
    by true e =
        let same = is_same c s.choice e in
        let none : said_of settings c ≡ None = sym (is c) ∙ subst (λ (x : Choice). drafted old x ≡ None) (sym same) more.fresh in
        let has : drafted new c ≡ Some (digits_value s.digits) = subst (λ (x : Choice). drafted new x ≡ Some (digits_value s.digits)) (sym same) more.has in
        let last : said_of (s ∷ []) c ≡ Some (digits_value s.digits) = ap (λ (b : Bool). if b then Some (digits_value s.digits) else None) e in
        has ∙ sym (apart ∙ ap (λ (a : Option ℕ). or_else a (said_of (s ∷ []) c)) none ∙ last)
    by false e =
        let last : said_of (s ∷ []) c ≡ None = ap (λ (b : Bool). if b then Some (digits_value s.digits) else None) e in
        let other : drafted new c ≡ drafted old c = more.same c (λ (same : c ≡ s.choice). never (is_of c s.choice) (subst (λ (x : Choice). is_of c x ≡ true) same (same_is c)) e) in
        other ∙ is c ∙ sym (apart ∙ ap (λ (a : Option ℕ). or_else (said_of settings c) a) last ∙ or_else_none (said_of settings c))

pub read_start : (words : List (List ℕ)) (d : Draft) → ((c : Choice) → drafted d c ≡ None) → IsReadUpTo words words d
read_start words d none = record { settings = []; each = All-nil IsSetting; apart = λ i j d lt within. absurd (omega (arith, lt, within)); spelled = refl; draft = none }

pub read_end : (words : List (List ℕ)) (d : Draft) → IsReadUpTo words [] d → IsReadAs words d
read_end words d r = record { settings = r.settings; are = record { each = r.each; apart = r.apart; spelled = r.spelled ∙ append-nil (flat_map words_of r.settings) }; draft = r.draft }

-- one option more
read_more : (words rest : List (List ℕ)) (old new : Draft) (s : Setting) (after : List (List ℕ)) → IsReadUpTo words rest old → IsSetting s → rest ≡ words_of s ++ after
    → IsDraftWith old (told s) new → IsReadUpTo words after new
read_more words rest old new s after r is spelled more = record {
  settings = r.settings ++ s ∷ [];
  each = All-append IsSetting r.settings (s ∷ []) r.each (All-cons IsSetting s [] is (All-nil IsSetting));
  apart = all_pairs_push (λ (x y : Setting). x.choice ≢ y.choice) r.settings s r.apart
      (λ k d within same. said_none r.settings s.choice (sym (r.draft s.choice) ∙ more.fresh) k d within same);
  spelled = r.spelled ∙ ap (λ (l : List (List ℕ)). flat_map words_of r.settings ++ l) spelled
      ∙ sym (append_assoc (flat_map words_of r.settings) (words_of s) after)
      ∙ ap (λ (l : List (List ℕ)). l ++ after) (sym (flat_map-append words_of r.settings (s ∷ []) ∙ ap (λ (l : List (List ℕ)). flat_map words_of r.settings ++ l) (append-nil (words_of s))));
  draft = draft_more r.settings s old new r.draft more;
}

drop_words : (c : Choice) (x : List ℕ) (j : Bool) (after : List (List ℕ)) → drop (length (words_of (setting_of c x j))) (words_of (setting_of c x j) ++ after) ≡ after
drop_words c x true after = refl
drop_words c x false after = refl

some_words : (c : Choice) (x : List ℕ) (j : Bool) → (1 ≤ length (words_of (setting_of c x j))) × (length (words_of (setting_of c x j)) ≤ 2)
some_words c x true = (omega arith, omega arith)
some_words c x false = (omega arith, omega arith)

pub read_next : (words rest : List (List ℕ)) (old new : Draft) (named : Named) → IsReadUpTo words rest old → Begins rest named → IsDraftWith old named new
    → IsReadUpTo words (drop named.words rest) new
read_next words rest old new named r begins more =
    let s = begins.setting in
    let cut : drop named.words rest ≡ begins.rest = ap (λ (n : Named). drop n.words rest) begins.said
    ∙ ap (λ (l : List (List ℕ)). drop (length (words_of s)) l) begins.spelled ∙ drop_words s.choice s.digits s.joined begins.rest in
    subst (λ (l : List (List ℕ)). IsReadUpTo words l new) (sym cut)
    (read_more words rest old new s begins.rest r begins.is_setting begins.spelled (subst (λ (n : Named). IsDraftWith old n new) begins.said more))

pub named_words : (rest : List (List ℕ)) (named : Named) → Begins rest named → (1 ≤ named.words) × (named.words ≤ 2)
named_words rest named begins =
    subst (λ (n : Named). (1 ≤ n.words) × (n.words ≤ 2)) (sym begins.said) (some_words begins.setting.choice begins.setting.digits begins.setting.joined)

all_last : (xs ys : List Setting) → All IsSetting (xs ++ ys) → All IsSetting ys
all_last [] ys all = all
all_last (x ∷ xs) ys all = all_last xs ys (All-tail IsSetting x (xs ++ ys) all)

pub none_named : (words rest : List (List ℕ)) (d : Draft) → IsReadUpTo words rest d → rest ≢ [] → MatchBegins rest None → MatchSettings words None
none_named words rest d r some none settings are =
    let next = settings_begin settings r.settings rest (sym are.spelled ∙ r.spelled) in
    by next.0 next.1 next.2
  where
    by : (more : List Setting) → settings ≡ r.settings ++ more → rest ≡ flat_map words_of more → ⊥
    by [] same is = some is
    by (s ∷ more) same is =
        let each : All IsSetting (r.settings ++ s ∷ more) = subst (λ (l : List Setting). All IsSetting l) same are.each in
        none s.choice s (flat_map words_of more) refl (All-head IsSetting s more (all_last r.settings (s ∷ more) each)) is

pub none_twice : (words rest : List (List ℕ)) (d : Draft) (named : Named) → IsReadUpTo words rest d → Begins rest named → drafted d named.choice ≢ None → MatchSettings words None
none_twice words rest d named r begins has settings are =
    let next = settings_begin settings r.settings rest (sym are.spelled ∙ r.spelled) in
    by next.0 next.1 (sym begins.spelled ∙ next.2)
  where
    by : (more : List Setting) → settings ≡ r.settings ++ more → words_of begins.setting ++ begins.rest ≡ flat_map words_of more → ⊥
    by [] same is = no_words begins.setting begins.rest (sym is)
    by (s ∷ more) same is =
        let one = setting_same begins.setting s begins.rest (flat_map words_of more) is in
        let choice : named.choice ≡ s.choice = ap (λ (n : Named). n.choice) begins.said ∙ ap (λ (t : Setting). t.choice) one.0 in
        let there = said_some r.settings named.choice (λ none. has (r.draft named.choice ∙ none)) in
        let differ = subst (λ (l : List Setting). AreApart l) same are.apart in
        let first : get_or (r.settings ++ s ∷ more) there.0 s ≡ get_or r.settings there.0 s = grind (arith, common_steps, there.1) in
        let last : get_or (r.settings ++ s ∷ more) (length r.settings) s ≡ s = grind (arith, common_steps) in
        differ there.0 (length r.settings) s there.1 (omega (arith, length-append r.settings (s ∷ more)))
        (ap (λ (t : Setting). t.choice) first ∙ there.2 s ∙ choice ∙ sym (ap (λ (t : Setting). t.choice) last))

pub begin_draft : (c : Choice) → drafted (record { workers = None; labels = None; nodes = None }) c ≡ None
begin_draft Workers = refl
begin_draft Labels = refl
begin_draft Nodes = refl

pub past_end : (words : List (List ℕ)) (at : ℕ) → length words ≤ at → drop at words ≡ []
past_end words at past = drop_all at words past

pub some_left : (words : List (List ℕ)) (at : ℕ) → at < length words → drop at words ≢ []
some_left words at within e =
    let none = ap (λ (l : List (List ℕ)). length l) e in
    omega (arith, none, within, length-drop at words)
