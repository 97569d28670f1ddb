-- Words name one command.
use Rattle.std.proofs.Common.{◌≡◌, ℕ, ◌<◌, ◌≤◌, All, subst, List, [], ◌∷◌, ◌++◌, length, get_or, drop, codes, true, false, Bool, Option, None, Some, flat_map, if◌then◌else◌, arith, refl, sym, ap, ◌∙◌}
use Rattle.std.specs.Prelude.{unwrap_or}
use Rattle.std.proofs.lemmas.List.{append-nil, drop_more}
use Rattle.std.proofs.lemmas.List.Elements.{All-head, All-tail}
use Rattle.vrp_lex.specs.Text.{digits_value}
use Rattle.solve_run.specs.declared.outcome.Limits.{Limits}
use Rattle.solve_run.specs.Limits.{LimitsFit}
use Rattle.command_words.specs.declared.command.Command.{Command}
use Rattle.command_words.specs.declared.command.Command.TheVariants.{Check, Eval, Print, Solve}
use Rattle.command_words.specs.declared.options.Choice.{Choice}
use Rattle.command_words.specs.declared.options.Choice.TheVariants.{Labels, Nodes, Workers}
use Rattle.command_words.specs.declared.options.Draft.{Draft}
use Rattle.command_words.specs.declared.options.TheConstants.{DEFAULT_LABELS, DEFAULT_NODES, DEFAULT_WORKERS}
use Rattle.command_words.specs.Commands.{IsSetting, Setting, Takes, TakesSolve, is_of, limits_said, most_of, number_said, words_of}
use Rattle.command_words.specs.Settings.{AreLimits, AreSettings, IsReadAs, MatchLone, said_of}
use Rattle.command_words.proofs.OptionLemmas.{tail_same}
use Rattle.command_words.proofs.SettingLemmas.{no_words, settings_begin}

-- the number that settings say of an option, or another
number_is : (settings : List Setting) (c : Choice) (other : ℕ) → number_said c settings other ≡ unwrap_or (said_of settings c) other
number_is [] c other = refl
number_is (s ∷ settings) c other = by (is_of c s.choice) (number_is settings c other)
  where
    by : (b : Bool) → number_said c settings other ≡ unwrap_or (said_of settings c) other
        → (if b then digits_value s.digits else number_said c settings other) ≡ unwrap_or (if b then Some (digits_value s.digits) else said_of settings c) other
    by true e = refl
    by false e = e

pub are_limits : (words : List (List ℕ)) (d : Draft) (w l n : ℕ) → IsReadAs words d
    → w ≡ unwrap_or d.workers DEFAULT_WORKERS → l ≡ unwrap_or d.labels DEFAULT_LABELS → n ≡ unwrap_or d.nodes DEFAULT_NODES
    → AreLimits words (record { workers = w; labels = l; nodes = n })
are_limits words d w l n r we le ne = record {
  settings = r.settings;
  are = r.are;
  said = λ i. record { workers = workers i; labels = labels i; nodes = nodes i };
}
  where
    workers : w ≡ number_said Workers r.settings DEFAULT_WORKERS
    workers = we ∙ ap (λ (a : Option ℕ). unwrap_or a DEFAULT_WORKERS) (r.draft Workers) ∙ sym (number_is r.settings Workers DEFAULT_WORKERS)

    labels : l ≡ number_said Labels r.settings DEFAULT_LABELS
    labels = le ∙ ap (λ (a : Option ℕ). unwrap_or a DEFAULT_LABELS) (r.draft Labels) ∙ sym (number_is r.settings Labels DEFAULT_LABELS)

    nodes : n ≡ number_said Nodes r.settings DEFAULT_NODES
    nodes = ne ∙ ap (λ (a : Option ℕ). unwrap_or a DEFAULT_NODES) (r.draft Nodes) ∙ sym (number_is r.settings Nodes DEFAULT_NODES)

begins_with : (words : List (List ℕ)) (word : List ℕ) → 0 < length words → word ≡ get_or words 0 [] → words ≡ word ∷ drop 1 words
begins_with words word some is = drop_more words 0 [] some ∙ ap (λ (w : List ℕ). w ∷ drop 1 words) (sym is)

pub takes_solve : (words : List (List ℕ)) (word : List ℕ) (limits : Limits) → 0 < length words → word ≡ get_or words 0 [] → word ≡ codes "solve"
    → AreLimits (drop 1 words) limits → TakesSolve words limits
takes_solve words word limits some is solve are = record {
  settings = are.settings;
  each = are.are.each;
  apart = are.are.apart;
  spelled = begins_with words word some is ∙ ap (λ (w : List ℕ). w ∷ drop 1 words) solve ∙ ap (λ (l : List (List ℕ)). codes "solve" ∷ l) are.are.spelled;
  said = are.said;
}

-- no settings, where there are no words
no_settings : (settings : List Setting) → [] ≡ flat_map words_of settings → settings ≡ []
no_settings [] e = refl
no_settings (s ∷ settings) e = no_words s (flat_map words_of settings) e

same_limits : (words : List (List ℕ)) (l k : Limits) → TakesSolve words l → TakesSolve words k → l ≡ k
same_limits words l k p q =
    let rest = tail_same (codes "solve") (codes "solve") (flat_map words_of p.settings) (flat_map words_of q.settings) (sym p.spelled ∙ q.spelled) in
    let next = settings_begin p.settings q.settings [] (rest ∙ sym (append-nil (flat_map words_of q.settings))) in
    let same : p.settings ≡ q.settings = next.1 ∙ ap (λ (more : List Setting). q.settings ++ more) (no_settings next.0 next.2) ∙ append-nil q.settings in
    p.said ∙ ap limits_said same ∙ sym q.said

-- the word of a command
abbrev first_word : Command → List ℕ
first_word (Solve limits) = codes "solve"
first_word Print = codes "print"
first_word Eval = codes "eval"
first_word Check = codes "check"

begins : (words : List (List ℕ)) (c : Command) → Takes words c → get_or words 0 [] ≡ first_word c
begins words (Solve limits) t = ap (λ (l : List (List ℕ)). get_or l 0 []) t.spelled
begins words Print t = ap (λ (l : List (List ℕ)). get_or l 0 []) t
begins words Eval t = ap (λ (l : List (List ℕ)). get_or l 0 []) t
begins words Check t = ap (λ (l : List (List ℕ)). get_or l 0 []) t

same_letter : (words : List (List ℕ)) (c d : Command) → Takes words c → Takes words d → get_or (first_word c) 0 0 ≡ get_or (first_word d) 0 0
same_letter words c d p q = ap (λ (w : List ℕ). get_or w 0 0) (sym (begins words c p) ∙ begins words d q)

-- words are those of one command
pub one_command : (words : List (List ℕ)) (c d : Command) → Takes words c → Takes words d → c ≡ d
one_command words c d p q = by c d (same_letter words c d p q) p q
  where
    by : (c d : Command) → get_or (first_word c) 0 0 ≡ get_or (first_word d) 0 0 → Takes words c → Takes words d → c ≡ d
    by (Solve l) (Solve k) e p q = ap Solve (same_limits words l k p q)
    by Print Print e p q = refl
    by Eval Eval e p q = refl
    by Check Check e p q = refl
    by (Solve l) Print e p q = absurd (omega (arith, e))
    by (Solve l) Eval e p q = absurd (omega (arith, e))
    by (Solve l) Check e p q = absurd (omega (arith, e))
    by Print (Solve l) e p q = absurd (omega (arith, e))
    by Print Eval e p q = absurd (omega (arith, e))
    by Print Check e p q = absurd (omega (arith, e))
    by Eval (Solve l) e p q = absurd (omega (arith, e))
    by Eval Print e p q = absurd (omega (arith, e))
    by Eval Check e p q = absurd (omega (arith, e))
    by Check (Solve l) e p q = absurd (omega (arith, e))
    by Check Print e p q = absurd (omega (arith, e))
    by Check Eval e p q = absurd (omega (arith, e))

-- where no settings stand behind `solve`, or another word stands alone, no command is taken
pub not_solve : (words : List (List ℕ)) (word : List ℕ) → word ≡ get_or words 0 [] → word ≡ codes "solve" → ((settings : List Setting) → AreSettings (drop 1 words) settings → ⊥)
    → (other : Command) → Takes words other → ⊥
not_solve words word is solve none (Solve limits) t =
    none t.settings (record { each = t.each; apart = t.apart; spelled = ap (λ (l : List (List ℕ)). drop 1 l) t.spelled })
not_solve words word is solve none Print t = omega (arith, ap (λ (w : List ℕ). get_or w 0 0) (sym solve ∙ is ∙ begins words Print t))
not_solve words word is solve none Eval t = omega (arith, ap (λ (w : List ℕ). get_or w 0 0) (sym solve ∙ is ∙ begins words Eval t))
not_solve words word is solve none Check t = omega (arith, ap (λ (w : List ℕ). get_or w 0 0) (sym solve ∙ is ∙ begins words Check t))

pub lone_only : (words : List (List ℕ)) (word : List ℕ) (r : Option Command) → word ≡ get_or words 0 [] → (word ≡ codes "solve" → ⊥) → MatchLone word r
    → (other : Command) → Takes words other → r ≡ Some other
lone_only words word r is other_word lone (Solve limits) t = absurd (other_word (is ∙ begins words (Solve limits) t))
lone_only words word r is other_word lone Print t = by r lone (is ∙ begins words Print t)
  where
    by : (r : Option Command) → MatchLone word r → word ≡ codes "print" → r ≡ Some Print
    by None lone e = absurd (lone Print e)
    by (Some (Solve limits)) lone e = absurd lone
    by (Some Print) lone e = refl
    by (Some Eval) lone e = absurd (omega (arith, ap (λ (w : List ℕ). get_or w 0 0) (sym lone ∙ e)))
    by (Some Check) lone e = absurd (omega (arith, ap (λ (w : List ℕ). get_or w 0 0) (sym lone ∙ e)))
lone_only words word r is other_word lone Eval t = by r lone (is ∙ begins words Eval t)
  where
    by : (r : Option Command) → MatchLone word r → word ≡ codes "eval" → r ≡ Some Eval
    by None lone e = absurd (lone Eval e)
    by (Some (Solve limits)) lone e = absurd lone
    by (Some Print) lone e = absurd (omega (arith, ap (λ (w : List ℕ). get_or w 0 0) (sym lone ∙ e)))
    by (Some Eval) lone e = refl
    by (Some Check) lone e = absurd (omega (arith, ap (λ (w : List ℕ). get_or w 0 0) (sym lone ∙ e)))
lone_only words word r is other_word lone Check t = by r lone (is ∙ begins words Check t)
  where
    by : (r : Option Command) → MatchLone word r → word ≡ codes "check" → r ≡ Some Check
    by None lone e = absurd (lone Check e)
    by (Some (Solve limits)) lone e = absurd lone
    by (Some Print) lone e = absurd (omega (arith, ap (λ (w : List ℕ). get_or w 0 0) (sym lone ∙ e)))
    by (Some Eval) lone e = absurd (omega (arith, ap (λ (w : List ℕ). get_or w 0 0) (sym lone ∙ e)))
    by (Some Check) lone e = refl

-- the number that settings give an option lies within its limits, if the other one does
picked : (c d : Choice) (n rest : ℕ) → (1 ≤ n) × (n ≤ most_of d) → (1 ≤ rest) × (rest ≤ most_of c) → (1 ≤ (if is_of c d then n else rest)) × ((if is_of c d then n else rest) ≤ most_of c)
picked Workers Workers n rest here other = here
picked Workers Labels n rest here other = other
picked Workers Nodes n rest here other = other
picked Labels Workers n rest here other = other
picked Labels Labels n rest here other = here
picked Labels Nodes n rest here other = other
picked Nodes Workers n rest here other = other
picked Nodes Labels n rest here other = other
picked Nodes Nodes n rest here other = here

said_within : (c : Choice) (settings : List Setting) (other : ℕ) → (1 ≤ other) × (other ≤ most_of c) → All IsSetting settings → (1 ≤ number_said c settings other) × (number_said c settings other ≤ most_of c)
said_within c [] other within each = within
said_within c (s ∷ settings) other within each =
    let here = All-head IsSetting s settings each in
    picked c s.choice (digits_value s.digits) (number_said c settings other) (here.some, here.most) (said_within c settings other within (All-tail IsSetting s settings each))

-- the limits of `solve` are within their ranges
pub takes_fit : (words : List (List ℕ)) (limits : Limits) → TakesSolve words limits → LimitsFit limits
takes_fit words limits takes =
    let workers = said_within Workers takes.settings DEFAULT_WORKERS (omega arith, omega arith) takes.each in
    let labels = said_within Labels takes.settings DEFAULT_LABELS (omega arith, omega arith) takes.each in
    let nodes = said_within Nodes takes.settings DEFAULT_NODES (omega arith, omega arith) takes.each in
    subst (λ (l : Limits). LimitsFit l) (sym takes.said) (record {
      some_workers = workers.0;
      workers = omega (arith, workers.1);
      some_labels = labels.0;
      labels = labels.1;
      some_nodes = nodes.0;
      nodes = nodes.1;
    })
