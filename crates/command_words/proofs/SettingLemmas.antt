-- Words spell one list of settings.
use Rattle.std.proofs.Common.{◌≡◌, ℕ, List, [], ◌∷◌, ◌++◌, length, get_or, drop, true, false, Bool, flat_map, arith, refl, sym, ap, subst, ◌∙◌}
use Rattle.std.proofs.lemmas.List.{append_assoc}
use Rattle.command_words.specs.declared.options.Choice.{Choice}
use Rattle.command_words.specs.declared.options.Choice.TheVariants.{Labels, Nodes, Workers}
use Rattle.command_words.specs.Commands.{Setting, name_of, words_of}
use Rattle.command_words.proofs.OptionLemmas.{head_same, tail_same, setting_of}

-- the third letter tells the option
third : List ℕ → ℕ
third w = get_or w 2 0

choice_same : (c d : Choice) → get_or (name_of c) 2 0 ≡ get_or (name_of d) 2 0 → c ≡ d
choice_same Workers Workers e = refl
choice_same Workers Labels e = absurd (omega (arith, e))
choice_same Workers Nodes e = absurd (omega (arith, e))
choice_same Labels Workers e = absurd (omega (arith, e))
choice_same Labels Labels e = refl
choice_same Labels Nodes e = absurd (omega (arith, e))
choice_same Nodes Workers e = absurd (omega (arith, e))
choice_same Nodes Labels e = absurd (omega (arith, e))
choice_same Nodes Nodes e = refl

third_letter : (c : Choice) (x : List ℕ) → get_or (name_of c ++ x) 2 0 ≡ get_or (name_of c) 2 0
third_letter Workers x = refl
third_letter Labels x = refl
third_letter Nodes x = refl

-- the digits behind the word of an option
behind : (c : Choice) (x y : List ℕ) → name_of c ++ 61 ∷ x ≡ name_of c ++ 61 ∷ y → x ≡ y
behind Workers x y e = ap (λ (w : List ℕ). drop 10 w) e
behind Labels x y e = ap (λ (w : List ℕ). drop 9 w) e
behind Nodes x y e = ap (λ (w : List ℕ). drop 8 w) e

not_joined : (c : Choice) (x : List ℕ) → name_of c ≡ name_of c ++ 61 ∷ x → ⊥
not_joined Workers x e = omega (arith, ap (λ (w : List ℕ). length w) e)
not_joined Labels x e = omega (arith, ap (λ (w : List ℕ). length w) e)
not_joined Nodes x e = omega (arith, ap (λ (w : List ℕ). length w) e)

same_setting : (c d : Choice) (x y : List ℕ) (j : Bool) → c ≡ d → x ≡ y → setting_of c x j ≡ setting_of d y j
same_setting c d x y j e f = λ i. setting_of (e i) (f i) j

clash : {Q : Type 0} (c d : Choice) (x : List ℕ) → name_of c ≡ name_of d ++ 61 ∷ x → Q
clash c d x e =
    let same : c ≡ d = choice_same c d (ap (λ (w : List ℕ). get_or w 2 0) e ∙ third_letter d (61 ∷ x)) in
    absurd (not_joined d x (subst (λ (k : Choice). name_of k ≡ name_of d ++ 61 ∷ x) same e))

joined_same : (c d : Choice) (x y : List ℕ) → name_of c ++ 61 ∷ x ≡ name_of d ++ 61 ∷ y → setting_of c x true ≡ setting_of d y true
joined_same c d x y e =
    let same : c ≡ d = choice_same c d (sym (third_letter c (61 ∷ x)) ∙ ap (λ (w : List ℕ). get_or w 2 0) e ∙ third_letter d (61 ∷ y)) in
    same_setting c d x y true same (behind d x y (subst (λ (k : Choice). name_of k ++ 61 ∷ x ≡ name_of d ++ 61 ∷ y) same e))

by_parts : (c d : Choice) (x y : List ℕ) (j k : Bool) (r q : List (List ℕ)) → words_of (setting_of c x j) ++ r ≡ words_of (setting_of d y k) ++ q
    → (setting_of c x j ≡ setting_of d y k) × (r ≡ q)
by_parts c d x y true true r q e =
    (joined_same c d x y (head_same (name_of c ++ 61 ∷ x) (name_of d ++ 61 ∷ y) r q e), tail_same (name_of c ++ 61 ∷ x) (name_of d ++ 61 ∷ y) r q e)
by_parts c d x y true false r q e = clash d c x (sym (head_same (name_of c ++ 61 ∷ x) (name_of d) r (y ∷ q) e))
by_parts c d x y false true r q e = clash c d y (head_same (name_of c) (name_of d ++ 61 ∷ y) (x ∷ r) q e)
by_parts c d x y false false r q e =
    let rest = tail_same (name_of c) (name_of d) (x ∷ r) (y ∷ q) e in (
      same_setting c d x y false (choice_same c d (ap (λ (w : List ℕ). get_or w 2 0) (head_same (name_of c) (name_of d) (x ∷ r) (y ∷ q) e))) (head_same x y r q rest),
      tail_same x y r q rest,
    )

pub setting_same : (s t : Setting) (r q : List (List ℕ)) → words_of s ++ r ≡ words_of t ++ q → (s ≡ t) × (r ≡ q)
setting_same s t r q e = by_parts s.choice t.choice s.digits t.digits s.joined t.joined r q e

some_words : {Q : Type 0} (c : Choice) (x : List ℕ) (j : Bool) (r : List (List ℕ)) → [] ≡ words_of (setting_of c x j) ++ r → Q
some_words c x true r e = absurd (omega (arith, ap (λ (l : List (List ℕ)). length l) e))
some_words c x false r e = absurd (omega (arith, ap (λ (l : List (List ℕ)). length l) e))

pub no_words : {Q : Type 0} (s : Setting) (r : List (List ℕ)) → [] ≡ words_of s ++ r → Q
no_words s r e = some_words s.choice s.digits s.joined r e

-- settings whose words begin with those of others begin with the others
pub settings_begin : (all some : List Setting) (more : List (List ℕ)) → flat_map words_of all ≡ flat_map words_of some ++ more
    → (rest : List Setting) × (all ≡ some ++ rest) × (more ≡ flat_map words_of rest)
settings_begin all [] more e = (all, refl, sym e)
settings_begin [] (t ∷ some) more e = no_words t (flat_map words_of some ++ more) (e ∙ append_assoc (words_of t) (flat_map words_of some) more)
settings_begin (s ∷ all) (t ∷ some) more e =
    let same = setting_same s t (flat_map words_of all) (flat_map words_of some ++ more) (e ∙ append_assoc (words_of t) (flat_map words_of some) more) in
    let next = settings_begin all some more same.1 in
    (next.0, (λ i. same.0 i ∷ next.1 i), next.2)
