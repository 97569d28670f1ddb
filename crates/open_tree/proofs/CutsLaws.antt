-- The steps of a pass that takes subtrees out of a tree.
use Rattle.std.proofs.Common.{◌≡◌, ℕ, suc, ◌+◌, List, [], ◌∷◌, ◌++◌, length, length-append, refl, sym, ap, subst, ◌∙◌, append_assoc, arith}
use Rattle.proof_rules.specs.Grows.{Rules, Grows}
use Rattle.open_tree.specs.Cuts.{Cuts}
use Rattle.proof_rules.proofs.GrowsLemmas.{grows_append}

pub cuts_start : {I N : Type 0} (r : Rules I N) (is : List I) (ns : List N)
    → Grows r is ns [] → Cuts r is [] ns 0
cuts_start r is ns g = record { left_out = []; count = refl; stay = is; kept = refl; ahead = g }

-- nothing is left out at the head where the count is 0
none_left : {I : Type 0} (xs : List I) → length xs ≡ 0 → xs ≡ []
none_left [] e = refl
none_left (x ∷ xs) e = absurd (omega arith)

head_open : {I N : Type 0} (r : Rules I N) (is : List I) (out rest : List N) (c : Cuts r is out rest 0)
    → Grows r c.stay rest []
head_open {I} r is out rest c =
    subst (λ (js : List I). Grows r (js ++ c.stay) rest []) (none_left c.left_out c.count) c.ahead

take_at : {I N : Type 0} (r : Rules I N) (is stay : List I) (out rest : List N) (n m : N) (skip : ℕ)
    → ((i : I) → r.Fits i n → r.Fits i m × (gone : List I) × (length gone ≡ skip) × (r.children i n ≡ gone ++ r.children i m))
    → Grows r is out stay → Grows r stay (n ∷ rest) [] → Cuts r is (out ++ m ∷ []) rest skip
take_at r is [] out rest n m skip step k a = absurd a
take_at {I} r is (i ∷ stay) out rest n m skip step k a =
    let new = step i a.0 in
    record {
      left_out = new.1;
      count = new.2;
      stay = r.children i m ++ stay;
      kept = grows_append r is (i ∷ stay) (r.children i m ++ stay) out (m ∷ []) k (new.0, refl);
      ahead = subst (λ (js : List I). Grows r js rest [])
          (ap (λ (js : List I). js ++ stay) new.3 ∙ append_assoc new.1 (r.children i m) stay) a.1;
    }

-- a node, or one in its place, is kept; the trees below the first `skip` of its items are to be left out
pub cuts_take : {I N : Type 0} (r : Rules I N) (is : List I) (out rest : List N) (n m : N) (skip : ℕ)
    → ((i : I) → r.Fits i n → r.Fits i m × (gone : List I) × (length gone ≡ skip) × (r.children i n ≡ gone ++ r.children i m))
    → Cuts r is out (n ∷ rest) 0 → Cuts r is (out ++ m ∷ []) rest skip
cuts_take r is out rest n m skip step c =
    take_at r is c.stay out rest n m skip step c.kept (head_open r is out (n ∷ rest) c)

skip_at : {I N : Type 0} (r : Rules I N) (is gone stay : List I) (out rest : List N) (n : N) (skip more : ℕ)
    → ((i : I) → r.Fits i n → length (r.children i n) ≡ more) → length gone ≡ suc skip
    → Grows r is out stay → Grows r (gone ++ stay) (n ∷ rest) [] → Cuts r is out rest (more + skip)
skip_at r is [] stay out rest n skip more step e k a = absurd (omega arith)
skip_at {I} r is (i ∷ gone) stay out rest n skip more step e k a = record {
  left_out = r.children i n ++ gone;
  count = length-append (r.children i n) gone ∙ omega (arith, step i a.0);
  stay = stay;
  kept = k;
  ahead = subst (λ (js : List I). Grows r js rest []) (sym (append_assoc (r.children i n) gone stay)) a.1;
}

-- a node is left out, and then the trees below it
pub cuts_skip : {I N : Type 0} (r : Rules I N) (is : List I) (out rest : List N) (n : N) (skip more : ℕ)
    → ((i : I) → r.Fits i n → length (r.children i n) ≡ more)
    → Cuts r is out (n ∷ rest) (suc skip) → Cuts r is out rest (more + skip)
cuts_skip r is out rest n skip more step c =
    skip_at r is c.left_out c.stay out rest n skip more step c.count c.kept c.ahead

no_last : {I : Type 0} (xs ys : List I) → xs ++ ys ≡ [] → ys ≡ []
no_last [] ys e = e
no_last (x ∷ xs) ys e = cc

-- at the end no item stays open
pub cuts_end : {I N : Type 0} (r : Rules I N) (is : List I) (out : List N) (skip : ℕ)
    → Cuts r is out [] skip → Grows r is out []
cuts_end {I} r is out skip c =
    subst (λ (js : List I). Grows r is out js) (no_last c.left_out c.stay c.ahead) c.kept
