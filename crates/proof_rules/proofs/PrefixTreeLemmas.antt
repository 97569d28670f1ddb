-- The nodes of a tree and their prefixes.
use Rattle.std.proofs.Common.{◌≡◌, ℕ, zero, suc, ◌<◌, ◌≤◌, List, [], ◌∷◌, ◌++◌, inl, inr, refl, sym, ◌∙◌, ap, subst, arith}
use Rattle.std.proofs.lemmas.Bool.{cases_order}
use Rattle.label_rules.specs.Labels.{Setting}
use Rattle.proof_rules.specs.PrefixLaws.{OneNodeLaw, OnePrefixLaw, PrefixOfLaw}
use Rattle.proof_rules.specs.PrefixTrees.{IsPrefix, IsStep, IsTree, LeadsDown, Step, node_count, prefix_within, step_at}

-- arcs down one after the other
pub down_join : (steps : List Step) (j : ℕ) (xs : List ℕ) (k : ℕ) (ys : List ℕ) (m : ℕ) → LeadsDown steps j xs k → LeadsDown steps k ys m → LeadsDown steps j (xs ++ ys) m
down_join steps j [] k ys m h g = subst (λ (n : ℕ). LeadsDown steps n ys m) (sym h) g
down_join steps j (a ∷ rest) k ys m h g = (h.0, h.1, down_join steps (suc h.0) rest k ys m h.2 g)

-- they end at a node
pub down_within : (steps : List Step) (j : ℕ) (arcs : List ℕ) (k : ℕ) → j < node_count steps → LeadsDown steps j arcs k → k < node_count steps
down_within steps j [] k l h = subst (λ (n : ℕ). n < node_count steps) h l
down_within steps j (a ∷ rest) k l h = down_within steps (suc h.0) rest k (omega (arith, h.1.within)) h.2

-- from a node there is one step over an arc
one_step : (S : Setting) (steps : List Step) (k a m n : ℕ) → IsTree S steps → IsStep steps k a m → IsStep steps k a n → m ≡ n
one_step S steps k a m n tree p q = elim (cases_order m n) [
  | inl e ↦ e
  | inr (inl l) ↦ absurd (tree.once m n l q.within (p.is ∙ sym q.is))
  | inr (inr l) ↦ absurd (tree.once n m l p.within (q.is ∙ sym p.is))
]

one_end : (S : Setting) (steps : List Step) (i : ℕ) (arcs : List ℕ) (j k : ℕ) → IsTree S steps → LeadsDown steps i arcs j → LeadsDown steps i arcs k → j ≡ k
one_end S steps i [] j k tree p q = sym p ∙ q
one_end S steps i (a ∷ rest) j k tree p q =
    let same = one_step S steps i a p.0 q.0 tree p.1 q.1 in
    one_end S steps (suc p.0) rest j k tree p.2 (subst (λ (n : ℕ). LeadsDown steps (suc n) rest k) (sym same) q.2)

pub one_node : OneNodeLaw
one_node S steps j k arcs tree p q = one_end S steps 0 arcs j k tree p q

-- each node has a prefix: its parent's, and the arc of its step
prefix_is : (S : Setting) (steps : List Step) (bound k : ℕ) → IsTree S steps → k < bound → k < node_count steps → IsPrefix steps k (prefix_within steps bound k)
prefix_is S steps zero k tree l within = absurd (omega (arith, l))
prefix_is S steps (suc bound) zero tree l within = refl
prefix_is S steps (suc bound) (suc n) tree l within =
    let before = tree.parents n (omega (arith, within)) in
    let parent : ℕ = (step_at steps n).parent in
    down_join steps 0 (prefix_within steps bound parent) parent ((step_at steps n).arc ∷ []) (suc n)
    (prefix_is S steps bound parent tree (omega (arith, before, l)) (omega (arith, before, within))) (n, record { within = omega (arith, within); is = refl }, refl)

pub prefix_of_law : PrefixOfLaw
prefix_of_law S steps k tree within = prefix_is S steps (suc k) k tree (omega arith) within

-- the last step of arcs down
pub record HasLast (steps : List Step) (j : ℕ) (arcs : List ℕ) (k : ℕ) : Type 0 where
  pub front : List ℕ
  pub last : ℕ
  pub split : arcs ≡ front ++ last ∷ []
  pub node : ℕ
  pub parent : ℕ
  pub leads : LeadsDown steps j front parent
  pub step : IsStep steps parent last node
  pub at : k ≡ suc node

pub last_of : (steps : List Step) (j a : ℕ) (rest : List ℕ) (k : ℕ) → LeadsDown steps j (a ∷ rest) k → HasLast steps j (a ∷ rest) k
last_of steps j a [] k h = record { front = []; last = a; split = refl; node = h.0; parent = j; leads = refl; step = h.1; at = sym h.2 }
last_of steps j a (b ∷ rest) k h =
    let more = last_of steps (suc h.0) b rest k h.2 in
    record {
      front = a ∷ more.front;
      last = more.last;
      split = ap (λ (xs : List ℕ). a ∷ xs) more.split;
      node = more.node;
      parent = more.parent;
      leads = (h.0, h.1, more.leads);
      step = more.step;
      at = more.at;
    }

pub same_split : (xs ys : List ℕ) (a b : ℕ) → xs ≡ ys → a ≡ b → xs ++ a ∷ [] ≡ ys ++ b ∷ []
same_split xs ys a b p q = cc

-- one node has one prefix
one_below : (S : Setting) (steps : List Step) (bound k : ℕ) (xs ys : List ℕ) → IsTree S steps → k < bound → IsPrefix steps k xs → IsPrefix steps k ys → xs ≡ ys
one_below S steps zero k xs ys tree l p q = absurd (omega (arith, l))
one_below S steps (suc bound) k [] [] tree l p q = refl
one_below S steps (suc bound) k [] (b ∷ ys) tree l p q =
    let other = last_of steps 0 b ys k q in
    absurd (omega (arith, p, other.at))
one_below S steps (suc bound) k (a ∷ xs) [] tree l p q =
    let one = last_of steps 0 a xs k p in
    absurd (omega (arith, q, one.at))
one_below S steps (suc bound) k (a ∷ xs) (b ∷ ys) tree l p q =
    let one = last_of steps 0 a xs k p in
    let other = last_of steps 0 b ys k q in
    let node : one.node ≡ other.node = omega (arith, one.at, other.at) in
    let step : ◌≡◌ {A = Step} (record { parent = one.parent; arc = one.last }) (record { parent = other.parent; arc = other.last }) =
    sym one.step.is ∙ (ap (step_at steps) node ∙ other.step.is) in
    let parent : one.parent ≡ other.parent = ap (λ (s : Step). s.parent) step in
    let last : one.last ≡ other.last = ap (λ (s : Step). s.arc) step in
    let before : one.parent ≤ one.node = subst (λ (s : Step). s.parent ≤ one.node) one.step.is (tree.parents one.node one.step.within) in
    let fronts = one_below S steps bound one.parent one.front other.front tree (omega (arith, before, l, one.at)) one.leads (subst (λ (n : ℕ). IsPrefix steps n other.front) (sym parent) other.leads) in
    one.split ∙ (same_split one.front other.front one.last other.last fronts last ∙ sym other.split)

pub one_prefix : OnePrefixLaw
one_prefix S steps k xs ys tree p q = one_below S steps (suc k) k xs ys tree (omega arith) p q
