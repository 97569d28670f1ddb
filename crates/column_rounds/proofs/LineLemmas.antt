-- Lemmas on the lines of near lists.
use Rattle.std.proofs.Common.{◌≡◌, ℕ, ◌+◌, ◌<◌, ◌&&◌, ◌==◌, not, nat_lt, ◌-◌, get_or, Bool, true, false, Option, None, Some, List, [], ◌∷◌, ◌++◌, All, length, ◌⊎◌, inl, inr, refl, sym, ◌∙◌, ap, subst, arith}
use Rattle.std.specs.Prelude.{option_map}
use Rattle.std.specs.List.{range_with_len}
use Rattle.std.proofs.lemmas.Bool.{eqb-true, false≢true, le-ltb, lt-ltb, ne_eqb, or_cases, or_left, or_right}
use Rattle.std.proofs.lemmas.Option.{get_or_from_slice_get, slice_get_within}
use Rattle.std.proofs.lemmas.List.Elements.{All-append, All-cons, All-nil, filter_passes}
use Rattle.path_graph.specs.declared.set_bits.SetBits.{SetBits}
use Rattle.path_graph.specs.SetBits.{IsMeet, IsWhole, IsWith, has_set}
use Rattle.model_text.specs.LineWords.{last_of}
use Rattle.certificate.specs.declared.sizes.Sizes.{Sizes}
use Rattle.certificate.specs.CertText.{NearMay, SetFits}
use Rattle.certificate.specs.ProofWords.{falls, near_key, rises}
use Rattle.certificate.specs.SetWords.{members}
use Rattle.certificate.specs.Sizes.{graph_at}
use Rattle.certificate.proofs.ItemLists.{each_push}
use Rattle.column_rounds.specs.Lines.{AreLinesBefore, HasAllBelow}

-- the sets near a vertex, those of the model alone
pub sets_fit : (count : ℕ) (near known both : SetBits) → HasAllBelow count known → IsMeet near known both → IsWhole both → SetFits count both
unfolding members
sets_fit count near known both below meet whole = record {
  whole = whole;
  known = λ i d l.
      let has = filter_passes (has_set both) (range_with_len 0 512) i d l in
      below _ (and_right' (has_set near _) (has_set known _) (sym (meet _) ∙ has));
} where
  and_right' : (a b : Bool) → (a && b) ≡ true → b ≡ true
  and_right' true b e = e
  and_right' false b e = absurd (false≢true e)

pub one_more_set : (count : ℕ) (set more : SetBits) → HasAllBelow count set → IsWith set count more → HasAllBelow (count + 1) more
one_more_set count set more below with s has = elim (or_cases (has_set set s) (s == count) (sym (with s) ∙ has)) [
  | inl old ↦ omega (arith, below s old)
  | inr same ↦ omega (arith, eqb-true s count same)
]

-- a line stands behind those before its vertex
module _ (g v : ℕ) where
  abbrev IsBefore : ℕ × ℕ × SetBits → Type 0
  IsBefore line = (line.0 < g) ⊎ ((line.0 ≡ g) × (line.1 < v))

  not_fallen : (o : Option (ℕ × ℕ × SetBits)) → ((line : ℕ × ℕ × SetBits) → o ≡ Some line → IsBefore line) → falls (option_map near_key o) g ≡ false
  not_fallen None before = refl
  not_fallen (Some line) before = elim (before line refl) [
    | inl less ↦ le-ltb g line.0 (omega (arith, less))
    | inr same ↦ le-ltb g line.0 (omega (arith, same.0))
  ]

  has_risen : (o : Option (ℕ × ℕ × SetBits)) → ((line : ℕ × ℕ × SetBits) → o ≡ Some line → IsBefore line) → rises (option_map near_key o) g v ≡ true
  has_risen None before = refl
  has_risen (Some line) before = elim (before line refl) [
    | inl less ↦ or_left (not (g == line.0)) (nat_lt line.1 v) (ap not (ne_eqb g line.0 (λ e. omega (arith, e, less))))
    | inr same ↦ or_right (not (g == line.0)) (nat_lt line.1 v) (lt-ltb line.1 v same.1)
  ]

last_before : (P : ℕ × ℕ × SetBits → Type 0) (lines : List (ℕ × ℕ × SetBits)) → All P lines → (line : ℕ × ℕ × SetBits) → last_of lines ≡ Some line → P line
last_before P lines all line is =
    subst P (get_or_from_slice_get lines (length lines - 1) line line is) (all (length lines - 1) line (slice_get_within lines (length lines - 1) line is))

pub line_more : (s : Sizes) (lines : List (ℕ × ℕ × SetBits)) (g v : ℕ) (sets : SetBits) → AreLinesBefore s lines g v → g < length s.graphs → v < (graph_at s g).vertices → SetFits s.sets sets
    → AreLinesBefore s (lines ++ (g, v, sets) ∷ []) g (v + 1)
line_more s lines g v sets h graph vertex fits =
    let last = last_before (IsBefore g v) lines h.before in
    record {
      fits = each_push (NearMay s) [] lines (g, v, sets) h.fits (graph, not_fallen g v (last_of lines) last, vertex, has_risen g v (last_of lines) last, fits);
      before = All-append (IsBefore g (v + 1)) lines ((g, v, sets) ∷ []) further
          (All-cons (IsBefore g (v + 1)) (g, v, sets) [] (inr (refl, omega arith)) (All-nil (IsBefore g (v + 1))));
    }
  where
    widened : (line : ℕ × ℕ × SetBits) → IsBefore g v line → IsBefore g (v + 1) line
    widened line (inl less) = inl less
    widened line (inr same) = inr (same.0, omega (arith, same.1))

    further : All (IsBefore g (v + 1)) lines
    further i d l = widened (get_or lines i d) (h.before i d l)

-- no line
pub line_none : (s : Sizes) (lines : List (ℕ × ℕ × SetBits)) (g v : ℕ) → AreLinesBefore s lines g v → AreLinesBefore s lines g (v + 1)
line_none s lines g v h = record { fits = h.fits; before = λ i d l. widened (get_or lines i d) (h.before i d l) } where
  widened : (line : ℕ × ℕ × SetBits) → IsBefore g v line → IsBefore g (v + 1) line
  widened line (inl less) = inl less
  widened line (inr same) = inr (same.0, omega (arith, same.1))

-- all vertices of the graph were passed
pub graph_passed : (s : Sizes) (lines : List (ℕ × ℕ × SetBits)) (g v : ℕ) → AreLinesBefore s lines g v → AreLinesBefore s lines (g + 1) 0
graph_passed s lines g v h = record { fits = h.fits; before = λ i d l. passed (get_or lines i d) (h.before i d l) } where
  passed : (line : ℕ × ℕ × SetBits) → IsBefore g v line → IsBefore (g + 1) 0 line
  passed line (inl less) = inl (omega (arith, less))
  passed line (inr same) = inl (omega (arith, same.0))
