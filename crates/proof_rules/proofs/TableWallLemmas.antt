-- A table that was filled up to its limit is a wall, also where a threshold left extensions out.
use Rattle.std.proofs.Common.{◌≡◌, ℕ, ℤ, Option, None, Some, List, [], ◌∷◌, sym, ◌∙◌, ap, subst}
use Rattle.std.specs.Prelude.{slice_index}
use Rattle.std.proofs.lemmas.Bool.{false≢true}
use Rattle.path_graph.specs.Fit.{int_at}
use Rattle.label_space.specs.Rules.{Extends, Rules}
use Rattle.label_core.specs.declared.table.Place.{Place}
use Rattle.label_core.specs.declared.table.Entry.{Entry}
use Rattle.label_core.specs.Tables.{Cells, IsKept, StandsAt, entries_of}
use Rattle.label_core.specs.Walks.{AreDifferentWalks, Reaches}
use Rattle.label_core.specs.Points.{IsSound}
use Rattle.label_core.specs.Puts.{CoversNot}
use Rattle.label_rules.specs.Dominance.{Dominates}
use Rattle.label_rules.specs.Labels.{Backward, Direction, Forward, Setting, extended, root}
use Rattle.label_rules.specs.Spaces.{dominates, onward, rules}
use Rattle.label_rules.specs.Tables.{NeedsDominator}
use Rattle.label_rules.specs.declared.label.Label.{Label}
use Rattle.proof_rules.specs.TableWalls.{AreAlike, FilledLaw}
use Rattle.label_rules.proofs.TestLemmas.{dominates_decides, extension_is, is_extension}

pub needs_none : (direction : Direction) (S : Setting) (l : Label) → NeedsDominator direction S None l
needs_none Forward S l = tt
needs_none Backward S l = tt

module _ (direction : Direction) (S : Setting) (threshold : Option ℤ) (cells : ℕ) (cell_of : ℕ → ℤ → ℤ → ℕ) where
  abbrev upto : Rules Label
  upto = rules direction S threshold cells cell_of

  abbrev all : Rules Label
  all = rules direction S None cells cell_of

  -- an extension up to a threshold is one without
  extends_all : (l : Label) (k : ℕ) (m : Label) → Extends upto l k m → Extends all l k m
  extends_all l k m h =
      let arc : ℕ = slice_index (onward direction S l.vertex) k in
      let is = extension_is direction S threshold l arc m h.1 in
      (h.0, is_extension direction S None l arc is.defined (needs_none direction S (extended direction S l arc)) ∙ ap Some is.is)

  reaches_all : (l : Label) (arcs : List ℕ) (m : Label) → Reaches upto l arcs m → Reaches all l arcs m
  reaches_all l [] m h = h
  reaches_all l (k ∷ rest) m h = (h.0, extends_all l k h.0 h.1, reaches_all h.0 rest m h.2)

  sound_all : (t : Cells Label) → IsSound upto t → IsSound all t
  sound_all t sound = record {
    cell_each = sound.cell_each;
    at_home = sound.at_home;
    origins = sound.origins;
    labels = record {
      root = sound.labels.root;
      extended = λ p e o stands is. let at = sound.labels.extended p e o stands is in (at.0, at.1, extends_all at.0.label o.arc e.label at.2);
    };
    links = record { linked = sound.links.linked; kept_at_last = sound.links.kept_at_last };
    apart = sound.apart;
  }

  walks_all : (t : Cells Label) → AreDifferentWalks upto t → AreDifferentWalks all t
  walks_all t walks = record {
    walk = λ p e stands. let at = walks.walk p e stands in (at.0, at.1, reaches_all (root direction S) at.0 e.label at.2);
    differ = walks.differ;
  }

  -- an entry alike stands in the label's cell, where none dominates
  not_covered : (t : Cells Label) (l : Label) → IsSound upto t → CoversNot upto (entries_of t (cell_of l.vertex (int_at l.values.at 0) (int_at l.values.at 1))) l
      → (q : Place) (d : Entry Label) → StandsAt t q d → IsKept d → AreAlike d.label l → ¬ (Dominates direction S d.label l)
  not_covered t l sound free q d stands kept alike dominates =
      let home = (sound.at_home q d stands).1 in
      let cell : q.cell ≡ cell_of l.vertex (int_at l.values.at 0) (int_at l.values.at 1) = sym home ∙ same_cell alike.vertex alike.first alike.second in
      let there = subst (λ (c : ℕ). StandsAt t (record { cell = c; index = q.index }) d) cell stands in
      false≢true (sym (free q.index d there kept) ∙ (dominates_decides direction S d.label l).1 dominates)
    where
      same_cell : {v w : ℕ} {x y s u : ℤ} → v ≡ w → x ≡ s → y ≡ u → cell_of v x y ≡ cell_of w s u
      same_cell e f h = cc

pub filled : FilledLaw
filled limit direction S threshold cells cell_of t is =
    let arc : ℕ = slice_index (onward direction S is.entry.label.vertex) is.choice in
    let step = extension_is direction S threshold is.entry.label arc is.label is.extends.1 in
    record {
      cells = cells;
      cell_of = cell_of;
      sound = sound_all direction S threshold cells cell_of t is.sound;
      walks = walks_all direction S threshold cells cell_of t is.walks;
      count = is.count;
      further = record {
        place = is.place;
        entry = is.entry;
        stands = is.stands;
        choice = is.choice;
        within = is.extends.0;
        defined = step.defined;
        no_entry = is.no_entry;
        not_covered = subst (λ (l : Label). (q : Place) (d : Entry Label) → StandsAt t q d → IsKept d → AreAlike d.label l → ¬ (Dominates direction S d.label l)) (sym step.is)
            (not_covered direction S threshold cells cell_of t is.label is.sound is.not_covered);
      };
    }
