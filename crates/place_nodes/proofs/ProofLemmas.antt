-- Closed tables of both directions are a proof of the place, which a certificate's text can tell.
use Rattle.std.proofs.Common.{◌≡◌, ℕ, ◌<◌, ℤ, Option, None, Some, List, [], All, length, get_or, refl, sym, ◌∙◌, ap, subst, arith}
use Rattle.std.proofs.lemmas.List.{get_or-map, length-map}
use Rattle.std.proofs.lemmas.List.Elements.{All-nil}
use Rattle.std.proofs.lemmas.Option.{slice_get-get_or}
use Rattle.path_graph.specs.declared.set_bits.SetBits.{SetBits}
use Rattle.route_model.specs.Parts.{ModelParts}
use Rattle.label_rules.specs.declared.label.Label.{Label}
use Rattle.label_rules.specs.declared.table.Form.TheVariants as text
use Rattle.label_rules.specs.declared.table.ProofTable.{ProofTable}
use Rattle.label_rules.specs.Labels.{Setting}
use Rattle.label_rules.specs.Leasts.{Both, Form, IsLeast, IsTable}
use Rattle.proof_rules.specs.Places.{setting_at}
use Rattle.proof_rules.specs.Proofs.{AreBoth, IsProof, IsTableOf, Table}
use Rattle.proof_rules.specs.Proofs.{table_at as table_in}
use Rattle.concatenate.specs.Fit.{MayJoin}
use Rattle.certificate.specs.declared.cert.Proof.{Proof}
use Rattle.certificate.specs.CertFits.{CutIsKnown, ProofFits}
use Rattle.certificate.specs.Sizes.{sizes_of}
use Rattle.cert_rules.specs.Meaning.{form_of, proof_of, table_of}
use Rattle.walk_list.specs.Listings.{IsProofWith, ListingFits}
use Rattle.pricing.specs.Tables.{AreNear, IsExactLeast, IsTableIn}
use Rattle.pricing.specs.Told.{AreTold}
use Rattle.place_nodes.specs.declared.prices.Basis.{Basis}
use Rattle.place_nodes.specs.declared.proof.Known.{Known}
use Rattle.place_nodes.specs.declared.task.Task.{Task}
use Rattle.place_nodes.specs.Proofs.{IsPlaceProof}
use Rattle.place_nodes.specs.Tasks.{AreBothTables, IsBasis, TaskFits, setting_by}
use Rattle.place_nodes.proofs.BasisLemmas.{basis_cuts, basis_shape, no_cuts_fit}

-- the exact least is one
least_both : (S : Setting) (fore back : List Label) (least : Option ℤ) → IsExactLeast S Both fore back least → IsLeast S Both fore back least
least_both S fore back None exact l listed at_sink = exact l.cost (record { label = l; listed = listed; at_sink = at_sink; same = refl })
least_both S fore back (Some cost) exact l listed at_sink = exact.1 l.cost (record { label = l; listed = listed; at_sink = at_sink; same = refl })

least_of : (S : Setting) (form : Form) (fore back : List Label) (least : Option ℤ) → form ≡ Both → IsExactLeast S form fore back least → IsLeast S form fore back least
least_of S form fore back least is exact =
    subst (λ (f : Form). IsLeast S f fore back least) (sym is) (least_both S fore back least (subst (λ (f : Form). IsExactLeast S f fore back least) is exact))

-- labels of rests of a closed table may be joined
may_join : (S : Setting) (form : Form) (fore back : List Label) → form ≡ Both → IsTable S form fore back → AreNear back → All (MayJoin S) back
may_join S form fore back is closed near i d l =
    let both = subst (λ (f : Form). IsTable S f fore back) is closed in
    record { windows = both.1.windows i d l; states = both.1.cover.states i d l; cost = near i d l }

-- the proof with the near lists of the lines
abbrev pub known_by : Basis → List ProofTable → Known
known_by b tables = record {
  proof = record { mult = b.mult; cuts = b.cuts; near = b.lines; tables = tables };
  priced = b.priced;
  near = b.near;
}

module _ (t : Task) (b : Basis) (tables : List ProofTable) (fits : TaskFits t) (is : IsBasis t.model.now t.spot.now b)
    (are : AreBothTables t b tables) (told : AreTold (sizes_of t.model.now) (length b.cuts) t.limit tables) where
  abbrev parts : ModelParts
  parts = t.model.now

  abbrev proof : Proof
  proof = (known_by b tables).proof

  abbrev none : ProofTable
  none = record { graph = 0; form = text.Full; least = None; fore = []; back = [] }

  size : length tables ≡ length parts.graphs
  size = are.count

  -- a table by its number
  table_is : (g : ℕ) (d : ProofTable) → g < length tables → IsTableIn (setting_by t b g) g (get_or tables g d) × ((get_or tables g d).form ≡ text.Both)
  table_is g d l = are.each g (get_or tables g d) (slice_get-get_or tables g d l)

  form_is : (g : ℕ) (d : ProofTable) → g < length tables → form_of (get_or tables g d).form ≡ Both
  form_is g d l = ap form_of (table_is g d l).1

  -- in the words of the rules
  abbrev told_at : ℕ → ProofTable
  told_at g = get_or tables g none

  said : (g : ℕ) → g < length tables → table_in (proof_of parts proof).tables g ≡ table_of (told_at g)
  said g l = get_or-map table_of tables g none _ l

  table_stands : (g : ℕ) → g < length tables → IsTableOf (setting_by t b g) (table_of (told_at g))
  table_stands g l =
      let table = (table_is g none l).0 in
      record {
        closed = table.closed;
        least_is = least_of (setting_by t b g) (form_of (told_at g).form) (told_at g).fore (told_at g).back (told_at g).least (form_is g _ l) table.least_is;
      }

  stands : IsProof parts t.spot.now (proof_of parts proof)
  stands = record {
    cuts_fit = no_cuts_fit parts t.spot.now b is;
    defined = is.prices.defined;
    count = length-map tables table_of ∙ size;
    each = λ g l.
        let below : g < length tables = omega (arith, l, size) in
        subst (IsTableOf (setting_by t b g)) (sym (said g below)) (table_stands g below);
  }

  both : AreBoth parts (proof_of parts proof)
  both g l =
      let below : g < length tables = omega (arith, l, size) in
      ap (λ (table : Table). table.form) (said g below) ∙ form_is g _ below

  told_proof : ProofFits parts proof
  told_proof =
      let cuts = basis_cuts parts t.spot.now b is in
      let stand = told fits.few in
      record {
        mult = is.fits;
        weights = record { count = cuts.count; each = cuts.each_mult };
        cuts = subst (All (CutIsKnown parts.sets)) (sym is.none) (All-nil (CutIsKnown parts.sets));
        few_cuts = cuts.few;
        near = is.told;
        tables = stand.0;
        labels = stand.1;
      }

  listing : ListingFits parts t.spot.now b.priced b.near b.cuts b.mult.cuts tables
  listing = record {
    spot_fits = fits.spot;
    mult = b.mult;
    mult_fits = is.fits;
    cuts_fit = basis_cuts parts t.spot.now b is;
    weights = refl;
    priced_is = is.prices;
    range = is.range;
    near_fits = basis_shape parts t.spot.now b is;
    count = size;
    rests = λ g l.
        let below : g < length tables = omega (arith, l, size) in
        let table = table_is g none below in
        subst (λ (near : List (List SetBits)). All (MayJoin (setting_at parts t.spot.now near b.cuts b.mult g)) (told_at g).back) (sym is.lists)
        (may_join (setting_by t b g) (form_of (told_at g).form) (told_at g).fore (told_at g).back (form_is g none below) table.0.closed table.0.back_near);
    leasts = λ g d l. (table_is g d l).0.least_near;
  }

  with_parts : IsProofWith parts t.spot.now b.priced b.near b.cuts b.mult.cuts tables (proof_of parts proof)
  with_parts = record { weights = refl; priced_is = is.prices; cuts_same = refl; near_same = sym is.lists; tables_same = refl }

  pub place_proof : IsPlaceProof parts t.spot.now (known_by b tables)
  place_proof = record { stands = stands; both = both; told = told_proof; fits = listing; parts = with_parts }
