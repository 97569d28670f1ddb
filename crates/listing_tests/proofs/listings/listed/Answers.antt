use Rattle.std.proofs.Common.{All, subst}
use Rattle.label_rules.specs.Labels.{Setting}
use Rattle.concatenate.specs.Fit.{MayJoin}
use Rattle.list_check.proofs.SettingLemmas.{setting_same}
use Rattle.walk_list.specs.Listings.{table_at}
use Rattle.listing_tests.specs.Rows.{field_in}
use Rattle.listing_tests.proofs.listings.listed.Goals as goal

pub with_walks-requires : goal.with_walks-requires
with_walks-requires c =
    let r = c.args.row.now in
    let fits = c.requires in
    let have = c.have_rests.ensures c.if-not-have_rests.false in
    record {
      spot_fits = fits.spot_fits;
      mult = r.mult.now;
      mult_fits = fits.mult_fits;
      cuts_fit = fits.cuts_fit;
      weights = fits.weights;
      priced_is = fits.priced_is;
      range = fits.range;
      near_fits = fits.near_fits;
      count = have.count;
      rests = λ g l. subst (λ (S : Setting). All (MayJoin S) (table_at r.tables.now g).back) (setting_same (field_in r g) r.mult.now fits.priced_is fits.weights) (have.each g l);
      leasts = c.leasts_near.ensures c.if-not-leasts_near.false;
    }
