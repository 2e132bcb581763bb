use Rattle.record_history.proofs.ReadableLemmas.{listing_readable}
use Rattle.record_history.proofs.readable.is_listing.Goals as goal

pub returns : goal.returns
returns c =
    let plan = c.args.plan.now in
    listing_readable c.have_path_texts.result plan.root plan.classes.items c.as_slice.result.now c.as_slice.ensures.value c.requires
    c.have_path_texts.ensures
