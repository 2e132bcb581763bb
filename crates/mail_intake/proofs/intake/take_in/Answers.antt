use Rattle.std.proofs.Common.{◌≡◌, ap, subst, map, string_bytes}
use Rattle.mail_intake.specs.Calls.{is_done}
use Rattle.mail_intake.specs.Fates.{AreThoseOf}
use Rattle.mail_intake.specs.Folders.{Folders, IsEndIn}
use Rattle.mail_intake.specs.Telling.{memory_view}
use Rattle.mail_intake.proofs.Passing.{lead_weaker, makes_then}
use Rattle.mail_intake.proofs.intake.take_in.Goals as goal

pub returns : goal.returns
returns g c =
    let made = g.M.Mailroom.made in
    let has = g.M.Mailroom.has in
    let m = memory_view c.args.memory.now in
    let d = c.args.day in
    let each = c.take_each-end.ensures in
    let p = each.2 in
    let names = map string_bytes c.in-Ok.listing.names.items in
    let same : map string_bytes c.as_slice.result.now ≡ names = ap (map string_bytes) c.as_slice.ensures.value in
    record {
      names = names;
      fates = p.fates;
      ending = each.0;
      is_settled = is_done c.settle-last.result;
      order = subst (λ l. AreThoseOf l p.fates each.0) same p.order;
      calls = makes_then made c.args.room.now c.list.new.self c.settle-last.new.self _ _ c.in-Ok.ensures.made
          (makes_then made c.list.new.self c.take_each-end.new.room c.settle-last.new.self _ _ p.calls c.settle-last.ensures.call.made);
      ended = c.settled.ensures each.0 each.1;
      counts = p.counts;
      listed = c.in-Ok.ensures.listed;
      folders = λ (f : Folders) h. lead_weaker (λ g. IsEndIn g each.0 × has c.take_each-end.new.room g)
          (λ g. IsEndIn g each.0 × has c.settle-last.new.self g) (λ (g : Folders) k. (k.0, c.settle-last.ensures.call.kept g k.1)) p.fates f
          (p.folders f (c.in-Ok.ensures.kept f h));
    }
