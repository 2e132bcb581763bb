use Rattle.std.proofs.Common.{◌≡◌, List, ap}
use Rattle.std.proofs.lemmas.List.Elements.{All-nil}
use Rattle.std.specs.BTreeMap.{is_at}
use Rattle.std.specs.Map.{lookup}
use Rattle.cli_readings.specs.Groups.{Added, KeyedGroup, OwnKey, key_of, order_of, records_in}
use Rattle.cli_readings.proofs.groups.Groups.new.Goals as goal

pub returns : goal.returns
returns c = record {
  records = λ (own : OwnKey). ap (λ (es : List KeyedGroup). records_in (lookup (is_at (order_of own)) es)) c.new.ensures.empty;
  seals = All-nil (λ (e : Added). (own : OwnKey) × (key_of own ≡ e.0));
}
