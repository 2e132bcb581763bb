use Rattle.std.proofs.Common.{◌∙◌, ◌++◌, ap, refl}
use Rattle.cli_console.specs.Sequences.{between}
use Rattle.cli_texts.proofs.TextLemmas.{if_ok_map}
use Rattle.cli_history.proofs.printing.object_of.Goals as goal

pub returns : goal.returns
returns c =
    let row = c.args.row.now in
    let event = c.args.event.now in
    let is = c.in_ok-object.ensures in
    if_ok_map c.in_array.result c.in_array.ensures (λ s same. (
      record {
        volume = c.args.volume;
        number = row.number;
        moment = event.moment;
        who = event.who;
        word = c.word_of.result;
        fields = c.as_slice.result;
        notes = event.notes;
        reason = event.reason;
        line = c.as_slice-2.result;
        mark = c.as_slice-3.result;
      },
      record {
        volume_is = refl;
        number = refl;
        moment = refl;
        who = refl;
        notes = refl;
        reason = refl;
        line = c.as_slice-2.ensures.value;
        mark = c.as_slice-3.ensures.value;
      },
      is.0,
      is.1,
      same ∙ ap (λ t. between c.args.is_first ++ t) (c.as_str.ensures.value ∙ is.2),
    ))
