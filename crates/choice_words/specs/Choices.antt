-- What is typed of a choice.
use Rattle.std.specs.Prelude.{nat_le, Bool, not, ◌&&◌, length, ◌==◌, is_none}
use Rattle.choice_words.specs.declared.choice.Choice.{Choice}

-- neither a test nor a text
abbrev pub asks_no_message : Choice → Bool
asks_no_message c = is_none c.test && is_none c.sender && is_none c.recipient && is_none c.subject

abbrev pub asks_no_day : Choice → Bool
asks_no_day c = is_none c.since && is_none c.until && is_none c.due

-- NOTHING IS TYPED, neither a number nor a condition
abbrev pub is_empty : Choice → Bool
is_empty c = (length c.numbers.items == 0) && nat_le c.from 1 && is_none c.class && asks_no_day c
    && not c.is_held && not c.is_live && not c.is_destroyed && asks_no_message c
