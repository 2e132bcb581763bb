-- The choices of the code, and what an entry shows of them.
use Rattle.std.specs.Prelude.{ℕ, nat_eq, int_le, ℤ, Bool, true, false, not, ◌&&◌, ◌||◌, List, [], ◌∷◌, map, Option, Some, None, option_map}
use Rattle.std.specs.List.{list_any}
use Rattle.std.specs.Str.{bytes_eq}
use Rattle.jiff.specs.Words.{epoch_day}
use Rattle.record_choice.specs.declared.choice.Choice as code_choice
use Rattle.record_choice.specs.declared.choice.Holder as code_holder
use Rattle.record_choice.specs.declared.choice.Holder.TheVariants as holders
use Rattle.record_choice.specs.declared.choice.Span as code_span
use Rattle.record_choice.specs.Choices.{Span, Holder, anyone, named, Choice, where_asked, is_in, is_within}
use Rattle.record_choice.specs.Entries.{RecordEntry}

abbrev pub span_view : code_span.Span → Span
span_view s = record { first = s.first; last = s.last }

abbrev pub holder_view : code_holder.Holder → Holder
holder_view holders.Anyone = anyone
holder_view (holders.Named name) = named name.items

-- a choice of the code as a plain one
abbrev pub choice_view : code_choice.Choice → Choice
choice_view c = record {
  numbers = option_map (λ v. map span_view v.items) c.numbers;
  class = option_map (λ v. v.items) c.class;
  live = c.is_live;
  destroyed = c.is_destroyed;
  held = option_map holder_view c.held;
  since = option_map epoch_day c.since;
  until = option_map epoch_day c.until;
  due = option_map epoch_day c.due;
}

-- an entry shows a hold
abbrev pub shows_hold : List (List ℕ) → Holder → Bool
shows_hold names anyone = list_any (λ name. true) names
shows_hold names (named name) = list_any (λ n. bytes_eq n name) names

-- an entry shows a due day that is not later
abbrev pub shows_due : Option ℤ → ℤ → Bool
shows_due None day = false
shows_due (Some d) day = int_le d day

-- what an entry shows of all that is asked, in the parts of `meets`
abbrev pub shows_where : Choice → RecordEntry → Bool
shows_where c e = where_asked (list_any (is_in e.number)) c.numbers && where_asked (λ class. is_within class e.path) c.class

abbrev pub shows_as : Choice → RecordEntry → Bool
shows_as c e = (not c.live || not e.destroyed) && (not c.destroyed || e.destroyed) && where_asked (shows_hold e.holds) c.held

abbrev pub shows_when : Choice → RecordEntry → Bool
shows_when c e = where_asked (λ day. int_le day e.day) c.since && where_asked (λ day. int_le e.day day) c.until
    && where_asked (shows_due e.due) c.due

abbrev pub shows : Choice → RecordEntry → Bool
shows c e = shows_where c e && shows_as c e && shows_when c e

-- what stands after a class in a path is nothing, or begins with a "/"
abbrev pub goes_on : List ℕ → Bool
goes_on [] = true
goes_on (b ∷ bs) = nat_eq b 47
