use Rattle.std.proofs.Common.{inl, inr, arith, sym, ◌∙◌, take, None, Some}
use Rattle.mail_words.specs.Unfolding.{without_line_ends}
use Rattle.mail_words.proofs.FrontLemmas.{nil_from}
use Rattle.mail_words.proofs.Base64Lemmas.{Decoding-none, Decoding-more, Decoding-bad, Decoding-short, Decoding-all}
use Rattle.mail_words.proofs.Base64Lemmas.{bytes_unfolded, symbols_read, some_left, not_nil}
use Rattle.mail_words.proofs.base64_text.append_b.Goals as goal
use Rattle.mail_words.proofs.base64_text.append_b.Goals.{else-size-lt-OCTETS-via-then-size-lt-OCTETS+else-not-is_empty}
use Rattle.mail_words.proofs.base64_text.append_b.Goals.{else-size-lt-OCTETS-via-else-size-lt-OCTETS}

pub groups-init : goal.groups-init
groups-init c =
    Decoding-none c.args.charset (without_line_ends c.args.text.now) c.args.shown.now.items
    (bytes_unfolded c.args.text.now (λ i. let f = c.type_inv.text i in omega arith))

pub returns-in_default : goal.returns-in_default
returns-in_default c =
    Decoding-bad c.args.charset (without_line_ends c.args.text.now) (without_line_ends c.groups.rest.now)
    c.args.shown.now.items c.groups.shown.items c.groups.invariant
    (symbols_read c.read_symbols-count.new.symbols (without_line_ends c.groups.rest.now) c.read_symbols-count.result.0
    None c.read_symbols-count.ensures.read c.in_default.ensures.value)

pub returns-then-not-is_empty : goal.returns-then-not-is_empty
returns-then-not-is_empty c =
    Decoding-short c.args.charset (without_line_ends c.args.text.now) (without_line_ends c.groups.rest.now)
    (without_line_ends c.read_symbols-count.result.1.now) c.args.shown.now.items c.groups.shown.items
    (take c.in-Some.size c.decode_symbols.new.octets) c.groups.invariant
    (symbols_read c.read_symbols-count.new.symbols (without_line_ends c.groups.rest.now) c.read_symbols-count.result.0
    (Some (take c.in-Some.size c.decode_symbols.new.octets)) c.read_symbols-count.ensures.read c.in-Some.ensures.value)
    (omega (arith, c.in-Some.ensures.size, c.if-size-lt-OCTETS.true))
    (not_nil (without_line_ends c.read_symbols-count.result.1.now) (sym c.is_empty-then-size-lt-OCTETS.ensures
    ∙ c.if-not-is_empty.true)) c.read_symbols-count.ensures.following

pub groups-smaller : goal.groups-smaller
groups-smaller c =
    some_left (without_line_ends c.groups.rest.now) (without_line_ends c.read_symbols-count.result.1.now)
    (sym c.is_empty.ensures ∙ c.groups-test.true) c.read_symbols-count.ensures.following

pub groups-preserved : goal.groups-preserved
groups-preserved c =
    Decoding-more c.args.charset (without_line_ends c.args.text.now) (without_line_ends c.groups.rest.now)
    (without_line_ends c.read_symbols-count.result.1.now) c.args.shown.now.items c.groups.shown.items
    c.append_octets.new.shown.items (take c.in-Some.size c.decode_symbols.new.octets) c.groups.invariant
    (symbols_read c.read_symbols-count.new.symbols (without_line_ends c.groups.rest.now) c.read_symbols-count.result.0
    (Some (take c.in-Some.size c.decode_symbols.new.octets)) c.read_symbols-count.ensures.read c.in-Some.ensures.value)
    (elim c.else-size-lt-OCTETS.branch [
      | else-size-lt-OCTETS-via-then-size-lt-OCTETS+else-not-is_empty w ↦
          inr (nil_from (without_line_ends c.read_symbols-count.result.1.now) (sym w.is_empty-then-size-lt-OCTETS.ensures
          ∙ w.if-not-is_empty.false))
      | else-size-lt-OCTETS-via-else-size-lt-OCTETS w ↦
          inl (let size = c.in-Some.ensures.size in let most = c.in-Some.ensures.within in let least =
          w.if-size-lt-OCTETS.false in omega (arith, size, most, least))
    ]) c.read_symbols-count.ensures.following c.in_ok-append_octets.ensures

pub returns : goal.returns
returns c = Decoding-all c.args.charset (without_line_ends c.args.text.now) (without_line_ends c.groups.rest.now)
    c.args.shown.now.items c.groups.shown.items c.groups.invariant
    (nil_from (without_line_ends c.groups.rest.now) (sym c.is_empty.ensures ∙ c.groups-test.false))
