use Rattle.std.proofs.Common.{◌≡◌, false, drop, refl}
use Rattle.std.specs.List.{prefix_len}
use Rattle.sieve_text.specs.Octets.{is_white, begins_with}
use Rattle.sieve_text.proofs.SkipLemmas.{white_gap}
use Rattle.sieve_text.proofs.scanner.gap.after_gap.Goals as goal

pub returns-then-not-starts_with-2 : goal.returns-then-not-starts_with-2
returns-then-not-starts_with-2 c =
    let back : c.split_at.result.1.now ≡ drop (prefix_len is_white c.args.text.now) c.args.text.now = cc in
    let hash : begins_with 35 c.split_at.result.1.now ≡ false = cc in
    let slash : begins_with 47 c.split_at.result.1.now ≡ false = cc in
    let white = white_gap c.args.text.now (rw back at hash) (rw back at slash) in
    rw (back, white) refl
