-- Two marks, as `sha256sum` gives them.
use Rattle.std.proofs.Common.{◌≡◌, [], codes, refl}
use Rattle.sha2.specs.Sha256.{compress, digest_bytes, first_words, hash_after, rounds, schedule, sha256}
use Rattle.hex.specs.Hex.{encode_with}
use Rattle.record_history.specs.Chain.{mark_after}

first_mark : mark_after [] (codes "1 2031-01-01T09:30:00Z ann held audit 1 : order 12/3")
    ≡ codes "5e7c47d418734268924e140c633389c1162cf1757710aa387ee237ce191e294a"
unfolding first_words schedule rounds compress hash_after digest_bytes sha256 encode_with
first_mark = refl

second_mark : mark_after (codes "5e7c47d418734268924e140c633389c1162cf1757710aa387ee237ce191e294a") (codes "2 2031-01-01T09:30:00Z ann held audit 2")
    ≡ codes "19102ab8ccfa9334d55d1f58bf9756317a3408e45ad510c1f88a9b60bee5c0fa"
unfolding first_words schedule rounds compress hash_after digest_bytes sha256 encode_with
second_mark = refl
