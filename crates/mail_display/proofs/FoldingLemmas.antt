-- A text of ASCII without case is the text in lower case.
use Rattle.std.proofs.Common.{◌≡◌, ℕ, ◌<◌, List, map, ap, ◌∙◌, arith, encode_utf8_all, IsAscii}
use Rattle.std.proofs.lemmas.Bool.Decides.{nat_tests}
use Rattle.std.proofs.lemmas.Str.{chars-IsAscii, encodes-IsAscii}
use Rattle.std.proofs.lemmas.Str.Ascii.{All-from_ascii, IsAscii-map}
use Rattle.std.specs.Char.{to_ascii_lowercase}
use Rattle.unicode_normalization.specs.Forms.{Nfd, nfd}
use Rattle.unicode_normalization.proofs.FormsLemmas.{normalize-ascii}
use Rattle.caseless.specs.Caseless.{default_case_fold}
use Rattle.caseless.proofs.CaselessLemmas.{default_case_fold-ascii}
use Rattle.mail_display.specs.Folding.{decomposed, without_case, folded}

lower_letter : (b : ℕ) → b < 128 → to_ascii_lowercase b < 128
lower_letter b h = grind (arith, nat_tests)

lower-ascii : (text : List ℕ) → IsAscii text → IsAscii (map to_ascii_lowercase text)
lower-ascii text ascii = IsAscii-map to_ascii_lowercase text lower_letter ascii

decomposed-ascii : (text : List ℕ) → IsAscii text → decomposed text ≡ text
decomposed-ascii text ascii =
    ap (λ (cs : List ℕ). encode_utf8_all (nfd cs)) (chars-IsAscii text ascii)
    ∙ ap encode_utf8_all (normalize-ascii Nfd text (All-from_ascii text ascii)) ∙ encodes-IsAscii text ascii

without_case-ascii : (text : List ℕ) → IsAscii text → without_case text ≡ map to_ascii_lowercase text
without_case-ascii text ascii =
    ap (λ (cs : List ℕ). encode_utf8_all (default_case_fold cs)) (chars-IsAscii text ascii)
    ∙ ap encode_utf8_all (default_case_fold-ascii text (All-from_ascii text ascii))
    ∙ encodes-IsAscii (map to_ascii_lowercase text) (lower-ascii text ascii)

pub folded-ascii : (text : List ℕ) → IsAscii text → folded text ≡ map to_ascii_lowercase text
unfolding folded
folded-ascii text ascii =
    ap (λ (t : List ℕ). decomposed (without_case t)) (decomposed-ascii text ascii)
    ∙ ap decomposed (without_case-ascii text ascii)
    ∙ decomposed-ascii (map to_ascii_lowercase text) (lower-ascii text ascii)
