-- What each page begins with.
use Rattle.std.specs.Prelude.{ℕ, List, ◌++◌, codes}
use Rattle.base64.specs.Engines.{standard}
use Rattle.base64.specs.GeneralPurpose.{encode_of}
use Rattle.sha2.specs.Sha256.{sha256}
use Rattle.cli_page.specs.declared.style.TheConstants.{STYLE}
use Rattle.cli_page.specs.Pages.{text_piece}

abbrev pub before_policy : List ℕ
before_policy =
    codes "<!DOCTYPE html>\n<html lang=\"en\">\n<head>\n<meta charset=\"utf-8\">\n<meta http-equiv=\"Content-Security-Policy\" content=\""

abbrev pub after_policy : List ℕ
after_policy =
    codes "\">\n<meta name=\"viewport\" content=\"width=device-width, initial-scale=1\">\n<meta name=\"referrer\" content=\"no-referrer\">\n<title>"

-- THE POLICY: nothing is let in but the style of this SHA-256, in base64
unfoldable pub policy_for : (sum : List ℕ) → List ℕ
policy_for sum = codes "default-src 'none'; style-src 'sha256-" ++ sum ++ codes "'; base-uri 'none'; form-action 'none'"

-- the SHA-256 of the style of each page, in base64
unfoldable pub style_sum : List ℕ
style_sum = encode_of standard (sha256 STYLE.now)

-- what comes before the title, with the policy that says what a page lets in
unfoldable pub head_start : List ℕ
head_start = before_policy ++ text_piece (policy_for style_sum) ++ after_policy

-- what comes after the title, with the style, which is one of the program's own texts
unfoldable pub head_end : List ℕ
head_end = codes "</title>\n<style>" ++ STYLE.now ++ codes "</style>\n</head>\n"
