-- The names of officers, scripts and recipients.
use Rattle.std.specs.Prelude.{ℕ, List, Bool, ◌&&◌, ◌||◌, ◌==◌, not, nat_lt, length, slice_index, codes}
use Rattle.std.specs.Char.{is_ascii_digit, is_ascii_lowercase, is_ascii_alphanumeric}
use Rattle.std.specs.Str.{bytes_eq}
use Rattle.std.specs.List.{list_any, list_all}
use Rattle.session_words.specs.Words.{is_name}

-- files of editors have such names
abbrev pub begins_with_dot : List ℕ → Bool
begins_with_dot name = nat_lt 0 (length name) && (slice_index name 0 == 46)

-- a name with one is a path
abbrev pub has_slash : List ℕ → Bool
has_slash name = list_any (λ o. o == 47) name

-- a name that a folder can have beside those of scripts for all
abbrev pub is_officer_name : List ℕ → Bool
is_officer_name word = is_name word && not (has_slash word) && not (begins_with_dot word) && not (bytes_eq word (codes "global"))

-- a name whose file is a script of the folder itself, and not one of an editor's
abbrev pub is_name_of_script : List ℕ → Bool
is_name_of_script name = nat_lt 0 (length name) && not (has_slash name) && not (begins_with_dot name)

-- a small letter, a digit, or one of `.`, `-`, `_` and `=`
abbrev pub is_plain_octet : ℕ → Bool
is_plain_octet o = is_ascii_lowercase o || is_ascii_digit o || (o == 46) || (o == 45) || (o == 95) || (o == 61)

-- an officer's name as Postfix can have it as a recipient's
abbrev pub is_name_of_recipient : List ℕ → Bool
is_name_of_recipient officer = is_officer_name officer && list_all is_plain_octet officer && not (slice_index officer 0 == 45)

-- a letter, a digit, a dot or a hyphen
abbrev pub is_domain_octet : ℕ → Bool
is_domain_octet o = is_ascii_alphanumeric o || (o == 46) || (o == 45)

-- the name of a host or a domain by its octets
abbrev pub is_name_of_domain : List ℕ → Bool
is_name_of_domain word = nat_lt 0 (length word) && list_all is_domain_octet word
