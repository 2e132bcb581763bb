-- The places of one offset after another.
use Rattle.std.proofs.Common.{◌≡◌, ℕ, ◌+◌, ◌-◌, ◌<◌, ◌≤◌, List, Bool, true, false, take, length, get_or, not, refl, ap, sym, ◌∙◌, arith, take_all}
use Rattle.std.specs.Prelude.{if◌then◌else◌, min}
use Rattle.std.specs.List.{suffix_len, count_by}
use Rattle.std.proofs.lemmas.List.{length-take}
use Rattle.std.proofs.lemmas.List.Sums.{count_by_more_yes, count_by_more_no, count_by-le-length, suffix_len-take_yes}
use Rattle.std.proofs.lemmas.List.Sums.{suffix_len-take_no, suffix_len-le-length}
use Rattle.tool_texts.specs.declared.places.Place.{Place}
use Rattle.tool_texts.specs.Places.{line_of, column_of, is_line_feed}
use Rattle.tool_places.specs.Places.{place_at, past}

abbrev is_other : ℕ → Bool
is_other b = not (is_line_feed b)

same : {l m c d : ℕ} → l ≡ m → c ≡ d → ◌≡◌ {A = Place} (record { line = l; column = c }) (record { line = m; column = d })
same e f = rw (e, f) refl

-- an octet further
pub place_next : (text : List ℕ) (i : ℕ) → i < length text → place_at text (i + 1) ≡ past (place_at text i) (get_or text i 0)
place_next text i lt = by (is_line_feed (get_or text i 0)) refl
  where
    last : i + 1 - 1 ≡ i
    last = omega arith

    some : 0 < i + 1
    some = omega arith

    within : i + 1 ≤ length text
    within = omega arith

    other_at : (b : Bool) → is_line_feed (get_or text i 0) ≡ b → is_other (get_or text (i + 1 - 1) 0) ≡ not b
    other_at b e = ap (λ k. is_other (get_or text k 0)) last ∙ ap not e

    by : (b : Bool) → is_line_feed (get_or text i 0) ≡ b
        → place_at text (i + 1) ≡ (if b then record { line = line_of text i + 1; column = 1 } else record {
          line =
              line_of text i;
          column = column_of text i + 1;
        })
    by true e = same (ap (λ n. n + 1) (count_by_more_yes is_line_feed text i 0 lt e)) (ap (λ n.
        n + 1) (suffix_len-take_no is_other text (i + 1) 0 some within (other_at true e)))
    by false e =
        let more : suffix_len is_other (take (i + 1) text) ≡ 1 + suffix_len is_other (take i text) =
        suffix_len-take_yes is_other text (i + 1) 0 some within (other_at false e) ∙ ap (λ k. 1 + suffix_len is_other (take k text)) last in
        same (ap (λ n. n + 1) (count_by_more_no is_line_feed text i 0 lt e)) (omega (arith, more))

-- a place is no further than its offset
pub line_small : (text : List ℕ) (i : ℕ) → line_of text i ≤ i + 1
line_small text i = omega (arith, count_by-le-length is_line_feed (take i text), length-take i text)

pub column_small : (text : List ℕ) (i : ℕ) → column_of text i ≤ i + 1
column_small text i = omega (arith, suffix_len-le-length is_other (take i text), length-take i text)

-- the place after these octets
abbrev place_after : List ℕ → Place
place_after xs = record { line = count_by is_line_feed xs + 1; column = suffix_len is_other xs + 1 }

-- an offset past the end counts as the end
pub place_past_end : (text : List ℕ) (i : ℕ) → length text ≤ i → place_at text (length text) ≡ place_at text i
place_past_end text i le = ap place_after (take_all (length text) text (omega arith) ∙ sym (take_all i text le))
