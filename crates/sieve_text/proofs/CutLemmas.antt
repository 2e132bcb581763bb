-- The tokens that are read, and the gaps before them, make the script.
use Rattle.std.proofs.Common.{◌≡◌, ℕ, ◌+◌, ◌≤◌, List, [], ◌∷◌, ◌++◌, length, drop, Some, None, Ok, append-nil}
use Rattle.std.proofs.Common.{sym, ap, subst, ◌∙◌, arith, length-append}
use Rattle.std.proofs.lemmas.List.{length-drop, nil_from_length}
use Rattle.sieve_syntax.specs.declared.token.Token.{Token}
use Rattle.sieve_syntax.specs.declared.token.TokenKind.{TokenKind}
use Rattle.sieve_text.specs.Gaps.{gap_len}
use Rattle.sieve_text.specs.Tokens.{kind_at, token_at, Reads}
use Rattle.sieve_text.specs.TokenGrammar.{Gap, IsToken, IsFirst, IsCut}
use Rattle.sieve_text.proofs.GapLemmas.{drop_more}
use Rattle.sieve_text.proofs.GapGrammar.{gap_sound, dropped}
use Rattle.sieve_text.proofs.KindGrammar.{kind_sound}
use Rattle.sieve_text.proofs.Longest.{lexeme_short, kind_apart}
use Rattle.sieve_text.proofs.WithinLemmas.{token_parts, ends_at}

last_gap : (bs : List ℕ) → length bs ≤ gap_len 0 bs → Gap bs []
last_gap bs h =
    let g = gap_sound bs in
    let l = ap length g.cut ∙ length-append g.gap g.rest in
    let long = g.long in
    let none = nil_from_length g.rest (omega arith) in
    let whole : g.gap ≡ bs = sym (g.cut ∙ ap (λ cs. g.gap ++ cs) none ∙ append-nil g.gap) in
    subst (λ cs. Gap cs []) whole (subst (λ cs. Gap g.gap cs) none g.gap_is)

-- one token, and the rest after it
pub token_cut : (script : List ℕ) (at : ℕ) (t : Token) → token_at script at ≡ Ok (Some t) → IsFirst at (drop at script) t (drop t.end script)
token_cut script at t e =
    let p = token_parts script at t e in
    let g = gap_sound (drop at script) in
    let k = kind_sound (drop t.start script) p.kind p.read in
    let rest : drop t.start script ≡ g.rest = ap (λ n. drop n script) p.begins
    ∙ drop_more at (gap_len 0 (drop at script)) script
    ∙ dropped (drop at script) g.gap g.rest g.cut (gap_len 0 (drop at script)) g.long in
    let following : drop t.end script ≡ k.following = ap (λ n. drop n script) p.ends ∙ drop_more t.start p.kind.1 script
    ∙ dropped (drop t.start script) k.octets k.following k.cut p.kind.1 k.long in
    subst (λ cs. IsFirst at (drop at script) t cs) (sym following) (record {
      gap = g.gap;
      octets = k.octets;
      cut = g.cut ∙ ap (λ cs. g.gap ++ cs) (sym rest ∙ k.cut);
      gap_is = subst (λ cs. Gap g.gap cs) (sym rest ∙ k.cut) g.gap_is;
      start = p.begins ∙ ap (λ n. at + n) (sym g.long);
      end = p.ends ∙ ap (λ n. t.start + n) (sym k.long);
      token = subst (λ (kind : TokenKind). IsToken kind k.octets k.following) (sym p.says) (record {
        spelled = k.spelled;
        longest = λ kind more others same lexeme.
            (let s = lexeme_short kind more others p.kind lexeme (sym (ap kind_at (k.cut ∙ same)) ∙ p.read) in let l =
            k.long in omega arith);
        apart = kind_apart p.kind.0 k.octets k.following k.spelled p.kind.1 (sym (ap kind_at k.cut) ∙ p.read);
        limited = k.limited;
      });
    })

pub cut_from : (script : List ℕ) (at : ℕ) (ts : List Token) (end : ℕ) → Reads script at ts end
    → token_at script end ≡ Ok None → IsCut at (drop at script) ts
cut_from script at [] end h e =
    let l = ends_at script at (rw h e) in
    let d = length-drop at script in
    last_gap (drop at script) (omega arith)
cut_from script at (t ∷ ts) end h e = (drop t.end script, token_cut script at t h.0, cut_from script t.end ts end h.1 e)
