use Rattle.std.proofs.lemmas.Result.{err_from_is_err_and}
use Rattle.sieve_text.specs.Lexemes.{kinds_in}
use Rattle.sieve_text.specs.Reading.{script_at}
use Rattle.sieve_text.proofs.LexemeLemmas.{read_all}
use Rattle.sieve_text.proofs.ScriptLaws.{script_found, script_only, script_deep, script_faulty, script_explained}
use Rattle.sieve_text.proofs.ScriptLaws.{fault_only, fault_deep, fault_faulty}
use Rattle.sieve_text.proofs.parser.parse.Goals as goal

pub returns-in_err-check_text-clause-only : goal.returns-in_err-check_text-clause-only
returns-in_err-check_text-clause-only c =
    let p = err_from_is_err_and c.from_residual.result c.from_residual.ensures.1 in
    rw (p.1, p.2) (fault_only c.args.script.now c.in_err-check_text.field-0.0 c.in_err-check_text.ensures.fault)

pub returns-in_err-check_text-clause-nests : goal.returns-in_err-check_text-clause-nests
returns-in_err-check_text-clause-nests c =
    let p = err_from_is_err_and c.from_residual.result c.from_residual.ensures.1 in
    rw (p.1, p.2) (λ t i d. fault_deep c.args.script.now c.in_err-check_text.field-0.0 c.in_err-check_text.ensures.fault t i)

pub returns-in_err-check_text-clause-faulty : goal.returns-in_err-check_text-clause-faulty
returns-in_err-check_text-clause-faulty c =
    let p = err_from_is_err_and c.from_residual.result c.from_residual.ensures.1 in
    rw (p.1, p.2) (fault_faulty c.args.script.now c.in_err-check_text.field-0.0 c.in_err-check_text.ensures.fault)

pub returns-in_err-judge_tokens-clause-only : goal.returns-in_err-judge_tokens-clause-only
returns-in_err-judge_tokens-clause-only c =
    let p = err_from_is_err_and c.from_residual-in_err-judge_tokens.result c.from_residual-in_err-judge_tokens.ensures.1 in
    rw (p.1, p.2) (fault_only c.args.script.now c.in_err-judge_tokens.field-0.0 c.in_err-judge_tokens.ensures.fault)

pub returns-in_err-judge_tokens-clause-nests : goal.returns-in_err-judge_tokens-clause-nests
returns-in_err-judge_tokens-clause-nests c =
    let p = err_from_is_err_and c.from_residual-in_err-judge_tokens.result c.from_residual-in_err-judge_tokens.ensures.1 in
    rw (p.1, p.2) (λ t i d. fault_deep c.args.script.now c.in_err-judge_tokens.field-0.0 c.in_err-judge_tokens.ensures.fault t i)

pub returns-in_err-judge_tokens-clause-faulty : goal.returns-in_err-judge_tokens-clause-faulty
returns-in_err-judge_tokens-clause-faulty c =
    let p = err_from_is_err_and c.from_residual-in_err-judge_tokens.result c.from_residual-in_err-judge_tokens.ensures.1 in
    rw (p.1, p.2) (fault_faulty c.args.script.now c.in_err-judge_tokens.field-0.0 c.in_err-judge_tokens.ensures.fault)

pub returns-clause-found : goal.returns-clause-found
returns-clause-found c =
    let ts = c.in_ok-judge_tokens.ensures.tokens in
    script_found c.args.script.now ts.0 c.answer.result ts.1
    (rw (read_all c.args.script.now ts.0 ts.1) (c.answer.ensures (script_at 32 32 (kinds_in c.args.script.now))
    c.all_commands-read.ensures.value))

pub returns-clause-only : goal.returns-clause-only
returns-clause-only c =
    let ts = c.in_ok-judge_tokens.ensures.tokens in
    script_only c.args.script.now ts.0 c.answer.result ts.1
    (rw (read_all c.args.script.now ts.0 ts.1) (c.answer.ensures (script_at 32 32 (kinds_in c.args.script.now))
    c.all_commands-read.ensures.value))

pub returns-clause-nests : goal.returns-clause-nests
returns-clause-nests c =
    let ts = c.in_ok-judge_tokens.ensures.tokens in
    script_deep c.args.script.now ts.0 c.answer.result ts.1
    (rw (read_all c.args.script.now ts.0 ts.1) (c.answer.ensures (script_at 32 32 (kinds_in c.args.script.now))
    c.all_commands-read.ensures.value))

pub returns-clause-faulty : goal.returns-clause-faulty
returns-clause-faulty c =
    let ts = c.in_ok-judge_tokens.ensures.tokens in
    script_faulty c.args.script.now ts.0 c.answer.result ts.1

pub returns-clause-refused : goal.returns-clause-refused
returns-clause-refused c =
    let ts = c.in_ok-judge_tokens.ensures.tokens in
    script_explained c.args.script.now ts.0 c.answer.result ts.1
    (rw (read_all c.args.script.now ts.0 ts.1) (c.answer.ensures (script_at 32 32 (kinds_in c.args.script.now))
    c.all_commands-read.ensures.value))
