use Rattle.std.proofs.Common.{ℕ, ◌++◌, refl, take, arith}
use Rattle.wk_body.specs.Kept.{told}
use Rattle.wk_list.proofs.CodeLoop.{token_next, tokens_end}
use Rattle.wk_list.proofs.TakenLemmas.{on_unit, puts_last, puts_on, stopped}
use Rattle.wk_list.proofs.Trees.{some_token}
use Rattle.wk_list.proofs.code.list_tokens.Goals as goal

pub returns-in_err-len : goal.returns-in_err-len
returns-in_err-len g c =
    let pool = c.args.labels.now in
    let step = token_next pool _ _ c.in-Some.token.now c.loop-token.at c.loop-token.depth _ _ _
    (c.loop-token.text.items ++ take c.loop-token.fill.used c.loop-token.buf)
    c.in-Some.ensures.cases.0 (c.depths-here.ensures.here pool) refl refl in
    stopped {U = ℕ} (puts_on _ c.loop-token.invariant.so_far step c.in_err-len.ensures.puts) c.from_residual.ensures

pub loop-token-preserved : goal.loop-token-preserved
loop-token-preserved g c =
    let pool = c.args.labels.now in
    let place = rw c.in-Some.ensures.cases.0 at c.loop-token.invariant.place in
    let within = rw c.in-Some.ensures.cases.0 at c.loop-token.invariant.within in
    let step = token_next pool _ _ c.in-Some.token.now c.loop-token.at c.loop-token.depth _ _ _
    (c.loop-token.text.items ++ take c.loop-token.fill.used c.loop-token.buf)
    c.in-Some.ensures.cases.0 (c.depths-here.ensures.here pool) (c.depths-here.ensures.behind pool) c.in_ok-len.ensures.len in
    record {
      so_far = on_unit (puts_on _ c.loop-token.invariant.so_far step c.in_ok-len.ensures.puts);
      place = omega (arith, place, c.in_ok-len.ensures.len);
      deep = omega (arith, c.depths-here.ensures.near, c.in_ok-len.ensures.len, some_token (told pool c.in-Some.token.now), c.loop-token.invariant.deep);
      inside = c.in_ok-len.ensures.inside;
      reach = c.in_ok-len.ensures.reach;
      within = within.1;
    }

pub returns : goal.returns
returns g c =
    puts_last c.loop-token.invariant.so_far
    (tokens_end c.args.labels.now c.loop-token.rest.now c.loop-token.at c.loop-token.depth
    (c.loop-token.text.items ++ take c.loop-token.fill.used c.loop-token.buf) c.in_default.ensures.cases) c.put_buf.ensures
