use Rattle.std.proofs.Common.{◌≡◌, rules}
use Rattle.wasmkit.proofs.Telling.{said}
use Rattle.wasmkit.proofs.commands.telling.say.Goals as goal

pub returns-then-failures-start-2 : goal.returns-then-failures-start-2
returns-then-failures-start-2 g c = λ told first heard.
    let same : g.Y.Out.failed c.args.err.now ≡ c.args.start = search rules in
    said told c.args.text.now first _ _ c.args.start c.put_all.result _ _ same heard c.put_all.ensures.ok c.put_all.ensures.err c.put_all.ensures.failures
