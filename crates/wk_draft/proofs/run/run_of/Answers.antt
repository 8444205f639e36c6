use Rattle.std.proofs.Common.{[]}
use Rattle.wk_module.specs.declared.types.Parts.{Parts}
use Rattle.wk_session.specs.Runs.{after}
use Rattle.wk_draft.proofs.Running.{written, written_fits, verdict_is, shaped_is}
use Rattle.wk_draft.proofs.run.run_of.Goals as goal

pub invariant_of-result : goal.invariant_of-result
invariant_of-result c =
    let m : Parts = c.requires.1 in
    let made = c.requires.3 in
    (made.many, written_fits m.funcs (after c.requires.0 c.requires.2 [] m) c.args.draft made.held c.args.codes.items made.codes)

pub returns : goal.returns
returns c = λ keep m edits made.
    let n : Parts = after keep edits [] m in
    let d = c.args.draft in
    record {
      edited = written m.funcs n d made.held c.args.codes.items made.codes;
      shaped = shaped_is m.funcs n d made.held c.parts-parts.ensures.shaped;
      fits = made.held.fits;
      verdict = verdict_is m.funcs n d made.held c.verdict-verdict.result.now c.verdict-verdict.ensures;
      replies = made.alike;
    }
