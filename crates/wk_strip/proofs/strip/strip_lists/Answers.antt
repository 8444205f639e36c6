use Rattle.std.proofs.Common.{◌≡◌, ◌++◌, sym, ◌∙◌, arith}
use Rattle.wk_bytes.specs.Frames.{magic, version}
use Rattle.wk_module.specs.Listed.{listed}
use Rattle.wk_module.specs.Sections.{no_lists}
use Rattle.wk_module.proofs.CodesApart.{lists_few, no_items}
use Rattle.wk_strip.specs.Written.{sections_from, IsTooLong}
use Rattle.wk_strip.proofs.Assembled.{not_too_large}
use Rattle.wk_strip.proofs.Joined.{all_fit, written_alone}
use Rattle.wk_strip.proofs.strip.strip_lists.Goals as goal

pub overflow_cast-result : goal.overflow_cast-result
overflow_cast-result c = omega (arith, lists_few c.args.profile no_lists c.args.all.now.lists c.args.bytes.now c.requires.read)

pub written-requires : goal.written-requires
written-requires c =
    let all = c.args.all.now.lists in
    let lent = c.lists-lists.result in
    let lists = c.reading_of_module.ensures.lists in
    let none = no_items lent.funcs.now (sym c.if-not-is_empty.ensures) in
    not_too_large c.begin.result (λ f. f.items ≡ (magic ++ version) ++ sections_from (listed lent) c.args.kept.now 0 12)
    (IsTooLong (listed lent) 0 12) c.begin.ensures
    (all_fit c.args.profile c.args.bytes.now lists all (listed lent) c.requires.none c.lists-lists.ensures.lists none c.requires.read
    c.args.kept.now c.requires.fits)

pub returns : goal.returns
returns c =
    let all = c.args.all.now.lists in
    let lent = c.lists-lists.result in
    let lists = c.reading_of_module.ensures.lists in
    let none = no_items lent.funcs.now (sym c.if-not-is_empty.ensures) in
    let bytes = rw c.in_ok-bytes.ensures at c.begin.ensures in
    written_alone c.args.profile c.args.bytes.now lists all (listed lent) c.requires.none c.lists-lists.ensures.lists none c.requires.read
    c.args.kept.now c.requires.fits c.whole.result (c.whole.ensures ∙ bytes)
