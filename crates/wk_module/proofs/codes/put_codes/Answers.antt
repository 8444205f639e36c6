use Rattle.std.proofs.Common.{rules, List, ◌++◌, length, sym, ap, ◌∙◌, arith, append_assoc}
use Rattle.std.proofs.lemmas.List.{length_push, length-map, take_all}
use Rattle.std.proofs.lemmas.Slice.Zip.{zip_turn, zip_end}
use Rattle.wk_bytes.specs.Short.{short}
use Rattle.wk_module.specs.declared.types.Func.{Func}
use Rattle.wk_module.specs.Items.{written_code}
use Rattle.wk_module.specs.Sizes.{body_size}
use Rattle.wk_module.proofs.Lengths.{codes_are, codes_of, few_funcs, pieces_more, size_at, some_length}
use Rattle.wk_module.proofs.codes.put_codes.Goals as goal

pub overflow_cast-funcs : goal.overflow_cast-funcs
overflow_cast-funcs c = omega (arith, c.requires.fits, few_funcs c.args.funcs.now)

pub put_code-requires : goal.put_code-requires
put_code-requires c =
    let turn = zip_turn c.args.funcs.now c.args.sizes.now c.loop-func.yielded c.into_iter-func-iterator.result c.loop-func.func-iterator c.next.new.self
    c.next.result (search rules) (search rules) c.loop-func.yielded_by (c.in-Some.func, c.in-Some.size) c.in-Some.is c.next.ensures.steps in
    size_at c.args.funcs.now c.args.sizes.now (length c.loop-func.yielded) c.in-Some.func.now c.in-Some.size.now c.requires.sizes turn.0
    (turn.2 c.in-Some.func.now) (turn.3 c.in-Some.size.now)

pub loop-func-preserved : goal.loop-func-preserved
loop-func-preserved c =
    let turn = zip_turn c.args.funcs.now c.args.sizes.now c.loop-func.yielded c.into_iter-func-iterator.result c.loop-func.func-iterator c.next.new.self
    c.next.result (search rules) (search rules) c.loop-func.yielded_by (c.in-Some.func, c.in-Some.size) c.in-Some.is c.next.ensures.steps in
    pieces_more (λ (f : Func). written_code f.body) c.args.funcs.now (length c.loop-func.yielded) _ c.in-Some.func.now _ _ _ turn.0
    (turn.2 c.in-Some.func.now) (length_push c.loop-func.yielded (c.in-Some.func, c.in-Some.size)) c.loop-func.invariant c.in_ok-put_code.ensures

pub returns : goal.returns
returns c =
    let funcs = c.args.funcs.now in
    let end = zip_end funcs c.args.sizes.now c.loop-func.yielded c.into_iter-func-iterator.result c.loop-func.func-iterator c.next.new.self
    c.next.result (search rules) (search rules) c.loop-func.yielded_by c.in-None.is c.next.ensures.steps in
    let as_many = ap length c.requires.sizes ∙ length-map funcs (λ (f : Func). body_size f.body) in
    let all = take_all (length c.loop-func.yielded) funcs (omega arith) in
    let front = c.args.bytes.now.items in
    c.loop-func.invariant ∙ ap (λ (fs : List Func). (front ++ short (length funcs)) ++ codes_of fs) all
    ∙ append_assoc front (short (length funcs)) (codes_of funcs)
    ∙ ap (λ b. front ++ b) (sym (codes_are funcs (some_length funcs (sym c.if-is_empty.ensures))))
