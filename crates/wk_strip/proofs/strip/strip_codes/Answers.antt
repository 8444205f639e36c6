use Rattle.std.proofs.Common.{◌≡◌, ℕ, List, ◌-◌, take, drop, length, ap, ◌∙◌, arith, length-drop}
use Rattle.std.proofs.lemmas.List.{with_items_is}
use Rattle.std.specs.Vec.{vec_len}
use Rattle.std.proofs.lemmas.Result.{err_from_is_err_and}
use Rattle.wk_module.specs.Listed.{listed}
use Rattle.wk_strip.specs.Apart.{IsReadWith}
use Rattle.wk_strip.proofs.Assembled.{codes_bytes}
use Rattle.wk_strip.proofs.Joined.{front_fits, behind_fits, codes_fit, assembled}
use Rattle.wk_strip.proofs.strip.strip_codes.Goals as goal
use Rattle.wk_strip.proofs.strip.strip_codes.Goals.{In_ok-others, After-truncate, After-lists}

pub returns-in_err-others : goal.returns-in_err-others
returns-in_err-others c =
    let p = err_from_is_err_and c.from_residual-in_err-others.result c.from_residual-in_err-others.ensures.1 in
    let read = rw c.deref_mut.ensures.value at c.in_ok-end.ensures.read in
    rw (p.1, p.2) (rw c.in_err-others.was at c.requires.apart.read c.in_ok-end.ensures.bodies read)

is_read : (c : In_ok-others) → IsReadWith c.args.profile c.args.bytes.items c.in_ok-end.ensures.bodies c.in_ok-others.others.now.lists
is_read c =
    let read = rw c.deref_mut.ensures.value at c.in_ok-end.ensures.read in
    rw c.in_ok-others.was at c.requires.apart.read c.in_ok-end.ensures.bodies read

codes_are : (c : After-truncate) → drop c.args.codes.first c.truncate.new.self.items ≡ codes_bytes c.in_ok-end.ensures.bodies
codes_are c =
    let len : length c.rewrite_codes.new.bytes ≡ vec_len c.args.bytes = c.rewrite_codes.auto.bytes ∙ c.deref_mut.ensures.len in
    ap (λ (b : List ℕ). drop c.args.codes.first b)
    (c.truncate.ensures.items ∙ ap (λ (b : List ℕ). take c.in_ok-end.end b) (with_items_is c.args.bytes c.rewrite_codes.new.bytes len))
    ∙ c.in_ok-end.ensures.written

size_is : (c : After-truncate) → length c.truncate.new.self.items - c.args.codes.first ≡ length (codes_bytes c.in_ok-end.ensures.bodies)
size_is c = omega (arith, ap length (codes_are c), length-drop c.args.codes.first c.truncate.new.self.items)

pub assemble-requires-clause-fits : goal.assemble-requires-clause-fits
assemble-requires-clause-fits c =
    let at = goal.at.assemble-requires-clause-fits c in
    rw (size_is at.After-truncate)
    (codes_fit c.args.profile c.args.bytes.items c.in_ok-end.ensures.bodies c.in_ok-others.others.now.lists
    (listed c.lists.result) c.lists.ensures.lists (is_read at.In_ok-others) c.args.kept.now c.requires.fits)

pub assemble-requires-clause-front : goal.assemble-requires-clause-front
assemble-requires-clause-front c =
    let at = goal.at.assemble-requires-clause-front c in
    front_fits c.args.profile c.args.bytes.items c.in_ok-end.ensures.bodies c.in_ok-others.others.now.lists
    (listed c.lists.result) c.lists.ensures.lists (is_read at.In_ok-others) c.args.kept.now c.requires.fits

pub assemble-requires-clause-short : goal.assemble-requires-clause-short
assemble-requires-clause-short c =
    let at = goal.at.assemble-requires-clause-short c in
    behind_fits c.args.profile c.args.bytes.items c.in_ok-end.ensures.bodies c.in_ok-others.others.now.lists
    (listed c.lists.result) c.lists.ensures.lists (is_read at.In_ok-others) c.args.kept.now c.requires.fits

pub returns : goal.returns
returns c =
    let at = goal.at.returns c in
    let codes = drop c.args.codes.first c.truncate.new.self.items in
    let size = length c.truncate.new.self.items - c.args.codes.first in
    assembled c.args.profile c.args.bytes.items c.in_ok-end.ensures.bodies c.in_ok-others.others.now.lists (listed c.lists.result) c.lists.ensures.lists
    (is_read at.In_ok-others) c.args.kept.now c.requires.fits
    codes size c.in_ok-assemble.field-0 (codes_are at.After-truncate) (size_is at.After-truncate) c.in_ok-assemble.ensures
