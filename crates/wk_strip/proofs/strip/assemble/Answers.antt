use Rattle.std.proofs.Common.{rules, ◌≡◌, ◌-◌, ◌++◌, ℕ, List, IfOk, drop, length, ap, subst, ◌∙◌}
use Rattle.std.proofs.lemmas.List.{drop-append-le}
use Rattle.wk_bytes.specs.Frames.{magic, version}
use Rattle.wk_module.specs.Listed.{listed}
use Rattle.wk_strip.specs.Written.{code_front, sections_from}
use Rattle.wk_strip.proofs.strip.assemble.Goals as goal

pub returns : goal.returns
returns c =
    let lists = listed c.args.lists.now in
    let kept = c.args.kept.now in
    let codes = c.args.codes.items in
    let gap = c.args.gap in
    let head = code_front (length c.args.lists.now.funcs.now) (length codes - gap) in
    let last = sections_from lists kept 10 2 in
    let front : c.in_ok-front.front.items ≡ (magic ++ version) ++ sections_from lists kept 0 10 = rw c.in_ok-front.ensures at c.begin.ensures in
    let behind : c.append_sections.new.out.items ≡ codes ++ last = rw c.in_ok-written.ensures at c.append_sections.ensures.ok in
    let len : c.len.result ≡ length codes = search rules in
    let before : c.append_code_front.new.out.items ≡ c.in_ok-front.front.items ++ head = rw len at c.in_ok-append_code_front.ensures in
    let later : drop gap c.append_sections.new.out.items ≡ drop gap codes ++ last =
    ap (λ (b : List ℕ). drop gap b) behind ∙ drop-append-le gap codes last c.requires.within in
    let whole = ap (λ (b : List ℕ). b ++ drop gap c.append_sections.new.out.items) (before ∙ ap (λ (b : List ℕ). b ++ head) front)
    ∙ ap (λ (b : List ℕ). (((magic ++ version) ++ sections_from lists kept 0 10) ++ head) ++ b) later in
    subst (λ (x : List ℕ). IfOk c.behind.result (λ s. s ≡ x)) whole c.behind.ensures
