use Rattle.std.proofs.Common.{◌≡◌, ◌≢◌, ◌∷◌, ◌++◌, ◌+◌, ℕ, length, ap, refl, ◌∙◌, sym, arith}
use Rattle.std.specs.List.{flat_map}
use Rattle.wk_bytes.specs.Short.{short}
use Rattle.wk_module.specs.Formats.{written_bytes}
use Rattle.wk_pieces.specs.Pieces.{code_section}
use Rattle.wk_pieces.proofs.Putting.{code_section_is, contents_within, entries_within, takes_first, takes_later}
use Rattle.wk_pieces.proofs.written.put_code_section.Given.{Over}
use Rattle.wk_pieces.proofs.written.put_code_section.Goals as goal
use Rattle.wk_pieces.proofs.written.put_code_section.Goals.{After-len}

pub overflow_cast-count : goal.overflow_cast-count
overflow_cast-count g c = omega (arith, entries_within c.args.codes.now, c.requires.few, c.count-count.ensures)

pub overflow_add-size : goal.overflow_add-size
overflow_add-size g c =
    let some : length c.args.codes.now ≢ 0 = λ none. absurd (omega (arith, none, c.count-count.ensures)) in
    let long = ap (λ (n : ℕ). length (short n)) c.count-count.ensures in
    omega (arith, contents_within c.args.codes.now some, c.requires.few, c.leb_len_u32.ensures, c.len.ensures, long)

pub put_codes-requires-clause-few : goal.put_codes-requires-clause-few
put_codes-requires-clause-few g c = omega (arith, entries_within c.args.codes.now, c.requires.few)

is : (g : Over) (c : After-len g)
    → code_section c.args.codes.now ≡ (10 ∷ short (c.leb_len_u32.result + c.len.result))
    ++ (short c.count-count.result ++ flat_map written_bytes c.args.codes.now)
is g c =
    let codes = c.args.codes.now in
    let size = c.leb_len_u32.result + c.len.result in
    let count : c.count-count.result ≡ length codes = c.count-count.ensures in
    let long = ap (λ (n : ℕ). length (short n)) count in
    code_section_is codes size (λ none. absurd (omega (arith, none, count))) (omega (arith, c.leb_len_u32.ensures, c.len.ensures, long))
    ∙ ap (λ (n : ℕ). (10 ∷ short size) ++ (short n ++ flat_map written_bytes codes)) (sym count)

pub returns-in_err-put_head-clause-taken : goal.returns-in_err-put_head-clause-taken
returns-in_err-put_head-clause-taken g c = takes_first _ _ _ _ _ _ _ c.from_residual.ensures c.in_err-put_head.ensures.taken
    (is g (goal.at.returns-in_err-put_head-clause-taken g c).After-len)

pub returns-in_err-out_u32-clause-taken : goal.returns-in_err-out_u32-clause-taken
returns-in_err-out_u32-clause-taken g c =
    let later = takes_first _ _ _ _ _ _ _ c.from_residual-in_err-out_u32.ensures c.in_err-out_u32.ensures.err refl in
    takes_later _ _ _ _ _ _ _ c.in_ok-put_head.ensures.taken later (is g (goal.at.returns-in_err-out_u32-clause-taken g c).After-len)

pub returns-clause-taken : goal.returns-clause-taken
returns-clause-taken g c =
    let later = takes_later _ _ _ _ _ _ _ c.in_ok-out_u32.ensures.ok c.put_codes.ensures.taken refl in
    takes_later _ _ _ _ _ _ _ c.in_ok-put_head.ensures.taken later (is g (goal.at.returns-clause-taken g c).After-len)
