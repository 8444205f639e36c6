use Rattle.std.proofs.Common.{◌≡◌, length, ap, sym, ◌∙◌, arith}
use Rattle.std.proofs.lemmas.Result.{err_from_is_err_and}
use Rattle.wk_bytes.specs.Raw.{raw_view}
use Rattle.wk_body.specs.Reads.{Reads}
use Rattle.wk_body.specs.ReadsLaws.{fails_on}
use Rattle.wk_module.specs.ListReading.{codes_of, lists_read}
use Rattle.wk_module.specs.Reading.{module_at}
use Rattle.wk_module.specs.Sections.{SectionLists}
use Rattle.wk_module.proofs.CodesApart.{codes_fail}
use Rattle.wk_strip.specs.Rewritten.{codes_in}
use Rattle.wk_strip.proofs.Parting.{alone_told, begins_first, codes_are, ends_within, parted}
use Rattle.wk_strip.proofs.strip.read_beside_codes.Goals as goal
use Rattle.wk_strip.proofs.strip.read_beside_codes.Goals.{After-lists}

funcs_are : (c : After-lists) → codes_of c.args.profile (length c.args.front.lists.funcs) (raw_view c.args.section.now)
    ≡ codes_of c.args.profile (length c.lists.result.funcs.now) (raw_view c.args.section.now)
funcs_are c = ap (λ (l : SectionLists). codes_of c.args.profile (length l.funcs) (raw_view c.args.section.now)) (sym c.lists.ensures.lists)

pub returns-in_err-codes : goal.returns-in_err-codes
returns-in_err-codes c =
    let p = err_from_is_err_and c.from_residual.result c.from_residual.ensures.1 in
    let e = c.in_err-codes.field-0.0 in
    let at = goal.at.returns-in_err-codes c in
    let r = c.args.front in
    let s = raw_view c.args.section.now in
    let f = c.requires in
    let told = codes_of c.args.profile (length c.lists.result.funcs.now) s in
    rw (p.1, p.2)
    (fails_on e e.kind told (module_at c.args.profile c.args.bytes.now)
    (λ bad. codes_fail c.args.profile c.args.bytes.now c.reading_of_module.ensures.lists r.lists s r.left f.code_is f.none f.rise f.read e
    (funcs_are at.After-lists ∙ bad)) (c.in_err-codes.ensures c.args.profile))

pub returns : goal.returns
returns c =
    let at = goal.at.returns c in
    let b = c.args.bytes.now in
    let r = c.args.front in
    let s = raw_view c.args.section.now in
    let f = c.requires in
    let n = length c.lists.result.funcs.now in
    let codes = codes_in c.args.profile b c.in_ok-codes.codes in
    let are = funcs_are at.After-lists ∙ codes_are b s n c.in_ok-codes.codes f.lies c.in_ok-codes.ensures c.args.profile in
    let told : Reads (λ q. q.lists) c.lists_alone.result (lists_read c.args.profile r.lists r.left) =
    alone_told c.to_end.result c.lists_alone.result (lists_read c.args.profile r.lists r.left)
    (rw f.profile_is at c.to_end.ensures.read) c.lists_alone.ensures in
    record {
      order = begins_first b s n c.in_ok-codes.codes f.lies c.in_ok-codes.ensures;
      within = ends_within b s n c.in_ok-codes.codes f.lies c.in_ok-codes.ensures;
      few = omega (arith, c.args.section.now.fits, c.in_ok-codes.ensures.end);
      apart = parted c.args.profile b c.reading_of_module.ensures.lists r.lists s r.left f.code_is f.none f.rise f.read codes c.lists_alone.result are told;
    }
