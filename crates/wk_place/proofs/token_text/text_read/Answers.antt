use Rattle.std.proofs.Common.{◌≡◌, [], Ok, Err, ap, subst, ◌∙◌}
use Rattle.std.specs.Prelude.{IfOk}
use Rattle.wk_body.specs.Kept.{told}
use Rattle.wk_body.specs.Reading.{token_at}
use Rattle.wk_body.specs.ReadsLaws.{other_fault}
use Rattle.wk_body.specs.TokenReading.{NextRead}
use Rattle.wk_body.specs.Tree.{Close}
use Rattle.wk_list.specs.TokenText.{tok_text}
use Rattle.wk_place.proofs.TokenTexts.{read_is, is_read}
use Rattle.wk_place.proofs.token_text.text_read.Goals as goal

pub returns-in-Some : goal.returns-in-Some
returns-in-Some c t front later spelled parts may =
    let next = subst (NextRead c.args.profile c.new-reader.result c.next.new.self c.args.code c.next.new.cursor) c.in-Some.is c.in-Ok.ensures.exact in
    let at = c.args.code in
    let token = told c.next.new.self.labels c.in-Some.token in
    let rest = c.next.new.cursor.rest in
    let read = subst (λ ks. token_at c.args.profile ks at.end at.rest ≡ Ok (token, rest)) c.new-reader.ensures.kinds next.read in
    let same = read_is c.args.profile [] at.end at.rest t front later spelled parts may token rest read in
    subst (λ u. IfOk c.token_text.result (λ text. text.items ≡ tok_text u)) (ap (λ ls. told ls c.in-Some.token) c.labels.ensures ∙ same) c.token_text.ensures

pub returns-in-Ok : goal.returns-in-Ok
returns-in-Ok c t front later spelled parts may =
    let next = subst (NextRead c.args.profile c.new-reader.result c.next.new.self c.args.code c.next.new.cursor) c.in-None.is c.in-Ok.ensures.exact in
    let at = c.args.code in
    let rest = c.next.new.cursor.rest in
    let read = subst (λ ks. token_at c.args.profile ks at.end at.rest ≡ Ok (Close, rest)) c.new-reader.ensures.kinds next.0 in
    let same = read_is c.args.profile [] at.end at.rest t front later spelled parts may Close rest read in
    c.in_ok-from_slice-in-None.ensures.items ∙ ap tok_text same

pub returns : goal.returns
returns c t front later spelled parts may =
    let at = c.args.code in
    let e = c.in-Err.fault in
    let bad = other_fault e e.kind (token_at c.args.profile c.new-reader.result.kinds at.end at.rest) c.in_default.not-Memory c.in-Err.ensures.exact in
    let none = subst (λ ks. token_at c.args.profile ks at.end at.rest ≡ Err e) c.new-reader.ensures.kinds bad in
    absurd (is_read c.args.profile [] at.end at.rest t front later spelled parts may e none)
