use Rattle.std.proofs.Common.{refl, sym, ◌∙◌}
use Rattle.wk_edit.proofs.NumberLaws.{number_not_text, number_not_parsed, number_other, number_parsed}
use Rattle.wk_edit.proofs.number.read_number.Goals as goal

pub returns-in_default : goal.returns-in_default
returns-in_default c = number_not_text c.args.word.now c.in_default.ensures.cases.0

pub returns-in_default-parse : goal.returns-in_default-parse
returns-in_default-parse c = number_not_parsed _ _ _ c.in-Ok.ensures.cases.0 c.parse.ensures.value.0 _ c.in_default-parse.is

pub returns-then-is_text_of : goal.returns-then-is_text_of
returns-then-is_text_of c = number_parsed _ _ _ c.in-Ok.ensures.cases.0 c.parse.ensures.value.0 _ _ c.in-Ok-parse.is refl
    (sym c.is_text_of.ensures ∙ c.if-is_text_of.true)

pub returns-else-is_text_of : goal.returns-else-is_text_of
returns-else-is_text_of c = number_other _ _ _ c.in-Ok.ensures.cases.0 c.parse.ensures.value.0 _ _ c.in-Ok-parse.is refl
    (sym c.is_text_of.ensures ∙ c.if-is_text_of.false)
