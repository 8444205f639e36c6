use Rattle.wk_answers.proofs.ListingSteps.{text_more, text_done, fault_more}
use Rattle.wk_answers.proofs.listing.list_sections.Goals as goal

pub loop-item-preserved : goal.loop-item-preserved
loop-item-preserved c = record {
  text = text_more _ _ _ _ _ _ c.in-Some.ensures.steps c.in_ok-put_item.ensures c.loop-item.invariant.text;
  fault = fault_more _ _ _ _ _ _ c.in-Some.ensures.steps c.is_err-has_fault.ensures.value c.loop-item.invariant.fault;
}

pub returns-clause-text : goal.returns-clause-text
returns-clause-text c = text_done _ _ _ c.in-None.ensures.steps.0 c.loop-item.invariant.text
