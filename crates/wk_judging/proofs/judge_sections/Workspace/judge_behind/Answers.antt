use Rattle.std.proofs.Common.{◌∷◌, Result, ap, ◌∙◌, arith}
use Rattle.std.proofs.lemmas.Result.{err_from_is_err_and}
use Rattle.wk_bytes.specs.declared.fault.ReadFault.{ReadFault}
use Rattle.wk_bytes.specs.declared.raw.RawSection.{RawSection}
use Rattle.wk_bytes.specs.Raw.{raw_view, item_view}
use Rattle.wk_judging.proofs.JudgedSteps.{may_find, not_codes, rest_rises, behind_begins, behind_breaks, behind_ends, behind_stops, behind_goes_on}
use Rattle.wk_judging.proofs.judge_sections.Workspace.judge_behind.Goals as goal

pub loop-section-init : goal.loop-section-init
loop-section-init c = record {
  can = tt;
  ends = tt;
  rise = (10, omega arith, c.requires.rise);
  on_way = λ from same none.
      behind_begins c.args.profile from c.args.before c.args.left.now c.args.self.now.context same none c.requires.rise;
}

pub returns-in_err-section : goal.returns-in_err-section
returns-in_err-section c = λ from same none.
    let p = err_from_is_err_and c.from_residual.result c.from_residual.ensures.1 in
    let e = c.in_err-section.field-0.0 in
    let here = c.loop-section in
    let first = c.in-Some.ensures.steps ∙ ap (λ (r : Result RawSection ReadFault). item_view r ∷ c.next.new.self) c.in_err-section.was in
    rw (p.1, p.2) (behind_breaks c.args.profile from c.args.before c.args.left.now here.left c.next.new.self here.self.context here.fault
    (here.invariant.on_way from same none) e first)

pub judge_section-requires : goal.judge_section-requires
judge_section-requires c =
    let first = c.in-Some.ensures.steps ∙ ap (λ (r : Result RawSection ReadFault). item_view r ∷ c.next.new.self) c.in_ok-section.was in
    not_codes (raw_view c.in_ok-section.field-0) c.loop-section.left c.next.new.self first c.loop-section.invariant.rise

pub returns-in_err-fault : goal.returns-in_err-fault
returns-in_err-fault c = λ from same none.
    let p = err_from_is_err_and c.from_residual-in_err-fault.result c.from_residual-in_err-fault.ensures.1 in
    let e = c.in_err-fault.field-0.0 in
    let here = c.loop-section in
    let so = here.invariant.on_way from same none in
    let s = raw_view c.in_ok-section.field-0 in
    let first = c.in-Some.ensures.steps ∙ ap (λ (r : Result RawSection ReadFault). item_view r ∷ c.next.new.self) c.in_ok-section.was in
    rw (p.1, p.2) (behind_stops c.args.profile from c.args.before c.args.left.now here.left c.next.new.self here.self.context here.fault so s first e
    (c.in_err-fault.ensures so.lists so.context_is (may_find so.last s so.lists here.left c.next.new.self first so.rise so.omitted)))

pub loop-section-preserved : goal.loop-section-preserved
loop-section-preserved c =
    let here = c.loop-section in
    let s = raw_view c.in_ok-section.field-0 in
    let first = c.in-Some.ensures.steps ∙ ap (λ (r : Result RawSection ReadFault). item_view r ∷ c.next.new.self) c.in_ok-section.was in
    record {
      can = tt;
      ends = tt;
      rise = rest_rises s here.left c.next.new.self first here.invariant.rise;
      on_way = λ from same none.
          let so = here.invariant.on_way from same none in
          behind_goes_on c.args.profile from c.args.before c.args.left.now here.left c.next.new.self here.self.context here.fault so s first
          c.judge_section.new.self.context c.in_ok-fault.fault
          (c.in_ok-fault.ensures so.lists so.context_is (may_find so.last s so.lists here.left c.next.new.self first so.rise so.omitted));
    }

pub returns : goal.returns
returns c = λ from same none.
    let here = c.loop-section in
    behind_ends c.args.profile from c.args.before c.args.left.now here.left c.next.new.self here.self.context here.fault
    (here.invariant.on_way from same none) c.in_default.ensures.steps.0
