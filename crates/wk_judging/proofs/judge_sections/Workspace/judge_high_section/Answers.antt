use Rattle.std.proofs.Common.{◌≡◌, arith}
use Rattle.wk_bytes.specs.Raw.{raw_view}
use Rattle.wk_module.specs.Sections.{GlobalSection, ElementSection, DataSection}
use Rattle.wk_judging.proofs.JudgedSections.{global_section, elem_section, data_section}
use Rattle.wk_judging.proofs.JudgedSteps.{items_come_to, exports_leave, start_leaves}
use Rattle.wk_judging.proofs.judge_sections.Workspace.judge_high_section.Goals as goal

pub returns-in-6 : goal.returns-in-6
returns-in-6 c = λ l same none.
    let s = raw_view c.args.section.now in
    items_come_to GlobalSection _ _ _ c.args.profile l c.args.before s c.args.self.now.context c.judge_items.new.state c.judge_items.result
    (global_section c.args.profile l c.args.before s) same c.in-6.is none c.judge_items.ensures

pub returns-in-7 : goal.returns-in-7
returns-in-7 c = λ l same none.
    exports_leave c.args.profile l c.args.before (raw_view c.args.section.now) c.args.self.now.context c.judge_exports.result same c.in-7.is
    c.judge_exports.ensures

pub returns-in-8 : goal.returns-in-8
returns-in-8 c = λ l same none.
    start_leaves c.args.profile l c.args.before (raw_view c.args.section.now) c.args.self.now.context c.judge_start.result same c.in-8.is
    c.judge_start.ensures

pub returns-in-9 : goal.returns-in-9
returns-in-9 c = λ l same none.
    let s = raw_view c.args.section.now in
    items_come_to ElementSection _ _ _ c.args.profile l c.args.before s c.args.self.now.context c.judge_items-in-9.new.state c.judge_items-in-9.result
    (elem_section c.args.profile l c.args.before s) same c.in-9.is none c.judge_items-in-9.ensures

pub returns-in_default : goal.returns-in_default
returns-in_default c = λ l same none.
    let s = raw_view c.args.section.now in
    let is : s.id ≡ 11 = omega (arith, c.requires.low, c.requires.high, c.requires.bodies, c.in_default) in
    items_come_to DataSection _ _ _ c.args.profile l c.args.before s c.args.self.now.context c.judge_items-in_default.new.state
    c.judge_items-in_default.result (data_section c.args.profile l c.args.before s) same is none c.judge_items-in_default.ensures
