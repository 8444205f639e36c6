use Rattle.std.proofs.Common.{◌≡◌, arith}
use Rattle.wk_bytes.specs.Raw.{raw_view}
use Rattle.wk_module.specs.Sections.{TypeSection, ImportSection, FunctionSection, TableSection, MemorySection}
use Rattle.wk_judging.proofs.JudgedSections.{type_section, import_section, func_section, table_section, memory_section}
use Rattle.wk_judging.proofs.JudgedSteps.{items_come_to}
use Rattle.wk_judging.proofs.judge_sections.Workspace.judge_low_section.Goals as goal

pub returns-in-1 : goal.returns-in-1
returns-in-1 c = λ l same none.
    let s = raw_view c.args.section.now in
    items_come_to TypeSection _ _ _ c.args.profile l c.args.before s c.args.self.now.context c.judge_items.new.state c.judge_items.result
    (type_section c.args.profile l c.args.before s) same c.in-1.is none c.judge_items.ensures

pub returns-in-2 : goal.returns-in-2
returns-in-2 c = λ l same none.
    let s = raw_view c.args.section.now in
    items_come_to ImportSection _ _ _ c.args.profile l c.args.before s c.args.self.now.context c.judge_items-in-2.new.state c.judge_items-in-2.result
    (import_section c.args.profile l c.args.before s) same c.in-2.is none c.judge_items-in-2.ensures

pub returns-in-3 : goal.returns-in-3
returns-in-3 c = λ l same none.
    let s = raw_view c.args.section.now in
    items_come_to FunctionSection _ _ _ c.args.profile l c.args.before s c.args.self.now.context c.judge_items-in-3.new.state c.judge_items-in-3.result
    (func_section c.args.profile l c.args.before s) same c.in-3.is none c.judge_items-in-3.ensures

pub returns-in-4 : goal.returns-in-4
returns-in-4 c = λ l same none.
    let s = raw_view c.args.section.now in
    items_come_to TableSection _ _ _ c.args.profile l c.args.before s c.args.self.now.context c.judge_items-in-4.new.state c.judge_items-in-4.result
    (table_section c.args.profile l c.args.before s) same c.in-4.is none c.judge_items-in-4.ensures

pub returns-in_default : goal.returns-in_default
returns-in_default c = λ l same none.
    let s = raw_view c.args.section.now in
    let is : s.id ≡ 5 = omega (arith, c.requires.low, c.requires.high, c.in_default) in
    items_come_to MemorySection _ _ _ c.args.profile l c.args.before s c.args.self.now.context c.judge_items-in_default.new.state
    c.judge_items-in_default.result (memory_section c.args.profile l c.args.before s) same is none c.judge_items-in_default.ensures
