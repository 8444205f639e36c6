use Rattle.std.proofs.Common.{◌≡◌, ap, sym, ◌∙◌, refl}
use Rattle.wk_module.specs.Listed.{listed}
use Rattle.wk_module.specs.Sections.{SectionLists}
use Rattle.wk_check.specs.SpacesLaws.{answers_of}
use Rattle.wk_session.specs.Kept.{IsPending}
use Rattle.wk_session.proofs.Lent.{lent, lent_is, numbered_lent, verdicts_few}
use Rattle.wk_session.proofs.Works.{none_retyped}
use Rattle.wk_session.proofs.edits.export.judge_exports.Goals as goal
use Rattle.wk_session.proofs.edits.export.judge_exports.Goals.{After-of}

-- the lists that are lent are those of the module with the exports
lists_are : (c : After-of) → listed (record c.of.result { exports = c.args.exports }) ≡ lent (record c.args.basis.parts.now { exports = c.args.exports.now })
lists_are c =
    lent_is (record c.args.basis.parts.now { exports = c.args.exports.now }) c.deref.result.now _
    (ap (λ (l : SectionLists). record l { exports = c.args.exports.now }) c.of.ensures.lists) (c.deref.ensures.value ∙ c.requires.kept.types)

pub appraise-requires-clause-numbered : goal.appraise-requires-clause-numbered
appraise-requires-clause-numbered c =
    numbered_lent (record c.args.basis.parts.now { exports = c.args.exports.now }) _
    (lists_are (goal.at.appraise-requires-clause-numbered c).After-of) c.requires.formed

pub appraise-requires-clause-few : goal.appraise-requires-clause-few
appraise-requires-clause-few c =
    let m = c.args.basis.parts.now in
    verdicts_few (record m { exports = c.args.exports.now }) (answers_of m) _ c.requires.kept.verdicts c.requires.formed

pending : (c : After-of) → IsPending (record c.of.result { exports = c.args.exports }) c.args.basis.kept.now.verdicts.items c.args.len
    (record c.args.basis.parts.now { exports = c.args.exports.now })
pending c = record {
  formed = c.requires.formed;
  profile = c.of.ensures.profile;
  lists = lists_are c;
  verdicts = c.requires.kept.verdicts;
  len = c.requires.len;
}

pub returns : goal.returns
returns c =
    let m = c.args.basis.parts.now in
    let n = record m { exports = c.args.exports.now } in
    record {
      appraised = c.in_ok-appraisal.ensures n (pending (goal.at.returns c).After-of) c.requires.known;
      verdicts = c.requires.kept.verdicts;
      typed_are = sym (none_retyped (answers_of m) (answers_of n) (λ r. refl) m.funcs);
    }
