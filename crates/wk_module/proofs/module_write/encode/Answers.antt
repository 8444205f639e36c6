use Rattle.wk_module.proofs.module_write.encode.Goals as goal

pub returns-clause-spells : goal.returns-clause-spells
returns-clause-spells c = c.written_form_of_module.ensures.spells c.args.module.now c.parts.ensures.shaped

pub returns-clause-alone : goal.returns-clause-alone
returns-clause-alone c = λ n fits same spelled.
    c.one_module.ensures.one _ n c.args.module.now same spelled (c.written_form_of_module.ensures.spells c.args.module.now c.parts.ensures.shaped fits)
