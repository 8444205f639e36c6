use Rattle.wk_module.proofs.SectionFormats.{section_laws}
use Rattle.wk_module.proofs.module_read.laws_of_sections.Goals as goal

pub returns : goal.returns
returns c =
    let reading = c.reading_of_code.ensures in
    let written = c.written_form_of_code.ensures in
    λ profile. section_laws profile (record {
      expr = reading.expr profile;
      body = reading.body profile;
      expr_shape = reading.expr_shape profile;
      expr_written = written.expr profile;
      body_written = written.body profile;
      expr_least = written.least_expr profile;
      body_least = written.least_body profile;
    })
