use Rattle.fx_run_text.specs.declared.text_version.TextVersion.{TextVersion}
use Rattle.fx_refute.proofs.RefutationTexts.{LineLaws, text_found, text_read}
use Rattle.fx_refute.proofs.laws.refutations_have_one_text.Goals as goal

pub returns-clause-read : goal.returns-clause-read
returns-clause-read c version =
    let known = c.run_lines_have_one_text.ensures in
    let laws : LineLaws version = record {
      read = known.read version;
      only = known.only version;
      one_line =
          known.one_line version;
      lines = known.lines;
      text = known.text;
    } in
    text_read version laws

pub returns-clause-only : goal.returns-clause-only
returns-clause-only c =
    let known = c.run_lines_have_one_text.ensures in
    let laws : (version : TextVersion) → LineLaws version =
    λ version. record {
      read = known.read version;
      only = known.only version;
      one_line =
          known.one_line version;
      lines = known.lines;
      text = known.text;
    } in
    text_found laws
