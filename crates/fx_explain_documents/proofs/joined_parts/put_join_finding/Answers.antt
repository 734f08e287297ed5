use Rattle.std.proofs.Common.{arith, rules}
use Rattle.fx_explain_documents.proofs.joined_parts.put_join_finding.Goals as goal

pub returns-clause-ok : goal.returns-clause-ok
returns-clause-ok g c = first_of (grind arith, search rules)
