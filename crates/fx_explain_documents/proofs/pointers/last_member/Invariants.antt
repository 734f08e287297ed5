use denote.Text.{Utf8}
use denote.Shadow.{shadow}
use Rattle.fx_explain_documents.proofs.pointers.last_member.Given as goal

-- the last member is text at each turn
abbrev pub invariant-loop-segment : goal.invariant-loop-segment
invariant-loop-segment l = shadow (Utf8 l.last)
