-- The text is that of the state's totals and the line behind it.
use Rattle.std.proofs.Common.{◌≡◌, ◌∙◌, ℕ, Bool, List, Option, ◌++◌, ap, subst, IsPermutation}
use Rattle.std.specs.Prelude.{◌↔◌, IsTrue}
use Rattle.std.proofs.lemmas.Result.{on_ok_weaker}
use Rattle.fx_layout.specs.Keys.{Layout}
use Rattle.fx_machine.specs.States.{State, Complete}
use Rattle.fx_collect.specs.Totals.{Totals, totals_in}
use Rattle.fx_collect.specs.Report.{totals_text}
use Rattle.fx_audit.specs.Confirms.{IsInOrder}
use Rattle.fx_checker.specs.Outputs.{Prints}
use Rattle.fx_audit.specs.Replay.{complete_line, IsTextOf}
use Rattle.fx_audit.proofs.replaying.put_state.Goals as goal

text_of_state : (layout : Layout) (s : State) (t : Totals) (complete : Bool) (before after : Option (List ℕ)) → t
    ≡ totals_in layout s → IsTrue complete ↔ Complete s
    → Prints (λ text. (sorted : Totals) × IsInOrder t sorted × (text ≡ totals_text sorted ++ complete_line complete))
    before after → Prints (IsTextOf layout s) before after
text_of_state layout s t complete before after own is (text, (sorted, order, text_is), written) = (
  text,
  record {
    totals = sorted;
    entries = subst (λ (t : Totals). IsPermutation t.entries sorted.entries) own order.entries;
    ascending = order.ascending;
    layout_is = order.layout_is ∙ ap (λ (t : Totals). t.layout) own;
    unassigned = order.unassigned ∙ ap (λ (t : Totals). t.unassigned) own;
    complete = complete;
    is_complete = is;
    text_is = text_is;
  },
  written,
)

pub returns-clause-ok : goal.returns-clause-ok
returns-clause-ok g c =
    let taken = g.S.Sink.taken in
    on_ok_weaker c.put_totals.result
    (text_of_state c.args.state.now.net.report_layout c.args.state.now.state c.in_ok-totals.totals c.complete.result
    (taken c.args.sink.now) (taken c.put_totals.new.sink) (c.in_ok-totals.ensures.ok ∙ c.requires.own)
    c.complete.ensures)
    c.put_totals.ensures.ok
