use Rattle.std.proofs.Common.{◌≡◌, ◌+◌, ◌++◌, ◌∷◌, ◌∙◌, sym, ap, drop, get_or, List, append-nil}
use Rattle.std.proofs.lemmas.List.{drop_all, drop_more}
use Rattle.fx_tables.specs.declared.holding.Holding.{Holding}
use Rattle.fx_tables.specs.declared.observation.Occurrence.{Occurrence}
use Rattle.fx_tables.specs.Holdings.{holding_of, met_holdings}
use Rattle.fx_net.specs.Taking.{with_holdings, all_leave_at_once}
use Rattle.fx_net.proofs.StoresTakeIn.{passing_next, still_next}
use Rattle.fx_net.proofs.taking.meet_all.Goals as goal

pub loop-occurrence-preserved : goal.loop-occurrence-preserved
loop-occurrence-preserved c =
    let holders = c.args.net.now.holders in
    let fields = c.args.fields.now in
    let counts = c.args.counts in
    let met = c.args.met.now in
    let n = c.loop-occurrence.occurrence-index in
    let none : Occurrence = record { point = 0; process = 0; holder = 0 } in
    let h : Holding = holding_of holders fields (get_or met n none) in
    let before = c.args.stores.now.items in
    let stores = c.loop-occurrence.stores.items in
    let left = c.loop-occurrence.leavers.left.items in
    let passing = c.loop-occurrence.leavers.passing.items in
    let rest = met_holdings holders fields (drop (n + 1) met) in
    let here : met_holdings holders fields (drop n met) ≡ h ∷ rest =
    ap (met_holdings holders fields) (drop_more met n none c.loop-occurrence-test.true) in
    record {
      adding = ap (with_holdings counts rest) c.in_ok-take_packet.ensures.ok
          ∙ ap (λ (hs : List Holding). with_holdings counts hs (record { stores = stores; left = left })) (sym here)
          ∙ c.loop-occurrence.invariant.adding;
      passing = passing_next counts h rest before stores passing c.take_packet.new.leavers.passing.items _
          c.in_ok-take_packet.ensures.passing (c.loop-occurrence.invariant.still h.holder)
          (ap (λ (hs : List Holding). passing ++ all_leave_at_once before counts hs) (sym here)
          ∙ c.loop-occurrence.invariant.passing);
      still = still_next counts h before stores c.take_packet.new.stores.items left c.take_packet.new.leavers.left.items
          c.in_ok-take_packet.ensures.ok c.loop-occurrence.invariant.still;
    }

pub returns-clause-ok : goal.returns-clause-ok
returns-clause-ok c =
    let holders = c.args.net.now.holders in
    let met = c.args.met.now in
    sym (ap (λ (os : List Occurrence). with_holdings c.args.counts (met_holdings holders c.args.fields.now os)
    (record { stores = c.loop-occurrence.stores.items; left = c.loop-occurrence.leavers.left.items }))
    (drop_all c.loop-occurrence.occurrence-index met c.loop-occurrence-test.false))
    ∙ c.loop-occurrence.invariant.adding

pub returns-clause-passing : goal.returns-clause-passing
returns-clause-passing c =
    let holders = c.args.net.now.holders in
    let met = c.args.met.now in
    let passing = c.loop-occurrence.leavers.passing.items in
    sym (ap (λ (os : List Occurrence). passing
    ++ all_leave_at_once c.args.stores.now.items c.args.counts (met_holdings holders c.args.fields.now os))
    (drop_all c.loop-occurrence.occurrence-index met c.loop-occurrence-test.false) ∙ append-nil passing)
    ∙ c.loop-occurrence.invariant.passing
