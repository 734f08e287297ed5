-- What leaves holders, what is taken in and what arrives leaves the destinations in use as they were.
use Rattle.std.proofs.Common.{◌≡◌, ℕ, zero, suc, Bool, true, false, cond, List, [], ◌∷◌, refl, ◌∙◌, Option, Some, None, slice_get}
use Rattle.fx_base.specs.declared.counts.Counts.{Counts}
use Rattle.fx_elements.specs.Axes.{Fields}
use Rattle.fx_tables.specs.declared.holding.Holding.{Holding}
use Rattle.fx_tables.specs.declared.record.Record.{Record}
use Rattle.fx_tables.specs.declared.traffic.Crossing.{Crossing}
use Rattle.fx_tables.specs.Network.{Net}
use Rattle.fx_collect.specs.Totals.{with_record}
use Rattle.fx_link.specs.Ongoing.{Ongoing, after_carry}
use Rattle.fx_store.specs.Flows.{Entry}
use Rattle.fx_runs.specs.Making.{intakes_at}
use Rattle.fx_net.specs.Arriving.{after_arrivals, after_arrive, after_carrying, after_tally, exporters_named, leads_to_report, process_behind, takers, waiting_on, with_left}
use Rattle.fx_net.specs.Contents.{Contents, with_changed}
use Rattle.fx_net.specs.Exporting.{after_send}
use Rattle.fx_net.specs.Leaving.{after_emptying, after_expire, after_leave, after_leaves, after_least, after_leasts, count_at, least_at, without_least}
use Rattle.fx_net.specs.Metering.{after_path}
use Rattle.fx_net.specs.Taking.{after_adding, after_taking, all_leave_at_once, stores_and_leavers, with_stores}
use Rattle.fx_conform.specs.Held.{Leaver}

module _ (net : Net) where
  leaves_chosen : (ls : List Leaver) (c : Contents) → (after_leaves net ls c).chosen ≡ c.chosen
  leaves_chosen [] c = refl
  leaves_chosen (l ∷ ls) c = leaves_chosen ls (after_leave net l c)

  pub adding_chosen : (counts : Counts) (hs : List Holding) (c : Contents) → (after_adding net counts hs c).chosen
      ≡ c.chosen
  adding_chosen counts hs c = leaves_chosen (stores_and_leavers c.stores counts hs).left
      (with_stores c (stores_and_leavers c.stores counts hs).stores)

  pub taking_chosen : (counts : Counts) (hs : List Holding) (c : Contents) → (after_taking net counts hs c).chosen
      ≡ c.chosen
  taking_chosen counts hs c =
      leaves_chosen (all_leave_at_once (stores_and_leavers c.stores counts hs).stores counts hs)
      (after_adding net counts hs c) ∙ adding_chosen counts hs c

  pub path_chosen : (fields : Fields) (counts : Counts) (crossings : List Crossing) (c : Contents)
      → (after_path net fields counts crossings c).chosen ≡ c.chosen
  path_chosen fields counts [] c = refl
  path_chosen fields counts (x ∷ xs) c =
      path_chosen fields counts xs (after_taking net counts (intakes_at net fields x) c)
      ∙ taking_chosen counts (intakes_at net fields x) c

  tally_chosen : (link : ℕ) (r : Record) (c : Contents) → (after_tally net link r c).chosen ≡ c.chosen
  tally_chosen link r c = by (leads_to_report net (slice_get net.links link)) where
    by : (b : Bool) → (cond b (let d : Contents = record c { totals = with_record c.totals r } in d) c).chosen
        ≡ c.chosen
    by true = refl
    by false = refl

  pub arrive_chosen : (link : ℕ) (r : Record) (c : Contents) → (after_arrive net link r c).chosen ≡ c.chosen
  arrive_chosen link r c =
      taking_chosen r.counts (takers net link r.key)
      (after_send net (exporters_named (process_behind net link)) r (after_tally net link r c))
      ∙ tally_chosen link r c

  arrivals_chosen : (link : ℕ) (rs : List Record) (c : Contents) → (after_arrivals net link rs c).chosen ≡ c.chosen
  arrivals_chosen link [] c = refl
  arrivals_chosen link (r ∷ rs) c = arrivals_chosen link rs (after_arrive net link r c) ∙ arrive_chosen link r c

  pub carrying_chosen : (link n : ℕ) (c : Contents) → (after_carrying net link n c).chosen ≡ c.chosen
  carrying_chosen link n c =
      let links : List Ongoing = with_changed (after_carry n) c.links link in
      arrivals_chosen link (waiting_on (slice_get links link))
      (record c { links = with_changed (with_left []) links link })

  expire_chosen : (place : ℕ) (o : Option Entry) (c : Contents) → (after_expire net place o c).chosen ≡ c.chosen
  expire_chosen place None c = refl
  expire_chosen place (Some e) c = refl

  pub least_chosen : (place : ℕ) (c : Contents) → (after_least net place c).chosen ≡ c.chosen
  least_chosen place c = expire_chosen place (least_at c place) (record c { stores = without_least c.stores place })

  leasts_chosen : (place n : ℕ) (c : Contents) → (after_leasts net place n c).chosen ≡ c.chosen
  leasts_chosen place zero c = refl
  leasts_chosen place (suc n) c = leasts_chosen place n (after_least net place c) ∙ least_chosen place c

  pub emptying_chosen : (place : ℕ) (c : Contents) → (after_emptying net place c).chosen ≡ c.chosen
  emptying_chosen place c = leasts_chosen place (count_at c place) c
