-- Records that arrive at collecting processes.
use Rattle.std.specs.Prelude.{◌≡◌, ℕ, ◌==◌, Bool, false, List, [], ◌∷◌, length, option_map, Option, Some, None, slice_get, if◌then◌else◌}
use Rattle.fx_layout.specs.Keys.{Key}
use Rattle.fx_tables.specs.declared.holding.Holding.{Holding}
use Rattle.fx_tables.specs.declared.record.Record.{Record}
use Rattle.fx_tables.specs.Network.{Net, Process, process_at, aggregations_of}
use Rattle.fx_tables.specs.Takers.{intakes}
use Rattle.fx_link.specs.Ongoing.{Ongoing, after_carry}
use Rattle.fx_collect.specs.Totals.{with_record}
use Rattle.fx_net.specs.Contents.{Contents, with_changed}
use Rattle.fx_net.specs.Exporting.{after_send}
use Rattle.fx_net.specs.Taking.{after_taking}

-- the collecting process to which a link leads
abbrev pub process_behind : Net → ℕ → Option Process
process_behind net link = process_at net.processes (slice_get net.links link)

-- whether this is the collecting process that tallies for the report
abbrev pub leads_to_report : Net → Option ℕ → Bool
leads_to_report net None = false
leads_to_report net (Some process) = process == net.report

abbrev pub exporters_named : Option Process → List ℕ
exporters_named None = []
exporters_named (Some process) = process.exporters

-- the aggregations that accept a record with this key
abbrev pub takers : Net → ℕ → Key → List Holding
takers net link key = intakes net.holders key (aggregations_of (process_behind net link))

-- the record is tallied if the link leads to the report
abbrev pub after_tally : Net → ℕ → Record → Contents → Contents
after_tally net link r c =
    if leads_to_report net (slice_get net.links link) then record c { totals = with_record c.totals r } else c

-- the record is tallied, forwarded and added to the aggregations that accept it
abbrev pub after_arrive : Net → ℕ → Record → Contents → Contents
after_arrive net link r c =
    after_taking net r.counts (takers net link r.key)
    (after_send net (exporters_named (process_behind net link)) r (after_tally net link r c))

abbrev pub after_arrivals : Net → ℕ → List Record → Contents → Contents
after_arrivals net link [] c = c
after_arrivals net link (r ∷ rs) c = after_arrivals net link rs (after_arrive net link r c)

-- the records that the receiver of a link has read and that have not been handled yet
abbrev pub waiting_on : Option Ongoing → List Record
waiting_on None = []
waiting_on (Some o) = o.receiver.known.waiting

-- the records that still wait on the link
abbrev pub with_left : List Record → Ongoing → Ongoing
with_left rs o = record o { receiver = record o.receiver { known = record o.receiver.known { waiting = rs } } }

-- all waiting records of the link are handled
abbrev pub after_handling : Net → ℕ → Contents → Contents
after_handling net link c =
    after_arrivals net link (waiting_on (slice_get c.links link))
    (record c { links = with_changed (with_left []) c.links link })

-- this number of octets of a link is carried to its end, and every record that they complete is handled
abbrev pub after_carrying : Net → ℕ → ℕ → Contents → Contents
after_carrying net link n c = after_handling net link (record c { links = with_changed (after_carry n) c.links link })

-- ---- how the links are viewed

-- the first record that waits on a link is removed, if there is one
abbrev pub IsNext : ℕ → List Ongoing → List Ongoing → Option Record → Type 0
IsNext link old new None = (new ≡ old) × (waiting_on (slice_get old link) ≡ [])
IsNext link old new (Some r) =
    (rs : List Record) × (waiting_on (slice_get old link) ≡ r ∷ rs) × (new ≡ with_changed (with_left rs) old link)

-- the number of octets that wait to be carried on a link, if the link exists
abbrev pub queued_at : List Ongoing → ℕ → Option ℕ
queued_at links link = option_map (λ (o : Ongoing). length o.queue) (slice_get links link)

-- the same, and 0 if the link doesn't exist
abbrev pub queued_on : Option Ongoing → ℕ
queued_on None = 0
queued_on (Some o) = length o.queue
