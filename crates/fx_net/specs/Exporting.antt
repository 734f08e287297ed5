-- Records that exporting processes send (RFC 6728, section 4.4).
use Rattle.std.specs.Prelude.{ℕ, List, [], ◌∷◌}
use Rattle.fx_tables.specs.declared.record.Record.{Record}
use Rattle.fx_tables.specs.Network.{Net}
use Rattle.fx_runs.specs.Destinations.{links_used}
use Rattle.fx_link.specs.Outgoing.{with_one}
use Rattle.fx_link.specs.Ongoing.{Ongoing}
use Rattle.fx_net.specs.Contents.{Contents, with_changed}

-- a record waits on a link until its message is built
abbrev pub with_waiting : ℕ → Record → Ongoing → Ongoing
with_waiting time r o = record o { outgoing = with_one time o.outgoing r }

-- the record waits on each of these links
abbrev pub put_each : ℕ → Record → List ℕ → List Ongoing → List Ongoing
put_each time r [] links = links
put_each time r (link ∷ rest) links = put_each time r rest (with_changed (with_waiting time r) links link)

-- these exporting processes send a record
abbrev pub after_send : Net → List ℕ → Record → Contents → Contents
after_send net places r c = record c { links = put_each c.second r (links_used net c.chosen places) c.links }
