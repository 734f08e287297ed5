-- Writing out what waits on links.
use Rattle.std.specs.Prelude.{◌≡◌, ℕ, suc, true, List, [], map, Option, Some, None, slice_get}
use Rattle.fx_base.specs.Device.{Writes}
use Rattle.fx_link.specs.Links.{Put}
use Rattle.fx_link.specs.Ongoing.{Ongoing, after_finish, to_put}
use Rattle.fx_link.specs.Sending.{has_room_for}
use Rattle.fx_net.specs.Contents.{Contents}

-- messages are built of all records that wait
abbrev pub after_finishing : Contents → Contents
after_finishing c = record c { links = map (after_finish c.second) c.links }

-- the octets written to a link
abbrev pub to_put_on : ℕ → Option Ongoing → List ℕ
to_put_on time None = []
to_put_on time (Some o) = to_put time o

-- a template ID is available for the layout of the records that wait on a link
abbrev pub HasRoom : Option Ongoing → Type 0
HasRoom None = Unit {0}
HasRoom (Some o) = has_room_for o.outgoing.batch o.outgoing.sender ≡ true

-- on each link, which has room for the records that wait, their messages are written; links have numbers from 1, and
-- nothing
-- is written to number 0
abbrev pub PutsAll : Put → Put → ℕ → List Ongoing → Type 0
PutsAll before after time links =
    (after 0 ≡ before 0)
    × ((link : ℕ) → HasRoom (slice_get links link)
    × Writes (before (suc link)) (after (suc link)) (to_put_on time (slice_get links link)))
