-- What the closing phase leaves, worked out by the definitions.
use Rattle.std.proofs.Common.{◌≡◌, inl, inr, ℕ, zero, suc, ◌<◌, true, List, [], ◌∷◌, Option, Some, None, refl, arith, slice_get}
use Rattle.fx_base.specs.Device.{Writes}
use Rattle.fx_tables.specs.declared.holder_name.HolderName.TheVariants.{Cache}
use Rattle.fx_tables.specs.Network.{Net}
use Rattle.fx_machine.proofs.ClaimExamples.{net, in_parallel, source}
use Rattle.fx_collect.specs.Totals.{nothing}
use Rattle.fx_link.specs.Links.{Put}
use Rattle.fx_link.specs.Ongoing.{at_rest}
use Rattle.fx_link.specs.Wires.{new_wire}
use Rattle.fx_session.specs.Streams.{read_all, read_in}
use Rattle.fx_ranks.specs.Ranks.{IsWhole, is_in}
use Rattle.fx_net.specs.Arriving.{after_carrying, queued_on}
use Rattle.fx_net.specs.Contents.{Contents}
use Rattle.fx_net.specs.Doings.{CarriesWhole, Empties, EmptiesNetwork, Ended}
use Rattle.fx_net.specs.Finishing.{HasRoom, PutsAll, after_finishing, to_put_on}
use Rattle.fx_net.specs.Leaving.{after_emptying}
use Rattle.fx_net.specs.Stores.{Stored}
use Rattle.fx_conform.specs.Closing.{NothingIsStored, OnlyNamedHold}
use Rattle.fx_conform.specs.Emptying.{count_in}
use Rattle.fx_conform.specs.OnLinks.{NoOctets}
use Rattle.fx_conform.proofs.ClosingEnd.{closing_empties}

-- a meter that sends to a collector
abbrev meter : Net
meter = net in_parallel

-- its cache is immediate, the first octet of a message is on the link, and there are other stores
abbrev sending : List (Option Stored) → Contents
sending others = record {
  stores = None ∷ others;
  links = record (at_rest new_wire) { queue = 0 ∷ [] } ∷ [];
  chosen = 1 ∷ [];
  totals = nothing (source 32);
  second = 0;
}

-- no octets are reported
abbrev opaque : Put
opaque link = None

-- ---- the phase

-- the cache has no record
abbrev emptied : Contents → Contents
emptied c = after_emptying meter 0 c

abbrev put_out : Contents → Contents
put_out c = after_finishing (emptied c)

-- the octet arrives
abbrev received : Contents → Contents
received c = after_carrying meter 0 (queued_on (slice_get (put_out c).links 0)) (put_out c)

abbrev closed : Contents → Contents
closed c = after_finishing (received c)

each_first : (others : List (Option Stored)) (link : ℕ) → HasRoom (slice_get (emptied (sending others)).links link)
    × Writes (opaque (suc link)) (opaque (suc link))
    (to_put_on (emptied (sending others)).second (slice_get (emptied (sending others)).links link))
each_first others zero = (refl, refl)
each_first others (suc link) = (tt, refl)

puts_first : (others : List (Option Stored))
    → PutsAll opaque opaque (emptied (sending others)).second (emptied (sending others)).links
puts_first others = (refl, each_first others)

each_last : (others : List (Option Stored)) (link : ℕ) → HasRoom (slice_get (received (sending others)).links link)
    × Writes (opaque (suc link)) (opaque (suc link))
    (to_put_on (received (sending others)).second (slice_get (received (sending others)).links link))
unfolding read_all read_in
each_last others zero = (refl, refl)
each_last others (suc link) = (tt, refl)

puts_last : (others : List (Option Stored))
    → PutsAll opaque opaque (received (sending others)).second (received (sending others)).links
puts_last others = (refl, each_last others)

empties : (others : List (Option Stored))
    → Ended (Empties meter 0) opaque (sending others) opaque (put_out (sending others))
empties others = record { done = emptied (sending others); made = refl; put = puts_first others; new_is = refl }

receives : (others : List (Option Stored))
    → Ended (CarriesWhole meter 0) opaque (put_out (sending others)) opaque (closed (sending others))
receives others = record { done = received (sending others); made = refl; put = puts_last others; new_is = refl }

closes : (others : List (Option Stored))
    → EmptiesNetwork meter (0 ∷ []) opaque (sending others) opaque (closed (sending others))
closes others =
    let then_put : Contents = put_out (sending others) in
    let then_closed : Contents = closed (sending others) in (
      opaque,
      then_put,
      (opaque, then_put, empties others, (refl, refl)),
      (
        opaque,
        then_closed,
        (opaque, then_closed, (opaque, then_closed, receives others, (refl, refl)), (refl, refl)),
        (refl, refl),
      ),
    )

-- ---- nothing is left

only_one : (process : ℕ) → process < 1 → is_in (0 ∷ []) process ≡ true
only_one zero low = refl
only_one (suc process) low = absurd (omega arith)

leads_there : (link place : ℕ) → slice_get (0 ∷ []) link ≡ Some place → place < 1
leads_there zero place at = let same : 0 ≡ place = cc in omega arith
leads_there (suc link) place at = absurd cc

comes : IsWhole meter (0 ∷ [])
comes = record { order_is = (refl, refl); short = omega arith; all = only_one; some = omega arith; leads = leads_there }

named : OnlyNamedHold meter (sending []).stores
named zero = inl (Cache 1 1, refl)
named (suc place) = inr refl

nothing_left : NothingIsStored (closed (sending [])).stores × NoOctets (closed (sending [])).links
nothing_left = closing_empties meter (0 ∷ []) opaque opaque (sending []) (closed (sending [])) comes refl (tt, tt) named
    ((refl, refl), tt) (closes [])

-- ---- what is left otherwise

-- what no name means isn't emptied
nameless_stays : (others : List (Option Stored)) (place : ℕ) → count_in (closed (sending others)).stores (suc place)
    ≡ count_in others place
unfolding read_all read_in
nameless_stays others place = refl

-- where the collector isn't finished there are octets on the link
octets_stay : NoOctets (put_out (sending [])).links → ⊥
octets_stay h = let none = h.0 in absurd cc
