-- What links carry and what can be sent, worked out by the definitions.
use Rattle.std.proofs.Common.{◌≡◌, ℕ, ◌^◌, ◌<◌, List, [], ◌∷◌, Some, None, option_map, refl, ap, ◌∙◌, arith}
use Rattle.std.specs.Prelude.{slice_get}
use Rattle.fx_tables.specs.declared.record.Record.{Record}
use Rattle.fx_machine.proofs.ClaimExamples.{source, first}
use Rattle.fx_session.specs.Streams.{SessionState}
use Rattle.fx_session.proofs.StreamSteps.{after_piece-on, all_none}
use Rattle.fx_link.specs.Sending.{IsSent}
use Rattle.fx_link.specs.Wires.{new_wire}
use Rattle.fx_link.specs.Ongoing.{Ongoing, at_rest, to_put, after_finish}
use Rattle.fx_net.specs.Exporting.{put_each}
use Rattle.fx_runs.specs.Given.{records_given}
use Rattle.fx_conform.specs.OnLinks.{IsStill, IsCarried, AreStill, pending_from, with_octets_carried, arrivals, NoOctets}
use Rattle.fx_conform.specs.Sendable.{IsKey, AreCounts}
use Rattle.fx_conform.proofs.LinkPlaces.{putting}
use Rattle.fx_conform.proofs.OneLink.{new_is_still, still_is_carried, puts_are_carried, finishing_stills}
use Rattle.fx_conform.proofs.AllLinks.{links_begin}

-- ---- records that are put on links

-- a link that is named twice gets the record twice
given_twice : records_given (1 ∷ 0 ∷ 1 ∷ []) first 1 ≡ first ∷ first ∷ []
given_twice = refl

given_none : records_given (1 ∷ 0 ∷ 1 ∷ []) first 2 ≡ []
given_none = refl

-- the first of two links has it once, and it waits there
put_once : option_map (λ (o : Ongoing). o.outgoing.batch)
    (slice_get (put_each 0 first (0 ∷ []) (at_rest new_wire ∷ at_rest new_wire ∷ [])) 0) ≡ Some (first ∷ [])
put_once = refl

put_not_there : slice_get (put_each 0 first (0 ∷ []) (at_rest new_wire ∷ at_rest new_wire ∷ [])) 1
    ≡ Some (at_rest new_wire)
put_not_there = refl

-- its key and its counts are those of a record that can be sent
first_is_sent : IsSent first
first_is_sent = (
  record { stands = refl; ascends = (omega arith, tt) },
  record { layout_is = refl; bits = (omega arith, tt); packets = omega arith; octets = omega arith },
)

-- so that the link carries it
carries_first : IsCarried 0 [] [] (first ∷ []) (putting 0 (first ∷ []) (at_rest new_wire)) (first ∷ [])
carries_first = puts_are_carried 0 [] [] (at_rest new_wire) [] [] (first ∷ [])
    (still_is_carried 0 [] [] (at_rest new_wire) [] new_is_still) (first_is_sent, tt)

-- once it is put out it is in the link's octets, and all octets that were put out are read as it
first_is_put_out : IsStill (to_put 0 (putting 0 (first ∷ []) (at_rest new_wire))) (first ∷ [])
    (after_finish 0 (putting 0 (first ∷ []) (at_rest new_wire))) (first ∷ [])
first_is_put_out = finishing_stills 0 [] (first ∷ []) (putting 0 (first ∷ []) (at_rest new_wire)) (first ∷ [])
    (omega arith) carries_first refl

-- ---- records that have arrived

pending_there : pending_from 1 (first ∷ []) 1 ≡ first ∷ []
pending_there = refl

pending_elsewhere : pending_from 1 (first ∷ []) 0 ≡ []
pending_elsewhere = refl

-- a receiver that has read a record which isn't handled yet
abbrev holding : SessionState
holding = record {
  known = record { domains = []; waiting = first ∷ []; gaps = 0; skipped = 0 };
  place = 0;
  rest =
      [];
  fault = None;
}

-- with two octets more on the link
abbrev busy : Ongoing
busy = record { outgoing = (at_rest new_wire).outgoing; queue = 0 ∷ 10 ∷ []; receiver = holding }

arrived_there : arrivals 1 0 (at_rest new_wire ∷ busy ∷ []) ≡ first ∷ []
arrived_there = ap (λ (x : SessionState). x.known.waiting)
    (after_piece-on holding [] refl ∙ all_none holding.known holding.place)

-- no link has this number
arrived_nowhere : arrivals 2 0 (at_rest new_wire ∷ busy ∷ []) ≡ []
arrived_nowhere = refl

-- one octet is carried, and one stays
one_stays : option_map (λ (o : Ongoing). o.queue) (slice_get (with_octets_carried 1 1 (at_rest new_wire ∷ busy ∷ [])) 1)
    ≡ Some (10 ∷ [])
one_stays = refl

-- and no record waits there any more
none_waits : option_map (λ (o : Ongoing). o.receiver.known.waiting)
    (slice_get (with_octets_carried 1 1 (at_rest new_wire ∷ busy ∷ [])) 1) ≡ Some []
none_waits = refl

-- ---- nothing on the way

two_new : AreStill (λ _. []) (λ _. []) (at_rest new_wire ∷ at_rest new_wire ∷ []) ([] ∷ [] ∷ [])
two_new = links_begin (0 ∷ 0 ∷ [])

no_octets : NoOctets (at_rest new_wire ∷ at_rest new_wire ∷ [])
no_octets = (refl, (refl, tt))

some_octets : NoOctets (busy ∷ []) → ⊥
some_octets h = let e : ◌≡◌ {A = List ℕ} (0 ∷ 10 ∷ []) [] = h.0 in absurd cc

-- a link whose receiver has a record left isn't between two times
not_still : (history : List ℕ) (all rs : List Record) → IsStill history all busy rs → ⊥
not_still history all rs s = let e : ◌≡◌ {A = List Record} (first ∷ []) [] =
    ap (λ (o : Ongoing). o.receiver.known.waiting) s.ongoing_is ∙ s.kept.in_step.handled in absurd cc

-- ---- what can be sent

-- an address with its 32 bits
first_is_key : IsKey first.key
first_is_key = record { layout = record { stands = refl; ascends = (omega arith, tt) }; bits = (omega arith, tt) }

-- 256 has more than 8 bits
not_key : IsKey (record { layout = source 8; values = 256 ∷ [] }) → ⊥
not_key h = let few : 256 < 2 ^ 8 = h.bits.0 in absurd (omega arith)

not_counts : AreCounts (record { packets = 2 ^ 64; octets = 0 }) → ⊥
not_counts h = let few : 2 ^ 64 < 2 ^ 64 = h.packets in absurd (omega arith)
