-- Runs that go on, and steps made with the destinations in use, worked out by the definitions.
use Rattle.std.proofs.Common.{◌≡◌, ℕ, zero, suc, List, [], ◌∷◌, slice_get, Some, None, Ok, Err, refl, subst}
use Rattle.fx_tables.specs.declared.packet.Packet.{Packet}
use Rattle.fx_run_text.specs.declared.step.Step.{Step}
use Rattle.fx_run_text.specs.declared.step.Step.TheVariants.{Cross, Expire, Arrive}
use Rattle.fx_tables.specs.declared.holder_name.HolderName.TheVariants.{Cache}
use Rattle.fx_tables.specs.Network.{Net, Exporter}
use Rattle.fx_base.specs.Entries.{entry_numbered}
use Rattle.fx_machine.specs.States.{opening}
use Rattle.fx_machine.specs.Steps.{after, run}
use Rattle.fx_machine.proofs.ClaimExamples.{net, customers, one, two, having, first, second, by_choice}
use Rattle.fx_runs.specs.Destinations.{AllUsable, number_in_use, sent_by}
use Rattle.fx_runs.specs.Extending.{with_packet}
use Rattle.fx_runs.specs.PutOn.{put_by, put_on}
use Rattle.fx_runs.specs.Given.{records_given}
use Rattle.fx_runs.proofs.RunsGoOn.{runs_extend}
use Rattle.fx_runs.proofs.StepsThatCanBeMade.{expires_are_made}

-- one destination is a link, and the other has none
abbrev meter : Net
meter = net by_choice

-- ---- a run that goes on

abbrev next_packet : Packet
next_packet = record {
  fields = 167772162 ∷ 3221225985 ∷ 6 ∷ 49152 ∷ 443 ∷ 0 ∷ 4 ∷ 0 ∷ 0 ∷ [];
  octets = 60;
  class =
      1;
  path = 1;
}

abbrev metered_and_sent : List Step
metered_and_sent = Cross 1 1 (None ∷ []) ∷ Expire (Cache 1 1) 1 (Some 1 ∷ []) ∷ []

over_one : run meter customers one metered_and_sent (opening meter customers one) ≡ Ok (having [] (first ∷ []) [])
over_one = refl

-- so it is over two, and the crossing of the second is to come
over_two : run meter customers two metered_and_sent (opening meter customers two)
    ≡ Ok (record {
      coming = record { packet = 2; crossing = 1 } ∷ [];
      held = [] ∷ [];
      carried = (first ∷ [])
          ∷ [];
      totals = [];
      unassigned = 0;
    })
over_two = runs_extend meter customers one next_packet metered_and_sent (having [] (first ∷ []) []) over_one

over_two_works_out : run meter customers two metered_and_sent (opening meter customers two)
    ≡ Ok (with_packet customers one next_packet (having [] (first ∷ []) []))
over_two_works_out = refl

-- what is no run may be one over a packet that comes behind
too_early : run meter customers one (Cross 2 1 (None ∷ []) ∷ []) (opening meter customers one) ≡ Err 851
too_early = refl

in_time : run meter customers two (Cross 2 1 (None ∷ []) ∷ []) (opening meter customers two)
    ≡ Ok (record {
      coming = record { packet = 1; crossing = 1 } ∷ [];
      held = (second ∷ []) ∷ [];
      carried = []
          ∷ [];
      totals = [];
      unassigned = 0;
    })
in_time = refl

-- ---- what is put on a link

-- the first record arrives before the second is sent
abbrev sent_in_turn : List Step
sent_in_turn =
    Cross 1 1 (None ∷ []) ∷ Expire (Cache 1 1) 1 (Some 1 ∷ []) ∷ Arrive 1 1 [] ∷ Cross 2 1 (None ∷ [])
    ∷ Expire (Cache 1 1) 1 (Some 1 ∷ []) ∷ []

both_put : put_on meter customers two 0 sent_in_turn (opening meter customers two) ≡ first ∷ second ∷ []
both_put = refl

-- though only the second is still there
one_left : run meter customers two sent_in_turn (opening meter customers two)
    ≡ Ok (having [] (second ∷ []) (first ∷ []))
one_left = refl

-- at a destination without a link nothing is put
none_put : put_on meter customers one 0 (Cross 1 1 (None ∷ []) ∷ Expire (Cache 1 1) 1 (Some 2 ∷ []) ∷ [])
    (opening meter customers one) ≡ []
none_put = refl

-- a link that is one of these twice is given the record twice
given_twice : records_given (0 ∷ 1 ∷ 0 ∷ []) first 0 ≡ first ∷ first ∷ []
given_twice = refl

-- on a link that isn't there nothing is put, whatever it is given
not_there : put_by (Expire (Cache 1 1) 1 []) 1 (having (first ∷ []) [] []) (having [] [] []) ≡ []
not_there = refl

given_elsewhere : records_given (1 ∷ []) first 1 ≡ first ∷ []
given_elsewhere = refl

-- ---- destinations in use

by_first : (e : Exporter) (place : ℕ) → slice_get (by_choice ∷ []) place ≡ Some e
    → entry_numbered e.destinations (number_in_use (1 ∷ []) place) ≡ Some (Some 0)
by_first e zero h = let is : by_choice ≡ e = cc in
    subst (λ (x : Exporter). entry_numbered x.destinations 1 ≡ Some (Some 0)) is refl
by_first e (suc n) h = absurd cc

-- the first destination is there
usable : AllUsable meter (1 ∷ [])
usable place e h chooses none = let f = by_first e place h in absurd cc

-- so a record can leave, and is put on its link
leaves : after meter customers one (Expire (Cache 1 1) 1 (Some 1 ∷ [])) (having (first ∷ []) [] [])
    ≡ Ok (having [] (first ∷ []) [])
leaves =
    expires_are_made meter customers one (1 ∷ []) (having (first ∷ []) [] []) (Cache 1 1) 0 1 (first ∷ []) first usable
    refl refl refl

-- a third isn't, and no record can leave to it
not_usable : AllUsable meter (3 ∷ []) → ⊥
not_usable h = h 0 by_choice refl refl refl

stays : after meter customers one (Expire (Cache 1 1) 1 (sent_by meter (3 ∷ []) (0 ∷ []))) (having (first ∷ []) [] [])
    ≡ Err 852
stays = refl

-- nor where none is in use
none_usable : AllUsable meter [] → ⊥
none_usable h = h 0 by_choice refl refl refl

stays_too : after meter customers one (Expire (Cache 1 1) 1 (sent_by meter [] (0 ∷ []))) (having (first ∷ []) [] [])
    ≡ Err 852
stays_too = refl
