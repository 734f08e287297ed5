-- Runs that are extended by further packets and by further steps.
use Rattle.std.specs.Prelude.{◌≡◌, suc, List, [], ◌∷◌, ◌++◌, length, Ok}
use Rattle.fx_tables.specs.declared.packet.Packet.{Packet}
use Rattle.fx_run_text.specs.declared.step.Step.{Step}
use Rattle.fx_tables.specs.Network.{Net}
use Rattle.fx_tables.specs.Classes.{Class, path}
use Rattle.fx_machine.specs.States.{State, Coming, crossings_from, opening}
use Rattle.fx_machine.specs.Steps.{run}

-- more crossings, after those that are to come
abbrev pub coming_too : List Coming → State → State
coming_too more s = record s { coming = s.coming ++ more }

-- the crossings of a packet that follows these packets
abbrev pub crossings_of : List Class → List Packet → Packet → List Coming
crossings_of classes packets p = crossings_from (suc (length packets)) 1 (path classes p)

abbrev pub with_packet : List Class → List Packet → Packet → State → State
with_packet classes packets p s = coming_too (crossings_of classes packets p) s

-- ---- the laws

-- A run over some packets is also a run over one more packet, whose crossings are still to come.
abbrev pub RunsExtend : Type 0
RunsExtend =
    (net : Net) (classes : List Class) (packets : List Packet) (p : Packet)
    (steps : List Step) (s : State)
    → run net classes packets steps (opening net classes packets) ≡ Ok s
    → run net classes (packets ++ p ∷ []) steps (opening net classes (packets ++ p ∷ []))
    ≡ Ok (with_packet classes packets p s)

-- From any state, steps over more packets lead to the same state; crossings after those to
-- come stay after them.
abbrev pub RunsExtendFrom : Type 0
RunsExtendFrom =
    (net : Net) (classes : List Class) (packets : List Packet) (extra : List Packet)
    (more : List Coming) (steps : List Step) (s : State) (t : State)
    → run net classes packets steps s ≡ Ok t
    → run net classes (packets ++ extra) steps (coming_too more s) ≡ Ok (coming_too more t)

-- Steps that lead to a state and steps that lead on from it together form one run.
abbrev pub RunsJoin : Type 0
RunsJoin =
    (net : Net) (classes : List Class) (packets : List Packet) (first : List Step)
    (behind : List Step) (s : State) (mid : State) (t : State)
    → run net classes packets first s ≡ Ok mid → run net classes packets behind mid ≡ Ok t
    → run net classes packets (first ++ behind) s ≡ Ok t
